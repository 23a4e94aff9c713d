use Rattle.std.proofs.Common.{rules}
use Rattle.jsoncount.proofs.Triples.{fields-good, fields-counted}
use Rattle.jsoncount.proofs.entities.count_fields.Goals as goal

pub count_members-requires : goal.count_members-requires
count_members-requires c = search (fields-good, rules)

pub returns : goal.returns
returns c = search (fields-counted, rules)
