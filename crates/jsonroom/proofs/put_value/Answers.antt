use Rattle.std.proofs.Common.{rules}
use Rattle.jsonroom.proofs.Records.{value-put}
use Rattle.jsonroom.proofs.put_value.Goals as goal

pub returns : goal.returns
returns c = search (value-put, rules)
