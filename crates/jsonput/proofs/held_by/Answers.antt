use Rattle.std.proofs.Common.{rules}
use Rattle.jsonput.specs.Laws.Values.{held-is}
use Rattle.laws.specs.Checked.{checked-bodies}
use Rattle.jsonput.proofs.held_by.Goals as goal

pub member_word-requires : goal.member_word-requires
member_word-requires c = search (checked-bodies, rules)

pub returns : goal.returns
returns c = search (held-is, rules)
