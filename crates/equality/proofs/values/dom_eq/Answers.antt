use Rattle.std.proofs.Common.{rules}
use Rattle.laws.specs.Checked.{checked-bodies}
use Rattle.equality.proofs.Alike.{look-all}
use Rattle.equality.proofs.values.dom_eq.Goals as goal

pub value_word-requires : goal.value_word-requires
value_word-requires c = search (checked-bodies, rules)

pub returns : goal.returns
returns c = search (look-all, rules)
