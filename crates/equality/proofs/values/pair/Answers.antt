use Rattle.std.proofs.Common.{rules}
use Rattle.equality.proofs.Alike.{pair_none, pair_some}
use Rattle.equality.proofs.values.pair.Goals as goal

pub returns-then-member_word : goal.returns-then-member_word
returns-then-member_word c = search (pair_none, rules)

pub returns : goal.returns
returns c = search (pair_some, rules)
