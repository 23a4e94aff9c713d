use Rattle.std.proofs.Common.{rules}
use Rattle.jsonkeys.proofs.Turns.{turn-cut, turn-over, turn-wrong, turn_on}
use Rattle.jsonkeys.proofs.turn_at.Goals as goal

pub returns-then-line-k : goal.returns-then-line-k
returns-then-line-k c = search (turn-cut, rules)

pub returns-then-line-k-2 : goal.returns-then-line-k-2
returns-then-line-k-2 c = search (turn-over, rules)

pub returns-then-line-k-ne44 : goal.returns-then-line-k-ne44
returns-then-line-k-ne44 c = search (turn-wrong, rules)

pub returns : goal.returns
returns c = search (turn_on, rules)
