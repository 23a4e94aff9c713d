use Rattle.std.proofs.Common.{rules}
use Rattle.jsonpairs.proofs.Turns.{turn-cut, turn-comma, turn-other, turn-no-first, turn-no-second, turn-both}
use Rattle.jsonpairs.proofs.turn_at.Goals as goal

pub returns-then-line-at : goal.returns-then-line-at
returns-then-line-at c = search (turn-cut, rules)

pub returns-then-line-at-eq44 : goal.returns-then-line-at-eq44
returns-then-line-at-eq44 c = search (turn-comma, rules)

pub returns-then-line-at-ne125 : goal.returns-then-line-at-ne125
returns-then-line-at-ne125 c = search (turn-other, rules)

pub returns-then-first-eq0 : goal.returns-then-first-eq0
returns-then-first-eq0 c = search (turn-no-first, rules)

pub returns-then-second-eq0 : goal.returns-then-second-eq0
returns-then-second-eq0 c = search (turn-no-second, rules)

pub returns : goal.returns
returns c = search (turn-both, rules)
