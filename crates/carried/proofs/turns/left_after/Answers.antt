use Rattle.std.proofs.Common.{rules}
use Rattle.carried.proofs.Asked.{left-start, left-next, left-fails, left-stops, left-all}
use Rattle.evaluator.proofs.Walks.{passed}
use Rattle.carried.proofs.turns.left_after.Goals as goal

pub loop-k-init : goal.loop-k-init
loop-k-init c = search (left-start, rules)

pub loop-k-preserved : goal.loop-k-preserved
loop-k-preserved c = search (left-next, c.in_ok-b.was, rules)

pub returns-then-not-b : goal.returns-then-not-b
returns-then-not-b c = search (left-fails, c.in_ok-b.was, rules)

pub returns-in_err-b : goal.returns-in_err-b
returns-in_err-b c = rw (passed _ c.from_residual.ensures) (search (left-stops, c.in_err-b.was, rules))

pub returns : goal.returns
returns c = search (left-all, rules)
