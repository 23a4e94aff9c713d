use Rattle.std.proofs.Common.{rules}
use Rattle.carried.proofs.Asked.{body-yes, body-no, body-stop}
use Rattle.evaluator.proofs.Walks.{passed}
use Rattle.carried.proofs.turns.body_turn.Goals as goal

pub returns-then-b : goal.returns-then-b
returns-then-b c = search (body-yes, c.in_ok-b.was, rules)

pub returns-else-b : goal.returns-else-b
returns-else-b c = search (body-no, c.in_ok-b.was, rules)

pub returns-in_err-b : goal.returns-in_err-b
returns-in_err-b c = rw (passed _ c.from_residual.ensures) (search (body-stop, c.in_err-b.was, rules))
