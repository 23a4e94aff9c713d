use Rattle.std.proofs.Common.{rules}
use Rattle.carried.proofs.Asked.{anchor-no, anchor-stop, anchor-left, ready-next, still-low}
use Rattle.evaluator.proofs.Walks.{passed}
use Rattle.carried.proofs.turns.anchor_turn.Goals as goal

pub ask-requires-clause-i_bound : goal.ask-requires-clause-i_bound
ask-requires-clause-i_bound c = search (still-low, rules)

pub left_after-requires-clause-ready : goal.left_after-requires-clause-ready
left_after-requires-clause-ready c = search (ready-next, rules)

pub returns : goal.returns
returns c = search (anchor-left, c.in_ok-b.was, rules)

pub returns-then-not-b : goal.returns-then-not-b
returns-then-not-b c = search (anchor-no, c.in_ok-b.was, rules)

pub returns-in_err-b : goal.returns-in_err-b
returns-in_err-b c = rw (passed _ c.from_residual.ensures) (search (anchor-stop, c.in_err-b.was, rules))
