use Rattle.std.proofs.Common.{rules}
use Rattle.carried.proofs.Downs.{earlier-low, precedes_none, precedes_yes, precedes_no, precedes_stop}
use Rattle.carried.proofs.Asked.{whole}
use Rattle.evaluator.proofs.Walks.{passed}
use Rattle.carried.proofs.scans.one_before.Goals as goal

pub previous_point-requires : goal.previous_point-requires
previous_point-requires c = search (whole, rules)

pub ask-requires-clause-i_bound : goal.ask-requires-clause-i_bound
ask-requires-clause-i_bound c = search (earlier-low, rules)

pub returns-then-b : goal.returns-then-b
returns-then-b c = search (precedes_yes, c.in_ok-b.was, rules)

pub returns-else-b : goal.returns-else-b
returns-else-b c = search (precedes_no, c.in_ok-b.was, rules)

pub returns-in_err-b : goal.returns-in_err-b
returns-in_err-b c = rw (passed _ c.from_residual.ensures) (search (precedes_stop, c.in_err-b.was, rules))

pub returns-in_default : goal.returns-in_default
returns-in_default c = search (precedes_none, rules)
