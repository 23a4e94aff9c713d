use Rattle.std.proofs.Common.{rules}
use Rattle.carried.proofs.Showing.{at_low, answer-none, answer-yes, answer-refused, answer-short, answer-nothing, answer-again, answer-failed}
use Rattle.carried.proofs.Asked.{whole, ready-next}
use Rattle.evaluator.proofs.Walks.{passed}
use Rattle.carried.proofs.answers.answer.Goals as goal

pub node_at-requires : goal.node_at-requires
node_at-requires c = search (whole, rules)

pub returns-in_default : goal.returns-in_default
returns-in_default c = search (answer-none, rules)

pub how_many-requires : goal.how_many-requires
how_many-requires c = (search (at_low, c.in_ok-found.was, rules), search rules)

pub returns-in-Some-end : goal.returns-in-Some-end
returns-in-Some-end c = search (answer-yes, c.in_ok-found.was, rules)

pub returns-in_err-found : goal.returns-in_err-found
returns-in_err-found c = rw (passed _ c.from_residual.ensures) (search (answer-refused, c.in_err-found.was, rules))

pub returns-then-list-found : goal.returns-then-list-found
returns-then-list-found c = rw c.short.ensures (search (answer-short, c.in_ok-found.was, rules))

pub returns-then-found-eq0 : goal.returns-then-found-eq0
returns-then-found-eq0 c = search (answer-nothing, c.in_ok-found.was, rules)

pub scan_back-requires-clause-ready : goal.scan_back-requires-clause-ready
scan_back-requires-clause-ready c = search (ready-next, rules)

pub returns-in_err-scan_back : goal.returns-in_err-scan_back
returns-in_err-scan_back c = rw (passed _ c.from_residual-in_err-scan_back.ensures) (search (answer-again, c.in_ok-found.was, c.in_err-scan_back.was, rules))

pub returns : goal.returns
returns c = search (answer-failed, c.in_ok-found.was, rules)
