use Rattle.std.proofs.Common.{rules}
use Rattle.calls.proofs.Unchecked.{passes, ask_unchecked}
use Rattle.evaluator.proofs.Walks.{passed}
use Rattle.calls.proofs.ask.Goals as goal

pub ask-requires : goal.ask-requires
ask-requires c = search (passes, c.in_ok-check.was, rules)

pub returns-in_err-check : goal.returns-in_err-check
returns-in_err-check c = rw (passed _ c.from_residual.ensures) (search (ask_unchecked, c.in_err-check.was, rules))
