use Rattle.std.proofs.Common.{rules}
use Rattle.jsonread.proofs.Places.{passed}
use Rattle.jsonread.proofs.Counts.{parts_bad, parts-there, parts-fit, parts_unfit}
use Rattle.jsonread.proofs.integers.parts_at.Goals as goal

pub returns-in_err-e : goal.returns-in_err-e
returns-in_err-e c = rw (passed c.from_residual.ensures.1) (search (parts_bad, c.in_err-e.was, rules))

pub returns-then-n-e : goal.returns-then-n-e
returns-then-n-e c = rw c.new.ensures (search (parts-there, c.in_ok-e.was, rules))

pub returns-then-not-is_fit : goal.returns-then-not-is_fit
returns-then-not-is_fit c = rw c.new-then-not-is_fit.ensures (search (parts_unfit, c.in_ok-e.was, rules))

pub returns : goal.returns
returns c = search (parts-fit, c.in_ok-e.was, rules)
