use Rattle.std.proofs.Common.{rules}
use Rattle.jsonread.proofs.Places.{passed}
use Rattle.jsonpairs.proofs.Turns.{two-cut, two-empty, two-start, two-done, two_bad, two-less, two-more, pair-within, pair-first, pair-second, pair-above}
use Rattle.jsonpairs.proofs.two_at.Goals as goal

pub returns-then-line-begin : goal.returns-then-line-begin
returns-then-line-begin c = rw c.new.ensures (search (two-cut, rules))

pub returns-then-line-begin-eq125 : goal.returns-then-line-begin-eq125
returns-then-line-begin-eq125 c = rw c.new-then-line-begin-eq125.ensures (search (two-empty, rules))

pub loop-e-init : goal.loop-e-init
loop-e-init c = search (two-start, rules)

pub next_at-requires : goal.next_at-requires
next_at-requires c = search (pair-within, pair-first, pair-second, pair-above, rules)

pub returns-in-Done : goal.returns-in-Done
returns-in-Done c = search (two-done, c.in_ok-e.was, rules)

pub returns-in_err-e : goal.returns-in_err-e
returns-in_err-e c = rw (passed c.from_residual.ensures.1) (search (two_bad, c.in_err-e.was, rules))

pub loop-e-smaller : goal.loop-e-smaller
loop-e-smaller c = search (two-less, c.in_ok-e.was, rules)

pub loop-e-preserved : goal.loop-e-preserved
loop-e-preserved c = search (two-more, c.in_ok-e.was, rules)
