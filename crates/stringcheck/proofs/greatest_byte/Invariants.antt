-- The greatest byte of those read so far
use Rattle.std.proofs.Common.{length, get_or}
use Rattle.laws.specs.Tests.{Growing}
use Rattle.stringcheck.proofs.greatest_byte.Given as goal

abbrev pub invariant-loop-b : goal.invariant-loop-b
invariant-loop-b l = Growing (λ i. get_or l.t i 0) (length l.t) l.b-index l.top
