use Rattle.std.proofs.Common.{◌≡◌, length}
use Rattle.replay.proofs.buffers.cells_at.Given as goal

abbrev pub invariant-loop-k : goal.invariant-loop-k
invariant-loop-k l = length l.cells ≡ 64
