use Rattle.std.proofs.Common.{◌≡◌, length}
use Rattle.replay.proofs.buffers.fill_cells.Given as goal

abbrev pub invariant-loop-k : goal.invariant-loop-k
invariant-loop-k l = length l.cells ≡ length l.initial.cells
