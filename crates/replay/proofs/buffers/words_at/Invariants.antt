use Rattle.std.proofs.Common.{◌≡◌, length}
use Rattle.replay.proofs.buffers.words_at.Given as goal

abbrev pub invariant-loop-k : goal.invariant-loop-k
invariant-loop-k l = length l.words ≡ 64
