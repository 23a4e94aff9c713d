-- Byte by byte: which of two texts comes first
use Rattle.std.proofs.Common.{◌≡◌, length, drop}
use Rattle.meaning.specs.Text.{before}
use Rattle.stringcheck.proofs.bytes_before.Given as goal

abbrev pub invariant-loop-p : goal.invariant-loop-p
invariant-loop-p l = before (drop (length l.yielded) l.x) (drop (length l.yielded) l.y) ≡ before l.x l.y
