-- What is kept of each block of members, as a table filled from the front
use Prim.Native.Nat.{◌*◌}
use Rattle.stringcheck.specs.Tables.{Filling}
use Rattle.valuecheck.specs.Blocks.{top_of}
use Rattle.valuecheck.proofs.block_tops.Given as goal

abbrev pub invariant-loop-b : goal.invariant-loop-b
invariant-loop-b l = Filling 0 (λ b. top_of l.s (512 * b)) 1024 l.b-end l.tops l.b
