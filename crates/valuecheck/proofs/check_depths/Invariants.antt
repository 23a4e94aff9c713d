-- No value is deeper than 32: one pass upward, with what is kept of blocks
use Rattle.meaning.specs.Check.{depth, depth_rule}
use Rattle.laws.specs.Tests.{Passing}
use Rattle.stringcheck.specs.Tables.{Filling}
use Rattle.valuecheck.specs.Blocks.{Depths}
use Rattle.valuecheck.proofs.check_depths.Given as goal

abbrev pub invariant-loop-v : goal.invariant-loop-v
invariant-loop-v l = Passing (depth_rule l.s) l.v-end l.v × Filling 0 (depth l.s) 16384 l.v-end l.depths l.v × Depths l.s l.blocks
