-- The values with no Null and no Object in them, as a table filled from the front
use mathlib.Core.Bool.{false}
use Rattle.meaning.specs.Check.{literal}
use Rattle.stringcheck.specs.Tables.{Filling}
use Rattle.valuecheck.specs.Blocks.{Marked}
use Rattle.valuecheck.proofs.literal_values.Given as goal

abbrev pub invariant-loop-v : goal.invariant-loop-v
invariant-loop-v l = Filling false (literal l.s) 16384 l.v-end l.marks l.v × Marked l.s l.marks l.v l.blocks
