-- The strings in which a byte does not occur, as a table filled from the front
use mathlib.Core.Bool.{false}
use Rattle.meaning.specs.Case.{text}
use Rattle.meaning.specs.Text.{free}
use Rattle.stringcheck.specs.Tables.{Filling}
use Rattle.stringcheck.proofs.free_strings.Given as goal

abbrev pub invariant-loop-k : goal.invariant-loop-k
invariant-loop-k l = Filling false (λ n. free l.b (text l.s n)) 16384 l.k-end l.out l.k
