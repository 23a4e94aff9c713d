-- Strings lie end to end and fill text
use Prim.Native.Nat.{◌<◌, ◌≤◌, ℕ}
use mathlib.Core.Bool.{true}
use mathlib.Core.List.{List}
use mathlib.Core.Path.{◌≡◌}
use Rattle.meaning.specs.Case.{size}
use Rattle.meaning.specs.Check.{end_before, place_rule}
use Rattle.meaning.specs.Tests.{all_below}
use Rattle.stringcheck.proofs.end_to_end.Given as goal

-- the first k strings lie end to end, and the next has to start at `at`
pub record Placed (s : List ℕ) (n room at k : ℕ) : Type 0 where
  pub low : k ≤ n
  pub text : room ≡ size s 6
  pub near : room < 4294967296
  pub inside : at ≤ room
  pub last : at ≡ end_before s k
  pub passed : all_below k (place_rule s) ≡ true

abbrev pub invariant-loop-k : goal.invariant-loop-k
invariant-loop-k l = Placed l.s l.k-end l.room l.at l.k
