-- Which kinds of nodes are answered
use mathlib.Core.Path.{◌≡◌, refl, ◌∙◌}
use mathlib.Core.Bool.{Bool, true, false}
use mathlib.Core.List.{List}
use Prim.Native.Nat.{ℕ}
use Rattle.meaning.specs.Tests.{◌or◌, within}
use Rattle.meaning.specs.Case.{node_at, node_word}
use Rattle.meaning.specs.Calls.{is_condition, is_aggregate, answerable}
use Rattle.laws.specs.Sorts.{condition-kinds, aggregate-kinds}

module _ (s : List ℕ) (n : ℕ) {r : Bool} {kind : ℕ} (is : kind ≡ node_word s n 0) (e : r ≡ within 1 10 kind) where
  pub condition-last : r ≡ true → r ≡ answerable (node_at s n)
  unfolding answerable is_condition ◌or◌
  condition-last is_one = is_one ∙ rw (← condition-kinds s n, ← is, ← e, is_one) refl

  pub aggregate-last : {r' : Bool} → r ≡ false → r' ≡ within 30 31 kind → r' ≡ answerable (node_at s n)
  unfolding answerable is_condition is_aggregate ◌or◌
  aggregate-last is_none e' = rw (← condition-kinds s n, ← aggregate-kinds s n, ← is, ← e, is_none) e'
