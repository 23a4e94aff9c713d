-- A run's places, one after another, and a value by its words
use Rattle.std.specs.Prelude.{◌≡◌, refl, List, [], ◌∷◌, ℕ, suc, ◌+◌, ◌-◌, ◌<◌, ◌≤◌}
use Rattle.std.proofs.Common.{arith}
use Rattle.meaning.specs.Case.{places, value_word, value_at, value_from, part_at}

pub open_place : (at width n i next : ℕ) → i < n → next ≡ at + width → places at width (n - i) ≡ at ∷ places next width (n - (i + 1))
unfolding places
open_place at width n i next h e = let q : n - i ≡ suc (n - (i + 1)) = omega arith in rw (q, e) refl

pub shut-place : (at width n i : ℕ) → n ≤ i → places at width (n - i) ≡ []
unfolding places
shut-place at width n i h = let q : n - i ≡ 0 = omega arith in rw q refl

-- a value by its words
pub value_as : (s : List ℕ) (v n k a b : ℕ) → k ≡ value_word s v 0 → a ≡ value_word s v 1 → b ≡ value_word s v 2 → k ≡ n → value_at s v ≡ value_from (part_at s) n a b
unfolding value_at
value_as s v n k a b ek ea eb e = rw (← ek, ← ea, ← eb, e) refl
