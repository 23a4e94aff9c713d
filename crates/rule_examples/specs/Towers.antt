-- Depth 32 and height 64, and one more of each
use Rattle.std.specs.Prelude.{◌≡◌, refl, List, [], ◌∷◌, ℕ, zero, suc, ◌+◌}
use Rattle.meaning.specs.Written.{table, file}
use Rattle.rule_examples.specs.Asked.{all, checked}

-- Null in so many Arrays, or Objects: value k + 1 holds value k as member k
around : ℕ → ℕ → ℕ → List (List ℕ)
around kind k zero = []
around kind k (suc n) = (kind ∷ k ∷ 1 ∷ []) ∷ around kind (k + 1) n

held : ℕ → ℕ → ℕ → List (List ℕ)
held name k zero = []
held name k (suc n) = (name ∷ k ∷ []) ∷ held name (k + 1) n

value_tower : ℕ → ℕ → ℕ → List ℕ
unfolding around held
value_tower kind name n =
    file 0 ((0 ∷ 1 ∷ []) ∷ table 4 ((0 ∷ []) ∷ around kind 0 n) ∷ table 2 (held name 0 n) ∷ [] ∷ [] ∷ [] ∷ []) (97 ∷ [])

values-held :
    (checked (value_tower 6 4294967295 31) ∷ checked (value_tower 6 4294967295 32) ∷ checked (value_tower 7 0 31) ∷ checked (value_tower 7 0 32) ∷ [])
    ≡ (0 ∷ 4 ∷ 0 ∷ 4 ∷ [])
unfolding all value_tower
values-held = refl

-- Nots over a condition: node k + 1 over node k
nots : ℕ → ℕ → List (List ℕ)
nots k zero = []
nots k (suc n) = (3 ∷ k ∷ []) ∷ nots (k + 1) n

node_tower : ℕ → List ℕ
unfolding nots
node_tower n = file 1 ([] ∷ [] ∷ [] ∷ [] ∷ table 8 ((10 ∷ []) ∷ nots 0 n) ∷ [] ∷ []) []

nodes-over : (checked (node_tower 63) ∷ checked (node_tower 64) ∷ []) ≡ (0 ∷ 6 ∷ [])
unfolding all node_tower
nodes-over = refl
