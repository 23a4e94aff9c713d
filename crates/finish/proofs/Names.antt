-- Which words name strings, arm by arm
use mathlib.Core.Path.{◌≡◌, refl, sym, ◌∙◌, ap}
use mathlib.Core.Bool.{Bool, true, false, not}
use mathlib.Core.List.{List}
use Prim.Native.Nat.{ℕ, zero, suc, ◌/◌, ◌%◌, ◌<◌, ◌≤◌}
use lib.Dec.{leb, eqb}
use lib.ListN.{length, get_or, get_or-eq_default}
use Rattle.std.proofs.Common.{eqb-true}
use borrow.Author.Tests.{le-leb, lt-leb}
use Rattle.laws.specs.Tests.{stop, after}
use Rattle.meaning.specs.Tests.{◌and◌, ◌or◌, pick}
use Rattle.meaning.specs.Case.{value_word, node_word}
use Rattle.encode.specs.Unsorted.{value_names, member_names, point_names, node_names, marked, names}

-- ---- a test and another one

pub within-both : (n low high : ℕ) → low ≤ n → leb n high ≡ (leb low n and leb n high)
within-both n low high h = sym (after (le-leb low n h))

pub within-low : (n low high : ℕ) → n < low → leb low n ≡ (leb low n and leb n high)
within-low n low high h = lt-leb low n h ∙ sym (stop _ (lt-leb low n h))

-- ---- words of values and of nodes

or-false : (b : Bool) → b ≡ (b or false)
unfolding ◌or◌
or-false true = refl
or-false false = refl

module _ {m kind : ℕ} (s : List ℕ) (i : ℕ) (e : kind ≡ value_word s m 0) (f : m ≡ i / 4) where
  is-kind : value_word s (i / 4) 0 ≡ kind
  is-kind = ap (λ (k : ℕ). value_word s k 0) (sym f) ∙ sym e

  pub value-first : {w : ℕ} {r : Bool} → i % 4 ≡ 1 → w ≡ kind → r ≡ (leb 3 w and leb w 5) → r ≡ value_names s i
  unfolding value_names ◌and◌
  value-first {w} {r} z g t = t ∙ rw (z, is-kind, g) (or-false (leb 3 kind and leb kind 5))

  pub value-second : i % 4 ≡ 2 → eqb kind 5 ≡ value_names s i
  unfolding value_names ◌and◌ ◌or◌
  value-second z = rw (z, is-kind) refl

no-eq : (j k : ℕ) → (j ≡ k → ⊥) → eqb j k ≡ false
no-eq j k h = go (eqb j k) refl
  where
    go : (b : Bool) → eqb j k ≡ b → b ≡ false
    go true e = absurd (h (eqb-true j k e))
    go false e = refl

pub value-other : (s : List ℕ) (i : ℕ) → (i % 4 ≡ 1 → ⊥) → (i % 4 ≡ 2 → ⊥) → false ≡ value_names s i
unfolding value_names ◌and◌ ◌or◌
value-other s i p q = rw (no-eq (i % 4) 1 p, no-eq (i % 4) 2 q) refl

module _ {m kind : ℕ} {u : Bool} (s : List ℕ) (i : ℕ) (d : u ≡ (leb 3 (i % 8) and leb (i % 8) 4)) (e : kind ≡ node_word s m 0) (f : m ≡ i / 8) where
  node-named : (u and eqb kind 7) ≡ node_names s i
  unfolding node_names
  node-named = cc

  pub node-within : u ≡ true → eqb kind 7 ≡ node_names s i
  node-within h = sym (after h) ∙ node-named

  pub node-without : u ≡ false → u ≡ node_names s i
  node-without h = h ∙ sym (stop _ h) ∙ node-named

pub marked-not : (marks : List ℕ) (i : ℕ) → length marks ≤ i → false ≡ marked marks i
unfolding marked
marked-not marks i h = rw (get_or-eq_default marks 0 h) refl

pub marked-as : (marks : List ℕ) (i : ℕ) → not (eqb (get_or marks i 0) 0) ≡ marked marks i
unfolding marked
marked-as marks i = refl

module _ (s marks : List ℕ) (k i : ℕ) where
  pub named_value : {r : Bool} → r ≡ value_names s i → k ≡ 1 → r ≡ names s marks k i
  unfolding names pick
  named_value e q = rw q e

  pub named-member : k ≡ 2 → eqb (i % 2) 0 ≡ names s marks k i
  unfolding names pick member_names
  named-member q = rw q refl

  pub named-point : {r : Bool} → r ≡ (leb 4 (i % 12) and leb (i % 12) 5) → k ≡ 3 → r ≡ names s marks k i
  unfolding names pick point_names
  named-point e q = rw q e

  pub named-node : {r : Bool} → r ≡ node_names s i → k ≡ 4 → r ≡ names s marks k i
  unfolding names pick
  named-node e q = rw q e

  pub named-list : {r : Bool} → r ≡ marked marks i → k ≡ 5 → r ≡ names s marks k i
  unfolding names pick
  named-list e q = rw q e

pub named-not : (s marks : List ℕ) (i k : ℕ) → (k ≡ 1 → ⊥) → (k ≡ 2 → ⊥) → (k ≡ 3 → ⊥) → (k ≡ 4 → ⊥) → (k ≡ 5 → ⊥) → false ≡ names s marks k i
unfolding names pick
named-not s marks i zero a b d e f = refl
named-not s marks i (suc zero) a b d e f = absurd (a refl)
named-not s marks i (suc (suc zero)) a b d e f = absurd (b refl)
named-not s marks i (suc (suc (suc zero))) a b d e f = absurd (d refl)
named-not s marks i (suc (suc (suc (suc zero)))) a b d e f = absurd (e refl)
named-not s marks i (suc (suc (suc (suc (suc zero))))) a b d e f = absurd (f refl)
named-not s marks i (suc (suc (suc (suc (suc (suc k)))))) a b d e f = refl
