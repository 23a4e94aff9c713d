-- The kinds of each sort: the check's ranges of kinds are the sorts of the nodes read
use Rattle.std.specs.Prelude.{◌≡◌, Bool, ℕ, ◌+◌, ◌≤◌}
use Rattle.std.proofs.Math.Path.{refl, sym, ap}
use Rattle.std.proofs.Common.{◌∙◌, arith, eqb-true, leb-true}
use Rattle.std.proofs.Math.Bool.{true, false}
use mathlib.Core.List.{List, [], ◌∷◌}
use Rattle.std.proofs.Math.Dec.{eqb, leb}
use Rattle.std.proofs.lemmas.Bool.{eqb-false}
use Rattle.meaning.specs.declared.Node.{Node}
use Rattle.meaning.specs.declared.Node.TheVariants.{Broken}
use Rattle.meaning.specs.Tests.{◌and◌, choose, within}
use Rattle.meaning.specs.Case.{Sort, conditions, terms, aggregates, is_sort, sort_of, node_from, node_at, node_word, under}

-- k is the kind of no entry
abbrev Misses : ℕ → List (ℕ × Node) → Type 0
Misses k [] = Unit {0}
Misses k (e ∷ es) = (k ≡ e.0 → ⊥) × Misses k es

next : (i k : ℕ) → i ≤ k → (k ≡ i → ⊥) → i + 1 ≤ k
next i k low other = omega arith

module _ (sort : Sort) (low high : ℕ) where
  abbrev is_one : Node → Bool
  is_one n = is_sort sort (sort_of n)

  -- each entry is of the sort if its kind is in the range
  abbrev Each : List (ℕ × Node) → Type 0
  Each [] = Unit {0}
  Each (e ∷ es) = (is_one e.1 ≡ within low high e.0) × Each es

  found : (k : ℕ) (es : List (ℕ × Node)) → Each es → (Misses k es → is_one Broken ≡ within low high k) → is_one (under k es) ≡ within low high k
  unfolding under choose
  found k [] each none = none tt
  found k (e ∷ es) each none = go (eqb k e.0) refl (found k es each.1)
    where
      go : (b : Bool) → eqb k e.0 ≡ b → ((Misses k es → is_one Broken ≡ within low high k) → is_one (under k es) ≡ within low high k) → is_one (choose b e.1 (under k es)) ≡ within low high k
      go true q later = each.0 ∙ ap (within low high) (sym (eqb-true k e.0 q))
      go false q later = later (λ m. none (eqb-false k e.0 q, m))

  -- a kind that no entry has
  outside : (k : ℕ) → (low ≤ k → k ≤ high → ⊥) → false ≡ within low high k
  unfolding ◌and◌
  outside k h = go (leb low k) (leb k high) refl refl
    where
      go : (a b : Bool) → leb low k ≡ a → leb k high ≡ b → false ≡ (a and b)
      go false b p q = refl
      go true false p q = refl
      go true true p q = absurd (h (leb-true low k p) (leb-true k high q))

module _ (k a b c d e f : ℕ) where
  condition-kind : is_sort conditions (sort_of (node_from k a b c d e f)) ≡ within 1 10 k
  unfolding node_from sort_of is_sort ◌and◌
  condition-kind =
      found conditions 1 10 k _ (refl, (refl, (refl, (refl, (refl, (refl, (refl, (refl, (refl, (refl, (refl, (refl, (refl, (refl, (refl, (refl, (refl, (refl, (refl, tt)))))))))))))))))))
      (λ m. outside conditions 1 10 k (λ low high. omega (arith, high, (next 10 k (next 9 k (next 8 k (next 7 k (next 6 k (next 5 k (next 4 k (next 3 k (next 2 k (next 1 k low m.0) m.1.0) m.1.1.0) m.1.1.1.0) m.1.1.1.1.0) m.1.1.1.1.1.0) m.1.1.1.1.1.1.0) m.1.1.1.1.1.1.1.0) m.1.1.1.1.1.1.1.1.0) m.1.1.1.1.1.1.1.1.1.0))))

  term-kind : is_sort terms (sort_of (node_from k a b c d e f)) ≡ within 20 26 k
  unfolding node_from sort_of is_sort ◌and◌
  term-kind =
      found terms 20 26 k _ (refl, (refl, (refl, (refl, (refl, (refl, (refl, (refl, (refl, (refl, (refl, (refl, (refl, (refl, (refl, (refl, (refl, (refl, (refl, tt)))))))))))))))))))
      (λ m. outside terms 20 26 k (λ low high. omega (arith, high, (next 26 k (next 25 k (next 24 k (next 23 k (next 22 k (next 21 k (next 20 k low m.1.1.1.1.1.1.1.1.1.1.0) m.1.1.1.1.1.1.1.1.1.1.1.0) m.1.1.1.1.1.1.1.1.1.1.1.1.0) m.1.1.1.1.1.1.1.1.1.1.1.1.1.0) m.1.1.1.1.1.1.1.1.1.1.1.1.1.1.0) m.1.1.1.1.1.1.1.1.1.1.1.1.1.1.1.0) m.1.1.1.1.1.1.1.1.1.1.1.1.1.1.1.1.0))))

  aggregate-kind : is_sort aggregates (sort_of (node_from k a b c d e f)) ≡ within 30 31 k
  unfolding node_from sort_of is_sort ◌and◌
  aggregate-kind =
      found aggregates 30 31 k _ (refl, (refl, (refl, (refl, (refl, (refl, (refl, (refl, (refl, (refl, (refl, (refl, (refl, (refl, (refl, (refl, (refl, (refl, (refl, tt)))))))))))))))))))
      (λ m. outside aggregates 30 31 k (λ low high. omega (arith, high, (next 31 k (next 30 k low m.1.1.1.1.1.1.1.1.1.1.1.1.1.1.1.1.1.0) m.1.1.1.1.1.1.1.1.1.1.1.1.1.1.1.1.1.1.0))))

module _ (s : List ℕ) (n : ℕ) where
  pub condition-kinds : within 1 10 (node_word s n 0) ≡ is_sort conditions (sort_of (node_at s n))
  unfolding node_at
  condition-kinds = sym (condition-kind _ _ _ _ _ _ _)

  pub term-kinds : within 20 26 (node_word s n 0) ≡ is_sort terms (sort_of (node_at s n))
  unfolding node_at
  term-kinds = sym (term-kind _ _ _ _ _ _ _)

  pub aggregate-kinds : within 30 31 (node_word s n 0) ≡ is_sort aggregates (sort_of (node_at s n))
  unfolding node_at
  aggregate-kinds = sym (aggregate-kind _ _ _ _ _ _ _)
