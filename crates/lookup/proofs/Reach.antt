-- What a path reaches: names one after another, and the words of two runs
use mathlib.Core.Path.{◌≡◌, refl, sym, ◌∙◌, ap}
use mathlib.Core.Bool.{Bool, true, false}
use mathlib.Core.List.{List, ◌∷◌, map}
use mathlib.Core.Option.{Option, none, some}
use Prim.Native.Nat.{ℕ, zero, suc, ◌+◌, ◌-◌, ◌<◌, ◌≤◌}
use native.Mathlib.Omega.{arith}
use lib.Dec.{eqb}
use borrow.Author.Tests.{eq-eqb, ne_eqb}
use Rattle.meaning.specs.declared.Run.{Run}
use Rattle.meaning.specs.declared.ValNo.{ValNo}
use Rattle.meaning.specs.Tests.{◌and◌, pick}
use Rattle.meaning.specs.Case.{point_word, value_at, point_at, places, run, run_of, list, case_of}
use Rattle.meaning.specs.Equal.{same_list, bound_of}
use Rattle.meaning.specs.Look.{named, members, descend, lookup, bound_at, field_at, context_at}
use Rattle.meaning.specs.Rows.{in_cells}
use Rattle.meaning.specs.Meaning.{names, same_event}
use Rattle.laws.specs.Tests.{stop, skip, pass, after, and-true}
use Rattle.std.specs.Prelude.{Option as Maybe, Some, None}
use Rattle.lookup.specs.Paths.{found_at}
use Rattle.equality.specs.Places.{open_place, shut-place}

-- ---- names one after another

pub record DescendFrom (s : List ℕ) (first count v at i : ℕ) : Type 0 where
  pub inside : i ≤ count
  pub rest : descend (case_of s) at (map (list s) (places (first + i) 1 (count - i))) ≡ descend (case_of s) v (map (list s) (places first 1 count))

pub descend-start : (s : List ℕ) (first count v : ℕ) → DescendFrom s first count v v 0
descend-start s first count v =
    let x : first + 0 ≡ first = omega arith in
    let z : count - 0 ≡ count = omega arith in
    record { inside = omega arith; rest = rw (x, z) refl }

pub descend-by : (s : List ℕ) (v n : ℕ) (ns : List ℕ) (o : Option ℕ) → named n (members (value_at s v)) ≡ o → descend (case_of s) v (n ∷ ns) ≡ elim o as (λ o. Option ℕ) [ none ↦ none | some u ↦ descend (case_of s) u ns ]
unfolding descend case_of
descend-by s v n ns o e = ap (λ (o : Option ℕ). elim o as (λ o. Option ℕ) [ none ↦ none | some u ↦ descend (case_of s) u ns ]) e

pub names-are : (s : List ℕ) (path : Run) (first count : ℕ) → first ≡ path.first → count ≡ path.count → names (case_of s) path ≡ map (list s) (places first 1 count)
unfolding names run_of case_of
names-are s path first count ef ec = rw (ef, ec) refl

module _ (s : List ℕ) (first count v at i : ℕ) (from : DescendFrom s first count v at i) where
  name_open : (o : Option ℕ) → i < count → named (list s (first + i)) (members (value_at s at)) ≡ o → descend (case_of s) v (map (list s) (places first 1 count)) ≡ elim o as (λ o. Option ℕ) [ none ↦ none | some u ↦ descend (case_of s) u (map (list s) (places (first + (i + 1)) 1 (count - (i + 1)))) ]
  name_open o h e =
      let x : first + (i + 1) ≡ first + i + 1 = omega arith in
      let cut : map (list s) (places (first + i) 1 (count - i)) ≡ list s (first + i) ∷ map (list s) (places (first + (i + 1)) 1 (count - (i + 1))) = ap (map (list s)) (open_place (first + i) 1 count i (first + (i + 1)) h x) in
      sym from.rest ∙ ap (descend (case_of s) at) cut ∙ descend-by s at (list s (first + i)) (map (list s) (places (first + (i + 1)) 1 (count - (i + 1)))) o e

  module _ (name : ℕ) (found : Maybe ValNo) (h : i < count) (en : name ≡ list s (first + i)) (ef : found_at found ≡ named name (members (value_at s at))) where
    reached : named (list s (first + i)) (members (value_at s at)) ≡ found_at found
    reached = sym (ef ∙ rw en refl)

    pub name-found : (u : ValNo) → found ≡ Some u → DescendFrom s first count v u.0 (i + 1)
    unfolding found_at
    name-found u e = record { inside = omega arith; rest = sym (name_open (some u.0) h (reached ∙ ap found_at e)) }

    pub name-none : (path : Run) → first ≡ path.first → count ≡ path.count → found ≡ None → found_at None ≡ descend (case_of s) v (names (case_of s) path)
    unfolding found_at
    name-none path e1 e2 e = sym (ap (descend (case_of s) v) (names-are s path first count e1 e2) ∙ name_open none h (reached ∙ ap found_at e))

  pub names-end : (path : Run) (u : ValNo) → first ≡ path.first → count ≡ path.count → u.0 ≡ at → count ≤ i → found_at (Some u) ≡ descend (case_of s) v (names (case_of s) path)
  unfolding found_at descend
  names-end path u e1 e2 eu h =
      ap some eu ∙ ap (λ (l : List ℕ). descend (case_of s) at (map (list s) l)) (sym (shut-place (first + i) 1 count i h)) ∙ from.rest
      ∙ sym (ap (descend (case_of s) v) (names-are s path first count e1 e2))

-- ---- cells of what is found

module _ (s : List ℕ) (found : Maybe ValNo) (tag bits : ℕ) where
  pub bound-found : (v : ValNo) → found ≡ Some v → in_cells tag bits ≡ some (bound_of v.0 (value_at s v.0)) → in_cells tag bits ≡ bound_at (case_of s) (found_at found)
  unfolding bound_at found_at case_of
  bound-found v e h = rw e h

  pub bound-none : found ≡ None → in_cells 0 0 ≡ bound_at (case_of s) (found_at found)
  unfolding bound_at found_at in_cells pick
  bound-none e = rw e refl

  -- of whatever was found
  pub bound-so : (o : Option ℕ) → found_at found ≡ o → in_cells tag bits ≡ bound_at (case_of s) (found_at found) → in_cells tag bits ≡ bound_at (case_of s) o
  bound-so o e h = h ∙ ap (bound_at (case_of s)) e

module _ (s : List ℕ) (tag bits p v : ℕ) (path : List ℕ) where
  pub field_is : in_cells tag bits ≡ bound_at (case_of s) (descend (case_of s) v path) → v ≡ point_word s p 6 → in_cells tag bits ≡ field_at (case_of s) (point_at s p) path
  unfolding field_at point_at
  field_is h e = h ∙ rw e refl

  pub context-is : in_cells tag bits ≡ bound_at (case_of s) (lookup (case_of s) v path) → v ≡ point_word s p 7 → in_cells tag bits ≡ context_at (case_of s) (point_at s p) path
  unfolding context_at point_at
  context-is h e = h ∙ rw e refl

-- ---- the words of two runs

longer : (f : ℕ → ℕ) (p q n m : ℕ) → (n ≡ m → ⊥) → same_list (map f (places p 1 n)) (map f (places q 1 m)) ≡ false
unfolding same_list places
longer f p q zero zero h = absurd (h refl)
longer f p q zero (suc m) h = refl
longer f p q (suc n) zero h = refl
longer f p q (suc n) (suc m) h = skip (eqb (f p) (f q)) (longer f (p + 1) (q + 1) n m (λ e. h (ap suc e)))

runs_as : (s : List ℕ) (a b : Run) (n m : ℕ) → n ≡ a.count → m ≡ b.count → same_list (run_of (list s) a) (run_of (list s) b) ≡ same_list (map (list s) (places a.first 1 n)) (map (list s) (places b.first 1 m))
unfolding run_of
runs_as s a b n m en em = rw (en, em) refl

pub runs-longer : (s : List ℕ) (a b : Run) (n m : ℕ) → n ≡ a.count → m ≡ b.count → (n ≡ m → ⊥) → false ≡ same_list (run_of (list s) a) (run_of (list s) b)
runs-longer s a b n m en em ne = sym (runs_as s a b n m en em ∙ longer (list s) a.first b.first n m ne)

pub record RunsFrom (s : List ℕ) (p q n i : ℕ) : Type 0 where
  pub inside : i ≤ n
  pub rest : same_list (map (list s) (places (p + i) 1 (n - i))) (map (list s) (places (q + i) 1 (n - i))) ≡ same_list (map (list s) (places p 1 n)) (map (list s) (places q 1 n))

pub runs-start : (s : List ℕ) (p q n : ℕ) → RunsFrom s p q n 0
runs-start s p q n =
    let x : p + 0 ≡ p = omega arith in
    let y : q + 0 ≡ q = omega arith in
    let z : n - 0 ≡ n = omega arith in
    record { inside = omega arith; rest = rw (x, y, z) refl }

module _ (s : List ℕ) (p q n i : ℕ) (from : RunsFrom s p q n i) where
  word_open : i < n → same_list (map (list s) (places p 1 n)) (map (list s) (places q 1 n)) ≡ (eqb (list s (p + i)) (list s (q + i)) and same_list (map (list s) (places (p + (i + 1)) 1 (n - (i + 1)))) (map (list s) (places (q + (i + 1)) 1 (n - (i + 1)))))
  unfolding same_list
  word_open h =
      let x : p + (i + 1) ≡ p + i + 1 = omega arith in
      let y : q + (i + 1) ≡ q + i + 1 = omega arith in
      sym from.rest ∙ rw (open_place (p + i) 1 n i (p + (i + 1)) h x, open_place (q + i) 1 n i (q + (i + 1)) h y) refl

  pub word_same : (x y : ℕ) → i < n → x ≡ list s (p + i) → y ≡ list s (q + i) → x ≡ y → RunsFrom s p q n (i + 1)
  word_same x y h ex ey e = record { inside = omega arith; rest = sym (word_open h ∙ after (eq-eqb _ _ (sym ex ∙ e ∙ ey))) }

  module _ (a b : Run) (m : ℕ) (en : n ≡ a.count) (em : m ≡ b.count) (nm : n ≡ m) (ep : p ≡ a.first) (eq : q ≡ b.first) where
    whole : same_list (run_of (list s) a) (run_of (list s) b) ≡ same_list (map (list s) (places p 1 n)) (map (list s) (places q 1 n))
    whole = runs_as s a b n m en em ∙ rw (← nm, ep, eq) refl

    pub word-differs : (x y : ℕ) → i < n → x ≡ list s (p + i) → y ≡ list s (q + i) → (x ≡ y → ⊥) → false ≡ same_list (run_of (list s) a) (run_of (list s) b)
    word-differs x y h ex ey ne = sym (whole ∙ word_open h ∙ stop _ (ne_eqb _ _ (λ e. ne (ex ∙ e ∙ sym ey))))

    pub words-end : n ≤ i → true ≡ same_list (run_of (list s) a) (run_of (list s) b)
    unfolding same_list
    words-end h = (rw (shut-place (p + i) 1 n i h, shut-place (q + i) 1 n i h) at from.rest) ∙ sym whole

-- ---- events

module _ (s : List ℕ) (namespace : Run) (action kind p : ℕ) where
  event-is : same_event (names (case_of s) namespace) action kind (point_at s p) ≡ (same_list (run_of (list s) namespace) (run_of (list s) (run (point_word s p 2) (point_word s p 3))) and (eqb action (point_word s p 4) and eqb kind (point_word s p 5)))
  unfolding same_event names point_at case_of
  event-is = refl

  pub event-action : (x : ℕ) → x ≡ point_word s p 4 → (action ≡ x → ⊥) → false ≡ same_event (names (case_of s) namespace) action kind (point_at s p)
  event-action x ex ne = sym (event-is ∙ skip _ (stop _ (ne_eqb action (point_word s p 4) (λ e. ne (e ∙ sym ex)))))

  pub event-kind : (x : ℕ) → x ≡ point_word s p 5 → (kind ≡ x → ⊥) → false ≡ same_event (names (case_of s) namespace) action kind (point_at s p)
  event-kind x ex ne = sym (event-is ∙ skip _ (skip _ (ne_eqb kind (point_word s p 5) (λ e. ne (e ∙ sym ex)))))

  pub event-runs : (x y first count : ℕ) (r : Bool) → x ≡ point_word s p 4 → action ≡ x → y ≡ point_word s p 5 → kind ≡ y → first ≡ point_word s p 2 → count ≡ point_word s p 3 → r ≡ same_list (run_of (list s) namespace) (run_of (list s) (run first count)) → r ≡ same_event (names (case_of s) namespace) action kind (point_at s p)
  event-runs x y first count r ex ea ey ek ef ec h =
      let l : Bool = same_list (run_of (list s) namespace) (run_of (list s) (run (point_word s p 2) (point_word s p 3))) in
      let rest : (eqb action (point_word s p 4) and eqb kind (point_word s p 5)) ≡ true = pass (eq-eqb action (point_word s p 4) (ea ∙ ex)) (eq-eqb kind (point_word s p 5) (ek ∙ ey)) in
      h ∙ rw (ef, ec) (sym (event-is ∙ rw rest (and-true l)))
