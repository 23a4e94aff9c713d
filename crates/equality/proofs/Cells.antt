-- What a variable is bound to: a value's cells, cells that say it in one way, two of them compared
use mathlib.Core.Path.{◌≡◌, refl, sym, ◌∙◌, ap}
use mathlib.Core.Bool.{Bool, true, false}
use mathlib.Core.List.{List, [], ◌∷◌}
use mathlib.Core.Option.{Option, none, some}
use Prim.Native.Nat.{ℕ, zero, suc, ◌+◌, ◌*◌, ◌<◌, ◌≤◌, min}
use native.Mathlib.Omega.{arith}
use lib.Dec.{eqb, leb}
use mir.Val.{to_z, of_z, Fits}
use mir.Facts.{of_z-to_z}
use mir.Syntax.{w64}
use borrow.Author.Tests.{leb-true, leb-false, ne_eqb}
use Rattle.meaning.specs.Tests.{pick}
use Rattle.meaning.specs.Case.{Case, Value, Part, Int, Text, value_word, value_at, value_from, part_at, signed, case_of}
use Rattle.meaning.specs.Check.{Checked}
use Rattle.meaning.specs.Equal.{Bound, int, value, bound_of, as_value, see, seen, alike, same, same_value, same_list}
use Rattle.meaning.specs.Rows.{in_cells, same_cell}
use Rattle.laws.specs.Tests.{stop}
use Rattle.laws.specs.Values.{value-beyond}
use Rattle.laws.specs.Checked.{checked-bodies, checked-values, values-most, same_value-is}
use Rattle.equality.specs.Cells.{value_in, Settled}
use Rattle.equality.specs.Places.{value_as}
use Rattle.equality.proofs.Alike.{kind-is, alike-leaf, one_same}

-- ---- a value's cells

pub bound-int : (s : List ℕ) (v k x p bits : ℕ) → k ≡ value_word s v 0 → k ≡ 2 → x ≡ value_word s v 1 → p ≡ value_word s v 2 → bits ≡ x + 4294967296 * p → in_cells 1 bits ≡ some (bound_of v (value_at s v))
unfolding in_cells pick value_from signed bound_of
bound-int s v k x p bits ek e ex ep eb =
    ap (λ (n : ℕ). some (int (to_z w64 n))) eb ∙ sym (ap (λ (w : Value). some (bound_of v w)) (value_as s v 2 k x p ek ex ep e))

not_int : (members : ℕ → Part) (v k a b : ℕ) → (k ≡ 2 → ⊥) → bound_of v (value_from members k a b) ≡ value v
unfolding bound_of value_from pick
not_int members v zero a b h = refl
not_int members v (suc zero) a b h = refl
not_int members v (suc (suc zero)) a b h = absurd (h refl)
not_int members v (suc (suc (suc zero))) a b h = refl
not_int members v (suc (suc (suc (suc zero)))) a b h = refl
not_int members v (suc (suc (suc (suc (suc zero))))) a b h = refl
not_int members v (suc (suc (suc (suc (suc (suc zero)))))) a b h = refl
not_int members v (suc (suc (suc (suc (suc (suc (suc zero))))))) a b h = refl
not_int members v (suc (suc (suc (suc (suc (suc (suc (suc k)))))))) a b h = refl

pub bound-other : (s : List ℕ) (v k bits : ℕ) → k ≡ value_word s v 0 → (k ≡ 2 → ⊥) → bits ≡ v → in_cells 2 bits ≡ some (bound_of v (value_at s v))
unfolding in_cells pick value_at
bound-other s v k bits ek ne eb =
    ap (λ (n : ℕ). some (value n)) eb ∙ sym (ap some (not_int (part_at s) v (value_word s v 0) (value_word s v 1) (value_word s v 2) (λ e. ne (ek ∙ e))))

-- ---- numbers beyond 32 bits name no value

pub far : {s : List ℕ} → Checked s → (u : ℕ) → value_at s (min 4294967295 u) ≡ value_at s u
far {s} c u = go (leb u 4294967295) refl
  where
    go : (t : Bool) → leb u 4294967295 ≡ t → value_at s (min 4294967295 u) ≡ value_at s u
    go true e = let l = leb-true u 4294967295 e in let z : min 4294967295 u ≡ u = omega arith in rw z refl
    go false e =
        let l = leb-false u 4294967295 e in
        value-beyond s (checked-bodies c) (checked-values c) (min 4294967295 u) (omega (arith, values-most c))
        ∙ sym (value-beyond s (checked-bodies c) (checked-values c) u (omega (arith, values-most c)))

-- ---- cells that say it in one way

cell-value : (s : List ℕ) (t u : ℕ) → t ≡ 2 → value_in (case_of s) (in_cells t u) ≡ some (value_at s u)
unfolding value_in in_cells pick as_value case_of
cell-value s t u e = rw e refl

module _ (s : List ℕ) (t u v k x : ℕ) (c : Checked s) (et : t ≡ 2) (ev : v ≡ min 4294967295 u) (ek : k ≡ value_word s v 0) (ex : x ≡ value_word s v 1) where
  there : value_at s v ≡ value_at s u
  there = rw ev (far c u)

  pub settled-int : (p bits : ℕ) → k ≡ 2 → p ≡ value_word s v 2 → bits ≡ x + 4294967296 * p → Settled s t u 1 bits
  unfolding value_in in_cells pick as_value value_from signed
  settled-int p bits e ep eb =
      record {
        is = ap (λ (n : ℕ). some (Int (to_z w64 n))) eb ∙ sym (ap some (value_as s v 2 k x p ek ex ep e)) ∙ ap some there ∙ sym (cell-value s t u et);
        few = omega arith;
        no_int = λ z. absurd (omega arith);
        no_text = λ z. absurd (omega arith);
      }

  pub settled-text : (bits : ℕ) → k ≡ 4 → bits ≡ x → Settled s t u 3 bits
  unfolding value_in in_cells pick as_value value_from
  settled-text bits e eb =
      record {
        is = ap (λ (n : ℕ). some (Text n)) eb ∙ sym (ap some (value_as s v 4 k x (value_word s v 2) ek ex refl e)) ∙ ap some there ∙ sym (cell-value s t u et);
        few = omega arith;
        no_int = λ z. absurd (omega arith);
        no_text = λ z. absurd (omega arith);
      }

  pub settled-value : (k ≡ 2 → ⊥) → (k ≡ 4 → ⊥) → Settled s t u t u
  settled-value n2 n4 =
      record {
        is = refl;
        few = omega arith;
        no_int = λ z e. n2 (ek ∙ rw ev e);
        no_text = λ z e. n4 (ek ∙ rw ev e);
      }

pub settled-none : (s : List ℕ) (t u : ℕ) → 3 < t → Settled s t u 0 0
unfolding value_in in_cells pick
settled-none s zero u h = absurd (omega arith)
settled-none s (suc zero) u h = absurd (omega arith)
settled-none s (suc (suc zero)) u h = absurd (omega arith)
settled-none s (suc (suc (suc zero))) u h = absurd (omega arith)
settled-none s (suc (suc (suc (suc t)))) u h = record { is = refl; few = omega arith; no_int = λ z. absurd (omega arith); no_text = λ z. absurd (omega arith) }

pub settled_plain : (s : List ℕ) (t u : ℕ) → (t ≡ 2 → ⊥) → t ≤ 3 → Settled s t u t u
settled_plain s t u n h = record { is = refl; few = h; no_int = λ z. absurd (n z); no_text = λ z. absurd (n z) }

-- ---- two of them

same_in : Case → Option Value → Option Value → Bool
same_in c none none = true
same_in c none (some w) = false
same_in c (some v) none = false
same_in c (some v) (some w) = alike (same_value c) (see c v) (see c w)

same_in_lem : (c : Case) (a b : Option Bound) → same_cell c a b ≡ same_in c (value_in c a) (value_in c b)
unfolding same_cell same_in value_in same
same_in_lem c none none = refl
same_in_lem c none (some b) = refl
same_in_lem c (some a) none = refl
same_in_lem c (some a) (some b) = refl

-- a value that is neither Int nor String differs from both
module _ {s : List ℕ} (c : Checked s) (u : ℕ) where
  kind-far : (see (case_of s) (value_at s u)).kind ≡ value_word s (min 4294967295 u) 0
  kind-far = rw (← far c u) (kind-is c (min 4294967295 u))

  value-unlike : (n : ℕ) (w : Value) → (see (case_of s) w).kind ≡ n → (value_word s (min 4294967295 u) 0 ≡ n → ⊥) → alike (same_value (case_of s)) (see (case_of s) (value_at s u)) (see (case_of s) w) ≡ false
  unfolding alike
  value-unlike n w e ne = stop _ (ne_eqb _ _ (λ z. ne (sym kind-far ∙ z ∙ e)))

  unlike-value : (n : ℕ) (w : Value) → (see (case_of s) w).kind ≡ n → (value_word s (min 4294967295 u) 0 ≡ n → ⊥) → alike (same_value (case_of s)) (see (case_of s) w) (see (case_of s) (value_at s u)) ≡ false
  unfolding alike
  unlike-value n w e ne = stop _ (ne_eqb _ _ (λ z. ne (sym kind-far ∙ sym z ∙ e)))

module _ (s : List ℕ) (ta ua tb ub t u r w : ℕ) (c : Checked s) (sa : Settled s ta ua t u) (sb : Settled s tb ub r w) where
  cells_are : same_cell (case_of s) (in_cells ta ua) (in_cells tb ub) ≡ same_in (case_of s) (value_in (case_of s) (in_cells t u)) (value_in (case_of s) (in_cells r w))
  cells_are = same_in_lem (case_of s) (in_cells ta ua) (in_cells tb ub) ∙ rw (← sa.is, ← sb.is) refl

  apart : (t r : ℕ) → t ≤ 3 → r ≤ 3 → (t ≡ r → ⊥) → (t ≡ 2 → value_word s (min 4294967295 u) 0 ≡ 2 → ⊥) → (t ≡ 2 → value_word s (min 4294967295 u) 0 ≡ 4 → ⊥) → (r ≡ 2 → value_word s (min 4294967295 w) 0 ≡ 2 → ⊥) → (r ≡ 2 → value_word s (min 4294967295 w) 0 ≡ 4 → ⊥) → same_in (case_of s) (value_in (case_of s) (in_cells t u)) (value_in (case_of s) (in_cells r w)) ≡ false
  unfolding same_in value_in in_cells pick as_value case_of see seen alike
  apart zero zero ht hr ne ti tt' ri rt = absurd (ne refl)
  apart zero (suc zero) ht hr ne ti tt' ri rt = refl
  apart zero (suc (suc zero)) ht hr ne ti tt' ri rt = refl
  apart zero (suc (suc (suc zero))) ht hr ne ti tt' ri rt = refl
  apart (suc zero) zero ht hr ne ti tt' ri rt = refl
  apart (suc zero) (suc zero) ht hr ne ti tt' ri rt = absurd (ne refl)
  apart (suc zero) (suc (suc zero)) ht hr ne ti tt' ri rt = unlike-value c w 2 (Int (to_z w64 u)) refl (ri refl)
  apart (suc zero) (suc (suc (suc zero))) ht hr ne ti tt' ri rt = stop _ refl
  apart (suc (suc zero)) zero ht hr ne ti tt' ri rt = refl
  apart (suc (suc zero)) (suc zero) ht hr ne ti tt' ri rt = value-unlike c u 2 (Int (to_z w64 w)) refl (ti refl)
  apart (suc (suc zero)) (suc (suc zero)) ht hr ne ti tt' ri rt = absurd (ne refl)
  apart (suc (suc zero)) (suc (suc (suc zero))) ht hr ne ti tt' ri rt = value-unlike c u 4 (Text w) refl (tt' refl)
  apart (suc (suc (suc zero))) zero ht hr ne ti tt' ri rt = refl
  apart (suc (suc (suc zero))) (suc zero) ht hr ne ti tt' ri rt = stop _ refl
  apart (suc (suc (suc zero))) (suc (suc zero)) ht hr ne ti tt' ri rt = unlike-value c w 4 (Text u) refl (rt refl)
  apart (suc (suc (suc zero))) (suc (suc (suc zero))) ht hr ne ti tt' ri rt = absurd (ne refl)
  apart (suc (suc (suc (suc t)))) r ht hr ne ti tt' ri rt = absurd (omega arith)
  apart zero (suc (suc (suc (suc r)))) ht hr ne ti tt' ri rt = absurd (omega arith)
  apart (suc zero) (suc (suc (suc (suc r)))) ht hr ne ti tt' ri rt = absurd (omega arith)
  apart (suc (suc zero)) (suc (suc (suc (suc r)))) ht hr ne ti tt' ri rt = absurd (omega arith)
  apart (suc (suc (suc zero))) (suc (suc (suc (suc r)))) ht hr ne ti tt' ri rt = absurd (omega arith)

  pub tags_differ : (t ≡ r → ⊥) → false ≡ same_cell (case_of s) (in_cells ta ua) (in_cells tb ub)
  tags_differ ne = sym (cells_are ∙ apart t r sa.few sb.few ne sa.no_int sa.no_text sb.no_int sb.no_text)

  module _ (er : t ≡ r) where
    pub both-unbound : t ≡ 0 → true ≡ same_cell (case_of s) (in_cells ta ua) (in_cells tb ub)
    unfolding same_in value_in in_cells pick
    both-unbound e = let f : r ≡ 0 = sym er ∙ e in sym (cells_are ∙ rw (e, f) refl)

    pub both_values : (m n : ℕ) (q : Bool) → t ≡ 2 → m ≡ min 4294967295 u → n ≡ min 4294967295 w → q ≡ same_value (case_of s) m n → q ≡ same_cell (case_of s) (in_cells ta ua) (in_cells tb ub)
    unfolding same_in
    both_values m n q e em en eq =
        let x : value_at s m ≡ value_at s u = rw em (far c u) in
        let y : value_at s n ≡ value_at s w = rw en (far c w) in
        eq ∙ same_value-is c m n ∙ rw (x, y) (sym (cells_are ∙ rw (cell-value s t u e, cell-value s r w (sym er ∙ e)) refl))

    plain : (t : ℕ) → t ≤ 3 → (t ≡ 0 → ⊥) → (t ≡ 2 → ⊥) → Fits w64 u → Fits w64 w → same_in (case_of s) (value_in (case_of s) (in_cells t u)) (value_in (case_of s) (in_cells t w)) ≡ eqb u w
    unfolding same_in value_in in_cells pick as_value see
    plain zero h n0 n2 hu hw = absurd (n0 refl)
    plain (suc zero) h n0 n2 hu hw =
        let l : same_list (of_z w64 (to_z w64 u) ∷ []) (of_z w64 (to_z w64 w) ∷ []) ≡ eqb u w = rw (of_z-to_z {w = w64} {n = u} hu, of_z-to_z {w = w64} {n = w} hw) (one_same u w) in
        alike-leaf (same_value (case_of s)) 2 (of_z w64 (to_z w64 u) ∷ []) (of_z w64 (to_z w64 w) ∷ []) ∙ l
    plain (suc (suc zero)) h n0 n2 hu hw = absurd (n2 refl)
    plain (suc (suc (suc zero))) h n0 n2 hu hw = alike-leaf (same_value (case_of s)) 4 (u ∷ []) (w ∷ []) ∙ one_same u w
    plain (suc (suc (suc (suc t)))) h n0 n2 hu hw = absurd (omega arith)

    pub both-plain : (t ≡ 0 → ⊥) → (t ≡ 2 → ⊥) → Fits w64 u → Fits w64 w → eqb u w ≡ same_cell (case_of s) (in_cells ta ua) (in_cells tb ub)
    both-plain n0 n2 hu hw = sym (cells_are ∙ rw (← er) (plain t sa.few n0 n2 hu hw))
