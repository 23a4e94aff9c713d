-- The rows call after its walk: binders tested, rows projected, the output filled
use mathlib.Core.Path.{◌≡◌, refl, ap, sym, subst, ◌∙◌}
use mathlib.Core.Bool.{Bool, true, false, not}
use mathlib.Core.List.{List, [], ◌∷◌, ◌++◌}
use Prim.Native.Nat.{ℕ, zero, suc, ◌+◌, ◌-◌, ◌*◌, ◌/◌, ◌≤◌, ◌<◌}
use native.Mathlib.Nat.{suc-mul, mul_comm, mul_assoc, le-div_iff_mul-le, sub-zero, zero-add}
use native.Mathlib.Omega.{arith}
use lib.Dec.{leb, eqb}
use lib.ListN.{length, get_or, take, drop, length-append}
use lib.Seq.{slice}
use borrow.Author.Tests.{ltb-true, leb-true, leb-false, eqb-true, eqb-false, not-true, not-false, lt-ltb, le-leb, lt-leb}
use Rattle.meaning.specs.declared.Meter.{Meter}
use Rattle.meaning.specs.declared.Refusal.TheVariants.{BadOutput}
use Rattle.meaning.specs.Case.{case_of}
use Rattle.meaning.specs.Rows.{Row, onto}
use Rattle.meaning.specs.Calls.{gives, all_under, cells_of, filled}
use Rattle.laws.specs.Tests.{both, stop, skip, pass}
use Rattle.rows.specs.declared.Shape.{Shape}
use Rattle.rows.specs.Table.{Fit, rows_in, Reduces, Variables}
use Rattle.laws.specs.Writing.{Writing}
use Rattle.rows.specs.Laws.{rows-many, top-is}
use Rattle.rows.proofs.Out.{cells_of-length}
use Rattle.std.specs.Prelude.{Ok, Err}
use Rattle.calls.specs.declared.Spent.{Spent}
use Rattle.calls.specs.Promises.{spent_in, as_rows}
use Rattle.calls.specs.Given.{kept_of, fitting, said_of, output_of, Given}

-- ---- binders that are variables of the case

all_are : (v : ℕ) (xs : List ℕ) → ((k : ℕ) → k < length xs → get_or xs k 0 < v) → all_under v xs ≡ true
unfolding all_under
all_are v [] h = refl
all_are v (x ∷ xs) h = pass (lt-ltb x v (h 0 (omega arith))) (all_are v xs (λ k lt. h (suc k) (omega arith)))

each-is : (v : ℕ) (xs : List ℕ) → all_under v xs ≡ true → (k : ℕ) → k < length xs → get_or xs k 0 < v
unfolding all_under
each-is v [] e k lt = absurd (omega arith)
each-is v (x ∷ xs) e zero lt = ltb-true x v (both _ _ e).0
each-is v (x ∷ xs) e (suc k) lt = each-is v xs (both _ _ e).1 k (omega arith)

-- those before k are
pub record Under (v : ℕ) (xs : List ℕ) (n k : ℕ) : Type 0 where
  pub count : n ≡ length xs
  pub low : k ≤ n
  pub below : (j : ℕ) → j < k → get_or xs j 0 < v

pub under_none : (v : ℕ) (xs : List ℕ) → Under v xs (length xs) 0
under_none v xs = record { count = refl; low = omega arith; below = λ j lt. absurd (omega arith) }

pub under_more : {v : ℕ} {xs : List ℕ} {n k x : ℕ} → Under v xs n k → k < n → x ≡ get_or xs k 0 → x < v → Under v xs n (k + 1)
under_more {v} {xs} {n} {k} {x} h lt is small = record { count = h.count; low = omega arith; below = λ j lt'. go j lt' (eqb j k) refl }
  where
    go : (j : ℕ) → j < k + 1 → (t : Bool) → eqb j k ≡ t → get_or xs j 0 < v
    go j lt' true e = subst (λ (i : ℕ). get_or xs i 0 < v) (sym (eqb-true j k e)) (subst (λ (y : ℕ). y < v) is small)
    go j lt' false e = h.below j (omega (arith, eqb-false j k e))

pub under-not : {v : ℕ} {xs : List ℕ} {n k x : ℕ} → Under v xs n k → k < n → x ≡ get_or xs k 0 → v ≤ x → false ≡ all_under v xs
under-not {v} {xs} {n} {k} {x} h lt is above = go (all_under v xs) refl
  where
    go : (t : Bool) → all_under v xs ≡ t → false ≡ all_under v xs
    go true e = absurd (omega (arith, each-is v xs e k (subst (λ (i : ℕ). k < i) h.count lt), is))
    go false e = sym e

pub under-are : {v : ℕ} {xs : List ℕ} {n k : ℕ} → Under v xs n k → n ≤ k → true ≡ all_under v xs
under-are {v} {xs} {n} {k} h end = sym (all_are v xs (λ j lt. h.below j (omega (arith, h.count, end))))

pub variables : {v : ℕ} {xs : List ℕ} {t : Bool} → t ≡ all_under v xs → not t ≡ false → Variables v xs
variables {v} {xs} {t} is sure = record { below = each-is v xs (sym is ∙ not-false t sure) }

-- ---- how many cells rows fill

filled-long : (xs : List ℕ) (rs : List Row) → length (filled xs rs) ≡ length rs * (2 * length xs)
unfolding filled
filled-long xs [] = omega arith
filled-long xs (r ∷ rs) = omega (arith, length-append (cells_of xs r) (filled xs rs), cells_of-length xs r, filled-long xs rs, suc-mul (length rs) (2 * length xs))

-- so many binders in so many rows: a division in place of a product, which could be too large
pub fits-none : (binders n : ℕ) {rows : ℕ} → rows ≡ 0 → true ≡ leb (rows * (2 * binders)) n
fits-none binders n {rows} e = sym (le-leb (rows * (2 * binders)) n (rw e (omega arith)))

not-le : {a b : ℕ} → (a ≤ b → ⊥) → b < a
not-le never = omega (arith, never)

swap : (a b : ℕ) → b * (2 * a) ≡ a * (2 * b)
swap a b =
    mul_comm b (2 * a) ∙ mul_assoc 2 a b ∙ ap (λ (n : ℕ). 2 * n) (mul_comm a b) ∙ sym (mul_assoc 2 b a) ∙ mul_comm (2 * b) a

pub fits-some : (rows binders n : ℕ) → (rows ≡ 0 → ⊥) → leb binders (n / (2 * rows)) ≡ leb (rows * (2 * binders)) n
fits-some rows binders n nonzero = go (leb binders (n / (2 * rows))) refl
  where
    go : (t : Bool) → leb binders (n / (2 * rows)) ≡ t → leb binders (n / (2 * rows)) ≡ leb (rows * (2 * binders)) n
    go true e = e ∙ sym (le-leb (rows * (2 * binders)) n (subst (λ (k : ℕ). k ≤ n) (swap rows binders) ((le-div_iff_mul-le {k = 2 * rows} {x = binders} {y = n} (omega (arith, nonzero))).0 (leb-true binders (n / (2 * rows)) e))))
    go false e =
        e
        ∙ sym (lt-leb (rows * (2 * binders)) n (not-le (λ h. absurd (omega (arith, leb-false binders (n / (2 * rows)) e, (le-div_iff_mul-le {k = 2 * rows} {x = binders} {y = n} (omega (arith, nonzero))).1 (subst (λ (k : ℕ). k ≤ n) (sym (swap rows binders)) h))))))

pub fits-are : (rows : ℕ) (binders output : List ℕ) {t : Bool} → t ≡ leb (rows * (2 * length binders)) (length output) → not t ≡ false → (rows - 0) * (2 * length binders) ≤ length output
fits-are rows binders output {t} is sure =
    subst (λ (k : ℕ). k * (2 * length binders) ≤ length output) (sym (sub-zero rows)) (leb-true _ _ (sym is ∙ not-false t sure))

-- ---- rows given or refused

module _ (s : List ℕ) (shape : Shape) (m : Meter) (binders w out : List ℕ) where
  -- the rows held
  abbrev held : List Row
  held = take m.held (rows_in shape w)

  abbrev kept : List Row
  kept = kept_of s binders held

  refused_as : {sp : Spent} → sp ≡ spent_in m → fitting shape.vars binders out kept ≡ false → Given s shape.vars m binders held out out (Err (record { refusal = BadOutput; spent = sp }))
  unfolding as_rows said_of output_of
  refused_as es e = rw es (record { said = sym (ap (said_of kept m) e); written = sym (ap (output_of binders out kept) e) })

  pub given-not-under : {t : Bool} {sp : Spent} → t ≡ all_under shape.vars binders → not t ≡ true → sp ≡ spent_in m → Given s shape.vars m binders held out out (Err (record { refusal = BadOutput; spent = sp }))
  given-not-under {t} is wrong es = refused_as es (stop _ (sym is ∙ not-true t wrong))

  module _ (n : ℕ) (w' : List ℕ) (fit : Fit shape w) (high : m.held ≤ shape.room) (reduces : Reduces (case_of s) (onto binders) 0 m.held n (rows_in shape w) (rows_in shape w')) where
    kept-many : n ≡ length kept
    kept-many =
        omega (arith, top-is 0 n (rows_in shape w) (rows_in shape w') kept reduces.rows (omega arith) (omega (arith, reduces.high, rows-many shape w')))

    pub few-kept : n ≤ 16384
    few-kept = omega (arith, reduces.high, fit.room)

    cells-many : length (filled binders kept) ≡ n * (2 * length binders)
    cells-many = filled-long binders kept ∙ ap (λ (k : ℕ). k * (2 * length binders)) (sym kept-many)

    pub given_too_long : {t : Bool} {sp : Spent} → t ≡ leb (n * (2 * length binders)) (length out) → not t ≡ true → sp ≡ spent_in m → Given s shape.vars m binders held out out (Err (record { refusal = BadOutput; spent = sp }))
    given_too_long {t} is wrong es = refused_as es (skip _ (ap (λ (k : ℕ). leb k (length out)) cells-many ∙ sym is ∙ not-true t wrong))

    pub given-written : {t u : Bool} {sp : Spent} {out' : List ℕ} → t ≡ all_under shape.vars binders → not t ≡ false → u ≡ leb (n * (2 * length binders)) (length out) → not u ≡ false
        → Writing out out' 0 (filled binders (slice 0 n (rows_in shape w'))) → sp ≡ spent_in m → Given s shape.vars m binders held out out' (Ok (n, sp))
    unfolding as_rows said_of output_of
    given-written {t} {u} {out' = out'} isT yes_t is_u yes_u writing es = rw es (
        let fits : fitting shape.vars binders out kept ≡ true = pass (sym isT ∙ not-false t yes_t) (ap (λ (k : ℕ). leb k (length out)) cells-many ∙ sym is_u ∙ not-false u yes_u) in
        record {
          said = ap (λ (k : ℕ). gives k m.steps m.most) kept-many ∙ sym (ap (said_of kept m) fits);
          written =
              writing.is
              ∙ ap (λ (l : List Row). filled binders l ++ drop (0 + length (filled binders l)) out) reduces.rows
              ∙ ap (λ (k : ℕ). filled binders kept ++ drop k out) (zero-add (length (filled binders kept)))
              ∙ sym (ap (output_of binders out kept) fits);
        })

    pub write-fit : length w' ≡ length w → Fit shape w'
    write-fit long = record { vars = fit.vars; room = fit.room; wide = omega (arith, fit.wide) }

    pub write-high : n ≤ shape.room
    write-high = omega (arith, reduces.high)
