-- Starting bindings: two cells at a time, from the last variable down
use mathlib.Core.Path.{◌≡◌, refl, ap, sym, ◌∙◌, subst}
use mathlib.Core.Bool.{Bool, true, false, not}
use mathlib.Core.List.{List, [], ◌∷◌}
use mathlib.Core.Option.{Option, none, some}
use Prim.Native.Nat.{ℕ, zero, suc, ◌+◌, ◌*◌, ◌-◌, ◌≤◌, ◌<◌}
use native.Mathlib.Omega.{arith}
use lib.Dec.{eqb, ltb}
use lib.ListN.{length, get_or, set, take, drop, replicate, length-replicate, drop_of_length-le}
use lib.Seq.{drop-cons, drop_at, set_split, length-take-le}
use types.Run.{OneOf, miss}
use denote.Enum.Declared.{tag_of}
use borrow.Author.Tests.{lt-ltb, le-ltb, not-true, not-false}
use Rattle.meaning.specs.declared.Binding.{Binding}
use Rattle.meaning.specs.declared.Env.{Env}
use Rattle.meaning.specs.Tests.{◌and◌, only_if, is_some, pick}
use Rattle.meaning.specs.Case.{Part, Value, values, strings, vars, value_at}
use Rattle.meaning.specs.Check.{Checked}
use Rattle.meaning.specs.Equal.{Bound, bound_of, integer}
use Rattle.meaning.specs.Rows.{Row, in_cells, row_of}
use Rattle.meaning.specs.Calls.{is_int, well_formed, more_row, start_row}
use Rattle.laws.specs.Checked.{vars-most}
use Rattle.tables.specs.contracts.Value.{the_type}
use Rattle.tables.specs.declared.Value.{Value as Read}
use Rattle.tables.specs.declared.Value.TheVariants.{Null, Bool as Flag, Int, Decimal, Text, Entity, Array, Object}
use Rattle.tables.specs.Values.{meant}
use Rattle.rows.specs.Laws.{env_length}
use Rattle.rows.specs.Slots.{Sized, Becomes}
use Rattle.std.specs.Prelude.{Some, None}
use Rattle.opening.specs.Start.{Starts}

-- ---- a value that is no Int

abbrev NoInt : Read → Type 0
NoInt w = OneOf (0 ∷ 1 ∷ 3 ∷ 4 ∷ 5 ∷ 6 ∷ 7 ∷ []) (tag_of the_type w)

other_than_int : (part : ℕ → Part) (w : Read) → NoInt w → is_int (meant part w) ≡ false
unfolding is_int is_some integer bound_of meant
other_than_int part Null h = refl
other_than_int part (Flag b) h = refl
other_than_int part (Int bits) h = absurd (miss (0 ∷ 1 ∷ 3 ∷ 4 ∷ 5 ∷ 6 ∷ 7 ∷ []) 2 tt h)
other_than_int part (Decimal n) h = refl
other_than_int part (Text n) h = refl
other_than_int part (Entity t i) h = refl
other_than_int part (Array r) h = refl
other_than_int part (Object r) h = refl

module _ (part : ℕ → Part) (w : Read) (v : Value) where
  pub int_is : (bits : ℕ) → w ≡ Int bits → meant part w ≡ v → false ≡ not (is_int v)
  unfolding is_int is_some integer bound_of meant
  int_is bits is e = cc (is, e)

  pub no-int : NoInt w → meant part w ≡ v → true ≡ not (is_int v)
  no-int h e = rw (← e, other_than_int part w h)

-- ---- one variable's two cells

module _ (s : List ℕ) (tag bits : ℕ) where
  pub formed-unbound : tag ≡ 0 → eqb bits 0 ≡ well_formed s tag bits
  unfolding well_formed pick
  formed-unbound e = rw e

  pub formed-int : tag ≡ 1 → true ≡ well_formed s tag bits
  unfolding well_formed pick
  formed-int e = rw e

  pub formed-value : (n : ℕ) (r : Bool) → tag ≡ 2 → n ≡ values s → bits < n → r ≡ not (is_int (value_at s bits)) → r ≡ well_formed s tag bits
  unfolding well_formed pick ◌and◌
  formed-value n r e m lt is = rw (e, lt-ltb bits (values s) (omega arith)) is

  pub formed-no-value : (n : ℕ) → tag ≡ 2 → n ≡ values s → n ≤ bits → false ≡ well_formed s tag bits
  unfolding well_formed pick ◌and◌
  formed-no-value n e m le = rw (e, le-ltb bits (values s) (omega arith))

  pub formed-part : (n : ℕ) → tag ≡ 3 → n ≡ strings s → ltb bits n ≡ well_formed s tag bits
  unfolding well_formed pick
  formed-part n e m = rw (e, m)

pub formed-other : (s : List ℕ) (tag bits : ℕ) → (tag ≡ 0 → ⊥) → (tag ≡ 1 → ⊥) → (tag ≡ 2 → ⊥) → (tag ≡ 3 → ⊥) → false ≡ well_formed s tag bits
unfolding well_formed pick
formed-other s zero bits a b c d = absurd (a refl)
formed-other s (suc zero) bits a b c d = absurd (b refl)
formed-other s (suc (suc zero)) bits a b c d = absurd (c refl)
formed-other s (suc (suc (suc zero))) bits a b c d = absurd (d refl)
formed-other s (suc (suc (suc (suc tag)))) bits a b c d = refl

-- ---- the cells of all variables

module _ (f : List ℕ) where
  -- too few or too many
  start-many : (v : ℕ) (l : List ℕ) → (length l ≡ 2 * v → ⊥) → start_row f v l ≡ none
  unfolding start_row more_row
  start-many zero [] h = absurd (h refl)
  start-many zero (a ∷ l) h = refl
  start-many (suc v) [] h = refl
  start-many (suc v) (a ∷ []) h = refl
  start-many (suc v) (a ∷ b ∷ l) h = rw (start-many v l (λ e. h (omega arith)))

  -- what is not well formed behind some variables is not with them
  start-later : (x k : ℕ) (l : List ℕ) → start_row f k (drop (2 * x) l) ≡ none → start_row f (x + k) l ≡ none
  unfolding start_row more_row
  start-later zero k l h = let e : 0 + k ≡ k = omega arith in rw e h
  start-later (suc x) k [] h = let e : suc x + k ≡ suc (x + k) = omega arith in rw e
  start-later (suc x) k (a ∷ []) h = let e : suc x + k ≡ suc (x + k) = omega arith in rw e
  start-later (suc x) k (a ∷ b ∷ l) h =
      let e : suc x + k ≡ suc (x + k) = omega arith in
      let d : 2 * suc x ≡ suc (suc (2 * x)) = omega arith in
      rw (e, start-later x k l (rw d at h))

  -- two cells in front
  start-more : (x k : ℕ) (l : List ℕ) → 2 * x + 1 < length l → start_row f (suc k) (drop (2 * x) l) ≡ more_row (well_formed f (get_or l (2 * x) 0) (get_or l (2 * x + 1) 0)) (in_cells (get_or l (2 * x) 0) (get_or l (2 * x + 1) 0)) (start_row f k (drop (2 * suc x) l))
  unfolding start_row
  start-more x k l lt =
      let d : 2 * suc x ≡ suc (suc (2 * x)) = omega arith in
      let e : 2 * x + 1 ≡ suc (2 * x) = omega arith in
      rw (d, e, drop-cons l (2 * x) 0 (omega arith), drop-cons l (suc (2 * x)) 0 (omega arith))

drop-set : (row : Row) (x : ℕ) (b : Option Bound) → x < length row → drop x (set row x b) ≡ b ∷ drop (suc x) row
drop-set row x b lt = ap (drop x) (set_split row x b lt) ∙ drop_at (take x row) (b ∷ drop (suc x) row) x (length-take-le x row (omega arith))

-- ---- an environment that has the bindings of the variables from x on

pub record Reading (s start : List ℕ) (env : Env) (x : ℕ) : Type 0 where
  pub sized : Sized env
  pub count : env.count ≡ vars s
  pub within : x ≤ vars s
  pub long : length start ≡ 2 * vars s
  pub is : start_row s (vars s - x) (drop (2 * x) start) ≡ some (drop x (row_of env))

-- sixteen slots that are free
abbrev free : Binding
free = record { tag = 0; bits = 0 }

abbrev blank : ℕ → Env
blank v = record { slots = replicate 16 free; count = v }

module _ (s start : List ℕ) where
  blank-sized : (v : ℕ) → v ≡ vars s → Checked s → Sized (blank v)
  blank-sized v e h = record { few = omega (arith, vars-most h); long = length-replicate {A = Binding} 16 free }

  pub start-wrong-length : (v : ℕ) → v ≡ vars s → Checked s → (length start ≡ 2 * v → ⊥) → Starts s start None
  start-wrong-length v e h ne = record { says = sym (start-many s (vars s) start (λ q. ne (omega arith))) }

  pub reading_none : (v : ℕ) → v ≡ vars s → Checked s → length start ≡ 2 * v → Reading s start (blank v) v
  unfolding start_row
  reading_none v e h q =
      let sized = blank-sized v e h in
      let z : vars s - v ≡ 0 = omega arith in
      let cells : length start ≤ 2 * v = omega arith in
      let row : length (row_of (blank v)) ≤ v = omega (arith, env_length sized) in
      record {
        sized = sized;
        count = e;
        within = omega arith;
        long = omega arith;
        is = rw (z, drop_of_length-le start cells, drop_of_length-le (row_of (blank v)) row);
      }

module _ {s start : List ℕ} {env : Env} {y : ℕ} (t : Reading s start env y) where
  pub reading_all : y ≤ 0 → Starts s start (Some env)
  reading_all le =
      let e : y ≡ 0 = omega arith in
      let v : vars s - 0 ≡ vars s = omega arith in
      record { says = record { is = sym (rw (e, v) at t.is); sized = t.sized; count = t.count } }

  -- the variable before
  module _ (some_left : 0 < y) where
    abbrev x : ℕ
    x = y - 1

    abbrev tag : ℕ
    tag = get_or start (2 * x) 0

    abbrev bits : ℕ
    bits = get_or start (2 * x + 1) 0

    one_more : start_row s (vars s - x) (drop (2 * x) start) ≡ more_row (well_formed s tag bits) (in_cells tag bits) (some (drop (suc x) (row_of env)))
    one_more =
        let k : vars s - x ≡ suc (vars s - suc x) = omega (arith, t.within) in
        let next : y ≡ suc x = omega arith in
        let rest : start_row s (vars s - suc x) (drop (2 * suc x) start) ≡ some (drop (suc x) (row_of env)) =
        subst (λ (n : ℕ). start_row s (vars s - n) (drop (2 * n) start) ≡ some (drop n (row_of env))) next t.is in
        rw (k, ← rest) (start-more s x (vars s - suc x) start (omega (arith, t.within, t.long)))

    module _ (formed : Bool) (are : formed ≡ well_formed s tag bits) where
      pub reading_more : {r : Env} → not formed ≡ false → Becomes env (set (row_of env) x (in_cells tag bits)) r → Reading s start r x
      unfolding more_row only_if
      reading_more {r} good m =
          let lt : x < length (row_of env) = omega (arith, t.within, t.count, env_length t.sized) in
          record {
            sized = m.sized;
            count = m.count ∙ t.count;
            within = omega (arith, t.within);
            long = t.long;
            is = rw (m.bindings, drop-set (row_of env) x (in_cells tag bits) lt) (rw (← are, not-false formed good) at one_more);
          }

      pub reading_bad : not formed ≡ true → Starts s start None
      unfolding more_row only_if
      reading_bad bad =
          let v : x + (vars s - x) ≡ vars s = omega (arith, t.within) in
          record { says = sym (rw v at (start-later s x (vars s - x) start (rw (← are, not-true formed bad) at one_more))) }
