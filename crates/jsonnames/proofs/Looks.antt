-- A name looked for in one run after another
use Rattle.std.specs.Prelude.{Some, None, Result, Ok, Err}
use mathlib.Core.Path.{◌≡◌, refl, sym, ap, subst, ◌∙◌}
use mathlib.Core.Bool.{Bool, true, false}
use mathlib.Core.List.{List}
use Prim.Native.Nat.{ℕ, ◌+◌, ◌*◌, ◌^◌, ◌-◌, ◌/◌, ◌%◌, ◌<◌, ◌≤◌}
use native.Mathlib.Omega.{arith}
use mir.Val.{Fits}
use mir.Syntax.{w64}
use lib.Dec.{ltb, eqb}
use lib.ListN.{length, get_or}
use borrow.Author.Tests.{ltb-true, ltb-false, eqb-true, eqb-false}
use Rattle.jsonnames.specs.Sorted.{Spells, Named, Rises, Runs, FindTold, Lacks}
use Rattle.jsonnames.specs.Merges.{LaterDue, LaterTold}
use Rattle.jsonnames.specs.Runs.{LastDue, LastTold, Looked, LookTold}
use Rattle.jsonnames.proofs.Order.{order_self}
use Rattle.jsonnames.proofs.Joins.{up_to}
use Rattle.jsonnames.proofs.Stays.{between-lacks, runs-from, runs-size, runs_none, runs-odd, runs-even}

one_of_lem : (n : ℕ) → (n % 2 ≡ 0 → ⊥) → n % 2 ≡ 1
one_of_lem n h = omega (arith, h)

-- ---- the last run

module _ {line names : List ℕ} {size count high at : ℕ} (d : LastDue line names size count high at) where
  pub last-even : count % 2 ≡ 0 → LastTold line names size count high at (Err high)
  last-even h =
      record {
        odd = λ p z. absurd (let z : ◌≡◌ {A = ℕ} 0 1 = cc in omega arith);
        there = λ p z. absurd (let z : ◌≡◌ {A = ℕ} 0 1 = cc in omega arith);
        passed = λ k z o. absurd (omega arith);
        lacks = λ k z o. absurd (omega arith);
        none = λ k z o. cc;
      }

  module _ (n : count % 2 ≡ 0 → ⊥) where
    is_odd : count % 2 ≡ 1
    is_odd = one_of_lem count n

    pub last-run : Rises line names (high - size) high
    last-run = d.run is_odd

    last-named : Named line (get_or names (high - 1) 0)
    last-named = last-run.named (high - 1) (omega (arith, d.some, d.room)) (omega (arith, d.some, d.room))

    pub last-read : high - 1 < length names
    last-read = omega (arith, d.some, d.room, last-run.within)

    pub last-later : LaterDue line (get_or names (high - 1) 0) at
    last-later = record { other = last-named.spells.within; place = d.place }

    pub last-past : {r : Bool} → LaterTold line (get_or names (high - 1) 0) at r → r ≡ true → LastTold line names size count high at (Err (high - size))
    last-past t e =
        record {
          odd = λ q z. absurd (let z : ◌≡◌ {A = ℕ} 0 1 = cc in omega arith);
          there = λ q z. absurd (let z : ◌≡◌ {A = ℕ} 0 1 = cc in omega arith);
          passed = λ k z o. cc;
          lacks = λ k z o m s j f h u.
              order_self m (up_to last-run (high - 1) (omega (arith, d.some, d.room)) last-named.name m last-named.spells (t.more e last-named.name m last-named.spells s) j m f (omega arith) u);
          none = λ k z o. absurd (n o);
        }

    module _ {y : Result ℕ ℕ} (f : FindTold line names (high - size) high at y) where
      pub last-there : {p : ℕ} → y ≡ Ok p → LastTold line names size count high at (Ok p)
      last-there {p} e =
          record {
            odd = λ q z. is_odd;
            there = λ q z. let x : p ≡ q = cc in f.there q (e ∙ ap Ok x);
            passed = λ k z. absurd (let z : ◌≡◌ {A = ℕ} 0 1 = cc in omega arith);
            lacks = λ k z. absurd (let z : ◌≡◌ {A = ℕ} 0 1 = cc in omega arith);
            none = λ k z. absurd (let z : ◌≡◌ {A = ℕ} 0 1 = cc in omega arith);
          }

      pub last-lacks : {cell : ℕ} → y ≡ Err cell → LastTold line names size count high at (Err (high - size))
      last-lacks e =
          record {
            odd = λ q z. absurd (let z : ◌≡◌ {A = ℕ} 0 1 = cc in omega arith);
            there = λ q z. absurd (let z : ◌≡◌ {A = ℕ} 0 1 = cc in omega arith);
            passed = λ k z o. cc;
            lacks = λ k z o m s. between-lacks (f.before _ e m s);
            none = λ k z o. absurd (n o);
          }

-- ---- all runs

-- the name is in no cell from the runs that are left on
pub record Looking (line names : List ℕ) (first stop at size count high : ℕ) : Type 0 where
  pub runs : Runs line names first size count high
  pub to : high ≤ stop
  pub within : stop ≤ length names
  pub place : at ≤ length line
  pub some : 0 < size
  pub lacks : (n : List ℕ) → Spells line at n → Lacks line names high stop n

module _ {line names : List ℕ} {first stop at : ℕ} (d : Looked line names first stop at) where
  pub look-from : first ≤ stop
  look-from = runs-from d.runs

  pub look-start : Looking line names first stop at 16 ((stop - first) / 16) stop
  look-start = record { runs = d.runs; to = omega arith; within = d.within; place = d.place; some = omega arith; lacks = λ n s k f h u. absurd (omega arith) }

module _ {line names : List ℕ} {first stop at size count high : ℕ} (g : Looking line names first stop at size count high) where
  pub look_none : count ≤ 0 → LookTold line names first stop at None
  look_none h =
      let e : high ≡ first = runs_none g.runs (omega arith) in
      record {
        there = λ p z. absurd (let z : ◌≡◌ {A = ℕ} 0 1 = cc in omega arith);
        new = λ z n s. subst (λ (k : ℕ). Lacks line names k stop n) e (g.lacks n s);
      }

  module _ (h : 0 < count) where
    size_room : size ≤ high
    size_room = omega (arith, runs-size g.runs h)

    pub look-due : LastDue line names size count high at
    look-due = record { place = g.place; run = λ o. (runs-odd g.runs o).rises; room = size_room; some = g.some }

    pub look-fits : length names * 8 < 2 ^ 63 → Fits w64 (size + size)
    look-fits l = record { fits = omega (arith, size_room, g.to, g.within) }

    module _ {y : Result ℕ ℕ} (t : LastTold line names size count high at y) where
      pub look-there : {p : ℕ} → y ≡ Ok p → LookTold line names first stop at (Some p)
      look-there {p} e =
          record {
            there = λ q z n s.
                let x : p ≡ q = cc in
                let w = t.there q (e ∙ ap Ok x) n s in
                record { cell = w.cell; from = omega (arith, w.from, runs-from (runs-odd g.runs (t.odd p e)).others); below = omega (arith, w.below, g.to); is = w.is; spells = w.spells };
            new = λ z. absurd (let z : ◌≡◌ {A = ℕ} 0 1 = cc in omega arith);
          }

      pub look-on : {k : ℕ} → y ≡ Err k → Looking line names first stop at (size + size) (count / 2) k
      look-on {k} e =
          go (eqb (count % 2) 0) refl
        where
          go : (b : Bool) → eqb (count % 2) 0 ≡ b → Looking line names first stop at (size + size) (count / 2) k
          go true q =
              let o : count % 2 ≡ 0 = eqb-true (count % 2) 0 q in
              subst (λ (k : ℕ). Looking line names first stop at (size + size) (count / 2) k) (sym (t.none k e o))
              (record { runs = runs-even g.runs (λ i. omega arith); to = g.to; within = g.within; place = g.place; some = omega (arith, g.some); lacks = g.lacks })
          go false q =
              let o : count % 2 ≡ 1 = one_of_lem count (eqb-false (count % 2) 0 q) in
              subst (λ (k : ℕ). Looking line names first stop at (size + size) (count / 2) k) (sym (t.passed k e o))
              (record { runs = (runs-odd g.runs o).others; to = omega (arith, g.to); within = g.within; place = g.place; some = omega (arith, g.some); lacks = λ n s. both o n s })
            where
              both : count % 2 ≡ 1 → (n : List ℕ) → Spells line at n → Lacks line names (high - size) stop n
              both o n s j a b u =
                  split (ltb j high) refl
                where
                  split : (x : Bool) → ltb j high ≡ x → ⊥
                  split true q = t.lacks k e o n s j a (ltb-true j high q) u
                  split false q = g.lacks n s j (ltb-false j high q) b u
