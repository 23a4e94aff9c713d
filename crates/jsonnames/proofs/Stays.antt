-- Runs of names, and that they stay as their cells stay
use mathlib.Core.Path.{◌≡◌, refl, subst}
use mathlib.Core.Bool.{Bool, true, false}
use mathlib.Core.List.{List}
use Prim.Native.Nat.{ℕ, ◌+◌, ◌-◌, ◌/◌, ◌%◌, ◌<◌, ◌≤◌}
use native.Mathlib.Omega.{arith}
use lib.Dec.{ltb}
use lib.ListN.{length, get_or}
use borrow.Author.Tests.{ltb-true, ltb-false}
use Rattle.jsonnames.specs.Sorted.{Rises, Runs, over, even, odd, Differ, edge, Sorted, Lacks, Between}
use Rattle.jsonnames.specs.Merges.{Has}
use Rattle.jsonnames.proofs.Order.{order_self}

pub has_wider : {names : List ℕ} {low high p : ℕ} (first end : ℕ) → first ≤ low → high ≤ end → Has names low high p → Has names first end p
has_wider first end f e h = record { cell = h.cell; from = omega (arith, h.from); below = omega (arith, h.below); is = h.is }

-- names that rise differ
pub rises-differ : {line names : List ℕ} {low high : ℕ} → Rises line names low high → Differ line names low high
rises-differ s i j n f h g p q = order_self n (s.rising i j n n f h g p q)

pub between-lacks : {line names : List ℕ} {first end cell : ℕ} {n : List ℕ} → Between line names first end cell n → Lacks line names first end n
between-lacks {line} {names} {first} {end} {cell} {n} b k a h u =
    go (ltb k cell) refl
  where
    go : (x : Bool) → ltb k cell ≡ x → ⊥
    go true q = order_self n (b.less k n a (ltb-true k cell q) u)
    go false q = order_self n (b.more k n (ltb-false k cell q) h u)

pub rises-kept : {line names after : List ℕ} {low high : ℕ} → length after ≡ length names → ((k : ℕ) → low ≤ k → k < high → get_or after k 0 ≡ get_or names k 0) → Rises line names low high → Rises line after low high
rises-kept {line} {names} {after} {low} {high} l e s =
    record {
      from = s.from;
      within = omega (arith, s.within);
      named = λ k f h. rw (e k f h) (s.named k f h);
      rising = λ i j m n f h g p q. s.rising i j m n f h g (rw (e i f (omega arith)) at p) (rw (e j (omega arith) g) at q);
    }

pub rises-none : (line names : List ℕ) {low high : ℕ} → low ≡ high → high ≤ length names → Rises line names low high
rises-none line names e h =
    record {
      from = omega arith;
      within = h;
      named = λ k f l. absurd (omega arith);
      rising = λ i j m n f l g p q. absurd (omega arith);
    }

pub runs-from : {line names : List ℕ} {first size count high : ℕ} → Runs line names first size count high → first ≤ high
runs-from (over c h) = omega arith
runs-from (even half c r) = runs-from r
runs-from (odd half low c h s r) = omega (arith, runs-from r)

pub runs-size : {line names : List ℕ} {first size count high : ℕ} → Runs line names first size count high → 0 < count → first + size ≤ high
runs-size (over c h) p = absurd (omega arith)
runs-size (even half c r) p = omega (arith, runs-size r (omega arith))
runs-size (odd half low c h s r) p = omega (arith, runs-from r)

pub runs_none : {line names : List ℕ} {first size count high : ℕ} → Runs line names first size count high → count ≡ 0 → high ≡ first
runs_none (over c h) p = h
runs_none (even half c r) p = runs_none r (omega arith)
runs_none (odd half low c h s r) p = absurd (omega arith)

pub runs-kept : {line names after : List ℕ} {first size count high : ℕ} → length after ≡ length names → ((k : ℕ) → first ≤ k → k < high → get_or after k 0 ≡ get_or names k 0) → Runs line names first size count high → Runs line after first size count high
runs-kept l e (over c h) = over c h
runs-kept l e (even half c r) = even half c (runs-kept l e r)
runs-kept l e (odd half low c h s r) = odd half low c h (rises-kept l (λ k f g. e k (omega (arith, runs-from r)) g) s) (runs-kept l (λ k f g. e k f (omega arith)) r)

-- a last run of its size, and the others
pub record Odd (line names : List ℕ) (first size count high : ℕ) : Type 0 where
  pub rises : Rises line names (high - size) high
  pub others : Runs line names first (size + size) (count / 2) (high - size)

pub runs-odd : {line names : List ℕ} {first size count high : ℕ} → Runs line names first size count high → count % 2 ≡ 1 → Odd line names first size count high
runs-odd (over c h) p = absurd (omega arith)
runs-odd (even half c r) p = absurd (omega arith)
runs-odd {line} {names} {first} {size} {count} {high} (odd half low c h s r) p =
    let z : low ≡ high - size = omega arith in
    let y : half ≡ count / 2 = omega arith in
    record {
      rises = subst (λ (k : ℕ). Rises line names k high) z s;
      others = subst (λ (k : ℕ). Runs line names first (size + size) (count / 2) k) z (subst (λ (k : ℕ). Runs line names first (size + size) k low) y r);
    }

pub runs-even : {line names : List ℕ} {first size count high : ℕ} → Runs line names first size count high → (count % 2 ≡ 1 → ⊥) → Runs line names first (size + size) (count / 2) high
runs-even {count = count} (over c h) p = over {count = count / 2} (omega arith) h
runs-even {line} {names} {first} {size} {count} {high} (even half c r) p = let y : half ≡ count / 2 = omega arith in subst (λ (k : ℕ). Runs line names first (size + size) k high) y r
runs-even (odd half low c h s r) p = absurd (p (omega arith))

pub sorted-kept : {line names after : List ℕ} {first end : ℕ} → length after ≡ length names → ((k : ℕ) → k < end → get_or after k 0 ≡ get_or names k 0) → Sorted line names first end → Sorted line after first end
sorted-kept l e s =
    record {
      from = s.from;
      within = omega (arith, s.within);
      differ = λ i j n f h g p q. s.differ i j n f h g (rw (e i (omega arith)) at p) (rw (e j g) at q);
      last = rises-kept l (λ k f h. e k h) s.last;
      runs = runs-kept l (λ k f h. e k (omega arith)) s.runs;
    }

pub sorted_none : (line names : List ℕ) (first : ℕ) → first ≤ length names → Sorted line names first first
sorted_none line names first h =
    record {
      from = omega arith;
      within = h;
      differ = λ i j n f l g p q. absurd (omega arith);
      last = rises-none line names (omega arith) h;
      runs = over {count = (first - first) / 16} {high = edge first first} (omega arith) (omega arith);
    }
