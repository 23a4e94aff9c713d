-- Names kept in the lower cells alone
use Rattle.std.specs.Prelude.{Option, Some, None}
use mathlib.Core.Path.{◌≡◌, refl, sym, ap, subst, ◌∙◌}
use mathlib.Core.List.{List, ◌++◌}
use Prim.Native.Nat.{ℕ, ◌+◌, ◌-◌, ◌<◌, ◌≤◌}
use native.Mathlib.Omega.{arith}
use lib.ListN.{length, take, drop, get_or, take-append-drop, length-append, length-drop, get_or-append}
use lib.Seq.{length-take-le, get_or-append-add}
use Rattle.jsonnames.specs.Sorted.{Spells, Rises, Runs, over, even, odd, Sorted}
use Rattle.jsonnames.specs.Runs.{new, old, Grown, Stored}

-- ---- names in other cells

rises-onto : {line a b : List ℕ} {low high : ℕ} → high ≤ length b → ((k : ℕ) → k < high → get_or b k 0 ≡ get_or a k 0) → Rises line a low high → Rises line b low high
rises-onto {line} w e s =
    record {
      from = s.from;
      within = w;
      named = λ k f h. rw (e k h) (s.named k f h);
      rising = λ i j m n f h g p q. s.rising i j m n f h g (rw (e i (omega arith)) at p) (rw (e j g) at q);
    }

runs-onto : {line a b : List ℕ} {first size count high : ℕ} → high ≤ length b → ((k : ℕ) → k < high → get_or b k 0 ≡ get_or a k 0) → Runs line a first size count high → Runs line b first size count high
runs-onto w e (over c h) = over c h
runs-onto w e (even half c r) = even half c (runs-onto w e r)
runs-onto w e (odd half low c h s r) = odd half low c h (rises-onto w e s) (runs-onto (omega arith) (λ k g. e k (omega arith)) r)

pub sorted-onto : {line a b : List ℕ} {first end : ℕ} → end ≤ length b → ((k : ℕ) → k < end → get_or b k 0 ≡ get_or a k 0) → Sorted line a first end → Sorted line b first end
sorted-onto w e s =
    record {
      from = s.from;
      within = w;
      differ = λ i j n f h g p q. s.differ i j n f h g (rw (e i (omega arith)) at p) (rw (e j g) at q);
      last = rises-onto w e s.last;
      runs = runs-onto (omega arith) (λ k h. e k (omega arith)) s.runs;
    }

-- ---- a part of the cells, lent

module _ (names : List ℕ) {from : ℕ} (h : from ≤ length names) where
  pub part-long : length (take from names) ≡ from
  part-long = length-take-le from names h

  pub part-cell : (k : ℕ) → k < from → get_or (take from names) k 0 ≡ get_or names k 0
  part-cell k l = sym (get_or-append (take from names) (drop from names) 0 k (omega (arith, part-long))) ∙ ap (λ (l : List ℕ). get_or l k 0) (take-append-drop from names)

  module _ (part : List ℕ) (e : length part ≡ from) where
    pub whole-cell : (k : ℕ) → k < from → get_or (part ++ drop from names) k 0 ≡ get_or part k 0
    whole-cell k l = get_or-append part (drop from names) 0 k (omega arith)

    pub whole-upper : (k : ℕ) → from ≤ k → get_or (part ++ drop from names) k 0 ≡ get_or names k 0
    whole-upper k l =
        let z : k ≡ length part + (k - from) = omega arith in
        let y : length (take from names) + (k - from) ≡ k = omega (arith, part-long) in
        ap (λ (j : ℕ). get_or (part ++ drop from names) j 0) z ∙ get_or-append-add part (drop from names) (k - from) 0
        ∙ sym (get_or-append-add (take from names) (drop from names) (k - from) 0)
        ∙ ap (λ (j : ℕ). get_or (take from names ++ drop from names) j 0) y
        ∙ ap (λ (l : List ℕ). get_or l k 0) (take-append-drop from names)

    pub whole_long : length (part ++ drop from names) ≡ length names
    whole_long = length-append part (drop from names) ∙ (let z : length part + length (drop from names) ≡ length names = omega (arith, length-drop from names) in z)

-- ---- a name kept in them

pub stored-long : {line names after : List ℕ} {first end at : ℕ} {r : Option ℕ} → Stored line names after first end at r → length after ≡ length names
stored-long {line} {names} {after} {first} {end} {at} {r} s =
    go r s
  where
    go : (x : Option ℕ) → Stored line names after first end at x → length after ≡ length names
    go (Some p) t = ap length (t.same p refl)
    go None t = (t.new refl).long

pub stored-below : {line names after : List ℕ} {first end at : ℕ} {r : Option ℕ} → Stored line names after first end at r → (k : ℕ) → k < first → get_or after k 0 ≡ get_or names k 0
stored-below {line} {names} {after} {first} {end} {at} {r} s k h =
    go r s
  where
    go : (x : Option ℕ) → Stored line names after first end at x → get_or after k 0 ≡ get_or names k 0
    go (Some p) t = ap (λ (l : List ℕ). get_or l k 0) (t.same p refl)
    go None t = (t.new refl).below k h

-- cells past the new name may change
pub grown-more : {line names mid after : List ℕ} {first end at : ℕ} → length after ≡ length mid → ((k : ℕ) → k < end + 1 → get_or after k 0 ≡ get_or mid k 0) → Grown line names mid first end at → Grown line names after first end at
grown-more {line} {names} {mid} {after} {first} {end} {at} l e g =
    record {
      long = l ∙ g.long;
      lacks = g.lacks;
      sorted = sorted-onto (omega (arith, g.sorted.within)) e g.sorted;
      below = λ k h. e k (omega (arith, g.sorted.from)) ∙ g.below k h;
      kept = λ k a h. let w = g.kept k a h in record { cell = w.cell; from = w.from; below = w.below; is = e w.cell w.below ∙ w.is };
      added = let w = g.added in record { cell = w.cell; from = w.from; below = w.below; is = e w.cell w.below ∙ w.is };
      came = λ k a h.
          elim (g.came k a h) [
            | new q ↦ new (e k h ∙ q)
            | old o ↦ old (record { cell = o.cell; from = o.from; below = o.below; is = o.is ∙ sym (e k h) })
          ];
    }

-- those that were lent and others
grown_of : {line a names after : List ℕ} {first end at : ℕ} → length after ≡ length names → length a ≤ length names → end < length a → ((k : ℕ) → k < length a → get_or a k 0 ≡ get_or names k 0) → {part : List ℕ} → ((k : ℕ) → k < length a → get_or after k 0 ≡ get_or part k 0) → Grown line a part first end at → Grown line names after first end at
grown_of {line} {a} {names} {after} {first} {end} {at} l m r e {part} d g =
    record {
      long = l;
      lacks = λ n u k b h v. g.lacks n u k b h (subst (λ (p : ℕ). Spells line p n) (sym (e k (omega arith))) v);
      sorted = sorted-onto (omega arith) (λ k h. d k (omega arith)) g.sorted;
      below = λ k h. d k (omega (arith, g.sorted.from)) ∙ g.below k h ∙ e k (omega (arith, g.sorted.from));
      kept = λ k b h. let w = g.kept k b h in record { cell = w.cell; from = w.from; below = w.below; is = d w.cell (omega (arith, w.below)) ∙ w.is ∙ e k (omega arith) };
      added = let w = g.added in record { cell = w.cell; from = w.from; below = w.below; is = d w.cell (omega (arith, w.below)) ∙ w.is };
      came = λ k b h.
          elim (g.came k b h) [
            | new q ↦ new (d k (omega arith) ∙ q)
            | old o ↦ old (record { cell = o.cell; from = o.from; below = o.below; is = sym (e o.cell (omega (arith, o.below))) ∙ o.is ∙ sym (d k (omega arith)) })
          ];
    }

module _ (names : List ℕ) {line part : List ℕ} {first end from at : ℕ} {r : Option ℕ} (h : from ≤ length names) (l : end < from) (s : Stored line (take from names) part first end at r) where
  pub stored-part : length part ≡ from
  stored-part = stored-long s ∙ part-long names h

  pub stored-whole : Stored line names (part ++ drop from names) first end at r
  stored-whole =
      record {
        there = λ p q n u. let w = s.there p q n u in record { cell = w.cell; from = w.from; below = w.below; is = sym (part-cell names h w.cell (omega (arith, w.below))) ∙ w.is; spells = w.spells };
        same = λ p q. ap (λ (l : List ℕ). l ++ drop from names) (s.same p q) ∙ take-append-drop from names;
        new = λ q.
            grown_of (whole_long names h part stored-part) (omega (arith, part-long names h)) (omega (arith, part-long names h)) (λ k g. part-cell names h k (omega (arith, part-long names h))) (λ k g. whole-cell names h part stored-part k (omega (arith, part-long names h))) (s.new q);
      }
