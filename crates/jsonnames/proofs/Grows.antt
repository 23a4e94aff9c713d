-- A new name in a run, and a run put into another name by name
use Rattle.std.specs.Prelude.{Result, Ok, Err}
use Rattle.std.specs.declared.cmp.Ordering.TheVariants.{Less}
use mathlib.Core.Path.{◌≡◌, refl, sym, ap, subst, ◌∙◌}
use mathlib.Core.Bool.{Bool, true, false}
use mathlib.Core.List.{List}
use Prim.Native.Nat.{ℕ, ◌+◌, ◌-◌, ◌<◌, ◌≤◌}
use native.Mathlib.Omega.{arith}
use lib.Dec.{ltb}
use lib.ListN.{length, get_or}
use borrow.Author.Tests.{ltb-true, ltb-false}
use Rattle.jsonread.specs.Spelling.{order_of}
use Rattle.jsonnames.specs.Sorted.{Spells, Named, Rises, Between, FindTold, Inserted}
use Rattle.jsonnames.specs.Merges.{Has, Pair, Merged}
use Rattle.jsonnames.specs.Runs.{Came, new, old}
use Rattle.jsonnames.proofs.Halves.{spells_one, moved_to}
use Rattle.jsonnames.proofs.Stays.{has_wider}

-- where a cell's place comes from after an insertion: it is the new one's, or an old one's
data Origin (names : List ℕ) (first end cell : ℕ) (at : ℕ) (k p : ℕ) : Type 0 where
  fresh : k ≡ cell → p ≡ at → Origin names first end cell at k p
  lower : k < cell → p ≡ get_or names k 0 → Origin names first end cell at k p
  upper : (j : ℕ) → cell ≤ j → k ≡ j + 1 → j < end → p ≡ get_or names j 0 → Origin names first end cell at k p

module _ {names after : List ℕ} {cell end at : ℕ} (i : Inserted cell end at names after) where
  origin : (first k : ℕ) → k < end + 1 → Origin names first end cell at k (get_or after k 0)
  origin first k h =
      go (ltb k cell) (ltb cell k) refl refl
    where
      go : (x y : Bool) → ltb k cell ≡ x → ltb cell k ≡ y → Origin names first end cell at k (get_or after k 0)
      go true y p q = lower (ltb-true k cell p) (i.below k (ltb-true k cell p))
      go false true p q =
          let l : cell < k = ltb-true cell k q in
          let e : k - 1 + 1 ≡ k = omega arith in
          upper (k - 1) (omega arith) (sym e) (omega arith) (sym (ap (λ (j : ℕ). get_or after j 0) e) ∙ i.moved (k - 1) (omega arith) (omega arith))
      go false false p q =
          let e : k ≡ cell = omega (arith, ltb-false k cell p, ltb-false cell k q) in
          fresh e (ap (λ (j : ℕ). get_or after j 0) e ∙ i.new)

module _ {line names after : List ℕ} {first end cell at : ℕ} {n : List ℕ} (g : Rises line names first end) (f : first ≤ cell) (t : cell ≤ end) (room : end < length names) (s : Spells line at n) (b : Between line names first end cell n) (i : Inserted cell end at names after) where
  named-still : (k : ℕ) → first ≤ k → k < end + 1 → Named line (get_or after k 0)
  named-still k a h =
      elim (origin i first k h) [
        | fresh e p ↦ record { name = n; spells = moved_to (sym p) s }
        | lower l p ↦ subst (λ (q : ℕ). Named line q) (sym p) (g.named k a (omega arith))
        | upper j l e m p ↦ subst (λ (q : ℕ). Named line q) (sym p) (g.named j (omega arith) m)
      ]

  from-fresh : (y : ℕ) (m o : List ℕ) → cell < y → y < end + 1 → Spells line at m → Spells line (get_or after y 0) o → order_of m o ≡ Less
  from-fresh y m o h l u v =
      let z : n ≡ m = spells_one s u in
      elim (origin i first y l) [
        | fresh e p ↦ absurd (omega arith)
        | lower k p ↦ absurd (omega arith)
        | upper j k e d p ↦ rw z at (b.more j o k d (moved_to p v))
      ]

  from-lower : (x y : ℕ) (m o : List ℕ) → first ≤ x → x < cell → x < y → y < end + 1 → Spells line (get_or names x 0) m → Spells line (get_or after y 0) o → order_of m o ≡ Less
  from-lower x y m o a c h l u v =
      elim (origin i first y l) [
        | fresh e p ↦ (let z : n ≡ o = spells_one s (moved_to p v) in rw z at (b.less x m a c u))
        | lower k p ↦ g.rising x y m o a h (omega arith) u (moved_to p v)
        | upper j k e d p ↦ g.rising x j m o a (omega arith) d u (moved_to p v)
      ]

  from-upper : (j y : ℕ) (m o : List ℕ) → cell ≤ j → j < end → j + 1 < y → y < end + 1 → Spells line (get_or names j 0) m → Spells line (get_or after y 0) o → order_of m o ≡ Less
  from-upper j y m o a c h l u v =
      elim (origin i first y l) [
        | fresh e p ↦ absurd (omega arith)
        | lower k p ↦ absurd (omega arith)
        | upper z k e d p ↦ g.rising j z m o (omega arith) (omega arith) d u (moved_to p v)
      ]

  pub rises-still : Rises line after first (end + 1)
  rises-still =
      record {
        from = omega arith;
        within = omega (arith, i.long);
        named = named-still;
        rising =
            λ x y m o a h l u v.
            elim (origin i first x (omega arith)) [
              | fresh e p ↦ from-fresh y m o (omega arith) l (moved_to p u) v
              | lower k p ↦ from-lower x y m o a k h l (moved_to p u) v
              | upper j k e d p ↦ from-upper j y m o k d (omega arith) l (moved_to p u) v
            ];
      }

-- ---- the places after an insertion

module _ {names after : List ℕ} {first end cell at : ℕ} (f : first ≤ cell) (t : cell ≤ end) (i : Inserted cell end at names after) where
  pub inserted_kept : (k : ℕ) → first ≤ k → k < end → Has after first (end + 1) (get_or names k 0)
  inserted_kept k a h =
      go (ltb k cell) refl
    where
      go : (x : Bool) → ltb k cell ≡ x → Has after first (end + 1) (get_or names k 0)
      go true q = record { cell = k; from = a; below = omega arith; is = i.below k (ltb-true k cell q) }
      go false q = record { cell = k + 1; from = omega arith; below = omega arith; is = i.moved k (ltb-false k cell q) h }

  pub inserted_new : Has after first (end + 1) at
  inserted_new = record { cell = cell; from = f; below = omega arith; is = i.new }

  pub inserted_came : (k : ℕ) → first ≤ k → k < end + 1 → Came names first end at (get_or after k 0)
  inserted_came k a h =
      elim (origin i first k h) [
        | fresh e p ↦ new p
        | lower l p ↦ old (record { cell = k; from = a; below = omega arith; is = sym p })
        | upper j l e d p ↦ old (record { cell = j; from = omega arith; below = d; is = sym p })
      ]

-- ---- each name of the upper run put into the lower one

pub record Putting (line names after : List ℕ) (low mid high j : ℕ) : Type 0 where
  pub pair : Pair line names low mid high
  pub from : mid ≤ j
  pub to : j ≤ high
  pub long : length after ≡ length names
  pub below : (k : ℕ) → k < low → get_or after k 0 ≡ get_or names k 0
  pub left : (k : ℕ) → j ≤ k → k < high → get_or after k 0 ≡ get_or names k 0
  pub rises : Rises line after low j
  pub kept : (k : ℕ) → low ≤ k → k < j → Has after low j (get_or names k 0)
  pub old : (k : ℕ) → low ≤ k → k < j → Has names low j (get_or after k 0)

pub put-start : {line names : List ℕ} {low mid high : ℕ} → Pair line names low mid high → Putting line names names low mid high mid
put-start p =
    record {
      pair = p;
      from = omega arith;
      to = p.upper.from;
      long = refl;
      below = λ k h. refl;
      left = λ k f h. refl;
      rises = p.lower;
      kept = λ k f h. record { cell = k; from = f; below = h; is = refl };
      old = λ k f h. record { cell = k; from = f; below = h; is = refl };
    }

module _ {line names after : List ℕ} {low mid high j : ℕ} (g : Putting line names after low mid high j) where
  pub put-done : high ≤ j → Merged line names after low high
  put-done h =
      let e : j ≡ high = omega (arith, g.to) in
      record {
        long = g.long;
        rises = subst (λ (x : ℕ). Rises line after low x) e g.rises;
        below = g.below;
        kept = λ k f l. has_wider low high (omega arith) g.to (g.kept k f (omega arith));
        old = λ k f l. has_wider low high (omega arith) g.to (g.old k f (omega arith));
      }

  module _ (h : j < high) where
    pub put-cell : j < length after
    put-cell = omega (arith, g.pair.upper.within, g.long)

    named : Named line (get_or after j 0)
    named = subst (λ (p : ℕ). Named line p) (sym (g.left j (omega arith) h)) (g.pair.upper.named j g.from h)

    pub put-place : get_or after j 0 ≤ length line
    put-place = named.spells.within

    module _ {y : Result ℕ ℕ} (f : FindTold line after low j (get_or after j 0) y) where
      pub put-within : {cell : ℕ} → y ≡ Err cell → cell ≤ j
      put-within e = f.within _ e

      pub put-there : {p : ℕ} → y ≡ Ok p → Merged line names after low high
      put-there e =
          let d = f.there _ e named.name named.spells in
          let o = g.old d.cell d.from d.below in
          absurd (g.pair.differ o.cell j named.name o.from o.below h (moved_to (sym (o.is ∙ d.is)) d.spells) (moved_to (g.left j (omega arith) h) named.spells))

      pub put_on : {cell : ℕ} {next : List ℕ} → y ≡ Err cell → Inserted cell j (get_or after j 0) after next → Putting line names next low mid high (j + 1)
      put_on {cell} {next} e i =
          let a = f.from _ e in
          let w = f.within _ e in
          let b = f.before _ e named.name named.spells in
          record {
            pair = g.pair;
            from = omega (arith, g.from);
            to = omega arith;
            long = i.long ∙ g.long;
            below = λ k l. i.below k (omega arith) ∙ g.below k l;
            left = λ k l m. i.beyond k (omega arith) ∙ g.left k (omega arith) m;
            rises = rises-still g.rises a w put-cell named.spells b i;
            kept = λ k l m. go-kept a w i k l m (ltb k j) refl;
            old = λ k l m. go-old a w i k l m;
          }
        where
          go-kept : low ≤ cell → cell ≤ j → Inserted cell j (get_or after j 0) after next → (k : ℕ) → low ≤ k → k < j + 1 → (x : Bool) → ltb k j ≡ x → Has next low (j + 1) (get_or names k 0)
          go-kept a w i k l m true q =
              let o = g.kept k l (ltb-true k j q) in
              let z = inserted_kept a w i o.cell o.from o.below in
              record { cell = z.cell; from = z.from; below = z.below; is = z.is ∙ o.is }
          go-kept a w i k l m false q =
              let d : k ≡ j = omega (arith, ltb-false k j q) in
              let z = inserted_new a w i in
              record { cell = z.cell; from = z.from; below = z.below; is = z.is ∙ g.left j (omega arith) h ∙ ap (λ (x : ℕ). get_or names x 0) (sym d) }

          go-old : low ≤ cell → cell ≤ j → Inserted cell j (get_or after j 0) after next → (k : ℕ) → low ≤ k → k < j + 1 → Has names low (j + 1) (get_or next k 0)
          go-old a w i k l m =
              elim (inserted_came a w i k l m) [
                | new p ↦ record { cell = j; from = omega (arith, g.from, g.pair.lower.from); below = omega arith; is = sym (p ∙ g.left j (omega arith) h) }
                | old o ↦ (let u = g.old o.cell o.from o.below in record { cell = u.cell; from = u.from; below = omega (arith, u.below); is = u.is ∙ o.is })
              ]
