-- A name is looked for by halving
use Rattle.std.specs.Prelude.{Ok, Err}
use Rattle.std.specs.declared.cmp.Ordering.{Ordering}
use Rattle.std.specs.declared.cmp.Ordering.TheVariants.{Less, Equal, Greater}
use mathlib.Core.Path.{◌≡◌, refl, sym, ap, subst, ◌∙◌}
use mathlib.Core.Bool.{Bool, true, false}
use mathlib.Core.List.{List}
use Prim.Native.Nat.{ℕ, ◌+◌, ◌-◌, ◌/◌, ◌<◌, ◌≤◌}
use native.Mathlib.Omega.{arith}
use lib.Dec.{ltb}
use lib.ListN.{length, get_or}
use borrow.Author.Tests.{ltb-true, ltb-false}
use Rattle.jsonread.specs.Spelling.{order_of, OrderTold}
use Rattle.jsonnames.specs.Sorted.{Spells, Named, Rises, FindTold}
use Rattle.jsonnames.proofs.Order.{order-equal, order_flip, order-on}

pub spells_one : {line : List ℕ} {p : ℕ} {m n : List ℕ} → Spells line p m → Spells line p n → m ≡ n
spells_one s t = cc (s.is, t.is)

pub moved_to : {line : List ℕ} {p q : ℕ} {m : List ℕ} → p ≡ q → Spells line p m → Spells line q m
moved_to {line} {m = m} e s = subst (λ (q : ℕ). Spells line q m) e s

-- all below low are less than the name, all from high on are more
pub record Halving (line names : List ℕ) (first end at low high : ℕ) : Type 0 where
  pub sorted : Rises line names first end
  pub place : at ≤ length line
  pub from : first ≤ low
  pub between : low ≤ high
  pub within : high ≤ end
  pub less : (n : List ℕ) → Spells line at n → (k : ℕ) (m : List ℕ) → first ≤ k → k < low → Spells line (get_or names k 0) m → order_of m n ≡ Less
  pub more : (n : List ℕ) → Spells line at n → (k : ℕ) (m : List ℕ) → high ≤ k → k < end → Spells line (get_or names k 0) m → order_of n m ≡ Less

pub half-start : {line names : List ℕ} {first end at : ℕ} → Rises line names first end → at ≤ length line → Halving line names first end at first end
half-start r h =
    record {
      sorted = r;
      place = h;
      from = omega arith;
      between = r.from;
      within = omega arith;
      less = λ n s k m a b t. absurd (omega arith);
      more = λ n s k m a b t. absurd (omega arith);
    }

module _ {line names : List ℕ} {first end at low high : ℕ} (g : Halving line names first end at low high) where
  pub half-none : high ≤ low → FindTold line names first end at (Err low)
  half-none h =
      let e : high ≡ low = omega (arith, g.between) in
      record {
        there = λ p q. absurd (let z : ◌≡◌ {A = ℕ} 0 1 = cc in omega arith);
        from = λ cell q. let z : low ≡ cell = cc in rw z at g.from;
        within = λ cell q. let z : low ≡ cell = cc in omega (arith, g.within);
        before = λ cell q n s. let z : low ≡ cell = cc in let y : high ≡ cell = e ∙ z in record { less = rw z at (g.less n s); more = rw y at (g.more n s) };
      }

  module _ (h : low < high) where
    abbrev mid : ℕ
    mid = low + (high - low) / 2

    mid-from : first ≤ mid
    mid-from = omega (arith, g.from)

    mid-below : mid < end
    mid-below = omega (arith, g.within)

    named : Named line (get_or names mid 0)
    named = g.sorted.named mid mid-from mid-below

    pub half-cell : mid < length names
    half-cell = omega (arith, g.within, g.sorted.within)

    pub half_place : get_or names mid 0 ≤ length line
    half_place = named.spells.within

    module _ {r : Ordering} (t : OrderTold line (get_or names mid 0) at r) where
      tells : {o : Ordering} → r ≡ o → (n : List ℕ) → Spells line at n → order_of named.name n ≡ o
      tells e n s = sym (t named.name n named.spells.rest s.rest named.spells.is s.is) ∙ e

      pub half-same : r ≡ Equal → FindTold line names first end at (Ok (get_or names mid 0))
      half-same e =
          record {
            there =
                λ p q n s.
                let z : get_or names mid 0 ≡ p = cc in
                let y : named.name ≡ n = order-equal named.name n (tells e n s) in
                let w : Spells line (get_or names mid 0) n = rw y at named.spells in
                record { cell = mid; from = mid-from; below = mid-below; is = z; spells = rw z at w };
            from = λ cell q. absurd (let z : ◌≡◌ {A = ℕ} 0 1 = cc in omega arith);
            within = λ cell q. absurd (let z : ◌≡◌ {A = ℕ} 0 1 = cc in omega arith);
            before = λ cell q. absurd (let z : ◌≡◌ {A = ℕ} 0 1 = cc in omega arith);
          }

      below-mid : (n : List ℕ) → order_of named.name n ≡ Less → (k : ℕ) (m : List ℕ) → first ≤ k → k < mid + 1 → Spells line (get_or names k 0) m → order_of m n ≡ Less
      below-mid n l k m a b s =
          go (ltb k mid) refl
        where
          go : (x : Bool) → ltb k mid ≡ x → order_of m n ≡ Less
          go true q = order-on m named.name n (g.sorted.rising k mid m named.name a (ltb-true k mid q) mid-below s named.spells) l
          go false q =
              let e : k ≡ mid = omega (arith, ltb-false k mid q) in
              let y : m ≡ named.name = spells_one (rw e at s) named.spells in
              ap (λ (m : List ℕ). order_of m n) y ∙ l

      from-mid : (n : List ℕ) → order_of n named.name ≡ Less → (k : ℕ) (m : List ℕ) → mid ≤ k → k < end → Spells line (get_or names k 0) m → order_of n m ≡ Less
      from-mid n l k m a b s =
          go (ltb mid k) refl
        where
          go : (x : Bool) → ltb mid k ≡ x → order_of n m ≡ Less
          go true q = order-on n named.name m l (g.sorted.rising mid k named.name m mid-from (ltb-true mid k q) b named.spells s)
          go false q =
              let e : k ≡ mid = omega (arith, ltb-false mid k q) in
              let y : m ≡ named.name = spells_one (rw e at s) named.spells in
              ap (λ (m : List ℕ). order_of n m) y ∙ l

      pub half-less : r ≡ Less → Halving line names first end at (mid + 1) high
      half-less e =
          record {
            sorted = g.sorted;
            place = g.place;
            from = omega (arith, g.from);
            between = omega arith;
            within = g.within;
            less = λ n s k m a b t. below-mid n (tells e n s) k m a b t;
            more = g.more;
          }

      pub half-more : r ≡ Greater → Halving line names first end at low mid
      half-more e =
          record {
            sorted = g.sorted;
            place = g.place;
            from = g.from;
            between = omega arith;
            within = omega (arith, g.within);
            less = g.less;
            more = λ n s k m a b t. from-mid n (order_flip named.name n (tells e n s)) k m a b t;
          }
