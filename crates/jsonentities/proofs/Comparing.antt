-- An entity's type and id, two entities compared, and the cell of an entity found by halving
use mathlib.Core.Path.{◌≡◌, refl, sym, ap, ◌∙◌}
use mathlib.Core.Bool.{Bool, true, false}
use mathlib.Core.List.{List, ◌∷◌}
use Prim.Native.Nat.{ℕ, ◌+◌, ◌-◌, ◌/◌, ◌<◌, ◌≤◌}
use native.Mathlib.Omega.{arith}
use lib.Dec.{ltb}
use lib.ListN.{length, drop, get_or}
use borrow.Author.Tests.{ltb-true, ltb-false}
use Rattle.jsontext.specs.Reading.{got, blanks}
use Rattle.jsontext.specs.Strings.{string}
use Rattle.jsontext.specs.Events.{Item}
use Rattle.jsontrace.specs.Order.{item_before}
use Rattle.std.specs.declared.cmp.Ordering.{Ordering}
use Rattle.std.specs.declared.cmp.Ordering.TheVariants.{Less, Equal, Greater}
use Rattle.jsonread.specs.Spelling.{order_of, OrderTold}
use Rattle.jsonread.specs.Told.{Blanks}
use Rattle.jsonruns.specs.Good.{Good, Ends, Signed, Past}
use Rattle.jsonruns.proofs.Runs.{same-got}
use Rattle.jsoncount.specs.Sizes.{entity_read}
use Rattle.jsoncount.proofs.Triples.{byte-below, byte_left, Tripled, tripled}
use Rattle.jsonnames.specs.Sorted.{Inserted}
use Rattle.jsonnames.proofs.Order.{order-equal, order_flip}
use Rattle.jsonsort.proofs.Cells.{less-before}
use Rattle.jsonentities.specs.declared.sorting.Pair.{Pair}
use Rattle.jsonentities.specs.Order.{before-type, before-id, behind-type, behind-id, behind-equal, item-not}
use Rattle.jsonentities.specs.Sort.{Stands, Keys, PairTold, BeforeTold, InOrder, CellTold, ItemPut}

-- ---- type and id

module _ {line : List ℕ} {at : ℕ} (g : Good line at (entity_read (drop at line))) where
  it : Tripled (drop at line) g.what g.rest
  it = tripled (drop at line) g.is

  pub pair-past : at + 1 ≤ length line
  pair-past = omega (arith, byte-below line at it.bracket)

  module _ {a : ℕ} (l : Blanks line (at + 1) a) where
    at-type : {i : Item} {rest : List ℕ} (k : Tripled (drop at line) i rest) → string (drop a line) ≡ got i.type k.after-type
    at-type k = ap string (l.is ∙ ap blanks (byte_left line at k.bracket)) ∙ k.type-is

    pub pair-type : Good line a (string (drop a line))
    pair-type = record { what = g.what.type; rest = it.after-type; within = l.within; is = at-type it }

    module _ {e : ℕ} (p : Ends line a e (string (drop a line))) where
      comma-here : {i : Item} {rest : List ℕ} (k : Tripled (drop at line) i rest) → blanks (drop e line) ≡ 44 ∷ k.to-id
      comma-here {i} k = ap blanks (sym (p.is i.type k.after-type (at-type k))) ∙ k.first

      pub pair-comma : Signed line e
      pair-comma = record { within = p.within; sign = 44; rest = it.to-id; is = comma-here it }

      pub pair-told : {w : ℕ} → Past line e w → PairTold line at (record { kind = a; id = w })
      pair-told v = record {
        kind-within = l.within;
        id-within = v.within;
        is = λ i rest f. let k = tripled (drop at line) f in record { after-type = k.after-type; after-id = k.after-id; type-is = at-type k; id-is = ap string (v.is 44 k.to-id (comma-here k)) ∙ k.id-is };
      }

-- ---- two entities

module _ {line : List ℕ} {y x : ℕ} {a b : Pair} (p : PairTold line y a) (q : PairTold line x b) where
  keys-a : {i : Item} → Stands line y i → Keys line a i
  keys-a {i} s = p.is i s.rest s.is

  keys-b : {i : Item} → Stands line x i → Keys line b i
  keys-b {i} s = q.is i s.rest s.is

  module _ {o : Ordering} (t : OrderTold line a.kind b.kind o) where
    types : {i j : Item} → Stands line y i → Stands line x j → o ≡ order_of i.type j.type
    types {i} {j} s u = t i.type j.type (keys-a s).after-type (keys-b u).after-type (keys-a s).type-is (keys-b u).type-is

    pub type-less : o ≡ Less → BeforeTold line y x true
    type-less e = record { is = λ i j s u. sym (before-type i j (less-before i.type j.type (sym (types s u) ∙ e))) }

    pub type-more : o ≡ Greater → BeforeTold line y x false
    type-more e = record { is = λ i j s u. sym (behind-type i j (less-before j.type i.type (order_flip i.type j.type (sym (types s u) ∙ e)))) }

    module _ (e : o ≡ Equal) {r : Ordering} (v : OrderTold line a.id b.id r) where
      same-type : {i j : Item} → Stands line y i → Stands line x j → i.type ≡ j.type
      same-type {i} {j} s u = order-equal i.type j.type (sym (types s u) ∙ e)

      ids : {i j : Item} → Stands line y i → Stands line x j → r ≡ order_of i.id j.id
      ids {i} {j} s u = v i.id j.id (keys-a s).after-id (keys-b u).after-id (keys-a s).id-is (keys-b u).id-is

      pub id-less : r ≡ Less → BeforeTold line y x true
      id-less f = record { is = λ i j s u. sym (before-id i j (same-type s u) (less-before i.id j.id (sym (ids s u) ∙ f))) }

      pub id_same : r ≡ Equal → BeforeTold line y x false
      id_same f = record { is = λ i j s u. sym (behind-equal i j (same-type s u) (order-equal i.id j.id (sym (ids s u) ∙ f))) }

      pub id-more : r ≡ Greater → BeforeTold line y x false
      id-more f = record { is = λ i j s u. sym (behind-id i j (same-type s u) (less-before j.id i.id (order_flip i.id j.id (sym (ids s u) ∙ f)))) }

-- ---- halving

stands_one : {line : List ℕ} {p : ℕ} {a b : Item} → Stands line p a → Stands line p b → a ≡ b
stands_one s t = same-got s.is t.is

-- not before those below low, before those from high on
pub record Halving (line names : List ℕ) (end at low high : ℕ) : Type 0 where
  pub order : InOrder line names end
  pub place : Good line at (entity_read (drop at line))
  pub between : low ≤ high
  pub within : high ≤ end
  pub below : (x : Item) → Stands line at x → (k : ℕ) (a : Item) → k < low → Stands line (get_or names k 0) a → item_before x a ≡ false
  pub above : (x : Item) → Stands line at x → (k : ℕ) (a : Item) → high ≤ k → k < end → Stands line (get_or names k 0) a → item_before x a ≡ true

pub half-start : {line names : List ℕ} {end at : ℕ} → InOrder line names end → Good line at (entity_read (drop at line)) → Halving line names end at 0 end
half-start r g = record {
  order = r;
  place = g;
  between = omega arith;
  within = omega arith;
  below = λ x s k a h t. absurd (omega arith);
  above = λ x s k a h l t. absurd (omega arith);
}

module _ {line names : List ℕ} {end at low high : ℕ} (g : Halving line names end at low high) where
  pub half-none : high ≤ low → CellTold line names end at low
  half-none h =
      let e : high ≡ low = omega (arith, g.between) in
      record { within = omega (arith, g.within); below = g.below; above = rw e at g.above }

  module _ (h : low < high) where
    abbrev mid : ℕ
    mid = low + (high - low) / 2

    pub half-cell : mid < length names
    half-cell = omega (arith, g.within, g.order.within)

    pub half_place : Good line (get_or names mid 0) (entity_read (drop (get_or names mid 0) line))
    half_place = g.order.good mid (omega (arith, g.within))

    pub half-good : Good line at (entity_read (drop at line))
    half-good = g.place

    stood : Stands line (get_or names mid 0) half_place.what
    stood = record { rest = half_place.rest; within = half_place.within; is = half_place.is }

    module _ {r : Bool} (t : BeforeTold line at (get_or names mid 0) r) where
      tells : {b : Bool} → r ≡ b → (x : Item) → Stands line at x → item_before x half_place.what ≡ b
      tells e x s = sym (t.is x half_place.what s stood) ∙ e

      pub half-less : r ≡ true → Halving line names end at low mid
      half-less e = record {
        order = g.order;
        place = g.place;
        between = omega arith;
        within = omega (arith, g.within);
        below = g.below;
        above = λ x s k a l m u. from x (tells e x s) k a l m u (ltb mid k) refl;
      }
        where
          from : (x : Item) → item_before x half_place.what ≡ true → (k : ℕ) (a : Item) → mid ≤ k → k < end → Stands line (get_or names k 0) a → (b : Bool) → ltb mid k ≡ b → item_before x a ≡ true
          from x f k a l m u true q = past x a f (g.order.rising mid k half_place.what a (ltb-true mid k q) m stood u) (item_before x a) refl
            where
              past : (x a : Item) → item_before x half_place.what ≡ true → item_before a half_place.what ≡ false → (b : Bool) → item_before x a ≡ b → item_before x a ≡ true
              past x a f n true v = v
              past x a f n false v = let w : true ≡ false = sym f ∙ item-not x a half_place.what v n in absurd (let z : ◌≡◌ {A = ℕ} 0 1 = cc in omega arith)
          from x f k a l m u false q =
              let z : k ≡ mid = omega (arith, ltb-false mid k q) in
              let s : Stands line (get_or names mid 0) a = rw z at u in
              ap (item_before x) (stands_one s stood) ∙ f

      pub half-more : r ≡ false → Halving line names end at (mid + 1) high
      half-more e = record {
        order = g.order;
        place = g.place;
        between = omega arith;
        within = g.within;
        below = λ x s k a l u. to x (tells e x s) k a l u (ltb k mid) refl;
        above = g.above;
      }
        where
          to : (x : Item) → item_before x half_place.what ≡ false → (k : ℕ) (a : Item) → k < mid + 1 → Stands line (get_or names k 0) a → (b : Bool) → ltb k mid ≡ b → item_before x a ≡ false
          to x f k a l u true q = item-not x half_place.what a f (g.order.rising k mid a half_place.what (ltb-true k mid q) (omega (arith, g.within)) u stood)
          to x f k a l u false q =
              let z : k ≡ mid = omega (arith, ltb-false k mid q) in
              let s : Stands line (get_or names mid 0) a = rw z at u in
              ap (item_before x) (stands_one s stood) ∙ f

-- ---- put into its cell

pub keep-within : {line names : List ℕ} {end at cell : ℕ} → CellTold line names end at cell → cell ≤ end
keep-within t = t.within

pub keep-put : {line names after : List ℕ} {end at cell : ℕ} → CellTold line names end at cell → Inserted cell end at names after → ItemPut line names after end at
keep-put t i = record { cell = _; told = t; inserted = i }
