-- Entities put in order, one after another
use mathlib.Core.Path.{◌≡◌, refl, sym, ap, subst, ◌∙◌}
use mathlib.Core.Bool.{Bool, true, false}
use mathlib.Core.List.{List, [], ◌∷◌}
use Prim.Native.Nat.{ℕ, suc, ◌+◌, ◌-◌, ◌<◌, ◌≤◌}
use native.Mathlib.Omega.{arith}
use lib.Dec.{ltb}
use lib.ListN.{length, drop, get_or}
use borrow.Author.Tests.{ltb-true, ltb-false}
use Rattle.std.specs.Prelude.{Result, Ok, Err}
use Rattle.laws.specs.Lists.{Every}
use Rattle.jsontext.specs.Reading.{got}
use Rattle.jsontext.specs.Values.{array}
use Rattle.jsontext.specs.Events.{Item}
use Rattle.jsontrace.specs.Order.{item_before, ordered_entities}
use Rattle.jsonruns.specs.Good.{Good, Ends, Signed, BeginTold, PartTold}
use Rattle.jsonruns.proofs.Signs.{ahead, ahead-less}
use Rattle.jsonruns.specs.Run.{Listed, Item as ItemOf}
use Rattle.jsonruns.proofs.Runs.{same-got, Turn, turn, array-listed}
use Rattle.jsoncount.specs.Sizes.{entity_read}
use Rattle.jsonadds.proofs.Items.{Others, others_of_lem}
use Rattle.jsonadds.proofs.Passing.{Passing, PartEnds, pass-signed, pass-none, pass-start, pass-after, pass-last, pass-again}
use Rattle.jsonentry.specs.Entries.{named_entities}
use Rattle.jsonentities.specs.Order.{arranged_item, insert_behind, insert_items, Rises, behind-here, behind-past, behind-long, rises-behind, all-items, arranged-before}
use Rattle.jsonentities.specs.Sort.{Stands, InOrder, ItemPut, Stood, ItemCells, none, more, SortDue, Sorted}

-- ---- what stands in the cells is in order

stood-one : {line : List ℕ} {p : ℕ} {y a : Item} → Stood line p y → Stands line p a → y ≡ arranged_item a
stood-one s t = s.is ∙ ap arranged_item (same-got s.stands.is t.is)

module _ {line names : List ℕ} where
  cell-good : (k : ℕ) (ys : List Item) → ItemCells line names k ys → (i : ℕ) → k ≤ i → i < k + length ys → Good line (get_or names i 0) (entity_read (drop (get_or names i 0) line))
  cell-good k [] c i a h = absurd (omega arith)
  cell-good k (y ∷ ys) (more s c) i a h =
      go (cell-good (suc k) ys c i) (ltb k i) refl
    where
      go : (suc k ≤ i → i < suc k + length ys → Good line (get_or names i 0) (entity_read (drop (get_or names i 0) line))) → (x : Bool) → ltb k i ≡ x → Good line (get_or names i 0) (entity_read (drop (get_or names i 0) line))
      go r true q = r (omega (arith, ltb-true k i q)) (omega arith)
      go r false q =
          let z : k ≡ i = omega (arith, ltb-false k i q) in
          subst (λ (x : ℕ). Good line (get_or names x 0) (entity_read (drop (get_or names x 0) line))) z (record { what = s.item; rest = s.stands.rest; within = s.stands.within; is = s.stands.is })

  cell-every : (P : Item → Type 0) (k : ℕ) (ys : List Item) → Every P ys → ItemCells line names k ys → (i : ℕ) → k ≤ i → i < k + length ys → (a : Item) → Stands line (get_or names i 0) a → P (arranged_item a)
  cell-every P k [] e c i l h a t = absurd (omega arith)
  cell-every P k (y ∷ ys) e (more s c) i l h a t =
      go (cell-every P (suc k) ys e.1 c i) (ltb k i) refl
    where
      go : (suc k ≤ i → i < suc k + length ys → (a : Item) → Stands line (get_or names i 0) a → P (arranged_item a)) → (x : Bool) → ltb k i ≡ x → P (arranged_item a)
      go r true q = r (omega (arith, ltb-true k i q)) (omega arith) a t
      go r false q =
          let z : i ≡ k = omega (arith, ltb-false k i q) in
          subst P (stood-one s (subst (λ (x : ℕ). Stands line (get_or names x 0) a) z t)) e.0

  cell-rises : (k : ℕ) (ys : List Item) → Rises ys → ItemCells line names k ys → (i j : ℕ) (a b : Item) → k ≤ i → i < j → j < k + length ys → Stands line (get_or names i 0) a → Stands line (get_or names j 0) b → item_before b a ≡ false
  unfolding Rises
  cell-rises k [] r c i j a b l m h s t = absurd (omega arith)
  cell-rises k (y ∷ ys) r (more d c) i j a b l m h s t =
      go (cell-rises (suc k) ys r.1 c i j a b) (ltb k i) refl
    where
      go : (suc k ≤ i → i < j → j < suc k + length ys → Stands line (get_or names i 0) a → Stands line (get_or names j 0) b → item_before b a ≡ false) → (x : Bool) → ltb k i ≡ x → item_before b a ≡ false
      go f true q = f (omega (arith, ltb-true k i q)) m (omega arith) s t
      go f false q =
          let z : i ≡ k = omega (arith, ltb-false k i q) in
          let e : y ≡ arranged_item a = stood-one d (subst (λ (x : ℕ). Stands line (get_or names x 0) a) z s) in
          sym (arranged-before b a) ∙ ap (item_before (arranged_item b)) (sym e) ∙ cell-every (λ x. item_before x y ≡ false) (suc k) ys r.0 c j (omega arith) (omega arith) b t

in_order : {line names : List ℕ} (ys : List Item) → Rises ys → ItemCells line names 0 ys → length ys ≤ length names → InOrder line names (length ys)
in_order ys r c h = record {
  within = h;
  good = λ k l. cell-good 0 ys c k (omega arith) (omega arith);
  rising = λ i j a b l m s t. cell-rises 0 ys r c i j a b (omega arith) l (omega arith) s t;
}

-- ---- after an entity was put among them

-- the same places, so many cells on
cells-moved : {line names after : List ℕ} (k i : ℕ) (ys : List Item) → ((x : ℕ) → x < length ys → get_or after (i + x) 0 ≡ get_or names (k + x) 0) → ItemCells line names k ys → ItemCells line after i ys
cells-moved k i [] f c = none
cells-moved {line} {names} {after} k i (y ∷ ys) f (more s c) =
    let z : get_or after i 0 ≡ get_or names k 0 = here in
    more (subst (λ (p : ℕ). Stood line p y) (sym z) s) (cells-moved (suc k) (suc i) ys next c)
  where
    here : get_or after i 0 ≡ get_or names k 0
    here = let a : i + 0 ≡ i = omega arith in let b : k + 0 ≡ k = omega arith in rw (a, b) at (f 0 (omega arith))

    next : (x : ℕ) → x < length ys → get_or after (suc i + x) 0 ≡ get_or names (suc k + x) 0
    next x h = let a : i + suc x ≡ suc i + x = omega arith in let b : k + suc x ≡ suc k + x = omega arith in rw (a, b) at (f (suc x) (omega arith))

module _ {line names after : List ℕ} {stop at : ℕ} (p : ItemPut line names after stop at) {x : Item} (s : Stands line at x) where
  new : (k : ℕ) → k ≡ p.cell → Stood line (get_or after k 0) (arranged_item x)
  new k z =
      let q : at ≡ get_or after k 0 = sym (ap (λ (c : ℕ). get_or after c 0) z ∙ p.inserted.new) in
      subst (λ (c : ℕ). Stood line c (arranged_item x)) q (record { item = x; stands = s; is = refl })

  -- from a cell not past the new one on
  cells-put : (k : ℕ) (ys : List Item) → k ≤ p.cell → k + length ys ≡ stop → ItemCells line names k ys → ItemCells line after k (insert_behind (arranged_item x) ys)
  unfolding insert_behind
  cells-put k [] h e c = more (new k (omega (arith, p.told.within))) none
  cells-put k (y ∷ ys) h e (more d c) =
      go (cells-put (suc k) ys) (ltb k p.cell) refl
    where
      told : {b : Bool} → item_before x d.item ≡ b → item_before (arranged_item x) y ≡ b
      told t = ap (item_before (arranged_item x)) d.is ∙ arranged-before x d.item ∙ t

      shift : ltb k p.cell ≡ false → (i : ℕ) → i < suc (length ys) → get_or after (suc k + i) 0 ≡ get_or names (k + i) 0
      shift q i l = let g : k + i + 1 ≡ suc k + i = omega arith in rw g at (p.inserted.moved (k + i) (omega (arith, ltb-false k p.cell q)) (omega arith))

      go : (suc k ≤ p.cell → suc k + length ys ≡ stop → ItemCells line names (suc k) ys → ItemCells line after (suc k) (insert_behind (arranged_item x) ys)) → (b : Bool) → ltb k p.cell ≡ b → ItemCells line after k (insert_behind (arranged_item x) (y ∷ ys))
      go r true q =
          let l : k < p.cell = ltb-true k p.cell q in
          subst (λ (zs : List Item). ItemCells line after k zs) (sym (behind-past (arranged_item x) y ys (told (p.told.below x s k d.item l d.stands))))
          (more (subst (λ (c : ℕ). Stood line c y) (sym (p.inserted.below k l)) d) (r (omega arith) (omega arith) c))
      go r false q =
          let l : k ≡ p.cell = omega (arith, ltb-false k p.cell q) in
          subst (λ (zs : List Item). ItemCells line after k zs) (sym (behind-here (arranged_item x) y ys (told (p.told.above x s k d.item (omega arith) (omega arith) d.stands))))
          (more (new k l) (cells-moved k (suc k) (y ∷ ys) (shift q) (more d c)))

-- ---- the loop

abbrev Entity : List ℕ → Item → List ℕ → Type 0
Entity = ItemOf entity_read

law : (line : List ℕ) (at : ℕ) (what : List Item) (rest : List ℕ) → array entity_read (drop at line) ≡ got what rest → Listed 93 Entity (drop at line) what rest
law line at what rest e = array-listed entity_read (drop at line) e

pub record Sorting (line : List ℕ) (at : ℕ) (names₀ names : List ℕ) (count i : ℕ) : Type 0 where
  passing : Passing 93 Entity line at (array entity_read (drop at line)) count i
  sorted : List Item
  cells : ItemCells line names 0 sorted
  many_is : length sorted ≡ count
  rises : Rises sorted
  goes : insert_items passing.left sorted ≡ ordered_entities passing.good.what
  long : length names ≡ length names₀
  spare : length passing.good.what ≤ length names₀
  pub passed : at + count ≤ i
  pub within : i ≤ length line
  pub stop-within : count ≤ length names₀

-- an entity stands at the part, or the bracket closes
pub record Collecting (line : List ℕ) (at : ℕ) (names₀ names : List ℕ) (count : ℕ) (part : Result ℕ ℕ) : Type 0 where
  pub next : (i : ℕ) → part ≡ Ok i → Sorting line at names₀ names count i
  pub long : length names ≡ length names₀
  pub few : count ≤ length names₀
  pub told : (e : ℕ) → part ≡ Err e → Sorted line (array entity_read (drop at line)) names₀ names count

-- as many cells as entities, at least
items-named : (is : List Item) → length is ≤ named_entities is
unfolding named_entities
items-named [] = omega arith
items-named (i ∷ is) = omega (arith, items-named is)

module _ {line : List ℕ} {at : ℕ} {names : List ℕ} (d : SortDue line at (array entity_read (drop at line)) names) where
  all-spare : length d.good.what ≤ length names
  all-spare = omega (arith, d.spare.is d.good.what d.good.rest d.good.is, items-named d.good.what)

  pub sort_signed : Signed line at
  sort_signed = pass-signed 93 Entity (law line at) d.good

  module _ {x : Result ℕ ℕ} (b : BeginTold line at 93 x) where
    sort_empty : {e : ℕ} → x ≡ Err e → Sorted line (array entity_read (drop at line)) names names 0
    unfolding ordered_entities
    sort_empty z =
        let n : (what : List Item) (rest : List ℕ) → array entity_read (drop at line) ≡ got what rest → what ≡ [] = λ what rest f. sym (same-got d.good.is f) ∙ pass-none 93 Entity (law line at) d.good b z in
        record {
          long = refl;
          many = λ what rest f. sym (ap length (n what rest f));
          cells = λ what rest f. rw (n what rest f) none;
        }

    sort_start : {i : ℕ} → x ≡ Ok i → Sorting line at names names 0 i
    unfolding Rises
    sort_start {i} z =
        let p = pass-start 93 Entity (law line at) d.good b z in
        record {
          passing = p;
          sorted = [];
          cells = none;
          many_is = refl;
          rises = tt;
          goes = all-items d.good.what;
          long = refl;
          spare = all-spare;
          passed = p.from;
          within = p.within;
          stop-within = omega arith;
        }

    pub sort_begun : Collecting line at names names 0 x
    sort_begun = record { next = λ i z. sort_start z; long = refl; few = omega arith; told = λ e z. sort_empty z }

module _ {line : List ℕ} {at : ℕ} {names₀ names : List ℕ} {count i : ℕ} {y : Result ℕ ℕ} (start : Collecting line at names₀ names count y) (z : y ≡ Ok i) where
  abbrev g : Sorting line at names₀ names count i
  g = start.next i z

  head : Turn 93 Entity (drop i line) g.passing.left g.passing.good.rest
  head = turn 93 Entity g.passing.parts

  tail : Others head.what g.passing.left
  tail = others_of_lem 93 Entity head

  pub sort_room : count < length names
  sort_room = omega (arith, g.spare, g.passing.total, ap length tail.is, g.long)

  pub sort-order : InOrder line names count
  sort-order = subst (λ (c : ℕ). InOrder line names c) g.many_is (in_order g.sorted g.rises g.cells (omega (arith, sort_room, g.many_is)))

  pub sort-good : Good line i (entity_read (drop i line))
  sort-good = record { what = head.what; rest = head.after; within = g.passing.within; is = head.part }

  stands : Stands line i head.what
  stands = record { rest = head.after; within = g.passing.within; is = head.part }

  goes_on : insert_items tail.others (insert_behind (arranged_item head.what) g.sorted) ≡ ordered_entities g.passing.good.what
  unfolding insert_items
  goes_on = sym (ap (λ (is : List Item). insert_items is g.sorted) tail.is) ∙ g.goes

  module _ {e : ℕ} (m : Ends line i e (entity_read (drop i line))) where
    ends : PartEnds 93 Entity line i e
    ends = record { from = m.from; within = m.within; is = λ a t q. m.is a t q }

    pub sort_after : Signed line e
    sort_after = pass-after 93 Entity g.passing ends

    module _ {after : List ℕ} (p : ItemPut line names after count i) {x : Result ℕ ℕ} (b : PartTold line e 93 x) where
      put-cells : ItemCells line after 0 (insert_behind (arranged_item head.what) g.sorted)
      put-cells = cells-put p stands 0 g.sorted (omega arith) (omega (arith, g.many_is)) g.cells

      sort_closed : {k : ℕ} → x ≡ Err k → Sorted line (array entity_read (drop at line)) names₀ after (count + 1)
      unfolding insert_items tail head
      sort_closed y =
          let o : tail.others ≡ [] = pass-last 93 Entity g.passing ends b y in
          record {
            long = p.inserted.long ∙ g.long;
            many = λ what rest f. omega (arith, g.passing.total, ap length tail.is, ap length o, ap length (same-got f g.passing.good.is));
            cells = λ what rest f.
                let z = ap (λ (is : List Item). insert_items is (insert_behind (arranged_item head.what) g.sorted)) (sym o) ∙ goes_on ∙ ap ordered_entities (same-got g.passing.good.is f) in
                subst (λ (is : List Item). ItemCells line after 0 is) z put-cells;
          }

      sort_next : {j : ℕ} → x ≡ Ok j → Sorting line at names₀ after (count + 1) j
      unfolding tail head
      sort_next {j} y = record {
        passing = pass-again 93 Entity g.passing ends b y;
        sorted = insert_behind (arranged_item head.what) g.sorted;
        cells = put-cells;
        many_is = behind-long (arranged_item head.what) g.sorted ∙ omega (arith, g.many_is);
        rises = rises-behind (arranged_item head.what) g.sorted g.rises;
        goes = goes_on;
        long = p.inserted.long ∙ g.long;
        spare = g.spare;
        passed = (pass-again 93 Entity g.passing ends b y).from;
        within = (pass-again 93 Entity g.passing ends b y).within;
        stop-within = omega (arith, sort_room, g.long);
      }

      pub sort_again : Collecting line at names₀ after (count + 1) x
      sort_again = record {
        next = λ j q. sort_next q;
        long = p.inserted.long ∙ g.long;
        few = omega (arith, sort_room, g.long);
        told = λ k q. sort_closed q;
      }

    pub sort_less : {x : Result ℕ ℕ} → PartTold line e 93 x → ahead line x < ahead line y
    sort_less b = ahead-less line z b m.from

module _ {line : List ℕ} {at : ℕ} {names₀ names : List ℕ} {count : ℕ} {x : Result ℕ ℕ} (g : Collecting line at names₀ names count x) where
  pub sort_long : length names ≡ length names₀
  sort_long = g.long

  pub sort_told : {e : ℕ} → x ≡ Err e → Sorted line (array entity_read (drop at line)) names₀ names count
  sort_told {e} z = g.told e z
