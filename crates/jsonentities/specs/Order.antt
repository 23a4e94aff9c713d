-- Entities in order: put behind their equals from the front, as before their equals from the back
use Rattle.std.specs.Prelude.{◌≡◌, refl, Bool, true, false, List, [], ◌∷◌, ℕ, suc, length}
use Rattle.std.proofs.Common.{sym, ap, ◌∙◌}
use Rattle.meaning.specs.Tests.{◌and◌, ◌or◌, choose}
use Rattle.meaning.specs.Text.{before}
use Rattle.meaning.specs.Equal.{same_list}
use Rattle.laws.specs.Tests.{yes, no as otherwise}
use Rattle.laws.specs.Text.{same-list, list_same}
use Rattle.laws.specs.Lists.{Every, every_map}
use Rattle.encode.proofs.Laws.Join.{before_trans, before-neither, before-not}
use Rattle.jsontext.specs.Events.{Item}
use Rattle.jsontrace.specs.Order.{item_before, insert_item, ordered_entities, ordered_members}
use Rattle.jsonsort.specs.Order.{false-true, between}

-- an entity with its attributes in order
unfoldable pub arranged_item : Item → Item
arranged_item x = record { type = x.type; id = x.id; attributes = ordered_members x.attributes }

-- an entity among entities in order, behind its equals
unfoldable pub insert_behind : Item → List Item → List Item
insert_behind x [] = x ∷ []
insert_behind x (y ∷ ys) = choose (item_before x y) (x ∷ y ∷ ys) (y ∷ insert_behind x ys)

-- entities put one after another among those in order
unfoldable pub insert_items : List Item → List Item → List Item
insert_items [] sorted = sorted
insert_items (x ∷ xs) sorted = insert_items xs (insert_behind (arranged_item x) sorted)

-- ---- before, by type and then by id

data Less (a b : Item) : Type 0 where
  by-type : before a.type b.type ≡ true → Less a b
  by-id : a.type ≡ b.type → before a.id b.id ≡ true → Less a b

less_of : (a b : Item) → item_before a b ≡ true → Less a b
unfolding item_before ◌or◌ ◌and◌
less_of a b e =
    go (before a.type b.type) (same_list a.type b.type) refl refl e
  where
    go : (x y : Bool) → before a.type b.type ≡ x → same_list a.type b.type ≡ y → (x or (y and before a.id b.id)) ≡ true → Less a b
    go true y p q f = by-type p
    go false true p q f = by-id (same-list a.type b.type q) f
    go false false p q f = false-true f

of_less : (a b : Item) → Less a b → item_before a b ≡ true
unfolding item_before ◌or◌ ◌and◌
of_less a b (by-type p) = rw p
of_less a b (by-id e p) =
    rw (list_same a.type b.type e, p) (go (before a.type b.type))
  where
    go : (x : Bool) → (x or (true and true)) ≡ true
    go true = refl
    go false = refl

-- not before: neither by type, nor by id where the types are the same
record NotLess (a b : Item) : Type 0 where
  type : before a.type b.type ≡ false
  id : a.type ≡ b.type → before a.id b.id ≡ false

not-less : (a b : Item) → item_before a b ≡ false → NotLess a b
not-less a b e =
    record { type = go (before a.type b.type) refl; id = λ s. on s (before a.id b.id) refl }
  where
    go : (x : Bool) → before a.type b.type ≡ x → before a.type b.type ≡ false
    go true p = false-true (sym e ∙ of_less a b (by-type p))
    go false p = p

    on : a.type ≡ b.type → (x : Bool) → before a.id b.id ≡ x → before a.id b.id ≡ false
    on s true p = false-true (sym e ∙ of_less a b (by-id s p))
    on s false p = p

pub item_trans : (a b c : Item) → item_before a b ≡ true → item_before b c ≡ true → item_before a c ≡ true
item_trans a b c p q =
    of_less a c (go (less_of a b p) (less_of b c q))
  where
    go : Less a b → Less b c → Less a c
    go (by-type x) (by-type y) = by-type (before_trans a.type b.type c.type x y)
    go (by-type x) (by-id e y) = by-type (ap (before a.type) (sym e) ∙ x)
    go (by-id e x) (by-type y) = by-type (ap (λ (t : List ℕ). before t c.type) e ∙ y)
    go (by-id e x) (by-id f y) = by-id (e ∙ f) (before_trans a.id b.id c.id x y)

-- not past one, before another: the one is before the other
item-between : (m a b : Item) → item_before m a ≡ false → item_before m b ≡ true → item_before a b ≡ true
item-between m a b p q =
    of_less a b (go (not-less m a p) (less_of m b q))
  where
    equal : NotLess m a → m.type ≡ b.type → before m.id b.id ≡ true → (x : Bool) → before a.type m.type ≡ x → Less a b
    equal n e y true z = by-type (ap (before a.type) (sym e) ∙ z)
    equal n e y false z =
        let s : m.type ≡ a.type = before-neither m.type a.type n.type z in
        by-id (sym s ∙ e) (between m.id a.id b.id (n.id s) y)

    go : NotLess m a → Less m b → Less a b
    go n (by-type y) = by-type (between m.type a.type b.type n.type y)
    go n (by-id e y) = equal n e y (before a.type m.type) refl

-- not before one that is not before another: not before that other
pub item-not : (m a b : Item) → item_before m a ≡ false → item_before a b ≡ false → item_before m b ≡ false
item-not m a b p q =
    go (item_before m b) refl
  where
    go : (x : Bool) → item_before m b ≡ x → item_before m b ≡ false
    go true e = false-true (sym q ∙ item-between m a b p e)
    go false e = e

-- ---- put before its equals, or behind them

pub item-past : (x y : Item) (ys : List Item) → item_before y x ≡ true → insert_item x (y ∷ ys) ≡ y ∷ insert_item x ys
unfolding insert_item
item-past x y ys h = yes _ h

pub item-here : (x y : Item) (ys : List Item) → item_before y x ≡ false → insert_item x (y ∷ ys) ≡ x ∷ y ∷ ys
unfolding insert_item
item-here x y ys h = otherwise _ h refl

pub behind-here : (x y : Item) (ys : List Item) → item_before x y ≡ true → insert_behind x (y ∷ ys) ≡ x ∷ y ∷ ys
unfolding insert_behind
behind-here x y ys h = yes _ h

pub behind-past : (x y : Item) (ys : List Item) → item_before x y ≡ false → insert_behind x (y ∷ ys) ≡ y ∷ insert_behind x ys
unfolding insert_behind
behind-past x y ys h = otherwise _ h refl

-- in front of any other, whichever is put first
front : (x y : Item) (zs : List Item) → insert_item x zs ≡ x ∷ zs → insert_behind y zs ≡ y ∷ zs → insert_behind y (x ∷ zs) ≡ insert_item x (y ∷ zs)
front x y zs p q =
    go (item_before y x) refl
  where
    go : (b : Bool) → item_before y x ≡ b → insert_behind y (x ∷ zs) ≡ insert_item x (y ∷ zs)
    go true e = behind-here y x zs e ∙ sym (item-past x y zs e ∙ ap (λ (l : List Item). y ∷ l) p)
    go false e = behind-past y x zs e ∙ ap (λ (l : List Item). x ∷ l) q ∙ sym (item-here x y zs e)

pub behind-swap : (x y : Item) (zs : List Item) → insert_behind y (insert_item x zs) ≡ insert_item x (insert_behind y zs)
unfolding insert_item insert_behind
behind-swap x y [] = front x y [] refl refl
behind-swap x y (z ∷ zs) =
    go (behind-swap x y zs) (item_before z x) (item_before y z) refl refl
  where
    go : insert_behind y (insert_item x zs) ≡ insert_item x (insert_behind y zs) → (a b : Bool) → item_before z x ≡ a → item_before y z ≡ b → insert_behind y (insert_item x (z ∷ zs)) ≡ insert_item x (insert_behind y (z ∷ zs))
    go r true true p q =
        ap (insert_behind y) (item-past x z zs p) ∙ behind-here y z (insert_item x zs) q ∙ ap (λ (l : List Item). y ∷ l) (sym (item-past x z zs p))
        ∙ sym (ap (insert_item x) (behind-here y z zs q) ∙ item-past x y (z ∷ zs) (item_trans y z x q p))
    go r true false p q =
        ap (insert_behind y) (item-past x z zs p) ∙ behind-past y z (insert_item x zs) q ∙ ap (λ (l : List Item). z ∷ l) r
        ∙ sym (ap (insert_item x) (behind-past y z zs q) ∙ item-past x z (insert_behind y zs) p)
    go r false true p q =
        ap (insert_behind y) (item-here x z zs p) ∙ front x y (z ∷ zs) (item-here x z zs p) (behind-here y z zs q) ∙ ap (insert_item x) (sym (behind-here y z zs q))
    go r false false p q =
        ap (insert_behind y) (item-here x z zs p) ∙ behind-past y x (z ∷ zs) (item-not y z x q p) ∙ ap (λ (l : List Item). x ∷ l) (behind-past y z zs q)
        ∙ sym (ap (insert_item x) (behind-past y z zs q) ∙ item-here x z (insert_behind y zs) p)

-- ---- from the front as from the back

items-late : (x : Item) (xs sorted : List Item) → insert_items xs (insert_item x sorted) ≡ insert_item x (insert_items xs sorted)
unfolding insert_items
items-late x [] sorted = refl
items-late x (y ∷ ys) sorted = ap (insert_items ys) (behind-swap x (arranged_item y) sorted) ∙ items-late x ys (insert_behind (arranged_item y) sorted)

pub all-items : (xs : List Item) → insert_items xs [] ≡ ordered_entities xs
unfolding insert_items ordered_entities insert_behind insert_item arranged_item
all-items [] = refl
all-items (x ∷ xs) = items-late (arranged_item x) xs [] ∙ ap (insert_item (arranged_item x)) (all-items xs)

pub behind-long : (x : Item) (ys : List Item) → length (insert_behind x ys) ≡ suc (length ys)
unfolding insert_behind choose
behind-long x [] = refl
behind-long x (y ∷ ys) =
    go (item_before x y) (behind-long x ys)
  where
    go : (b : Bool) → length (insert_behind x ys) ≡ suc (length ys) → length (choose b (x ∷ y ∷ ys) (y ∷ insert_behind x ys)) ≡ suc (suc (length ys))
    go true r = refl
    go false r = ap suc r

-- ---- in order: none is before one that stands before it

unfoldable pub Rises : List Item → Type 0
Rises [] = Unit {0}
Rises (y ∷ ys) = Every (λ z. item_before z y ≡ false) ys × Rises ys

every-behind : (P : Item → Type 0) (x : Item) (ys : List Item) → P x → Every P ys → Every P (insert_behind x ys)
unfolding insert_behind choose
every-behind P x [] p e = (p, tt)
every-behind P x (y ∷ ys) p e =
    go (item_before x y) (every-behind P x ys p e.1)
  where
    go : (b : Bool) → Every P (insert_behind x ys) → Every P (choose b (x ∷ y ∷ ys) (y ∷ insert_behind x ys))
    go true r = (p, e)
    go false r = (e.0, r)

item_self : (a : Item) → item_before a a ≡ false
item_self a =
    go (item_before a a) refl
  where
    none : Less a a → ⊥
    none (by-type e) = false-true (sym (before-not a.type) ∙ e)
    none (by-id s e) = false-true (sym (before-not a.id) ∙ e)

    go : (x : Bool) → item_before a a ≡ x → item_before a a ≡ false
    go true p = absurd (none (less_of a a p))
    go false p = p

-- one before another is not behind it
item-one : (a b : Item) → item_before a b ≡ true → item_before b a ≡ false
item-one a b h =
    go (item_before b a) refl
  where
    go : (x : Bool) → item_before b a ≡ x → item_before b a ≡ false
    go true e = false-true (sym (item_self a) ∙ item_trans a b a h e)
    go false e = e

pub rises-behind : (x : Item) (ys : List Item) → Rises ys → Rises (insert_behind x ys)
unfolding insert_behind Rises
rises-behind x [] r = (tt, tt)
rises-behind x (y ∷ ys) r =
    go (item_before x y) refl (rises-behind x ys r.1)
  where
    go : (b : Bool) → item_before x y ≡ b → Rises (insert_behind x ys) → Rises (insert_behind x (y ∷ ys))
    go true e more = rw (behind-here x y ys e) ((item-one x y e, every_map ys (λ z h. item-not z y x h (item-one x y e)) r.0), r)
    go false e more = rw (behind-past x y ys e) (every-behind (λ z. item_before z y ≡ false) x ys e r.0, more)

-- ---- told by types and ids

pub before-type : (a b : Item) → before a.type b.type ≡ true → item_before a b ≡ true
before-type a b h = of_less a b (by-type h)

pub before-id : (a b : Item) → a.type ≡ b.type → before a.id b.id ≡ true → item_before a b ≡ true
before-id a b e h = of_less a b (by-id e h)

pub behind-type : (a b : Item) → before b.type a.type ≡ true → item_before a b ≡ false
behind-type a b h = item-one b a (before-type b a h)

pub behind-id : (a b : Item) → a.type ≡ b.type → before b.id a.id ≡ true → item_before a b ≡ false
behind-id a b e h = item-one b a (before-id b a (sym e) h)

pub behind-equal : (a b : Item) → a.type ≡ b.type → a.id ≡ b.id → item_before a b ≡ false
unfolding item_before
behind-equal a b e f = rw (sym e, sym f) (item_self a)

-- the order of attributes is not asked
pub arranged-before : (a b : Item) → item_before (arranged_item a) (arranged_item b) ≡ item_before a b
unfolding arranged_item item_before
arranged-before a b = refl
