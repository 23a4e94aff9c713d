-- Two runs become one, the upper one set aside
use Rattle.std.specs.declared.cmp.Ordering.{Ordering}
use Rattle.std.specs.declared.cmp.Ordering.TheVariants.{Less, Equal, Greater}
use mathlib.Core.Path.{◌≡◌, refl, sym, ap, subst, ◌∙◌}
use mathlib.Core.Bool.{Bool, true, false}
use mathlib.Core.List.{List}
use Prim.Native.Nat.{ℕ, ◌+◌, ◌-◌, ◌<◌, ◌≤◌}
use native.Mathlib.Omega.{arith}
use lib.Dec.{ltb}
use lib.ListN.{length, get_or, set, length-set}
use lib.Seq.{get_or-set_same, get_or-set_other}
use borrow.Author.Tests.{ltb-true, ltb-false}
use Rattle.jsonread.specs.Spelling.{order_of, OrderTold}
use Rattle.jsonnames.specs.Sorted.{Spells, Named, Rises}
use Rattle.jsonnames.specs.Merges.{Has, Pair, Aside, CopyTold, LaterDue, LaterTold, OrderedTold, Merged}
use Rattle.jsonnames.proofs.Order.{order-equal, order_flip, order-on}
use Rattle.jsonnames.proofs.Halves.{spells_one, moved_to}
use Rattle.jsonnames.proofs.Stays.{has_wider, rises-kept}

-- ---- copied

pub record Copying (mid high : ℕ) (names after : List ℕ) (i : ℕ) : Type 0 where
  pub from : mid ≤ i
  pub to : i ≤ high
  pub room : high + (high - mid) ≤ length names
  pub long : length after ≡ length names
  pub below : (k : ℕ) → k < high → get_or after k 0 ≡ get_or names k 0
  pub copied : (k : ℕ) → mid ≤ k → k < i → get_or after (high + (k - mid)) 0 ≡ get_or names k 0

pub copy_start : {mid high : ℕ} {names : List ℕ} → mid ≤ high → high + (high - mid) ≤ length names → Copying mid high names names mid
copy_start a c = record { from = omega arith; to = a; room = c; long = refl; below = λ k h. refl; copied = λ k h l. absurd (omega arith) }

module _ {mid high i : ℕ} {names after : List ℕ} (g : Copying mid high names after i) where
  pub copy_done : high ≤ i → CopyTold mid high names after
  copy_done h = record { long = g.long; below = g.below; copied = λ k a b. g.copied k a (omega arith) }

  module _ (h : i < high) where
    pub copy_read : i < length after
    copy_read = omega (arith, g.room, g.long, g.from)

    pub copy_write : high + (i - mid) < length after
    copy_write = omega (arith, g.room, g.long, g.from)

    abbrev next : List ℕ
    next = set after (high + (i - mid)) (get_or after i 0)

    pub copy_on : Copying mid high names next (i + 1)
    copy_on =
        record {
          from = omega (arith, g.from);
          to = omega arith;
          room = g.room;
          long = length-set after (high + (i - mid)) (get_or after i 0) ∙ g.long;
          below = λ k l. get_or-set_other after (high + (i - mid)) k (get_or after i 0) 0 (omega arith) ∙ g.below k l;
          copied = λ k a b. go k a b (ltb k i) refl;
        }
      where
        go : (k : ℕ) → mid ≤ k → k < i + 1 → (x : Bool) → ltb k i ≡ x → get_or next (high + (k - mid)) 0 ≡ get_or names k 0
        go k a b true q = get_or-set_other after (high + (i - mid)) (high + (k - mid)) (get_or after i 0) 0 (omega (arith, ltb-true k i q)) ∙ g.copied k a (ltb-true k i q)
        go k a b false q =
            let e : k ≡ i = omega (arith, ltb-false k i q) in
            ap (λ (x : ℕ). get_or next (high + (x - mid)) 0) e ∙ get_or-set_same after (high + (i - mid)) (get_or after i 0) 0 copy_write ∙ g.below i h ∙ ap (λ (x : ℕ). get_or names x 0) (sym e)

pub pair-aside : {line names after : List ℕ} {low mid high : ℕ} → Pair line names low mid high → high - mid ≤ length names - high → CopyTold mid high names after → Aside line after low mid high
pair-aside p r c =
    record {
      pair =
          record {
            lower = rises-kept c.long (λ k a b. c.below k (omega (arith, p.upper.from))) p.lower;
            upper = rises-kept c.long (λ k a b. c.below k b) p.upper;
            differ = λ i j n f h g s t. p.differ i j n f h g (rw (c.below i (omega arith)) at s) (rw (c.below j g) at t);
          };
      room = omega (arith, c.long, p.upper.within);
      copied = λ k a b. c.copied k a b ∙ sym (c.below k b);
    }

pub merged_aside : {line names copied after : List ℕ} {low mid high : ℕ} → Pair line names low mid high → CopyTold mid high names copied → Merged line copied after low high → Merged line names after low high
merged_aside {low = low} {mid} {high} p c m =
    record {
      long = m.long ∙ c.long;
      rises = m.rises;
      below = λ k h. m.below k h ∙ c.below k (omega (arith, p.lower.from, p.upper.from));
      kept = λ k f h. rw (c.below k h) at (m.kept k f h);
      old = λ k f h. let o = m.old k f h in record { cell = o.cell; from = o.from; below = o.below; is = sym (c.below o.cell o.below) ∙ o.is };
    }

-- nothing is to be done
pub merged_none : {line names : List ℕ} {low high : ℕ} {r : Bool} → OrderedTold line names low high r → r ≡ true → Merged line names names low high
merged_none o e =
    record {
      long = refl;
      rises = o.rises e;
      below = λ k h. refl;
      kept = λ k f h. record { cell = k; from = f; below = h; is = refl };
      old = λ k f h. record { cell = k; from = f; below = h; is = refl };
    }

-- ---- which is later

tells : {line : List ℕ} (p at : ℕ) {o : Ordering} → OrderTold line p at o → (x : Ordering) → o ≡ x → (m n : List ℕ) → Spells line p m → Spells line at n → order_of m n ≡ x
tells p at t x e m n s u = sym (t m n s.rest u.rest s.is u.is) ∙ e

module _ {line : List ℕ} {p at : ℕ} {o : Ordering} (t : OrderTold line p at o) where
  pub later_more : o ≡ Greater → LaterTold line p at false
  later_more e = record { more = λ e. absurd (let z : ◌≡◌ {A = ℕ} 0 1 = cc in omega arith); less = λ z m n s u d. order_flip m n (tells p at t Greater e m n s u) }

  pub later-less : o ≡ Less → LaterTold line p at true
  later-less e = record { more = λ z m n s u. tells p at t Less e m n s u; less = λ e. absurd (let z : ◌≡◌ {A = ℕ} 0 1 = cc in omega arith) }

  pub later_same : o ≡ Equal → LaterTold line p at false
  later_same e = record { more = λ e. absurd (let z : ◌≡◌ {A = ℕ} 0 1 = cc in omega arith); less = λ z m n s u d. absurd (d (order-equal m n (tells p at t Equal e m n s u))) }

-- up to a name less than another, all are less
pub up_to : {line names : List ℕ} {low high : ℕ} → Rises line names low high → (a : ℕ) → a < high → (o n : List ℕ) → Spells line (get_or names a 0) o → order_of o n ≡ Less → (y : ℕ) (m : List ℕ) → low ≤ y → y ≤ a → Spells line (get_or names y 0) m → order_of m n ≡ Less
up_to {line} {names} r a f o n s l y m h k t =
    go (ltb y a) refl
  where
    go : (b : Bool) → ltb y a ≡ b → order_of m n ≡ Less
    go true q = order-on m o n (r.rising y a m o h (ltb-true y a q) f t s) l
    go false q =
        let e : y ≡ a = omega (arith, ltb-false y a q) in
        let z : m ≡ o = spells_one (moved_to (ap (λ (x : ℕ). get_or names x 0) e) t) s in
        ap (λ (m : List ℕ). order_of m n) z ∙ l

-- less than a name, so less than those from it on
on-from : {line names : List ℕ} {low high : ℕ} → Rises line names low high → (a : ℕ) → low ≤ a → (m o : List ℕ) → Spells line (get_or names a 0) o → order_of m o ≡ Less → (y : ℕ) (n : List ℕ) → a ≤ y → y < high → Spells line (get_or names y 0) n → order_of m n ≡ Less
on-from {line} {names} r a f m o s l y n h k t =
    go (ltb a y) refl
  where
    go : (b : Bool) → ltb a y ≡ b → order_of m n ≡ Less
    go true q = order-on m o n l (r.rising a y o n f (ltb-true a y q) k s t)
    go false q =
        let e : y ≡ a = omega (arith, ltb-false a y q) in
        let z : n ≡ o = spells_one (moved_to (ap (λ (x : ℕ). get_or names x 0) e) t) s in
        ap (λ (n : List ℕ). order_of m n) z ∙ l

-- ---- in order as they are

module _ {line names : List ℕ} {low mid high : ℕ} (p : Pair line names low mid high) where
  pub order-lower : mid ≤ low → OrderedTold line names low high true
  order-lower h = let z : mid ≡ low = omega (arith, p.lower.from) in record { rises = λ e. subst (λ (k : ℕ). Rises line names k high) z p.upper }

  pub order-upper : high ≤ mid → OrderedTold line names low high true
  order-upper h = let z : mid ≡ high = omega (arith, p.upper.from) in record { rises = λ e. subst (λ (k : ℕ). Rises line names low k) z p.lower }

  module _ (a : low < mid) (b : mid < high) where
    first : Named line (get_or names mid 0)
    first = p.upper.named mid (omega arith) b

    last : Named line (get_or names (mid - 1) 0)
    last = p.lower.named (mid - 1) (omega arith) (omega arith)

    pub order-due : LaterDue line (get_or names (mid - 1) 0) (get_or names mid 0)
    order-due = record { other = last.spells.within; place = first.spells.within }

    risen : {r : Bool} → LaterTold line (get_or names (mid - 1) 0) (get_or names mid 0) r → r ≡ true → Rises line names low high
    risen t e =
        record {
          from = omega arith;
          within = p.upper.within;
          named = λ k f h. go_named k f h (ltb k mid) refl;
          rising = λ i j m n f h g s u. go-rising i j m n f h g s u (ltb i mid) (ltb j mid) refl refl;
        }
      where
        between : order_of last.name first.name ≡ Less
        between = t.more e last.name first.name last.spells first.spells

        go_named : (k : ℕ) → low ≤ k → k < high → (x : Bool) → ltb k mid ≡ x → Named line (get_or names k 0)
        go_named k f h true q = p.lower.named k f (ltb-true k mid q)
        go_named k f h false q = p.upper.named k (ltb-false k mid q) h

        go-rising : (i j : ℕ) (m n : List ℕ) → low ≤ i → i < j → j < high → Spells line (get_or names i 0) m → Spells line (get_or names j 0) n → (x y : Bool) → ltb i mid ≡ x → ltb j mid ≡ y → order_of m n ≡ Less
        go-rising i j m n f h g s u x true c d = p.lower.rising i j m n f h (ltb-true j mid d) s u
        go-rising i j m n f h g s u true false c d =
            on-from p.upper mid (omega arith) m first.name first.spells
            (up_to p.lower (mid - 1) (omega arith) last.name first.name last.spells between i m f (omega (arith, ltb-true i mid c)) s)
            j n (ltb-false j mid d) g u
        go-rising i j m n f h g s u false false c d = p.upper.rising i j m n (ltb-false i mid c) h g s u

    pub order-told : {r : Bool} → LaterTold line (get_or names (mid - 1) 0) (get_or names mid 0) r → OrderedTold line names low high r
    order-told t = record { rises = λ e. risen t e }

-- ---- put one after another, from the end on

-- in one of two stretches
pub data In (a b c d y : ℕ) : Type 0 where
  one : a ≤ y → y < b → In a b c d y
  two : c ≤ y → y < d → In a b c d y

pub record Source (names : List ℕ) (i mid j high p : ℕ) : Type 0 where
  pub index : ℕ
  pub taken : In i mid j high index
  pub is : p ≡ get_or names index 0

-- from a cell on those that were taken, which rise and are more than those left
pub record Placed (line names after : List ℕ) (low mid high i j k : ℕ) : Type 0 where
  pub old : (x : ℕ) → k ≤ x → x < high → Source names i mid j high (get_or after x 0)
  pub kept : (y : ℕ) → In i mid j high y → Has after k high (get_or names y 0)
  pub rising : (x y : ℕ) (m n : List ℕ) → k ≤ x → x < y → y < high → Spells line (get_or after x 0) m → Spells line (get_or after y 0) n → order_of m n ≡ Less
  pub less : (x y : ℕ) (m n : List ℕ) → k ≤ x → x < high → In low i mid j y → Spells line (get_or names y 0) m → Spells line (get_or after x 0) n → order_of m n ≡ Less

-- one of those that were taken before, or the last
data Latest (i mid j high z y : ℕ) : Type 0 where
  before : In i mid j high y → Latest i mid j high z y
  now : y ≡ z → Latest i mid j high z y

-- one more is taken, the greatest of those left
module _ {line names after : List ℕ} {low mid high i j i' j' k z : ℕ} (next : List ℕ) (p : Placed line names after low mid high i j (k + 1)) (below : k < high) (same : (x : ℕ) → k < x → get_or next x 0 ≡ get_or after x 0) (here : get_or next k 0 ≡ get_or names z 0) (left : In low i mid j z) (taken : In i' mid j' high z) (latest : (y : ℕ) → In i' mid j' high y → Latest i mid j high z y) (still : (y : ℕ) → In i mid j high y → In i' mid j' high y) (fewer : (y : ℕ) → In low i' mid j' y → In low i mid j y) (greatest : (y : ℕ) (m n : List ℕ) → In low i' mid j' y → Spells line (get_or names y 0) m → Spells line (get_or names z 0) n → order_of m n ≡ Less) where
  at_first : (x : ℕ) → k ≤ x → ltb k x ≡ false → get_or next x 0 ≡ get_or names z 0
  at_first x h q = let e : x ≡ k = omega (arith, ltb-false k x q) in ap (λ (y : ℕ). get_or next y 0) e ∙ here

  placed-more : Placed line names next low mid high i' j' k
  placed-more =
      record {
        old = λ x f h. go-old x f h (ltb k x) refl;
        kept = λ y t. elim (latest y t) [
          | before u ↦ (let h = p.kept y u in record { cell = h.cell; from = omega (arith, h.from); below = h.below; is = same h.cell (omega (arith, h.from)) ∙ h.is })
          | now e ↦ record { cell = k; from = omega arith; below = below; is = here ∙ ap (λ (x : ℕ). get_or names x 0) (sym e) }
        ];
        rising = λ x y m n f h g s t. go-rising x y m n f h g s t (ltb k x) refl;
        less = λ x y m n f h l s t. go-less x y m n f h l s t (ltb k x) refl;
      }
    where
      go-old : (x : ℕ) → k ≤ x → x < high → (b : Bool) → ltb k x ≡ b → Source names i' mid j' high (get_or next x 0)
      go-old x f h true q = let s = p.old x (omega (arith, ltb-true k x q)) h in record { index = s.index; taken = still s.index s.taken; is = same x (ltb-true k x q) ∙ s.is }
      go-old x f h false q = record { index = z; taken = taken; is = at_first x f q }

      go-rising : (x y : ℕ) (m n : List ℕ) → k ≤ x → x < y → y < high → Spells line (get_or next x 0) m → Spells line (get_or next y 0) n → (b : Bool) → ltb k x ≡ b → order_of m n ≡ Less
      go-rising x y m n f h g s t true q = p.rising x y m n (omega (arith, ltb-true k x q)) h g (moved_to (same x (ltb-true k x q)) s) (moved_to (same y (omega arith)) t)
      go-rising x y m n f h g s t false q = p.less y z m n (omega arith) g left (moved_to (at_first x f q) s) (moved_to (same y (omega arith)) t)

      go-less : (x y : ℕ) (m n : List ℕ) → k ≤ x → x < high → In low i' mid j' y → Spells line (get_or names y 0) m → Spells line (get_or next x 0) n → (b : Bool) → ltb k x ≡ b → order_of m n ≡ Less
      go-less x y m n f h l s t true q = p.less x y m n (omega (arith, ltb-true k x q)) h (fewer y l) s (moved_to (same x (ltb-true k x q)) t)
      go-less x y m n f h l s t false q = greatest y m n l s (moved_to (at_first x f q) t)

pub record Joining (line names after : List ℕ) (low mid high i j : ℕ) : Type 0 where
  pub aside : Aside line names low mid high
  pub from : low ≤ i
  pub to : i ≤ mid
  pub upper-from : mid ≤ j
  pub upper-to : j ≤ high
  pub long : length after ≡ length names
  pub below : (k : ℕ) → k < low → get_or after k 0 ≡ get_or names k 0
  pub copied : (k : ℕ) → mid ≤ k → k < j → get_or after (high + (k - mid)) 0 ≡ get_or names k 0
  pub left : (k : ℕ) → low ≤ k → k < i → get_or after k 0 ≡ get_or names k 0
  pub placed : Placed line names after low mid high i j (i + (j - mid))

pub join-start : {line names : List ℕ} {low mid high : ℕ} → Aside line names low mid high → Joining line names names low mid high mid high
join-start a =
    record {
      aside = a;
      from = a.pair.lower.from;
      to = omega arith;
      upper-from = a.pair.upper.from;
      upper-to = omega arith;
      long = refl;
      below = λ k h. refl;
      copied = λ k h l. a.copied k h l;
      left = λ k h l. refl;
      placed =
          record {
            old = λ x f h. absurd (omega (arith, a.pair.upper.from));
            kept = λ y t. elim t [ one f h ↦ absurd (omega arith) | two f h ↦ absurd (omega arith) ];
            rising = λ x y m n f h g s t. absurd (omega (arith, a.pair.upper.from));
            less = λ x y m n f h l s t. absurd (omega (arith, a.pair.upper.from));
          };
    }

module _ {line names after : List ℕ} {low mid high i j : ℕ} (g : Joining line names after low mid high i j) where
  lower : Rises line names low mid
  lower = g.aside.pair.lower

  upper : Rises line names mid high
  upper = g.aside.pair.upper

  named : (y : ℕ) → In i mid j high y → Named line (get_or names y 0)
  named y (one f h) = lower.named y (omega (arith, g.from)) h
  named y (two f h) = upper.named y (omega (arith, g.upper-from)) h

  pub join-done : j ≤ mid → Merged line names after low high
  join-done h =
      record {
        long = g.long;
        rises =
            record {
              from = omega (arith, g.from, g.to, upper.from);
              within = omega (arith, upper.within, g.long);
              named = λ x f l. go_named x f l (ltb x i) refl;
              rising = λ x y m n f l k s t. go-rising x y m n f l k s t (ltb x i) (ltb y i) refl refl;
            };
        below = g.below;
        kept = λ y f l. go-kept y f l (ltb y i) (ltb y mid) refl refl;
        old = λ x f l. go-old x f l (ltb x i) refl;
      }
    where
      put : (x : ℕ) → i ≤ x → i + (j - mid) ≤ x
      put x l = omega arith

      go_named : (x : ℕ) → low ≤ x → x < high → (b : Bool) → ltb x i ≡ b → Named line (get_or after x 0)
      go_named x f l true q = subst (λ (p : ℕ). Named line p) (sym (g.left x f (ltb-true x i q))) (lower.named x f (omega (arith, ltb-true x i q, g.to)))
      go_named x f l false q = let s = g.placed.old x (put x (ltb-false x i q)) l in subst (λ (p : ℕ). Named line p) (sym s.is) (named s.index s.taken)

      go-rising : (x y : ℕ) (m n : List ℕ) → low ≤ x → x < y → y < high → Spells line (get_or after x 0) m → Spells line (get_or after y 0) n → (b c : Bool) → ltb x i ≡ b → ltb y i ≡ c → order_of m n ≡ Less
      go-rising x y m n f l k s t b true p q =
          lower.rising x y m n f l (omega (arith, ltb-true y i q, g.to)) (moved_to (g.left x f (omega (arith, ltb-true y i q))) s) (moved_to (g.left y (omega arith) (ltb-true y i q)) t)
      go-rising x y m n f l k s t true false p q = g.placed.less y x m n (put y (ltb-false y i q)) k (one f (ltb-true x i p)) (moved_to (g.left x f (ltb-true x i p)) s) t
      go-rising x y m n f l k s t false false p q = g.placed.rising x y m n (put x (ltb-false x i p)) l k s t

      widely : (p : ℕ) → Has after (i + (j - mid)) high p → Has after low high p
      widely p a = has_wider low high (omega (arith, g.from)) (omega arith) a

      go-kept : (y : ℕ) → low ≤ y → y < high → (b c : Bool) → ltb y i ≡ b → ltb y mid ≡ c → Has after low high (get_or names y 0)
      go-kept y f l true c p q = record { cell = y; from = f; below = l; is = g.left y f (ltb-true y i p) }
      go-kept y f l false true p q = widely (get_or names y 0) (g.placed.kept y (one (ltb-false y i p) (ltb-true y mid q)))
      go-kept y f l false false p q = widely (get_or names y 0) (g.placed.kept y (two (omega (arith, ltb-false y mid q)) l))

      range : {x : ℕ} → In i mid j high x → (low ≤ x) × (x < high)
      range (one f l) = (omega (arith, g.from), omega (arith, upper.from))
      range (two f l) = (omega (arith, g.from, g.to, g.upper-from), l)

      go-old : (x : ℕ) → low ≤ x → x < high → (b : Bool) → ltb x i ≡ b → Has names low high (get_or after x 0)
      go-old x f l true q = record { cell = x; from = f; below = l; is = sym (g.left x f (ltb-true x i q)) }
      go-old x f l false q = let s = g.placed.old x (put x (ltb-false x i q)) l in record { cell = s.index; from = (range s.taken).0; below = (range s.taken).1; is = sym s.is }

  module _ (h : mid < j) where
    pub join-read : high + (j - 1 - mid) < length after
    join-read = omega (arith, g.aside.room, g.long, g.upper-to)

    pub join-write : i + (j - 1 - mid) < length after
    join-write = omega (arith, upper.within, g.long, g.upper-to, g.to)

    abbrev at : ℕ
    at = get_or after (high + (j - 1 - mid)) 0

    at-is : at ≡ get_or names (j - 1) 0
    at-is = g.copied (j - 1) (omega arith) (omega arith)

    at_named : Named line (get_or names (j - 1) 0)
    at_named = upper.named (j - 1) (omega arith) (omega (arith, g.upper-to))

    module _ (p : ℕ) (k : ℕ) where
      abbrev written : List ℕ
      written = set after k p

      next-long : length written ≡ length names
      next-long = length-set after k p ∙ g.long

      next-below : (x : ℕ) → x < k → get_or written x 0 ≡ get_or after x 0
      next-below x l = get_or-set_other after k x p 0 (omega arith)

      next-above : (x : ℕ) → k < x → get_or written x 0 ≡ get_or after x 0
      next-above x l = get_or-set_other after k x p 0 (omega arith)

    latest-upper : (y : ℕ) → In i mid (j - 1) high y → Latest i mid j high (j - 1) y
    latest-upper y (one f l) = before (one f l)
    latest-upper y (two f l) =
        go (ltb (j - 1) y) refl
      where
        go : (b : Bool) → ltb (j - 1) y ≡ b → Latest i mid j high (j - 1) y
        go true q = before (two (omega (arith, ltb-true (j - 1) y q)) l)
        go false q = now (omega (arith, ltb-false (j - 1) y q))

    still-upper : (y : ℕ) → In i mid j high y → In i mid (j - 1) high y
    still-upper y (one f l) = one f l
    still-upper y (two f l) = two (omega arith) l

    fewer-upper : (y : ℕ) → In low i mid (j - 1) y → In low i mid j y
    fewer-upper y (one f l) = one f l
    fewer-upper y (two f l) = two f (omega arith)

    -- the upper one is put, being after all that are left of the lower run
    module _ (after_lower : (y : ℕ) (m n : List ℕ) → low ≤ y → y < i → Spells line (get_or names y 0) m → Spells line (get_or names (j - 1) 0) n → order_of m n ≡ Less) where
      greatest-upper : (y : ℕ) (m n : List ℕ) → In low i mid (j - 1) y → Spells line (get_or names y 0) m → Spells line (get_or names (j - 1) 0) n → order_of m n ≡ Less
      greatest-upper y m n (one f l) s u = after_lower y m n f l s u
      greatest-upper y m n (two f l) s u = upper.rising y (j - 1) m n f l (omega (arith, g.upper-to)) s u

      joined-upper : Joining line names (set after (i + (j - 1 - mid)) at) low mid high i (j - 1)
      joined-upper =
          record {
            aside = g.aside;
            from = g.from;
            to = g.to;
            upper-from = omega arith;
            upper-to = omega (arith, g.upper-to);
            long = next-long at (i + (j - 1 - mid));
            below = λ k l. next-below at (i + (j - 1 - mid)) k (omega (arith, g.from)) ∙ g.below k l;
            copied = λ k f l. next-above at (i + (j - 1 - mid)) (high + (k - mid)) (omega (arith, g.to, g.upper-to)) ∙ g.copied k f (omega arith);
            left = λ k f l. next-below at (i + (j - 1 - mid)) k (omega arith) ∙ g.left k f l;
            placed =
                let z : i + (j - mid) ≡ i + (j - 1 - mid) + 1 = omega arith in
                placed-more {i' = i} {j' = j - 1} (set after (i + (j - 1 - mid)) at) (subst (λ (k : ℕ). Placed line names after low mid high i j k) z g.placed) (omega (arith, g.to, g.upper-to)) (next-above at (i + (j - 1 - mid))) (get_or-set_same after (i + (j - 1 - mid)) at 0 join-write ∙ at-is) (two (omega arith) (omega arith)) (two (omega arith) (omega (arith, g.upper-to))) latest-upper still-upper fewer-upper greatest-upper;
          }

    pub join-alone : i ≤ low → Joining line names (set after (i + (j - 1 - mid)) at) low mid high i (j - 1)
    join-alone l = joined-upper (λ y m n f k s u. absurd (omega arith))

    module _ (l : low < i) where
      last-named : Named line (get_or names (i - 1) 0)
      last-named = lower.named (i - 1) (omega arith) (omega (arith, g.to))

      last-is : get_or after (i - 1) 0 ≡ get_or names (i - 1) 0
      last-is = g.left (i - 1) (omega arith) (omega arith)

      pub join-due : LaterDue line (get_or after (i - 1) 0) at
      join-due =
          record {
            other = rw last-is last-named.spells.within;
            place = rw at-is at_named.spells.within;
          }

      pub join-lower-read : i - 1 < length after
      join-lower-read = omega (arith, upper.within, upper.from, g.long, g.to)

      pub join-lower-write : i - 1 + (j - mid) < length after
      join-lower-write = omega (arith, upper.within, g.long, g.upper-to, g.to)

      apart : (m n : List ℕ) → Spells line (get_or names (i - 1) 0) m → Spells line (get_or names (j - 1) 0) n → m ≡ n → ⊥
      apart m n s t e = g.aside.pair.differ (i - 1) (j - 1) n (omega arith) (omega (arith, g.to)) (omega (arith, g.upper-to)) (subst (λ (m : List ℕ). Spells line (get_or names (i - 1) 0) m) e s) t

      latest-lower : (y : ℕ) → In (i - 1) mid j high y → Latest i mid j high (i - 1) y
      latest-lower y (two f k) = before (two f k)
      latest-lower y (one f k) =
          go (ltb (i - 1) y) refl
        where
          go : (b : Bool) → ltb (i - 1) y ≡ b → Latest i mid j high (i - 1) y
          go true q = before (one (omega (arith, ltb-true (i - 1) y q)) k)
          go false q = now (omega (arith, ltb-false (i - 1) y q))

      still-lower : (y : ℕ) → In i mid j high y → In (i - 1) mid j high y
      still-lower y (one f k) = one (omega arith) k
      still-lower y (two f k) = two f k

      fewer-lower : (y : ℕ) → In low (i - 1) mid j y → In low i mid j y
      fewer-lower y (one f k) = one f (omega arith)
      fewer-lower y (two f k) = two f k

      module _ {r : Bool} (t : LaterTold line (get_or after (i - 1) 0) at r) where
        pub join-upper : r ≡ true → Joining line names (set after (i + (j - 1 - mid)) at) low mid high i (j - 1)
        join-upper e =
            joined-upper
            (λ y m n f k s u.
            let o : order_of last-named.name n ≡ Less = t.more e last-named.name n (moved_to (sym last-is) last-named.spells) (moved_to (sym at-is) u) in
            up_to lower (i - 1) (omega (arith, g.to)) last-named.name n last-named.spells o y m f (omega arith) s)

        greatest-lower : r ≡ false → (y : ℕ) (m n : List ℕ) → In low (i - 1) mid j y → Spells line (get_or names y 0) m → Spells line (get_or names (i - 1) 0) n → order_of m n ≡ Less
        greatest-lower e y m n (one f k) s u = lower.rising y (i - 1) m n f k (omega (arith, g.to)) s u
        greatest-lower e y m n (two f k) s u =
            let o : order_of at_named.name n ≡ Less = t.less e n at_named.name (moved_to (sym last-is) u) (moved_to (sym at-is) at_named.spells) (apart n at_named.name u at_named.spells) in
            up_to upper (j - 1) (omega (arith, g.upper-to)) at_named.name n at_named.spells o y m f (omega arith) s

        pub join-lower : r ≡ false → Joining line names (set after (i - 1 + (j - mid)) (get_or after (i - 1) 0)) low mid high (i - 1) j
        join-lower e =
            record {
              aside = g.aside;
              from = omega arith;
              to = omega (arith, g.to);
              upper-from = g.upper-from;
              upper-to = g.upper-to;
              long = next-long (get_or after (i - 1) 0) (i - 1 + (j - mid));
              below = λ k f. next-below (get_or after (i - 1) 0) (i - 1 + (j - mid)) k (omega arith) ∙ g.below k f;
              copied = λ k f b. next-above (get_or after (i - 1) 0) (i - 1 + (j - mid)) (high + (k - mid)) (omega (arith, g.to, g.upper-to)) ∙ g.copied k f b;
              left = λ k f b. next-below (get_or after (i - 1) 0) (i - 1 + (j - mid)) k (omega arith) ∙ g.left k f (omega arith);
              placed =
                  let z : i + (j - mid) ≡ i - 1 + (j - mid) + 1 = omega arith in
                  placed-more {i' = i - 1} {j' = j} (set after (i - 1 + (j - mid)) (get_or after (i - 1) 0)) (subst (λ (k : ℕ). Placed line names after low mid high i j k) z g.placed) (omega (arith, g.to, g.upper-to)) (next-above (get_or after (i - 1) 0) (i - 1 + (j - mid))) (get_or-set_same after (i - 1 + (j - mid)) (get_or after (i - 1) 0) 0 join-lower-write ∙ last-is) (one (omega arith) (omega arith)) (one (omega arith) (omega (arith, g.to))) latest-lower still-lower fewer-lower (greatest-lower e);
            }
