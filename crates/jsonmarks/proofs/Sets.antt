-- One mark is set, the others stay
use mathlib.Core.Path.{◌≡◌, refl, sym, ap, subst, ◌∙◌}
use mathlib.Core.Bool.{Bool, true, false}
use mathlib.Core.List.{List}
use Prim.Native.Nat.{ℕ, ◌+◌, ◌*◌, ◌-◌, ◌/◌, ◌%◌, ◌^◌, ◌<◌, ◌≤◌, max}
use native.Mathlib.Omega.{arith}
use native.Mathlib.Nat.{mod-lt, mul-div_cancel, one-mul}
use lib.Dec.{eqb, ltb}
use lib.Bits.{bit_or, or_shr, or_step}
use lib.Pow.{pow_pos, shl_exact}
use lib.ListN.{length, get_or, set, length-set, drop_of_length-le}
use lib.Seq.{get_or-set_same, get_or-set_other}
use borrow.Author.Tests.{eqb-true, eqb-false, ltb-true, ltb-false}
use Rattle.jsontext.specs.Strings.{string}
use Rattle.jsonread.proofs.Spelling.{string-none}
use Rattle.jsonnames.specs.Sorted.{Spells}
use Rattle.jsonmarks.specs.Marks.{digest_from, DigestTold, Marks, SlotTold, MarkDue, MarkTold, Outside, MarkSet, AllDue, AllSet, SizeTold}

-- ---- bits

parity : (a b m : ℕ) → a ≡ b * 2 + m → m < 2 → a % 2 ≡ m
parity a b m e h = omega arith

less_two : (x y : ℕ) → x < 2 → y < 2 → max x y < 2
less_two x y h l = omega arith

pub bit_or_lem : (x y k : ℕ) → bit_or x y / 2 ^ k % 2 ≡ max (x / 2 ^ k % 2) (y / 2 ^ k % 2)
bit_or_lem x y k =
    let a : ℕ = x / 2 ^ k in
    let b : ℕ = y / 2 ^ k in
    parity (bit_or x y / 2 ^ k) (bit_or (a / 2) (b / 2)) (max (a % 2) (b % 2)) (or_shr x y k ∙ or_step a b) (less_two (a % 2) (b % 2) (omega arith) (omega arith))

one_more : (x y : ℕ) → x ≡ 1 → y < 2 → max x y ≡ 1
one_more x y e h = omega arith

more-one : (x y : ℕ) → x < 2 → y ≡ 1 → max x y ≡ 1
more-one x y h e = omega arith

pub bit_kept : (x y k : ℕ) → x / 2 ^ k % 2 ≡ 1 → bit_or x y / 2 ^ k % 2 ≡ 1
bit_kept x y k e = bit_or_lem x y k ∙ one_more (x / 2 ^ k % 2) (y / 2 ^ k % 2) e (omega arith)

own_bit : (k : ℕ) → 2 ^ k / 2 ^ k % 2 ≡ 1
own_bit k = ap (λ (a : ℕ). a % 2) (sym (ap (λ (a : ℕ). a / 2 ^ k) (one-mul (2 ^ k))) ∙ mul-div_cancel 1 (pow_pos k))

pub bit_set : (x k : ℕ) → bit_or x (2 ^ k) / 2 ^ k % 2 ≡ 1
bit_set x k = bit_or_lem x (2 ^ k) k ∙ more-one (x / 2 ^ k % 2) (2 ^ k / 2 ^ k % 2) (omega arith) (own_bit k)

pub bit_shift : (d : ℕ) → d < 1099511627776 → d / 17179869184 < 64
bit_shift d h = omega arith

pub bit_is : (d : ℕ) → d < 1099511627776 → 1 * 2 ^ (d / 17179869184) % 2 ^ 64 ≡ 2 ^ (d / 17179869184)
bit_is d h = shl_exact 1 (d / 17179869184) 64 (omega arith) (omega arith) ∙ one-mul (2 ^ (d / 17179869184))

-- ---- a mark

pub slot-told : (d size : ℕ) → 0 < size → SlotTold d size (d % size)
slot-told d size h = record { is = refl; below = mod-lt d h }

mark-told : {names : List ℕ} {from size d : ℕ} → MarkTold names from size d (eqb (get_or names (from + d % size) 0 / 2 ^ (d / 17179869184) % 2) 1)
mark-told {names} {from} {size} {d} = record { clear = λ q m. eqb-false _ 1 q m }

module _ {names : List ℕ} {from size d : ℕ} (u : MarkDue names from size d) where
  slot-below : (e : ℕ) → e % size < size
  slot-below e = mod-lt e u.some

  pub mark-cell : from + d % size < length names
  mark-cell = omega (arith, u.room, slot-below d)

  abbrev cell : ℕ
  cell = from + d % size

  pub mark-some : 0 < size
  mark-some = u.some

  pub mark-shift : d / 17179869184 < 64
  mark-shift = bit_shift d u.below

  pub mark_digest : d < 1099511627776
  mark_digest = u.below

  pub mark_set : {bit : ℕ} → bit ≡ 2 ^ (d / 17179869184) → MarkSet names (set names (from + d % size) (bit_or (get_or names (from + d % size) 0) bit)) from size d
  mark_set {bit} b =
      record {
        outside = record {
          long = length-set names (from + d % size) _;
          lower = λ k h. get_or-set_other names (from + d % size) k _ 0 (omega arith);
          upper = λ k h. get_or-set_other names (from + d % size) k _ 0 (omega (arith, slot-below d));
        };
        is = ap (λ (a : ℕ). a / 2 ^ (d / 17179869184) % 2) (get_or-set_same names (from + d % size) _ 0 mark-cell ∙ ap (bit_or (get_or names (from + d % size) 0)) b) ∙ bit_set (get_or names (from + d % size) 0) (d / 17179869184);
        kept = λ e m. go e m (eqb (from + e % size) (from + d % size)) refl;
      }
    where
      go : (e : ℕ) → Marks names from size e → (x : Bool) → eqb (from + e % size) cell ≡ x → Marks (set names cell (bit_or (get_or names cell 0) bit)) from size e
      go e m true q =
          let z : from + e % size ≡ cell = eqb-true (from + e % size) cell q in
          ap (λ (a : ℕ). a / 2 ^ (e / 17179869184) % 2) (ap (λ (j : ℕ). get_or (set names cell (bit_or (get_or names cell 0) bit)) j 0) z ∙ get_or-set_same names cell _ 0 mark-cell ∙ ap (λ (j : ℕ). bit_or (get_or names j 0) bit) (sym z))
          ∙ bit_kept (get_or names (from + e % size) 0) bit (e / 17179869184) m
      go e m false q = ap (λ (a : ℕ). a / 2 ^ (e / 17179869184) % 2) (get_or-set_other names cell (from + e % size) _ 0 (eqb-false (from + e % size) cell q)) ∙ m

  module _ {r : ℕ} (s : SlotTold d size r) where
    pub mark-at : from + r < length names
    mark-at = omega (arith, u.room, s.below)

    pub mark-set-at : {bit : ℕ} → bit ≡ 2 ^ (d / 17179869184) → MarkSet names (set names (from + r) (bit_or (get_or names (from + r) 0) bit)) from size d
    mark-set-at {bit} b = subst (λ (r : ℕ). MarkSet names (set names (from + r) (bit_or (get_or names (from + r) 0) bit)) from size d) (sym s.is) (mark_set b)

    pub mark-told-at : MarkTold names from size d (eqb (get_or names (from + r) 0 / 2 ^ (d / 17179869184) % 2) 1)
    mark-told-at = subst (λ (r : ℕ). MarkTold names from size d (eqb (get_or names (from + r) 0 / 2 ^ (d / 17179869184) % 2) 1)) (sym s.is) mark-told

-- ---- cells wiped

pub record Wiping (names after : List ℕ) (from size i : ℕ) : Type 0 where
  pub outside : Outside names after from size
  pub room : from + size ≤ length names

pub wipe_start : {names : List ℕ} {from size : ℕ} → from + size ≤ length names → Wiping names names from size 0
wipe_start h = record { outside = record { long = refl; lower = λ k l. refl; upper = λ k l. refl }; room = h }

module _ {names after : List ℕ} {from size i : ℕ} (g : Wiping names after from size i) where
  pub wipe_cell : i < size → from + i < length after
  wipe_cell h = omega (arith, g.room, g.outside.long)

  pub wipe_on : i < size → Wiping names (set after (from + i) 0) from size (i + 1)
  wipe_on h =
      record {
        outside = record {
          long = length-set after (from + i) 0 ∙ g.outside.long;
          lower = λ k l. get_or-set_other after (from + i) k 0 0 (omega arith) ∙ g.outside.lower k l;
          upper = λ k l. get_or-set_other after (from + i) k 0 0 (omega arith) ∙ g.outside.upper k l;
        };
        room = g.room;
      }

  pub wipe_done : Outside names after from size
  wipe_done = g.outside

-- ---- the marks of all names

pub spells-below : {line : List ℕ} {p : ℕ} {n : List ℕ} → Spells line p n → p < length line
spells-below {line} {p} s =
    go (ltb p (length line)) refl
  where
    go : (x : Bool) → ltb p (length line) ≡ x → p < length line
    go true q = ltb-true p (length line) q
    go false q = absurd (string-none (sym (ap string (drop_of_length-le line (ltb-false p (length line) q))) ∙ s.is))

pub record Marking (line names after : List ℕ) (first end from size k : ℕ) : Type 0 where
  pub due : AllDue names first end from size
  pub from_first : first ≤ k
  pub within : k ≤ end
  pub outside : Outside names after from size
  pub all : (j : ℕ) → first ≤ j → j < k → (n : List ℕ) → Spells line (get_or names j 0) n → Marks after from size (digest_from 0 n)

pub all_start : (line : List ℕ) {names : List ℕ} {first end from size : ℕ} → AllDue names first end from size → Marking line names names first end from size first
all_start line u = record { due = u; from_first = omega arith; within = u.order; outside = record { long = refl; lower = λ k l. refl; upper = λ k l. refl }; all = λ j a h n s. absurd (omega arith) }

module _ {line names after : List ℕ} {first end from size k : ℕ} (g : Marking line names after first end from size k) (l : k < end) where
  pub all-cell : k < length after
  all-cell = omega (arith, g.due.under, g.due.room, g.outside.long)

  same-cell : get_or after k 0 ≡ get_or names k 0
  same-cell = g.outside.lower k (omega (arith, g.due.under))

  pub all-due : {d : ℕ} → DigestTold line (get_or after k 0) d → MarkDue after from size d
  all-due t = record { some = g.due.some; room = omega (arith, g.due.room, g.outside.long); below = t.below }

  pub all-on : {d : ℕ} {next : List ℕ} → DigestTold line (get_or after k 0) d → MarkSet after next from size d → Marking line names next first end from size (k + 1)
  all-on {d} {next} t m =
      record {
        due = g.due;
        from_first = omega (arith, g.from_first);
        within = omega arith;
        outside = record {
          long = m.outside.long ∙ g.outside.long;
          lower = λ j h. m.outside.lower j h ∙ g.outside.lower j h;
          upper = λ j h. m.outside.upper j h ∙ g.outside.upper j h;
        };
        all = λ j a h n s. go j a h n s (ltb j k) refl;
      }
    where
      go : (j : ℕ) → first ≤ j → j < k + 1 → (n : List ℕ) → Spells line (get_or names j 0) n → (x : Bool) → ltb j k ≡ x → Marks next from size (digest_from 0 n)
      go j a h n s true q = m.kept (digest_from 0 n) (g.all j a (ltb-true j k q) n s)
      go j a h n s false q =
          let z : j ≡ k = omega (arith, ltb-false j k q) in
          let y : get_or names j 0 ≡ get_or after k 0 = ap (λ (i : ℕ). get_or names i 0) z ∙ sym same-cell in
          let v = subst (λ (p : ℕ). Spells line p n) y s in
          subst (λ (e : ℕ). Marks next from size e) (t.is n v.rest v.is) m.is

  pub all_past : length line ≤ get_or after k 0 → Marking line names after first end from size (k + 1)
  all_past h =
      record {
        due = g.due;
        from_first = omega (arith, g.from_first);
        within = omega arith;
        outside = g.outside;
        all = λ j a i n s. go j a i n s (ltb j k) refl;
      }
    where
      go : (j : ℕ) → first ≤ j → j < k + 1 → (n : List ℕ) → Spells line (get_or names j 0) n → (x : Bool) → ltb j k ≡ x → Marks after from size (digest_from 0 n)
      go j a i n s true q = g.all j a (ltb-true j k q) n s
      go j a i n s false q =
          let z : j ≡ k = omega (arith, ltb-false j k q) in
          let y : get_or names j 0 ≡ get_or after k 0 = ap (λ (i : ℕ). get_or names i 0) z ∙ sym same-cell in
          absurd (omega (arith, y, spells-below s))

pub all_done : {line names after : List ℕ} {first end from size k : ℕ} → Marking line names after first end from size k → end ≤ k → AllSet line names after first end from size
all_done g h = record { outside = g.outside; all = λ j a l n s. g.all j a (omega arith) n s }

-- ---- whose the table is

module _ {line names : List ℕ} {first : ℕ} where
  pub size-lower : get_or names (length names - 1) 0 ≤ length line → SizeTold line names first 0
  size-lower h = record { none = λ q o. omega (arith, o.owner); owns = λ q. absurd (omega arith); is = λ q. absurd (omega arith) }

  pub size-other : (get_or names (length names - 1) 0 - length line - 1 ≡ first → ⊥) → SizeTold line names first 0
  size-other n = record { none = λ q o. n (omega (arith, o.owner)); owns = λ q. absurd (omega arith); is = λ q. absurd (omega arith) }

  pub size-large : length names / 4 - 2 < get_or names (length names - 2) 0 → SizeTold line names first 0
  size-large h = record { none = λ q o. omega (arith, o.room); owns = λ q. absurd (omega arith); is = λ q. absurd (omega arith) }

  pub size_is : 8 ≤ length names → length line < get_or names (length names - 1) 0 → get_or names (length names - 1) 0 - length line - 1 ≡ first → get_or names (length names - 2) 0 ≤ length names / 4 - 2 → SizeTold line names first (get_or names (length names - 2) 0)
  size_is m l e h =
      record {
        none = λ q o. omega (arith, o.some);
        owns = λ q. record { owner = omega arith; some = q; room = omega arith };
        is = λ q. refl;
      }
