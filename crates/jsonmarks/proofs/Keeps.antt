-- A name is told by its mark or looked for, kept, and marked
use Rattle.std.specs.Prelude.{Option, Some, None, Result, Ok, Err}
use mathlib.Core.Path.{◌≡◌, refl, sym, ap, subst, ◌∙◌}
use mathlib.Core.Bool.{Bool, true, false, not}
use mathlib.Core.List.{List, ◌++◌}
use Prim.Native.Nat.{ℕ, ◌+◌, ◌-◌, ◌/◌, ◌%◌, ◌^◌, ◌<◌, ◌≤◌}
use native.Mathlib.Omega.{arith}
use native.Mathlib.Nat.{mod-lt}
use lib.Dec.{eqb, ltb}
use lib.ListN.{length, take, drop, get_or, set, length-set}
use lib.Seq.{get_or-set_same, get_or-set_other}
use borrow.Author.Tests.{eqb-true, eqb-false, ltb-true, ltb-false, not-true}
use Rattle.jsontext.specs.declared.Fault.{Fault}
use Rattle.jsontext.specs.declared.Fault.TheVariants.{RepeatedName}
use Rattle.jsontext.specs.declared.Bad.{Bad}
use Rattle.jsontext.specs.Strings.{string}
use Rattle.jsonread.specs.Told.{Told}
use Rattle.jsonnames.specs.Sorted.{Spells, Named, Runs, over, even, odd, edge, Sorted}
use Rattle.jsonnames.specs.Runs.{PutDue, new, old, Grown, Stored}
use Rattle.jsonnames.proofs.Tables.{enter-unread, enter-again, enter-kept}
use Rattle.jsonmarks.specs.Marks.{digest_from, DigestTold, table_from, Marks, Owns, Filed, MarkDue, MarkTold, Outside, MarkSet, AllDue, AllSet, SizeTold, RoomTold, OwnerTold, Signed, TakeDue, Taken, AbsentDue, AbsentTold, KeepDue, Kept, DueTold, NoteDue, Noted, Held, Tended}
use Rattle.jsonmarks.proofs.Uppers.{owns_back, marks-there, below-upper}
use Rattle.jsonmarks.proofs.Parts.{sorted-onto, part-long, part-cell, whole-upper, stored-long, stored-below, grown-more, stored-part, stored-whole}

mod_below : (d size : ℕ) → 0 < size → d % size < size
mod_below d size h = mod-lt d h

bits-same : {a b : ℕ} (d : ℕ) → a ≡ b → b / 2 ^ (d / 17179869184) % 2 ≡ 1 → a / 2 ^ (d / 17179869184) % 2 ≡ 1
bits-same d e m = ap (λ (a : ℕ). a / 2 ^ (d / 17179869184) % 2) e ∙ m

-- ---- the table becomes an object's

pub room_most : (cells : ℕ) → 12 ≤ cells → RoomTold cells (cells / 4 - 2)
room_most cells h = record { some = omega arith; most = omega arith }

pub room-half : (cells count : ℕ) → 256 ≤ count → count / 2 ≤ cells / 4 - 2 → RoomTold cells (count / 2)
room-half cells count h l = record { some = omega arith; most = l }

pub owner-none : (bytes first : ℕ) → OwnerTold bytes first 0
owner-none bytes first = record { is = λ q. absurd (omega arith) }

pub owner-is : (bytes first : ℕ) → OwnerTold bytes first (bytes + 1 + first)
owner-is bytes first = record { is = λ q. refl }

module _ {names : List ℕ} {first end : ℕ} (u : TakeDue names first end) where
  pub take-order : first ≤ end
  take-order = omega (arith, u.many)

  pub take_cells : 12 ≤ length names
  take_cells = omega (arith, u.many, u.under)

  pub take-many : 256 ≤ end - first
  take-many = u.many

  module _ {size : ℕ} (h : RoomTold (length names) size) where
    pub take-wipe : table_from (length names) + size ≤ length names
    take-wipe = omega (arith, h.most, take_cells)

    module _ {wiped : List ℕ} (o : Outside names wiped (table_from (length names)) size) where
      pub take_all : AllDue wiped first end (table_from (length names)) size
      take_all = record { some = h.some; room = omega (arith, o.long, take-wipe); order = take-order; under = u.under }

      module _ {line marked : List ℕ} (s : AllSet line wiped marked first end (table_from (length names)) size) where
        pub take_long : length marked ≡ length names
        take_long = s.outside.long ∙ o.long

        pub take-almost : length names - 2 < length marked
        take-almost = omega (arith, take_long, take_cells)

        pub take_last : length names - 1 < length (set marked (length names - 2) size)
        take_last = omega (arith, take_long, take_cells, length-set marked (length names - 2) size)

        pub take-end : length names - 1 < length marked
        take-end = omega (arith, take_long, take_cells)

        pub take_same : (i j x y : ℕ) → length (set (set marked i x) j y) ≡ length names
        take_same i j x y = length-set (set marked i x) j y ∙ length-set marked i x ∙ take_long

        module _ {v : ℕ} (e : OwnerTold (length line) first v) where
          abbrev sized : List ℕ
          sized = set marked (length names - 2) size

          abbrev owned : List ℕ
          owned = set (set marked (length names - 2) size) (length names - 1) v

          long-owned : length owned ≡ length names
          long-owned = length-set sized (length names - 1) v ∙ length-set marked (length names - 2) size ∙ take_long

          lower-owned : (k : ℕ) → k < length names - 2 → get_or owned k 0 ≡ get_or marked k 0
          lower-owned k q = get_or-set_other sized (length names - 1) k v 0 (omega arith) ∙ get_or-set_other marked (length names - 2) k size 0 (omega arith)

          size-owned : get_or owned (length owned - 2) 0 ≡ size
          size-owned =
              let z : length owned - 2 ≡ length names - 2 = omega (arith, long-owned) in
              ap (λ (j : ℕ). get_or owned j 0) z ∙ get_or-set_other sized (length names - 1) (length names - 2) v 0 (omega (arith, take_cells))
              ∙ get_or-set_same marked (length names - 2) size 0 take-almost

          last-owned : get_or owned (length owned - 1) 0 ≡ v
          last-owned =
              let z : length owned - 1 ≡ length names - 1 = omega (arith, long-owned) in
              ap (λ (j : ℕ). get_or owned j 0) z ∙ get_or-set_same sized (length names - 1) v 0 take_last

          marks-owned : (d : ℕ) → Marks marked (table_from (length names)) size d → Marks owned (table_from (length owned)) (get_or owned (length owned - 2) 0) d
          marks-owned d m =
              let z : table_from (length owned) + d % get_or owned (length owned - 2) 0 ≡ table_from (length names) + d % size =
              ap (λ (s : ℕ). table_from (length owned) + d % s) size-owned ∙ ap (λ (n : ℕ). table_from n + d % size) long-owned
              in
              bits-same d (ap (λ (j : ℕ). get_or owned j 0) z ∙ lower-owned (table_from (length names) + d % size) (omega (arith, h.most, mod_below d size h.some, take_cells))) m

          not-owned : (f : ℕ) → f < first → Owns line owned f → ⊥
          not-owned f q w =
              let x : v ≡ length line + 1 + f = sym last-owned ∙ w.owner in
              let y : v ≡ length line + 1 + first = e.is (omega arith) in
              omega arith

          pub taken-owned : Taken line names (set (set marked (length names - 2) size) (length names - 1) v) first end
          taken-owned =
              record {
                long = long-owned;
                lower = λ k q. lower-owned k (omega (arith, take_cells)) ∙ s.outside.lower k q ∙ o.lower k q;
                marked = record {
                  all = λ c w k a q n sp.
                      marks-owned (digest_from 0 n) (s.all k a q n (subst (λ (p : ℕ). Spells line p n) (lower-owned k (omega (arith, u.under, take_cells)) ∙ s.outside.lower k (omega (arith, u.under))) sp));
                };
                others = not-owned;
              }

          pub taken-signed : {after : List ℕ} → Signed size v marked after → Taken line names after first end
          taken-signed {after} w =
              let z : after ≡ set (set marked (length names - 2) size) (length names - 1) v = w.is ∙ ap (λ (n : ℕ). set (set marked (n - 2) size) (n - 1) v) take_long in
              subst (λ (l : List ℕ). Taken line names l first end) (sym z) taken-owned

        pub take-two : 2 ≤ length marked
        take-two = omega (arith, take_long, take_cells)

        pub signed-long : {v : ℕ} {after : List ℕ} → Signed size v marked after → length after ≡ length names
        signed-long {v} w = ap length w.is ∙ take_same (length marked - 2) (length marked - 1) size v

pub sign-last : (names : List ℕ) (i x : ℕ) → 2 ≤ length names → length names - 1 < length (set names i x)
sign-last names i x h = omega (arith, length-set names i x)

pub sign-done : (names : List ℕ) (size owner : ℕ) → Signed size owner names (set (set names (length names - 2) size) (length names - 1) owner)
sign-done names size owner = record { is = refl }

-- ---- a name that is not there by its mark

pub absent-no : {line names : List ℕ} {first end d : ℕ} → AbsentTold line names first end d false
absent-no = record { lacks = λ q. absurd (let z : ◌≡◌ {A = ℕ} 0 1 = cc in omega arith) }

pub size-cells : {line names : List ℕ} {first end d : ℕ} → AbsentDue line names first end d → 256 ≤ end - first → 8 ≤ length names
size-cells u h = omega (arith, u.filed.sorted.within)

pub absent-order : {line names : List ℕ} {first end d : ℕ} → AbsentDue line names first end d → first ≤ end
absent-order u = u.filed.sorted.from

module _ {line names : List ℕ} {first end d size : ℕ} (u : AbsentDue line names first end d) (t : SizeTold line names first size) (z : size ≡ 0 → ⊥) where
  some_size : 0 < size
  some_size = go size z
    where
      go : (s : ℕ) → (s ≡ 0 → ⊥) → 0 < s
      go s n = omega arith

  pub absent-due : MarkDue names (table_from (length names)) size d
  absent-due = let o = t.owns some_size in record { some = some_size; room = omega (arith, o.room, t.is some_size); below = u.below }

  pub absent-yes : {x : Bool} → 256 ≤ end - first → MarkTold names (table_from (length names)) size d x → AbsentTold line names first end d (not x)
  absent-yes {x} c m =
      record {
        lacks = λ q n e k a h s.
            let v = u.filed.marked.all c (t.owns some_size) k a h n s in
            let w = subst (λ (g : ℕ). Marks names (table_from (length names)) g (digest_from 0 n)) (sym (t.is some_size)) v in
            m.clear (not-true x q) (subst (λ (g : ℕ). Marks names (table_from (length names)) size g) (sym e) w);
      }

-- ---- a name kept in the lower cells

module _ {line names : List ℕ} {first end at : ℕ} (u : KeepDue line names first end at) where
  pub keep-order : first ≤ end
  keep-order = u.filed.sorted.from

  pub keep-within : table_from (length names) ≤ length names
  keep-within = omega arith

  pub keep-part : length (take (table_from (length names)) names) ≡ table_from (length names)
  keep-part = part-long names keep-within

  pub keep-sorted : Sorted line (take (table_from (length names)) names) first end
  keep-sorted = sorted-onto (omega (arith, keep-part, u.under)) (λ k h. part-cell names keep-within k (omega (arith, u.under))) u.filed.sorted

  pub keep-room : end < length (take (table_from (length names)) names)
  keep-room = omega (arith, keep-part, u.under)

  pub keep-absent : {d : ℕ} → d < 1099511627776 → AbsentDue line names first end d
  keep-absent h = record { filed = u.filed; below = h }

  pub keep-put : {d : ℕ} {x : Bool} → DigestTold line at d → AbsentTold line names first end d x → x ≡ true → PutDue line (take (table_from (length names)) names) first (edge first end) end at
  keep-put t a q =
      record {
        sorted = keep-sorted;
        last-is = refl;
        room = keep-room;
        named = u.named;
        lacks = λ n s k f h v. a.lacks q n (t.is n s.rest s.is) k f (omega arith) (subst (λ (p : ℕ). Spells line p n) (part-cell names keep-within k (omega (arith, u.under))) v);
      }

  pub keep-kept : {part : List ℕ} {r : Option ℕ} → Stored line (take (table_from (length names)) names) part first end at r → Kept line names (part ++ drop (table_from (length names)) names) first end at r
  keep-kept {part} s = record { stored = stored-whole names keep-within u.under s; upper = whole-upper names keep-within part (stored-part names keep-within u.under s) }

  pub keep-place : at ≤ length line
  keep-place = u.named.spells.within

pub digest_below : {line : List ℕ} {at d : ℕ} → DigestTold line at d → d < 1099511627776
digest_below t = t.below

-- ---- the mark of a name that was kept

pub due-first : (count : ℕ) → count ≡ 256 → DueTold count true
due-first count e = record { first = λ q. refl }

pub due-other : {count : ℕ} {x : Bool} → (count ≡ 256 → ⊥) → DueTold count x
due-other n = record { first = λ q. absurd (n q) }

module _ {line names : List ℕ} {first end d : ℕ} (u : NoteDue line names first end d) where
  pub note_order : first ≤ end
  note_order = u.order

  pub note-count : 0 < end + 1 - first
  note-count = omega (arith, u.order)

  pub note-cells : 8 ≤ length names
  note-cells = omega (arith, u.many, u.under)

  pub note_take : {x : Bool} → DueTold (end + 1 - first) x → TakeDue names first (end + 1)
  note_take t = record { many = omega (arith, u.many, u.order); under = omega (arith, u.under) }

  pub noted-taken : {after : List ℕ} → Taken line names after first (end + 1) → Noted line names after first end
  noted-taken t = record { long = t.long; lower = t.lower; marked = t.marked; owner = λ f h o. absurd (t.others f h o); marks = λ f h o. absurd (t.others f h o) }

  module _ {x : Bool} (t : DueTold (end + 1 - first) x) (q : x ≡ false) where
    large : 256 ≤ end - first
    large =
        go (eqb (end + 1 - first) 256) refl
      where
        go : (y : Bool) → eqb (end + 1 - first) 256 ≡ y → 256 ≤ end - first
        go true e = absurd (let z : true ≡ false = sym (t.first (eqb-true (end + 1 - first) 256 e)) ∙ q in let w : ◌≡◌ {A = ℕ} 0 1 = cc in omega arith)
        go false e = let n = eqb-false (end + 1 - first) 256 e in over-large n
          where
            over-large : (end + 1 - first ≡ 256 → ⊥) → 256 ≤ end - first
            over-large n = omega (arith, u.many, u.order)

    module _ {size : ℕ} (s : SizeTold line names first size) where
      pub noted-none : size ≤ 0 → Noted line names names first end
      noted-none h =
          record {
            long = refl;
            lower = λ k l. refl;
            marked = record { all = λ c o. absurd (s.none (omega arith) o) };
            owner = λ f h o. o;
            marks = λ f h o k l. refl;
          }

      module _ (h : 0 < size) where
        owns : Owns line names first
        owns = s.owns h

        pub note_mark : MarkDue names (table_from (length names)) size d
        note_mark = record { some = h; room = omega (arith, owns.room, s.is h); below = u.below }

        module _ {after : List ℕ} (m : MarkSet names after (table_from (length names)) size d) where
          long : length after ≡ length names
          long = m.outside.long

          size-there : get_or after (length after - 2) 0 ≡ size
          size-there =
              let z : length after - 2 ≡ length names - 2 = omega (arith, long) in
              ap (λ (j : ℕ). get_or after j 0) z ∙ m.outside.upper (length names - 2) (omega (arith, owns.room, s.is h)) ∙ sym (s.is h)

          owner-there : get_or after (length after - 1) 0 ≡ length line + 1 + first
          owner-there =
              let z : length after - 1 ≡ length names - 1 = omega (arith, long) in
              ap (λ (j : ℕ). get_or after j 0) z ∙ m.outside.upper (length names - 1) (omega (arith, owns.room, s.is h)) ∙ owns.owner

          not-others : (f : ℕ) → f < first → Owns line after f → ⊥
          not-others f l o = let x : length line + 1 + first ≡ length line + 1 + f = sym owner-there ∙ o.owner in omega arith

          marks-size : (e : ℕ) → Marks names (table_from (length names)) (get_or names (length names - 2) 0) e → Marks names (table_from (length names)) size e
          marks-size e = subst (λ (g : ℕ). Marks names (table_from (length names)) g e) (sym (s.is h))

          marks-after : (e : ℕ) → Marks after (table_from (length names)) size e → Marks after (table_from (length after)) (get_or after (length after - 2) 0) e
          marks-after e w = bits-same e (ap (λ (j : ℕ). get_or after j 0) (ap (λ (g : ℕ). table_from (length after) + e % g) size-there ∙ ap (λ (n : ℕ). table_from n + e % size) long)) w

          all_there : (k : ℕ) → first ≤ k → k < end + 1 → (n : List ℕ) → Spells line (get_or after k 0) n → (y : Bool) → eqb d (digest_from 0 n) ≡ y → Marks after (table_from (length names)) size (digest_from 0 n)
          all_there k a b n p true e = subst (λ (g : ℕ). Marks after (table_from (length names)) size g) (eqb-true d (digest_from 0 n) e) m.is
          all_there k a b n p false e =
              m.kept (digest_from 0 n) (marks-size (digest_from 0 n) (u.nearly large owns k a b n (subst (λ (p : ℕ). Spells line p n) (m.outside.lower k (omega (arith, u.under))) p) (eqb-false d (digest_from 0 n) e)))

          pub noted-marked : Noted line names after first end
          noted-marked =
              record {
                long = long;
                lower = m.outside.lower;
                marked = record { all = λ c o k a b n p. marks-after (digest_from 0 n) (all_there k a b n p (eqb d (digest_from 0 n)) refl) };
                owner = λ f l o. absurd (not-others f l o);
                marks = λ f l o. absurd (not-others f l o);
              }

-- ---- a name of a large object

module _ {line names : List ℕ} {first end at : ℕ} (u : KeepDue line names first end at) {d : ℕ} (t : DigestTold line at d) {mid : List ℕ} {r : Option ℕ} (k : Kept line names mid first end at r) where
  mid-long : length mid ≡ length names
  mid-long = stored-long k.stored

  pub held-there : {p : ℕ} → r ≡ Some p → Held line names mid first end at (Some p)
  held-there {p} q =
      record {
        stored = subst (λ (x : Option ℕ). Stored line names mid first end at x) q k.stored;
        below = below-upper line names mid mid-long k.upper (stored-below k.stored);
        marked = λ z. absurd (let z : ◌≡◌ {A = ℕ} 0 1 = cc in omega arith);
      }

  module _ (q : r ≡ None) (many : 255 ≤ end - first) where
    grown : Grown line names mid first end at
    grown = k.stored.new q

    pub held_note : NoteDue line mid first end d
    held_note =
        record {
          order = u.filed.sorted.from;
          many = many;
          under = omega (arith, mid-long, u.under);
          below = t.below;
          nearly = λ c o j a b n s x.
              marks-there line names mid mid-long k.upper o (digest_from 0 n)
              (elim (grown.came j a b) [
                | new e ↦ absurd (let v = subst (λ (p : ℕ). Spells line p n) e s in x (t.is n v.rest v.is))
                | old w ↦ u.filed.marked.all c (owns_back line names mid mid-long k.upper o) w.cell w.from w.below n (subst (λ (p : ℕ). Spells line p n) (sym w.is) s)
              ]);
        }

    pub held_new : {after : List ℕ} → Noted line mid after first end → Held line names after first end at None
    held_new {after} m =
        record {
          stored = record {
            there = λ p z. absurd (let z : ◌≡◌ {A = ℕ} 0 1 = cc in omega arith);
            same = λ p z. absurd (let z : ◌≡◌ {A = ℕ} 0 1 = cc in omega arith);
            new = λ z. grown-more m.long (λ j h. m.lower j (omega (arith, mid-long, u.under))) grown;
          };
          below = record {
            long = m.long ∙ mid-long;
            same = λ j h. m.lower j (omega (arith, mid-long, u.under, u.filed.sorted.from)) ∙ grown.below j h;
            owner = λ f h o. owns_back line names mid mid-long k.upper (m.owner f h o);
            marks = λ f h o j l. m.marks f h o j (omega (arith, mid-long)) ∙ k.upper j l;
          };
          marked = λ z. m.marked;
        }

-- ---- names that reach into the table

split : {P : Type 0} (k low : ℕ) → (k < low → P) → (low ≤ k → P) → P
split {P} k low f g =
    go (ltb k low) refl
  where
    go : (x : Bool) → ltb k low ≡ x → P
    go true q = f (ltb-true k low q)
    go false q = g (ltb-false k low q)

runs-places : {line names : List ℕ} {first size count high : ℕ} → Runs line names first size count high → (k : ℕ) → first ≤ k → k < high → get_or names k 0 ≤ length line
runs-places (over c h) k a b = absurd (omega arith)
runs-places (even half c r) k a b = runs-places r k a b
runs-places (odd half low c h s r) k a b = split k low (λ q. runs-places r k a q) (λ q. (s.named k q b).spells.within)

pub sorted-places : {line names : List ℕ} {first end : ℕ} → Sorted line names first end → (k : ℕ) → first ≤ k → k < end → get_or names k 0 ≤ length line
sorted-places {line} {names} {first} {end} s k a b = split k (edge first end) (λ q. runs-places s.runs k a q) (λ q. (s.last.named k q b).spells.within)

-- where its last cell has a place or 0, the table is no one's
held-no-one : {line names after : List ℕ} {first end at : ℕ} → Grown line names after first end at → ((f : ℕ) → Owns line after f → ⊥) → Held line names after first end at None
held-no-one g n =
    record {
      stored = record {
        there = λ p z. absurd (let z : ◌≡◌ {A = ℕ} 0 1 = cc in omega arith);
        same = λ p z. absurd (let z : ◌≡◌ {A = ℕ} 0 1 = cc in omega arith);
        new = λ z. g;
      };
      below = record { long = g.long; same = g.below; owner = λ f h o. absurd (n f o); marks = λ f h o. absurd (n f o) };
      marked = λ z. record { all = λ c o. absurd (n _ o) };
    }

module _ {line names : List ℕ} {first end at : ℕ} (l : end < length names) {mid : List ℕ} {r : Option ℕ} (s : Stored line names mid first end at r) where
  pub crowd_there : {p : ℕ} → r ≡ Some p → Held line names mid first end at (Some p)
  crowd_there {p} q =
      let e : mid ≡ names = s.same p q in
      record {
        stored = subst (λ (x : Option ℕ). Stored line names mid first end at x) q s;
        below = below-upper line names mid (ap length e) (λ k h. ap (λ (l : List ℕ). get_or l k 0) e) (λ k h. ap (λ (l : List ℕ). get_or l k 0) e);
        marked = λ z. absurd (let z : ◌≡◌ {A = ℕ} 0 1 = cc in omega arith);
      }

  pub crowd_long : 0 < length mid
  crowd_long = omega (arith, stored-long s)

  module _ (q : r ≡ None) where
    pub crowd_last : end < length mid - 1 → Held line names (set mid (length mid - 1) 0) first end at None
    crowd_last h =
        held-no-one (grown-more (length-set mid (length mid - 1) 0) (λ k b. get_or-set_other mid (length mid - 1) k 0 0 (omega arith)) (s.new q))
        (λ f o.
        let z : length (set mid (length mid - 1) 0) - 1 ≡ length mid - 1 = omega (arith, length-set mid (length mid - 1) 0) in
        let y : 0 ≡ length line + 1 + f = sym (get_or-set_same mid (length mid - 1) 0 0 (omega arith)) ∙ ap (λ (j : ℕ). get_or (set mid (length mid - 1) 0) j 0) (sym z) ∙ o.owner in
        omega arith)

    pub crowd_full : length mid - 1 ≤ end → Held line names mid first end at None
    crowd_full h =
        let g = s.new q in
        held-no-one g (λ f o. omega (arith, sorted-places g.sorted (length mid - 1) (omega (arith, g.sorted.from, stored-long s, g.added.from, g.added.below)) (omega (arith, stored-long s)), o.owner))

-- ---- a name of a small object

module _ {line names : List ℕ} {first end at : ℕ} (f : Filed line names first end) (n : Named line at) (h : end < table_from (length names)) where
  pub hold_due : KeepDue line names first end at
  hold_due = record { filed = f; under = h; named = n }

  pub hold_part : length (take (table_from (length names)) names) ≡ table_from (length names)
  hold_part = keep-part hold_due

  pub hold_sorted : Sorted line (take (table_from (length names)) names) first end
  hold_sorted = keep-sorted hold_due

  pub hold_room : end < length (take (table_from (length names)) names)
  hold_room = keep-room hold_due

  pub hold_few : {part : List ℕ} {r : Option ℕ} → end - first < 255 → Stored line (take (table_from (length names)) names) part first end at r → Held line names (part ++ drop (table_from (length names)) names) first end at r
  hold_few l s =
      let k = keep-kept hold_due s in
      record {
        stored = k.stored;
        below = below-upper line names _ (stored-long k.stored) k.upper (stored-below k.stored);
        marked = λ z. record { all = λ c. absurd (omega (arith, f.sorted.from)) };
      }

pub hold_order : {line names : List ℕ} {first end : ℕ} → Filed line names first end → first ≤ end
hold_order f = f.sorted.from

-- ---- a name is read and kept

module _ {line : List ℕ} {at : ℕ} {x : Result ℕ Bad} (t : Told line at x (string (drop at line))) (h : at ≤ length line) where
  pub tended_unread : {names : List ℕ} {first end : ℕ} {b : Bad} → x ≡ Err b → Tended line names names first end at (Err b)
  tended_unread e =
      record {
        entered = enter-unread t h e;
        below = record { long = refl; same = λ k h. refl; owner = λ f h o. o; marks = λ f h o k l. refl };
        marked = λ k z. absurd (let z : ◌≡◌ {A = ℕ} 0 1 = cc in omega arith);
      }

  module _ {e : ℕ} (a : x ≡ Ok e) {names after : List ℕ} {first end : ℕ} {y : Option ℕ} (u : Held line names after first end at y) where
    pub tended_again : {o : ℕ} → y ≡ Some o → Tended line names after first end at (Err (record { fault = RepeatedName; at = at; first = o }))
    tended_again z = record { entered = enter-again t h a u.stored z; below = u.below; marked = λ k z. absurd (let z : ◌≡◌ {A = ℕ} 0 1 = cc in omega arith) }

    pub tended_kept : y ≡ None → Tended line names after first end at (Ok e)
    tended_kept z = record { entered = enter-kept t h a u.stored z; below = u.below; marked = λ k q. u.marked z }
