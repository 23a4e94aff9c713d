-- A name put into the last run, which may be full then
use Rattle.std.specs.Prelude.{Option, Some, None, Result, Ok, Err}
use mathlib.Core.Path.{◌≡◌, refl, sym, ap, subst, ◌∙◌}
use mathlib.Core.Bool.{Bool, true, false}
use mathlib.Core.List.{List}
use Prim.Native.Nat.{ℕ, ◌+◌, ◌-◌, ◌/◌, ◌%◌, ◌<◌, ◌≤◌}
use native.Mathlib.Omega.{arith}
use lib.Dec.{ltb}
use lib.ListN.{length, get_or}
use borrow.Author.Tests.{ltb-true, ltb-false}
use Rattle.jsonnames.specs.Sorted.{Spells, Named, Rises, Runs, Differ, edge, Sorted, Lacks, FindTold, Inserted}
use Rattle.jsonnames.specs.Merges.{Has}
use Rattle.jsonnames.specs.Runs.{Looked, LookTold, CarryDue, Carried, PutDue, Came, new, old, Stored}
use Rattle.jsonnames.proofs.Halves.{moved_to}
use Rattle.jsonnames.proofs.Stays.{rises-differ, between-lacks, runs-kept}
use Rattle.jsonnames.proofs.Grows.{rises-still, inserted_kept, inserted_new, inserted_came}

-- ---- blocks of sixteen, with one name more

rest_more : (n : ℕ) → n % 16 < 15 → (n + 1) % 16 ≡ n % 16 + 1
rest_more n h = omega arith

blocks_more : (n : ℕ) → n % 16 < 15 → n / 16 ≡ (n + 1) / 16
blocks_more n h = omega arith

rest_full : (n : ℕ) → n % 16 ≡ 15 → (n + 1) % 16 ≡ 0
rest_full n h = omega arith

blocks_full : (n : ℕ) → n % 16 ≡ 15 → n / 16 ≡ (n + 1 - 16) / 16
blocks_full n h = omega arith

rest_under : (n r : ℕ) → r ≡ n % 16 → (r ≡ 15 → ⊥) → r < 15
rest_under n r e h = omega (arith, h)

rest-is : (n end last : ℕ) → n ≤ end → last ≡ end - n % 16 → end - last ≡ n % 16
rest-is n end last h e = omega arith

one_more : (first end : ℕ) → first ≤ end → end + 1 - first ≡ end - first + 1
one_more first end h = omega arith

one_less : (end r : ℕ) → end - r ≡ end + 1 - (r + 1)
one_less end r = omega arith

sixteen-less : (first end : ℕ) → end + 1 - 16 - first ≡ end + 1 - first - 16
sixteen-less first end = omega arith

less_none : (n r : ℕ) → r ≡ 0 → n - r ≡ n
less_none n r e = omega arith

whole_of : (first end : ℕ) → (end + 1 - first) % 16 ≡ 0 → edge first (end + 1) ≡ end + 1
whole_of first end h = less_none (end + 1) ((end + 1 - first) % 16) h

-- ---- looked for in the runs before the last one

module _ {line names : List ℕ} {first end at : ℕ} (s : Sorted line names first end) (n : Named line at) where
  pub store_look : Looked line names first (edge first end) at
  store_look =
      let z : (end - first) / 16 ≡ (edge first end - first) / 16 = omega (arith, s.from) in
      record { runs = subst (λ (k : ℕ). Runs line names first 16 k (edge first end)) z s.runs; within = omega (arith, s.within); place = n.spells.within }

  module _ {y : Option ℕ} (l : LookTold line names first (edge first end) at y) where
    pub store_there : {p : ℕ} → y ≡ Some p → Stored line names names first end at (Some p)
    store_there {p} e =
        record {
          there = λ q z m u.
              let x : p ≡ q = cc in
              let w = l.there q (e ∙ ap Some x) m u in
              record { cell = w.cell; from = w.from; below = omega (arith, w.below); is = w.is; spells = w.spells };
          same = λ q z. refl;
          new = λ z. absurd (let z : ◌≡◌ {A = ℕ} 0 1 = cc in omega arith);
        }

    pub store_due : y ≡ None → end < length names → PutDue line names first (edge first end) end at
    store_due e r = record { sorted = s; last-is = refl; room = r; named = n; lacks = λ m u. l.new e m u }

-- ---- put into the last run

module _ {line names : List ℕ} {first last end at : ℕ} (d : PutDue line names first last end at) where
  pub rises : Rises line names last end
  rises = subst (λ (k : ℕ). Rises line names k end) (sym d.last-is) d.sorted.last

  rest : end - last ≡ (end - first) % 16
  rest = rest-is (end - first) end last (omega arith) d.last-is

  from_last : first ≤ last
  from_last = omega (arith, d.last-is, d.sorted.from)

  module _ {y : Result ℕ ℕ} (f : FindTold line names last end at y) where
    pub put-there : {p : ℕ} → y ≡ Ok p → Stored line names names first end at (Some p)
    put-there {p} e =
        record {
          there = λ q z m u.
              let x : p ≡ q = cc in
              let w = f.there q (e ∙ ap Ok x) m u in
              record { cell = w.cell; from = omega (arith, w.from, from_last); below = w.below; is = w.is; spells = w.spells };
          same = λ q z. refl;
          new = λ z. absurd (let z : ◌≡◌ {A = ℕ} 0 1 = cc in omega arith);
        }

    pub put-within : {cell : ℕ} → y ≡ Err cell → cell ≤ end
    put-within e = f.within _ e

    module _ {cell : ℕ} {after : List ℕ} (e : y ≡ Err cell) (i : Inserted cell end at names after) where
      from : last ≤ cell
      from = f.from _ e

      within : cell ≤ end
      within = f.within _ e

      risen : Rises line after last (end + 1)
      risen = rises-still rises from within d.room d.named.spells (f.before _ e d.named.name d.named.spells) i

      same : (k : ℕ) → k < last → get_or after k 0 ≡ get_or names k 0
      same k h = i.below k (omega (arith, from))

      lacking : (n : List ℕ) → Spells line at n → Lacks line names first end n
      lacking n s k a h u =
          go (ltb k last) refl
        where
          go : (x : Bool) → ltb k last ≡ x → ⊥
          go true q = d.lacks n s k a (ltb-true k last q) u
          go false q = between-lacks (f.before _ e n s) k (ltb-false k last q) h u

      differing : Differ line after first (end + 1)
      differing x z n a h l s t =
          go (ltb x last) (ltb z last) refl refl
        where
          go : (b c : Bool) → ltb x last ≡ b → ltb z last ≡ c → ⊥
          go b true p q = d.sorted.differ x z n a h (omega (arith, ltb-true z last q, rises.from)) (moved_to (same x (omega (arith, ltb-true z last q))) s) (moved_to (same z (ltb-true z last q)) t)
          go true false p q =
              elim (inserted_came from within i z (ltb-false z last q) l) [
                | new w ↦ d.lacks n (moved_to w t) x a (ltb-true x last p) (moved_to (same x (ltb-true x last p)) s)
                | old o ↦ d.sorted.differ x o.cell n a (omega (arith, ltb-true x last p, o.from)) o.below (moved_to (same x (ltb-true x last p)) s) (moved_to (sym o.is) t)
              ]
          go false false p q = rises-differ risen x z n (ltb-false x last p) h l s t

      running : Runs line after first 16 ((end - first) / 16) last
      running = subst (λ (k : ℕ). Runs line after first 16 ((end - first) / 16) k) (sym d.last-is) (runs-kept i.long (λ k a h. same k (omega (arith, d.last-is))) d.sorted.runs)

      keeping : (k : ℕ) → first ≤ k → k < end → Has after first (end + 1) (get_or names k 0)
      keeping k a h = inserted_kept (omega (arith, from, from_last)) within i k a h

      adding : Has after first (end + 1) at
      adding = inserted_new (omega (arith, from, from_last)) within i

      coming : (k : ℕ) → first ≤ k → k < end + 1 → Came names first end at (get_or after k 0)
      coming k a h = inserted_came (omega (arith, from, from_last)) within i k a h

      pub put-grown : (end - last ≡ 15 → ⊥) → Stored line names after first end at None
      put-grown n =
          record {
            there = λ p z. absurd (let z : ◌≡◌ {A = ℕ} 0 1 = cc in omega arith);
            same = λ p z. absurd (let z : ◌≡◌ {A = ℕ} 0 1 = cc in omega arith);
            new = λ z. record {
              long = i.long;
              lacks = lacking;
              sorted = record { from = omega (arith, d.sorted.from); within = omega (arith, d.room, i.long); differ = differing; last = subst (λ (k : ℕ). Rises line after k (end + 1)) edges risen; runs = subst (λ (k : ℕ). Runs line after first 16 ((end + 1 - first) / 16) k) edges (subst (λ (k : ℕ). Runs line after first 16 k last) blocks running) };
              below = λ k h. i.below k (omega (arith, from, from_last));
              kept = keeping;
              added = adding;
              came = coming;
            };
          }
        where
          under : (end - first) % 16 < 15
          under = rest_under (end - first) ((end - first) % 16) refl (λ e. n (rest ∙ e))

          edges : last ≡ edge first (end + 1)
          edges = d.last-is ∙ one_less end ((end - first) % 16) ∙ ap (λ (r : ℕ). end + 1 - r) (sym (ap (λ (k : ℕ). k % 16) (one_more first end d.sorted.from) ∙ rest_more (end - first) under))

          blocks : (end - first) / 16 ≡ (end + 1 - first) / 16
          blocks = blocks_more (end - first) under ∙ sym (ap (λ (k : ℕ). k / 16) (one_more first end d.sorted.from))

      module _ (full : end - last ≡ 15) where
        pub put_carry : CarryDue line after first (end + 1)
        put_carry =
            let z : last ≡ end + 1 - 16 = omega (arith, rises.from) in
            let m : end + 1 - first ≡ end - first + 1 = one_more first end d.sorted.from in
            let r : (end - first) % 16 ≡ 15 = sym rest ∙ full in
            let b : (end - first) / 16 ≡ (end + 1 - 16 - first) / 16 = blocks_full (end - first) r ∙ sym (ap (λ (k : ℕ). k / 16) (sixteen-less first end ∙ ap (λ (k : ℕ). k - 16) m)) in
            record {
              from = omega (arith, from_last, rises.from);
              within = omega (arith, d.room, i.long);
              whole = whole_of first end (ap (λ (k : ℕ). k % 16) m ∙ rest_full (end - first) r);
              differ = differing;
              last = subst (λ (k : ℕ). Rises line after k (end + 1)) z risen;
              runs = subst (λ (k : ℕ). Runs line after first 16 ((end + 1 - 16 - first) / 16) k) z (subst (λ (k : ℕ). Runs line after first 16 k last) b running);
            }

        pub put-carried : {final : List ℕ} → Carried line after final first (end + 1) → Stored line names final first end at None
        put-carried {final} c =
            record {
              there = λ p z. absurd (let z : ◌≡◌ {A = ℕ} 0 1 = cc in omega arith);
              same = λ p z. absurd (let z : ◌≡◌ {A = ℕ} 0 1 = cc in omega arith);
              new = λ z. record {
                long = c.long ∙ i.long;
                lacks = lacking;
                sorted = c.sorted;
                below = λ k h. c.below k h ∙ i.below k (omega (arith, from, from_last));
                kept = λ k a h. let u = keeping k a h in let v = c.kept u.cell u.from u.below in record { cell = v.cell; from = v.from; below = v.below; is = v.is ∙ u.is };
                added = let u = adding in let v = c.kept u.cell u.from u.below in record { cell = v.cell; from = v.from; below = v.below; is = v.is ∙ u.is };
                came = λ k a h. let v = c.old k a h in subst (λ (p : ℕ). Came names first end at p) v.is (coming v.cell v.from v.below);
              };
            }
