-- Members whose names stand in cells, and cells that rise
use mathlib.Core.Path.{◌≡◌, refl, sym, ap, subst, ◌∙◌}
use mathlib.Core.Bool.{Bool, true, false}
use mathlib.Core.List.{List, [], ◌∷◌}
use Prim.Native.Nat.{ℕ, suc, ◌+◌, ◌<◌, ◌≤◌}
use native.Mathlib.Omega.{arith}
use lib.Dec.{ltb, eqb}
use lib.ListN.{get_or}
use borrow.Author.Tests.{ltb-true, ltb-false, eq-eqb}
use Rattle.meaning.specs.Tests.{◌and◌, ◌or◌, choose}
use Rattle.meaning.specs.Text.{before}
use Rattle.jsontext.specs.Values.{J, Parts, end, part}
use Rattle.jsontrace.specs.Order.{insert_part}
use Rattle.std.specs.declared.cmp.Ordering.{Ordering}
use Rattle.std.specs.declared.cmp.Ordering.TheVariants.{Less, Equal, Greater}
use Rattle.jsonread.specs.Spelling.{order_of}
use Rattle.jsonnames.specs.Sorted.{Spells, Rises, Lacks}
use Rattle.jsonnames.specs.Merges.{Merged}
use Rattle.jsonnames.specs.Runs.{Came, new as added, old as kept, Grown}
use Rattle.jsonnames.proofs.Halves.{spells_one}
use Rattle.jsonsort.specs.Sort.{Stands, Cells, none, more, Fresh, Among, here, later, InCell, Belongs, Scattered, Least, Ascends}
use Rattle.jsonsort.specs.Order.{false-true, not-both, From, new, old, among_insert, insert_new_lem, insert_old, fresh-among, least-among}

-- ---- one order

other : {A : Type 0} {o : Ordering} → o ≡ Less → (o ≡ Equal → A) × (o ≡ Greater → A)
other {A} {o} e = (λ f. absurd (let z : ◌≡◌ {A = ℕ} 0 1 = cc in omega arith), λ f. absurd (let z : ◌≡◌ {A = ℕ} 0 1 = cc in omega arith))

pub less-before : (s t : List ℕ) → order_of s t ≡ Less → before s t ≡ true
unfolding order_of before choose ◌or◌ ◌and◌
less-before [] [] e = (other e).0 refl
less-before [] (b ∷ t) e = refl
less-before (a ∷ s) [] e = (other e).1 refl
less-before (a ∷ s) (b ∷ t) e =
    go (less-before s t) (ltb a b) (ltb b a) refl refl e
  where
    go : (order_of s t ≡ Less → before s t ≡ true) → (x y : Bool) → ltb a b ≡ x → ltb b a ≡ y → choose x Less (choose y Greater (order_of s t)) ≡ Less → (x or (eqb a b and before s t)) ≡ true
    go r true y p q f = refl
    go r false true p q f = (other f).1 refl
    go r false false p q f =
        let z : a ≡ b = omega (arith, ltb-false a b p, ltb-false b a q) in
        rw (eq-eqb a b z) (r f)

-- ---- cells that stand elsewhere

pub stands_spells : {levels : ℕ} {line : List ℕ} {p : ℕ} {n : List ℕ} {o : J} → Stands levels line p n o → Spells line p n
stands_spells s = record { rest = s.after; within = s.within; is = s.name }

at_place : {levels : ℕ} {line : List ℕ} {p q : ℕ} {n : List ℕ} {o : J} → p ≡ q → Stands levels line p n o → Stands levels line q n o
at_place {levels} {line} {n = n} {o} e s = subst (λ (p : ℕ). Stands levels line p n o) e s

-- ---- members in cells

module _ {levels : ℕ} {line names : List ℕ} {first stop : ℕ} {ps : Parts} (s : Scattered levels line names first stop ps) where
  pub scattered-lacks : (n : List ℕ) → Fresh n ps → Lacks line names first stop n
  scattered-lacks n f k a h u = let b = s.only k a h in fresh-among n ps f b.among (spells_one (stands_spells b.stands) u)

  pub scattered-put : {after : List ℕ} {at : ℕ} {n : List ℕ} {o : J} → Grown line names after first stop at → Stands levels line at n o → Scattered levels line after first (stop + 1) (insert_part n o ps)
  scattered-put {after} {at} {n} {o} g d =
      record {
        all = λ m p a. go_all (among_insert n o ps a);
        only = λ k a h. go-only k (g.came k a h);
      }
    where
      go_all : {m : List ℕ} {p : J} → From n o ps m p → InCell levels line after first (stop + 1) m p
      go_all (new e f) = let c = g.added in rw (e, f) (record { cell = c.cell; from = c.from; below = c.below; stands = at_place (sym c.is) d })
      go_all (old a) =
          let i = s.all _ _ a in
          let c = g.kept i.cell i.from i.below in
          record { cell = c.cell; from = c.from; below = c.below; stands = at_place (sym c.is) i.stands }

      go-only : (k : ℕ) → Came names first stop at (get_or after k 0) → Belongs levels line (get_or after k 0) (insert_part n o ps)
      go-only k (added e) = record { name = n; value = o; among = insert_new_lem n o ps; stands = at_place (sym e) d }
      go-only k (kept c) = let b = s.only c.cell c.from c.below in record { name = b.name; value = b.value; among = insert_old n o ps b.among; stands = at_place c.is b.stands }

  pub scattered_merged : {after : List ℕ} → Merged line names after first stop → Scattered levels line after first stop ps
  scattered_merged m =
      record {
        all = λ n o a.
            let i = s.all n o a in
            let c = m.kept i.cell i.from i.below in
            record { cell = c.cell; from = c.from; below = c.below; stands = at_place (sym c.is) i.stands };
        only = λ k a h.
            let c = m.old k a h in
            let b = s.only c.cell c.from c.below in
            record { name = b.name; value = b.value; among = b.among; stands = at_place c.is b.stands };
      }

-- ---- members in order in cells that rise

never_both : (m n : List ℕ) → before m n ≡ true → before n m ≡ true → ⊥
never_both m n p q = false-true (sym (not-both m n p) ∙ q)

one_name : {levels : ℕ} {line : List ℕ} {p : ℕ} {m n : List ℕ} {o q : J} → Stands levels line p m o → Stands levels line p n q → m ≡ n
one_name s t = spells_one (stands_spells s) (stands_spells t)

module _ {levels : ℕ} {line names : List ℕ} {first stop : ℕ} (r : Rises line names first stop) where
  rise-before : (i j : ℕ) {m n : List ℕ} {o p : J} → first ≤ i → i < j → j < stop → Stands levels line (get_or names i 0) m o → Stands levels line (get_or names j 0) n p → before m n ≡ true
  rise-before i j {m} {n} a h l s t = less-before m n (r.rising i j m n a h l (stands_spells s) (stands_spells t))

  -- the first cell has the first member
  module _ (k : ℕ) (from : first ≤ k) (n : List ℕ) (o : J) (ps : Parts) (l : Least n ps) (s : Scattered levels line names k stop (part n o ps)) where
    abbrev found : InCell levels line names k stop n o
    found = s.all n o here

    no_lower : k < found.cell → ⊥
    no_lower h =
        let b = s.only k (omega arith) (omega (arith, found.below)) in
        go b.among (rise-before k found.cell from h found.below b.stands found.stands)
      where
        go : {m : List ℕ} {p : J} → Among m p (part n o ps) → before m n ≡ true → ⊥
        go here e = never_both n n e e
        go (later a) e = never_both n _ (least-among n ps l a) e

    cell-is : found.cell ≡ k
    cell-is =
        go (ltb k found.cell) refl
      where
        go : (x : Bool) → ltb k found.cell ≡ x → found.cell ≡ k
        go true q = absurd (no_lower (ltb-true k found.cell q))
        go false q = omega (arith, ltb-false k found.cell q, found.from)

    first-stands : Stands levels line (get_or names k 0) n o
    first-stands = at_place (ap (λ (x : ℕ). get_or names x 0) cell-is) found.stands

    others : Scattered levels line names (suc k) stop ps
    others =
        record {
          all = λ m p a. let i = s.all m p (later a) in go_all a i (ltb k i.cell) refl;
          only = λ j a h. let b = s.only j (omega arith) h in go-only j a h b.among b.stands;
        }
      where
        go_all : {m : List ℕ} {p : J} → Among m p ps → (i : InCell levels line names k stop m p) → (x : Bool) → ltb k i.cell ≡ x → InCell levels line names (suc k) stop m p
        go_all a i true q = record { cell = i.cell; from = omega (arith, ltb-true k i.cell q); below = i.below; stands = i.stands }
        go_all {m} a i false q =
            let e : i.cell ≡ k = omega (arith, ltb-false k i.cell q, i.from) in
            let z : n ≡ m = one_name first-stands (at_place (ap (λ (x : ℕ). get_or names x 0) e) i.stands) in
            let b : before n n ≡ true = subst (λ (m : List ℕ). before n m ≡ true) (sym z) (least-among n ps l a) in
            absurd (never_both n n b b)

        go-only : (j : ℕ) → suc k ≤ j → j < stop → {m : List ℕ} {p : J} → Among m p (part n o ps) → Stands levels line (get_or names j 0) m p → Belongs levels line (get_or names j 0) ps
        go-only j a h here t = absurd (never_both n n (rise-before k j from (omega arith) h first-stands t) (rise-before k j from (omega arith) h first-stands t))
        go-only j a h (later b) t = record { name = _; value = _; among = b; stands = t }

  pub cells-scattered : (k : ℕ) → first ≤ k → (ps : Parts) → Ascends ps → Scattered levels line names k stop ps → Cells levels line names k ps
  unfolding Ascends
  cells-scattered k from end a s = none
  cells-scattered k from (part n o ps) a s = more (first-stands k from n o ps a.0 s) (cells-scattered (suc k) (omega arith) ps a.1 (others k from n o ps a.0 s))
