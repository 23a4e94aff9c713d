-- A name that was read, among those that the definition has seen
use Rattle.std.specs.Prelude.{Option, Some, None, Result, Ok, Err}
use mathlib.Core.Path.{◌≡◌, refl, sym, ap, subst, ◌∙◌}
use mathlib.Core.Bool.{Bool, true, false}
use mathlib.Core.List.{List, [], ◌∷◌}
use mathlib.Core.Option.{some}
use Prim.Native.Nat.{ℕ, ◌+◌, ◌-◌, ◌<◌, ◌≤◌}
use native.Mathlib.Omega.{arith}
use lib.Dec.{eqb}
use lib.ListN.{length, drop, get_or}
use borrow.Author.Tests.{eq-eqb, eqb-true}
use Rattle.meaning.specs.Tests.{◌and◌}
use Rattle.laws.specs.Tests.{both, yes, no as otherwise}
use Rattle.meaning.specs.Equal.{same_list}
use Rattle.jsontext.specs.declared.Fault.TheVariants.{RepeatedName}
use Rattle.jsontext.specs.declared.Bad.{Bad}
use Rattle.jsontext.specs.Strings.{string}
use Rattle.jsontext.specs.Values.{Name, before}
use Rattle.jsonread.specs.Told.{Told}
use Rattle.jsonnames.specs.Sorted.{Spells, Named, Holds, Lacks, Table, Kept, Repeated, unread, again, Entered, Refuses}
use Rattle.jsonnames.specs.Runs.{new, old, Grown, Stored}
use Rattle.jsonnames.proofs.Halves.{spells_one, moved_to}

same-equal : (s t : List ℕ) → same_list s t ≡ true → s ≡ t
unfolding same_list
same-equal [] [] e = refl
same-equal [] (b ∷ t) e = cc
same-equal (a ∷ s) [] e = cc
same-equal (a ∷ s) (b ∷ t) e =
    let h = both (eqb a b) (same_list s t) e in
    let x : a ≡ b = eqb-true a b h.0 in
    let y : s ≡ t = same-equal s t h.1 in
    cc

same_self : (s : List ℕ) → same_list s s ≡ true
unfolding same_list ◌and◌
same_self [] = refl
same_self (a ∷ s) = rw (eq-eqb a a refl) (same_self s)

differ : (s t : List ℕ) → (s ≡ t → ⊥) → same_list s t ≡ false
differ s t n =
    go (same_list s t) refl
  where
    go : (x : Bool) → same_list s t ≡ x → same_list s t ≡ false
    go true e = absurd (n (same-equal s t e))
    go false e = e

seen-new : (n m : List ℕ) (left : ℕ) (seen : List Name) → n ≡ m → before m (record { name = n; left = left } ∷ seen) ≡ some left
unfolding before
seen-new n m left seen e = yes _ (ap (same_list n) (sym e) ∙ same_self n)

seen-old : (n m : List ℕ) (left : ℕ) (seen : List Name) → (n ≡ m → ⊥) → before m (record { name = n; left = left } ∷ seen) ≡ before m seen
unfolding before
seen-old n m left seen e = otherwise _ (differ n m e) refl

module _ {line names after : List ℕ} {first end at : ℕ} {n : List ℕ} (s : Spells line at n) (g : Grown line names after first end at) where
  lacks-still : (m : List ℕ) → Lacks line after first (end + 1) m → Lacks line names first end m
  lacks-still m l k a h u = let o = g.kept k a h in l o.cell o.from o.below (moved_to (sym o.is) u)

  lacks-new : (m : List ℕ) → Lacks line after first (end + 1) m → n ≡ m → ⊥
  lacks-new m l e = let o = g.added in l o.cell o.from o.below (moved_to (sym o.is) (subst (λ (m : List ℕ). Spells line at m) e s))

  module _ (seen : List Name) (tb : Table line names first end seen) where
    found-still : (p : ℕ) (m : List ℕ) → Holds line after first (end + 1) p m → before m (record { name = n; left = length line - at } ∷ seen) ≡ some (length line - p)
    found-still p m h =
        elim (g.came h.cell h.from h.below) [
          | new q ↦ (let z : p ≡ at = sym h.is ∙ q in seen-new n m (length line - at) seen (spells_one s (moved_to z h.spells)) ∙ ap (λ (k : ℕ). some (length line - k)) (sym z))
          | old o ↦ (let z : get_or names o.cell 0 ≡ p = o.is ∙ h.is in known o.cell o.from o.below z)
        ]
      where
        known : (k : ℕ) → first ≤ k → k < end → get_or names k 0 ≡ p → before m (record { name = n; left = length line - at } ∷ seen) ≡ some (length line - p)
        known k a d z =
            seen-old n m (length line - at) seen (λ y. g.lacks n s k a d (moved_to (sym z) (subst (λ (m : List ℕ). Spells line p m) (sym y) h.spells)))
            ∙ tb.found p m (record { cell = k; from = a; below = d; is = z; spells = h.spells })

    table-still : Table line after first (end + 1) (record { name = n; left = length line - at } ∷ seen)
    table-still =
        record {
          sorted = g.sorted;
          missing = λ m l. seen-old n m (length line - at) seen (lacks-new m l) ∙ tb.missing m (lacks-still m l);
          found = found-still;
        }

-- ---- a name is read, looked for and kept

module _ {line : List ℕ} {at : ℕ} {x : Result ℕ Bad} (t : Told line at x (string (drop at line))) (h : at ≤ length line) where
  pub enter-unread : {names : List ℕ} {first end : ℕ} {b : Bad} → x ≡ Err b → Entered line names names first end at (Err b)
  enter-unread e =
      record {
        kept = λ k z. absurd (let z : ◌≡◌ {A = ℕ} 0 1 = cc in omega arith);
        refused = λ v z. unread (t.faulty v (e ∙ z));
        same = λ v z. refl;
      }

  module _ {e : ℕ} (a : x ≡ Ok e) where
    spelt : Spells line at (t.stands _ a).what
    spelt = record { rest = drop e line; within = h; is = (t.stands _ a).is }

    pub enter-named : Named line at
    enter-named = record { name = (t.stands _ a).what; spells = spelt }

    module _ {names after : List ℕ} {first end : ℕ} {y : Option ℕ} (u : Stored line names after first end at y) where
      pub enter-again : {o : ℕ} → y ≡ Some o → Entered line names after first end at (Err (record { fault = RepeatedName; at = at; first = o }))
      enter-again {o} z =
          let d = u.there _ z (t.stands _ a).what spelt in
          let p : Repeated line names first end at o = record { name = (t.stands _ a).what; rest = drop e line; place = d.spells.within; is = (t.stands _ a).is; seen = λ seen tb. tb.found o (t.stands _ a).what d } in
          record {
            kept = λ k z. absurd (let z : ◌≡◌ {A = ℕ} 0 1 = cc in omega arith);
            refused =
                λ b q.
                let x : ◌≡◌ {A = Bad} (record { fault = RepeatedName; at = at; first = o }) b = cc in
                subst (λ (b : Bad). Refuses line names first end at b) x (again refl refl p);
            same = λ b q. u.same _ z;
          }

      pub enter-kept : y ≡ None → Entered line names after first end at (Ok e)
      enter-kept z =
          let s = t.stands _ a in
          let g = u.new z in
          let p : Kept line names after first end at e =
          record {
            name = s.what;
            from = s.from;
            within = s.within;
            is = s.is;
            long = g.long;
            others = g.below;
            new = λ seen tb. tb.missing s.what (g.lacks s.what spelt);
            table = λ seen tb. table-still spelt g seen tb;
          }
          in
          record {
            kept = λ k q. let x : e ≡ k = cc in subst (λ (k : ℕ). Kept line names after first end at k) x p;
            refused = λ b q. absurd (let z : ◌≡◌ {A = ℕ} 0 1 = cc in omega arith);
            same = λ b q. absurd (let z : ◌≡◌ {A = ℕ} 0 1 = cc in omega arith);
          }
