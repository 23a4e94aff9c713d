-- A member's name, its colon, and the blanks before its value
use Rattle.std.specs.Prelude.{Result, Ok, Err}
use mathlib.Core.Path.{◌≡◌, refl, sym, ap, subst, ◌∙◌}
use mathlib.Core.Bool.{Bool, true, false, not}
use mathlib.Core.List.{List, ◌∷◌}
use mathlib.Core.Option.{Option, none, some}
use Prim.Native.Nat.{ℕ, suc, ◌+◌, ◌-◌, ◌<◌, ◌≤◌}
use native.Mathlib.Omega.{arith}
use lib.ListN.{length, drop, length-drop, drop_of_length-le}
use borrow.Author.Tests.{not-true, not-false}
use Rattle.meaning.specs.Tests.{choose}
use Rattle.laws.specs.Tests.{yes, no as otherwise}
use Rattle.jsontext.specs.declared.Fault.{Fault}
use Rattle.jsontext.specs.declared.Fault.TheVariants.{NotJson, RepeatedName, BadField}
use Rattle.jsontext.specs.declared.Bad.{Bad}
use Rattle.jsontext.specs.Reading.{Read, got, fault, then, blanks, want, wrong}
use Rattle.jsontext.specs.Strings.{string}
use Rattle.jsontext.specs.Values.{Name, before, after_name, after_part, members}
use Rattle.jsonread.specs.Told.{Faulty, Told, Blanks}
use Rattle.jsonread.proofs.Places.{fault-then, then_is}
use Rattle.jsonread.proofs.Then.{then-then, then_same, then-fault}
use Rattle.jsonread.proofs.Takes.{want-takes, string-takes}
use Rattle.jsonnames.specs.Sorted.{Table, Kept, unread, again}
use Rattle.jsonmarks.specs.Marks.{Below, Tended}
use Rattle.jsonkeys.specs.Keys.{Room, named, key, KnownTold, KeyIs, KeyTold}
use Rattle.jsonkeys.proofs.Cells.{below_self}

-- ---- what the definition makes of a name

abbrev name_by : (List ℕ → Bool) → Option ℕ → Name → List ℕ → Read ℕ
name_by known o n s = elim o [ some first ↦ fault RepeatedName n.left first | none ↦ choose (known n.name) (want 58 s) (fault BadField n.left n.left) ]

module _ (known : List ℕ → Bool) (seen : List Name) (s : List ℕ) where
  -- a member is its name and its value
  pub members-key : {A : Type 0} (item : List ℕ → List ℕ → Read A) (turns : ℕ) → members known item (suc turns) seen s ≡ then (key known seen s) (λ n t. then (item n t) (λ a rest. after_part 125 (n, a) (λ u. members known item turns (named n s ∷ seen) u) (blanks rest)))
  unfolding members key then
  members-key item turns =
      sym
      (then-then (string s) (λ n rest. then (after_name known seen (named n s) (blanks rest)) (λ colon rest. got n (blanks rest))) (λ n t. then (item n t) (λ a rest. after_part 125 (n, a) (λ u. members known item turns (named n s ∷ seen) u) (blanks rest)))
      ∙ then_same (string s) (λ n rest. then-then (after_name known seen (named n s) (blanks rest)) (λ colon rest. got n (blanks rest)) (λ n t. then (item n t) (λ a rest. after_part 125 (n, a) (λ u. members known item turns (named n s ∷ seen) u) (blanks rest)))))

  key-unread : {w : Fault} {p q : ℕ} → string s ≡ fault w p q → key known seen s ≡ fault w p q
  unfolding key
  key-unread e = then-fault (λ n rest. then (after_name known seen (named n s) (blanks rest)) (λ colon rest. got n (blanks rest))) e

  module _ {n rest : List ℕ} (e : string s ≡ got n rest) where
    key-read : key known seen s ≡ then (after_name known seen (named n s) (blanks rest)) (λ colon rest. got n (blanks rest))
    unfolding key
    key-read = then_is (λ n rest. then (after_name known seen (named n s) (blanks rest)) (λ colon rest. got n (blanks rest))) e

    name-again : {first : ℕ} → before n seen ≡ some first → after_name known seen (named n s) (blanks rest) ≡ fault RepeatedName (length s) first
    unfolding after_name
    name-again h = ap (λ (o : Option ℕ). name_by known o (named n s) (blanks rest)) h

    name-fresh : before n seen ≡ none → after_name known seen (named n s) (blanks rest) ≡ choose (known n) (want 58 (blanks rest)) (fault BadField (length s) (length s))
    unfolding after_name
    name-fresh h = ap (λ (o : Option ℕ). name_by known o (named n s) (blanks rest)) h

    key-again : {first : ℕ} → before n seen ≡ some first → key known seen s ≡ fault RepeatedName (length s) first
    key-again h = key-read ∙ then-fault (λ colon rest. got n (blanks rest)) (name-again h)

    module _ (h : before n seen ≡ none) where
      key_strange : known n ≡ false → key known seen s ≡ fault BadField (length s) (length s)
      key_strange k = key-read ∙ then-fault (λ colon rest. got n (blanks rest)) (name-fresh h ∙ otherwise _ k refl)

      key-new : known n ≡ true → key known seen s ≡ then (want 58 (blanks rest)) (λ colon rest. got n (blanks rest))
      key-new k = key-read ∙ ap (λ (m : Read ℕ). then m (λ colon rest. got n (blanks rest))) (name-fresh h ∙ yes _ k)

-- ---- what a known step tells

module _ {line names after : List ℕ} {first end at : ℕ} {allowed : Bool} where
  key-wrong : {b : Bad} → Below line first names after → ((known : List ℕ → Bool) → KnownTold line at known allowed → (seen : List Name) → Table line names first end seen → Faulty line b (key known seen (drop at line))) → KeyTold line names after first end at allowed (Err b)
  key-wrong {b} h g =
      record {
        below = h;
        allows = λ v k. absurd (let z : ◌≡◌ {A = ℕ} 0 1 = cc in omega arith);
        read = λ v k. absurd (let z : ◌≡◌ {A = ℕ} 0 1 = cc in omega arith);
        wrong = λ v k known l seen t. let z : b ≡ v = cc in subst (λ (v : Bad). Faulty line v (key known seen (drop at line))) z (g known l seen t);
      }

  key-is : {v : ℕ} → Below line first names after → allowed ≡ true → KeyIs line names after first end at v → KeyTold line names after first end at allowed (Ok v)
  key-is {v} b l m =
      record {
        below = b;
        allows = λ k q. l;
        read = λ k q. let z : v ≡ k = cc in rw z at m;
        wrong = λ b k. absurd (let z : ◌≡◌ {A = ℕ} 0 1 = cc in omega arith);
      }

-- no byte is left for a name
pub key-cut : (line names : List ℕ) (first end at : ℕ) (allowed : Bool) → at ≤ length line → length line ≤ at → KeyTold line names names first end at allowed (Err (wrong NotJson at))
unfolding string want then
key-cut line names first end at allowed h l =
    key-wrong below_self
    (λ known k seen t.
    let e : string (drop at line) ≡ fault NotJson 0 0 = rw (drop_of_length-le line l) in
    record { place = h; first = h; is = key-unread known seen (drop at line) e ∙ rw (let z : length line - at ≡ 0 = omega arith in z) })

pub entered-within : {line names after : List ℕ} {first end at e : ℕ} {x : Result ℕ Bad} → Tended line names after first end at x → x ≡ Ok e → e ≤ length line
entered-within t f = (t.entered.kept _ f).within

module _ {line names after : List ℕ} {first end at : ℕ} (allowed : Bool) {x : Result ℕ Bad} (h : at ≤ length line) (t : Tended line names after first end at x) where
  refuses : {b : Bad} → x ≡ Err b → (known : List ℕ → Bool) → KnownTold line at known allowed → (seen : List Name) → Table line names first end seen → Faulty line b (key known seen (drop at line))
  refuses {b} e known l seen tab =
      elim (t.entered.refused b e) [
        | unread f ↦ record { place = f.place; first = f.first; is = key-unread known seen (drop at line) f.is }
        | again a d r ↦ record { place = omega (arith, d); first = r.place; is = key-again known seen (drop at line) r.is (r.seen seen tab) ∙ rw (a, d, length-drop at line) }
      ]

  pub key-refused : {b : Bad} → x ≡ Err b → KeyTold line names after first end at allowed (Err b)
  key-refused e = key-wrong t.below (refuses e)

  module _ {e : ℕ} (f : x ≡ Ok e) where
    abbrev kept : Kept line names after first end at e
    kept = t.entered.kept e f

    pub key-unknown : not allowed ≡ true → KeyTold line names after first end at allowed (Err (wrong BadField at))
    key-unknown n =
        key-wrong t.below
        (λ known l seen tab. record { place = h; first = h; is = key_strange known seen (drop at line) kept.is (kept.new seen tab) (sym (l _ _ kept.is) ∙ not-true allowed n) ∙ rw (length-drop at line) })

    module _ (n : not allowed ≡ false) {k : ℕ} {y : Result ℕ Bad} (b : Blanks line e k) (c : Told line k y (want 58 (drop k line))) where
      new_is : (known : List ℕ → Bool) → known kept.name ≡ true → (seen : List Name) → Table line names first end seen → key known seen (drop at line) ≡ then (want 58 (drop k line)) (λ colon rest. got kept.name (blanks rest))
      new_is known q seen tab = key-new known seen (drop at line) kept.is (kept.new seen tab) q ∙ ap (λ (s : List ℕ). then (want 58 s) (λ colon rest. got kept.name (blanks rest))) (sym b.is)

      pub key-colon : {b : Bad} → y ≡ Err b → KeyTold line names after first end at allowed (Err b)
      key-colon g =
          key-wrong t.below
          (λ known l seen tab.
          let v = fault-then (λ colon rest. got kept.name (blanks rest)) (c.faulty _ g) in
          record { place = v.place; first = v.first; is = new_is known (sym (l _ _ kept.is) ∙ not-false allowed n) seen tab ∙ v.is })

      -- a name takes two bytes, its colon one
      pub key-there : {o v : ℕ} → y ≡ Ok o → Blanks line o v → KeyTold line names after first end at allowed (Ok v)
      key-there {o} {v} g d =
          key-is t.below (not-false allowed n)
          (record {
            name = kept.name;
            rest = drop e line;
            spells = kept.is;
            takes = omega (arith, string-takes line at e kept.is, b.from, want-takes 58 c g, d.from);
            within = d.within;
            marked = t.marked e f;
            table = λ seen tab. rw (length-drop at line) (kept.table seen tab);
            is = λ known q seen tab. new_is known q seen tab ∙ then_is (λ colon rest. got kept.name (blanks rest)) (c.stands o g).is ∙ ap (got kept.name) (sym d.is);
          })

-- ---- where the value begins

module _ {line names next : List ℕ} {first end at v : ℕ} {allowed : Bool} {x : Result ℕ Bad} (q : x ≡ Ok v) (k : KeyTold line names next first end at allowed x) where
  pub key-within : v ≤ length line
  key-within = (k.read v q).within

  pub key-room : Room line names end at 0 → Room line next (end + 1) v 1
  key-room h = omega (arith, k.below.long, (k.read v q).takes, (k.read v q).within)

  pub key_below : Room line names end at 0 → end < length names
  key_below h = omega (arith, (k.read v q).takes, (k.read v q).within)
