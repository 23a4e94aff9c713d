-- The members of an object that is a value
use Rattle.std.specs.Prelude.{Result, Ok, Err}
use mathlib.Core.Path.{◌≡◌, refl, sym, subst, ◌∙◌}
use mathlib.Core.Bool.{Bool, true}
use mathlib.Core.List.{List, [], ◌∷◌, ◌++◌}
use Prim.Native.Nat.{ℕ, ◌+◌, ◌-◌, ◌<◌, ◌≤◌}
use native.Mathlib.Omega.{arith}
use lib.ListN.{length, drop}
use Rattle.jsontext.specs.declared.Fault.{Fault}
use Rattle.jsontext.specs.declared.Fault.TheVariants.{NotJson}
use Rattle.jsontext.specs.declared.Bad.{Bad}
use Rattle.jsontext.specs.Reading.{Read, got, then, blanks, wrong}
use Rattle.jsontext.specs.Values.{J, object, value}
use Rattle.jsonread.specs.Told.{Told}
use Rattle.jsonread.proofs.Places.{told_at, told_of}
use Rattle.jsonread.proofs.Then.{then-got}
use Rattle.jsonmarks.specs.Marks.{Filed}
use Rattle.jsonkeys.specs.declared.Turn.{Turn}
use Rattle.jsonkeys.specs.declared.Turn.TheVariants.{On, Over}
use Rattle.jsonkeys.specs.Keys.{opened, after, TurnTold, Room, Passed, KeyTold, MemberWrong}
use Rattle.jsonkeys.proofs.Cells.{below_self, below_both, below_less, turn-is}
use Rattle.jsonkeys.proofs.Gathered as gathered
use Rattle.jsonvalues.specs.Values.{members_of, MemberTold}

module _ (levels : ℕ) where
  abbrev any : List ℕ → Bool
  any n = true

  abbrev inner : List ℕ → List ℕ → Read J
  inner n t = value levels t

  abbrev all : List (List ℕ × J) → List ℕ → Read (List (List ℕ × J))
  all ms rest = got ms rest

  pub record Gathering (line cells names : List ℕ) (used at end i : ℕ) : Type 0 where
    pub done : List (List ℕ × J)
    pub members : gathered.Gathering any inner all line cells names used at end i done

  of_all : {line : List ℕ} {at : ℕ} {r : Result ℕ Bad} → Told line at r (then (object any inner (drop at line)) all) → Told line at r (members_of levels (drop at line))
  unfolding members_of
  of_all {line} {at} t = told_of (omega arith) (sym (then-got (object any inner (drop at line)))) t

  passed-all : {line names last : List ℕ} {used at : ℕ} {r : Result ℕ Bad} → Passed line names last used at r (then (object any inner (drop at line)) all) → Passed line names last used at r (members_of levels (drop at line))
  passed-all p = record { told = of_all p.told; below = p.below }

  module _ {line : List ℕ} {at : ℕ} {x : Result Turn Bad} (t : TurnTold line at (opened 125 (blanks (drop at line))) x) (names : List ℕ) (used : ℕ) where
    pub object-cut : {b : Bad} → x ≡ Err b → Passed line names names used at (Err b) (members_of levels (drop at line))
    object-cut e = record { told = of_all (gathered.gather_cut any inner all t e); below = below_self }

    pub object-empty : {s : Turn} {e : ℕ} → x ≡ Ok s → s ≡ Over e → Passed line names names used at (Ok e) (members_of levels (drop at line))
    object-empty {e = e} p q = record { told = of_all (gathered.gather_empty any inner all t p q (told_at (record { what = []; from = omega arith; within = (t.over e (turn-is p q)).within; is = refl }))); below = below_self }

    pub object-start : {s : Turn} {i : ℕ} → Room line names used at 0 → x ≡ Ok s → s ≡ On i → Gathering line names names used at used i
    object-start h p q = record { done = []; members = gathered.gather_start any inner all t h p q }

  -- ---- a member

  module _ {line names next : List ℕ} {first end at : ℕ} {x : Result ℕ Bad} (k : KeyTold line names next first end at true x) where
    pub member-key : {b : Bad} → x ≡ Err b → MemberTold line names next first end levels at (Err b)
    member-key {b} e =
        record {
          below = k.below;
          read = λ v z. absurd (let z : ◌≡◌ {A = ℕ} 0 1 = cc in omega arith);
          wrong = λ v z. let y : b ≡ v = cc in subst (λ (v : Bad). MemberWrong any inner line names next first end at v) y (gathered.key_bad any inner (λ n rest q. refl) k e);
        }

    pub member-value : {v : ℕ} {y : Result ℕ Bad} {last : List ℕ} → Filed line names first end → x ≡ Ok v → Passed line next last (end + 1) v y (value levels (drop v line)) → MemberTold line names last first end levels at y
    member-value s q u =
        record {
          below = below_both k.below (below_less (omega (arith, s.sorted.from)) u.below);
          read = λ e z. gathered.value_read any inner (λ n rest q. refl) k q s.sorted.from u z;
          wrong = λ b z. gathered.value_bad any inner (λ n rest q. refl) k q s.sorted.from u z;
        }

  -- ---- all members

  module _ {line cells names : List ℕ} {used at end i : ℕ} (g : Gathering line cells names used at end i) where
    module _ {x : Result ℕ Bad} {last : List ℕ} (m : MemberTold line names last used end levels i x) where
      pub object-long : length last ≡ length cells
      object-long = m.below.long ∙ g.members.below.long

      pub object_bad : {b : Bad} → x ≡ Err b → Passed line cells last used at (Err b) (members_of levels (drop at line))
      object_bad e = passed-all (gathered.gather_bad any inner all g.members (m.wrong _ e))

      module _ {e : ℕ} (q : x ≡ Ok e) where
        pub member-within : e ≤ length line
        member-within = (m.read e q).within

        pub member_below : end < length names
        member_below = omega (arith, g.members.room, (m.read e q).takes, (m.read e q).within)

        module _ {z : Result Turn Bad} (t : TurnTold line (e + 1) (after 125 (blanks (drop e line))) z) where
          pub object-wrong : {b : Bad} → z ≡ Err b → Passed line cells last used at (Err b) (members_of levels (drop at line))
          object-wrong d = passed-all (gathered.gather_wrong any inner all g.members (m.read e q) t d)

          pub object-over : {s : Turn} {o : ℕ} → z ≡ Ok s → s ≡ Over o → Passed line cells last used at (Ok o) (members_of levels (drop at line))
          object-over {o = o} p d =
              let a = m.read e q in
              passed-all (gathered.gather_over any inner all g.members a t p d (told_at (record { what = g.done ++ ((a.name, a.what) ∷ []); from = omega arith; within = (t.over o (turn-is p d)).within; is = refl })))

          pub object-less : {s : Turn} {j : ℕ} → z ≡ Ok s → s ≡ On j → length line - j < length line - i
          object-less p d = gathered.gather_less any inner all g.members (m.read e q) t p d

          pub object-on : {s : Turn} {j : ℕ} → z ≡ Ok s → s ≡ On j → Gathering line cells last used at (end + 1) j
          object-on p d = let a = m.read e q in record { done = g.done ++ ((a.name, a.what) ∷ []); members = gathered.gather_on any inner all g.members a t p d }
