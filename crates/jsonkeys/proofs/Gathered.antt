-- An object's members, one after another, whatever is made of them
use Rattle.std.specs.Prelude.{Result, Ok, Err}
use mathlib.Core.Path.{◌≡◌, refl, sym, ap, ◌∙◌}
use mathlib.Core.Bool.{Bool}
use mathlib.Core.List.{List, [], ◌∷◌, ◌++◌, append_assoc}
use Prim.Native.Nat.{ℕ, suc, ◌+◌, ◌-◌, ◌<◌, ◌≤◌}
use native.Mathlib.Omega.{arith}
use lib.ListN.{length, drop, length-drop}
use Rattle.meaning.specs.Tests.{choose}
use Rattle.jsontext.specs.declared.Fault.{Fault}
use Rattle.jsontext.specs.declared.Fault.TheVariants.{NotJson}
use Rattle.jsontext.specs.declared.Bad.{Bad}
use Rattle.jsontext.specs.Reading.{Read, got, then, mapped, blanks, wrong}
use Rattle.jsontext.specs.Values.{Name, before, after_part, members, object}
use Rattle.jsonread.specs.Told.{Told}
use Rattle.jsonread.proofs.Places.{told_bad, told_of, fault-then, then_is}
use Rattle.jsonread.proofs.Then.{then-then, then_same}
use Rattle.jsonnames.specs.Sorted.{Table}
use Rattle.jsonnames.proofs.Stays.{sorted_none}
use Rattle.jsonkeys.specs.declared.Turn.{Turn}
use Rattle.jsonkeys.specs.declared.Turn.TheVariants.{On, Over}
use Rattle.jsonmarks.specs.Marks.{Filed, Below}
use Rattle.jsonmarks.proofs.Uppers.{marked-kept}
use Rattle.jsonkeys.specs.Keys.{opened, after, TurnTold, Room, Passed, named, KnownTold, KeyIs, KeyTold, MemberIs, MemberWrong}
use Rattle.jsonkeys.proofs.Cells.{below_self, below_both, below_less, table_kept, turn-is}
use Rattle.jsonkeys.proofs.Keys.{members-key}
use Rattle.jsonkeys.proofs.Listed.{by-opened, by_after}

no_names : (line names : List ℕ) (used : ℕ) → used ≤ length names → Table line names used used []
unfolding before
no_names line names used h =
    record {
      sorted = sorted_none line names used h;
      missing = λ n l. refl;
      found = λ p n h. absurd (omega (arith, h.from, h.below));
    }

-- ---- a member: its name and its value

module _ {A : Type 0} (known : List ℕ → Bool) (item : List ℕ → List ℕ → Read A) {line names next : List ℕ} {used end i : ℕ} {allowed : Bool} {x : Result ℕ Bad} (kn : KnownTold line i known allowed) (k : KeyTold line names next used end i allowed x) where
  abbrev valued : ℕ → List Name → List ℕ → List ℕ → Read (List (List ℕ × A))
  valued turns seen n t = then (item n t) (λ a rest. after_part 125 (n, a) (λ u. members known item turns (named n (drop i line) ∷ seen) u) (blanks rest))

  pub key_bad : {b : Bad} → x ≡ Err b → MemberWrong known item line names next used end i b
  key_bad e =
      record {
        below = k.below;
        is =
            λ seen tab turns.
            let v = fault-then (λ n t. valued turns seen n t) (k.wrong _ e known kn seen tab) in
            record { place = v.place; first = v.first; is = members-key known seen (drop i line) item turns ∙ v.is };
      }

  module _ {v : ℕ} (q : x ≡ Ok v) where
    abbrev its : KeyIs line names next used end i v
    its = k.read v q

    named-is : (seen : List Name) → Table line names used end seen → (turns : ℕ) → members known item (suc turns) seen (drop i line) ≡ valued turns seen its.name (drop v line)
    named-is seen tab turns =
        members-key known seen (drop i line) item turns
        ∙ then_is (λ n t. valued turns seen n t) (its.is known (sym (kn its.name its.rest its.spells) ∙ k.allows v q) seen tab)

    module _ {y : Result ℕ Bad} {last : List ℕ} (f : used ≤ end) (u : Passed line next last (end + 1) v y (item its.name (drop v line))) where
      kept : Below line used names last
      kept = below_both k.below (below_less (omega arith) u.below)

      pub value_bad : {b : Bad} → y ≡ Err b → MemberWrong known item line names last used end i b
      value_bad e =
          record {
            below = kept;
            is =
                λ seen tab turns.
                let v = fault-then (λ a rest. after_part 125 (its.name, a) (λ u. members known item turns (named its.name (drop i line) ∷ seen) u) (blanks rest)) (u.told.faulty _ e) in
                record { place = v.place; first = v.first; is = named-is seen tab turns ∙ v.is };
          }

      pub value_read : {e : ℕ} → y ≡ Ok e → MemberIs known item line names last used end i e
      value_read {e} r =
          let s = u.told.stands e r in
          record {
            name = its.name;
            rest = its.rest;
            spells = its.spells;
            value = v;
            what = s.what;
            reads = s.is;
            takes = omega (arith, its.takes, s.from);
            within = s.within;
            below = kept;
            marked = marked-kept u.below its.marked;
            table = λ seen tab. table_kept u.below (its.table seen tab);
            is = λ seen tab turns. named-is seen tab turns ∙ then_is (λ a rest. after_part 125 (its.name, a) (λ u. members known item turns (named its.name (drop i line) ∷ seen) u) (blanks rest)) s.is;
          }

-- ---- all members, and what is made of them

module _ {A B : Type 0} (known : List ℕ → Bool) (item : List ℕ → List ℕ → Read A) (f : List (List ℕ × A) → List ℕ → Read B) where
  abbrev whole : List ℕ → Read B
  whole s = then (object known item s) f

  abbrev onto : List (List ℕ × A) → List (List ℕ × A) → List ℕ → Read B
  onto done ms rest = f (done ++ ms) rest

  -- what is read from i on, after the members that are done
  pub record Gathering (line cells names : List ℕ) (used at end i : ℕ) (done : List (List ℕ × A)) : Type 0 where
    pub from : at ≤ i
    pub within : i ≤ length line
    pub turns : ℕ
    pub enough : length line - i < turns
    pub seen : List Name
    pub table : Table line names used end seen
    pub filed : Filed line names used end
    pub below : Below line used cells names
    pub room : Room line names end i 0
    pub is : then (object known item (drop at line)) f ≡ then (members known item turns seen (drop i line)) (λ ms rest. f (done ++ ms) rest)

  abbrev opening : Bool → List ℕ → Read (List (List ℕ × A))
  opening over rest = choose over (got [] rest) (members known item (suc (length rest)) [] rest)

  object-is : (s : List ℕ) → object known item s ≡ then (opened 125 (blanks s)) (λ over rest. opening over rest)
  unfolding object
  object-is s = by-opened 125 (λ t. members known item (suc (length t)) [] t) (blanks s)

  module _ {line : List ℕ} {at : ℕ} {x : Result Turn Bad} (t : TurnTold line at (opened 125 (blanks (drop at line))) x) where
    pub gather_cut : {b : Bad} → x ≡ Err b → Told line at (Err b) (then (object known item (drop at line)) f)
    gather_cut e = told_bad (fault-then f (let v = fault-then (λ over rest. opening over rest) (t.missing _ e).faulty in record { place = v.place; first = v.first; is = object-is (drop at line) ∙ v.is }))

    pub gather_empty : {s : Turn} {e : ℕ} {r : Result ℕ Bad} → x ≡ Ok s → s ≡ Over e → Told line e r (f [] (drop e line)) → Told line at r (then (object known item (drop at line)) f)
    unfolding choose then
    gather_empty {e = e} p q u =
        let c = t.over e (turn-is p q) in
        told_of c.from (ap (λ (m : Read (List (List ℕ × A))). then m f) (object-is (drop at line) ∙ then_is (λ over rest. opening over rest) c.is)) u

    pub gather_start : {s : Turn} {i : ℕ} {names : List ℕ} {used : ℕ} → Room line names used at 0 → x ≡ Ok s → s ≡ On i → Gathering line names names used at used i []
    unfolding choose
    gather_start {i = i} {names = names} {used = used} h p q =
        let c = t.on i (turn-is p q) in
        record {
          from = c.from;
          within = c.within;
          turns = suc (length (drop i line));
          enough = omega (arith, length-drop i line);
          seen = [];
          table = no_names line names used (omega arith);
          filed = record { sorted = sorted_none line names used (omega arith); marked = record { all = λ l. absurd (omega arith) } };
          below = below_self;
          room = omega (arith, c.from);
          is = ap (λ (m : Read (List (List ℕ × A))). then m f) (object-is (drop at line) ∙ then_is (λ over rest. opening over rest) c.is);
        }

  module _ {line cells names : List ℕ} {used at end i : ℕ} {done : List (List ℕ × A)} (g : Gathering line cells names used at end i done) where
    suc-turns : g.turns ≡ suc (g.turns - 1)
    suc-turns = omega (arith, g.enough)

    pub gather_bad : {last : List ℕ} {b : Bad} → MemberWrong known item line names last used end i b → Passed line cells last used at (Err b) (then (object known item (drop at line)) f)
    gather_bad m =
        let v = m.is g.seen g.table (g.turns - 1) in
        let u = fault-then (λ ms rest. onto done ms rest) v in
        record {
          told = told_bad (record { place = u.place; first = u.first; is = g.is ∙ ap (λ (n : ℕ). then (members known item n g.seen (drop i line)) (λ ms rest. onto done ms rest)) suc-turns ∙ u.is });
          below = below_both g.below m.below;
        }

    module _ {last : List ℕ} {e : ℕ} {z : Result Turn Bad} (m : MemberIs known item line names last used end i e) (t : TurnTold line (e + 1) (after 125 (blanks (drop e line))) z) where
      abbrev pub part : List ℕ × A
      part = (m.name, m.what)

      abbrev more : List ℕ → Read (List (List ℕ × A))
      more u = members known item (g.turns - 1) (named m.name (drop i line) ∷ g.seen) u

      abbrev following : Bool → List ℕ → Read (List (List ℕ × A))
      following over rest = choose over (got (part ∷ []) rest) (mapped (λ others. part ∷ others) (more rest))

      stays : Below line used cells last
      stays = below_both g.below m.below

      part-is : then (object known item (drop at line)) f ≡ then (then (after 125 (blanks (drop e line))) (λ over rest. following over rest)) (λ ms rest. onto done ms rest)
      part-is = g.is ∙ ap (λ (r : Read (List (List ℕ × A))). then r (λ ms rest. onto done ms rest)) (ap (λ (n : ℕ). members known item n g.seen (drop i line)) suc-turns ∙ m.is g.seen g.table (g.turns - 1) ∙ by_after 125 part (λ u. more u) (blanks (drop e line)))

      pub gather_wrong : {b : Bad} → z ≡ Err b → Passed line cells last used at (Err b) (then (object known item (drop at line)) f)
      gather_wrong d =
          let u = fault-then (λ ms rest. onto done ms rest) (fault-then (λ over rest. following over rest) (t.missing _ d).faulty) in
          record { told = told_bad (record { place = u.place; first = u.first; is = part-is ∙ u.is }); below = stays }

      pub gather_over : {s : Turn} {o : ℕ} {r : Result ℕ Bad} → z ≡ Ok s → s ≡ Over o → Told line o r (f (done ++ (part ∷ [])) (drop o line)) → Passed line cells last used at r (then (object known item (drop at line)) f)
      unfolding choose then
      gather_over {o = o} p d v =
          let c = t.over o (turn-is p d) in
          record {
            told = told_of (omega (arith, g.from, m.takes, c.from)) (part-is ∙ ap (λ (r : Read (List (List ℕ × A))). then r (λ ms rest. onto done ms rest)) (then_is (λ over rest. following over rest) c.is)) v;
            below = stays;
          }

      pub gather_less : {s : Turn} {j : ℕ} → z ≡ Ok s → s ≡ On j → length line - j < length line - i
      gather_less {j = j} p d = let c = t.on j (turn-is p d) in omega (arith, m.takes, c.from, c.within)

      pub gather_on : {s : Turn} {j : ℕ} → z ≡ Ok s → s ≡ On j → Gathering line cells last used at (end + 1) j (done ++ (part ∷ []))
      unfolding choose then
      gather_on {j = j} p d =
          let c = t.on j (turn-is p d) in
          record {
            from = omega (arith, g.from, m.takes, c.from);
            within = c.within;
            turns = g.turns - 1;
            enough = omega (arith, g.enough, m.takes, c.from, c.within);
            seen = named m.name (drop i line) ∷ g.seen;
            table = m.table g.seen g.table;
            filed = record { sorted = (m.table g.seen g.table).sorted; marked = m.marked };
            below = stays;
            room = omega (arith, g.room, m.below.long, m.takes, c.from, c.within);
            is =
                part-is ∙ ap (λ (r : Read (List (List ℕ × A))). then r (λ ms rest. onto done ms rest)) (then_is (λ over rest. following over rest) c.is)
                ∙ then-then (more (drop j line)) (λ others rest. got (part ∷ others) rest) (λ ms rest. onto done ms rest)
                ∙ then_same (more (drop j line)) (λ ms rest. ap (λ (l : List (List ℕ × A)). f l rest) (sym (append_assoc done (part ∷ []) ms)));
          }
