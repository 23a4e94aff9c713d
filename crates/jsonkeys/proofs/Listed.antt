-- An array's items, one after another, with the names of the objects around
use Rattle.std.specs.Prelude.{Result, Ok, Err}
use mathlib.Core.Path.{◌≡◌, refl, ap, ◌∙◌}
use mathlib.Core.Bool.{Bool, true, false}
use mathlib.Core.List.{List, [], ◌∷◌}
use Prim.Native.Nat.{ℕ, suc, ◌+◌, ◌-◌, ◌<◌, ◌≤◌}
use native.Mathlib.Omega.{arith}
use lib.Dec.{eqb}
use lib.ListN.{length, drop, length-drop}
use Rattle.meaning.specs.Tests.{choose}
use Rattle.jsontext.specs.declared.Fault.{Fault}
use Rattle.jsontext.specs.declared.Fault.TheVariants.{NotJson}
use Rattle.jsontext.specs.declared.Bad.{Bad}
use Rattle.jsontext.specs.Reading.{Read, got, then, no, mapped, blanks, wrong}
use Rattle.jsontext.specs.Values.{after_part, items, unless_empty, array}
use Rattle.jsonread.specs.Told.{Told}
use Rattle.jsonread.proofs.Places.{told_at, told_bad, told_of, fault-then, then_is}
use Rattle.jsonread.proofs.Chars.{told_more}
use Rattle.jsonkeys.specs.declared.Turn.{Turn}
use Rattle.jsonkeys.specs.declared.Turn.TheVariants.{On, Over}
use Rattle.jsonmarks.specs.Marks.{Below}
use Rattle.jsonkeys.specs.Keys.{opened, after, TurnTold, Room, Passed}
use Rattle.jsonkeys.proofs.Cells.{below_self, below_both, turn-is}

-- ---- the definition by turns

module _ {A : Type 0} (close : ℕ) where
  pub by-opened : (parts : List ℕ → Read (List A)) (s : List ℕ) → unless_empty close parts s ≡ then (opened close s) (λ over rest. choose over (got [] rest) (parts rest))
  unfolding unless_empty opened then choose
  by-opened parts [] = refl
  by-opened parts (c ∷ s) =
      go (eqb c close)
    where
      go : (x : Bool) → choose x (got [] s) (parts (c ∷ s)) ≡ then (choose x (got true s) (got false (c ∷ s))) (λ over rest. choose over (got [] rest) (parts rest))
      go true = refl
      go false = refl

  pub by_after : (a : A) (more : List ℕ → Read (List A)) (s : List ℕ) → after_part close a more s ≡ then (after close s) (λ over rest. choose over (got (a ∷ []) rest) (mapped (λ others. a ∷ others) (more rest)))
  unfolding after_part after then choose
  by_after a more [] = refl
  by_after a more (c ∷ s) =
      go (eqb c close) (eqb c 44)
    where
      go : (x y : Bool) → choose x (got (a ∷ []) s) (choose y (mapped (λ others. a ∷ others) (more (blanks s))) (no NotJson (c ∷ s))) ≡ then (choose x (got true s) (choose y (got false (blanks s)) (no NotJson (c ∷ s)))) (λ over rest. choose over (got (a ∷ []) rest) (mapped (λ others. a ∷ others) (more rest)))
      go true y = refl
      go false true = refl
      go false false = refl

-- ---- what is told from here on is told of the whole

module _ {A : Type 0} (item : List ℕ → Read A) where
  pub record Listing (line cells names : List ℕ) (used at i : ℕ) : Type 0 where
    pub from : at ≤ i
    pub within : i ≤ length line
    pub turns : ℕ
    pub enough : length line - i < turns
    pub below : Below line used cells names
    pub room : Room line names used i 1
    pub goes : (r : Result ℕ Bad) → Told line i r (items item turns (drop i line)) → Told line at r (array item (drop at line))

  abbrev opening : Bool → List ℕ → Read (List A)
  opening over rest = choose over (got [] rest) (items item (suc (length rest)) rest)

  abbrev following : ℕ → A → Bool → List ℕ → Read (List A)
  following turns a over rest = choose over (got (a ∷ []) rest) (mapped (λ others. a ∷ others) (items item turns rest))

  array-is : (s : List ℕ) → array item s ≡ then (opened 93 (blanks s)) (λ over rest. opening over rest)
  unfolding array
  array-is s = by-opened 93 (λ t. items item (suc (length t)) t) (blanks s)

  items-turn : (turns : ℕ) (s : List ℕ) → items item (suc turns) s ≡ then (item s) (λ a rest. after_part 93 a (λ t. items item turns t) (blanks rest))
  unfolding items
  items-turn turns s = refl

  module _ {line : List ℕ} {at : ℕ} {x : Result Turn Bad} (names : List ℕ) (used : ℕ) (t : TurnTold line at (opened 93 (blanks (drop at line))) x) where
    pub list-cut : {b : Bad} → x ≡ Err b → Passed line names names used at (Err b) (array item (drop at line))
    list-cut e = record { told = told_of {i = at} (omega arith) (array-is (drop at line)) (told_bad (fault-then (λ over rest. opening over rest) (t.missing _ e).faulty)); below = below_self }

    pub list-empty : {s : Turn} {e : ℕ} → x ≡ Ok s → s ≡ Over e → Passed line names names used at (Ok e) (array item (drop at line))
    unfolding choose
    list-empty {e = e} p q =
        let c = t.over e (turn-is p q) in
        record { told = told_at (record { what = []; from = c.from; within = c.within; is = array-is (drop at line) ∙ then_is (λ over rest. opening over rest) c.is }); below = below_self }

    pub list-start : {s : Turn} {i : ℕ} → Room line names used at 0 → x ≡ Ok s → s ≡ On i → Listing line names names used at i
    unfolding choose
    list-start {i = i} h p q =
        let c = t.on i (turn-is p q) in
        record {
          from = c.from;
          within = c.within;
          turns = suc (length (drop i line));
          enough = omega (arith, length-drop i line);
          below = below_self;
          room = omega (arith, c.from);
          goes = λ r u. told_of c.from (array-is (drop at line) ∙ then_is (λ over rest. opening over rest) c.is) u;
        }

  module _ {line cells names : List ℕ} {used at i : ℕ} (g : Listing line cells names used at i) where
    pub list-within : i ≤ length line
    list-within = g.within

    pub list-long : {last : List ℕ} {x : Result ℕ Bad} → Passed line names last used i x (item (drop i line)) → length last ≡ length cells
    list-long u = u.below.long ∙ g.below.long

    pub list-room : Room line names used i 1
    list-room = g.room

    module _ {x : Result ℕ Bad} {last : List ℕ} (u : Passed line names last used i x (item (drop i line))) where
      turned : items item g.turns (drop i line) ≡ then (item (drop i line)) (λ a rest. after_part 93 a (λ t. items item (g.turns - 1) t) (blanks rest))
      turned = let k : g.turns ≡ suc (g.turns - 1) = omega (arith, g.enough) in ap (λ (n : ℕ). items item n (drop i line)) k ∙ items-turn (g.turns - 1) (drop i line)

      stays : Below line used cells last
      stays = below_both g.below u.below

      pub list_bad : {b : Bad} → x ≡ Err b → Passed line cells last used at (Err b) (array item (drop at line))
      list_bad {b} e = record { told = g.goes (Err b) (told_of {i = i} (omega arith) turned (told_bad (fault-then (λ a rest. after_part 93 a (λ t. items item (g.turns - 1) t) (blanks rest)) (u.told.faulty _ e)))); below = stays }

      module _ {e : ℕ} {z : Result Turn Bad} (q : x ≡ Ok e) (t : TurnTold line (e + 1) (after 93 (blanks (drop e line))) z) where
        abbrev what : A
        what = (u.told.stands e q).what

        read : items item g.turns (drop i line) ≡ then (after 93 (blanks (drop e line))) (λ over rest. following (g.turns - 1) what over rest)
        read = turned ∙ then_is (λ a rest. after_part 93 a (λ t. items item (g.turns - 1) t) (blanks rest)) (u.told.stands e q).is ∙ by_after 93 what (λ t. items item (g.turns - 1) t) (blanks (drop e line))

        pub list-wrong : {b : Bad} → z ≡ Err b → Passed line cells last used at (Err b) (array item (drop at line))
        list-wrong {b} f = record { told = g.goes (Err b) (told_of {i = i} (omega arith) read (told_bad (fault-then (λ over rest. following (g.turns - 1) what over rest) (t.missing _ f).faulty))); below = stays }

        pub list_over : {s : Turn} {k : ℕ} → z ≡ Ok s → s ≡ Over k → Passed line cells last used at (Ok k) (array item (drop at line))
        unfolding choose
        list_over {k = k} p f =
            let c = t.over k (turn-is p f) in
            record { told = g.goes (Ok k) (told_at (record { what = what ∷ []; from = omega (arith, (u.told.stands e q).from, c.from); within = c.within; is = read ∙ then_is (λ over rest. following (g.turns - 1) what over rest) c.is })); below = stays }

        pub list-less : {s : Turn} {j : ℕ} → z ≡ Ok s → s ≡ On j → length line - j < length line - i
        list-less {j = j} p f = let c = t.on j (turn-is p f) in omega (arith, (u.told.stands e q).from, c.from, c.within)

        pub list_on : {s : Turn} {j : ℕ} → z ≡ Ok s → s ≡ On j → Listing line cells last used at j
        unfolding choose
        list_on {j = j} p f =
            let c = t.on j (turn-is p f) in
            record {
              from = omega (arith, g.from, (u.told.stands e q).from, c.from);
              within = c.within;
              turns = g.turns - 1;
              enough = omega (arith, g.enough, (u.told.stands e q).from, c.from, c.within);
              below = stays;
              room = omega (arith, g.room, u.below.long, (u.told.stands e q).from, c.from);
              goes =
                  λ r v.
                  g.goes r
                  (told_of (omega (arith, (u.told.stands e q).from, c.from)) (read ∙ then_is (λ over rest. following (g.turns - 1) what over rest) c.is)
                  (told_more (λ others. what ∷ others) v));
            }
