-- An event's members, one after another, and which fields are there
use Rattle.std.specs.Prelude.{Result, Ok, Err, Result, Ok, Err}
use mathlib.Core.Path.{◌≡◌, refl, sym, ap, ◌∙◌}
use mathlib.Core.Bool.{Bool, true, false, not}
use mathlib.Core.List.{List, [], ◌∷◌, ◌++◌}
use mathlib.Core.Option.{Option, none, some}
use Prim.Native.Nat.{ℕ, zero, suc, ◌+◌, ◌-◌, ◌<◌, ◌≤◌}
use native.Mathlib.Omega.{arith}
use lib.IntN.{ℤ}
use lib.ListN.{length, drop, get_or, set, length-drop}
use borrow.Author.Tests.{not-true, not-false}
use Rattle.meaning.specs.Tests.{◌and◌, choose}
use Rattle.laws.specs.Tests.{yes, no as otherwise}
use Rattle.jsontext.specs.declared.Fault.{Fault}
use Rattle.jsontext.specs.declared.Fault.TheVariants.{NotJson, BadField}
use Rattle.jsontext.specs.declared.Bad.{Bad}
use Rattle.jsontext.specs.Reading.{Read, then, blanks, wrong, wrong}
use Rattle.jsontext.specs.Values.{J, Parts, object}
use Rattle.jsontext.specs.Events.{Item, Event, Field, Time, Namespace, Action, Kind, Logged, Context, Principal, Resource, Entities, field_readers, is_field, field_by, Found, with, found, have, whole, complete}
use Rattle.jsonread.specs.Told.{Told}
use Rattle.jsonread.proofs.Places.{told_at, told_bad}
use Rattle.jsonkeys.specs.declared.Turn.{Turn}
use Rattle.jsonkeys.specs.declared.Turn.TheVariants.{On, Over}
use Rattle.jsonkeys.specs.Keys.{opened, after, TurnTold, Room, Passed}
use Rattle.jsonkeys.proofs.Cells.{below_self, turn-is}
use Rattle.jsonkeys.proofs.Gathered.{Gathering, gather_cut, gather_empty, gather_start, gather_bad, gather_wrong, gather_over, gather_less, gather_on}
use Rattle.jsonlines.specs.Events.{number_of, EntryIs, EntryTold, is_there, bits, whole_bits, closed_by, event_of}

-- ---- which fields are there

bits-with : (f : Found) (x : Field) → bits (with f x) ≡ set (bits f) (number_of x) true
unfolding bits with number_of is_there
bits-with f (Time z) = refl
bits-with f (Namespace ns) = refl
bits-with f (Action a) = refl
bits-with f (Kind k) = refl
bits-with f (Logged ps) = refl
bits-with f (Context ps) = refl
bits-with f (Principal j) = refl
bits-with f (Resource j) = refl
bits-with f (Entities es) = refl

set-turned : (l : List Bool) (i j : ℕ) → set (set l i true) j true ≡ set (set l j true) i true
set-turned [] i j = refl
set-turned (b ∷ l) zero zero = refl
set-turned (b ∷ l) zero (suc j) = refl
set-turned (b ∷ l) (suc i) zero = refl
set-turned (b ∷ l) (suc i) (suc j) = ap (λ (l : List Bool). b ∷ l) (set-turned l i j)

-- a member more
bits-more : (done : List (List ℕ × Field)) (m : List ℕ × Field) → bits (found (done ++ (m ∷ []))) ≡ set (bits (found done)) (number_of m.1) true
unfolding found
bits-more [] m = bits-with (found []) m.1
bits-more (d ∷ done) m =
    bits-with (found (done ++ (m ∷ []))) d.1
    ∙ ap (λ (l : List Bool). set l (number_of d.1) true) (bits-more done m)
    ∙ set-turned (bits (found done)) (number_of m.1) (number_of d.1)
    ∙ sym (ap (λ (l : List Bool). set l (number_of m.1) true) (bits-with (found done) d.1))

there-whole : (f : Found) → is_there (whole f) ≡ whole_bits (bits f)
unfolding whole have is_there bits whole_bits ◌and◌
there-whole f =
    go f.time f.namespace f.action f.kind f.logged f.context f.principal f.resource f.entities
  where
    go : (a : Option ℤ) (b : Option (List (List ℕ))) (c : Option (List ℕ)) (d : Option (List ℕ)) (e : Option Parts) (f : Option Parts) (g : Option J) (h : Option J) (i : Option (List Item)) → is_there (whole (record { time = a; namespace = b; action = c; kind = d; logged = e; context = f; principal = g; resource = h; entities = i })) ≡ whole_bits (bits (record { time = a; namespace = b; action = c; kind = d; logged = e; context = f; principal = g; resource = h; entities = i }))
    go none b c d e f g h i = refl
    go (some a) none c d e f g h i = refl
    go (some a) (some b) none d e f g h i = refl
    go (some a) (some b) (some c) none e f g h i = refl
    go (some a) (some b) (some c) (some d) none f g h i = refl
    go (some a) (some b) (some c) (some d) (some e) none g h i = refl
    go (some a) (some b) (some c) (some d) (some e) (some f) g h none = refl
    go (some a) (some b) (some c) (some d) (some e) (some f) g h (some i) = refl

-- ---- after the closing brace

pub closed-whole : (at : ℕ) (l : List Bool) {x : Bool} → x ≡ whole_bits l → x ≡ true → Ok at ≡ closed_by at l
unfolding closed_by
closed-whole at l q e = sym (yes _ (sym q ∙ e))

pub closed-not : (at : ℕ) (l : List Bool) {x : Bool} → x ≡ whole_bits l → x ≡ false → Err (wrong BadField (at - 1)) ≡ closed_by at l
unfolding closed_by
closed-not at l q e = sym (otherwise _ (sym q ∙ e) refl)

module _ {line : List ℕ} {at : ℕ} (z : 0 < at) (h : at ≤ length line) where
  missing : Told line at (Err (wrong BadField (at - 1))) (complete none (drop at line))
  unfolding complete
  missing = told_bad (record { place = omega arith; first = omega arith; is = rw (let e : suc (length (drop at line)) ≡ length line - (at - 1) = omega (arith, length-drop at line) in e) })

  completed : (o : Option Event) (l : List Bool) → is_there o ≡ whole_bits l → Told line at (closed_by at l) (complete o (drop at line))
  unfolding is_there closed_by complete choose
  completed none l e = rw (sym e) missing
  completed (some v) l e = rw (sym e) (told_at (record { what = v; from = omega arith; within = h; is = refl }))

-- ---- a member that was read

module _ {line names last : List ℕ} {end at f e : ℕ} {x : Result (ℕ × ℕ) Bad} (q : x ≡ Ok (f, e)) (k : EntryTold line names last end at x) where
  pub field_below : f < 9
  field_below = (k.read f e q).below

  pub entry-within : e ≤ length line
  entry-within = (k.read f e q).member.within

-- ---- all members

abbrev known : List ℕ → Bool
known n = is_field field_readers n

abbrev item : List ℕ → List ℕ → Read Field
item n s = field_by field_readers n s

abbrev all : List (List ℕ × Field) → List ℕ → Read Event
all ms rest = complete (whole (found ms)) rest

pub record Reading (line cells names : List ℕ) (at end i : ℕ) (seen : List Bool) : Type 0 where
  pub done : List (List ℕ × Field)
  pub members : Gathering known item all line cells names 0 at end i done
  pub there : seen ≡ bits (found done)

of_event : {line : List ℕ} {at : ℕ} {r : Result ℕ Bad} → Told line at r (then (object known item (drop at line)) all) → Told line at r (event_of (drop at line))
unfolding event_of
of_event t = t

passed-event : {line names last : List ℕ} {at : ℕ} {r : Result ℕ Bad} → Passed line names last 0 at r (then (object known item (drop at line)) all) → Passed line names last 0 at r (event_of (drop at line))
passed-event p = record { told = of_event p.told; below = p.below }

module _ {line : List ℕ} {at : ℕ} {x : Result Turn Bad} (names : List ℕ) (t : TurnTold line at (opened 125 (blanks (drop at line))) x) where
  pub event-cut : {b : Bad} → x ≡ Err b → Passed line names names 0 at (Err b) (event_of (drop at line))
  event-cut e = record { told = of_event (gather_cut known item all t e); below = below_self }

  pub over-above : {s : Turn} {e : ℕ} → 0 < at → x ≡ Ok s → s ≡ Over e → 0 < e
  over-above {e = e} z p q = omega (arith, z, (t.over e (turn-is p q)).from)

  pub event-empty : {s : Turn} {e : ℕ} → 0 < at → x ≡ Ok s → s ≡ Over e → Passed line names names 0 at (Err (wrong BadField (e - 1))) (event_of (drop at line))
  unfolding found whole have
  event-empty {e = e} z p q = record { told = of_event (gather_empty known item all t p q (missing (over-above z p q) (t.over e (turn-is p q)).within)); below = below_self }

  pub event-start : {s : Turn} {i : ℕ} → Room line names 0 at 0 → x ≡ Ok s → s ≡ On i → Reading line names names at 0 i (false ∷ false ∷ false ∷ false ∷ false ∷ false ∷ false ∷ false ∷ false ∷ [])
  unfolding bits found is_there
  event-start h p q = record { done = []; members = gather_start known item all t h p q; there = refl }

module _ {line cells names : List ℕ} {at end i : ℕ} {seen : List Bool} (g : Reading line cells names at end i seen) where
  module _ {last : List ℕ} {x : Result (ℕ × ℕ) Bad} (k : EntryTold line names last end i x) where
    pub event_bad : {b : Bad} → x ≡ Err b → Passed line cells last 0 at (Err b) (event_of (drop at line))
    event_bad e = passed-event (gather_bad known item all g.members (k.wrong _ e))

    pub bad_long : {b : Bad} → x ≡ Err b → length last ≡ length cells
    bad_long e = (k.wrong _ e).below.long ∙ g.members.below.long

    module _ {f e : ℕ} (q : x ≡ Ok (f, e)) where
      abbrev its : EntryIs line names last end i f e
      its = k.read f e q

      pub event-long : length last ≡ length cells
      event-long = its.member.below.long ∙ g.members.below.long

      pub event-end : end < length names
      event-end = omega (arith, g.members.room, its.member.takes, its.member.within)

      seen_more : set seen f true ≡ bits (found (g.done ++ ((its.member.name, its.member.what) ∷ [])))
      seen_more = ap (λ (l : List Bool). set l f true) g.there ∙ ap (λ (n : ℕ). set (bits (found g.done)) n true) (sym its.number) ∙ sym (bits-more g.done (its.member.name, its.member.what))

      module _ {z : Result Turn Bad} (t : TurnTold line (e + 1) (after 125 (blanks (drop e line))) z) where
        pub event-wrong : {b : Bad} → z ≡ Err b → Passed line cells last 0 at (Err b) (event_of (drop at line))
        event-wrong d = passed-event (gather_wrong known item all g.members its.member t d)

        pub close-above : {s : Turn} {o : ℕ} → z ≡ Ok s → s ≡ Over o → 0 < o
        close-above {o = o} p d = omega (arith, (t.over o (turn-is p d)).from)

        pub event-over : {s : Turn} {o : ℕ} {r : Result ℕ Bad} → z ≡ Ok s → s ≡ Over o → r ≡ closed_by o (set seen f true) → Passed line cells last 0 at r (event_of (drop at line))
        event-over {o = o} p d c =
            passed-event
            (gather_over known item all g.members its.member t p d
            (rw c (rw seen_more (completed (close-above p d) (t.over o (turn-is p d)).within (whole (found (g.done ++ ((its.member.name, its.member.what) ∷ [])))) (bits (found (g.done ++ ((its.member.name, its.member.what) ∷ [])))) (there-whole (found (g.done ++ ((its.member.name, its.member.what) ∷ []))))))))

        pub event-less : {s : Turn} {j : ℕ} → z ≡ Ok s → s ≡ On j → length line - j < length line - i
        event-less p d = gather_less known item all g.members its.member t p d

        pub event-on : {s : Turn} {j : ℕ} → z ≡ Ok s → s ≡ On j → Reading line cells last at (end + 1) j (set seen f true)
        event-on p d = record { done = g.done ++ ((its.member.name, its.member.what) ∷ []); members = gather_on known item all g.members its.member t p d; there = seen_more }
