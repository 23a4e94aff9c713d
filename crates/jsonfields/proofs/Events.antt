-- An event's members, one after another, and the places of its fields
use mathlib.Core.Path.{◌≡◌, refl, sym, ap, subst, ◌∙◌}
use mathlib.Core.Bool.{Bool, true, false}
use mathlib.Core.List.{List, [], ◌∷◌}
use mathlib.Core.Option.{Option, none, some}
use Prim.Native.Nat.{ℕ, zero, suc, ◌+◌, ◌-◌, ◌<◌, ◌≤◌}
use native.Mathlib.Omega.{arith}
use lib.Dec.{eqb}
use lib.ListN.{length, drop, get_or, set, length-set, length-drop}
use borrow.Author.Tests.{eq-eqb}
use Rattle.std.specs.Prelude.{Result, Ok, Err}
use Rattle.jsontext.specs.declared.Fault.TheVariants.{BadField}
use Rattle.jsontext.specs.Reading.{got, blanks, want}
use Rattle.jsontext.specs.Numbers.{number}
use Rattle.jsontext.specs.Values.{numeral, due, text, array, object, fields}
use Rattle.jsontext.specs.Events.{Event, Field, Time, Namespace, Action, Kind, Logged, Context, Principal, Resource, Entities, listed, field_readers, is_field, field_by, Found, found, have, whole, complete, event, ended, line as line_of}
use Rattle.jsonread.specs.Told.{Blanks}
use Rattle.jsonread.proofs.Places.{byte_at}
use Rattle.jsonread.proofs.Spelling.{never}
use Rattle.jsonruns.specs.Good.{Good, Signed, ClosedAt, BeginTold, PartTold}
use Rattle.jsonruns.proofs.Signs.{ahead, ahead-less}
use Rattle.jsonruns.specs.Run.{Run}
use Rattle.jsonruns.proofs.Runs.{then_of, due_of, wanted, same-got, object-listed, Turn, turn}
use Rattle.jsoncount.specs.Sizes.{entity_read}
use Rattle.jsonlines.specs.Fields.{reader_at}
use Rattle.jsonlines.specs.Events.{event_of}
use Rattle.jsonentry.specs.declared.Fields.{Fields}
use Rattle.jsonentry.specs.Fields.{FieldsStand, FieldsTold}
use Rattle.jsonfields.specs.declared.places.Entry.{Entry}
use Rattle.jsonfields.specs.Places.{first_place, fields_from, EntryOf, EntryGood, EntryIs, EntryTold, EventTold}
use Rattle.jsonfields.proofs.Slots.{made, slots, slot, SlotKept, kept-none, keep_all, must_stand, may_stand}

-- ---- an event that is whole

record Had {A B : Type 0} (o : Option A) (f : A → Option B) (b : B) : Type 0 where
  what : A
  is : o ≡ some what
  next : f what ≡ some b

had : {A B : Type 0} (o : Option A) (f : A → Option B) (b : B) → have o f ≡ some b → Had o f b
unfolding have
had none f b e = absurd (let x : ◌≡◌ {A = ℕ} 0 1 = cc in omega arith)
had (some a) f b e = record { what = a; is = refl; next = e }

record Wholly (f : Found) (e : Event) : Type 0 where
  time : f.time ≡ some e.time
  namespace : f.namespace ≡ some e.namespace
  action : f.action ≡ some e.action
  kind : f.kind ≡ some e.kind
  logged : f.logged ≡ some e.logged
  context : f.context ≡ some e.context
  principal : f.principal ≡ e.principal
  resource : f.resource ≡ e.resource
  entities : f.entities ≡ some e.entities

wholly : (f : Found) (e : Event) → whole f ≡ some e → Wholly f e
unfolding whole
wholly f e q =
    let t = had f.time _ e q in
    let n = had f.namespace _ e t.next in
    let a = had f.action _ e n.next in
    let k = had f.kind _ e a.next in
    let l = had f.logged _ e k.next in
    let c = had f.context _ e l.next in
    let i = had f.entities _ e c.next in
    let z = i.next in
    let made : record { time = t.what; namespace = n.what; action = a.what; kind = k.what; logged = l.what; context = c.what; principal = f.principal; resource = f.resource; entities = i.what } ≡ e = cc in
    record {
      time = t.is ∙ ap (λ (x : Event). some x.time) made;
      namespace = n.is ∙ ap (λ (x : Event). some x.namespace) made;
      action = a.is ∙ ap (λ (x : Event). some x.action) made;
      kind = k.is ∙ ap (λ (x : Event). some x.kind) made;
      logged = l.is ∙ ap (λ (x : Event). some x.logged) made;
      context = c.is ∙ ap (λ (x : Event). some x.context) made;
      principal = ap (λ (x : Event). x.principal) made;
      resource = ap (λ (x : Event). x.resource) made;
      entities = i.is ∙ ap (λ (x : Event). some x.entities) made;
    }

complete_of : (o : Option Event) (left : List ℕ) {e : Event} {rest : List ℕ} → complete o left ≡ got e rest → o ≡ some e
unfolding complete
complete_of none left q = absurd (never q)
complete_of (some v) left q = cc

-- ---- the fields, where each kind's first member is known

module _ {line : List ℕ} (l : List ℕ) {all : List (List ℕ × Field)} {e : Event} (w : whole (found all) ≡ some e) (q : (k : ℕ) → SlotKept line (get_or l k 0) k all []) where
  abbrev its : Wholly (found all) e
  its = wholly (found all) e w

  fields-stand : FieldsStand line (fields_from l) e
  unfolding slot slots made reader_at entity_read
  fields-stand = record {
    time = must_stand Time (due BadField numeral number) (λ a b z. cc) refl e.time (ap (made Time) its.time) (q 0);
    namespace = must_stand Namespace (listed (array text)) (λ a b z. cc) refl e.namespace (ap (made Namespace) its.namespace) (q 1);
    action = must_stand Action text (λ a b z. cc) refl e.action (ap (made Action) its.action) (q 2);
    kind = must_stand Kind text (λ a b z. cc) refl e.kind (ap (made Kind) its.kind) (q 3);
    logged = must_stand Logged (fields 31) (λ a b z. cc) refl e.logged (ap (made Logged) its.logged) (q 4);
    context = must_stand Context (fields 31) (λ a b z. cc) refl e.context (ap (made Context) its.context) (q 5);
    principal = may_stand Principal (λ a b z. cc) refl e.principal (ap (made Principal) its.principal) (q 6);
    resource = may_stand Resource (λ a b z. cc) refl e.resource (ap (made Resource) its.resource) (q 7);
    entities = must_stand Entities (listed (array entity_read)) (λ a b z. cc) refl e.entities (ap (made Entities) its.entities) (q 8);
  }

-- ---- the members

pub record Placing (line : List ℕ) (at i : ℕ) (places : List ℕ) : Type 0 where
  pub what : Event
  pub end : List ℕ
  pub is : event_of (drop at line) ≡ got what end
  pub all : List (List ℕ × Field)
  pub made : whole (found all) ≡ some what
  pub within : i ≤ length line
  pub left : List (List ℕ × Field)
  pub rest : List ℕ
  pub run : Run 125 EntryOf (drop i line) left rest
  pub long : length places ≡ 9
  pub kept : (k : ℕ) → SlotKept line (get_or places k 0) k all left

-- a member stands at the part, or the bracket closes and all are placed
pub record PlacingAt (line : List ℕ) (at : ℕ) (part : Result ℕ ℕ) (places : List ℕ) : Type 0 where
  pub next : (i : ℕ) → part ≡ Ok i → Placing line at i places
  pub nine : length places ≡ 9
  pub told : (e : ℕ) → part ≡ Err e → EventTold line at (fields_from places)

zeros : (k : ℕ) → ◌≡◌ {A = ℕ} (get_or (0 ∷ 0 ∷ 0 ∷ 0 ∷ 0 ∷ 0 ∷ 0 ∷ 0 ∷ 0 ∷ []) k 0) 0
zeros zero = refl
zeros (suc zero) = refl
zeros (suc (suc zero)) = refl
zeros (suc (suc (suc zero))) = refl
zeros (suc (suc (suc (suc zero)))) = refl
zeros (suc (suc (suc (suc (suc zero))))) = refl
zeros (suc (suc (suc (suc (suc (suc zero)))))) = refl
zeros (suc (suc (suc (suc (suc (suc (suc zero))))))) = refl
zeros (suc (suc (suc (suc (suc (suc (suc (suc zero)))))))) = refl
zeros (suc (suc (suc (suc (suc (suc (suc (suc (suc k))))))))) = refl

no-event : {e : Event} → whole (found []) ≡ some e → ⊥
unfolding whole found have
no-event q = let x : ◌≡◌ {A = ℕ} 0 1 = cc in omega arith

place-start : {line : List ℕ} {at i : ℕ} → Good line at (event_of (drop at line)) → Blanks line at i → Placing line at i (0 ∷ 0 ∷ 0 ∷ 0 ∷ 0 ∷ 0 ∷ 0 ∷ 0 ∷ 0 ∷ [])
unfolding event_of
place-start {line} {at} {i} g b =
    let o = then_of (object (is_field field_readers) (field_by field_readers) (drop at line)) g.is in
    let l = object-listed (is_field field_readers) (field_by field_readers) (drop at line) o.is in
    let m : whole (found o.what) ≡ some g.what = complete_of (whole (found o.what)) o.left o.next in
    record {
      what = g.what;
      end = g.rest;
      is = g.is;
      all = o.what;
      made = m;
      within = b.within;
      left = o.what;
      rest = o.left;
      run = subst (λ (s : List ℕ). Run 125 EntryOf s o.what o.left) (sym b.is) (l.run (go o.what (eqb l.first 125) refl l.none m));
      long = refl;
      kept = λ k. kept-none (zeros k);
    }
  where
    go : {e : Event} {y : Bool} (all : List (List ℕ × Field)) (z : Bool) → y ≡ z → (y ≡ true → all ≡ []) → whole (found all) ≡ some e → y ≡ false
    go all true q n f = absurd (no-event (sym (ap (λ (ms : List (List ℕ × Field)). whole (found ms)) (n q)) ∙ f))
    go all false q n f = q

module _ {line : List ℕ} {at : ℕ} (g : Good line at (event_of (drop at line))) where
  pub place-signed : Signed line at
  unfolding event_of
  place-signed =
      let o = then_of (object (is_field field_readers) (field_by field_readers) (drop at line)) g.is in
      let l = object-listed (is_field field_readers) (field_by field_readers) (drop at line) o.is in
      record { within = g.within; sign = l.first; rest = l.others; is = l.byte }

  -- an event has members
  place-some : {e : ℕ} → ClosedAt line at 125 e → ⊥
  unfolding event_of
  place-some c =
      let o = then_of (object (is_field field_readers) (field_by field_readers) (drop at line)) g.is in
      let l = object-listed (is_field field_readers) (field_by field_readers) (drop at line) o.is in
      let m : whole (found o.what) ≡ some g.what = complete_of (whole (found o.what)) o.left o.next in
      let y = sym l.byte ∙ c.is in
      let n : o.what ≡ [] = l.none (eq-eqb l.first 125 cc) in
      no-event (sym (ap (λ (ms : List (List ℕ × Field)). whole (found ms)) n) ∙ m)

  pub place-begun : {x : Result ℕ ℕ} → BeginTold line at 125 x → PlacingAt line at x (0 ∷ 0 ∷ 0 ∷ 0 ∷ 0 ∷ 0 ∷ 0 ∷ 0 ∷ 0 ∷ [])
  place-begun b = record {
    next = λ i z. let c = b.next i z in place-start g (record { from = c.from; within = c.within; is = c.is });
    nine = refl;
    told = λ e z. absurd (place-some (b.closed e z));
  }

module _ {line : List ℕ} {at i : ℕ} {places : List ℕ} {y : Result ℕ ℕ} (start : PlacingAt line at y places) (z₀ : y ≡ Ok i) where
  abbrev g : Placing line at i places
  g = start.next i z₀

  now : Turn 125 EntryOf (drop i line) g.left g.rest
  now = turn 125 EntryOf g.run

  pub place-good : EntryGood line i
  place-good = record { what = now.what; after = now.after; within = g.within; is = now.part }

  module _ {r : Entry} (t : EntryTold line i r) where
    entry : EntryIs line r now.what now.after
    entry = t.is now.what now.after now.part

    sign-here : blanks (drop r.end line) ≡ now.sign ∷ now.others
    sign-here = ap blanks (sym entry.ends) ∙ now.byte

    pub place_after : Signed line r.end
    place_after = record { within = t.within; sign = now.sign; rest = now.others; is = sign-here }

    module _ {p : ℕ} (e : p ≡ first_place (get_or places r.field 0) r.value) where
      kept-now : {others : List (List ℕ × Field)} → g.left ≡ now.what ∷ others → (k : ℕ) → SlotKept line (get_or (set places r.field p) k 0) k g.all others
      kept-now {others} z k =
          rw e
          (keep_all {all = g.all} {others = others} t entry places g.long
          (λ n. subst (λ (ms : List (List ℕ × Field)). SlotKept line (get_or places n 0) n g.all ms) z (g.kept n)) k)

      module _ {x : Result ℕ ℕ} (b : PartTold line r.end 125 x) where
        place-closed : {f : Fields} {k : ℕ} → x ≡ Err k → f ≡ fields_from (set places r.field p) → EventTold line at f
        place-closed {f} {k} u z =
            let same = sym sign-here ∙ (b.closed k u).is in
            let last : now.sign ≡ 125 = cc in
            record { is = λ v rest h. subst (λ (u : Event). FieldsStand line f u) (same-got g.is h) (rw z (fields-stand (set places r.field p) g.made (kept-now (now.alone last)))) }

        place-next : {j : ℕ} → x ≡ Ok j → Placing line at j (set places r.field p)
        place-next {j} u =
            let c = b.next j u in
            let o = now.next (c.other now.sign now.others sign-here) in
            record {
              what = g.what;
              end = g.end;
              is = g.is;
              all = g.all;
              made = g.made;
              within = c.within;
              left = o.parts;
              rest = g.rest;
              run = subst (λ (s : List ℕ). Run 125 EntryOf s o.parts g.rest) (sym (c.is now.sign now.others sign-here)) o.run;
              long = length-set places r.field p ∙ g.long;
              kept = kept-now o.all-is;
            }

        pub place-again : PlacingAt line at x (set places r.field p)
        place-again = record { next = λ j u. place-next u; nine = length-set places r.field p ∙ g.long; told = λ k u. place-closed u refl }

        pub place-less : ahead line x < ahead line y
        place-less = ahead-less line z₀ b (omega (arith, t.far, t.from))

pub place-told : {line places : List ℕ} {at : ℕ} {x : Result ℕ ℕ} {f : Fields} {k : ℕ} → PlacingAt line at x places → x ≡ Err k → f ≡ fields_from places → EventTold line at f
place-told {k = k} g z e = rw e (g.told k z)

pub place-nine : {line places : List ℕ} {at : ℕ} {x : Result ℕ ℕ} → PlacingAt line at x places → length places ≡ 9
place-nine g = g.nine

-- ---- a line

record Lined (s : List ℕ) (e : Event) : Type 0 where
  inside : List ℕ
  rest : List ℕ
  brace : blanks s ≡ 123 ∷ inside
  is : event_of inside ≡ got e rest

ended_of : (v : Event) (s : List ℕ) {e : Event} {rest : List ℕ} → ended v s ≡ got e rest → v ≡ e
unfolding ended
ended_of v [] q = cc
ended_of v (c ∷ s) q = absurd (never q)

lined : (s : List ℕ) {e : Event} {rest : List ℕ} → line_of s ≡ got e rest → Lined s e
unfolding line_of event event_of
lined s {e} q =
    let d = then_of (due BadField (λ c. eqb c 123) event (blanks s)) q in
    let b = then_of (want 123 (blanks s)) (due_of BadField (λ c. eqb c 123) event (blanks s) d.is) in
    record { inside = b.left; rest = d.left; brace = (wanted 123 (blanks s) b.is).is; is = b.next ∙ ap (λ (v : Event). got v d.left) (ended_of d.what (blanks d.left) d.next) }

module _ {line : List ℕ} {i : ℕ} (b : Blanks line 0 i) where
  at-brace : {e : Event} (l : Lined line e) → drop i line ≡ 123 ∷ l.inside
  at-brace l = b.is ∙ l.brace

  below : {e : Event} → Lined line e → i < length line
  below l = omega (arith, length-drop i line, ap length (at-brace l))

  at-event : {e : Event} (l : Lined line e) → event_of (drop (i + 1) line) ≡ got e l.rest
  at-event l = let z = byte_at line i (below l) in let y : drop (i + 1) line ≡ l.inside = cc (at-brace l) in ap event_of y ∙ l.is

  line-past : Good line 0 (line_of line) → i + 1 ≤ length line
  line-past g = omega (arith, below (lined line g.is))

  pub line-event : Good line 0 (line_of line) → Good line (i + 1) (event_of (drop (i + 1) line))
  line-event g = let l = lined line g.is in record { what = g.what; rest = l.rest; within = line-past g; is = at-event l }

  pub line-told : {f : Fields} → EventTold line (i + 1) f → FieldsTold line f
  line-told t = record { is = λ e rest q. let l = lined line q in t.is e l.rest (at-event l) }
