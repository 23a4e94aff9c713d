-- The first member of each kind, and where its value stands
use mathlib.Core.Path.{◌≡◌, refl, sym, ap, subst, ◌∙◌}
use mathlib.Core.Bool.{Bool, true, false}
use mathlib.Core.List.{List, [], ◌∷◌}
use mathlib.Core.Option.{Option, none, some}
use Prim.Native.Nat.{ℕ, zero, suc, ◌<◌, ◌≤◌}
use native.Mathlib.Omega.{arith}
use lib.Dec.{eqb}
use lib.ListN.{length, drop, get_or, set}
use lib.Seq.{get_or-set_same, get_or-set_other}
use borrow.Author.Tests.{eqb-true, eqb-false}
use Rattle.meaning.specs.Tests.{choose}
use Rattle.jsontext.specs.Reading.{Read, got, mapped}
use Rattle.jsontext.specs.Values.{J, value as value·Values}
use Rattle.jsontext.specs.Events.{Field, Time, Namespace, Action, Kind, Logged, Context, Principal, Resource, Entities, Found, with, found}
use Rattle.jsonread.proofs.Spelling.{came}
use Rattle.jsonlines.specs.Fields.{reader_at}
use Rattle.jsonlines.specs.Events.{number_of}
use Rattle.jsonentry.specs.Fields.{Stands, MayStand}
use Rattle.jsonfields.specs.declared.places.Entry.{Entry}
use Rattle.jsonfields.specs.Places.{first_place, EntryIs, EntryTold}

-- ---- the first member of a kind

unfoldable pub made : {A : Type 0} → (A → Field) → Option A → Option Field
made f none = none
made f (some a) = some (f a)

unfoldable pub slots : Found → List (Option Field)
slots f =
    made Time f.time ∷ made Namespace f.namespace ∷ made Action f.action ∷ made Kind f.kind ∷ made Logged f.logged ∷ made Context f.context ∷ made Principal f.principal
    ∷ made Resource f.resource
    ∷ made Entities f.entities
    ∷ []

unfoldable pub slot : ℕ → List (List ℕ × Field) → Option Field
slot k ms = get_or (slots (found ms)) k none

slots_with : (f : Found) (x : Field) → slots (with f x) ≡ set (slots f) (number_of x) (some x)
unfolding slots with number_of made
slots_with f (Time z) = refl
slots_with f (Namespace ns) = refl
slots_with f (Action a) = refl
slots_with f (Kind k) = refl
slots_with f (Logged ps) = refl
slots_with f (Context ps) = refl
slots_with f (Principal j) = refl
slots_with f (Resource j) = refl
slots_with f (Entities es) = refl

module _ (m : List ℕ × Field) (ms : List (List ℕ × Field)) where
  slot-with : (k : ℕ) → slot k (m ∷ ms) ≡ get_or (set (slots (found ms)) (number_of m.1) (some m.1)) k none
  unfolding slot found
  slot-with k = ap (λ (l : List (Option Field)). get_or l k none) (slots_with (found ms) m.1)

  slot_this : number_of m.1 < 9 → slot (number_of m.1) (m ∷ ms) ≡ some m.1
  unfolding slots
  slot_this h = slot-with (number_of m.1) ∙ get_or-set_same (slots (found ms)) (number_of m.1) (some m.1) none h

  slot-other : (k : ℕ) → (k ≡ number_of m.1 → ⊥) → slot k (m ∷ ms) ≡ slot k ms
  unfolding slot
  slot-other k n = slot-with k ∙ get_or-set_other (slots (found ms)) (number_of m.1) k (some m.1) none n

slot-none : (k : ℕ) → slot k [] ≡ none
unfolding slot slots found made
slot-none zero = refl
slot-none (suc zero) = refl
slot-none (suc (suc zero)) = refl
slot-none (suc (suc (suc zero))) = refl
slot-none (suc (suc (suc (suc zero)))) = refl
slot-none (suc (suc (suc (suc (suc zero))))) = refl
slot-none (suc (suc (suc (suc (suc (suc zero)))))) = refl
slot-none (suc (suc (suc (suc (suc (suc (suc zero))))))) = refl
slot-none (suc (suc (suc (suc (suc (suc (suc (suc zero)))))))) = refl
slot-none (suc (suc (suc (suc (suc (suc (suc (suc (suc k))))))))) = refl

-- ---- its place, among all members, or none among those that are not left

pub record SlotAt (line : List ℕ) (p k : ℕ) (all : List (List ℕ × Field)) : Type 0 where
  pub what : Field
  pub is : slot k all ≡ some what
  pub rest : List ℕ
  pub within : p ≤ length line
  pub reads : reader_at k (drop p line) ≡ got what rest

pub record SlotKept (line : List ℕ) (p k : ℕ) (all left : List (List ℕ × Field)) : Type 0 where
  pub missing : p ≡ 0 → slot k all ≡ slot k left
  pub found : 0 < p → SlotAt line p k all

pub kept-none : {line : List ℕ} {p k : ℕ} {all : List (List ℕ × Field)} → p ≡ 0 → SlotKept line p k all all
kept-none e = record { missing = λ z. refl; found = λ h. absurd (omega (arith, h, e)) }

module _ {line : List ℕ} {at : ℕ} {r : Entry} {after : List ℕ} {m : List ℕ × Field} {all others : List (List ℕ × Field)} (t : EntryTold line at r) (i : EntryIs line r m after) where
  keep_this : (p : ℕ) → SlotKept line p r.field all (m ∷ others) → SlotKept line (first_place p r.value) r.field all others
  unfolding first_place choose
  keep_this p k =
      go (eqb p 0) refl
    where
      first : slot r.field (m ∷ others) ≡ some m.1
      first = ap (λ (n : ℕ). slot n (m ∷ others)) (sym i.number) ∙ slot_this m others (omega (arith, i.number, t.below))

      go : (z : Bool) → eqb p 0 ≡ z → SlotKept line (choose z r.value p) r.field all others
      go true z = record {
        missing = λ h. absurd (omega (arith, h, t.far));
        found = λ h. record { what = m.1; is = k.missing (eqb-true p 0 z) ∙ first; rest = after; within = omega (arith, t.from, t.within); reads = i.reads };
      }
      go false z = record { missing = λ h. absurd (eqb-false p 0 z h); found = k.found }

  keep-other : (p k : ℕ) → (k ≡ r.field → ⊥) → SlotKept line p k all (m ∷ others) → SlotKept line p k all others
  keep-other p k n q = record { missing = λ h. q.missing h ∙ slot-other m others k (λ e. n (e ∙ i.number)); found = q.found }

  pub keep_all : (places : List ℕ) → length places ≡ 9 → ((k : ℕ) → SlotKept line (get_or places k 0) k all (m ∷ others)) → (k : ℕ) → SlotKept line (get_or (set places r.field (first_place (get_or places r.field 0) r.value)) k 0) k all others
  keep_all places long q k =
      go (eqb k r.field) refl
    where
      new : ℕ
      new = first_place (get_or places r.field 0) r.value

      here : SlotKept line (get_or (set places r.field new) r.field 0) r.field all others
      here = subst (λ (p : ℕ). SlotKept line p r.field all others) (sym (get_or-set_same places r.field new 0 (omega (arith, long, t.below)))) (keep_this (get_or places r.field 0) (q r.field))

      go : (z : Bool) → eqb k r.field ≡ z → SlotKept line (get_or (set places r.field new) k 0) k all others
      go true z = subst (λ (n : ℕ). SlotKept line (get_or (set places r.field new) n 0) n all others) (sym (eqb-true k r.field z)) here
      go false z = subst (λ (p : ℕ). SlotKept line p k all others) (sym (get_or-set_other places r.field k new 0 (eqb-false k r.field z))) (keep-other (get_or places k 0) k (eqb-false k r.field z) (q k))

-- ---- where all members are done

module _ {A : Type 0} {line : List ℕ} {p k : ℕ} {all : List (List ℕ × Field)} (make : A → Field) (read : List ℕ → Read A) (alike : (a b : A) → make a ≡ make b → a ≡ b) (is : reader_at k (drop p line) ≡ mapped make (read (drop p line))) where
  slot-stands : (a : A) → (s : SlotAt line p k all) → s.what ≡ make a → Stands line p read a
  slot-stands a s e =
      let c = came make (read (drop p line)) (sym is ∙ s.reads) in
      record { rest = s.rest; within = s.within; is = c.is ∙ ap (λ (b : A). got b s.rest) (alike c.what a (sym c.makes ∙ e)) }

  pub must_stand : (a : A) → slot k all ≡ some (make a) → SlotKept line p k all [] → Stands line p read a
  must_stand a e q =
      go (eqb p 0) refl
    where
      go : (z : Bool) → eqb p 0 ≡ z → Stands line p read a
      go true z = let y = sym e ∙ q.missing (eqb-true p 0 z) ∙ slot-none k in absurd (let x : ◌≡◌ {A = ℕ} 0 1 = cc in omega arith)
      go false z = let s = q.found (omega (arith, eqb-false p 0 z)) in slot-stands a s (let y = sym s.is ∙ e in cc)

pub may_stand : {line : List ℕ} {p k : ℕ} {all : List (List ℕ × Field)} (make : J → Field) → ((a b : J) → make a ≡ make b → a ≡ b) → reader_at k (drop p line) ≡ mapped make (value·Values 32 (drop p line)) → (o : Option J) → slot k all ≡ made make o → SlotKept line p k all [] → MayStand line p o
unfolding made
may_stand {line} {p} {k} make alike is none e q = record {
  missing = λ z. refl;
  there = λ h. let s = q.found h in let y = sym e ∙ s.is in absurd (let x : ◌≡◌ {A = ℕ} 0 1 = cc in omega arith);
}
may_stand {line} {p} {k} make alike is (some j) e q = record {
  missing = λ z. let y = sym e ∙ q.missing z ∙ slot-none k in absurd (let x : ◌≡◌ {A = ℕ} 0 1 = cc in omega arith);
  there = λ h. record { value = j; there = refl; stands = must_stand make (value·Values 32) alike is j e q };
}
