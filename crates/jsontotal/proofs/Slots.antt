-- An event's fields in the order of its record, whatever their order in the text: what they add together
use mathlib.Core.Path.{◌≡◌, refl, sym, ap, ◌∙◌}
use mathlib.Core.List.{List, [], ◌∷◌}
use mathlib.Core.Option.{Option, none, some}
use Prim.Native.Nat.{ℕ, zero, suc, ◌<◌}
use native.Mathlib.Omega.{arith}
use lib.IntN.{ℤ}
use lib.ListN.{length, get_or, set}
use lib.Seq.{get_or-set_other}
use Rattle.jsontext.specs.Values.{J, Parts}
use Rattle.jsontext.specs.Events.{Item, Event, Field, Time, Namespace, Action, Kind, Logged, Context, Principal, Resource, Entities, Found, with, found, have, whole}
use Rattle.jsontrace.specs.Count.{Count, nothing, ◌⊞◌, a_string, a_point, list_words, counted_maybe, counted_strings, counted_entities, counted_event}
use Rattle.jsonlines.specs.Fields.{field_of}
use Rattle.jsonlines.specs.Events.{number_of}
use Rattle.jsoncount.specs.Tally.{sizes}
use Rattle.jsoncount.specs.Sizes.{texts_size, fields_size}
use Rattle.jsoncount.proofs.Sums.{sum_comm, sum-none, sum_assoc}
use Rattle.jsontotal.specs.Fields.{time_size, field_size, entry_size, entries_size}
use Rattle.jsontotal.proofs.Apart.{Fresh, not_first, Apart, apart_from}
use Rattle.jsontotal.proofs.Names.{named-once, Named, named-and}

-- ---- a list of counts

unfoldable total : List Count → Count
total [] = nothing
total (c ∷ cs) = c ⊞ total cs

sum_of_none : (a : Count) → nothing ⊞ a ≡ a
sum_of_none a = sum_comm nothing a ∙ sum-none a

sum-turned : (a b c : Count) → a ⊞ b ⊞ c ≡ b ⊞ a ⊞ c
sum-turned a b c = sym (sum_assoc a b c) ∙ ap (λ (d : Count). d ⊞ c) (sum_comm a b) ∙ sum_assoc b a c

-- where there was nothing, one more
total-set : (l : List Count) (k : ℕ) (c : Count) → k < length l → get_or l k nothing ≡ nothing → total (set l k c) ≡ c ⊞ total l
unfolding total
total-set [] k c h e = absurd (omega arith)
total-set (x ∷ l) zero c h e = ap (λ (d : Count). c ⊞ d) (sym (ap (λ (y : Count). y ⊞ total l) e ∙ sum_of_none (total l)))
total-set (x ∷ l) (suc k) c h e = ap (λ (d : Count). x ⊞ d) (total-set l k c (omega arith) e) ∙ sum-turned x c (total l)

-- ---- what was found, by places

unfoldable sized : {A : Type 0} → (A → Count) → Option A → Count
sized size none = nothing
sized size (some a) = size a

unfoldable slots : Found → List Count
slots f =
    sized time_size f.time ∷ sized texts_size f.namespace ∷ sized a_string f.action ∷ sized a_string f.kind ∷ sized fields_size f.logged ∷ sized fields_size f.context ∷ counted_maybe f.principal
    ∷ counted_maybe f.resource
    ∷ sized counted_entities f.entities
    ∷ []

slots_with : (f : Found) (x : Field) → slots (with f x) ≡ set (slots f) (number_of x) (field_size x)
unfolding slots with number_of sized field_size counted_maybe
slots_with f (Time z) = refl
slots_with f (Namespace ns) = refl
slots_with f (Action a) = refl
slots_with f (Kind k) = refl
slots_with f (Logged ps) = refl
slots_with f (Context ps) = refl
slots_with f (Principal j) = refl
slots_with f (Resource j) = refl
slots_with f (Entities es) = refl

slots-long : (f : Found) → length (slots f) ≡ 9
unfolding slots
slots-long f = refl

no_slot : (k : ℕ) → get_or (slots (found [])) k nothing ≡ nothing
unfolding slots found sized counted_maybe
no_slot zero = refl
no_slot (suc zero) = refl
no_slot (suc (suc zero)) = refl
no_slot (suc (suc (suc zero))) = refl
no_slot (suc (suc (suc (suc zero)))) = refl
no_slot (suc (suc (suc (suc (suc zero))))) = refl
no_slot (suc (suc (suc (suc (suc (suc zero)))))) = refl
no_slot (suc (suc (suc (suc (suc (suc (suc zero))))))) = refl
no_slot (suc (suc (suc (suc (suc (suc (suc (suc zero)))))))) = refl
no_slot (suc (suc (suc (suc (suc (suc (suc (suc (suc k))))))))) = refl

-- a name that no member has is at a place where nothing is
empty-slot : (n : List ℕ) (ms : List (List ℕ × Field)) → field_of n < 9 → Fresh n ms → Named ms → get_or (slots (found ms)) (field_of n) nothing ≡ nothing
unfolding found
empty-slot n [] l h p = no_slot (field_of n)
empty-slot n (m ∷ ms) l (not_first d h) (named-and q b p) =
    ap (λ (s : List Count). get_or s (field_of n) nothing) (slots_with (found ms) m.1)
    ∙ get_or-set_other (slots (found ms)) (number_of m.1) (field_of n) (field_size m.1) nothing (λ z. d (named-once m.0 n b l (sym q ∙ sym z)))
    ∙ empty-slot n ms l h p

-- the members' sizes are those of what was found
found-total : (ms : List (List ℕ × Field)) → Apart ms → Named ms → entries_size ms ≡ total (slots (found ms))
unfolding found sizes entry_size
found-total [] h p = unfold total slots sized counted_maybe nothing ◌⊞◌ in refl
found-total (m ∷ ms) (apart_from f h) (named-and q b p) =
    ap (λ (c : Count). field_size m.1 ⊞ c) (found-total ms h p)
    ∙ sym (total-set (slots (found ms)) (number_of m.1) (field_size m.1) (omega (arith, slots-long (found ms), q, b)) (ap (λ (k : ℕ). get_or (slots (found ms)) k nothing) q ∙ empty-slot m.0 ms b f p))
    ∙ sym (ap total (slots_with (found ms) m.1))

-- ---- the event that is made of it

count-is : (a b c d e f a' b' c' d' e' f' : ℕ) → a ≡ a' → b ≡ b' → c ≡ c' → d ≡ d' → e ≡ e' → f ≡ f' → ◌≡◌ {A = Count} (record { strings = a; bytes = b; values = c; members = d; points = e; lists = f }) (record { strings = a'; bytes = b'; values = c'; members = d'; points = e'; lists = f' })
count-is a b c d e f a' b' c' d' e' f' p q r s t u = rw (p, q, r, s, t, u)

in_order : (ns ls a k l c p r es point : Count) → point ⊞ nothing ⊞ (ns ⊞ ls) ⊞ a ⊞ k ⊞ l ⊞ c ⊞ p ⊞ r ⊞ es ⊞ nothing ≡ ns ⊞ ls ⊞ a ⊞ k ⊞ l ⊞ c ⊞ p ⊞ r ⊞ es ⊞ point
unfolding ◌⊞◌ nothing
in_order ns ls a k l c p r es point = count-is _ _ _ _ _ _ _ _ _ _ _ _ (omega arith) (omega arith) (omega arith) (omega arith) (omega arith) (omega arith)

absent : {e : Event} {A : Type 0} → ◌≡◌ {A = Option Event} none (some e) → A
absent q = absurd (let z : ◌≡◌ {A = ℕ} 0 1 = cc in omega arith)

whole-total : (f : Found) (e : Event) → whole f ≡ some e → a_point ⊞ total (slots f) ≡ counted_event e
unfolding whole have slots sized total counted_event time_size
whole-total f e q =
    go f.time f.namespace f.action f.kind f.logged f.context f.principal f.resource f.entities q
  where
    go : (a : Option ℤ) (b : Option (List (List ℕ))) (c : Option (List ℕ)) (d : Option (List ℕ)) (g : Option Parts) (h : Option Parts) (i : Option J) (j : Option J) (k : Option (List Item)) → whole (record { time = a; namespace = b; action = c; kind = d; logged = g; context = h; principal = i; resource = j; entities = k }) ≡ some e → a_point ⊞ total (slots (record { time = a; namespace = b; action = c; kind = d; logged = g; context = h; principal = i; resource = j; entities = k })) ≡ counted_event e
    go none b c d g h i j k q = absent q
    go (some a) none c d g h i j k q = absent q
    go (some a) (some b) none d g h i j k q = absent q
    go (some a) (some b) (some c) none g h i j k q = absent q
    go (some a) (some b) (some c) (some d) none h i j k q = absent q
    go (some a) (some b) (some c) (some d) (some g) none i j k q = absent q
    go (some a) (some b) (some c) (some d) (some g) (some h) i j none q = absent q
    go (some a) (some b) (some c) (some d) (some g) (some h) i j (some k) q =
        let made : record { time = a; namespace = b; action = c; kind = d; logged = g; context = h; principal = i; resource = j; entities = k } ≡ e = cc in
        in_order (counted_strings b) (list_words (length b)) (a_string c) (a_string d) (fields_size g) (fields_size h) (counted_maybe i) (counted_maybe j) (counted_entities k) a_point ∙ ap counted_event made

pub event-total : (ms : List (List ℕ × Field)) (e : Event) → Apart ms → Named ms → whole (found ms) ≡ some e → a_point ⊞ entries_size ms ≡ counted_event e
event-total ms e h p q = ap (λ (c : Count). a_point ⊞ c) (found-total ms h p) ∙ whole-total (found ms) e q
