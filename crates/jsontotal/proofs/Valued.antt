-- A field's value, by its place in a point's record: what it adds
use mathlib.Core.Path.{◌≡◌, refl, sym, ap, ◌∙◌}
use mathlib.Core.List.{List, ◌∷◌}
use Prim.Native.Nat.{ℕ, ◌+◌, ◌<◌}
use native.Mathlib.Omega.{arith}
use lib.Dec.{eqb}
use lib.ListN.{length, drop, length-drop}
use Rattle.jsontext.specs.declared.Fault.TheVariants.{BadField}
use Rattle.jsontext.specs.Reading.{Read, got, then, want}
use Rattle.jsontext.specs.Numbers.{number}
use Rattle.jsontext.specs.Strings.{string}
use Rattle.jsontext.specs.Values.{numeral, due, text, array, value, fields}
use Rattle.jsontext.specs.Events.{Time, Namespace, Action, Kind, Logged, Context, Principal, Resource, Entities, listed}
use Rattle.jsonread.proofs.Places.{byte_at}
use Rattle.jsontrace.specs.Count.{Count, a_string, counted, counted_entities}
use Rattle.jsonlines.specs.Entities.{entity_of}
use Rattle.jsonlines.specs.Fields.{reader_at}
use Rattle.jsonlines.proofs.Naming.{others-are}
use Rattle.jsonruns.specs.Good.{Good, Ends}
use Rattle.jsonruns.proofs.Runs.{then_of, due_of, text-string, wanted}
use Rattle.jsoncount.specs.declared.tallies.Tally.{Tally}
use Rattle.jsoncount.specs.Tally.{CountedTo}
use Rattle.jsoncount.specs.Sizes.{texts_size, fields_size, entity_read}
use Rattle.jsoncount.proofs.Sums.{adds_none}
use Rattle.jsoncount.proofs.Looping.{good-from, counted-from}
use Rattle.jsontotal.specs.Fields.{time_size, field_size}

-- ---- a time

none-counted : {line : List ℕ} {at e : ℕ} {t : Tally} → Ends line at e (due BadField numeral number (drop at line)) → CountedTo line at t t e (due BadField numeral number (drop at line)) time_size
unfolding time_size
none-counted {t = t} p = record { from = p.from; within = p.within; is = p.is; adds = λ what rest f. adds_none t }

-- ---- an array, and nothing else

record Bracketed {A : Type 0} (inside : List ℕ → Read A) (s : List ℕ) (a : A) (rest : List ℕ) : Type 0 where
  left : List ℕ
  bracket : s ≡ 91 ∷ left
  is : inside left ≡ got a rest

bracketed : {A : Type 0} (inside : List ℕ → Read A) (s : List ℕ) {a : A} {rest : List ℕ} → listed inside s ≡ got a rest → Bracketed inside s a rest
bracketed inside s e =
    let b = then_of (want 91 s) (due_of BadField (λ c. eqb c 91) (λ t. then (want 91 t) λ bracket rest. inside rest) s e) in
    record { left = b.left; bracket = (wanted 91 s b.is).is; is = b.next }

module _ {A : Type 0} (inside : List ℕ → Read A) (line : List ℕ) (at : ℕ) where
  bracket-below : {a : A} {rest : List ℕ} → Bracketed inside (drop at line) a rest → at < length line
  bracket-below b = omega (arith, length-drop at line, ap length b.bracket)

  inside_is : {a : A} {rest : List ℕ} → Bracketed inside (drop at line) a rest → inside (drop (at + 1) line) ≡ got a rest
  inside_is b = let z = byte_at line at (bracket-below b) in let e : drop (at + 1) line ≡ b.left = cc b.bracket in ap inside e ∙ b.is

  listed-good : Good line at (listed inside (drop at line)) → Good line (at + 1) (inside (drop (at + 1) line))
  listed-good g = let b = bracketed inside (drop at line) g.is in record { what = g.what; rest = g.rest; within = omega (arith, bracket-below b); is = inside_is b }

  listed-counted : {t u : Tally} {k : ℕ} {size : A → Count} → CountedTo line (at + 1) t u k (inside (drop (at + 1) line)) size → CountedTo line at t u k (listed inside (drop at line)) size
  listed-counted p = record {
    from = omega (arith, p.from);
    within = p.within;
    is = λ what rest f. p.is what rest (inside_is (bracketed inside (drop at line) f));
    adds = λ what rest f. p.adds what rest (inside_is (bracketed inside (drop at line) f));
  }

-- ---- a string, and nothing else

text-as : {line : List ℕ} {at : ℕ} → Good line at (text (drop at line)) → Good line at (string (drop at line))
text-as {line} {at} g = record { what = g.what; rest = g.rest; within = g.within; is = text-string (drop at line) g.is }

as-text : {line : List ℕ} {at : ℕ} {t u : Tally} {k : ℕ} → CountedTo line at t u k (string (drop at line)) a_string → CountedTo line at t u k (text (drop at line)) a_string
as-text {line} {at} p = record {
  from = p.from;
  within = p.within;
  is = λ what rest f. p.is what rest (text-string (drop at line) f);
  adds = λ what rest f. p.adds what rest (text-string (drop at line) f);
}

-- ---- by its place

-- what is read at a place, said of that place
made_as : (s : List ℕ) {field k : ℕ} → field ≡ k → reader_at field s ≡ reader_at k s
made_as s e = ap (λ (k : ℕ). reader_at k s) e

module _ {line : List ℕ} {at field : ℕ} where
  module _ (g : Good line at (reader_at field (drop at line))) where
    pub time-due : field ≡ 0 → Good line at (due BadField numeral number (drop at line))
    unfolding reader_at
    time-due e = good-from Time (made_as (drop at line) e) g.within g

    pub namespace-due : field ≡ 1 → Good line (at + 1) (array text (drop (at + 1) line))
    unfolding reader_at
    namespace-due e = listed-good (array text) line at (good-from Namespace (made_as (drop at line) e) g.within g)

    pub action-due : field ≡ 2 → Good line at (string (drop at line))
    unfolding reader_at
    action-due e = text-as (good-from Action (made_as (drop at line) e) g.within g)

    pub kind-due : field ≡ 3 → Good line at (string (drop at line))
    unfolding reader_at
    kind-due e = text-as (good-from Kind (made_as (drop at line) e) g.within g)

    pub logged-due : field ≡ 4 → Good line at (fields 31 (drop at line))
    unfolding reader_at
    logged-due e = good-from Logged (made_as (drop at line) e) g.within g

    pub context-due : field ≡ 5 → Good line at (fields 31 (drop at line))
    unfolding reader_at
    context-due e = good-from Context (made_as (drop at line) e) g.within g

    pub principal-due : field ≡ 6 → Good line at (value 32 (drop at line))
    unfolding reader_at
    principal-due e = good-from Principal (made_as (drop at line) e) g.within g

    pub resource-due : field ≡ 7 → Good line at (value 32 (drop at line))
    unfolding reader_at
    resource-due e = good-from Resource (made_as (drop at line) e) g.within g

    pub entities-due : (field ≡ 0 → ⊥) → (field ≡ 1 → ⊥) → (field ≡ 2 → ⊥) → (field ≡ 3 → ⊥) → (field ≡ 4 → ⊥) → (field ≡ 5 → ⊥) → (field ≡ 6 → ⊥) → (field ≡ 7 → ⊥) → Good line (at + 1) (array entity_read (drop (at + 1) line))
    unfolding entity_read
    entities-due n0 n1 n2 n3 n4 n5 n6 n7 = listed-good (array entity_of) line at (good-from Entities (others-are field (drop at line) n0 n1 n2 n3 n4 n5 n6 n7) g.within g)

  pub time-counted : {t : Tally} {k : ℕ} → field ≡ 0 → Ends line at k (due BadField numeral number (drop at line)) → CountedTo line at t t k (reader_at field (drop at line)) field_size
  unfolding reader_at field_size
  time-counted e p = counted-from Time (made_as (drop at line) e) (omega arith) (λ a. refl) (none-counted p)

  module _ {t u : Tally} {k : ℕ} where
    pub namespace-counted : field ≡ 1 → CountedTo line (at + 1) t u k (array text (drop (at + 1) line)) texts_size → CountedTo line at t u k (reader_at field (drop at line)) field_size
    unfolding reader_at field_size
    namespace-counted e p = counted-from Namespace (made_as (drop at line) e) (omega arith) (λ a. refl) (listed-counted (array text) line at p)

    pub action-counted : field ≡ 2 → CountedTo line at t u k (string (drop at line)) a_string → CountedTo line at t u k (reader_at field (drop at line)) field_size
    unfolding reader_at field_size
    action-counted e p = counted-from Action (made_as (drop at line) e) (omega arith) (λ a. refl) (as-text p)

    pub kind-counted : field ≡ 3 → CountedTo line at t u k (string (drop at line)) a_string → CountedTo line at t u k (reader_at field (drop at line)) field_size
    unfolding reader_at field_size
    kind-counted e p = counted-from Kind (made_as (drop at line) e) (omega arith) (λ a. refl) (as-text p)

    pub logged-counted : field ≡ 4 → CountedTo line at t u k (fields 31 (drop at line)) fields_size → CountedTo line at t u k (reader_at field (drop at line)) field_size
    unfolding reader_at field_size
    logged-counted e p = counted-from Logged (made_as (drop at line) e) (omega arith) (λ a. refl) p

    pub context-counted : field ≡ 5 → CountedTo line at t u k (fields 31 (drop at line)) fields_size → CountedTo line at t u k (reader_at field (drop at line)) field_size
    unfolding reader_at field_size
    context-counted e p = counted-from Context (made_as (drop at line) e) (omega arith) (λ a. refl) p

    pub principal-counted : field ≡ 6 → CountedTo line at t u k (value 32 (drop at line)) counted → CountedTo line at t u k (reader_at field (drop at line)) field_size
    unfolding reader_at field_size
    principal-counted e p = counted-from Principal (made_as (drop at line) e) (omega arith) (λ a. refl) p

    pub resource-counted : field ≡ 7 → CountedTo line at t u k (value 32 (drop at line)) counted → CountedTo line at t u k (reader_at field (drop at line)) field_size
    unfolding reader_at field_size
    resource-counted e p = counted-from Resource (made_as (drop at line) e) (omega arith) (λ a. refl) p

    pub entities-counted : (field ≡ 0 → ⊥) → (field ≡ 1 → ⊥) → (field ≡ 2 → ⊥) → (field ≡ 3 → ⊥) → (field ≡ 4 → ⊥) → (field ≡ 5 → ⊥) → (field ≡ 6 → ⊥) → (field ≡ 7 → ⊥) → CountedTo line (at + 1) t u k (array entity_read (drop (at + 1) line)) counted_entities → CountedTo line at t u k (reader_at field (drop at line)) field_size
    unfolding field_size entity_read
    entities-counted n0 n1 n2 n3 n4 n5 n6 n7 p = counted-from Entities (others-are field (drop at line) n0 n1 n2 n3 n4 n5 n6 n7) (omega arith) (λ a. refl) (listed-counted (array entity_of) line at p)
