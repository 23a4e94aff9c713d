-- What a value's first byte says of it, and what it counts
use mathlib.Core.Path.{◌≡◌, refl, sym, ap, ◌∙◌}
use mathlib.Core.Bool.{Bool, true, false}
use mathlib.Core.List.{List, [], ◌∷◌}
use Prim.Native.Nat.{ℕ, zero, suc, ◌+◌, ◌*◌, ◌-◌, ◌<◌, ◌≤◌}
use native.Mathlib.Omega.{arith}
use lib.ListN.{length, drop, get_or, length-drop}
use borrow.Author.Tests.{eq-eqb, ne_eqb}
use Rattle.laws.specs.Tests.{yes, no as otherwise}
use Rattle.jsontext.specs.declared.Fault.TheVariants.{NotJson, TooDeep}
use Rattle.jsontext.specs.declared.Form.{Form}
use Rattle.jsontext.specs.declared.Form.TheVariants.{Plain, Entity, Extension}
use Rattle.jsontext.specs.Reading.{Read, got, fault, then, no, mapped}
use Rattle.jsontext.specs.Values.{J, Array, Object, item_parts, member_parts, due, array, object, form, braced, value_of, value}
use Rattle.jsonread.proofs.Places.{byte_at}
use Rattle.jsonread.proofs.Spelling.{never}
use Rattle.jsonparts.specs.Flat.{scalar}
use Rattle.jsontrace.specs.Count.{counted}
use Rattle.jsonruns.specs.Good.{Good}
use Rattle.jsonruns.specs.Forms.{form_read}
use Rattle.jsoncount.specs.declared.tallies.Tally.{Tally}
use Rattle.jsoncount.specs.Tally.{CountedTo}
use Rattle.jsoncount.specs.Sizes.{array_size, object_size, object_read, braced_read}
use Rattle.jsonruns.proofs.Runs.{due_of}
use Rattle.jsoncount.proofs.Looping.{good-from, counted-from}

mapped-twice : (m : Read (List (List ℕ × J))) → mapped Object (mapped member_parts m) ≡ mapped (λ ms. Object (member_parts ms)) m
unfolding then
mapped-twice (got ms rest) = refl
mapped-twice (fault w p q) = refl

-- a good value has a level and a byte
value-levels : (levels : ℕ) (s : List ℕ) {j : J} {rest : List ℕ} → value levels s ≡ got j rest → 0 < levels
unfolding value
value-levels zero s e = absurd (never (due_of TooDeep (λ c. false) (λ t. no NotJson t) s e))
value-levels (suc levels) s e = omega arith

value_there : (levels : ℕ) (s : List ℕ) {j : J} {rest : List ℕ} → value levels s ≡ got j rest → 0 < length s
unfolding value value_of due
value_there zero [] e = absurd (never e)
value_there (suc levels) [] e = absurd (never e)
value_there levels (c ∷ s) e = omega arith

value-is : (levels : ℕ) (s : List ℕ) → 0 < levels → value levels s ≡ value_of (value (levels - 1)) s
unfolding value
value-is zero s h = absurd (omega arith)
value-is (suc levels) s h = let z : levels ≡ suc levels - 1 = omega arith in ap (λ (n : ℕ). value_of (value n) s) z

module _ (levels : ℕ) {line : List ℕ} {at : ℕ} (g : Good line at (value levels (drop at line))) where
  pub has_level : 1 ≤ levels
  has_level = omega (arith, value-levels levels (drop at line) g.is)

  pub value-below : at < length line
  value-below = omega (arith, length-drop at line, value_there levels (drop at line) g.is)

  pub deeper : {t : ℕ} → 3 * levels ≡ t → 3 * (levels - 1) + 1 < t
  deeper e = omega (arith, has_level)

  pub deeper_yet : {t : ℕ} → 3 * levels ≡ t → 3 * (levels - 1) + 2 < t
  deeper_yet e = omega (arith, has_level)

  read : value levels (drop at line) ≡ value_of (value (levels - 1)) (get_or line at 0 ∷ drop (at + 1) line)
  read = value-is levels (drop at line) (omega (arith, has_level)) ∙ ap (value_of (value (levels - 1))) (byte_at line at value-below)

  -- ---- an array

  module _ (q : get_or line at 0 ≡ 91) where
    pub array-is : value levels (drop at line) ≡ mapped (λ js. Array (item_parts js)) (array (value (levels - 1)) (drop (at + 1) line))
    unfolding value_of
    array-is = read ∙ otherwise _ (ne_eqb (get_or line at 0) 123 (λ z. omega (arith, q, z))) (yes _ (eq-eqb _ _ q))

    pub array-good : Good line (at + 1) (array (value (levels - 1)) (drop (at + 1) line))
    array-good = good-from (λ js. Array (item_parts js)) array-is (omega (arith, value-below)) g

    pub array-counted : {t u : Tally} {e : ℕ} → CountedTo line (at + 1) t u e (array (value (levels - 1)) (drop (at + 1) line)) array_size → CountedTo line at t u e (value levels (drop at line)) counted
    unfolding counted
    array-counted p = counted-from (λ js. Array (item_parts js)) array-is (omega arith) (λ a. refl) p

  -- ---- a value that holds no other

  module _ (m : get_or line at 0 ≡ 91 → ⊥) (n : get_or line at 0 ≡ 123 → ⊥) where
    pub scalar_is : value levels (drop at line) ≡ scalar (drop at line)
    unfolding value_of scalar
    scalar_is = read ∙ otherwise _ (ne_eqb _ 123 n) (otherwise _ (ne_eqb _ 91 m) refl) ∙ ap scalar (sym (byte_at line at value-below))

    pub scalar-good : Good line at (scalar (drop at line))
    scalar-good = record { what = g.what; rest = g.rest; within = g.within; is = sym scalar_is ∙ g.is }

    pub scalar-counted : {t u : Tally} {e : ℕ} → CountedTo line at t u e (scalar (drop at line)) counted → CountedTo line at t u e (value levels (drop at line)) counted
    scalar-counted p = record { from = p.from; within = p.within; is = λ what rest f. p.is what rest (sym scalar_is ∙ f); adds = λ what rest f. p.adds what rest (sym scalar_is ∙ f) }

  -- ---- an object or a form

  module _ (q : get_or line at 0 ≡ 123) where
    pub braced-is : value levels (drop at line) ≡ braced_read (levels - 1) (drop (at + 1) line)
    unfolding value_of braced_read
    braced-is = read ∙ yes _ (eq-eqb _ _ q)

    pub braced-good : Good line (at + 1) (braced_read (levels - 1) (drop (at + 1) line))
    braced-good = record { what = g.what; rest = g.rest; within = omega (arith, value-below); is = sym braced-is ∙ g.is }

    pub braced-counted : {t u : Tally} {e : ℕ} → CountedTo line (at + 1) t u e (braced_read (levels - 1) (drop (at + 1) line)) counted → CountedTo line at t u e (value levels (drop at line)) counted
    braced-counted p = record { from = omega (arith, p.from); within = p.within; is = λ what rest f. p.is what rest (sym braced-is ∙ f); adds = λ what rest f. p.adds what rest (sym braced-is ∙ f) }

module _ (levels : ℕ) {line : List ℕ} {at : ℕ} {x : Form} (g : Good line at (braced_read levels (drop at line))) (k : x ≡ form (drop at line)) where
  module _ (z : x ≡ Plain) where
    pub object-is : braced_read levels (drop at line) ≡ mapped (λ ms. Object (member_parts ms)) (object_read levels (drop at line))
    unfolding braced braced_read object_read
    object-is = ap (λ (y : Form). braced (value levels) y (drop at line)) (sym k ∙ z) ∙ mapped-twice (object (λ n. true) (λ n s. value levels s) (drop at line))

    pub object-good : Good line at (object_read levels (drop at line))
    object-good = good-from (λ ms. Object (member_parts ms)) object-is g.within g

    pub object-counted : {t u : Tally} {e : ℕ} → CountedTo line at t u e (object_read levels (drop at line)) object_size → CountedTo line at t u e (braced_read levels (drop at line)) counted
    unfolding counted
    object-counted p = counted-from (λ ms. Object (member_parts ms)) object-is (omega arith) (λ a. refl) p

  form-counts : (y : Bool) {t u : Tally} {e : ℕ} → braced_read levels (drop at line) ≡ form_read y (drop at line) → CountedTo line at t u e (form_read y (drop at line)) counted → CountedTo line at t u e (braced_read levels (drop at line)) counted
  form-counts y q p = record { from = p.from; within = p.within; is = λ what rest f. p.is what rest (sym q ∙ f); adds = λ what rest f. p.adds what rest (sym q ∙ f) }

  module _ (z : x ≡ Entity) where
    pub entity-is : braced_read levels (drop at line) ≡ form_read false (drop at line)
    unfolding braced braced_read form_read
    entity-is = ap (λ (y : Form). braced (value levels) y (drop at line)) (sym k ∙ z)

    pub entity-good : Good line at (form_read false (drop at line))
    entity-good = record { what = g.what; rest = g.rest; within = g.within; is = sym entity-is ∙ g.is }

    pub entity-counted : {t u : Tally} {e : ℕ} → CountedTo line at t u e (form_read false (drop at line)) counted → CountedTo line at t u e (braced_read levels (drop at line)) counted
    entity-counted p = form-counts false entity-is p

  module _ (z : x ≡ Extension) where
    pub extension-is : braced_read levels (drop at line) ≡ form_read true (drop at line)
    unfolding braced braced_read form_read
    extension-is = ap (λ (y : Form). braced (value levels) y (drop at line)) (sym k ∙ z)

    pub extension-good : Good line at (form_read true (drop at line))
    extension-good = record { what = g.what; rest = g.rest; within = g.within; is = sym extension-is ∙ g.is }

    pub extension-counted : {t u : Tally} {e : ℕ} → CountedTo line at t u e (form_read true (drop at line)) counted → CountedTo line at t u e (braced_read levels (drop at line)) counted
    extension-counted p = form-counts true extension-is p
