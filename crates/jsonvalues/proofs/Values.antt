-- A value by its first byte, and an object that must be no form
use Rattle.std.specs.Prelude.{Result, Ok, Err}
use mathlib.Core.Path.{◌≡◌, refl, sym, ap, ◌∙◌}
use mathlib.Core.Bool.{true, false}
use mathlib.Core.List.{List, [], ◌∷◌}
use Prim.Native.Nat.{ℕ, zero, suc, ◌+◌, ◌-◌, ◌<◌, ◌≤◌}
use native.Mathlib.Omega.{arith}
use lib.Dec.{eqb}
use lib.ListN.{length, drop, get_or, drop_of_length-le}
use borrow.Author.Tests.{eq-eqb, ne_eqb}
use Rattle.meaning.specs.Tests.{choose}
use Rattle.laws.specs.Tests.{yes, no as otherwise}
use Rattle.jsontext.specs.declared.Fault.{Fault}
use Rattle.jsontext.specs.declared.Fault.TheVariants.{NotJson, BadField, TooDeep}
use Rattle.jsontext.specs.declared.Form.{Form}
use Rattle.jsontext.specs.declared.Form.TheVariants.{Plain, Entity, Extension}
use Rattle.jsontext.specs.declared.Bad.{Bad}
use Rattle.jsontext.specs.Reading.{Read, got, then, no, mapped, want, wrong}
use Rattle.jsontext.specs.Values.{J, Array, Object, Parts, begins, due, array, item_parts, member_parts, form, plain, braced, value_of, value, bare, fields}
use Rattle.jsonread.specs.Told.{Told}
use Rattle.jsonread.proofs.Places.{byte_at, wrong-here, told_of, then_is}
use Rattle.jsonread.proofs.Chars.{told_more}
use Rattle.jsonread.proofs.Firsts.{due-end, due-there, due-not, due-other}
use Rattle.jsonparts.specs.Flat.{scalar}
use Rattle.jsonpairs.specs.Pairs.{only_of}
use Rattle.jsonkeys.specs.Keys.{Passed}
use Rattle.jsonkeys.proofs.Cells.{below_self}
use Rattle.jsonvalues.specs.Values.{members_of}

-- what was told with the cells as they were
plainly : {A : Type 0} {line names : List ℕ} {used at : ℕ} {r : Result ℕ Bad} {m : Read A} → Told line at r m → Passed line names names used at r m
plainly t = record { told = t; below = below_self }

-- and of an equal reading, or from an earlier place
passed_of : {A B : Type 0} {line names last : List ℕ} {used at i : ℕ} {r : Result ℕ Bad} {m : Read A} {n : Read B} (f : B → A) → at ≤ i → m ≡ mapped f n → Passed line names last used i r n → Passed line names last used at r m
passed_of f h q p = record { told = told_of h q (told_more f p.told); below = p.below }

pub value-within : {line names last : List ℕ} {used at e : ℕ} (levels : ℕ) {r : Result ℕ Bad} → r ≡ Ok e → Passed line names last used at r (value levels (drop at line)) → e ≤ length line
value-within levels q p = (p.told.stands _ q).within

deep_is : (levels : ℕ) (s : List ℕ) → levels ≡ 0 → value levels s ≡ due TooDeep (λ c. false) (λ t. no NotJson t) s
unfolding value
deep_is levels s e = rw e

level_is : (levels : ℕ) (s : List ℕ) → (levels ≡ 0 → ⊥) → value levels s ≡ value_of (λ t. value (levels - 1) t) s
unfolding value
level_is zero s n = absurd (n refl)
level_is (suc levels) s n = ap (λ (l : ℕ). value_of (λ t. value l t) s) (let z : levels ≡ suc levels - 1 = omega arith in z)

none_left : (levels : ℕ) → value levels [] ≡ no NotJson []
unfolding value due value_of
none_left zero = refl
none_left (suc levels) = refl

braced-plain : (levels : ℕ) (s : List ℕ) {z : Form} → z ≡ form s → z ≡ Plain → braced (λ t. value levels t) (form s) s ≡ mapped Object (mapped member_parts (members_of levels s))
unfolding braced members_of
braced-plain levels s q e = ap (λ (f : Form). braced (λ t. value levels t) f s) (sym q ∙ e)

braced-entity : (inner : List ℕ → Read J) (s : List ℕ) {z : Form} → z ≡ form s → z ≡ Entity → braced inner (form s) s ≡ only_of false s
unfolding braced only_of
braced-entity inner s q e = ap (λ (f : Form). braced inner f s) (sym q ∙ e)

braced-extension : (inner : List ℕ → Read J) (s : List ℕ) {z : Form} → z ≡ form s → z ≡ Extension → braced inner (form s) s ≡ only_of true s
unfolding braced only_of
braced-extension inner s q e = ap (λ (f : Form). braced inner f s) (sym q ∙ e)

by_byte : (inner : List ℕ → Read J) (c : ℕ) (s : List ℕ) → value_of inner (c ∷ s) ≡ choose (eqb c 123) (braced inner (form s) s) (choose (eqb c 91) (mapped (λ js. Array (item_parts js)) (array inner s)) (scalar (c ∷ s)))
unfolding value_of scalar
by_byte inner c s = refl

module _ (line names : List ℕ) (used at levels : ℕ) where
  pub value-end : at ≤ length line → length line ≤ at → Passed line names names used at (Err (wrong NotJson at)) (value levels (drop at line))
  value-end h l = plainly (wrong-here h (ap (value levels) (drop_of_length-le line l) ∙ none_left levels ∙ ap (λ (s : List ℕ). no NotJson s) (sym (drop_of_length-le line l))))

  module _ (h : at < length line) where
    pub value-deep : {w : Fault} → levels ≡ 0 → w ≡ choose (begins (get_or line at 0)) TooDeep NotJson → Passed line names names used at (Err (wrong w at)) (value levels (drop at line))
    value-deep e q = plainly (told_of {i = at} (omega arith) (deep_is levels (drop at line) e) (due-other TooDeep (λ c. false) (λ t. no NotJson t) line at h refl q))

    module _ (n : levels ≡ 0 → ⊥) where
      abbrev inner : List ℕ → Read J
      inner t = value (levels - 1) t

      value-byte : value levels (drop at line) ≡ choose (eqb (get_or line at 0) 123) (braced inner (form (drop (at + 1) line)) (drop (at + 1) line)) (choose (eqb (get_or line at 0) 91) (mapped (λ js. Array (item_parts js)) (array inner (drop (at + 1) line))) (scalar (drop at line)))
      value-byte = level_is levels (drop at line) n ∙ rw (byte_at line at h) (by_byte inner (get_or line at 0) (drop (at + 1) line))

      pub value-array : {r : Result ℕ Bad} {last : List ℕ} → get_or line at 0 ≡ 91 → Passed line names last used (at + 1) r (array (λ t. value (levels - 1) t) (drop (at + 1) line)) → Passed line names last used at r (value levels (drop at line))
      value-array e p = passed_of {i = at + 1} (λ js. Array (item_parts js)) (omega arith) (value-byte ∙ otherwise _ (ne_eqb (get_or line at 0) 123 (λ z. omega (arith, z, e))) (yes _ (eq-eqb _ _ e))) p

      module _ (a : get_or line at 0 ≡ 91 → ⊥) where
        pub value-scalar : {r : Result ℕ Bad} → (get_or line at 0 ≡ 123 → ⊥) → Told line at r (scalar (drop at line)) → Passed line names names used at r (value levels (drop at line))
        value-scalar b t = plainly (told_of {i = at} (omega arith) (value-byte ∙ otherwise _ (ne_eqb _ _ b) (otherwise _ (ne_eqb _ _ a) refl)) t)

        module _ (b : get_or line at 0 ≡ 123) {z : Form} (q : z ≡ form (drop (at + 1) line)) where
          value-braced : value levels (drop at line) ≡ braced inner (form (drop (at + 1) line)) (drop (at + 1) line)
          value-braced = value-byte ∙ yes _ (eq-eqb _ _ b)

          pub value-object : {r : Result ℕ Bad} {last : List ℕ} → z ≡ Plain → Passed line names last used (at + 1) r (members_of (levels - 1) (drop (at + 1) line)) → Passed line names last used at r (value levels (drop at line))
          value-object e p = passed_of {i = at + 1} Object (omega arith) (value-braced ∙ braced-plain (levels - 1) (drop (at + 1) line) q e) (passed_of {i = at + 1} member_parts (omega arith) refl p)

          pub value-entity : {r : Result ℕ Bad} → z ≡ Entity → Told line (at + 1) r (only_of false (drop (at + 1) line)) → Passed line names names used at r (value levels (drop at line))
          value-entity e t = plainly (told_of {i = at + 1} (omega arith) (value-braced ∙ braced-entity inner (drop (at + 1) line) q e) t)

          pub value-extension : {r : Result ℕ Bad} → z ≡ Extension → Told line (at + 1) r (only_of true (drop (at + 1) line)) → Passed line names names used at r (value levels (drop at line))
          value-extension e t = plainly (told_of {i = at + 1} (omega arith) (value-braced ∙ braced-extension inner (drop (at + 1) line) q e) t)

-- ---- an object that must be no form

abbrev read_fields : List ℕ → Read Parts
read_fields t = then (want 123 t) (λ brace rest. bare (λ u. value 31 u) (form rest) t)

fields-is : (s : List ℕ) → fields 31 s ≡ due BadField (λ c. eqb c 123) read_fields s
unfolding fields
fields-is s = refl

wanted : (line : List ℕ) (at : ℕ) → at < length line → get_or line at 0 ≡ 123 → want 123 (drop at line) ≡ got (get_or line at 0) (drop (at + 1) line)
unfolding want
wanted line at h e = rw (byte_at line at h) (yes _ (eq-eqb _ _ e))

bare-plain : (inner : List ℕ → Read J) (f : Form) (s : List ℕ) → f ≡ Plain → bare inner f s ≡ then (want 123 s) (λ brace rest. plain inner rest)
unfolding bare
bare-plain inner f s e = rw e

bare-entity : (inner : List ℕ → Read J) (f : Form) (s : List ℕ) → f ≡ Entity → bare inner f s ≡ no BadField s
unfolding bare
bare-entity inner f s e = rw e

bare-extension : (inner : List ℕ → Read J) (f : Form) (s : List ℕ) → f ≡ Extension → bare inner f s ≡ no BadField s
unfolding bare
bare-extension inner f s e = rw e

module _ (line names : List ℕ) (used at : ℕ) where
  pub fields-end : at ≤ length line → length line ≤ at → Passed line names names used at (Err (wrong NotJson at)) (fields 31 (drop at line))
  fields-end h l = plainly (told_of {i = at} (omega arith) (fields-is (drop at line)) (due-end BadField (λ c. eqb c 123) read_fields line at h l))

  module _ (h : at < length line) where
    pub fields-not : {f : Fault} → (get_or line at 0 ≡ 123 → ⊥) → f ≡ choose (begins (get_or line at 0)) BadField NotJson → Passed line names names used at (Err (wrong f at)) (fields 31 (drop at line))
    fields-not n q = plainly (told_of {i = at} (omega arith) (fields-is (drop at line)) (due-not BadField 123 read_fields line at h n q))

    module _ (e : get_or line at 0 ≡ 123) {z : Form} (q : z ≡ form (drop (at + 1) line)) where
      read_is : read_fields (drop at line) ≡ bare (λ u. value 31 u) z (drop at line)
      read_is = then_is (λ brace rest. bare (λ u. value 31 u) (form rest) (drop at line)) (wanted line at h e) ∙ ap (λ (f : Form). bare (λ u. value 31 u) f (drop at line)) (sym q)

      there : {r : Result ℕ Bad} → Told line at r (read_fields (drop at line)) → Told line at r (fields 31 (drop at line))
      there t = told_of {i = at} (omega arith) (fields-is (drop at line)) (due-there BadField 123 read_fields line at h e t)

      fields-entity : z ≡ Entity → Passed line names names used at (Err (wrong BadField at)) (fields 31 (drop at line))
      fields-entity f = plainly (there (wrong-here (omega arith) (read_is ∙ bare-entity (λ u. value 31 u) z (drop at line) f)))

      fields-extension : z ≡ Extension → Passed line names names used at (Err (wrong BadField at)) (fields 31 (drop at line))
      fields-extension f = plainly (there (wrong-here (omega arith) (read_is ∙ bare-extension (λ u. value 31 u) z (drop at line) f)))

      pub fields-form : (z ≡ Plain → ⊥) → Passed line names names used at (Err (wrong BadField at)) (fields 31 (drop at line))
      fields-form n =
          go z refl
        where
          go : (y : Form) → z ≡ y → Passed line names names used at (Err (wrong BadField at)) (fields 31 (drop at line))
          go Plain f = absurd (n f)
          go Entity f = fields-entity f
          go Extension f = fields-extension f

      pub fields-plain : {r : Result ℕ Bad} {last : List ℕ} → z ≡ Plain → Passed line names last used (at + 1) r (members_of 31 (drop (at + 1) line)) → Passed line names last used at r (fields 31 (drop at line))
      unfolding members_of
      fields-plain f p =
          record {
            told = there (told_of {i = at + 1} (omega arith) (read_is ∙ bare-plain (λ u. value 31 u) z (drop at line) f ∙ then_is (λ brace rest. plain (λ u. value 31 u) rest) (wanted line at h e)) (told_more member_parts p.told));
            below = p.below;
          }
