-- What a value's first byte says, and values that are told by it
use Rattle.std.specs.Prelude.{Result, Ok, Err}
use mathlib.Core.Path.{◌≡◌, refl, sym, ap, ◌∙◌}
use mathlib.Core.Bool.{Bool, true, false, not}
use mathlib.Core.List.{List, [], ◌∷◌}
use Prim.Native.Nat.{ℕ, ◌+◌, ◌<◌, ◌≤◌}
use native.Mathlib.Omega.{arith}
use lib.Dec.{eqb}
use lib.ListN.{length, drop, get_or, drop_of_length-le}
use borrow.Author.Tests.{eq-eqb, ne_eqb, not-true, not-false}
use Rattle.meaning.specs.Tests.{◌and◌, ◌or◌, choose}
use Rattle.laws.specs.Tests.{yes, no as otherwise}
use Rattle.jsontext.specs.declared.Fault.{Fault}
use Rattle.jsontext.specs.declared.Fault.TheVariants.{NotJson, BadField}
use Rattle.jsontext.specs.declared.Form.{Form}
use Rattle.jsontext.specs.declared.Form.TheVariants.{Plain, Entity, Extension}
use Rattle.jsontext.specs.declared.Side.TheVariants.{Outside}
use Rattle.jsontext.specs.declared.Bad.{Bad}
use Rattle.jsontext.specs.Reading.{Read, got, fault, then, no, blanks, want, wrong}
use Rattle.jsontext.specs.Strings.{string}
use Rattle.jsontext.specs.Values.{numeral, begins, due, text, J, spelt, closes_first, form_named, form_after, form, __entity, __extn}
use Rattle.jsontext.specs.Events.{comma, closing}
use Rattle.jsonread.specs.Told.{Told, Blanks}
use Rattle.jsonread.specs.Ahead.{NamedTold, only_form}
use Rattle.jsonread.specs.Spelling.{WordTold}
use Rattle.jsonread.proofs.Places.{byte_at, told_at, told_bad, wrong-here, told_of, fault-then, then_is}

-- ---- the first byte

module _ (c : ℕ) where
  pub first-brace : c ≡ 123 → true ≡ begins c
  unfolding begins ◌or◌
  first-brace e = rw e refl

  pub first-bracket : c ≡ 91 → true ≡ begins c
  unfolding begins ◌or◌
  first-bracket e = rw e refl

  pub first-quote : c ≡ 34 → true ≡ begins c
  unfolding begins ◌or◌
  first-quote e = rw e refl

  pub first_t : c ≡ 116 → true ≡ begins c
  unfolding begins ◌or◌
  first_t e = rw e refl

  pub first-f : c ≡ 102 → true ≡ begins c
  unfolding begins ◌or◌
  first-f e = rw e refl

  pub first-n : c ≡ 110 → true ≡ begins c
  unfolding begins ◌or◌
  first-n e = rw e refl

  pub first-other : {z : Bool} → (c ≡ 123 → ⊥) → (c ≡ 91 → ⊥) → (c ≡ 34 → ⊥) → (c ≡ 116 → ⊥) → (c ≡ 102 → ⊥) → (c ≡ 110 → ⊥) → z ≡ numeral c → z ≡ begins c
  unfolding begins ◌or◌
  first-other a b d e f g q = rw (ne_eqb c 123 a, ne_eqb c 91 b, ne_eqb c 34 d, ne_eqb c 116 e, ne_eqb c 102 f, ne_eqb c 110 g) q

  pub instead_begins : {z : Bool} {w : Fault} → z ≡ begins c → z ≡ true → w ≡ choose (begins c) w NotJson
  instead_begins q e = sym (yes _ (sym q ∙ e))

  pub instead_none : {z : Bool} (w : Fault) → z ≡ begins c → z ≡ false → NotJson ≡ choose (begins c) w NotJson
  instead_none w q e = sym (otherwise _ (sym q ∙ e) refl)

-- ---- a value that is due

module _ {A : Type 0} (w : Fault) (right : ℕ → Bool) (read : List ℕ → Read A) (line : List ℕ) (at : ℕ) where
  pub due-end : at ≤ length line → length line ≤ at → Told line at (Err (wrong NotJson at)) (due w right read (drop at line))
  unfolding due
  due-end h l = wrong-here h (rw (drop_of_length-le line l))

  module _ (h : at < length line) where
    due-byte : due w right read (drop at line) ≡ choose (right (get_or line at 0)) (read (drop at line)) (choose (begins (get_or line at 0)) (no w (drop at line)) (no NotJson (drop at line)))
    unfolding due
    due-byte = rw (byte_at line at h)

    pub due-right : {r : Result ℕ Bad} → right (get_or line at 0) ≡ true → Told line at r (read (drop at line)) → Told line at r (due w right read (drop at line))
    due-right e t = told_of (omega arith) (due-byte ∙ yes _ e) t

    due-wrong : (b : Bool) {f : Fault} → f ≡ choose b w NotJson → choose b (no {A = A} w (drop at line)) (no NotJson (drop at line)) ≡ no f (drop at line)
    unfolding choose
    due-wrong true e = rw e refl
    due-wrong false e = rw e refl

    pub due-other : {f : Fault} → right (get_or line at 0) ≡ false → f ≡ choose (begins (get_or line at 0)) w NotJson → Told line at (Err (wrong f at)) (due w right read (drop at line))
    due-other e q = wrong-here (omega arith) (due-byte ∙ otherwise _ e (due-wrong (begins (get_or line at 0)) q))

-- by one byte
module _ {A : Type 0} (w : Fault) (b : ℕ) (read : List ℕ → Read A) (line : List ℕ) (at : ℕ) (h : at < length line) where
  pub due-there : {r : Result ℕ Bad} → get_or line at 0 ≡ b → Told line at r (read (drop at line)) → Told line at r (due w (λ c. eqb c b) read (drop at line))
  due-there e t = due-right w (λ c. eqb c b) read line at h (eq-eqb _ _ e) t

  pub due-not : {f : Fault} → (get_or line at 0 ≡ b → ⊥) → f ≡ choose (begins (get_or line at 0)) w NotJson → Told line at (Err (wrong f at)) (due w (λ c. eqb c b) read (drop at line))
  due-not n q = due-other w (λ c. eqb c b) read line at h (ne_eqb _ _ n) q

-- a string
module _ (line : List ℕ) (at : ℕ) (h : at < length line) where
  pub text-there : {r : Result ℕ Bad} → get_or line at 0 ≡ 34 → Told line at r (string (drop at line)) → Told line at r (text (drop at line))
  text-there e t = due-there BadField 34 string line at h e t

  pub text-not : {f : Fault} → (get_or line at 0 ≡ 34 → ⊥) → f ≡ choose (begins (get_or line at 0)) BadField NotJson → Told line at (Err (wrong f at)) (text (drop at line))
  text-not n q = due-not BadField 34 string line at h n q

-- by a test
module _ {A : Type 0} (w : Fault) (right : ℕ → Bool) (read : List ℕ → Read A) {z : Bool} (line : List ℕ) (at : ℕ) (h : at < length line) (k : z ≡ right (get_or line at 0)) where
  pub due-yes : {r : Result ℕ Bad} → z ≡ true → Told line at r (read (drop at line)) → Told line at r (due w right read (drop at line))
  due-yes e t = due-right w right read line at h (sym k ∙ e) t

  pub due-no : {f : Fault} → z ≡ false → f ≡ choose (begins (get_or line at 0)) w NotJson → Told line at (Err (wrong f at)) (due w right read (drop at line))
  due-no e q = due-other w right read line at h (sym k ∙ e) q

-- ---- a word

pub record Spelling (line : List ℕ) (at : ℕ) (word : List ℕ) (i k : ℕ) : Type 0 where
  pub from : at ≤ k
  pub within : k ≤ length line
  pub goes : (j : J) → spelt (drop i word) j (drop k line) ≡ spelt word j (drop at line)

pub spelt-start : {line word : List ℕ} {at : ℕ} → at ≤ length line → Spelling line at word 0 at
spelt-start h = record { from = omega arith; within = h; goes = λ j. refl }

spelt-wants : (b : ℕ) (bs : List ℕ) (j : J) (s : List ℕ) → spelt (b ∷ bs) j s ≡ then (want b s) (λ c rest. spelt bs j rest)
unfolding spelt
spelt-wants b bs j s = refl

spelt-ends : (j : J) (s : List ℕ) → spelt [] j s ≡ got j s
unfolding spelt
spelt-ends j s = refl

module _ {line word : List ℕ} {at i k : ℕ} (g : Spelling line at word i k) where
  pub spelt-done : length word ≤ i → (j : J) → Told line at (Ok k) (spelt word j (drop at line))
  spelt-done h j = told_at (record { what = j; from = g.from; within = g.within; is = sym (g.goes j) ∙ ap (λ (w : List ℕ). spelt w j (drop k line)) (drop_of_length-le word h) ∙ spelt-ends j (drop k line) })

  module _ (h : i < length word) where
    wants : (j : J) → spelt word j (drop at line) ≡ then (want (get_or word i 0) (drop k line)) (λ c rest. spelt (drop (i + 1) word) j rest)
    wants j = sym (g.goes j) ∙ ap (λ (w : List ℕ). spelt w j (drop k line)) (byte_at word i h) ∙ spelt-wants (get_or word i 0) (drop (i + 1) word) j (drop k line)

    module _ {x : Result ℕ Bad} (t : Told line k x (want (get_or word i 0) (drop k line))) where
      pub spelt_bad : {b : Bad} → x ≡ Err b → (j : J) → Told line at (Err b) (spelt word j (drop at line))
      spelt_bad e j = told_of g.from (wants j) (told_bad (fault-then (λ c rest. spelt (drop (i + 1) word) j rest) (t.faulty _ e)))

      pub spelt-within : {e : ℕ} → x ≡ Ok e → e ≤ length line
      spelt-within q = (t.stands _ q).within

      pub spelt-more : {e : ℕ} → x ≡ Ok e → Spelling line at word (i + 1) e
      spelt-more q =
          let s = t.stands _ q in
          record { from = omega (arith, g.from, s.from); within = s.within; goes = λ j. sym (wants j ∙ then_is (λ c rest. spelt (drop (i + 1) word) j rest) s.is) }

-- ---- between and after an entity's items

module _ (line : List ℕ) (at : ℕ) where
  pub comma-end : at ≤ length line → length line ≤ at → Told line at (Err (wrong NotJson at)) (comma (drop at line))
  unfolding comma
  comma-end h l = wrong-here h (rw (drop_of_length-le line l))

  pub closing_end : at ≤ length line → length line ≤ at → Told line at (Err (wrong NotJson at)) (closing (drop at line))
  unfolding closing
  closing_end h l = wrong-here h (rw (drop_of_length-le line l))

  module _ (h : at < length line) where
    comma-byte : comma (drop at line) ≡ choose (eqb (get_or line at 0) 93) (no BadField (drop at line)) (want 44 (drop at line))
    unfolding comma
    comma-byte = rw (byte_at line at h)

    pub comma-early : get_or line at 0 ≡ 93 → Told line at (Err (wrong BadField at)) (comma (drop at line))
    comma-early e = wrong-here (omega arith) (comma-byte ∙ yes _ (eq-eqb _ _ e))

    pub comma-due : {r : Result ℕ Bad} → (get_or line at 0 ≡ 93 → ⊥) → Told line at r (want 44 (drop at line)) → Told line at r (comma (drop at line))
    comma-due n t = told_of (omega arith) (comma-byte ∙ otherwise _ (ne_eqb _ _ n) refl) t

    closing-byte : closing (drop at line) ≡ choose (eqb (get_or line at 0) 44) (no BadField (drop at line)) (want 93 (drop at line))
    unfolding closing
    closing-byte = rw (byte_at line at h)

    pub closing_late : get_or line at 0 ≡ 44 → Told line at (Err (wrong BadField at)) (closing (drop at line))
    closing_late e = wrong-here (omega arith) (closing-byte ∙ yes _ (eq-eqb _ _ e))

    pub closing-due : {r : Result ℕ Bad} → (get_or line at 0 ≡ 44 → ⊥) → Told line at r (want 93 (drop at line)) → Told line at r (closing (drop at line))
    closing-due n t = told_of (omega arith) (closing-byte ∙ otherwise _ (ne_eqb _ _ n) refl) t

-- ---- Cedar's forms

module _ (line : List ℕ) (at : ℕ) {x : Bool} (t : WordTold line at __entity x) where
  pub named-entity : x ≡ true → NamedTold line at Entity
  unfolding form_named
  named-entity e n rest q = sym (yes _ (sym (t n rest q) ∙ e))

  module _ (e : x ≡ false) {y : Bool} (u : WordTold line at __extn y) where
    pub named-extension : y ≡ true → NamedTold line at Extension
    unfolding form_named
    named-extension f n rest q = sym (otherwise _ (sym (t n rest q) ∙ e) (yes _ (sym (u n rest q) ∙ f)))

    pub named-plain : y ≡ false → NamedTold line at Plain
    unfolding form_named
    named-plain f n rest q = sym (otherwise _ (sym (t n rest q) ∙ e) (otherwise _ (sym (u n rest q) ∙ f) refl))

abbrev form_by : Read (List ℕ) → Form
form_by m = elim m [ got n rest ↦ form_after n (blanks rest) | fault w left first ↦ Plain ]

form-is : (s t : List ℕ) → t ≡ blanks s → form s ≡ form_by (string t)
unfolding form
form-is s t e = ap (λ (t : List ℕ). form_by (string t)) (sym e)

form-after : (n s : List ℕ) → form_after n s ≡ only_form (form_named n) s
unfolding form_after only_form
form-after n [] = refl
form-after n (c ∷ s) = refl

only-plain : (s : List ℕ) → only_form Plain s ≡ Plain
unfolding only_form choose
only-plain [] = refl
only-plain (c ∷ s) =
    go (eqb c 58 and closes_first Outside 0 s)
  where
    go : (x : Bool) → choose x Plain Plain ≡ Plain
    go true = refl
    go false = refl

module _ {line : List ℕ} {at name : ℕ} {x : Result ℕ Bad} (b : Blanks line at name) (t : Told line name x (string (drop name line))) where
  pub form_bad : {b : Bad} → x ≡ Err b → Plain ≡ form (drop at line)
  form_bad e = sym (form-is (drop at line) (drop name line) b.is ∙ ap form_by (t.faulty _ e).is)

  module _ {end : ℕ} {y : Form} (e : x ≡ Ok end) (u : NamedTold line name y) where
    form-read : form (drop at line) ≡ only_form y (blanks (drop end line))
    form-read =
        form-is (drop at line) (drop name line) b.is ∙ ap form_by (t.stands _ e).is ∙ form-after (t.stands _ e).what (blanks (drop end line))
        ∙ ap (λ (f : Form). only_form f (blanks (drop end line))) (sym (u _ _ (t.stands _ e).is))

    pub form-plain : y ≡ Plain → Plain ≡ form (drop at line)
    form-plain q = sym (form-read ∙ ap (λ (f : Form). only_form f (blanks (drop end line))) q ∙ only-plain (blanks (drop end line)))

    pub form-named : {f r : Form} → y ≡ f → r ≡ only_form f (blanks (drop end line)) → r ≡ form (drop at line)
    form-named q k = k ∙ sym (form-read ∙ ap (λ (f : Form). only_form f (blanks (drop end line))) q)

module _ {line : List ℕ} {end colon : ℕ} (f : Form) (k : Blanks line end colon) where
  pub only_end : length line ≤ colon → Plain ≡ only_form f (blanks (drop end line))
  unfolding only_form
  only_end l = sym (ap (only_form f) (sym k.is) ∙ rw (drop_of_length-le line l))

  module _ (h : colon < length line) where
    after-byte : only_form f (blanks (drop end line)) ≡ choose (eqb (get_or line colon 0) 58 and closes_first Outside 0 (drop (colon + 1) line)) f Plain
    unfolding only_form
    after-byte = ap (only_form f) (sym k.is) ∙ rw (byte_at line colon h)

    pub only-other : (get_or line colon 0 ≡ 58 → ⊥) → Plain ≡ only_form f (blanks (drop end line))
    unfolding ◌and◌
    only-other n = sym (after-byte ∙ otherwise _ (rw (ne_eqb (get_or line colon 0) 58 n)) refl)

    module _ (q : get_or line colon 0 ≡ 58) {z : Bool} (y : z ≡ closes_first Outside 0 (drop (colon + 1) line)) where
      tested : (eqb (get_or line colon 0) 58 and closes_first Outside 0 (drop (colon + 1) line)) ≡ z
      unfolding ◌and◌
      tested = rw (eq-eqb (get_or line colon 0) 58 q) (sym y)

      pub only-more : not z ≡ true → Plain ≡ only_form f (blanks (drop end line))
      only-more n = sym (after-byte ∙ otherwise _ (tested ∙ not-true z n) refl)

      pub only-there : not z ≡ false → f ≡ only_form f (blanks (drop end line))
      only-there n = sym (after-byte ∙ yes _ (tested ∙ not-false z n))
