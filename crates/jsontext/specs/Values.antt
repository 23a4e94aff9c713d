-- RFC 8259, sections 3 to 5: values, objects, arrays; Cedar's forms; readings J5, J8, J9, J11, J13 to J15
use Rattle.std.specs.Prelude.{Bool, true, false, not, List, [], ◌∷◌, ℕ, zero, suc, ℤ, eqb, length}
use Rattle.std.proofs.Math.Option.{Option, none, some}
use Rattle.meaning.specs.Tests.{◌and◌, ◌or◌, choose}
use Rattle.meaning.specs.Equal.{is_digit, same_list}
use Rattle.jsontext.specs.declared.Fault.{Fault}
use Rattle.jsontext.specs.declared.Fault.TheVariants.{NotJson, RepeatedName, BadField, TooDeep}
use Rattle.jsontext.specs.declared.Form.{Form}
use Rattle.jsontext.specs.declared.Form.TheVariants.{Plain, Entity, Extension}
use Rattle.jsontext.specs.declared.Side.{Side}
use Rattle.jsontext.specs.declared.Side.TheVariants.{Outside, Inside, Escaped}
use Rattle.jsontext.specs.Reading.{Read, got, fault, then, no, mapped, blanks, want}
use Rattle.jsontext.specs.Numbers.{number}
use Rattle.jsontext.specs.Strings.{string}

-- ---- what a value's first byte says

unfoldable pub numeral : ℕ → Bool
numeral c = eqb c 45 or is_digit c

unfoldable pub begins : ℕ → Bool
begins c = eqb c 123 or eqb c 91 or eqb c 34 or eqb c 116 or eqb c 102 or eqb c 110 or numeral c

-- a value that must begin so is read; one that begins otherwise is wrong by w; what begins no value is no JSON
unfoldable pub due : {A : Type 0} → Fault → (ℕ → Bool) → (List ℕ → Read A) → List ℕ → Read A
due w right read [] = no NotJson []
due w right read (c ∷ s) = choose (right c) (read (c ∷ s)) (choose (begins c) (no w (c ∷ s)) (no NotJson (c ∷ s)))

-- a string, and nothing else
abbrev pub text : List ℕ → Read (List ℕ)
text s = due BadField (λ c. eqb c 34) string s

-- ---- section 5: arrays

-- after a part: the closing bracket ends; after a comma, more parts follow
unfoldable pub after_part : {A : Type 0} → ℕ → A → (List ℕ → Read (List A)) → List ℕ → Read (List A)
after_part close a more [] = no NotJson []
after_part close a more (c ∷ s) =
    choose (eqb c close) (got (a ∷ []) s)
    (choose (eqb c 44) (mapped (λ others. a ∷ others) (more (blanks s))) (no NotJson (c ∷ s)))

-- value *( value-separator value ) end-array; each turn takes a byte at least
unfoldable pub items : {A : Type 0} → (List ℕ → Read A) → ℕ → List ℕ → Read (List A)
items item zero s = no NotJson s
items item (suc turns) s = then (item s) λ a rest. after_part 93 a (λ t. items item turns t) (blanks rest)

-- nothing, if the closing bracket follows; else the parts
unfoldable pub unless_empty : {A : Type 0} → ℕ → (List ℕ → Read (List A)) → List ℕ → Read (List A)
unless_empty close parts [] = no NotJson []
unless_empty close parts (c ∷ s) = choose (eqb c close) (got [] s) (parts (c ∷ s))

-- array = begin-array [ value *( value-separator value ) ] end-array, after the bracket
unfoldable pub array : {A : Type 0} → (List ℕ → Read A) → List ℕ → Read (List A)
array item s = unless_empty 93 (λ t. items item (suc (length t)) t) (blanks s)

-- ---- section 4: objects

-- a name that was read, unescaped, and how many bytes were left at its quotation mark
pub record Name : Type 0 where
  pub name : List ℕ
  pub left : ℕ

-- where a name was read before
unfoldable pub before : List ℕ → List Name → Option ℕ
before n [] = none
before n (m ∷ ms) = choose (same_list m.name n) (some m.left) (before n ms)

-- after a name: 21 if it was read before, 23 if it is unknown, else a colon
unfoldable pub after_name : (List ℕ → Bool) → List Name → Name → List ℕ → Read ℕ
after_name known seen n s =
    elim (before n.name seen) [
      | some first ↦ fault RepeatedName n.left first
      | none ↦ choose (known n.name) (want 58 s) (fault BadField n.left n.left)
    ]

-- member *( value-separator member ) end-object, member = string name-separator value; each turn takes a byte at least
unfoldable pub members : {A : Type 0} → (List ℕ → Bool) → (List ℕ → List ℕ → Read A) → ℕ → List Name → List ℕ → Read (List (List ℕ × A))
members known item zero seen s = no NotJson s
members known item (suc turns) seen s =
    then (string s) λ n rest.
    then (after_name known seen (record { name = n; left = length s }) (blanks rest)) λ colon rest.
    then (item n (blanks rest)) λ a rest.
    after_part 125 (n, a) (λ t. members known item turns (record { name = n; left = length s } ∷ seen) t) (blanks rest)

-- object = begin-object [ member *( value-separator member ) ] end-object, after the brace
unfoldable pub object : {A : Type 0} → (List ℕ → Bool) → (List ℕ → List ℕ → Read A) → List ℕ → Read (List (List ℕ × A))
object known item s = unless_empty 125 (λ t. members known item (suc (length t)) [] t) (blanks s)

-- the member of a name
unfoldable pub member_of : {A : Type 0} → List ℕ → List (List ℕ × A) → Option A
member_of n [] = none
member_of n (m ∷ ms) = choose (same_list m.0 n) (some m.1) (member_of n ms)

-- ---- values

mutual
  pub data J : Type 0 where
    Null : J
    Truth : Bool → J
    Int : ℤ → J
    Text : List ℕ → J
    EntityOf : List ℕ → List ℕ → J
    Decimal : List ℕ → J
    Array : Parts → J
    Object : Parts → J

  -- items, with empty names, or members
  pub data Parts : Type 0 where
    end : Parts
    part : List ℕ → J → Parts → Parts

unfoldable pub item_parts : List J → Parts
item_parts [] = end
item_parts (j ∷ js) = part [] j (item_parts js)

unfoldable pub member_parts : List (List ℕ × J) → Parts
member_parts [] = end
member_parts (m ∷ ms) = part m.0 m.1 (member_parts ms)

-- ---- Cedar's forms

-- __entity, type, id; __extn, fn, arg, decimal
abbrev pub __entity : List ℕ
__entity = 95 ∷ 95 ∷ 101 ∷ 110 ∷ 116 ∷ 105 ∷ 116 ∷ 121 ∷ []

abbrev pub «type» : List ℕ
«type» = 116 ∷ 121 ∷ 112 ∷ 101 ∷ []

abbrev pub «id» : List ℕ
«id» = 105 ∷ 100 ∷ []

abbrev pub __extn : List ℕ
__extn = 95 ∷ 95 ∷ 101 ∷ 120 ∷ 116 ∷ 110 ∷ []

abbrev pub «fn» : List ℕ
«fn» = 102 ∷ 110 ∷ []

abbrev pub «arg» : List ℕ
«arg» = 97 ∷ 114 ∷ 103 ∷ []

abbrev pub «decimal» : List ℕ
«decimal» = 100 ∷ 101 ∷ 99 ∷ 105 ∷ 109 ∷ 97 ∷ 108 ∷ []

-- J15: is the first comma or closing bracket outside all strings and brackets a closing brace? So many brackets are open
unfoldable pub closes_first : Side → ℕ → List ℕ → Bool
closes_first side depth [] = false
closes_first Escaped depth (c ∷ s) = closes_first Inside depth s
closes_first Inside depth (c ∷ s) = choose (eqb c 34) (closes_first Outside depth s) (choose (eqb c 92) (closes_first Escaped depth s) (closes_first Inside depth s))
closes_first Outside zero (c ∷ s) =
    choose (eqb c 34) (closes_first Inside 0 s)
    (choose (eqb c 123 or eqb c 91) (closes_first Outside 1 s)
    (choose (eqb c 125 or eqb c 93 or eqb c 44) (eqb c 125) (closes_first Outside 0 s)))
closes_first Outside (suc depth) (c ∷ s) =
    choose (eqb c 34) (closes_first Inside (suc depth) s)
    (choose (eqb c 123 or eqb c 91) (closes_first Outside (suc (suc depth)) s)
    (choose (eqb c 125 or eqb c 93) (closes_first Outside depth s) (closes_first Outside (suc depth) s)))

unfoldable pub form_named : List ℕ → Form
form_named n = choose (same_list n __entity) Entity (choose (same_list n __extn) Extension Plain)

-- after the first name
unfoldable pub form_after : List ℕ → List ℕ → Form
form_after n [] = Plain
form_after n (c ∷ s) = choose (eqb c 58 and closes_first Outside 0 s) (form_named n) Plain

-- J15: what an object is read as, after its brace
unfoldable pub form : List ℕ → Form
form s = elim (string (blanks s)) [ got n rest ↦ form_after n (blanks rest) | fault w left first ↦ Plain ]

-- the only member of a form, after the brace: `inside` reads what its value holds
unfoldable pub only : (List ℕ → Read J) → List ℕ → Read J
only inside s =
    then (string (blanks s)) λ n rest.
    then (want 58 (blanks rest)) λ colon rest.
    then (due BadField (λ c. eqb c 123) inside (blanks rest)) λ j rest.
    then (want 125 (blanks rest)) λ brace rest.
    got j rest

-- two members, or 23 at the closing brace
unfoldable pub both : (List ℕ → List ℕ → J) → Option (List ℕ) → Option (List ℕ) → List ℕ → Read J
both make none b rest = fault BadField (suc (length rest)) (suc (length rest))
both make (some a) none rest = fault BadField (suc (length rest)) (suc (length rest))
both make (some a) (some b) rest = got (make a b) rest

-- exactly type and id, from the brace on
unfoldable pub entity : List ℕ → Read J
entity s =
    then (want 123 s) λ brace rest.
    then (object (λ n. same_list n «type» or same_list n «id») (λ n t. text t) rest) λ ms rest.
    both EntityOf (member_of «type» ms) (member_of «id» ms) rest

-- fn is the string "decimal"; else 23 at its first byte
unfoldable pub argument : List ℕ → List ℕ → Read (List ℕ)
argument n s = then (text s) λ t rest. choose (same_list n «fn» and not (same_list t «decimal»)) (no BadField s) (got t rest)

-- exactly fn and arg, from the brace on
unfoldable pub extension : List ℕ → Read J
extension s =
    then (want 123 s) λ brace rest.
    then (object (λ n. same_list n «fn» or same_list n «arg») argument rest) λ ms rest.
    both (λ f a. Decimal a) (member_of «fn» ms) (member_of «arg» ms) rest

-- ---- section 3: values

-- a word that must stand here
unfoldable pub spelt : List ℕ → J → List ℕ → Read J
spelt [] j s = got j s
spelt (b ∷ bs) j s = then (want b s) λ c rest. spelt bs j rest

-- members, whatever their names
abbrev pub plain : (List ℕ → Read J) → List ℕ → Read Parts
plain inner s = mapped member_parts (object (λ n. true) (λ n t. inner t) s)

unfoldable pub braced : (List ℕ → Read J) → Form → List ℕ → Read J
braced inner Plain s = mapped Object (plain inner s)
braced inner Entity s = only entity s
braced inner Extension s = only extension s

-- value = false / null / true / object / array / number / string, where `inner` reads what it holds
unfoldable pub value_of : (List ℕ → Read J) → List ℕ → Read J
value_of inner [] = no NotJson []
value_of inner (c ∷ s) =
    choose (eqb c 123) (braced inner (form s) s)
    (choose (eqb c 91) (mapped (λ js. Array (item_parts js)) (array inner s))
    (choose (eqb c 34) (mapped Text (string (c ∷ s)))
    (choose (eqb c 116) (spelt (116 ∷ 114 ∷ 117 ∷ 101 ∷ []) (Truth true) (c ∷ s))
    (choose (eqb c 102) (spelt (102 ∷ 97 ∷ 108 ∷ 115 ∷ 101 ∷ []) (Truth false) (c ∷ s))
    (choose (eqb c 110) (spelt (110 ∷ 117 ∷ 108 ∷ 108 ∷ []) Null (c ∷ s))
    (choose (numeral c) (mapped Int (number (c ∷ s))) (no NotJson (c ∷ s))))))))

-- with so many levels left; J14: with none, 24 where a value begins
unfoldable pub value : ℕ → List ℕ → Read J
value zero s = due TooDeep (λ c. false) (λ t. no NotJson t) s
value (suc levels) s = value_of (λ t. value levels t) s

-- an object that is no form, by its first byte; a form is 23 at its brace
unfoldable pub bare : (List ℕ → Read J) → Form → List ℕ → Read Parts
bare inner Plain s = then (want 123 s) λ brace rest. plain inner rest
bare inner Entity s = no BadField s
bare inner Extension s = no BadField s

unfoldable pub fields : ℕ → List ℕ → Read Parts
fields levels s = due BadField (λ c. eqb c 123) (λ t. then (want 123 t) λ brace rest. bare (λ u. value levels u) (form rest) t) s
