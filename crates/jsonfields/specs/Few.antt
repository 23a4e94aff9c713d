-- J16: what was read has at most a quarter as many names as it took bytes
use Rattle.std.specs.Prelude.{◌≡◌, Bool, not, List, [], ◌∷◌, ℕ, zero, suc, ◌+◌, ◌*◌, ◌≤◌, drop}
use Rattle.std.proofs.Math.Path.{refl, ap}
use Rattle.std.proofs.Common.{◌∙◌, arith, length-drop}
use Rattle.std.proofs.Math.Bool.{true, false}
use Rattle.std.proofs.Math.Option.{Option, none, some}
use Rattle.std.proofs.Math.Dec.{eqb}
use Rattle.std.proofs.Math.ListN.{length}
use Rattle.meaning.specs.Tests.{◌and◌, ◌or◌, choose}
use Rattle.meaning.specs.Equal.{same_list}
use Rattle.jsontext.specs.declared.Fault.TheVariants.{NotJson, BadField, TooDeep}
use Rattle.jsontext.specs.declared.Form.{Form}
use Rattle.jsontext.specs.declared.Form.TheVariants.{Plain, Entity, Extension}
use Rattle.jsontext.specs.Reading.{Read, got, then, no, mapped, blanks, want}
use Rattle.jsontext.specs.Numbers.{number}
use Rattle.jsontext.specs.Strings.{string}
use Rattle.jsontext.specs.Values.{J, Null, Truth, Int, Text, EntityOf, Decimal, Array, Object, Parts, item_parts, member_parts, numeral, due, text, array, object, member_of, «type», «id», «fn», «arg», «decimal», form, only, both, entity, argument, extension, spelt, braced, value_of, value, fields}
use Rattle.jsontext.specs.Events.{Item, listed}
use Rattle.jsontrace.specs.Trace.{many}
use Rattle.jsonread.proofs.Spelling.{never, came}
use Rattle.jsonruns.specs.Run.{Run, last, more, Listed, Item as ItemOf, Member}
use Rattle.jsonruns.proofs.Runs.{then_of, due_of, text-string, wanted, array-listed, object-listed}
use Rattle.jsoncount.specs.Sizes.{object_read, entity_read}
use Rattle.jsoncount.proofs.Flat.{spelt-says}
use Rattle.jsoncount.proofs.Triples.{fielded, tripled}
use Rattle.jsonadds.specs.Place.{named, named_items, named_members}
use Rattle.jsonentry.specs.Fields.{Stands}
use Rattle.jsonentry.specs.Entries.{named_entities}
use Rattle.jsonfields.specs.Left.{blanks-left, string-takes, number-takes, spelt-takes}

-- a byte that was due takes one
want-takes : (b : ℕ) (s : List ℕ) {c : ℕ} {rest : List ℕ} → want b s ≡ got c rest → suc (length rest) ≤ length s
want-takes b s e = omega (arith, ap length (wanted b s e).is)

-- ---- parts, one after another

unfoldable weighed : {A : Type 0} → (A → ℕ) → List A → ℕ
weighed w [] = 0
weighed w (a ∷ others) = w a + weighed w others

sign-takes : (t : List ℕ) {u : List ℕ} {c : ℕ} → blanks t ≡ c ∷ u → suc (length u) ≤ length t
sign-takes t e = omega (arith, blanks-left t, ap length e)

-- what a part weighs, with the byte behind it
module _ {A : Type 0} {close : ℕ} {Part : List ℕ → A → List ℕ → Type 0} (w : A → ℕ) (one : (s t : List ℕ) (a : A) → Part s a t → w a + length t ≤ suc (length s)) where
  run-few : {s : List ℕ} {all : List A} {rest : List ℕ} → Run close Part s all rest → weighed w all + length rest ≤ length s
  unfolding weighed
  run-few (last {t = t} p e) = omega (arith, one _ _ _ p, sign-takes t e)
  run-few (more {t = t} {u = u} c p e q r) = omega (arith, one _ _ _ p, sign-takes t e, blanks-left u, run-few r)

  parts-few : {s : List ℕ} {all : List A} {rest : List ℕ} → Listed close Part s all rest → weighed w all + length rest ≤ length s
  unfolding weighed
  parts-few {s} {all} {rest} l =
      go (eqb l.first close) refl
    where
      go : (x : Bool) → eqb l.first close ≡ x → weighed w all + length rest ≤ length s
      go true q = omega (arith, ap (weighed w) (l.none q), ap length (l.left q), sign-takes s l.byte)
      go false q = omega (arith, run-few (l.run q), blanks-left s)

-- ---- a value, by what it holds

abbrev Few : (List ℕ → Read J) → Type 0
Few read = (s rest : List ℕ) (j : J) → read s ≡ got j rest → 4 * named j + length rest ≤ length s

weighed-items : (js : List J) → weighed (λ j. 4 * named j) js ≡ 4 * named_items js
unfolding weighed item_parts named
weighed-items [] = refl
weighed-items (j ∷ js) = omega (arith, weighed-items js)

weighed-members : (ms : List (List ℕ × J)) → weighed (λ m. 4 * suc (named m.1)) ms ≡ 4 * named_members ms
unfolding weighed member_parts named many
weighed-members [] = refl
weighed-members (m ∷ ms) = omega (arith, weighed-members ms)

module _ (inner : List ℕ → Read J) (few : Few inner) where
  few-items : (s rest : List ℕ) (js : List J) → array inner s ≡ got js rest → 4 * named_items js + length rest ≤ length s
  few-items s rest js e = omega (arith, weighed-items js, parts-few {Part = ItemOf inner} (λ j. 4 * named j) (λ t u j p. omega (arith, few t u j p)) (array-listed inner s e))

  -- a name takes two bytes, its colon one
  few-member : (s t : List ℕ) (m : List ℕ × J) → Member (λ n. true) (λ n u. inner u) s m t → 4 * suc (named m.1) + length t ≤ suc (length s)
  few-member s t m p = omega (arith, string-takes s p.name, sign-takes p.after p.colon, blanks-left p.value, few (blanks p.value) t m.1 p.is)

  few-members : (s rest : List ℕ) (ms : List (List ℕ × J)) → object (λ n. true) (λ n u. inner u) s ≡ got ms rest → 4 * named_members ms + length rest ≤ length s
  few-members s rest ms e = omega (arith, weighed-members ms, parts-few {Part = Member (λ n. true) (λ n u. inner u)} (λ m. 4 * suc (named m.1)) few-member (object-listed (λ n. true) (λ n u. inner u) s e))

-- ---- forms

module _ (known : List ℕ → Bool) (item : List ℕ → List ℕ → Read (List ℕ)) (takes : (n s t rest : List ℕ) → item n s ≡ got t rest → length rest ≤ length s) where
  -- strings have no names
  strings-few : (s rest : List ℕ) (ms : List (List ℕ × List ℕ)) → object known item s ≡ got ms rest → length rest ≤ length s
  strings-few s rest ms e =
      omega (arith, parts-few {Part = Member known item} (λ m. 0) one (object-listed known item s e))
    where
      one : (s t : List ℕ) (m : List ℕ × List ℕ) → Member known item s m t → 0 + length t ≤ suc (length s)
      one s t m p = omega (arith, string-takes s p.name, sign-takes p.after p.colon, blanks-left p.value, takes m.0 (blanks p.value) m.1 t p.is)

  module _ (make : List ℕ → List ℕ → J) (nameless : (a b : List ℕ) → named (make a b) ≡ 0) where
    both-few : (a b : Option (List ℕ)) (left rest : List ℕ) (j : J) → both make a b left ≡ got j rest → 4 * named j + length rest ≤ length left
    unfolding both
    both-few none b left rest j e = absurd (never e)
    both-few (some a) none left rest j e = absurd (never e)
    both-few (some a) (some b) left rest j e =
        let x : make a b ≡ j = cc in
        let y : left ≡ rest = cc in
        omega (arith, ap named x, nameless a b, ap length y)

    pair-few : (one other s rest : List ℕ) (j : J) → then (want 123 s) (λ brace t. then (object known item t) (λ ms u. both make (member_of one ms) (member_of other ms) u)) ≡ got j rest → 4 * named j + length rest ≤ length s
    pair-few one other s rest j e =
        let w = then_of (want 123 s) e in
        let o = then_of (object known item w.left) w.next in
        omega (arith, want-takes 123 s w.is, strings-few w.left o.left o.what o.is, both-few (member_of one o.what) (member_of other o.what) o.left rest j o.next)

text-takes : (n s t rest : List ℕ) → text s ≡ got t rest → length rest ≤ length s
text-takes n s t rest e = omega (arith, string-takes s (text-string s e))

argument-takes : (n s t rest : List ℕ) → argument n s ≡ got t rest → length rest ≤ length s
unfolding argument choose
argument-takes n s t rest e =
    let a = then_of (text s) e in
    omega (arith, text-takes n s a.what a.left a.is, go a.what a.left (same_list n «fn» and not (same_list a.what «decimal»)) a.next)
  where
    go : (u left : List ℕ) (b : Bool) → choose b (no BadField s) (got u left) ≡ got t rest → length rest ≤ length left
    go u left true f = absurd (never f)
    go u left false f = let y : left ≡ rest = cc in omega (arith, ap length y)

entity-few : Few entity
unfolding entity named
entity-few s rest j e = pair-few (λ n. same_list n «type» or same_list n «id») (λ n t. text t) text-takes EntityOf (λ a b. refl) «type» «id» s rest j e

extension-few : Few extension
unfolding extension named
extension-few s rest j e = pair-few (λ n. same_list n «fn» or same_list n «arg») argument argument-takes (λ f a. Decimal a) (λ a b. refl) «fn» «arg» s rest j e

only-few : (read : List ℕ → Read J) → Few read → Few (only read)
unfolding only
only-few read few s rest j e =
    let n = then_of (string (blanks s)) e in
    let c = then_of (want 58 (blanks n.left)) n.next in
    let i = then_of (due BadField (λ c. eqb c 123) read (blanks c.left)) c.next in
    let b = then_of (want 125 (blanks i.left)) i.next in
    let x : i.what ≡ j = cc b.next in
    let y : b.left ≡ rest = cc b.next in
    omega (
      arith,
      blanks-left s,
      string-takes (blanks s) n.is,
      blanks-left n.left,
      want-takes 58 (blanks n.left) c.is,
      blanks-left c.left,
      few (blanks c.left) i.left i.what (due_of BadField (λ c. eqb c 123) read (blanks c.left) i.is),
      blanks-left i.left,
      want-takes 125 (blanks i.left) {c = b.what} {rest = b.left} b.is,
      ap named x,
      ap length {x = b.left} y,
    )

-- ---- values

braced-few : (inner : List ℕ → Read J) → Few inner → (x : Form) → Few (braced inner x)
unfolding braced named
braced-few inner few Plain s rest j e =
    let o = came Object (mapped member_parts (object (λ n. true) (λ n t. inner t) s)) e in
    let m = came member_parts (object (λ n. true) (λ n t. inner t) s) o.is in
    omega (arith, few-members inner few s rest m.what m.is, ap named (o.makes ∙ ap Object m.makes))
braced-few inner few Entity s rest j e = only-few entity entity-few s rest j e
braced-few inner few Extension s rest j e = only-few extension extension-few s rest j e

value-few : (inner : List ℕ → Read J) → Few inner → Few (value_of inner)
unfolding value_of choose named
value-few inner few [] rest j e = absurd (never e)
value-few inner few (c ∷ s) rest j e =
    by (eqb c 123) (eqb c 91) (eqb c 34) (eqb c 116) (eqb c 102) (eqb c 110) (numeral c) e
  where
    word : (bs : List ℕ) (k : J) → named k ≡ 0 → spelt bs k (c ∷ s) ≡ got j rest → 4 * named j + length rest ≤ length (c ∷ s)
    word bs k z f = omega (arith, z, ap named (spelt-says bs k (c ∷ s) f), spelt-takes bs k (c ∷ s) f)

    by : (brace bracket quote t f n digit : Bool) → choose brace (braced inner (form s) s) (choose bracket (mapped (λ js. Array (item_parts js)) (array inner s)) (choose quote (mapped Text (string (c ∷ s))) (choose t (spelt (116 ∷ 114 ∷ 117 ∷ 101 ∷ []) (Truth true) (c ∷ s)) (choose f (spelt (102 ∷ 97 ∷ 108 ∷ 115 ∷ 101 ∷ []) (Truth false) (c ∷ s)) (choose n (spelt (110 ∷ 117 ∷ 108 ∷ 108 ∷ []) Null (c ∷ s)) (choose digit (mapped Int (number (c ∷ s))) (no NotJson (c ∷ s)))))))) ≡ got j rest → 4 * named j + length rest ≤ length (c ∷ s)
    by true bracket quote t f n digit g = omega (arith, braced-few inner few (form s) s rest j g)
    by false true quote t f n digit g =
        let m = came (λ js. Array (item_parts js)) (array inner s) g in
        omega (arith, few-items inner few s rest m.what m.is, ap named m.makes)
    by false false true t f n digit g =
        let m = came Text (string (c ∷ s)) g in
        omega (arith, string-takes (c ∷ s) m.is, ap named m.makes)
    by false false false true f n digit g = word (116 ∷ 114 ∷ 117 ∷ 101 ∷ []) (Truth true) refl g
    by false false false false true n digit g = word (102 ∷ 97 ∷ 108 ∷ 115 ∷ 101 ∷ []) (Truth false) refl g
    by false false false false false true digit g = word (110 ∷ 117 ∷ 108 ∷ 108 ∷ []) Null refl g
    by false false false false false false true g =
        let m = came Int (number (c ∷ s)) g in
        omega (arith, number-takes (c ∷ s) m.is, ap named m.makes)
    by false false false false false false false g = absurd (never g)

-- a value
pub few-value : (levels : ℕ) (s rest : List ℕ) (j : J) → value levels s ≡ got j rest → 4 * named j + length rest ≤ length s
unfolding value
few-value zero s rest j e = absurd (never (due_of TooDeep (λ c. false) (λ t. no NotJson t) s e))
few-value (suc levels) s rest j e = value-few (λ t. value levels t) (λ t left k f. few-value levels t left k f) s rest j e

-- members, after the brace
pub few-object : (levels : ℕ) (s rest : List ℕ) (ms : List (List ℕ × J)) → object_read levels s ≡ got ms rest → 4 * named_members ms + length rest ≤ length s
unfolding object_read
few-object levels s rest ms e = few-members (λ t. value levels t) (λ t left j f. few-value levels t left j f) s rest ms e

-- an object that is no form, from its brace on
pub few-fields : (levels : ℕ) (s rest : List ℕ) (ps : Parts) → fields levels s ≡ got ps rest → 4 * named (Object ps) + length rest ≤ length s
few-fields levels s rest ps e =
    let f = fielded levels s e in
    omega (arith, ap length f.brace, few-object levels f.inside rest f.made.what f.made.is, ap (λ (qs : Parts). named (Object qs)) f.made.makes)

-- ---- entities

abbrev weighs : Item → ℕ
weighs i = 4 * suc (named (Object i.attributes))

-- two strings and the commas behind them
few-entity : (s rest : List ℕ) (i : Item) → entity_read s ≡ got i rest → weighs i + length rest ≤ length s
few-entity s rest i e =
    let t = tripled s e in
    omega (
      arith,
      ap length t.bracket,
      blanks-left t.inside,
      string-takes (blanks t.inside) t.type-is,
      sign-takes t.after-type t.first,
      blanks-left t.to-id,
      string-takes (blanks t.to-id) t.id-is,
      sign-takes t.after-id t.second,
      blanks-left t.to-attributes,
      few-fields 31 (blanks t.to-attributes) t.left i.attributes t.attributes-are,
      sign-takes t.left t.close,
    )

weighed-entities : (is : List Item) → weighed weighs is ≡ 4 * named_entities is
unfolding weighed named_entities
weighed-entities [] = refl
weighed-entities (i ∷ is) = omega (arith, weighed-entities is)

-- entities, after the bracket
pub few-entities : (s rest : List ℕ) (is : List Item) → array entity_read s ≡ got is rest → 4 * named_entities is + length rest ≤ length s
few-entities s rest is e = omega (arith, weighed-entities is, parts-few {Part = ItemOf entity_read} weighs (λ t u i p. omega (arith, few-entity t u i p)) (array-listed entity_read s e))

-- from the bracket on
pub few-listed : (s rest : List ℕ) (is : List Item) → listed (array entity_read) s ≡ got is rest → 4 * named_entities is + length rest ≤ length s
few-listed s rest is e =
    let b = then_of (want 91 s) (due_of BadField (λ c. eqb c 91) (λ t. then (want 91 t) λ bracket u. array entity_read u) s e) in
    omega (arith, want-takes 91 s b.is, few-entities b.left rest is b.next)

-- ---- a quarter as many cells as bytes

module _ {line : List ℕ} {at cells : ℕ} (h : length line ≤ 4 * cells) where
  pub cells-value : (levels : ℕ) {j : J} → Stands line at (value levels) j → named j ≤ cells
  cells-value levels {j} p = omega (arith, h, length-drop at line, few-value levels (drop at line) p.rest j p.is)

  pub cells-fields : (levels : ℕ) {ps : Parts} → Stands line at (fields levels) ps → named (Object ps) ≤ cells
  cells-fields levels {ps} p = omega (arith, h, length-drop at line, few-fields levels (drop at line) p.rest ps p.is)

  pub cells-object : (levels : ℕ) {ms : List (List ℕ × J)} → Stands line at (object_read levels) ms → named_members ms ≤ cells
  cells-object levels {ms} p = omega (arith, h, length-drop at line, few-object levels (drop at line) p.rest ms p.is)

  pub cells-entities : {is : List Item} → Stands line at (array entity_read) is → named_entities is ≤ cells
  cells-entities {is} p = omega (arith, h, length-drop at line, few-entities (drop at line) p.rest is p.is)

  pub cells-listed : {is : List Item} → Stands line at (listed (array entity_read)) is → named_entities is ≤ cells
  cells-listed {is} p = omega (arith, h, length-drop at line, few-listed (drop at line) p.rest is p.is)
