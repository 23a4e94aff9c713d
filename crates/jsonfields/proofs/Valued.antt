-- What a field holds reads as a value too, and ends at the same place
use mathlib.Core.Path.{◌≡◌, refl, sym, ap, ◌∙◌}
use mathlib.Core.Bool.{Bool, true, false}
use mathlib.Core.List.{List, [], ◌∷◌, map}
use Prim.Native.Nat.{ℕ, zero, suc, ◌-◌, ◌<◌, ◌≤◌}
use native.Mathlib.Omega.{arith}
use lib.IntN.{ℤ}
use lib.Dec.{eqb}
use lib.ListN.{length, drop}
use borrow.Author.Tests.{ne_eqb, lt-ltb, le-ltb}
use Rattle.meaning.specs.Tests.{◌and◌, ◌or◌, choose}
use Rattle.laws.specs.Tests.{yes, no as otherwise}
use Rattle.meaning.specs.Equal.{is_digit}
use Rattle.jsontext.specs.declared.Fault.TheVariants.{NotJson, BadField}
use Rattle.jsontext.specs.declared.Form.{Form}
use Rattle.jsontext.specs.declared.Form.TheVariants.{Plain, Entity, Extension}
use Rattle.jsontext.specs.Reading.{Read, got, then, no, mapped, blanks, want}
use Rattle.jsontext.specs.Numbers.{number}
use Rattle.jsontext.specs.Strings.{string}
use Rattle.jsontext.specs.Values.{J, Int, Text, Array, Object, Parts, item_parts, numeral, begins, due, text, after_part, items, unless_empty, array, form, plain, braced, value_of, value, bare, fields}
use Rattle.jsontext.specs.Events.{Item, Field, Time, Namespace, Action, Kind, Logged, Context, Principal, Resource, Entities, listed}
use Rattle.jsonread.proofs.Spelling.{never, came}
use Rattle.jsonruns.specs.Good.{Good, Ends}
use Rattle.jsonruns.proofs.Runs.{then_of, due_of, text-string, wanted}
use Rattle.jsoncount.specs.Sizes.{entity_read}
use Rattle.jsoncount.proofs.Triples.{Tripled, tripled}
use Rattle.jsonlines.specs.Fields.{reader_at}
use Rattle.jsonfields.specs.Left.{string-takes}
use Rattle.jsonfields.specs.Places.{levels_of}

-- what was read, made into something else
made : {A B : Type 0} (f : A → B) {m : Read A} {a : A} {rest : List ℕ} → m ≡ got a rest → mapped f m ≡ got (f a) rest
unfolding then
made f e = ap (mapped f) e

-- ---- a value by its first byte

module _ (n : ℕ) where
  string-value : (s : List ℕ) {t rest : List ℕ} → string s ≡ got t rest → value (suc n) s ≡ got (Text t) rest
  unfolding string value value_of choose
  string-value s {t} {rest} e =
      let w = then_of (want 34 s) e in
      let z : s ≡ 34 ∷ w.left = (wanted 34 s w.is).is in
      ap (value (suc n)) z ∙ made Text (ap string (sym z) ∙ e)

  text-value : (s : List ℕ) {t rest : List ℕ} → text s ≡ got t rest → value (suc n) s ≡ got (Text t) rest
  text-value s e = string-value s (text-string s e)

  array-value : {A : Type 0} (inside : List ℕ → Read A) (f : A → List J) → ((s rest : List ℕ) (a : A) → inside s ≡ got a rest → array (value n) s ≡ got (f a) rest) → (s : List ℕ) {a : A} {rest : List ℕ} → listed inside s ≡ got a rest → value (suc n) s ≡ got (Array (item_parts (f a))) rest
  unfolding value value_of choose
  array-value inside f h s {a} {rest} e =
      let b = then_of (want 91 s) (due_of BadField (λ c. eqb c 91) (λ t. then (want 91 t) λ bracket u. inside u) s e) in
      ap (value (suc n)) (wanted 91 s b.is).is ∙ made (λ js. Array (item_parts js)) (h b.left rest a b.next)

  object-value : (s : List ℕ) {rest : List ℕ} (x : J) → form s ≡ Plain → mapped Object (plain (λ t. value n t) s) ≡ got x rest → value (suc n) (123 ∷ s) ≡ got x rest
  unfolding value value_of choose braced
  object-value s x q e = ap (λ (y : Form). braced (value n) y s) q ∙ e

  time-value : (s : List ℕ) {z : ℤ} {rest : List ℕ} → due BadField numeral number s ≡ got z rest → value (suc n) s ≡ got (Int z) rest
  unfolding due value value_of
  time-value [] e = absurd (never e)
  time-value (c ∷ s) {z} {rest} e =
      go (numeral c) (begins c) refl e
    where
      other : (k : ℕ) → numeral k ≡ false → numeral c ≡ true → eqb c k ≡ false
      other k f t = ne_eqb c k (λ q. let y : ◌≡◌ {A = Bool} true false = sym t ∙ ap numeral q ∙ f in let x : ◌≡◌ {A = ℕ} 0 1 = cc in omega arith)

      go : (x y : Bool) → numeral c ≡ x → choose x (number (c ∷ s)) (choose y (no BadField (c ∷ s)) (no NotJson (c ∷ s))) ≡ got z rest → value_of (value n) (c ∷ s) ≡ got (Int z) rest
      go true y q f =
          unfold choose numeral is_digit ◌or◌ ◌and◌ in
          otherwise _ (other 123 refl q) (otherwise _ (other 91 refl q) (otherwise _ (other 34 refl q) (otherwise _ (other 116 refl q) (otherwise _ (other 102 refl q) (otherwise _ (other 110 refl q) (yes _ q))))))
          ∙ made Int f
      go false true q f = unfold choose in absurd (never f)
      go false false q f = unfold choose in absurd (never f)

-- ---- objects that are no forms

fields_value : (s rest : List ℕ) (ps : Parts) → fields 31 s ≡ got ps rest → value 32 s ≡ got (Object ps) rest
unfolding fields
fields_value s rest ps e =
    let b = then_of (want 123 s) (due_of BadField (λ c. eqb c 123) (λ t. then (want 123 t) λ brace u. bare (λ v. value 31 v) (form u) t) s e) in
    let z : s ≡ 123 ∷ b.left = (wanted 123 s b.is).is in
    ap (value 32) z ∙ go b.left z (form b.left) refl b.next
  where
    go : (left : List ℕ) → s ≡ 123 ∷ left → (x : Form) → form left ≡ x → bare (λ u. value 31 u) x s ≡ got ps rest → value 32 (123 ∷ left) ≡ got (Object ps) rest
    go left z Plain q f =
        unfold bare in
        let k = then_of (want 123 s) f in
        let w = (wanted 123 s k.is).is in
        let y : k.left ≡ left = cc in
        object-value 31 left (Object ps) q (made Object (ap (plain (λ t. value 31 t)) (sym y) ∙ k.next))
    go left z Entity q f = unfold bare in absurd (never f)
    go left z Extension q f = unfold bare in absurd (never f)

-- ---- items

module _ {A : Type 0} (f : A → J) (item : List ℕ → Read A) (n : ℕ) (reads : (s rest : List ℕ) (a : A) → item s ≡ got a rest → value n s ≡ got (f a) rest) where
  after-value : (a : A) (more : List ℕ → Read (List A)) (mine : List ℕ → Read (List J)) → ((s rest : List ℕ) (all : List A) → more s ≡ got all rest → mine s ≡ got (map f all) rest) → (s rest : List ℕ) (all : List A) → after_part 93 a more s ≡ got all rest → after_part 93 (f a) mine s ≡ got (map f all) rest
  unfolding after_part choose
  after-value a more mine h [] rest all e = absurd (never e)
  after-value a more mine h (c ∷ s) rest all e =
      go (eqb c 93) (eqb c 44) e
    where
      go : (x y : Bool) → choose x (got (a ∷ []) s) (choose y (mapped (λ others. a ∷ others) (more (blanks s))) (no NotJson (c ∷ s))) ≡ got all rest → choose x (got (f a ∷ []) s) (choose y (mapped (λ others. f a ∷ others) (mine (blanks s))) (no NotJson (c ∷ s))) ≡ got (map f all) rest
      go true y q =
          let z : all ≡ a ∷ [] = cc in
          let w : s ≡ rest = cc in
          ap (λ (t : List ℕ). got (f a ∷ []) t) w ∙ ap (λ (bs : List A). got (map f bs) rest) (sym z)
      go false true q =
          let m = came (λ others. a ∷ others) (more (blanks s)) q in
          made (λ others. f a ∷ others) (h (blanks s) rest m.what m.is) ∙ ap (λ (bs : List A). got (map f bs) rest) (sym m.makes)
      go false false q = absurd (never q)

  items-value : (turns : ℕ) (s rest : List ℕ) (all : List A) → items item turns s ≡ got all rest → items (value n) turns s ≡ got (map f all) rest
  unfolding items then
  items-value zero s rest all e = absurd (never e)
  items-value (suc turns) s rest all e =
      let a = then_of (item s) e in
      ap (λ (m : Read J). then m (λ j u. after_part 93 j (λ t. items (value n) turns t) (blanks u))) (reads s a.left a.what a.is)
      ∙ after-value a.what (λ t. items item turns t) (λ t. items (value n) turns t) (λ t u bs q. items-value turns t u bs q) (blanks a.left) rest all a.next

  parts-value : (s rest : List ℕ) (all : List A) → array item s ≡ got all rest → array (value n) s ≡ got (map f all) rest
  unfolding array unless_empty choose
  parts-value s rest all e =
      go (blanks s) e
    where
      by : (c : ℕ) (t : List ℕ) (x : Bool) → choose x (got [] t) (items item (suc (length (c ∷ t))) (c ∷ t)) ≡ got all rest → choose x (got [] t) (items (value n) (suc (length (c ∷ t))) (c ∷ t)) ≡ got (map f all) rest
      by c t true q =
          let z : all ≡ [] = cc in
          let w : t ≡ rest = cc in
          ap (λ (u : List ℕ). got [] u) w ∙ ap (λ (bs : List A). got (map f bs) rest) (sym z)
      by c t false q = items-value (suc (length (c ∷ t))) (c ∷ t) rest all q

      go : (t : List ℕ) → unless_empty 93 (λ u. items item (suc (length u)) u) t ≡ got all rest → unless_empty 93 (λ u. items (value n) (suc (length u)) u) t ≡ got (map f all) rest
      go [] q = absurd (never q)
      go (c ∷ t) q = by c t (eqb c 93) q

-- ---- an entity

module _ (n turns : ℕ) (s left u : List ℕ) (j : J) (e : value n s ≡ got j left) where
  item-more : blanks left ≡ 44 ∷ u → items (value n) (suc turns) s ≡ mapped (λ js. j ∷ js) (items (value n) turns (blanks u))
  unfolding items then after_part choose
  item-more q = ap (λ (m : Read J). then m (λ k t. after_part 93 k (λ v. items (value n) turns v) (blanks t))) e ∙ ap (after_part 93 j (λ v. items (value n) turns v)) q

  item-last : blanks left ≡ 93 ∷ u → items (value n) (suc turns) s ≡ got (j ∷ []) u
  unfolding items then after_part choose
  item-last q = ap (λ (m : Read J). then m (λ k t. after_part 93 k (λ v. items (value n) turns v) (blanks t))) e ∙ ap (after_part 93 j (λ v. items (value n) turns v)) q

abbrev three : Item → List J
three i = Text i.type ∷ Text i.id ∷ Object i.attributes ∷ []

three-value : (turns : ℕ) {s rest : List ℕ} {i : Item} (t : Tripled s i rest) → items (value 32) (suc (suc (suc turns))) (blanks t.inside) ≡ got (three i) rest
three-value turns {rest = rest} {i = i} t =
    item-more 32 (suc (suc turns)) (blanks t.inside) t.after-type t.to-id (Text i.type) (string-value 31 (blanks t.inside) t.type-is) t.first
    ∙ made (λ js. Text i.type ∷ js)
    (item-more 32 (suc turns) (blanks t.to-id) t.after-id t.to-attributes (Text i.id) (string-value 31 (blanks t.to-id) t.id-is) t.second
    ∙ made (λ js. Text i.id ∷ js) (item-last 32 turns (blanks t.to-attributes) t.left rest (Object i.attributes) (fields_value (blanks t.to-attributes) t.left i.attributes t.attributes-are) t.close))

-- its first string takes two bytes, so there are turns enough
inner-value : {s rest : List ℕ} {i : Item} (t : Tripled s i rest) → array (value 32) t.inside ≡ got (three i) rest
unfolding string array unless_empty choose
inner-value {i = i} t =
    let w = then_of (want 34 (blanks t.inside)) t.type-is in
    let z : blanks t.inside ≡ 34 ∷ w.left = (wanted 34 (blanks t.inside) w.is).is in
    let k : length w.left ≡ suc (length w.left - 1) = omega (arith, ap length z, string-takes (blanks t.inside) t.type-is) in
    ap (unless_empty 93 (λ u. items (value 32) (suc (length u)) u)) z
    ∙ ap (λ (m : ℕ). items (value 32) (suc (suc m)) (34 ∷ w.left)) k
    ∙ ap (items (value 32) (suc (suc (suc (length w.left - 1))))) (sym z)
    ∙ three-value (length w.left - 1) t

abbrev entity_value : Item → J
entity_value i = Array (item_parts (three i))

entity-value : (s rest : List ℕ) (i : Item) → entity_read s ≡ got i rest → value 33 s ≡ got (entity_value i) rest
unfolding value value_of choose
entity-value s rest i e = let t = tripled s e in ap (value 33) t.bracket ∙ made (λ js. Array (item_parts js)) (inner-value t)

-- ---- a field

unfoldable value_from : Field → J
value_from (Time z) = Int z
value_from (Namespace ts) = Array (item_parts (map Text ts))
value_from (Action t) = Text t
value_from (Kind t) = Text t
value_from (Logged ps) = Object ps
value_from (Context ps) = Object ps
value_from (Principal j) = j
value_from (Resource j) = j
value_from (Entities is) = Array (item_parts (map entity_value is))

levels-entities : (k : ℕ) → 8 ≤ k → levels_of k ≡ 34
unfolding levels_of
levels-entities k h = otherwise _ (le-ltb k 8 h) refl

-- with what it came from
from : {A : Type 0} (f : A → Field) {x : Field} {rest : List ℕ} {m : Read J} (a : A) → x ≡ f a → m ≡ got (value_from (f a)) rest → m ≡ got (value_from x) rest
from f {rest = rest} a e q = q ∙ ap (λ (y : Field). got (value_from y) rest) (sym e)

field-value : (k : ℕ) (s rest : List ℕ) (x : Field) → reader_at k s ≡ got x rest → value (levels_of k) s ≡ got (value_from x) rest
unfolding reader_at levels_of choose value_from entity_read
field-value zero s rest x e = let c = came Time (due BadField numeral number s) e in from Time c.what c.makes (time-value 31 s c.is)
field-value (suc zero) s rest x e = let c = came Namespace (listed (array text) s) e in from Namespace c.what c.makes (array-value 31 (array text) (map Text) (parts-value Text text 31 (λ t u a q. text-value 30 t q)) s c.is)
field-value (suc (suc zero)) s rest x e = let c = came Action (text s) e in from Action c.what c.makes (text-value 31 s c.is)
field-value (suc (suc (suc zero))) s rest x e = let c = came Kind (text s) e in from Kind c.what c.makes (text-value 31 s c.is)
field-value (suc (suc (suc (suc zero)))) s rest x e = let c = came Logged (fields 31 s) e in from Logged c.what c.makes (fields_value s rest c.what c.is)
field-value (suc (suc (suc (suc (suc zero))))) s rest x e = let c = came Context (fields 31 s) e in from Context c.what c.makes (fields_value s rest c.what c.is)
field-value (suc (suc (suc (suc (suc (suc zero)))))) s rest x e = let c = came Principal (value 32 s) e in from Principal c.what c.makes c.is
field-value (suc (suc (suc (suc (suc (suc (suc zero))))))) s rest x e = let c = came Resource (value 32 s) e in from Resource c.what c.makes c.is
field-value (suc (suc (suc (suc (suc (suc (suc (suc k)))))))) s rest x e =
    let c = came Entities (listed (array entity_read) s) e in
    ap (λ (n : ℕ). value n s) (levels-entities (suc (suc (suc (suc (suc (suc (suc (suc k)))))))) (omega arith))
    ∙ from Entities c.what c.makes (array-value 33 (array entity_read) (map entity_value) (parts-value entity_value entity_read 33 entity-value) s c.is)

-- ---- where it ends

pub levels-few : (field : ℕ) → field < 8 → 32 ≡ levels_of field
unfolding levels_of
levels-few field h = sym (yes _ (lt-ltb field 8 h))

pub levels-more : (field : ℕ) → 8 ≤ field → 34 ≡ levels_of field
levels-more field h = sym (levels-entities field h)

module _ (line : List ℕ) (at field : ℕ) {levels : ℕ} (h : levels ≡ levels_of field) where
  as-value : (rest : List ℕ) (x : Field) → reader_at field (drop at line) ≡ got x rest → value levels (drop at line) ≡ got (value_from x) rest
  as-value rest x e = ap (λ (n : ℕ). value n (drop at line)) h ∙ field-value field (drop at line) rest x e

  pub field-good : Good line at (reader_at field (drop at line)) → Good line at (value levels (drop at line))
  field-good g = record { what = value_from g.what; rest = g.rest; within = g.within; is = as-value g.rest g.what g.is }

  pub field-ends : {e : ℕ} → Ends line at e (value levels (drop at line)) → Ends line at e (reader_at field (drop at line))
  field-ends p = record { from = p.from; within = p.within; is = λ x rest q. p.is (value_from x) rest (as-value rest x q) }
