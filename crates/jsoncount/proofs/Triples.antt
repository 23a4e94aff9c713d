-- Objects that are no forms, and entities: what they count
use mathlib.Core.Path.{◌≡◌, refl, sym, ap, ◌∙◌}
use mathlib.Core.Bool.{Bool, true, false}
use mathlib.Core.List.{List, [], ◌∷◌}
use Prim.Native.Nat.{ℕ, ◌+◌, ◌<◌, ◌≤◌}
use native.Mathlib.Omega.{arith}
use lib.Dec.{eqb}
use lib.ListN.{length, drop, length-drop}
use Rattle.std.specs.Prelude.{Result, Ok, Err}
use Rattle.meaning.specs.Tests.{choose}
use Rattle.jsontext.specs.declared.Fault.TheVariants.{BadField}
use Rattle.jsontext.specs.declared.Form.{Form}
use Rattle.jsontext.specs.declared.Form.TheVariants.{Plain, Entity, Extension}
use Rattle.jsontext.specs.Reading.{got, then, no, blanks, want}
use Rattle.jsontext.specs.Strings.{string}
use Rattle.jsontext.specs.Values.{Object, Parts, member_parts, text, array, object, form, bare, value, fields}
use Rattle.jsontext.specs.Events.{Item, comma, closing, triple, unless_none}
use Rattle.jsonread.specs.Told.{Blanks}
use Rattle.jsonread.proofs.Places.{byte_at}
use Rattle.jsonread.proofs.Spelling.{never, Came, came}
use Rattle.jsontrace.specs.Count.{Count, ◌⊞◌, a_string, list_words, counted, counted_entities}
use Rattle.jsonruns.specs.Good.{Good, Signed, Past, Behind, BeginTold, PartTold}
use Rattle.jsonruns.proofs.Signs.{ahead}
use Rattle.jsonruns.specs.Run.{Item as ItemOf, Listed}
use Rattle.jsonruns.proofs.Runs.{then_of, due_of, text-string, wanted, turn, array-listed}
use Rattle.jsoncount.specs.declared.tallies.Tally.{Tally}
use Rattle.jsoncount.specs.Tally.{Adds, sizes, CountedTo}
use Rattle.jsoncount.specs.Sizes.{object_size, object_read, fields_size, entity_read, entity_size}
use Rattle.jsoncount.proofs.Sums.{sum_assoc, adds_then, adds-as}
use Rattle.jsoncount.proofs.Looping.{Turning, PartTo, loop_signed, loop_begun, part-signed, loop_again, loop_less, loop_told, counted-as}

-- what stands at a place that holds a known byte, and behind it
pub byte-below : (line : List ℕ) (at : ℕ) {c : ℕ} {s : List ℕ} → drop at line ≡ c ∷ s → at < length line
byte-below line at e = omega (arith, length-drop at line, ap length e)

pub byte_left : (line : List ℕ) (at : ℕ) {c : ℕ} {s : List ℕ} → drop at line ≡ c ∷ s → drop (at + 1) line ≡ s
byte_left line at e = let z = byte_at line at (byte-below line at e) in cc

-- ---- an object that is no form

pub record Fielded (levels : ℕ) (s : List ℕ) (ps : Parts) (rest : List ℕ) : Type 0 where
  pub inside : List ℕ
  pub brace : s ≡ 123 ∷ inside
  pub made : Came member_parts (object_read levels inside) ps rest

pub fielded : (levels : ℕ) (s : List ℕ) {ps : Parts} {rest : List ℕ} → fields levels s ≡ got ps rest → Fielded levels s ps rest
unfolding fields
fielded levels s {ps} {rest} e =
    let b = then_of (want 123 s) (due_of BadField (λ c. eqb c 123) (λ t. then (want 123 t) λ brace rest. bare (λ u. value levels u) (form rest) t) s e) in
    go (form b.left) b.next
  where
    go : (x : Form) → bare (λ u. value levels u) x s ≡ got ps rest → Fielded levels s ps rest
    go Plain f =
        unfold bare object_read in
        let k = then_of (want 123 s) f in
        record { inside = k.left; brace = (wanted 123 s k.is).is; made = came member_parts (object (λ n. true) (λ n t. value levels t) k.left) k.next }
    go Entity f = unfold bare in absurd (never f)
    go Extension f = unfold bare in absurd (never f)

module _ {line : List ℕ} {at : ℕ} (g : Good line at (fields 31 (drop at line))) where
  fields-it : Fielded 31 (drop at line) g.what g.rest
  fields-it = fielded 31 (drop at line) g.is

  pub fields-good : Good line (at + 1) (object_read 31 (drop (at + 1) line))
  fields-good = record { what = fields-it.made.what; rest = g.rest; within = omega (arith, byte-below line at fields-it.brace); is = ap (object_read 31) (byte_left line at fields-it.brace) ∙ fields-it.made.is }

  pub fields-counted : {t u : Tally} {k : ℕ} → CountedTo line (at + 1) t u k (object_read 31 (drop (at + 1) line)) object_size → CountedTo line at t u k (fields 31 (drop at line)) fields_size
  unfolding counted
  fields-counted p = record {
    from = omega (arith, p.from);
    within = p.within;
    is = λ what rest e. let f = fielded 31 (drop at line) e in p.is f.made.what rest (ap (object_read 31) (byte_left line at f.brace) ∙ f.made.is);
    adds = λ what rest e. let f = fielded 31 (drop at line) e in adds-as (ap fields_size (sym f.made.makes)) (p.adds f.made.what rest (ap (object_read 31) (byte_left line at f.brace) ∙ f.made.is));
  }

-- ---- an entity

comma_of : (s : List ℕ) {c : ℕ} {rest : List ℕ} → comma s ≡ got c rest → s ≡ 44 ∷ rest
unfolding comma
comma_of [] e = absurd (never e)
comma_of (x ∷ s) {c} {rest} e =
    go (eqb x 93) e
  where
    go : (y : Bool) → choose y (no BadField (x ∷ s)) (want 44 (x ∷ s)) ≡ got c rest → (x ∷ s) ≡ 44 ∷ rest
    go true f = unfold choose in absurd (never f)
    go false f = unfold choose in (wanted 44 (x ∷ s) f).is

closing_of : (s : List ℕ) {c : ℕ} {rest : List ℕ} → closing s ≡ got c rest → s ≡ 93 ∷ rest
unfolding closing
closing_of [] e = absurd (never e)
closing_of (x ∷ s) {c} {rest} e =
    go (eqb x 44) e
  where
    go : (y : Bool) → choose y (no BadField (x ∷ s)) (want 93 (x ∷ s)) ≡ got c rest → (x ∷ s) ≡ 93 ∷ rest
    go true f = unfold choose in absurd (never f)
    go false f = unfold choose in (wanted 93 (x ∷ s) f).is

none_of : (s : List ℕ) {i : Item} {rest : List ℕ} → unless_none s ≡ got i rest → triple s ≡ got i rest
unfolding unless_none
none_of [] e = absurd (never e)
none_of (x ∷ s) {i} {rest} e =
    go (eqb x 93) e
  where
    go : (y : Bool) → choose y (no BadField (x ∷ s)) (triple (x ∷ s)) ≡ got i rest → triple (x ∷ s) ≡ got i rest
    go true f = unfold choose in absurd (never f)
    go false f = unfold choose in f

pub record Tripled (s : List ℕ) (i : Item) (rest : List ℕ) : Type 0 where
  pub inside : List ℕ
  pub after-type : List ℕ
  pub to-id : List ℕ
  pub after-id : List ℕ
  pub to-attributes : List ℕ
  pub left : List ℕ
  pub bracket : s ≡ 91 ∷ inside
  pub type-is : string (blanks inside) ≡ got i.type after-type
  pub first : blanks after-type ≡ 44 ∷ to-id
  pub id-is : string (blanks to-id) ≡ got i.id after-id
  pub second : blanks after-id ≡ 44 ∷ to-attributes
  pub attributes-are : fields 31 (blanks to-attributes) ≡ got i.attributes left
  pub close : blanks left ≡ 93 ∷ rest

pub tripled : (s : List ℕ) {i : Item} {rest : List ℕ} → entity_read s ≡ got i rest → Tripled s i rest
unfolding entity_read triple
tripled s {i} {rest} e =
    let b = then_of (want 91 s) (due_of BadField (λ c. eqb c 91) (λ t. then (want 91 t) λ bracket rest. unless_none (blanks rest)) s e) in
    let t = then_of (text (blanks b.left)) (none_of (blanks b.left) b.next) in
    let c = then_of (comma (blanks t.left)) t.next in
    let d = then_of (text (blanks c.left)) c.next in
    let f = then_of (comma (blanks d.left)) d.next in
    let a = then_of (fields 31 (blanks f.left)) f.next in
    let k = then_of (closing (blanks a.left)) a.next in
    let made : i ≡ record { type = t.what; id = d.what; attributes = a.what } = cc k.next in
    let ends : k.left ≡ rest = cc k.next in
    record {
      inside = b.left;
      after-type = t.left;
      to-id = c.left;
      after-id = d.left;
      to-attributes = f.left;
      left = a.left;
      bracket = (wanted 91 s b.is).is;
      type-is = text-string (blanks b.left) t.is ∙ ap (λ (x : List ℕ). got x t.left) (sym (ap (λ (y : Item). y.type) made));
      first = comma_of (blanks t.left) c.is;
      id-is = text-string (blanks c.left) d.is ∙ ap (λ (x : List ℕ). got x d.left) (sym (ap (λ (y : Item). y.id) made));
      second = comma_of (blanks d.left) f.is;
      attributes-are = a.is ∙ ap (λ (x : Parts). got x a.left) (sym (ap (λ (y : Item). y.attributes) made));
      close = closing_of (blanks a.left) k.is ∙ ap (λ (x : List ℕ). 93 ∷ x) ends;
    }

module _ {line : List ℕ} {at : ℕ} (g : Good line at (entity_read (drop at line))) where
  it : Tripled (drop at line) g.what g.rest
  it = tripled (drop at line) g.is

  pub entity-past : at + 1 ≤ length line
  entity-past = omega (arith, byte-below line at it.bracket)

  module _ {a : ℕ} (b : Blanks line (at + 1) a) where
    at-type : {i : Item} {rest : List ℕ} (k : Tripled (drop at line) i rest) → string (drop a line) ≡ got i.type k.after-type
    at-type k = ap string (b.is ∙ ap blanks (byte_left line at k.bracket)) ∙ k.type-is

    pub type-good : Good line a (string (drop a line))
    type-good = record { what = g.what.type; rest = it.after-type; within = b.within; is = at-type it }

    module _ {t q : Tally} {e₁ : ℕ} (p : CountedTo line a t q e₁ (string (drop a line)) a_string) where
      first-comma : {i : Item} {rest : List ℕ} (k : Tripled (drop at line) i rest) → blanks (drop e₁ line) ≡ 44 ∷ k.to-id
      first-comma {i} k = ap blanks (sym (p.is i.type k.after-type (at-type k))) ∙ k.first

      pub type-signed : Signed line e₁
      type-signed = record { within = p.within; sign = 44; rest = it.to-id; is = first-comma it }

      module _ {w : ℕ} (v : Past line e₁ w) where
        at-id : {i : Item} {rest : List ℕ} (k : Tripled (drop at line) i rest) → string (drop w line) ≡ got i.id k.after-id
        at-id k = ap string (v.is 44 k.to-id (first-comma k)) ∙ k.id-is

        pub id-good : Good line w (string (drop w line))
        id-good = record { what = g.what.id; rest = it.after-id; within = v.within; is = at-id it }

        module _ {o : Tally} {e₂ : ℕ} (d : CountedTo line w q o e₂ (string (drop w line)) a_string) where
          second-comma : {i : Item} {rest : List ℕ} (k : Tripled (drop at line) i rest) → blanks (drop e₂ line) ≡ 44 ∷ k.to-attributes
          second-comma {i} k = ap blanks (sym (d.is i.id k.after-id (at-id k))) ∙ k.second

          pub id-signed : Signed line e₂
          id-signed = record { within = d.within; sign = 44; rest = it.to-attributes; is = second-comma it }

          module _ {x : ℕ} (y : Past line e₂ x) where
            at_fields : {i : Item} {rest : List ℕ} (k : Tripled (drop at line) i rest) → fields 31 (drop x line) ≡ got i.attributes k.left
            at_fields k = ap (fields 31) (y.is 44 k.to-attributes (second-comma k)) ∙ k.attributes-are

            pub attributes-good : Good line x (fields 31 (drop x line))
            attributes-good = record { what = g.what.attributes; rest = it.left; within = y.within; is = at_fields it }

            module _ {r : Tally} {e₃ : ℕ} (f : CountedTo line x o r e₃ (fields 31 (drop x line)) fields_size) where
              at-close : {i : Item} {rest : List ℕ} (k : Tripled (drop at line) i rest) → blanks (drop e₃ line) ≡ 93 ∷ rest
              at-close {i} k = ap blanks (sym (f.is i.attributes k.left (at_fields k))) ∙ k.close

              pub entity-signed : Signed line e₃
              entity-signed = record { within = f.within; sign = 93; rest = g.rest; is = at-close it }

              pub entity-told : {u : Tally} {e : ℕ} → Adds r (list_words 3) u → Behind line e₃ e → CountedTo line at t u e (entity_read (drop at line)) entity_size
              unfolding entity_size
              entity-told l c = record {
                from = omega (arith, b.from, p.from, v.from, d.from, y.from, f.from, c.from);
                within = c.within;
                is = λ what rest h. c.is 93 rest (at-close (tripled (drop at line) h));
                adds =
                    λ what rest h.
                    let k = tripled (drop at line) h in
                    adds_then (p.adds what.type k.after-type (at-type k)) (adds_then (d.adds what.id k.after-id (at-id k)) (adds_then (f.adds what.attributes k.left (at_fields k)) l));
              }

-- ---- entities

sizes-entities : (es : List Item) → sizes entity_size es ≡ counted_entities es
unfolding sizes entity_size counted_entities
sizes-entities [] = refl
sizes-entities (i ∷ others) =
    ap (λ (c : Count). entity_size i ⊞ c) (sizes-entities others)
    ∙ sum_assoc (a_string i.type) (a_string i.id ⊞ counted (Object i.attributes) ⊞ list_words 3) (counted_entities others)
    ∙ ap (λ (c : Count). a_string i.type ⊞ c) (sum_assoc (a_string i.id) (counted (Object i.attributes) ⊞ list_words 3) (counted_entities others))
    ∙ ap (λ (c : Count). a_string i.type ⊞ a_string i.id ⊞ c) (sum_assoc (counted (Object i.attributes)) (list_words 3) (counted_entities others))

abbrev pub Entities : List ℕ → ℕ → Tally → Tally → Result ℕ ℕ → Type 0
Entities line at t tally part = Turning 93 (ItemOf entity_read) entity_size line at t (array entity_read (drop at line)) tally part

listed : (line : List ℕ) (at : ℕ) (what : List Item) (rest : List ℕ) → array entity_read (drop at line) ≡ got what rest → Listed 93 (ItemOf entity_read) (drop at line) what rest
listed line at what rest e = array-listed entity_read (drop at line) e

module _ {line : List ℕ} {at : ℕ} (g : Good line at (array entity_read (drop at line))) where
  pub entities-signed : Signed line at
  entities-signed = loop_signed 93 (ItemOf entity_read) entity_size (listed line at) g

  pub entities-begun : {t : Tally} {x : Result ℕ ℕ} → BeginTold line at 93 x → Entities line at t t x
  entities-begun b = loop_begun 93 (ItemOf entity_read) entity_size (listed line at) g b

module _ {line : List ℕ} {at i : ℕ} {t tally : Tally} {y : Result ℕ ℕ} (g : Entities line at t tally y) (z : y ≡ Ok i) where
  pub entities-good : Good line i (entity_read (drop i line))
  entities-good = let k = g.next i z in let n = turn 93 (ItemOf entity_read) k.run in record { what = n.what; rest = n.after; within = k.within; is = n.part }

  module _ {r : Tally} {e : ℕ} (p : CountedTo line i tally r e (entity_read (drop i line)) entity_size) where
    one : PartTo 93 (ItemOf entity_read) entity_size line i tally e r
    one = record { from = p.from; within = p.within; is = λ a t e. p.is a t e; adds = λ a t e. p.adds a t e }

    pub entities-after : Signed line e
    entities-after = part-signed 93 (ItemOf entity_read) entity_size (g.next i z) one

    module _ {x : Result ℕ ℕ} (b : PartTold line e 93 x) where
      pub entities-again : Entities line at t r x
      entities-again = loop_again 93 (ItemOf entity_read) entity_size (g.next i z) one b

      pub entities-less : ahead line x < ahead line y
      entities-less = loop_less 93 (ItemOf entity_read) entity_size (g.next i z) one b z

pub entities-told : {line : List ℕ} {at k : ℕ} {t tally : Tally} {x : Result ℕ ℕ} → Entities line at t tally x → x ≡ Err k → CountedTo line at t tally k (array entity_read (drop at line)) counted_entities
entities-told g z = counted-as sizes-entities (loop_told 93 (ItemOf entity_read) entity_size g z)
