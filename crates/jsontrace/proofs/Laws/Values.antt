-- A value reads back as written
use Rattle.std.specs.Prelude.{◌≡◌, Bool, not, ℕ, zero, suc, ◌≤◌, ℤ, eqb}
use Rattle.std.proofs.Math.Path.{refl, ap}
use Rattle.std.proofs.Common.{sym, ◌∙◌, arith}
use Rattle.std.proofs.Math.Bool.{true, false}
use mathlib.Core.List.{List, [], ◌∷◌, ◌++◌, append_assoc}
use borrow.Author.Tests.{ne_eqb}
use Rattle.meaning.specs.Tests.{◌and◌, ◌or◌, choose}
use Rattle.meaning.specs.Text.{first, next, ended, utf8}
use Rattle.meaning.specs.Equal.{is_digit, same_list}
use Rattle.laws.specs.Tests.{both, yes, no as otherwise}
use Rattle.encode.proofs.Laws.Read.{never}
use Rattle.jsontext.specs.declared.Fault.TheVariants.{BadField}
use Rattle.jsontext.specs.declared.Form.{Form}
use Rattle.jsontext.specs.declared.Form.TheVariants.{Plain, Entity, Extension}
use Rattle.jsontext.specs.declared.Side.TheVariants.{Outside}
use Rattle.jsontext.specs.Reading.{Read, got, then, mapped, is_blank, blanks, want}
use Rattle.jsontext.specs.Numbers.{number}
use Rattle.jsontext.specs.Strings.{string}
use Rattle.jsontext.specs.Values.{J, Null, Truth, Int, Text, EntityOf, Decimal, Array, Object, Parts, end, part, numeral, due, text, array, object, member_of, item_parts, member_parts, closes_first, form_named, form_after, form, only, both as both·Values, entity, argument, extension, spelt, plain, braced, value_of, value, __entity, «type», «id», __extn, «fn», «arg», «decimal»}
use Rattle.jsontrace.specs.Text.{escaped, quoted, integer, after_first, commas, brackets, braces, pair, shown, shown_items, shown_members}
use Rattle.jsontrace.specs.Export.{form_name, not_form}
use Rattle.jsontrace.specs.Writable.{fits64, well, fresh, distinct, part_names, writable, writable_items, writable_members, deep, deep_parts}
use Rattle.jsontrace.proofs.Laws.Numbers.{ends_number, Begun, begun, number-text}
use Rattle.jsontrace.proofs.Laws.Strings.{string-text}
use Rattle.jsontrace.proofs.Laws.Ahead.{Passed, shown-passed, quoted-passed, braces-passed, pair-passed}
use Rattle.jsontrace.proofs.Laws.Parts.{Reads, Entry, texts_of, whats_of, array-text, Member, pairs_of, named_of, member_names, object-text}

-- ---- leaves

null_reads : (levels : ℕ) → 1 ≤ levels → Reads (value levels) (shown Null) Null
unfolding shown is_blank ◌or◌
null_reads zero h = absurd (omega arith)
null_reads (suc levels) h = record {
  byte = 110;
  others = 117 ∷ 108 ∷ 108 ∷ [];
  is = refl;
  solid = refl;
  opens = refl;
  reads = λ rest e. unfold value value_of choose spelt want then in refl;
}

truth_reads : (levels : ℕ) (b : Bool) → 1 ≤ levels → Reads (value levels) (shown (Truth b)) (Truth b)
unfolding shown is_blank ◌or◌ choose
truth_reads zero b h = absurd (omega arith)
truth_reads (suc levels) true h = record {
  byte = 116;
  others = 114 ∷ 117 ∷ 101 ∷ [];
  is = refl;
  solid = refl;
  opens = refl;
  reads = λ rest e. unfold value value_of choose spelt want then in refl;
}
truth_reads (suc levels) false h = record {
  byte = 102;
  others = 97 ∷ 108 ∷ 115 ∷ 101 ∷ [];
  is = refl;
  solid = refl;
  opens = refl;
  reads = λ rest e. unfold value value_of choose spelt want then in refl;
}

-- a string, where one is due or a value is
quoted-opens : (t : List ℕ) → quoted t ≡ 34 ∷ escaped t ++ (34 ∷ [])
unfolding quoted
quoted-opens t = refl

pub text-reads : (t : List ℕ) → well t ≡ true → Reads text (quoted t) t
unfolding quoted is_blank ◌or◌
text-reads t u = record {
  byte = 34;
  others = escaped t ++ (34 ∷ []);
  is = refl;
  solid = refl;
  opens = refl;
  reads = λ rest e. (unfold due choose in string-text t rest u);
}

string-reads : (levels : ℕ) (t : List ℕ) → 1 ≤ levels → well t ≡ true → Reads (value levels) (quoted t) (Text t)
unfolding quoted is_blank ◌or◌
string-reads zero t h u = absurd (omega arith)
string-reads (suc levels) t h u = record {
  byte = 34;
  others = escaped t ++ (34 ∷ []);
  is = refl;
  solid = refl;
  opens = refl;
  reads = λ rest e. (unfold value value_of choose then in ap (λ (m : Read (List ℕ)). mapped Text m) (string-text t rest u));
}

-- ---- integers

-- a byte from 45 to 57 is none of the others
int-value : (levels c : ℕ) (s : List ℕ) → 45 ≤ c → c ≤ 57 → (eqb c 45 or is_digit c) ≡ true → value (suc levels) (c ∷ s) ≡ mapped Int (number (c ∷ s))
unfolding value value_of numeral choose
int-value levels c s l h n =
    rw (no 123 (λ e. absurd (omega arith)), no 91 (λ e. absurd (omega arith)), no 34 (λ e. absurd (omega arith)), no 116 (λ e. absurd (omega arith)), no 102 (λ e. absurd (omega arith)), no 110 (λ e. absurd (omega arith)), n) refl
  where
    no : (k : ℕ) → (c ≡ k → ⊥) → eqb c k ≡ false
    no k f = ne_eqb c k f

int-reads : (levels : ℕ) (z : ℤ) → 1 ≤ levels → fits64 z ≡ true → Reads (value levels) (integer z) (Int z)
int-reads zero z h f = absurd (omega arith)
int-reads (suc levels) z h f =
    let b = begun z in
    record {
      byte = b.byte;
      others = b.others;
      is = b.is;
      solid = unfold is_blank ◌or◌ in rw (ne_eqb b.byte 32 (λ e. absurd (omega (arith, b.low))), ne_eqb b.byte 9 (λ e. absurd (omega (arith, b.low))), ne_eqb b.byte 13 (λ e. absurd (omega (arith, b.low)))) refl;
      opens = ne_eqb b.byte 93 (λ e. absurd (omega (arith, b.high)));
      reads = reads b;
    }
  where
    reads : Begun z → (rest : List ℕ) → ends_number rest ≡ true → value (suc levels) (integer z ++ rest) ≡ got (Int z) rest
    reads b rest e =
        ap (λ (t : List ℕ). value (suc levels) (t ++ rest)) b.is
        ∙ int-value levels b.byte (b.others ++ rest) b.low b.high b.numeral
        ∙ ap (λ (t : List ℕ). mapped Int (number (t ++ rest))) (sym b.is)
        ∙ (unfold then in ap (λ (m : Read ℤ). mapped Int m) (number-text z rest f e))

-- ---- which form an object is read as

-- the first name, then what its value leaves
form-first : (n t : List ℕ) → well n ≡ true → Passed t → (s : List ℕ) → form (quoted n ++ 58 ∷ (t ++ s)) ≡ choose (closes_first Outside 0 s) (form_named n) Plain
unfolding form choose
form-first n t u p s = rw (start, form) (rw (string-text n (58 ∷ (t ++ s)) u, form) after)
  where
    start : blanks (quoted n ++ 58 ∷ (t ++ s)) ≡ quoted n ++ 58 ∷ (t ++ s)
    start = unfold quoted blanks is_blank ◌or◌ choose in refl

    after : form_after n (blanks (58 ∷ (t ++ s))) ≡ choose (closes_first Outside 0 s) (form_named n) Plain
    after = unfold blanks is_blank ◌or◌ choose form_after ◌and◌ in ap (λ (b : Bool). choose b (form_named n) Plain) (p.over 0 s)

pair-first : (n t : List ℕ) (ts : List (List ℕ)) (s : List ℕ) → commas (pair n t ∷ ts) ++ s ≡ quoted n ++ 58 ∷ (t ++ (after_first ts ++ s))
unfolding commas pair
pair-first n t ts s = append_assoc (quoted n ++ 58 ∷ t) (after_first ts) s ∙ append_assoc (quoted n) (58 ∷ t) (after_first ts ++ s)

form-only : (n t rest : List ℕ) → well n ≡ true → Passed t → form (commas (pair n t ∷ []) ++ 125 ∷ rest) ≡ form_named n
unfolding after_first
form-only n t rest u p =
    ap form (pair-first n t [] (125 ∷ rest))
    ∙ form-first n t u p (125 ∷ rest)
    ∙ ap (λ (b : Bool). choose b (form_named n) Plain) closes
    ∙ yes Plain refl
  where
    closes : closes_first Outside 0 (125 ∷ rest) ≡ true
    closes = unfold closes_first choose ◌or◌ in refl

form_several : (n t u : List ℕ) (us : List (List ℕ)) (rest : List ℕ) → well n ≡ true → Passed t → form (commas (pair n t ∷ u ∷ us) ++ 125 ∷ rest) ≡ Plain
form_several n t u us rest w p =
    ap form (pair-first n t (u ∷ us) (125 ∷ rest))
    ∙ form-first n t w p (after_first (u ∷ us) ++ 125 ∷ rest)
    ∙ otherwise (form_named n) closes refl
  where
    closes : closes_first Outside 0 (after_first (u ∷ us) ++ 125 ∷ rest) ≡ false
    closes = unfold after_first closes_first choose ◌or◌ in refl

form-none : (rest : List ℕ) → form (commas [] ++ 125 ∷ rest) ≡ Plain
unfolding commas form blanks is_blank ◌or◌ choose string want then
form-none rest = refl

not_named : (n : List ℕ) → not (form_name n) ≡ true → form_named n ≡ Plain
unfolding form_name form_named
not_named n h = go (same_list n __entity) (same_list n __extn) h
  where
    go : (a b : Bool) → not (a or b) ≡ true → choose a Entity (choose b Extension Plain) ≡ Plain
    go true b h = unfold ◌or◌ in never h
    go false true h = unfold ◌or◌ in never h
    go false false h = unfold choose in refl

pub object-plain : (ps : Parts) (rest : List ℕ) → not_form ps ≡ true → writable_members ps ≡ true → form (commas (shown_members ps) ++ 125 ∷ rest) ≡ Plain
unfolding not_form writable_members shown_members
object-plain end rest h w = form-none rest
object-plain (part n j end) rest h w = form-only n (shown j) rest (both (well n) _ w).0 (shown-passed j) ∙ not_named n h
object-plain (part n j (part m k ps)) rest h w = form_several n (shown j) _ _ rest (both (well n) _ w).0 (shown-passed j)

-- ---- objects and Cedar's forms

braced-value : (levels : ℕ) (ts : List (List ℕ)) (rest : List ℕ) → value (suc levels) (braces ts ++ rest) ≡ braced (λ t. value levels t) (form (commas ts ++ 125 ∷ rest)) (commas ts ++ 125 ∷ rest)
unfolding value value_of choose braces
braced-value levels ts rest = ap (λ (s : List ℕ). braced (λ t. value levels t) (form s) s) (append_assoc (commas ts) (125 ∷ []) rest)

-- the only member, whose value is an object
only-text : (n others : List ℕ) (inside : List ℕ → Read J) (j : J) (rest : List ℕ) → well n ≡ true → inside ((123 ∷ others) ++ 125 ∷ rest) ≡ got j (125 ∷ rest) → only inside (quoted n ++ 58 ∷ ((123 ∷ others) ++ 125 ∷ rest)) ≡ got j rest
unfolding only then
only-text n others inside j rest u e =
    rw (start, string-text n (58 ∷ ((123 ∷ others) ++ 125 ∷ rest)) u, colon, opened, e, closed) refl
  where
    start : blanks (quoted n ++ 58 ∷ ((123 ∷ others) ++ 125 ∷ rest)) ≡ quoted n ++ 58 ∷ ((123 ∷ others) ++ 125 ∷ rest)
    start = unfold quoted blanks is_blank ◌or◌ choose in refl

    colon : want 58 (blanks (58 ∷ ((123 ∷ others) ++ 125 ∷ rest))) ≡ got 58 ((123 ∷ others) ++ 125 ∷ rest)
    colon = unfold want blanks is_blank ◌or◌ choose in refl

    opened : due BadField (λ c. eqb c 123) inside (blanks ((123 ∷ others) ++ 125 ∷ rest)) ≡ inside ((123 ∷ others) ++ 125 ∷ rest)
    opened = unfold due blanks is_blank ◌or◌ choose in refl

    closed : want 125 (blanks (125 ∷ rest)) ≡ got 125 rest
    closed = unfold want blanks is_blank ◌or◌ choose in refl

pub braces-reads : {A : Type 0} (item : List ℕ → Read A) (ts : List (List ℕ)) (a : A) → ((rest : List ℕ) → ends_number rest ≡ true → item (braces ts ++ rest) ≡ got a rest) → Reads item (braces ts) a
braces-reads item ts a r = record {
  byte = 123;
  others = commas ts ++ (125 ∷ []);
  is = unfold braces in refl;
  solid = unfold is_blank ◌or◌ in refl;
  opens = refl;
  reads = r;
}

form-reads : (levels : ℕ) (n : List ℕ) (ts : List (List ℕ)) (inside : List ℕ → Read J) (f : Form) (j : J) → well n ≡ true → Passed (braces ts) → form_named n ≡ f → ((s : List ℕ) → braced (λ t. value levels t) f s ≡ only inside s) → ((x : List ℕ) → inside (braces ts ++ x) ≡ got j x) → Reads (value (suc levels)) (braces (pair n (braces ts) ∷ [])) j
form-reads levels n ts inside f j u p named by reads =
    braces-reads (value (suc levels)) (pair n (braces ts) ∷ []) j (λ rest e.
    braced-value levels (pair n (braces ts) ∷ []) rest
    ∙ ap (λ (g : Form). braced (λ t. value levels t) g (commas (pair n (braces ts) ∷ []) ++ 125 ∷ rest)) (form-only n (braces ts) rest u p ∙ named)
    ∙ by (commas (pair n (braces ts) ∷ []) ++ 125 ∷ rest)
    ∙ ap (only inside) (pair-first n (braces ts) [] (125 ∷ rest))
    ∙ (unfold braces after_first in only-text n (commas ts ++ (125 ∷ [])) inside j rest u (reads (125 ∷ rest))))

-- ---- entities

-- the names inside Cedar's forms
abbrev entity_name : List ℕ → Bool
entity_name n = same_list n «type» or same_list n «id»

abbrev extension_name : List ℕ → Bool
extension_name n = same_list n «fn» or same_list n «arg»

well-type : well «type» ≡ true
unfolding utf8 next first ended choose
well-type = refl

well-id : well «id» ≡ true
unfolding utf8 next first ended choose
well-id = refl

well-entity : well __entity ≡ true
unfolding utf8 next first ended choose
well-entity = refl

well_fn : well «fn» ≡ true
unfolding utf8 next first ended choose
well_fn = refl

well_arg : well «arg» ≡ true
unfolding utf8 next first ended choose
well_arg = refl

well-decimal : well «decimal» ≡ true
unfolding utf8 next first ended choose
well-decimal = refl

well_extn : well __extn ≡ true
unfolding utf8 next first ended choose
well_extn = refl

type-member : (t : List ℕ) → well t ≡ true → Member entity_name (λ n s. text s)
unfolding same_list ◌and◌ ◌or◌
type-member t u = record { name = «type»; text = quoted t; what = t; well = well-type; taken = refl; reads = text-reads t u }

id-member : (t : List ℕ) → well t ≡ true → Member entity_name (λ n s. text s)
unfolding same_list ◌and◌ ◌or◌
id-member t u = record { name = «id»; text = quoted t; what = t; well = well-id; taken = refl; reads = text-reads t u }

-- inside a form the members are read, then both are taken
inside-text : {A : Type 0} (known : List ℕ → Bool) (item : List ℕ → List ℕ → Read A) (ms : List (Member known item)) (x : List ℕ) → distinct [] (member_names known item ms) ≡ true → (more : List (List ℕ × A) → List ℕ → Read J) → then (want 123 (braces (pairs_of known item ms) ++ x)) (λ brace rest. then (object known item rest) more) ≡ more (named_of known item ms) x
unfolding want then braces choose
inside-text known item ms x d more =
    rw (append_assoc (commas (pairs_of known item ms)) (125 ∷ []) x, object-text known item ms x d) refl

entity-inside : (t i : List ℕ) → well t ≡ true → well i ≡ true → (x : List ℕ) → entity (braces (pair «type» (quoted t) ∷ pair «id» (quoted i) ∷ []) ++ x) ≡ got (EntityOf t i) x
unfolding entity type-member id-member member_of same_list ◌and◌ choose both·Values distinct fresh
entity-inside t i u v x =
    inside-text entity_name (λ n s. text s) (type-member t u ∷ id-member i v ∷ []) x refl (λ ms rest. both·Values EntityOf (member_of «type» ms) (member_of «id» ms) rest)

entity-reads : (levels : ℕ) (t i : List ℕ) → 1 ≤ levels → well t ≡ true → well i ≡ true → Reads (value levels) (shown (EntityOf t i)) (EntityOf t i)
unfolding shown
entity-reads zero t i h u v = absurd (omega arith)
entity-reads (suc levels) t i h u v =
    form-reads levels __entity (pair «type» (quoted t) ∷ pair «id» (quoted i) ∷ []) entity Entity (EntityOf t i) well-entity
    (braces-passed _ (pair-passed «type» _ (quoted-passed t), (pair-passed «id» _ (quoted-passed i), tt)))
    (unfold form_named same_list ◌and◌ choose in refl)
    (λ s. (unfold braced in refl))
    (entity-inside t i u v)

-- ---- decimals

argument-reads : (n t : List ℕ) → well t ≡ true → (same_list n «fn» and not (same_list t «decimal»)) ≡ false → Reads (argument n) (quoted t) t
argument-reads n t u h =
    let r = text-reads t u in
    record { byte = r.byte; others = r.others; is = r.is; solid = r.solid; opens = r.opens; reads = reads }
  where
    reads : (rest : List ℕ) → ends_number rest ≡ true → argument n (quoted t ++ rest) ≡ got t rest
    reads rest e = unfold argument then choose in rw ((text-reads t u).reads rest e, h) refl

fn_member : Member extension_name argument
unfolding same_list ◌and◌ ◌or◌
fn_member = record { name = «fn»; text = quoted «decimal»; what = «decimal»; well = well_fn; taken = refl; reads = argument-reads «fn» «decimal» well-decimal refl }

arg_member : (t : List ℕ) → well t ≡ true → Member extension_name argument
unfolding same_list ◌and◌ ◌or◌
arg_member t u = record { name = «arg»; text = quoted t; what = t; well = well_arg; taken = refl; reads = argument-reads «arg» t u refl }

extension-inside : (t : List ℕ) → well t ≡ true → (x : List ℕ) → extension (braces (pair «fn» (quoted «decimal») ∷ pair «arg» (quoted t) ∷ []) ++ x) ≡ got (Decimal t) x
unfolding extension fn_member arg_member member_of same_list ◌and◌ choose both·Values distinct fresh
extension-inside t u x =
    inside-text extension_name argument (fn_member ∷ arg_member t u ∷ []) x refl (λ ms rest. both·Values (λ f a. Decimal a) (member_of «fn» ms) (member_of «arg» ms) rest)

decimal-reads : (levels : ℕ) (t : List ℕ) → 1 ≤ levels → well t ≡ true → Reads (value levels) (shown (Decimal t)) (Decimal t)
unfolding shown
decimal-reads zero t h u = absurd (omega arith)
decimal-reads (suc levels) t h u =
    form-reads levels __extn (pair «fn» (quoted «decimal») ∷ pair «arg» (quoted t) ∷ []) extension Extension (Decimal t) well_extn
    (braces-passed _ (pair-passed «fn» _ (quoted-passed «decimal»), (pair-passed «arg» _ (quoted-passed t), tt)))
    (unfold form_named same_list ◌and◌ choose in refl)
    (λ s. (unfold braced in refl))
    (extension-inside t u)

-- ---- arrays and objects

pub record ItemsOf (levels : ℕ) (ps : Parts) : Type 0 where
  pub entries : List (Entry (value levels))
  pub texts : texts_of (value levels) entries ≡ shown_items ps
  pub parts : item_parts (whats_of (value levels) entries) ≡ ps

abbrev pub any_name : List ℕ → Bool
any_name n = true

abbrev pub valued : ℕ → List ℕ → List ℕ → Read J
valued levels n t = value levels t

pub record MembersOf (levels : ℕ) (ps : Parts) : Type 0 where
  pub entries : List (Member any_name (valued levels))
  pub texts : pairs_of any_name (valued levels) entries ≡ shown_members ps
  pub parts : member_parts (named_of any_name (valued levels) entries) ≡ ps
  pub names : member_names any_name (valued levels) entries ≡ part_names ps

array-value : (levels : ℕ) (ts : List (List ℕ)) (rest : List ℕ) → value (suc levels) (brackets ts ++ rest) ≡ mapped (λ js. Array (item_parts js)) (array (λ t. value levels t) (commas ts ++ 93 ∷ rest))
unfolding value value_of choose brackets
array-value levels ts rest = ap (λ (s : List ℕ). mapped (λ js. Array (item_parts js)) (array (λ t. value levels t) s)) (append_assoc (commas ts) (93 ∷ []) rest)

array-reads : (levels : ℕ) (ps : Parts) → ItemsOf levels ps → Reads (value (suc levels)) (shown (Array ps)) (Array ps)
unfolding shown
array-reads levels ps is = record {
  byte = 91;
  others = commas (shown_items ps) ++ (93 ∷ []);
  is = unfold brackets in refl;
  solid = unfold is_blank ◌or◌ in refl;
  opens = refl;
  reads = λ rest e.
      array-value levels (shown_items ps) rest
      ∙ ap (λ (ts : List (List ℕ)). mapped (λ js. Array (item_parts js)) (array (λ t. value levels t) (commas ts ++ 93 ∷ rest))) (sym is.texts)
      ∙ ap (λ (m : Read (List J)). mapped (λ js. Array (item_parts js)) m) (array-text (value levels) is.entries rest)
      ∙ (unfold then in ap (λ (qs : Parts). got (Array qs) rest) is.parts);
}

-- the members of an object that is no form
pub members-read : (levels : ℕ) (ps : Parts) → MembersOf levels ps → distinct [] (part_names ps) ≡ true → (rest : List ℕ) → plain (λ t. value levels t) (commas (shown_members ps) ++ 125 ∷ rest) ≡ got ps rest
unfolding then
members-read levels ps ms d rest =
    ap (λ (ts : List (List ℕ)). plain (λ t. value levels t) (commas ts ++ 125 ∷ rest)) (sym ms.texts)
    ∙ ap (λ (m : Read (List (List ℕ × J))). mapped member_parts m) (object-text any_name (valued levels) ms.entries rest (ap (distinct []) ms.names ∙ d))
    ∙ ap (λ (qs : Parts). got qs rest) ms.parts

object-reads : (levels : ℕ) (ps : Parts) → MembersOf levels ps → distinct [] (part_names ps) ≡ true → not_form ps ≡ true → writable_members ps ≡ true → Reads (value (suc levels)) (shown (Object ps)) (Object ps)
unfolding shown
object-reads levels ps ms d f w = braces-reads (value (suc levels)) (shown_members ps) (Object ps) reads
  where
    reads : (rest : List ℕ) → ends_number rest ≡ true → value (suc levels) (braces (shown_members ps) ++ rest) ≡ got (Object ps) rest
    reads rest e =
        braced-value levels (shown_members ps) rest
        ∙ ap (λ (g : Form). braced (λ t. value levels t) g (commas (shown_members ps) ++ 125 ∷ rest)) (object-plain ps rest f w)
        ∙ (unfold braced then in ap (λ (m : Read Parts). mapped Object m) (members-read levels ps ms d rest))

-- ---- values, by induction

no_items : (levels : ℕ) → ItemsOf levels end
unfolding shown_items item_parts
no_items levels = record { entries = []; texts = refl; parts = refl }

same-empty : (n : List ℕ) → same_list n [] ≡ true → n ≡ []
unfolding same_list
same-empty [] h = refl
same-empty (c ∷ n) h = never h

one-more-item : (levels : ℕ) (n : List ℕ) (j : J) (ps : Parts) → same_list n [] ≡ true → Reads (value levels) (shown j) j → ItemsOf levels ps → ItemsOf levels (part n j ps)
unfolding shown_items item_parts
one-more-item levels n j ps e r more = record {
  entries = record { text = shown j; what = j; reads = r } ∷ more.entries;
  texts = ap (λ (ts : List (List ℕ)). shown j ∷ ts) more.texts;
  parts = ap (part [] j) more.parts ∙ ap (λ (m : List ℕ). part m j ps) (sym (same-empty n e));
}

no-members : (levels : ℕ) → MembersOf levels end
unfolding shown_members member_parts part_names
no-members levels = record { entries = []; texts = refl; parts = refl; names = refl }

one-more-member : (levels : ℕ) (n : List ℕ) (j : J) (ps : Parts) → well n ≡ true → Reads (value levels) (shown j) j → MembersOf levels ps → MembersOf levels (part n j ps)
unfolding shown_members member_parts part_names
one-more-member levels n j ps u r more = record {
  entries = record { name = n; text = shown j; what = j; well = u; taken = refl; reads = r } ∷ more.entries;
  texts = ap (λ (ts : List (List ℕ)). pair n (shown j) ∷ ts) more.texts;
  parts = ap (part n j) more.parts;
  names = ap (λ (ns : List (List ℕ)). n ∷ ns) more.names;
}

mutual
  unfolding writable deep shown

  -- a value that can be written is read as itself, with levels enough
  pub value-reads : (j : J) (levels : ℕ) → writable j ≡ true → deep j ≤ levels → Reads (value levels) (shown j) j
  value-reads Null levels w d = null_reads levels d
  value-reads (Truth b) levels w d = truth_reads levels b d
  value-reads (Int z) levels w d = int-reads levels z d w
  value-reads (Text t) levels w d = string-reads levels t d w
  value-reads (EntityOf t i) levels w d = let p = both (well t) (well i) w in entity-reads levels t i d p.0 p.1
  value-reads (Decimal t) levels w d = decimal-reads levels t d w
  value-reads (Array ps) zero w d = absurd (omega arith)
  value-reads (Array ps) (suc levels) w d = array-reads levels ps (items-read ps levels w (omega arith))
  value-reads (Object ps) zero w d = absurd (omega arith)
  value-reads (Object ps) (suc levels) w d =
      let p = both (distinct [] (part_names ps)) (not_form ps and writable_members ps) w in
      let q = both (not_form ps) (writable_members ps) p.1 in
      object-reads levels ps (parts-read ps levels q.1 (omega arith)) p.0 q.0 q.1

  items-read : (ps : Parts) (levels : ℕ) → writable_items ps ≡ true → deep_parts ps ≤ levels → ItemsOf levels ps
  items-read end levels w d = no_items levels
  items-read (part n j ps) levels w d =
      let p = both (same_list n []) (writable j and writable_items ps) w in
      let q = both (writable j) (writable_items ps) p.1 in
      one-more-item levels n j ps p.0 (value-reads j levels q.0 (omega arith)) (items-read ps levels q.1 (omega arith))

  pub parts-read : (ps : Parts) (levels : ℕ) → writable_members ps ≡ true → deep_parts ps ≤ levels → MembersOf levels ps
  parts-read end levels w d = no-members levels
  parts-read (part n j ps) levels w d =
      let p = both (well n) (writable j and writable_members ps) w in
      let q = both (writable j) (writable_members ps) p.1 in
      one-more-member levels n j ps p.0 (value-reads j levels q.0 (omega arith)) (parts-read ps levels q.1 (omega arith))
