-- Arrays and objects read back as written, whatever their parts are, if each part is
use Rattle.std.specs.Prelude.{◌≡◌, Bool, not, eqb}
use Rattle.std.proofs.Math.Path.{refl, sym, ap}
use Rattle.std.proofs.Common.{◌∙◌, arith, length-append}
use Rattle.std.proofs.Math.Bool.{true, false}
use mathlib.Core.List.{List, [], ◌∷◌, ◌++◌, append_assoc, map}
use Rattle.std.proofs.Math.Option.{none, some}
use Prim.Native.Nat.{ℕ, zero, suc, ◌<◌, ◌≤◌}
use Rattle.std.proofs.Math.ListN.{length}
use Rattle.std.proofs.lemmas.List.{length-map}
use Rattle.meaning.specs.declared.Due.TheVariants.{Nothing}
use Rattle.meaning.specs.Tests.{◌and◌, ◌or◌, choose}
use Rattle.meaning.specs.Text.{utf8}
use Rattle.meaning.specs.Equal.{is_digit, same_list}
use Rattle.laws.specs.Tests.{both, no as otherwise}
use Rattle.encode.proofs.Laws.Read.{never}
use Rattle.jsontext.specs.Reading.{Read, got, then, is_blank, blanks, want}
use Rattle.jsontext.specs.Values.{Name, after_part, items, unless_empty, array, before, after_name, members, object}
use Rattle.jsontrace.specs.Writable.{fresh, distinct}
use Rattle.jsontrace.specs.Text.{quoted, after_first, commas, pair}
use Rattle.jsontrace.proofs.Laws.Numbers.{ends_number}
use Rattle.jsontrace.proofs.Laws.Strings.{string-text}

-- ---- what reads back

-- a text that begins no blank and no end, and is read as a whatever ends it
pub record Reads {A : Type 0} (item : List ℕ → Read A) (t : List ℕ) (a : A) : Type 0 where
  pub byte : ℕ
  pub others : List ℕ
  pub is : t ≡ byte ∷ others
  pub solid : is_blank byte ≡ false
  pub opens : eqb byte 93 ≡ false
  pub reads : (rest : List ℕ) → ends_number rest ≡ true → item (t ++ rest) ≡ got a rest

pub no-blanks : {A : Type 0} {item : List ℕ → Read A} {t : List ℕ} {a : A} → Reads item t a → (s : List ℕ) → blanks (t ++ s) ≡ t ++ s
unfolding blanks
no-blanks r s = rw r.is (otherwise _ r.solid refl)

-- what follows a part ends a number
unfoldable pub following : ℕ → List (List ℕ) → List ℕ → List ℕ
following close ts rest = after_first ts ++ close ∷ rest

after-ends : (close : ℕ) → ends_number (close ∷ []) ≡ true → (ts : List (List ℕ)) (rest : List ℕ) → ends_number (following close ts rest) ≡ true
unfolding following after_first ends_number ◌or◌ is_digit ◌and◌
after-ends close h [] rest = h
after-ends close h (t ∷ ts) rest = refl

bracket-ends : ends_number (93 ∷ []) ≡ true
unfolding ends_number ◌or◌ is_digit ◌and◌
bracket-ends = refl

brace-ends : ends_number (125 ∷ []) ≡ true
unfolding ends_number ◌or◌ is_digit ◌and◌
brace-ends = refl

bracket-solid : is_blank 93 ≡ false
unfolding is_blank ◌or◌
bracket-solid = refl

brace-solid : is_blank 125 ≡ false
unfolding is_blank ◌or◌
brace-solid = refl

-- after a part the bracket closes, or a comma leads to more
module _ {A : Type 0} (close : ℕ) (solid : is_blank close ≡ false) (own : eqb close close ≡ true) (other : eqb 44 close ≡ false) where
  last-part : (a : A) (more : List ℕ → Read (List A)) (rest : List ℕ) → after_part close a more (blanks (following close [] rest)) ≡ got (a ∷ []) rest
  unfolding following after_first blanks after_part choose
  last-part a more rest = rw (solid, own) refl

  more_parts : (a : A) (bs : List A) (more : List ℕ → Read (List A)) (t : List ℕ) (ts : List (List ℕ)) (rest : List ℕ) → blanks (commas (t ∷ ts) ++ close ∷ rest) ≡ commas (t ∷ ts) ++ close ∷ rest → more (commas (t ∷ ts) ++ close ∷ rest) ≡ got bs rest → after_part close a more (blanks (following close (t ∷ ts) rest)) ≡ got (a ∷ bs) rest
  unfolding following after_first commas after_part choose then blanks is_blank ◌or◌
  more_parts a bs more t ts rest b m = rw (other, b, m) refl

-- ---- arrays

pub record Entry {A : Type 0} (item : List ℕ → Read A) : Type 0 where
  pub text : List ℕ
  pub what : A
  pub reads : Reads item text what

module _ {A : Type 0} (item : List ℕ → Read A) where
  abbrev pub texts_of : List (Entry item) → List (List ℕ)
  texts_of es = map (λ e. e.text) es

  abbrev pub whats_of : List (Entry item) → List A
  whats_of es = map (λ e. e.what) es

  no-blanks-first : (e : Entry item) (ts : List (List ℕ)) (s : List ℕ) → blanks (commas (e.text ∷ ts) ++ s) ≡ commas (e.text ∷ ts) ++ s
  unfolding commas
  no-blanks-first e ts s =
      let z = append_assoc e.text (after_first ts) s in
      ap blanks z ∙ no-blanks e.reads (after_first ts ++ s) ∙ sym z

  one-item : (turns : ℕ) (e : Entry item) (ts : List (List ℕ)) (rest : List ℕ) → items item (suc turns) (commas (e.text ∷ ts) ++ 93 ∷ rest) ≡ after_part 93 e.what (λ t. items item turns t) (blanks (following 93 ts rest))
  unfolding items then commas following
  one-item turns e ts rest =
      ap (items item (suc turns)) (append_assoc e.text (after_first ts) (93 ∷ rest))
      ∙ rw (e.reads.reads (after_first ts ++ 93 ∷ rest) (after-ends 93 bracket-ends ts rest)) refl

  items-text : (turns : ℕ) (e : Entry item) (es : List (Entry item)) (rest : List ℕ) → length es < turns → items item turns (commas (texts_of (e ∷ es)) ++ 93 ∷ rest) ≡ got (whats_of (e ∷ es)) rest
  items-text zero e es rest h = absurd (omega arith)
  items-text (suc turns) e [] rest h = one-item turns e [] rest ∙ last-part 93 bracket-solid refl refl e.what (λ t. items item turns t) rest
  items-text (suc turns) e (f ∷ es) rest h =
      one-item turns e (texts_of (f ∷ es)) rest
      ∙ more_parts 93 bracket-solid refl refl e.what (whats_of (f ∷ es)) (λ t. items item turns t) f.text (texts_of es) rest (no-blanks-first f (texts_of es) (93 ∷ rest)) (items-text turns f es rest (omega arith))

-- a text for each comma
after-long : (ts : List (List ℕ)) → length ts ≤ length (after_first ts)
unfolding after_first
after-long [] = omega arith
after-long (t ∷ ts) = omega (arith, after-long ts, length-append t (after_first ts))

commas-long : (t : List ℕ) (ts : List (List ℕ)) (s : List ℕ) → length ts ≤ length (commas (t ∷ ts) ++ s)
unfolding commas
commas-long t ts s = omega (arith, after-long ts, length-append t (after_first ts), length-append (t ++ after_first ts) s)

pub array-text : {A : Type 0} (item : List ℕ → Read A) (es : List (Entry item)) (rest : List ℕ) → array item (commas (texts_of item es) ++ 93 ∷ rest) ≡ got (whats_of item es) rest
unfolding array
array-text item [] rest = unfold commas blanks is_blank ◌or◌ choose unless_empty in refl
array-text item (e ∷ es) rest =
    ap (unless_empty 93 (λ t. items item (suc (length t)) t)) (no-blanks-first item e (texts_of item es) (93 ∷ rest))
    ∙ begun
    ∙ items-text item (suc (length (commas (texts_of item (e ∷ es)) ++ 93 ∷ rest))) e es rest (omega (arith, commas-long e.text (texts_of item es) (93 ∷ rest), length-map es (λ (e : Entry item). e.text)))
  where
    begun : unless_empty 93 (λ t. items item (suc (length t)) t) (commas (texts_of item (e ∷ es)) ++ 93 ∷ rest) ≡ items item (suc (length (commas (texts_of item (e ∷ es)) ++ 93 ∷ rest))) (commas (texts_of item (e ∷ es)) ++ 93 ∷ rest)
    begun = unfold commas unless_empty in rw e.reads.is (otherwise _ e.reads.opens refl)

-- ---- objects

names_of : List Name → List (List ℕ)
names_of seen = map (λ n. n.name) seen

fresh-before : (n : List ℕ) (seen : List Name) → fresh n (names_of seen) ≡ true → before n seen ≡ none
unfolding fresh names_of before
fresh-before n [] h = refl
fresh-before n (m ∷ seen) h = go (same_list m.name n) h (λ e. fresh-before n seen e)
  where
    go : (b : Bool) → (not b and fresh n (names_of seen)) ≡ true → (fresh n (names_of seen) ≡ true → before n seen ≡ none) → choose b (some m.left) (before n seen) ≡ none
    go true h more = unfold ◌and◌ in never h
    go false h more = unfold ◌and◌ choose in more h

-- a member: its name, the text of its value, and what that is read as
pub record Member {A : Type 0} (known : List ℕ → Bool) (item : List ℕ → List ℕ → Read A) : Type 0 where
  pub name : List ℕ
  pub text : List ℕ
  pub what : A
  pub well : utf8 Nothing name ≡ true
  pub taken : known name ≡ true
  pub reads : Reads (item name) text what

module _ {A : Type 0} (known : List ℕ → Bool) (item : List ℕ → List ℕ → Read A) where
  abbrev pub pairs_of : List (Member known item) → List (List ℕ)
  pairs_of ms = map (λ m. pair m.name m.text) ms

  abbrev pub named_of : List (Member known item) → List (List ℕ × A)
  named_of ms = map (λ m. (m.name, m.what)) ms

  abbrev pub member_names : List (Member known item) → List (List ℕ)
  member_names ms = map (λ m. m.name) ms

  abbrev seen_with : Member known item → List ℕ → List Name → List Name
  seen_with m s seen = record { name = m.name; left = length s } ∷ seen

  name-first : (m : Member known item) (ts : List (List ℕ)) (s : List ℕ) → commas (pair m.name m.text ∷ ts) ++ s ≡ quoted m.name ++ 58 ∷ (m.text ++ (after_first ts ++ s))
  unfolding commas pair
  name-first m ts s =
      append_assoc (quoted m.name ++ 58 ∷ m.text) (after_first ts) s
      ∙ append_assoc (quoted m.name) (58 ∷ m.text) (after_first ts ++ s)

  name-read : (seen : List Name) (m : Member known item) (left : ℕ) (s : List ℕ) → before m.name seen ≡ none → after_name known seen (record { name = m.name; left = left }) (blanks (58 ∷ s)) ≡ got 58 s
  unfolding after_name want choose blanks is_blank ◌or◌
  name-read seen m left s b = rw (b, after_name) (rw m.taken refl)

  one-member : (turns : ℕ) (seen : List Name) (m : Member known item) (x : List ℕ) → before m.name seen ≡ none → ends_number x ≡ true → members known item (suc turns) seen (quoted m.name ++ 58 ∷ (m.text ++ x)) ≡ after_part 125 (m.name, m.what) (λ t. members known item turns (seen_with m (quoted m.name ++ 58 ∷ (m.text ++ x)) seen) t) (blanks x)
  unfolding members then
  one-member turns seen m x b h =
      rw (string-text m.name (58 ∷ (m.text ++ x)) m.well, name-read seen m (length (quoted m.name ++ 58 ∷ (m.text ++ x))) (m.text ++ x) b, no-blanks m.reads x, m.reads.reads x h) refl

  no-blanks-name : (m : Member known item) (ts : List (List ℕ)) (s : List ℕ) → blanks (commas (pair m.name m.text ∷ ts) ++ s) ≡ commas (pair m.name m.text ∷ ts) ++ s
  unfolding commas pair quoted blanks is_blank ◌or◌ choose
  no-blanks-name m ts s = refl

  members-text : (turns : ℕ) (seen : List Name) (m : Member known item) (ms : List (Member known item)) (rest : List ℕ) → length ms < turns → distinct (names_of seen) (member_names (m ∷ ms)) ≡ true → members known item turns seen (commas (pairs_of (m ∷ ms)) ++ 125 ∷ rest) ≡ got (named_of (m ∷ ms)) rest
  unfolding distinct names_of
  members-text zero seen m ms rest h d = absurd (omega arith)
  members-text (suc turns) seen m ms rest h d =
      let parts = both (fresh m.name (names_of seen)) _ d in
      ap (members known item (suc turns) seen) (name-first m (pairs_of ms) (125 ∷ rest))
      ∙ one-member turns seen m (after_first (pairs_of ms) ++ 125 ∷ rest) (fresh-before m.name seen parts.0) (unfold following in after-ends 125 brace-ends (pairs_of ms) rest)
      ∙ go ms h parts.1 (λ k ks s l e. members-text turns (seen_with m s seen) k ks rest l e) (quoted m.name ++ 58 ∷ (m.text ++ (after_first (pairs_of ms) ++ 125 ∷ rest)))
    where
      go : (ms : List (Member known item)) → length ms < suc turns → distinct (m.name ∷ names_of seen) (member_names ms) ≡ true → ((k : Member known item) (ks : List (Member known item)) (s : List ℕ) → length ks < turns → distinct (m.name ∷ names_of seen) (member_names (k ∷ ks)) ≡ true → members known item turns (seen_with m s seen) (commas (pairs_of (k ∷ ks)) ++ 125 ∷ rest) ≡ got (named_of (k ∷ ks)) rest) → (s : List ℕ) → after_part 125 (m.name, m.what) (λ t. members known item turns (seen_with m s seen) t) (blanks (after_first (pairs_of ms) ++ 125 ∷ rest)) ≡ got (named_of (m ∷ ms)) rest
      go [] h d more s = unfold following in last-part 125 brace-solid refl refl (m.name, m.what) (λ t. members known item turns (seen_with m s seen) t) rest
      go (k ∷ ks) h d more s =
          unfold following in
          more_parts 125 brace-solid refl refl (m.name, m.what) (named_of (k ∷ ks)) (λ t. members known item turns (seen_with m s seen) t) (pair k.name k.text) (pairs_of ks) rest (no-blanks-name k (pairs_of ks) (125 ∷ rest)) (more k ks s (omega arith) d)

pub object-text : {A : Type 0} (known : List ℕ → Bool) (item : List ℕ → List ℕ → Read A) (ms : List (Member known item)) (rest : List ℕ) → distinct [] (member_names known item ms) ≡ true → object known item (commas (pairs_of known item ms) ++ 125 ∷ rest) ≡ got (named_of known item ms) rest
unfolding object
object-text known item [] rest d = unfold commas blanks is_blank ◌or◌ choose unless_empty in refl
object-text known item (m ∷ ms) rest d =
    ap (unless_empty 125 (λ t. members known item (suc (length t)) [] t)) (no-blanks-name known item m (pairs_of known item ms) (125 ∷ rest))
    ∙ begun
    ∙ members-text known item (suc (length (commas (pairs_of known item (m ∷ ms)) ++ 125 ∷ rest))) [] m ms rest (omega (arith, commas-long (pair m.name m.text) (pairs_of known item ms) (125 ∷ rest), length-map ms (λ (m : Member known item). pair m.name m.text))) (unfold names_of in d)
  where
    begun : unless_empty 125 (λ t. members known item (suc (length t)) [] t) (commas (pairs_of known item (m ∷ ms)) ++ 125 ∷ rest) ≡ members known item (suc (length (commas (pairs_of known item (m ∷ ms)) ++ 125 ∷ rest))) [] (commas (pairs_of known item (m ∷ ms)) ++ 125 ∷ rest)
    begun = unfold commas pair quoted unless_empty choose in refl
