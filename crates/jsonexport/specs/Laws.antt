-- Parts of a line added up to a limit
use Rattle.std.specs.Prelude.{◌≡◌, Bool, ℕ, zero, suc, ◌+◌, ◌*◌, ◌<◌, ◌≤◌, min, eqb, leb, ltb}
use Rattle.std.proofs.Math.Path.{refl, ap}
use Rattle.std.proofs.Common.{sym, ◌∙◌, arith, add-one, to_z}
use Rattle.std.proofs.Math.Bool.{true, false}
use mathlib.Core.List.{List, [], ◌∷◌, ◌++◌}
use Rattle.std.proofs.Math.ListN.{length, get_or, length-append}
use Rattle.std.specs.Int.{w64}
use borrow.Author.Tests.{eq-eqb, ne_eqb, leb-true, leb-false, ltb-true}
use Rattle.meaning.specs.Tests.{◌and◌, ◌or◌, choose}
use Rattle.meaning.specs.Case.{nothing, strings, values, points, lists, list, text, point_word}
use Rattle.meaning.specs.Check.{Checked, is_string, maybe_value, string_run, entity_rule, in_table}
use Rattle.meaning.specs.Text.{free}
use Rattle.laws.specs.Tests.{Filled, yes, no, both, all-at}
use Rattle.laws.specs.Checked.{rules, values-most}
use Rattle.stringcheck.specs.Mosts.{string-most}
use Rattle.jsontrace.specs.Text.{quoted, integer}
use Rattle.jsonput.specs.Runs.{comma, run_text, run_long_lem, run-most}
use Rattle.jsonput.specs.Values.{value_text}
use Rattle.jsonput.specs.Laws.Values.{comma-is}
use Rattle.jsonpoints.specs.Lines.{time_piece, space_piece, action_piece, kind_piece, logged_piece, context_piece, principal_piece, resource_piece, last_piece, word_text, type_text, id_text, object_text, entity_text, maybe_text, time_text, space_text, head_text, names_text, first_text, records_text, parties_text, entities_text, rest_text, second_text, fields_text, line_text, lines_text}
use Rattle.jsonclear.specs.Laws.Points.{fine, entity-rule}
use Rattle.jsonsizes.specs.Sizes.{string_long, value_long}
use Rattle.jsonexport.specs.Long.{Spelled, Sized, Maybe, maybe_long, Words, Entity, Entities}

-- ---- entries

pub added_is : (table : List ℕ) (limit total fixed n x r : ℕ) → r ≡ min (x + get_or table n 0) limit → x ≡ min (total + fixed) limit → r ≡ min (total + fixed + get_or table n 0) limit
added_is table limit total fixed n x r er ex = omega (arith, er, ex)

pub maybe-none : (table : List ℕ) (limit total fixed n r : ℕ) → r ≡ min (total + 0) limit → n ≡ 4294967295 → r ≡ min (total + maybe_long table n fixed) limit
unfolding maybe_long
maybe-none table limit total fixed n r er e =
    let z : choose (eqb n nothing) 0 (fixed + get_or table n 0) ≡ 0 = yes _ (eq-eqb n 4294967295 e) in
    omega (arith, er, z)

pub maybe-some : (table : List ℕ) (limit total fixed n r : ℕ) → r ≡ min (total + fixed + get_or table n 0) limit → (n ≡ 4294967295 → ⊥) → r ≡ min (total + maybe_long table n fixed) limit
unfolding maybe_long
maybe-some table limit total fixed n r er e =
    let z : choose (eqb n nothing) 0 (fixed + get_or table n 0) ≡ fixed + get_or table n 0 = no 0 (ne_eqb n 4294967295 e) refl in
    omega (arith, er, z)

pub maybe-few : (n : ℕ) → Maybe n → (n ≡ 4294967295 → ⊥) → n < 16384
maybe-few n m q = m.there q

pub comma-none : (i : ℕ) → i ≡ 0 → 0 ≡ length (comma i)
unfolding comma
comma-none i e = rw e refl

pub comma-some : (i : ℕ) → (i ≡ 0 → ⊥) → 1 ≡ length (comma i)
comma-some i n = sym (ap length (comma-is i n))

module _ {s : List ℕ} {limit : ℕ} {names : List ℕ} (w : Spelled s limit names) where
  string-entry : (n : ℕ) → n < strings s → get_or names n 0 ≡ min (length (quoted (text s n))) limit
  string-entry n h = w.are.at n h

  string-few : (n : ℕ) → n < strings s → n < 16384
  string-few n h = omega (arith, string-most s (rules s w.checked).mosts)

module _ {s : List ℕ} {limit : ℕ} {sizes : List ℕ} (w : Sized s limit sizes) where
  value-entry : (v : ℕ) → v < values s → get_or sizes v 0 ≡ min (length (value_text s v)) limit
  value-entry v h = w.are.at v h

  value-few : (v : ℕ) → v < values s → v < 16384
  value-few v h = omega (arith, values-most w.checked)

-- ---- runs of strings

-- the first i strings are added to `total`
pub record Wording (s : List ℕ) (limit first items total i sum : ℕ) : Type 0 where
  pub low : i ≤ items
  pub is : sum ≡ min (total + length (run_text (word_text s) first 1 i)) limit

pub wording_none : {s : List ℕ} {limit first items total sum : ℕ} → sum ≡ min (total + 0) limit → Wording s limit first items total 0 sum
unfolding run_text
wording_none e = record { low = omega arith; is = e }

pub wording_full : (s : List ℕ) (limit total first items : ℕ) {i sum : ℕ} → Wording s limit first items total i sum → limit ≤ sum → limit ≡ min (total + length (run_text (word_text s) first 1 items)) limit
wording_full s limit total first items {i} g h = omega (arith, g.is, run-most (word_text s) first 1 i items g.low)

pub wording_few : {s : List ℕ} {limit : ℕ} {names : List ℕ} {first items i : ℕ} (n : ℕ) → Spelled s limit names → Words s first items → i < items → n ≡ list s (first + i) → n < 16384
wording_few {i = i} n w f l e = string-few w n (omega (arith, f.word i l))

pub wording_more : {s : List ℕ} {limit : ℕ} {names : List ℕ} {first items total i sum n x r : ℕ} → r ≡ min (sum + x + get_or names n 0) limit → Wording s limit first items total i sum → i < items → x ≡ length (comma i) → n ≡ list s (first + i) → Spelled s limit names → Words s first items → Wording s limit first items total (i + 1) r
wording_more {s} {limit} {names} {first} {items} {total} {i} {sum} {n} {x} {r} er g l ex en w f = record {
  low = omega arith;
  is =
      let one : get_or names n 0 ≡ min (length (quoted (text s n))) limit = string-entry w n (omega (arith, f.word i l)) in
      let word : length (quoted (text s n)) ≡ length (word_text s (first + 1 * i)) = (ap (λ (m : ℕ). length (quoted (text s m))) en ∙ word-long (first + i) ∙ ap (λ (m : ℕ). length (word_text s m)) (one-wide first i)) in
      omega (
        arith,
        er,
        ex,
        one,
        word,
        g.is,
        ap (λ (j : ℕ). length (run_text (word_text s) first 1 j)) (add-one i),
        run_long_lem (word_text s) first 1 i,
        length-append (comma i) (word_text s (first + 1 * i)),
      );
}
  where
    word-long : (m : ℕ) → length (quoted (text s (list s m))) ≡ length (word_text s m)
    word-long m = unfold word_text in refl

    one-wide : (first i : ℕ) → first + i ≡ first + 1 * i
    one-wide first i = omega arith

pub wording_all : (s : List ℕ) (limit total first items sum : ℕ) {i : ℕ} → Wording s limit first items total i sum → items ≤ i → sum ≡ min (total + length (run_text (word_text s) first 1 items)) limit
wording_all s limit total first items sum {i} g h =
    let q : i ≡ items = omega (arith, g.low) in
    omega (arith, g.is, ap (λ (n : ℕ). length (run_text (word_text s) first 1 n)) q)

-- ---- entities

entity-long : (s : List ℕ) (m : ℕ) → length (entity_text s m) ≡ length (quoted (text s (list s m))) + length (quoted (text s (list s (m + 1)))) + length (value_text s (list s (m + 2))) + 4
unfolding entity_text type_text id_text object_text
entity-long s m =
    omega (
      arith,
      length-append ((91 ∷ []) ++ quoted (text s (list s m))) (((44 ∷ []) ++ quoted (text s (list s (m + 1)))) ++ (((44 ∷ []) ++ value_text s (list s (m + 2))) ++ (93 ∷ []))),
      length-append ((44 ∷ []) ++ quoted (text s (list s (m + 1)))) (((44 ∷ []) ++ value_text s (list s (m + 2))) ++ (93 ∷ [])),
      length-append ((44 ∷ []) ++ value_text s (list s (m + 2))) (93 ∷ []),
    )

pub type-few : {s : List ℕ} {limit : ℕ} {names : List ℕ} {m : ℕ} (n : ℕ) → Spelled s limit names → Entity s m → n ≡ list s m → n < 16384
type-few n w e q = string-few w n (omega (arith, e.type))

pub id-few : {s : List ℕ} {limit : ℕ} {names : List ℕ} {m : ℕ} (n : ℕ) → Spelled s limit names → Entity s m → n ≡ list s (m + 1) → n < 16384
id-few n w e q = string-few w n (omega (arith, e.id))

pub object-few : {s : List ℕ} {limit : ℕ} {sizes : List ℕ} {m : ℕ} (n : ℕ) → Sized s limit sizes → Entity s m → n ≡ list s (m + 2) → n < 16384
object-few n w e q = value-few w n (omega (arith, e.object))

typed-more : (limit r T k y Y : ℕ) → r ≡ min (T + k + y) limit → y ≡ min Y limit → r ≡ min (T + k + Y) limit
typed-more limit r T k y Y er ey = omega (arith, er, ey)

-- what was counted, so many bytes more and an entry
counted-more : (limit r b k y T Y : ℕ) → r ≡ min (b + k + y) limit → b ≡ min T limit → y ≡ min Y limit → r ≡ min (T + k + Y) limit
counted-more limit r b k y T Y er eb ey = omega (arith, er, eb, ey)

entity-bytes : (limit r total x t d o comma entity whole : ℕ) → r ≡ min (total + (1 + x) + t + 1 + d + 2 + o) limit → x ≡ comma → entity ≡ t + d + o + 4 → whole ≡ comma + entity → r ≡ min (total + whole) limit
entity-bytes limit r total x t d o comma entity whole er ex ee ew = omega (arith, er, ex, ee, ew)

pub entity-size : (s names sizes : List ℕ) (limit total i m r b a x t d o : ℕ) → r ≡ min (b + 2 + get_or sizes o 0) limit → b ≡ min (a + 1 + get_or names d 0) limit → a ≡ min (total + (1 + x) + get_or names t 0) limit → x ≡ length (comma i) → t ≡ list s m → d ≡ list s (m + 1) → o ≡ list s (m + 2) → Spelled s limit names → Sized s limit sizes → Entity s m → r ≡ min (total + length (comma i ++ entity_text s m)) limit
entity-size s names sizes limit total i m r b a x t d o er eb ea ex et ed eo w v e =
    let one : a ≡ min (total + (1 + x) + length (quoted (text s (list s m)))) limit = typed-more limit a total (1 + x) (get_or names t 0) (length (quoted (text s (list s m)))) ea (ap (λ (k : ℕ). get_or names k 0) et ∙ string-entry w (list s m) e.type) in
    let two : b ≡ min (total + (1 + x) + length (quoted (text s (list s m))) + 1 + length (quoted (text s (list s (m + 1))))) limit = counted-more limit b a 1 (get_or names d 0) _ (length (quoted (text s (list s (m + 1))))) eb one (ap (λ (k : ℕ). get_or names k 0) ed ∙ string-entry w (list s (m + 1)) e.id) in
    let three : r ≡ min (total + (1 + x) + length (quoted (text s (list s m))) + 1 + length (quoted (text s (list s (m + 1)))) + 2 + length (value_text s (list s (m + 2)))) limit = counted-more limit r b 2 (get_or sizes o 0) _ (length (value_text s (list s (m + 2)))) er two (ap (λ (k : ℕ). get_or sizes k 0) eo ∙ value-entry v (list s (m + 2)) e.object) in
    entity-bytes limit r total x _ _ _ _ _ _ three ex (entity-long s m) (length-append (comma i) (entity_text s m))

pub record Entering (s : List ℕ) (limit first items total i sum : ℕ) : Type 0 where
  pub low : i ≤ items
  pub is : sum ≡ min (total + length (run_text (entity_text s) first 3 i)) limit

pub entering_none : {s : List ℕ} {limit first items total sum : ℕ} → sum ≡ min (total + 0) limit → Entering s limit first items total 0 sum
unfolding run_text
entering_none e = record { low = omega arith; is = e }

pub entering_full : (s : List ℕ) (limit total first items : ℕ) {i sum : ℕ} → Entering s limit first items total i sum → limit ≤ sum → limit ≡ min (total + length (run_text (entity_text s) first 3 items)) limit
entering_full s limit total first items {i} g h = omega (arith, g.is, run-most (entity_text s) first 3 i items g.low)

pub entering_there : {s : List ℕ} {first items : ℕ} (i : ℕ) → Entities s first items → i < items → Entity s (first + 3 * i)
entering_there i f l = f.entity i l

pub entering_more : {s : List ℕ} {limit first items total i sum r : ℕ} → r ≡ min (sum + length (comma i ++ entity_text s (first + 3 * i))) limit → Entering s limit first items total i sum → i < items → Entering s limit first items total (i + 1) r
entering_more {s} {limit} {first} {items} {total} {i} {sum} {r} er g l = record {
  low = omega arith;
  is = omega (arith, er, g.is, ap (λ (j : ℕ). length (run_text (entity_text s) first 3 j)) (add-one i), run_long_lem (entity_text s) first 3 i);
}

pub entering_all : (s : List ℕ) (limit total first items sum : ℕ) {i : ℕ} → Entering s limit first items total i sum → items ≤ i → sum ≡ min (total + length (run_text (entity_text s) first 3 items)) limit
entering_all s limit total first items sum {i} g h =
    let q : i ≡ items = omega (arith, g.low) in
    omega (arith, g.is, ap (λ (n : ℕ). length (run_text (entity_text s) first 3 n)) q)

-- ---- a point's words are in the tables

word_at : (s : List ℕ) (first items i : ℕ) → string_run s first items ≡ true → i < items → list s (first + i) < strings s
unfolding string_run
word_at s first items i r h = ltb-true _ _ (all-at (λ j. is_string s (list s (first + j))) items i (both (in_table (lists s) 1 first items) _ r).1 h)

entity-at : (s : List ℕ) (m : ℕ) → entity_rule s m ≡ true → Entity s m
unfolding entity_rule
entity-at s m r =
    let a = both (is_string s (list s m) and free 34 (text s (list s m))) _ r in
    let b = both (is_string s (list s (m + 1))) _ a.1 in
    record {
      type = ltb-true _ _ (both (is_string s (list s m)) _ a.0).0;
      id = ltb-true _ _ b.0;
      object = ltb-true _ _ (both (ltb (list s (m + 2)) (values s)) _ b.1).0;
    }

module _ {s : List ℕ} (c : Checked s) (p : ℕ) (l : p < points s) where
  action-there : point_word s p 4 < strings s
  action-there = ltb-true _ _ (fine c p l).action

  kind-there : point_word s p 5 < strings s
  kind-there = ltb-true _ _ (fine c p l).kind

  logged-there : point_word s p 6 < values s
  logged-there = ltb-true _ _ (both (ltb (point_word s p 6) (values s)) _ (fine c p l).logged).0

  context-there : point_word s p 7 < values s
  context-there = ltb-true _ _ (both (ltb (point_word s p 7) (values s)) _ (fine c p l).context).0

maybe-there : (s : List ℕ) (v : ℕ) → maybe_value s v ≡ true → (v ≡ 4294967295 → ⊥) → v < values s
unfolding ◌or◌
maybe-there s v h n = ltb-true v (values s) (rw (ne_eqb v 4294967295 n) at h)

pub words_of : {s : List ℕ} {limit : ℕ} {names : List ℕ} {first items a b : ℕ} (p : ℕ) → Spelled s limit names → p < points s → first ≡ a → a ≡ point_word s p 2 → items ≡ b → b ≡ point_word s p 3 → Words s first items
words_of {s} p w l ef ea ei eb = rw (ef ∙ ea, ei ∙ eb) (record { word = λ i h. word_at s (point_word s p 2) (point_word s p 3) i (fine w.checked p l).namespace h })

pub entities_of : {s : List ℕ} {limit : ℕ} {names : List ℕ} {first items a b : ℕ} (p : ℕ) → Spelled s limit names → p < points s → first ≡ a → a ≡ point_word s p 10 → items ≡ b → b ≡ point_word s p 11 → Entities s first items
entities_of {s} p w l ef ea ei eb = rw (ef ∙ ea, ei ∙ eb) (record { entity = λ i h. entity-at s (point_word s p 10 + 3 * i) (entity-rule s (point_word s p 10) (point_word s p 11) i (fine w.checked p l).entities h) })

module _ {s : List ℕ} {limit : ℕ} {names : List ℕ} (p n : ℕ) (w : Spelled s limit names) (l : p < points s) where
  pub action-few : n ≡ point_word s p 4 → n < 16384
  action-few e = string-few w n (omega (arith, action-there w.checked p l))

  pub kind-few : n ≡ point_word s p 5 → n < 16384
  kind-few e = string-few w n (omega (arith, kind-there w.checked p l))

module _ {s : List ℕ} {limit : ℕ} {sizes : List ℕ} (p n : ℕ) (w : Sized s limit sizes) (l : p < points s) where
  pub logged-few : n ≡ point_word s p 6 → n < 16384
  logged-few e = value-few w n (omega (arith, logged-there w.checked p l))

  pub context-few : n ≡ point_word s p 7 → n < 16384
  context-few e = value-few w n (omega (arith, context-there w.checked p l))

  pub principal-few : n ≡ point_word s p 8 → Maybe n
  principal-few e = record { there = λ q. value-few w n (maybe-there s n (ap (maybe_value s) e ∙ (fine w.checked p l).principal) q) }

  pub resource-few : n ≡ point_word s p 9 → Maybe n
  resource-few e = record { there = λ q. value-few w n (maybe-there s n (ap (maybe_value s) e ∙ (fine w.checked p l).resource) q) }

-- ---- the parts

pub names-size : (s names : List ℕ) (limit total p r a x y : ℕ) → r ≡ min (a + 8 + get_or names y 0) limit → a ≡ min (total + 11 + get_or names x 0) limit → x ≡ point_word s p 4 → y ≡ point_word s p 5 → Spelled s limit names → p < points s → r ≡ min (total + length (names_text s p)) limit
unfolding names_text
names-size s names limit total p r a x y er ea ex ey w l =
    let one : get_or names x 0 ≡ min (length (quoted (text s (point_word s p 4)))) limit = ap (λ (k : ℕ). get_or names k 0) ex ∙ string-entry w (point_word s p 4) (action-there w.checked p l) in
    let two : get_or names y 0 ≡ min (length (quoted (text s (point_word s p 5)))) limit = ap (λ (k : ℕ). get_or names k 0) ey ∙ string-entry w (point_word s p 5) (kind-there w.checked p l) in
    omega (arith, er, ea, one, two, length-append (action_piece ++ quoted (text s (point_word s p 4))) (kind_piece ++ quoted (text s (point_word s p 5))))

pub records-size : (s sizes : List ℕ) (limit total p r a x y : ℕ) → r ≡ min (a + 11 + get_or sizes y 0) limit → a ≡ min (total + 10 + get_or sizes x 0) limit → x ≡ point_word s p 6 → y ≡ point_word s p 7 → Sized s limit sizes → p < points s → r ≡ min (total + length (records_text s p)) limit
unfolding records_text
records-size s sizes limit total p r a x y er ea ex ey w l =
    let one : get_or sizes x 0 ≡ min (length (value_text s (point_word s p 6))) limit = ap (λ (k : ℕ). get_or sizes k 0) ex ∙ value-entry w (point_word s p 6) (logged-there w.checked p l) in
    let two : get_or sizes y 0 ≡ min (length (value_text s (point_word s p 7))) limit = ap (λ (k : ℕ). get_or sizes k 0) ey ∙ value-entry w (point_word s p 7) (context-there w.checked p l) in
    omega (arith, er, ea, one, two, length-append (logged_piece ++ value_text s (point_word s p 6)) (context_piece ++ value_text s (point_word s p 7)))

-- principal or resource
party : {s : List ℕ} {limit : ℕ} {sizes : List ℕ} (w : Sized s limit sizes) (piece : List ℕ) (fixed v : ℕ) → length piece ≡ fixed → maybe_value s v ≡ true → (total : ℕ) → min (total + maybe_long sizes v fixed) limit ≡ min (total + length (maybe_text s piece v)) limit
party {s} {limit} {sizes} w piece fixed v e h total = go (eqb v nothing) refl
  where
    go : (b : Bool) → eqb v nothing ≡ b → min (total + maybe_long sizes v fixed) limit ≡ min (total + length (maybe_text s piece v)) limit
    go true q = unfold maybe_long maybe_text in
        let a : choose (eqb v nothing) 0 (fixed + get_or sizes v 0) ≡ 0 = yes _ q in
        let b : choose (eqb v nothing) [] (piece ++ value_text s v) ≡ [] = yes _ q in
        omega (arith, a, ap length b)
    go false q = unfold maybe_long maybe_text in
        let a : choose (eqb v nothing) 0 (fixed + get_or sizes v 0) ≡ fixed + get_or sizes v 0 = no _ q refl in
        let b : choose (eqb v nothing) [] (piece ++ value_text s v) ≡ piece ++ value_text s v = no _ q refl in
        let there : v < values s = ltb-true v (values s) (either (eqb v nothing) (ltb v (values s)) q h) in
        omega (arith, a, ap length b, e, length-append piece (value_text s v), value-entry w v there)
      where
        either : (a b : Bool) → a ≡ false → (a or b) ≡ true → b ≡ true
        either a b f g = unfold ◌or◌ in rw f at g

pub parties-size : (s sizes : List ℕ) (limit total p r a x y : ℕ) → r ≡ min (a + maybe_long sizes y 12) limit → a ≡ min (total + maybe_long sizes x 13) limit → x ≡ point_word s p 8 → y ≡ point_word s p 9 → Sized s limit sizes → p < points s → r ≡ min (total + length (parties_text s p)) limit
unfolding parties_text
parties-size s sizes limit total p r a x y er ea ex ey w l =
    let one : min (total + maybe_long sizes x 13) limit ≡ min (total + length (maybe_text s principal_piece (point_word s p 8))) limit = ap (λ (k : ℕ). min (total + maybe_long sizes k 13) limit) ex ∙ party w principal_piece 13 (point_word s p 8) refl (fine w.checked p l).principal total in
    let two : min (a + maybe_long sizes y 12) limit ≡ min (a + length (maybe_text s resource_piece (point_word s p 9))) limit = ap (λ (k : ℕ). min (a + maybe_long sizes k 12) limit) ey ∙ party w resource_piece 12 (point_word s p 9) refl (fine w.checked p l).resource a in
    omega (arith, er, ea, one, two, length-append (maybe_text s principal_piece (point_word s p 8)) (maybe_text s resource_piece (point_word s p 9)))

pub head-size : (s : List ℕ) (limit total p r a z t bits low high first items f g : ℕ) → r ≡ min (a + length (run_text (word_text s) first 1 items)) limit → a ≡ min (z + t) limit → z ≡ min (total + 22) limit → t ≡ length (integer (to_z w64 bits)) → bits ≡ low + 4294967296 * high → low ≡ point_word s p 0 → high ≡ point_word s p 1 → first ≡ f → f ≡ point_word s p 2 → items ≡ g → g ≡ point_word s p 3 → r ≡ min (total + length (head_text s p)) limit
unfolding head_text time_text space_text
head-size s limit total p r a z t bits low high first items f g er ea ez et eb el eh e1 e2 e3 e4 =
    let b : bits ≡ point_word s p 0 + 4294967296 * point_word s p 1 = eb ∙ rw (el, eh) refl in
    let run : length (run_text (word_text s) first 1 items) ≡ length (run_text (word_text s) (point_word s p 2) 1 (point_word s p 3)) = rw (e1 ∙ e2, e3 ∙ e4) refl in
    omega (arith, er, ea, ez, et, ap (λ (n : ℕ). length (integer (to_z w64 n))) b, run, length-append (time_piece ++ integer (to_z w64 (point_word s p 0 + 4294967296 * point_word s p 1))) (space_piece ++ run_text (word_text s) (point_word s p 2) 1 (point_word s p 3)))

pub tail-size : (s : List ℕ) (limit total p r a first items f g : ℕ) → r ≡ min (a + length (run_text (entity_text s) first 3 items)) limit → a ≡ min (total + 16) limit → first ≡ f → f ≡ point_word s p 10 → items ≡ g → g ≡ point_word s p 11 → r ≡ min (total + length (entities_text s p) + 3) limit
unfolding entities_text
tail-size s limit total p r a first items f g er ea e1 e2 e3 e4 =
    let run : length (run_text (entity_text s) first 3 items) ≡ length (run_text (entity_text s) (point_word s p 10) 3 (point_word s p 11)) = rw (e1 ∙ e2, e3 ∙ e4) refl in
    omega (arith, er, ea, run)

-- ---- a line

line-long : (s : List ℕ) (p : ℕ) → length (line_text s p) ≡ length (head_text s p) + length (names_text s p) + length (records_text s p) + length (parties_text s p) + length (entities_text s p) + 3
unfolding line_text fields_text first_text second_text rest_text
line-long s p =
    omega (
      arith,
      length-append ((head_text s p ++ names_text s p) ++ (records_text s p ++ (parties_text s p ++ entities_text s p))) last_piece,
      length-append (head_text s p ++ names_text s p) (records_text s p ++ (parties_text s p ++ entities_text s p)),
      length-append (head_text s p) (names_text s p),
      length-append (records_text s p) (parties_text s p ++ entities_text s p),
      length-append (parties_text s p) (entities_text s p),
    )

pub line-size : (s : List ℕ) (limit total p r a b d e : ℕ) → r ≡ min (e + length (entities_text s p) + 3) limit → e ≡ min (d + length (parties_text s p)) limit → d ≡ min (b + length (records_text s p)) limit → b ≡ min (a + length (names_text s p)) limit → a ≡ min (total + length (head_text s p)) limit → r ≡ min (total + length (line_text s p)) limit
line-size s limit total p r a b d e er ee ed eb ea = omega (arith, er, ee, ed, eb, ea, line-long s p)

-- ---- lines

pub record Lengthening (s : List ℕ) (limit n p sum : ℕ) : Type 0 where
  pub low : p ≤ n
  pub many : n ≡ points s
  pub is : sum ≡ min (length (lines_text s p)) limit

lines_long : (s : List ℕ) (p : ℕ) → length (lines_text s (suc p)) ≡ length (lines_text s p) + length (line_text s p)
unfolding lines_text
lines_long s p = length-append (lines_text s p) (line_text s p)

lines-most : (s : List ℕ) (p n : ℕ) → p ≤ n → length (lines_text s p) ≤ length (lines_text s n)
lines-most s p zero h = let z : p ≡ 0 = omega arith in rw z (omega arith)
lines-most s p (suc n) h = go (leb p n) refl (λ l. lines-most s p n l)
  where
    go : (b : Bool) → leb p n ≡ b → (p ≤ n → length (lines_text s p) ≤ length (lines_text s n)) → length (lines_text s p) ≤ length (lines_text s (suc n))
    go true e ih = omega (arith, ih (leb-true p n e), lines_long s n)
    go false e ih = let z : p ≡ suc n = omega (arith, leb-false p n e) in rw z (omega arith)

pub lengthening_none : {s : List ℕ} {limit n w : ℕ} → n ≡ w → w ≡ points s → Lengthening s limit n 0 0
unfolding lines_text
lengthening_none e f = record { low = omega arith; many = omega arith; is = omega arith }

pub lengthening_full : (s : List ℕ) (limit : ℕ) {n p sum : ℕ} → Lengthening s limit n p sum → limit ≤ sum → limit ≡ min (length (lines_text s (points s))) limit
lengthening_full s limit {n} {p} g h = omega (arith, g.is, g.many, lines-most s p (points s) (omega (arith, g.low, g.many)))

pub lengthening_there : {s : List ℕ} {limit n sum : ℕ} (p : ℕ) → Lengthening s limit n p sum → p < n → p < points s
lengthening_there p g l = omega (arith, g.many)

pub lengthening_more : {s : List ℕ} {limit n p sum r : ℕ} → r ≡ min (sum + length (line_text s p)) limit → Lengthening s limit n p sum → p < n → Lengthening s limit n (p + 1) r
lengthening_more {s} {limit} {n} {p} {sum} {r} er g l = record {
  low = omega arith;
  many = g.many;
  is = omega (arith, er, g.is, ap (λ (k : ℕ). length (lines_text s k)) (add-one p), lines_long s p);
}

pub lengthening_all : (s : List ℕ) (limit : ℕ) {n p : ℕ} (sum : ℕ) → Lengthening s limit n p sum → n ≤ p → sum ≡ min (length (lines_text s (points s))) limit
lengthening_all s limit {n} {p} sum g h =
    let q : p ≡ points s = omega (arith, g.low, g.many) in
    omega (arith, g.is, ap (λ (k : ℕ). length (lines_text s k)) q)

-- the tables as they are made
pub spelled : {s : List ℕ} {limit : ℕ} {names : List ℕ} → Filled 0 (string_long s limit) names (strings s) → Checked s → Spelled s limit names
spelled f c = record { checked = c; are = f }

pub sized : {s : List ℕ} {limit : ℕ} {sizes : List ℕ} → Filled 0 (value_long s limit) sizes (values s) → Checked s → Sized s limit sizes
sized f c = record { checked = c; are = f }
