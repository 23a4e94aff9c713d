-- What the parts of a line are by their words, and runs of the lists put item by item
use Rattle.std.specs.Prelude.{◌≡◌, Bool, true, false, ℕ, zero, suc, ◌+◌, ◌*◌, ◌<◌, ◌≤◌, leb, length}
use Rattle.std.proofs.Math.Path.{refl, ap}
use Rattle.std.proofs.Common.{sym, ◌∙◌, arith, add-one, length-append, to_z}
use mathlib.Core.List.{List, [], ◌∷◌, ◌++◌, append_assoc}
use mir.Syntax.{w64}
use borrow.Author.Tests.{eq-eqb, ne_eqb, leb-true, leb-false}
use Rattle.meaning.specs.Tests.{choose}
use Rattle.meaning.specs.Case.{points, lists, text, list, point_word}
use Rattle.meaning.specs.Check.{Checked, is_string, is_object, maybe_value, string_run, point_rule, point_rules, entity_run}
use Rattle.laws.specs.Tests.{no, both, all-at}
use Rattle.laws.specs.Checked.{rules}
use Rattle.stringcheck.specs.Mosts.{list-most}
use Rattle.jsontrace.specs.Text.{quoted, integer}
use Rattle.jsonput.specs.Put.{Put, put-none, put_then, put_as}
use Rattle.jsonput.specs.Runs.{comma, run_text, run_fits}
use Rattle.jsonput.specs.Values.{value_text}
use Rattle.jsonpoints.specs.Lines.{time_piece, space_piece, action_piece, kind_piece, logged_piece, context_piece, principal_piece, resource_piece, entities_piece, last_piece, word_text, type_text, id_text, object_text, identity_text, entity_text, maybe_text, time_text, space_text, head_text, names_text, first_text, records_text, parties_text, entities_text, rest_text, second_text, fields_text, line_text, lines_text}

-- ---- two parts; the second may be said otherwise

pub first-room : (d a b : List ℕ) (at : ℕ) → at + length (a ++ b) ≤ length d → at + length a ≤ length d
first-room d a b at room = omega (arith, length-append a b)

pub second-room : (d : List ℕ) {w : List ℕ} (a b b' : List ℕ) {at p : ℕ} → Put d w at a p → at + length (a ++ b) ≤ length d → b' ≡ b → p + length b' ≤ length w
second-room d a b b' f room e = omega (arith, length-append a b, f.end, f.long, ap length e)

pub second-put : {d w w' : List ℕ} (a b : List ℕ) {b' : List ℕ} {at p q : ℕ} → Put w w' p b' q → Put d w at a p → at + length (a ++ b) ≤ length d → b' ≡ b → Put d w' at (a ++ b) q
second-put a b g f room e = put_then f (put_as e g) (omega arith)

-- said otherwise
pub other-room : (d a a' : List ℕ) (at : ℕ) → at + length a ≤ length d → a' ≡ a → at + length a' ≤ length d
other-room d a a' at room e = omega (arith, ap length e)

pub other-put : {d w : List ℕ} (a : List ℕ) {a' : List ℕ} {at p : ℕ} → Put d w at a' p → a' ≡ a → Put d w at a p
other-put a f e = put_as e f

module _ (s : List ℕ) where
  pub string-same : (piece : List ℕ) (n m : ℕ) → n ≡ m → piece ++ quoted (text s n) ≡ piece ++ quoted (text s m)
  string-same piece n m e = ap (λ (x : ℕ). piece ++ quoted (text s x)) e

  pub value_same : (piece : List ℕ) (n m : ℕ) → n ≡ m → piece ++ value_text s n ≡ piece ++ value_text s m
  value_same piece n m e = ap (λ (x : ℕ). piece ++ value_text s x) e

  pub word_same : (n m : ℕ) → n ≡ list s m → quoted (text s n) ≡ word_text s m
  unfolding word_text
  word_same n m e = ap (λ (x : ℕ). quoted (text s x)) e

  pub words_same : (f : ℕ → List ℕ) (width a b x y : ℕ) → a ≡ x → b ≡ y → run_text f a width b ≡ run_text f x width y
  words_same f width a b x y ea eb = rw (ea, eb) refl

pub bits-same : (n low high a b : ℕ) → n ≡ low + 4294967296 * high → low ≡ a → high ≡ b → integer (to_z w64 n) ≡ integer (to_z w64 (a + 4294967296 * b))
bits-same n low high a b e el eh = rw (e, el, eh) refl

-- ---- principal and resource

module _ (s piece : List ℕ) where
  pub maybe-none : {d : List ℕ} {at : ℕ} (x v : ℕ) → x ≡ 4294967295 → x ≡ v → Put d d at (maybe_text s piece v) at
  unfolding maybe_text
  maybe-none {d} {at} x v n e = rw (eq-eqb v 4294967295 (sym e ∙ n)) (unfold choose in put-none d at)

  pub maybe-is : (x v : ℕ) → (x ≡ 4294967295 → ⊥) → x ≡ v → maybe_text s piece v ≡ piece ++ value_text s v
  unfolding maybe_text
  maybe-is x v n e = no _ (ne_eqb v 4294967295 (λ q. n (e ∙ q))) refl

  pub maybe-room : (d : List ℕ) (at x v : ℕ) → at + length (maybe_text s piece v) ≤ length d → (x ≡ 4294967295 → ⊥) → x ≡ v → at + length (piece ++ value_text s v) ≤ length d
  maybe-room d at x v room n e = omega (arith, ap length (maybe-is x v n e))

  pub maybe-put : {d w : List ℕ} {at p : ℕ} (x v : ℕ) → Put d w at (piece ++ value_text s v) p → (x ≡ 4294967295 → ⊥) → x ≡ v → Put d w at (maybe_text s piece v) p
  maybe-put x v f n e = put_as (sym (maybe-is x v n e)) f

-- ---- entities

module _ (s : List ℕ) where
  pub type-same : (n m : ℕ) → n ≡ list s m → (91 ∷ []) ++ quoted (text s n) ≡ type_text s m
  unfolding type_text
  type-same n m e = ap (λ (x : ℕ). (91 ∷ []) ++ quoted (text s x)) e

  pub id_same : (n m : ℕ) → n ≡ list s (m + 1) → (44 ∷ []) ++ quoted (text s n) ≡ id_text s m
  unfolding id_text
  id_same n m e = ap (λ (x : ℕ). (44 ∷ []) ++ quoted (text s x)) e

  attributes-is : (n m : ℕ) → n ≡ list s (m + 2) → ((44 ∷ []) ++ value_text s n) ++ (93 ∷ []) ≡ object_text s m
  unfolding object_text
  attributes-is n m e = ap (λ (x : ℕ). ((44 ∷ []) ++ value_text s x) ++ (93 ∷ [])) e

  pub attributes-first : (d : List ℕ) (at n m : ℕ) → at + length (object_text s m) ≤ length d → n ≡ list s (m + 2) → at + length ((44 ∷ []) ++ value_text s n) ≤ length d
  attributes-first d at n m room e = omega (arith, ap length (attributes-is n m e), length-append ((44 ∷ []) ++ value_text s n) (93 ∷ []))

  pub attributes-second : (d : List ℕ) {w : List ℕ} {at p : ℕ} (n m : ℕ) → Put d w at ((44 ∷ []) ++ value_text s n) p → at + length (object_text s m) ≤ length d → n ≡ list s (m + 2) → p < length w
  attributes-second d n m f room e = omega (arith, ap length (attributes-is n m e), length-append ((44 ∷ []) ++ value_text s n) (93 ∷ []), f.end, f.long)

  pub attributes-put : {d w w' : List ℕ} {at p q : ℕ} (n m : ℕ) → Put w w' p (93 ∷ []) q → Put d w at ((44 ∷ []) ++ value_text s n) p → at + length (object_text s m) ≤ length d → n ≡ list s (m + 2) → Put d w' at (object_text s m) q
  attributes-put n m g f room e = put_as (attributes-is n m e) (put_then f g (omega arith))

  entity-is : (i m : ℕ) → identity_text s i m ++ object_text s m ≡ comma i ++ entity_text s m
  unfolding entity_text
  entity-is i m = append_assoc (comma i ++ type_text s m) (id_text s m) (object_text s m) ∙ append_assoc (comma i) (type_text s m) (id_text s m ++ object_text s m)

  pub entity-first : (d : List ℕ) (at i m : ℕ) → at + length (comma i ++ entity_text s m) ≤ length d → at + length (identity_text s i m) ≤ length d
  entity-first d at i m room = omega (arith, ap length (entity-is i m), length-append (identity_text s i m) (object_text s m))

  pub entity-second : (d : List ℕ) {w : List ℕ} {at p : ℕ} (i m : ℕ) → Put d w at (identity_text s i m) p → at + length (comma i ++ entity_text s m) ≤ length d → p + length (object_text s m) ≤ length w
  entity-second d i m f room = omega (arith, ap length (entity-is i m), length-append (identity_text s i m) (object_text s m), f.end, f.long)

  pub entity-put : {d w w' : List ℕ} {at p q : ℕ} (i m : ℕ) → Put w w' p (object_text s m) q → Put d w at (identity_text s i m) p → at + length (comma i ++ entity_text s m) ≤ length d → Put d w' at (comma i ++ entity_text s m) q
  entity-put i m g f room = put_as (entity-is i m) (put_then f g (omega arith))

-- ---- runs, one item more at a time

pub record Putting (f : ℕ → List ℕ) (first width items : ℕ) (d w : List ℕ) (at i next : ℕ) : Type 0 where
  pub low : i ≤ items
  pub room : at + length (run_text f first width items) ≤ length d
  pub is : Put d w at (run_text f first width i) next

pub putting_none : {f : ℕ → List ℕ} {first width items : ℕ} {d : List ℕ} {at : ℕ} → at + length (run_text f first width items) ≤ length d → Putting f first width items d d at 0 at
unfolding run_text
putting_none {d = d} {at = at} room = record { low = omega arith; room = room; is = put-none d at }

pub putting_room : {f : ℕ → List ℕ} {first width items : ℕ} (d : List ℕ) {w : List ℕ} {at i next : ℕ} (m : ℕ) → Putting f first width items d w at i next → i < items → m ≡ first + width * i → next + length (comma i ++ f m) ≤ length w
putting_room {f} {first} {width} {items} d {w} {at} {i} {next} m g l e =
    omega (arith, g.room, g.is.end, g.is.long, run_fits f first width i items l, ap (λ (x : ℕ). length (comma i ++ f x)) e)

pub putting_more : {f : ℕ → List ℕ} {first width items : ℕ} {d w w' : List ℕ} {at i next m q : ℕ} → Put w w' next (comma i ++ f m) q → Putting f first width items d w at i next → i < items → m ≡ first + width * i → Putting f first width items d w' at (i + 1) q
putting_more {f} {first} {width} {items} {d} {w} {w'} {at} {i} {next} {m} {q} h g l e = record {
  low = omega arith;
  room = g.room;
  is = put_as more (put_then g.is h (omega (arith, g.room)));
}
  where
    more : run_text f first width i ++ (comma i ++ f m) ≡ run_text f first width (i + 1)
    more = ap (λ (x : ℕ). run_text f first width i ++ (comma i ++ f x)) e ∙ sym (ap (run_text f first width) (add-one i) ∙ (unfold run_text in refl))

-- as the code has an item's place
pub words-room : (s : List ℕ) {first items : ℕ} (d : List ℕ) {w : List ℕ} {at i next : ℕ} (x y : ℕ) → Putting (word_text s) first 1 items d w at i next → i < items → x ≡ first → y ≡ i → next + length (comma i ++ word_text s (x + y)) ≤ length w
words-room s d x y g l ex ey = putting_room d (x + y) g l (omega (arith, ex, ey))

pub words_more : {f : ℕ → List ℕ} {first items : ℕ} {d w w' : List ℕ} {at i next x y q : ℕ} → Put w w' next (comma i ++ f (x + y)) q → Putting f first 1 items d w at i next → i < items → x ≡ first → y ≡ i → Putting f first 1 items d w' at (i + 1) q
words_more h g l ex ey = putting_more h g l (omega (arith, ex, ey))

pub entities-room : (s : List ℕ) {first items : ℕ} (d : List ℕ) {w : List ℕ} {at i next : ℕ} (x y : ℕ) → Putting (entity_text s) first 3 items d w at i next → i < items → x ≡ first → y ≡ i → next + length (comma i ++ entity_text s (x + 3 * y)) ≤ length w
entities-room s d x y g l ex ey = putting_room d (x + 3 * y) g l (omega (arith, ex, ey))

pub entities-more : {f : ℕ → List ℕ} {first items : ℕ} {d w w' : List ℕ} {at i next x y q : ℕ} → Put w w' next (comma i ++ f (x + 3 * y)) q → Putting f first 3 items d w at i next → i < items → x ≡ first → y ≡ i → Putting f first 3 items d w' at (i + 1) q
entities-more h g l ex ey = putting_more h g l (omega (arith, ex, ey))

pub putting_all : {f : ℕ → List ℕ} {first width items : ℕ} {d w : List ℕ} {at i next : ℕ} → Putting f first width items d w at i next → items ≤ i → Put d w at (run_text f first width items) next
putting_all {f} {first} {width} {items} {d} {w} {at} {i} {next} g h =
    let q : i ≡ items = omega (arith, g.low) in put_as (ap (run_text f first width) q) g.is

-- ---- lines

pub record Lining (s : List ℕ) (n : ℕ) (d w : List ℕ) (at p next : ℕ) : Type 0 where
  pub low : p ≤ n
  pub many : n ≡ points s
  pub checked : Checked s
  pub room : at + length (lines_text s (points s)) ≤ length d
  pub is : Put d w at (lines_text s p) next

line-long : (s : List ℕ) (p : ℕ) → length (lines_text s (suc p)) ≡ length (lines_text s p) + length (line_text s p)
unfolding lines_text
line-long s p = length-append (lines_text s p) (line_text s p)

lines-most : (s : List ℕ) (p n : ℕ) → p ≤ n → length (lines_text s p) ≤ length (lines_text s n)
lines-most s p zero h = let z : p ≡ 0 = omega arith in rw z (omega arith)
lines-most s p (suc n) h = go (leb p n) refl (λ l. lines-most s p n l)
  where
    go : (b : Bool) → leb p n ≡ b → (p ≤ n → length (lines_text s p) ≤ length (lines_text s n)) → length (lines_text s p) ≤ length (lines_text s (suc n))
    go true e ih = omega (arith, ih (leb-true p n e), line-long s n)
    go false e ih = let z : p ≡ suc n = omega (arith, leb-false p n e) in rw z (omega arith)

pub lining_none : {s d : List ℕ} {n w at : ℕ} → Checked s → n ≡ w → w ≡ points s → at + length (lines_text s (points s)) ≤ length d → Lining s n d d at 0 at
unfolding lines_text
lining_none {s} {d} {n} {w} {at} c e f room = record { low = omega arith; many = e ∙ f; checked = c; room = room; is = put-none d at }

pub lining_there : {s d w : List ℕ} {n at next : ℕ} (p : ℕ) → Lining s n d w at p next → p < n → p < points s
lining_there p g l = omega (arith, g.many)

pub lining_room : {s : List ℕ} (d : List ℕ) {w : List ℕ} {n at next : ℕ} (p : ℕ) → Lining s n d w at p next → p < n → next + length (line_text s p) ≤ length w
lining_room {s} d {w} {n} {at} {next} p g l =
    omega (arith, g.room, g.many, g.is.end, g.is.long, line-long s p, lines-most s (suc p) (points s) (omega (arith, g.many)))

pub lining_more : {s d w w' : List ℕ} {n at next p q : ℕ} → Put w w' next (line_text s p) q → Lining s n d w at p next → p < n → Lining s n d w' at (p + 1) q
lining_more {s} {d} {w} {w'} {n} {at} {next} {p} {q} h g l = record {
  low = omega arith;
  many = g.many;
  checked = g.checked;
  room = g.room;
  is = put_as more (put_then g.is h (omega (arith, g.room)));
}
  where
    more : lines_text s p ++ line_text s p ≡ lines_text s (p + 1)
    more = sym (ap (lines_text s) (add-one p) ∙ (unfold lines_text in refl))

pub lining_all : {s d w : List ℕ} {n at next p : ℕ} → Lining s n d w at p next → n ≤ p → Put d w at (lines_text s (points s)) next
lining_all {s} {d} {w} {n} {at} {next} {p} g h =
    let q : p ≡ points s = omega (arith, g.low, g.many) in put_as (ap (lines_text s) q) g.is

-- ---- an entity run lies in the lists

pub entities_in : {s : List ℕ} (p first items : ℕ) → Checked s → p < points s → first ≡ point_word s p 10 → items ≡ point_word s p 11 → first + 3 * items < 4294967296
entities_in {s} p first items c l ef ei = omega (arith, run, list-most s (rules s c).mosts (rules s c).bodies)
  where
    point : point_rule s p ≡ true
    point = unfold point_rules in all-at (point_rule s) (points s) p (rules s c).points l

    entities : entity_run s (point_word s p 10) (point_word s p 11) ≡ true
    entities = unfold point_rule in
        let a = both (string_run s (point_word s p 2) (point_word s p 3)) _ point in
        let b = both (is_string s (point_word s p 4)) _ a.1 in
        let d = both (is_string s (point_word s p 5)) _ b.1 in
        let e = both (is_object s (point_word s p 6)) _ d.1 in
        let f = both (is_object s (point_word s p 7)) _ e.1 in
        let g = both (maybe_value s (point_word s p 8)) _ f.1 in
        (both (maybe_value s (point_word s p 9)) _ g.1).1

    run : point_word s p 10 + 3 * point_word s p 11 ≤ lists s
    run = unfold entity_run in leb-true _ _ (both _ _ entities).0

-- ---- the parts of a line: a text that is two parts, the room for each, and both put

module _ {whole : List ℕ} (a b : List ℕ) (e : whole ≡ a ++ b) where
  part-first : (d : List ℕ) (at : ℕ) → at + length whole ≤ length d → at + length a ≤ length d
  part-first d at room = omega (arith, ap length e, length-append a b)

  part-second : (d : List ℕ) {w : List ℕ} {at q : ℕ} → Put d w at a q → at + length whole ≤ length d → q + length b ≤ length w
  part-second d f room = omega (arith, ap length e, length-append a b, f.end, f.long)

  part-put : {d w w' : List ℕ} {at q r : ℕ} → Put w w' q b r → Put d w at a q → at + length whole ≤ length d → Put d w' at whole r
  part-put g f room = put_as (sym e) (put_then f g (omega arith))

module _ (s : List ℕ) (p : ℕ) where
  time-is : (n low high : ℕ) → n ≡ low + 4294967296 * high → low ≡ point_word s p 0 → high ≡ point_word s p 1 → time_text s p ≡ (time_piece) ++ (integer (to_z w64 n))
  unfolding time_text
  time-is n low high e0 e1 e2 = ap (λ (l : List ℕ). time_piece ++ l) (sym (bits-same n low high _ _ e0 e1 e2))

  pub time-first : (d : List ℕ) (at : ℕ) → at + length (time_text s p) ≤ length d → at + 8 ≤ length d
  unfolding time_text
  time-first d at room = part-first (time_piece) (integer (to_z w64 (point_word s p 0 + 4294967296 * point_word s p 1))) refl d at room

  pub time-second : (d : List ℕ) {w : List ℕ} {at q : ℕ} (n low high : ℕ) → Put d w at (time_piece) q → at + length (time_text s p) ≤ length d → n ≡ low + 4294967296 * high → low ≡ point_word s p 0 → high ≡ point_word s p 1 → q + length (integer (to_z w64 n)) ≤ length w
  time-second d n low high f room e0 e1 e2 = part-second (time_piece) (integer (to_z w64 n)) (time-is n low high e0 e1 e2) d f room

  pub time-put : {d w w' : List ℕ} {at q r n low high : ℕ} → Put w w' q (integer (to_z w64 n)) r → Put d w at (time_piece) q → at + length (time_text s p) ≤ length d → n ≡ low + 4294967296 * high → low ≡ point_word s p 0 → high ≡ point_word s p 1 → Put d w' at (time_text s p) r
  time-put {n = n} {low = low} {high = high} g f room e0 e1 e2 = part-put (time_piece) (integer (to_z w64 n)) (time-is n low high e0 e1 e2) g f room

  space-is : (first items : ℕ) → first ≡ point_word s p 2 → items ≡ point_word s p 3 → space_text s p ≡ (space_piece) ++ (run_text (word_text s) first 1 items)
  unfolding space_text
  space-is first items e0 e1 = ap (λ (l : List ℕ). space_piece ++ l) (sym (words_same s (word_text s) 1 first items _ _ e0 e1))

  pub space-first : (d : List ℕ) (at : ℕ) → at + length (space_text s p) ≤ length d → at + 14 ≤ length d
  unfolding space_text
  space-first d at room = part-first (space_piece) (run_text (word_text s) (point_word s p 2) 1 (point_word s p 3)) refl d at room

  pub space-second : (d : List ℕ) {w : List ℕ} {at q : ℕ} (first items : ℕ) → Put d w at (space_piece) q → at + length (space_text s p) ≤ length d → first ≡ point_word s p 2 → items ≡ point_word s p 3 → q + length (run_text (word_text s) first 1 items) ≤ length w
  space-second d first items f room e0 e1 = part-second (space_piece) (run_text (word_text s) first 1 items) (space-is first items e0 e1) d f room

  pub space-put : {d w w' : List ℕ} {at q r first items : ℕ} → Put w w' q (run_text (word_text s) first 1 items) r → Put d w at (space_piece) q → at + length (space_text s p) ≤ length d → first ≡ point_word s p 2 → items ≡ point_word s p 3 → Put d w' at (space_text s p) r
  space-put {first = first} {items = items} g f room e0 e1 = part-put (space_piece) (run_text (word_text s) first 1 items) (space-is first items e0 e1) g f room

  head-is : head_text s p ≡ (time_text s p) ++ (space_text s p)
  unfolding head_text
  head-is = refl

  pub head_first : (d : List ℕ) (at : ℕ) → at + length (head_text s p) ≤ length d → at + length (time_text s p) ≤ length d
  head_first d at room = part-first (time_text s p) (space_text s p) head-is d at room

  pub head-second : (d : List ℕ) {w : List ℕ} {at q : ℕ} → Put d w at (time_text s p) q → at + length (head_text s p) ≤ length d → q + length (space_text s p) ≤ length w
  head-second d f room = part-second (time_text s p) (space_text s p) head-is d f room

  pub head-put : {d w w' : List ℕ} {at q r : ℕ} → Put w w' q (space_text s p) r → Put d w at (time_text s p) q → at + length (head_text s p) ≤ length d → Put d w' at (head_text s p) r
  head-put g f room = part-put (time_text s p) (space_text s p) head-is g f room

  names-is : names_text s p ≡ (action_piece ++ quoted (text s (point_word s p 4))) ++ (kind_piece ++ quoted (text s (point_word s p 5)))
  unfolding names_text
  names-is = refl

  pub names-first : (d : List ℕ) (at : ℕ) → at + length (names_text s p) ≤ length d → at + length (action_piece ++ quoted (text s (point_word s p 4))) ≤ length d
  names-first d at room = part-first (action_piece ++ quoted (text s (point_word s p 4))) (kind_piece ++ quoted (text s (point_word s p 5))) names-is d at room

  pub names-second : (d : List ℕ) {w : List ℕ} {at q : ℕ} → Put d w at (action_piece ++ quoted (text s (point_word s p 4))) q → at + length (names_text s p) ≤ length d → q + length (kind_piece ++ quoted (text s (point_word s p 5))) ≤ length w
  names-second d f room = part-second (action_piece ++ quoted (text s (point_word s p 4))) (kind_piece ++ quoted (text s (point_word s p 5))) names-is d f room

  pub names-put : {d w w' : List ℕ} {at q r : ℕ} → Put w w' q (kind_piece ++ quoted (text s (point_word s p 5))) r → Put d w at (action_piece ++ quoted (text s (point_word s p 4))) q → at + length (names_text s p) ≤ length d → Put d w' at (names_text s p) r
  names-put g f room = part-put (action_piece ++ quoted (text s (point_word s p 4))) (kind_piece ++ quoted (text s (point_word s p 5))) names-is g f room

  early-is : first_text s p ≡ (head_text s p) ++ (names_text s p)
  unfolding first_text
  early-is = refl

  pub early-first : (d : List ℕ) (at : ℕ) → at + length (first_text s p) ≤ length d → at + length (head_text s p) ≤ length d
  early-first d at room = part-first (head_text s p) (names_text s p) early-is d at room

  pub early-second : (d : List ℕ) {w : List ℕ} {at q : ℕ} → Put d w at (head_text s p) q → at + length (first_text s p) ≤ length d → q + length (names_text s p) ≤ length w
  early-second d f room = part-second (head_text s p) (names_text s p) early-is d f room

  pub early-put : {d w w' : List ℕ} {at q r : ℕ} → Put w w' q (names_text s p) r → Put d w at (head_text s p) q → at + length (first_text s p) ≤ length d → Put d w' at (first_text s p) r
  early-put g f room = part-put (head_text s p) (names_text s p) early-is g f room

  records_is : records_text s p ≡ (logged_piece ++ value_text s (point_word s p 6)) ++ (context_piece ++ value_text s (point_word s p 7))
  unfolding records_text
  records_is = refl

  pub records-first : (d : List ℕ) (at : ℕ) → at + length (records_text s p) ≤ length d → at + length (logged_piece ++ value_text s (point_word s p 6)) ≤ length d
  records-first d at room = part-first (logged_piece ++ value_text s (point_word s p 6)) (context_piece ++ value_text s (point_word s p 7)) records_is d at room

  pub records-second : (d : List ℕ) {w : List ℕ} {at q : ℕ} → Put d w at (logged_piece ++ value_text s (point_word s p 6)) q → at + length (records_text s p) ≤ length d → q + length (context_piece ++ value_text s (point_word s p 7)) ≤ length w
  records-second d f room = part-second (logged_piece ++ value_text s (point_word s p 6)) (context_piece ++ value_text s (point_word s p 7)) records_is d f room

  pub records-put : {d w w' : List ℕ} {at q r : ℕ} → Put w w' q (context_piece ++ value_text s (point_word s p 7)) r → Put d w at (logged_piece ++ value_text s (point_word s p 6)) q → at + length (records_text s p) ≤ length d → Put d w' at (records_text s p) r
  records-put g f room = part-put (logged_piece ++ value_text s (point_word s p 6)) (context_piece ++ value_text s (point_word s p 7)) records_is g f room

  parties-is : parties_text s p ≡ (maybe_text s principal_piece (point_word s p 8)) ++ (maybe_text s resource_piece (point_word s p 9))
  unfolding parties_text
  parties-is = refl

  pub parties-first : (d : List ℕ) (at : ℕ) → at + length (parties_text s p) ≤ length d → at + length (maybe_text s principal_piece (point_word s p 8)) ≤ length d
  parties-first d at room = part-first (maybe_text s principal_piece (point_word s p 8)) (maybe_text s resource_piece (point_word s p 9)) parties-is d at room

  pub parties-second : (d : List ℕ) {w : List ℕ} {at q : ℕ} → Put d w at (maybe_text s principal_piece (point_word s p 8)) q → at + length (parties_text s p) ≤ length d → q + length (maybe_text s resource_piece (point_word s p 9)) ≤ length w
  parties-second d f room = part-second (maybe_text s principal_piece (point_word s p 8)) (maybe_text s resource_piece (point_word s p 9)) parties-is d f room

  pub parties-put : {d w w' : List ℕ} {at q r : ℕ} → Put w w' q (maybe_text s resource_piece (point_word s p 9)) r → Put d w at (maybe_text s principal_piece (point_word s p 8)) q → at + length (parties_text s p) ≤ length d → Put d w' at (parties_text s p) r
  parties-put g f room = part-put (maybe_text s principal_piece (point_word s p 8)) (maybe_text s resource_piece (point_word s p 9)) parties-is g f room

  entities-is : (first items : ℕ) → first ≡ point_word s p 10 → items ≡ point_word s p 11 → entities_text s p ≡ (entities_piece) ++ (run_text (entity_text s) first 3 items)
  unfolding entities_text
  entities-is first items e0 e1 = ap (λ (l : List ℕ). entities_piece ++ l) (sym (words_same s (entity_text s) 3 first items _ _ e0 e1))

  pub entities-first : (d : List ℕ) (at : ℕ) → at + length (entities_text s p) ≤ length d → at + 13 ≤ length d
  unfolding entities_text
  entities-first d at room = part-first (entities_piece) (run_text (entity_text s) (point_word s p 10) 3 (point_word s p 11)) refl d at room

  pub entities-second : (d : List ℕ) {w : List ℕ} {at q : ℕ} (first items : ℕ) → Put d w at (entities_piece) q → at + length (entities_text s p) ≤ length d → first ≡ point_word s p 10 → items ≡ point_word s p 11 → q + length (run_text (entity_text s) first 3 items) ≤ length w
  entities-second d first items f room e0 e1 = part-second (entities_piece) (run_text (entity_text s) first 3 items) (entities-is first items e0 e1) d f room

  pub entities-put : {d w w' : List ℕ} {at q r first items : ℕ} → Put w w' q (run_text (entity_text s) first 3 items) r → Put d w at (entities_piece) q → at + length (entities_text s p) ≤ length d → first ≡ point_word s p 10 → items ≡ point_word s p 11 → Put d w' at (entities_text s p) r
  entities-put {first = first} {items = items} g f room e0 e1 = part-put (entities_piece) (run_text (entity_text s) first 3 items) (entities-is first items e0 e1) g f room

  rest-is : rest_text s p ≡ (parties_text s p) ++ (entities_text s p)
  unfolding rest_text
  rest-is = refl

  pub rest-first : (d : List ℕ) (at : ℕ) → at + length (rest_text s p) ≤ length d → at + length (parties_text s p) ≤ length d
  rest-first d at room = part-first (parties_text s p) (entities_text s p) rest-is d at room

  pub rest-second : (d : List ℕ) {w : List ℕ} {at q : ℕ} → Put d w at (parties_text s p) q → at + length (rest_text s p) ≤ length d → q + length (entities_text s p) ≤ length w
  rest-second d f room = part-second (parties_text s p) (entities_text s p) rest-is d f room

  pub rest_put : {d w w' : List ℕ} {at q r : ℕ} → Put w w' q (entities_text s p) r → Put d w at (parties_text s p) q → at + length (rest_text s p) ≤ length d → Put d w' at (rest_text s p) r
  rest_put g f room = part-put (parties_text s p) (entities_text s p) rest-is g f room

  late_is : second_text s p ≡ (records_text s p) ++ (rest_text s p)
  unfolding second_text
  late_is = refl

  pub late_first : (d : List ℕ) (at : ℕ) → at + length (second_text s p) ≤ length d → at + length (records_text s p) ≤ length d
  late_first d at room = part-first (records_text s p) (rest_text s p) late_is d at room

  pub late_second : (d : List ℕ) {w : List ℕ} {at q : ℕ} → Put d w at (records_text s p) q → at + length (second_text s p) ≤ length d → q + length (rest_text s p) ≤ length w
  late_second d f room = part-second (records_text s p) (rest_text s p) late_is d f room

  pub late_put : {d w w' : List ℕ} {at q r : ℕ} → Put w w' q (rest_text s p) r → Put d w at (records_text s p) q → at + length (second_text s p) ≤ length d → Put d w' at (second_text s p) r
  late_put g f room = part-put (records_text s p) (rest_text s p) late_is g f room

  fields-is : fields_text s p ≡ (first_text s p) ++ (second_text s p)
  unfolding fields_text
  fields-is = refl

  pub fields-first : (d : List ℕ) (at : ℕ) → at + length (fields_text s p) ≤ length d → at + length (first_text s p) ≤ length d
  fields-first d at room = part-first (first_text s p) (second_text s p) fields-is d at room

  pub fields-second : (d : List ℕ) {w : List ℕ} {at q : ℕ} → Put d w at (first_text s p) q → at + length (fields_text s p) ≤ length d → q + length (second_text s p) ≤ length w
  fields-second d f room = part-second (first_text s p) (second_text s p) fields-is d f room

  pub fields-put : {d w w' : List ℕ} {at q r : ℕ} → Put w w' q (second_text s p) r → Put d w at (first_text s p) q → at + length (fields_text s p) ≤ length d → Put d w' at (fields_text s p) r
  fields-put g f room = part-put (first_text s p) (second_text s p) fields-is g f room

  line-is : line_text s p ≡ (fields_text s p) ++ (last_piece)
  unfolding line_text
  line-is = refl

  pub line_first : (d : List ℕ) (at : ℕ) → at + length (line_text s p) ≤ length d → at + length (fields_text s p) ≤ length d
  line_first d at room = part-first (fields_text s p) (last_piece) line-is d at room

  pub line_second : (d : List ℕ) {w : List ℕ} {at q : ℕ} → Put d w at (fields_text s p) q → at + length (line_text s p) ≤ length d → q + 3 ≤ length w
  line_second d f room = part-second (fields_text s p) (last_piece) line-is d f room

  pub line-put : {d w w' : List ℕ} {at q r : ℕ} → Put w w' q (last_piece) r → Put d w at (fields_text s p) q → at + length (line_text s p) ≤ length d → Put d w' at (line_text s p) r
  line-put g f room = part-put (fields_text s p) (last_piece) line-is g f room
