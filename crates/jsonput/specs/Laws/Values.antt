-- Values put: leaves by their kind, arrays and objects item by item
use Rattle.std.specs.Prelude.{◌≡◌, List, [], ◌∷◌, ◌++◌, ℕ, zero, suc, ◌+◌, ◌*◌, ◌<◌, ◌≤◌, eqb, length}
use Rattle.std.proofs.Math.Path.{refl, ap}
use Rattle.std.proofs.Common.{sym, ◌∙◌, append_assoc, append-nil, arith, add-one, length-append, to_z, eq-eqb, ne_eqb}
use Rattle.std.specs.Int.{w64}
use Rattle.meaning.specs.Tests.{◌or◌, choose, pick}
use Rattle.laws.specs.Tests.{yes, no}
use Rattle.meaning.specs.Case.{text, signed, member_word, value_word, value_from}
use Rattle.meaning.specs.Check.{Checked}
use Rattle.jsontext.specs.Values.{Truth, EntityOf, Decimal}
use Rattle.jsontrace.specs.Text.{escaped_byte, escaped, quoted, integer, after_first, commas, braces, pair, shown}
use Rattle.jsontrace.specs.Export.{tree_of}
use Rattle.jsonput.specs.Put.{Put, put-none, put_then, put_as}
use Rattle.jsonput.specs.Runs.{comma, run_text, run_fits}
use Rattle.jsonput.specs.Values.{Read, value_text, text_from, name_text, item_text, opening, closing, extension, typed, with_id, text-is, holder-text, holder-long, kind-low, part-lower}

-- ---- strings

pub string-room : (d t : List ℕ) (at : ℕ) (u : List ℕ) → t ≡ u → at + length (quoted u) ≤ length d → at + length (quoted t) ≤ length d
string-room d t at u e room = omega (arith, ap (λ (l : List ℕ). length (quoted l)) e)

pub string-put : {d w t : List ℕ} {at p : ℕ} (u : List ℕ) → Put d w at (quoted t) p → t ≡ u → Put d w at (quoted u) p
string-put u f e = put_as (ap quoted e) f

pub piece_room : (d piece more : List ℕ) (at : ℕ) → at + length (piece ++ more) ≤ length d → at + length piece ≤ length d
piece_room d piece more at room = omega (arith, length-append piece more)

pub more_room : (d : List ℕ) {w : List ℕ} (piece more : List ℕ) {at p : ℕ} → Put d w at piece p → at + length (piece ++ more) ≤ length d → p + length more ≤ length w
more_room d piece more f room = omega (arith, length-append piece more, f.end, f.long)

pub more-put : {d w w' : List ℕ} (piece more : List ℕ) {at p q : ℕ} → Put w w' p more q → Put d w at piece p → at + length (piece ++ more) ≤ length d → Put d w' at (piece ++ more) q
more-put piece more g f room = put_then f g (omega arith)

-- ---- truths

pub true-is : (b : ℕ) → b ≡ 1 → shown (Truth (eqb b 1)) ≡ 116 ∷ 114 ∷ 117 ∷ 101 ∷ []
unfolding shown
true-is b e = yes _ (eq-eqb b 1 e)

pub false-is : (b : ℕ) → (b ≡ 1 → ⊥) → shown (Truth (eqb b 1)) ≡ 102 ∷ 97 ∷ 108 ∷ 115 ∷ 101 ∷ []
unfolding shown
false-is b e = no _ (ne_eqb b 1 e) refl

pub true-room : (d : List ℕ) (at b : ℕ) → at + length (shown (Truth (eqb b 1))) ≤ length d → b ≡ 1 → at + 4 ≤ length d
true-room d at b room e = omega (arith, ap length (true-is b e))

pub true-put : {d w : List ℕ} {at p : ℕ} (b : ℕ) → Put d w at (116 ∷ 114 ∷ 117 ∷ 101 ∷ []) p → b ≡ 1 → Put d w at (shown (Truth (eqb b 1))) p
true-put b f e = put_as (sym (true-is b e)) f

pub false-room : (d : List ℕ) (at b : ℕ) → at + length (shown (Truth (eqb b 1))) ≤ length d → (b ≡ 1 → ⊥) → at + 5 ≤ length d
false-room d at b room e = omega (arith, ap length (false-is b e))

pub false-put : {d w : List ℕ} {at p : ℕ} (b : ℕ) → Put d w at (102 ∷ 97 ∷ 108 ∷ 115 ∷ 101 ∷ []) p → (b ≡ 1 → ⊥) → Put d w at (shown (Truth (eqb b 1))) p
false-put b f e = put_as (sym (false-is b e)) f

-- ---- Cedar's forms

decimal-end : (q : List ℕ) → (((q ++ []) ++ (125 ∷ [])) ++ []) ++ (125 ∷ []) ≡ q ++ (125 ∷ 125 ∷ [])
decimal-end q =
    ap (λ (l : List ℕ). ((l ++ (125 ∷ [])) ++ []) ++ (125 ∷ [])) (append-nil q)
    ∙ ap (λ (l : List ℕ). l ++ (125 ∷ [])) (append-nil (q ++ (125 ∷ [])))
    ∙ append_assoc q (125 ∷ []) (125 ∷ [])

decimal-is : (t : List ℕ) → shown (Decimal t) ≡ (extension ++ quoted t) ++ (125 ∷ 125 ∷ [])
unfolding shown braces commas after_first pair quoted escaped escaped_byte choose ◌or◌
decimal-is t = ap (λ (l : List ℕ). extension ++ l) (decimal-end (quoted t))

pub decimal-long : (t : List ℕ) → length (shown (Decimal t)) ≡ length (extension ++ quoted t) + 2
decimal-long t = omega (arith, ap length (decimal-is t), length-append (extension ++ quoted t) (125 ∷ 125 ∷ []))

pub decimal-first : (d t : List ℕ) (at : ℕ) → at + length (shown (Decimal t)) ≤ length d → at + length (extension ++ quoted t) ≤ length d
decimal-first d t at room = omega (arith, decimal-long t)

pub decimal-last : (d : List ℕ) {w : List ℕ} (t : List ℕ) {at p : ℕ} → Put d w at (extension ++ quoted t) p → at + length (shown (Decimal t)) ≤ length d → p + 2 ≤ length w
decimal-last d t f room = omega (arith, decimal-long t, f.end, f.long)

pub decimal-put : {d w w' : List ℕ} (t : List ℕ) {at p q : ℕ} → Put w w' p (125 ∷ 125 ∷ []) q → Put d w at (extension ++ quoted t) p → at + length (shown (Decimal t)) ≤ length d → Put d w' at (shown (Decimal t)) q
decimal-put t g f room = put_as (sym (decimal-is t)) (put_then f g (omega arith))

entity-end : (q r : List ℕ) → (((q ++ (44 ∷ 34 ∷ 105 ∷ 100 ∷ 34 ∷ 58 ∷ (r ++ []))) ++ (125 ∷ [])) ++ []) ++ (125 ∷ []) ≡ q ++ ((44 ∷ 34 ∷ 105 ∷ 100 ∷ 34 ∷ 58 ∷ r) ++ (125 ∷ 125 ∷ []))
entity-end q r =
    ap (λ (l : List ℕ). (((q ++ (44 ∷ 34 ∷ 105 ∷ 100 ∷ 34 ∷ 58 ∷ l)) ++ (125 ∷ [])) ++ []) ++ (125 ∷ [])) (append-nil r)
    ∙ ap (λ (l : List ℕ). l ++ (125 ∷ [])) (append-nil ((q ++ (44 ∷ 34 ∷ 105 ∷ 100 ∷ 34 ∷ 58 ∷ r)) ++ (125 ∷ [])))
    ∙ append_assoc (q ++ (44 ∷ 34 ∷ 105 ∷ 100 ∷ 34 ∷ 58 ∷ r)) (125 ∷ []) (125 ∷ [])
    ∙ append_assoc q (44 ∷ 34 ∷ 105 ∷ 100 ∷ 34 ∷ 58 ∷ r) (125 ∷ 125 ∷ [])

entity-is : (t i : List ℕ) → shown (EntityOf t i) ≡ (typed ++ quoted t) ++ ((with_id ++ quoted i) ++ (125 ∷ 125 ∷ []))
unfolding shown braces commas after_first pair quoted escaped escaped_byte choose ◌or◌
entity-is t i = ap (λ (l : List ℕ). typed ++ l) (entity-end (quoted t) (quoted i))

pub entity-long : (t i : List ℕ) → length (shown (EntityOf t i)) ≡ length (typed ++ quoted t) + length (with_id ++ quoted i) + 2
entity-long t i = omega (arith, ap length (entity-is t i), length-append (typed ++ quoted t) ((with_id ++ quoted i) ++ (125 ∷ 125 ∷ [])), length-append (with_id ++ quoted i) (125 ∷ 125 ∷ []))

pub identity_first : (d t i : List ℕ) (at : ℕ) → at + length (typed ++ quoted t) + length (with_id ++ quoted i) ≤ length d → at + length (typed ++ quoted t) ≤ length d
identity_first d t i at room = omega arith

pub identity_second : (d : List ℕ) {w : List ℕ} (t i : List ℕ) {at p : ℕ} → Put d w at (typed ++ quoted t) p → at + length (typed ++ quoted t) + length (with_id ++ quoted i) ≤ length d → p + length (with_id ++ quoted i) ≤ length w
identity_second d t i f room = omega (arith, f.end, f.long)

pub identity_put : {d w w' : List ℕ} (t i : List ℕ) {at p q : ℕ} → Put w w' p (with_id ++ quoted i) q → Put d w at (typed ++ quoted t) p → at + length (typed ++ quoted t) + length (with_id ++ quoted i) ≤ length d → Put d w' at ((typed ++ quoted t) ++ (with_id ++ quoted i)) q
identity_put t i g f room = put_then f g (omega arith)

pub entity-first : (d t i : List ℕ) (at : ℕ) → at + length (shown (EntityOf t i)) ≤ length d → at + length (typed ++ quoted t) + length (with_id ++ quoted i) ≤ length d
entity-first d t i at room = omega (arith, entity-long t i)

pub entity-last : (d : List ℕ) {w : List ℕ} (t i : List ℕ) {at p : ℕ} → Put d w at ((typed ++ quoted t) ++ (with_id ++ quoted i)) p → at + length (shown (EntityOf t i)) ≤ length d → p + 2 ≤ length w
entity-last d t i f room = omega (arith, entity-long t i, f.end, f.long, length-append (typed ++ quoted t) (with_id ++ quoted i))

pub entity-put : {d w w' : List ℕ} (t i : List ℕ) {at p q : ℕ} → Put w w' p (125 ∷ 125 ∷ []) q → Put d w at ((typed ++ quoted t) ++ (with_id ++ quoted i)) p → at + length (shown (EntityOf t i)) ≤ length d → Put d w' at (shown (EntityOf t i)) q
entity-put t i g f room =
    put_as (append_assoc (typed ++ quoted t) (with_id ++ quoted i) (125 ∷ 125 ∷ []) ∙ sym (entity-is t i)) (put_then f g (omega arith))

-- ---- by kind

module _ (s : List ℕ) (k a b : ℕ) where
  pub null_is : k ≡ 0 → text_from s k a b ≡ 110 ∷ 117 ∷ 108 ∷ 108 ∷ []
  unfolding text_from tree_of value_from pick shown
  null_is e = rw e refl

  pub truth_is : k ≡ 1 → text_from s k a b ≡ shown (Truth (eqb a 1))
  unfolding text_from tree_of value_from pick
  truth_is e = rw e refl

  pub int_is : (bits : ℕ) → k ≡ 2 → bits ≡ a + 4294967296 * b → text_from s k a b ≡ integer (to_z w64 bits)
  unfolding text_from tree_of value_from pick shown signed
  int_is bits e q = rw (e, q) refl

  pub extension-is : k ≡ 3 → text_from s k a b ≡ shown (Decimal (text s a))
  unfolding text_from tree_of value_from pick
  extension-is e = rw e refl

  pub string-is : k ≡ 4 → text_from s k a b ≡ quoted (text s a)
  unfolding text_from tree_of value_from pick shown
  string-is e = rw e refl

  pub reference_is : k ≡ 5 → text_from s k a b ≡ shown (EntityOf (text s a) (text s b))
  unfolding text_from tree_of value_from pick
  reference_is e = rw e refl

-- the last kind of six
pub fifth : (k : ℕ) → k < 6 → (k ≡ 0 → ⊥) → (k ≡ 1 → ⊥) → (k ≡ 2 → ⊥) → (k ≡ 3 → ⊥) → (k ≡ 4 → ⊥) → k ≡ 5
fifth zero h a b d e f = absurd (a refl)
fifth (suc zero) h a b d e f = absurd (b refl)
fifth (suc (suc zero)) h a b d e f = absurd (d refl)
fifth (suc (suc (suc zero))) h a b d e f = absurd (e refl)
fifth (suc (suc (suc (suc zero)))) h a b d e f = absurd (f refl)
fifth (suc (suc (suc (suc (suc k))))) h a b d e f = omega arith

module _ (s d : List ℕ) (at k a b : ℕ) (room : at + length (text_from s k a b) ≤ length d) where
  pub null_room : k ≡ 0 → at + 4 ≤ length d
  null_room e = omega (arith, ap length (null_is s k a b e))

  pub truth_room : k ≡ 1 → at + length (shown (Truth (eqb a 1))) ≤ length d
  truth_room e = omega (arith, ap length (truth_is s k a b e))

  pub int-room : {bits : ℕ} → k ≡ 2 → bits ≡ a + 4294967296 * b → at + length (integer (to_z w64 bits)) ≤ length d
  int-room {bits} e q = omega (arith, ap length (int_is s k a b bits e q))

  pub extension-room : k ≡ 3 → at + length (shown (Decimal (text s a))) ≤ length d
  extension-room e = omega (arith, ap length (extension-is s k a b e))

  pub words-room : k ≡ 4 → at + length (quoted (text s a)) ≤ length d
  words-room e = omega (arith, ap length (string-is s k a b e))

  pub reference_room : k < 6 → (k ≡ 0 → ⊥) → (k ≡ 1 → ⊥) → (k ≡ 2 → ⊥) → (k ≡ 3 → ⊥) → (k ≡ 4 → ⊥) → at + length (shown (EntityOf (text s a) (text s b))) ≤ length d
  reference_room h n0 n1 n2 n3 n4 = omega (arith, ap length (reference_is s k a b (fifth k h n0 n1 n2 n3 n4)))

module _ (s : List ℕ) {d w : List ℕ} {at p : ℕ} (k a b : ℕ) where
  pub null_put : Put d w at (110 ∷ 117 ∷ 108 ∷ 108 ∷ []) p → k ≡ 0 → Put d w at (text_from s k a b) p
  null_put f e = put_as (sym (null_is s k a b e)) f

  pub truth_put : Put d w at (shown (Truth (eqb a 1))) p → k ≡ 1 → Put d w at (text_from s k a b) p
  truth_put f e = put_as (sym (truth_is s k a b e)) f

  pub int-put : {bits : ℕ} → Put d w at (integer (to_z w64 bits)) p → k ≡ 2 → bits ≡ a + 4294967296 * b → Put d w at (text_from s k a b) p
  int-put {bits} f e q = put_as (sym (int_is s k a b bits e q)) f

  pub extension-put : Put d w at (shown (Decimal (text s a))) p → k ≡ 3 → Put d w at (text_from s k a b) p
  extension-put f e = put_as (sym (extension-is s k a b e)) f

  pub words-put : Put d w at (quoted (text s a)) p → k ≡ 4 → Put d w at (text_from s k a b) p
  words-put f e = put_as (sym (string-is s k a b e)) f

  pub reference_put : Put d w at (shown (EntityOf (text s a) (text s b))) p → k < 6 → (k ≡ 0 → ⊥) → (k ≡ 1 → ⊥) → (k ≡ 2 → ⊥) → (k ≡ 3 → ⊥) → (k ≡ 4 → ⊥) → Put d w at (text_from s k a b) p
  reference_put f h n0 n1 n2 n3 n4 = put_as (sym (reference_is s k a b (fifth k h n0 n1 n2 n3 n4))) f

-- ---- before an item

pub comma-none : {d : List ℕ} {at : ℕ} (i : ℕ) → i ≡ 0 → Put d d at (comma i) at
unfolding comma
comma-none {d} {at} i e = rw e (put-none d at)

pub comma-is : (i : ℕ) → (i ≡ 0 → ⊥) → comma i ≡ 44 ∷ []
unfolding comma
comma-is zero n = absurd (n refl)
comma-is (suc i) n = refl

pub comma-room : (d : List ℕ) (at i : ℕ) → at + length (comma i) ≤ length d → (i ≡ 0 → ⊥) → at < length d
comma-room d at i room n = omega (arith, ap length (comma-is i n))

pub comma-put : {d w : List ℕ} {at p : ℕ} (i : ℕ) → Put d w at (44 ∷ []) p → (i ≡ 0 → ⊥) → Put d w at (comma i) p
comma-put i f n = put_as (sym (comma-is i n)) f

pub name-none : {d : List ℕ} {at : ℕ} (s : List ℕ) (k m : ℕ) → (k ≡ 7 → ⊥) → Put d d at (name_text s k m) at
unfolding name_text
name-none {d} {at} s k m n = rw (ne_eqb k 7 n) (unfold choose in put-none d at)

name-is : (s : List ℕ) (k m : ℕ) → k ≡ 7 → name_text s k m ≡ quoted (text s (member_word s m 0)) ++ (58 ∷ [])
unfolding name_text
name-is s k m e = yes _ (eq-eqb k 7 e)

pub name-long : (s : List ℕ) (k m : ℕ) → k ≡ 7 → length (name_text s k m) ≡ length (quoted (text s (member_word s m 0))) + 1
name-long s k m e = omega (arith, ap length (name-is s k m e), length-append (quoted (text s (member_word s m 0))) (58 ∷ []))

pub name-room : (s d : List ℕ) (at k m n : ℕ) → at + length (name_text s k m) ≤ length d → k ≡ 7 → n ≡ member_word s m 0 → at + length (quoted (text s n)) ≤ length d
name-room s d at k m n room e q = rw q (omega (arith, name-long s k m e))

pub colon-room : (s d : List ℕ) {w : List ℕ} {at p : ℕ} (k m n : ℕ) → Put d w at (quoted (text s n)) p → at + length (name_text s k m) ≤ length d → k ≡ 7 → n ≡ member_word s m 0 → p < length w
colon-room s d k m n f room e q = omega (arith, name-long s k m e, ap (λ (x : ℕ). length (quoted (text s x))) q, f.end, f.long)

pub name-put : (s : List ℕ) {d w w' : List ℕ} {at p q : ℕ} (k m n : ℕ) → Put w w' p (58 ∷ []) q → Put d w at (quoted (text s n)) p → at + length (name_text s k m) ≤ length d → k ≡ 7 → n ≡ member_word s m 0 → Put d w' at (name_text s k m) q
name-put s k m n g f room e q =
    put_as (ap (λ (x : ℕ). quoted (text s x) ++ (58 ∷ [])) q ∙ sym (name-is s k m e)) (put_then f g (omega arith))

-- ---- brackets

pub brace_open : (k : ℕ) → k ≡ 7 → 123 ≡ opening k
unfolding opening
brace_open k e = sym (yes _ (eq-eqb k 7 e))

pub bracket_open : (k : ℕ) → (k ≡ 7 → ⊥) → 91 ≡ opening k
unfolding opening
bracket_open k n = sym (no _ (ne_eqb k 7 n) refl)

pub brace-close : (k : ℕ) → k ≡ 7 → 125 ≡ closing k
unfolding closing
brace-close k e = sym (yes _ (eq-eqb k 7 e))

pub bracket-close : (k : ℕ) → (k ≡ 7 → ⊥) → 93 ≡ closing k
unfolding closing
bracket-close k n = sym (no _ (ne_eqb k 7 n) refl)

-- ---- a value

pub value-is : {s : List ℕ} {v k a b : ℕ} → Read s v k a b → value_text s v ≡ text_from s k a b
value-is {s} {v} r = text-is r.checked v ∙ sym (rw (r.kind, r.first, r.items) refl)

pub leaf_room : {s : List ℕ} (d : List ℕ) (at v k a b : ℕ) → Read s v k a b → at + length (value_text s v) ≤ length d → at + length (text_from s k a b) ≤ length d
leaf_room d at v k a b r room = omega (arith, ap length (value-is r))

pub leaf-put : {s d w : List ℕ} {at p : ℕ} (v k a b : ℕ) → Put d w at (text_from s k a b) p → Read s v k a b → Put d w at (value_text s v) p
leaf-put v k a b f r = put_as (sym (value-is r)) f

-- before item i: the run so far, from the place after the bracket on; t is twice the number of the value
pub record Holding (s : List ℕ) (t k a b : ℕ) (d w : List ℕ) (from i next : ℕ) : Type 0 where
  pub value : ℕ
  pub twice : 2 * value ≡ t
  pub read : Read s value k a b
  pub holds : 6 ≤ k
  pub low : i ≤ b
  pub room : from + length (run_text (item_text s k) a 1 b) + 1 ≤ length d
  pub is : Put d w from (run_text (item_text s k) a 1 i) next

pub high : {s : List ℕ} {v k a b : ℕ} → Read s v k a b → k < 8
high {s} {v} r = omega (arith, r.kind, kind-low r.checked v)

pub long : {s : List ℕ} {v k a b : ℕ} → Read s v k a b → 6 ≤ k → length (value_text s v) ≡ length (run_text (item_text s k) a 1 b) + 2
long {s} {v} {k} {a} {b} r h = omega (arith, ap length (value-is r), holder-long s k a b h (high r))

pub open_room : {s : List ℕ} (d : List ℕ) (at : ℕ) {v k a b : ℕ} → Read s v k a b → 6 ≤ k → at + length (value_text s v) ≤ length d → at < length d
open_room d at r h room = omega (arith, long r h)

pub holding-none : {s d w : List ℕ} {at p v k a b t : ℕ} → Put d w at (opening k ∷ []) p → Read s v k a b → 2 * v ≡ t → 6 ≤ k → at + length (value_text s v) ≤ length d → Holding s t k a b w w p 0 p
unfolding run_text
holding-none {s} {d} {w} {at} {p} {v} {k} {a} {b} {t} f r e h room =
    record { value = v; twice = e; read = r; holds = h; low = omega arith; room = omega (arith, long r h, f.end, f.long); is = put-none w p }

-- item i: its lead, then its value
pub item-is : (s : List ℕ) (k a i : ℕ) → comma i ++ item_text s k (a + i) ≡ (comma i ++ name_text s k (a + i)) ++ value_text s (member_word s (a + i) 1)
unfolding item_text
item-is s k a i = sym (append_assoc (comma i) (name_text s k (a + i)) (value_text s (member_word s (a + i) 1)))

item-long : (s : List ℕ) (k a i : ℕ) → length (comma i ++ item_text s k (a + i)) ≡ length (comma i ++ name_text s k (a + i)) + length (value_text s (member_word s (a + i) 1))
item-long s k a i = ap length (item-is s k a i) ∙ length-append (comma i ++ name_text s k (a + i)) (value_text s (member_word s (a + i) 1))

pub lead_room : (s d : List ℕ) (at k a i : ℕ) → at + length (comma i ++ item_text s k (a + i)) ≤ length d → at + length (comma i ++ name_text s k (a + i)) ≤ length d
lead_room s d at k a i room = omega (arith, item-long s k a i)

pub held-room : (s d w : List ℕ) {at p : ℕ} (k a i m : ℕ) → Put d w at (comma i ++ name_text s k (a + i)) p → m ≡ member_word s (a + i) 1 → at + length (comma i ++ item_text s k (a + i)) ≤ length d → p + length (value_text s m) ≤ length w
held-room s d w k a i m f em room = rw em (omega (arith, f.end, f.long, item-long s k a i))

pub item-put : (s : List ℕ) {d w w' : List ℕ} {at p q m : ℕ} (k a i : ℕ) → Put w w' p (value_text s m) q → Put d w at (comma i ++ name_text s k (a + i)) p → m ≡ member_word s (a + i) 1 → at + length (comma i ++ item_text s k (a + i)) ≤ length d → Put d w' at (comma i ++ item_text s k (a + i)) q
item-put s k a i g f em room = put_as (sym (item-is s k a i)) (put_then f (put_as (ap (value_text s) em) g) (omega arith))

one-wide : (a i : ℕ) → a + 1 * i ≡ a + i
one-wide a i = omega arith

item-fits : (s : List ℕ) (k a b i : ℕ) → i < b → length (run_text (item_text s k) a 1 i) + length (comma i ++ item_text s k (a + i)) ≤ length (run_text (item_text s k) a 1 b)
item-fits s k a b i l = omega (arith, run_fits (item_text s k) a 1 i b l, ap (λ (x : ℕ). length (comma i ++ item_text s k x)) (one-wide a i))

pub part_falls : {s : List ℕ} {v k a b i : ℕ} (m : ℕ) → m ≡ member_word s (a + i) 1 → Read s v k a b → 6 ≤ k → i < b → m < v
part_falls {s} {v} {k} {a} {b} {i} m em r h l =
    let low : member_word s (value_word s v 1 + i) 1 < v = part-lower r.checked v i (omega (arith, r.kind)) (omega (arith, r.items)) in
    omega (arith, low, em ∙ ap (λ (x : ℕ). member_word s (x + i) 1) r.first)

pub held-falls : {s d w : List ℕ} {t k a b from i next : ℕ} (m : ℕ) → Holding s t k a b d w from i next → i < b → m ≡ member_word s (a + i) 1 → 2 * m + 1 < t
held-falls m g l em = omega (arith, g.twice, part_falls m em g.read g.holds l)

pub held-checked : {s d w : List ℕ} {t k a b from i next : ℕ} → Holding s t k a b d w from i next → Checked s
held-checked g = g.read.checked

pub item_room : {s : List ℕ} (d : List ℕ) {w : List ℕ} {t k a b from i next : ℕ} → Holding s t k a b d w from i next → i < b → next + length (comma i ++ item_text s k (a + i)) ≤ length w
item_room {s} d {w} {t} {k} {a} {b} {from} {i} {next} g l = omega (arith, g.room, g.is.end, g.is.long, item-fits s k a b i l)

pub holding-more : {s d w w' : List ℕ} {t k a b from i next q : ℕ} → Put w w' next (comma i ++ item_text s k (a + i)) q → Holding s t k a b d w from i next → i < b → Holding s t k a b d w' from (i + 1) q
holding-more {s} {d} {w} {w'} {t} {k} {a} {b} {from} {i} {next} {q} f g l = record {
  value = g.value;
  twice = g.twice;
  read = g.read;
  holds = g.holds;
  low = omega arith;
  room = g.room;
  is = put_as (sym more) (put_then g.is f (omega (arith, g.room)));
}
  where
    more : run_text (item_text s k) a 1 (i + 1) ≡ run_text (item_text s k) a 1 i ++ (comma i ++ item_text s k (a + i))
    more = ap (run_text (item_text s k) a 1) (add-one i) ∙ (unfold run_text in ap (λ (x : ℕ). run_text (item_text s k) a 1 i ++ (comma i ++ item_text s k x)) (one-wide a i))

pub close-room : {s : List ℕ} (d : List ℕ) {w : List ℕ} {t k a b from i next : ℕ} → Holding s t k a b d w from i next → b ≤ i → next < length w
close-room {s} d {w} {t} {k} {a} {b} {from} {i} {next} g h =
    let z : i ≡ b = omega (arith, g.low) in
    omega (arith, g.room, g.is.end, g.is.long, ap (λ (n : ℕ). length (run_text (item_text s k) a 1 n)) z)

pub value-put : {s d d₁ w w' : List ℕ} {at t k a b from i next r : ℕ} (v : ℕ) → Put w w' next (closing k ∷ []) r → Holding s t k a b d₁ w from i next → Put d d₁ at (opening k ∷ []) from → b ≤ i → 2 * v ≡ t → at + length (value_text s v) ≤ length d → Put d w' at (value_text s v) r
value-put {s} {d} {d₁} {w} {w'} {at} {t} {k} {a} {b} {from} {i} {next} {r} v last g f h e room =
    put_as whole (put_then (put_then f g.is (omega (arith, room, fit))) last (omega (arith, room, fit)))
  where
    same : v ≡ g.value
    same = omega (arith, e, g.twice)

    fit : length (value_text s v) ≡ length (run_text (item_text s k) a 1 b) + 2
    fit = rw same (long g.read g.holds)

    all : i ≡ b
    all = omega (arith, g.low)

    whole : ((opening k ∷ []) ++ run_text (item_text s k) a 1 i) ++ (closing k ∷ []) ≡ value_text s v
    whole =
        ap (λ (n : ℕ). (opening k ∷ run_text (item_text s k) a 1 n) ++ (closing k ∷ [])) all
        ∙ sym (ap (value_text s) same ∙ value-is g.read ∙ holder-text s k a b g.holds (high g.read))

-- ---- by the run and the item

pub open_put : {d w : List ℕ} {at p o : ℕ} (k : ℕ) → Put d w at (o ∷ []) p → o ≡ opening k → Put d w at (opening k ∷ []) p
open_put k f e = put_as (ap (λ (x : ℕ). x ∷ []) e) f

pub close-put : {d w : List ℕ} {at p o : ℕ} (k : ℕ) → Put d w at (o ∷ []) p → o ≡ closing k → Put d w at (closing k ∷ []) p
close-put k f e = put_as (ap (λ (x : ℕ). x ∷ []) e) f

pub named-room : (s d : List ℕ) {w : List ℕ} (k a i n : ℕ) {at p : ℕ} → Put d w at (comma i) p → n ≡ a + i → at + length (comma i ++ name_text s k (a + i)) ≤ length d → p + length (name_text s k n) ≤ length w
named-room s d k a i n f e room = rw e (omega (arith, length-append (comma i) (name_text s k (a + i)), f.end, f.long))

pub lead_put : (s : List ℕ) {d w w' : List ℕ} (k a i : ℕ) {n at p q : ℕ} → Put w w' p (name_text s k n) q → Put d w at (comma i) p → n ≡ a + i → at + length (comma i ++ name_text s k (a + i)) ≤ length d → Put d w' at (comma i ++ name_text s k (a + i)) q
lead_put s k a i g f e room = put_then f (put_as (ap (name_text s k) e) g) (omega arith)

pub held-is : (s : List ℕ) (a i n m : ℕ) → m ≡ member_word s n 1 → n ≡ a + i → m ≡ member_word s (a + i) 1
held-is s a i n m em en = em ∙ ap (λ (x : ℕ). member_word s x 1) en
