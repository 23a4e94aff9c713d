-- Words of a record written one after another, and what is next after it
use mathlib.Core.Path.{◌≡◌, refl, sym, ap, subst, ◌∙◌}
use mathlib.Core.List.{List, [], ◌∷◌, ◌++◌}
use Prim.Native.Nat.{ℕ, ◌+◌, ◌*◌, ◌-◌, ◌<◌, ◌≤◌}
use native.Mathlib.Omega.{arith}
use lib.ListN.{length, take, get_or, set}
use lib.Seq.{sets-eq, take-suc, take_all, length-take-le}
use native.Mathlib.Numerals.{add-one}
use mir.Val.{Fits}
use mir.Syntax.{w64}
use Rattle.laws.specs.Writing.{Writing, write-none, write-more}
use Rattle.encode.specs.Words.{packed}
use Rattle.encode.proofs.Laws.Words.{packed-long, packed-append}
use Rattle.jsonspelt.specs.declared.Spelt.{Spelt}
use Rattle.jsonspelt.specs.Spelt.{PutTold}
use Rattle.jsonroom.specs.declared.Bodies.{Bodies}
use Rattle.jsonroom.specs.declared.Next.{Next}
use Rattle.jsonroom.specs.Put.{with_value, ValuePut, with_string, StringRoom, StringPut, ListRoom, with_list, ListPut, spans, InOrder, front, contents}

-- words after words
pub words_more : {d w w' : List ℕ} {at : ℕ} (p : ℕ) (ws vs : List ℕ) → at ≤ length d → p ≡ at + 4 * length ws → Writing d w at (packed ws) → Writing w w' p (packed vs) → Writing d w' at (packed (ws ++ vs))
words_more {d} {w} {w'} {at} p ws vs h e f g =
    subst (λ (l : List ℕ). Writing d w' at l) (sym (packed-append ws vs)) (write-more (packed vs) p f h (omega (arith, packed-long ws)) g.is)

pub pair-written : {d w w' : List ℕ} {at : ℕ} (a a' b b' : ℕ) → at + 8 ≤ length d → Writing d w at (packed (a ∷ [])) → Writing w w' (at + 4) (packed (b ∷ [])) → a ≡ a' → b ≡ b' → Writing d w' at (packed (a' ∷ b' ∷ []))
pair-written {d} {w} {w'} {at} a a' b b' h f g ea eb =
    subst (λ (x : ℕ). Writing d w' at (packed (x ∷ b' ∷ []))) ea (subst (λ (x : ℕ). Writing d w' at (packed (a ∷ x ∷ []))) eb (words_more (at + 4) (a ∷ []) (b ∷ []) (omega arith) (omega arith) f g))

pub record_written : {d d₁ d₂ d₃ w : List ℕ} {at : ℕ} (a b e f : ℕ) → at + 16 ≤ length d → Writing d d₁ at (packed (a ∷ [])) → Writing d₁ d₂ (at + 4) (packed (b ∷ [])) → Writing d₂ d₃ (at + 8) (packed (e ∷ [])) → Writing d₃ w (at + 12) (packed (f ∷ [])) → Writing d w at (packed (a ∷ b ∷ e ∷ f ∷ []))
record_written {at = at} a b e f h p q r s =
    words_more (at + 12) (a ∷ b ∷ e ∷ []) (f ∷ []) (omega arith) (omega arith)
    (words_more (at + 8) (a ∷ b ∷ []) (e ∷ []) (omega arith) (omega arith) (words_more (at + 4) (a ∷ []) (b ∷ []) (omega arith) (omega arith) p q) r)
    s

pub value-put : {d w : List ℕ} (b : Bodies) (n : Next) {kind x y : ℕ} → Writing d w (b.values + 16 * n.value) (packed (kind ∷ x ∷ y ∷ 0 ∷ [])) → ValuePut d w b n kind x y (record { string = n.string; byte = n.byte; value = n.value + 1; member = n.member; list = n.list; point = n.point })
unfolding with_value
value-put b n g = record { is = g; next = refl }

-- ---- a string

module _ {line out : List ℕ} {at : ℕ} {b : Bodies} {n : Next} (r : StringRoom line at out b n) where
  pub pair-room : (w : List ℕ) → length w ≡ length out → b.strings + 8 * n.string + 8 ≤ length w
  pair-room w e = omega (arith, r.record_fits, r.fits.room)

  pub byte_word : n.byte ≤ 4294967295
  byte_word = omega (arith, r.words, r.fits.room)

  module _ {w : List ℕ} {s : Spelt} (p : PutTold line at out w (b.text + n.byte) s) where
    all-bytes : s.bytes ≡ length r.fits.text
    all-bytes = (p r.fits.text r.fits.rest r.fits.is).spelt.many

    pub size_word : s.bytes ≤ 4294967295
    size_word = omega (arith, r.words, r.fits.room, all-bytes)

    pub bytes_fit : Fits w64 (n.byte + s.bytes)
    bytes_fit = record { fits = omega (arith, byte_word, size_word) }

    pub string-put : {v : List ℕ} → Writing w v (b.strings + 8 * n.string) (packed (n.byte ∷ s.bytes ∷ [])) → StringPut line at out v b n (record { string = n.string + 1; byte = n.byte + s.bytes; value = n.value; member = n.member; list = n.list; point = n.point }) s.end
    unfolding with_string
    string-put {v} g text rest e =
        let q = p text rest e in
        record {
          from = q.spelt.from;
          within = q.spelt.within;
          rest-is = q.spelt.is;
          middle = w;
          bytes = q.written;
          record_is = subst (λ (k : ℕ). Writing w v (b.strings + 8 * n.string) (packed (n.byte ∷ k ∷ []))) q.spelt.many g;
          next = ap (λ (k : ℕ). with_string k n) q.spelt.many;
        }

-- ---- a list word and its mark

pub list_put : {d w marks : List ℕ} {b : Bodies} {n : Next} {word mark x : ℕ} → ListRoom d marks b n word → Writing d w (b.lists + 4 * n.list) (packed (x ∷ [])) → x ≡ word → ListPut d w marks (set marks n.list mark) b n word mark (record { string = n.string; byte = n.byte; value = n.value; member = n.member; list = n.list + 1; point = n.point })
unfolding with_list
list_put {d} {w} {marks} {b} {n} {word} {mark} r g e = record {
  is = subst (λ (k : ℕ). Writing d w (b.lists + 4 * n.list) (packed (k ∷ []))) e g;
  mark-is = record { is = sets-eq (mark ∷ []) marks n.list (omega (arith, r.marked)) };
  next = refl;
}

-- ---- words, one after another

pub record Wording (before out : List ℕ) (at : ℕ) (words : List ℕ) (i : ℕ) : Type 0 where
  pub within : i ≤ length words
  pub long : length out ≡ length before
  pub written : Writing before out at (packed (take i words))

pub wording_start : (before : List ℕ) (at : ℕ) (words : List ℕ) → Wording before before at words 0
unfolding packed
wording_start before at words = record { within = omega arith; long = refl; written = write-none before at }

module _ {before out : List ℕ} {at : ℕ} {words : List ℕ} {i : ℕ} (g : Wording before out at words i) (room : at + 4 * length words ≤ length before) where
  pub wording_more : {w : List ℕ} → i < length words → Writing out w (at + 4 * i) (packed (get_or words i 0 ∷ [])) → length w ≡ length out → Wording before w at words (i + 1)
  wording_more {w} h p l = record {
    within = omega arith;
    long = l ∙ g.long;
    written =
        let k : at + 4 * i ≡ at + 4 * length (take i words) = omega (arith, length-take-le i words g.within) in
        let e : take (i + 1) words ≡ take i words ++ (get_or words i 0 ∷ []) = rw (add-one, take-suc words i 0) in
        rw e (words_more (at + 4 * i) (take i words) (get_or words i 0 ∷ []) (omega (arith, room)) k g.written p);
  }

  pub wording_end : length words ≤ i → Writing before out at (packed words)
  wording_end h = rw (take_all i words h) at g.written

-- ---- the contents

pub spans-written : {d w w' : List ℕ} {at : ℕ} (a b c : ℕ) → at + 16 ≤ length d → Writing d w at (packed (a ∷ (b - a) ∷ [])) → Writing w w' (at + 8) (packed (b ∷ (c - b) ∷ [])) → Writing d w' at (packed (spans a b c))
unfolding spans
spans-written {at = at} a b c h f g = words_more (at + 8) (a ∷ (b - a) ∷ []) (b ∷ (c - b) ∷ []) (omega arith) (omega arith) f g

module _ {d : List ℕ} {b : Bodies} (o : InOrder b d) where
  pub front-written : {d₁ d₂ w : List ℕ} → Writing d d₁ 0 (packed (1 ∷ 0 ∷ [])) → Writing d₁ d₂ 8 (packed (spans b.strings b.values b.members)) → Writing d₂ w 24 (packed (spans b.members b.points b.lists)) → Writing d w 0 (packed (front b))
  unfolding front spans
  front-written p q r = words_more 24 ((1 ∷ 0 ∷ []) ++ spans b.strings b.values b.members) (spans b.members b.points b.lists) (omega arith) refl (words_more 8 (1 ∷ 0 ∷ []) (spans b.strings b.values b.members) (omega arith) refl p q) r

  pub contents-written : {d₁ d₂ w : List ℕ} → Writing d d₁ 0 (packed (front b)) → Writing d₁ d₂ 40 (packed (b.lists ∷ 0 ∷ [])) → Writing d₂ w 48 (packed (spans b.lists b.text b.end)) → Writing d w 0 (packed (contents b))
  unfolding contents front spans
  contents-written p q r = words_more 48 (front b ++ (b.lists ∷ 0 ∷ [])) (spans b.lists b.text b.end) (omega arith) refl (words_more 40 (front b) (b.lists ∷ 0 ∷ []) (omega arith) refl p q) r
