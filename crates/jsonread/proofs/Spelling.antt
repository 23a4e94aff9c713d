-- The bytes that a string stands for, one after another
use Rattle.std.specs.Prelude.{Option, Some, None, Result, Ok, Err}
use mathlib.Core.Path.{◌≡◌, refl, sym, ap, subst, ◌∙◌}
use mathlib.Core.Bool.{Bool, true, false, not}
use mathlib.Core.List.{List, [], ◌∷◌, ◌++◌}
use Prim.Native.Nat.{ℕ, zero, suc, ◌+◌, ◌*◌, ◌-◌, ◌/◌, ◌%◌, ◌<◌, ◌≤◌}
use native.Mathlib.Omega.{arith}
use lib.Dec.{eqb, ltb}
use lib.ListN.{length, drop, get_or, drop_of_length-le}
use borrow.Author.Tests.{eq-eqb, ne_eqb, lt-ltb, le-ltb, ltb-true, ltb-false, eqb-true, eqb-false, not-true, not-false}
use Rattle.meaning.specs.Tests.{◌and◌, choose}
use Rattle.laws.specs.Tests.{and-false, yes, no as otherwise}
use Rattle.meaning.specs.Equal.{same_list}
use Rattle.meaning.specs.Text.{follow, next, ended}
use Rattle.meaning.specs.declared.Due.{Due}
use Rattle.meaning.specs.declared.Due.TheVariants.{Nothing, One, Two, Three, AfterE0, AfterEd, AfterF0, AfterF4, Wrong as Never}
use Rattle.jsontext.specs.declared.Bad.{Bad}
use Rattle.jsontext.specs.declared.Fault.{Fault}
use Rattle.jsontext.specs.declared.Fault.TheVariants.{NotJson}
use Rattle.jsontext.specs.Reading.{Read, got, fault, then, no, mapped, want}
use Rattle.jsontext.specs.Strings.{utf8_of, escape, is_wrong, chars, string}
use Rattle.jsonread.specs.declared.names.Cursor.{Cursor}
use Rattle.std.specs.Option.{is_some}
use Rattle.std.specs.Ordering.{nat_cmp}
use Rattle.std.specs.Cmp.{nat_cmp_is}
use Rattle.std.specs.declared.cmp.Ordering.{Ordering}
use Rattle.std.specs.declared.cmp.Ordering.TheVariants.{Less, Equal, Greater}
use Rattle.jsonread.specs.Told.{CharTold}
use Rattle.jsonread.specs.Spelling.{last_of, Begins, Spelt, Yielded, NextTold, order_of, OrderTold, WordTold, Matching, Comparing, plainly, Alike, Fitting}
use Rattle.jsonread.proofs.Places.{byte_at, then_is}

-- ---- a character's first byte

module _ (u at : ℕ) where
  pub first_one : u < 128 → Begins u at (u, record { at = at; character = u; left = 0 })
  unfolding utf8_of last_of
  first_one h = record { byte = u; left = 0; few = omega arith; is = refl; bytes = yes _ (lt-ltb u 128 h) }

  module _ (a : 128 ≤ u) where
    pub first_two : u < 2048 → Begins u at (192 + u / 64, record { at = at; character = u; left = 1 })
    unfolding utf8_of last_of
    first_two h = record { byte = 192 + u / 64; left = 1; few = omega arith; is = refl; bytes = otherwise _ (le-ltb u 128 a) (yes _ (lt-ltb u 2048 h)) }

    module _ (b : 2048 ≤ u) where
      pub first_three : u < 65536 → Begins u at (224 + u / 4096, record { at = at; character = u; left = 2 })
      unfolding utf8_of last_of
      first_three h = record { byte = 224 + u / 4096; left = 2; few = omega arith; is = refl; bytes = otherwise _ (le-ltb u 128 a) (otherwise _ (le-ltb u 2048 b) (yes _ (lt-ltb u 65536 h))) }

      pub first-four : 65536 ≤ u → Begins u at (240 + u / 262144, record { at = at; character = u; left = 3 })
      unfolding utf8_of last_of
      first-four h = record { byte = 240 + u / 262144; left = 3; few = omega arith; is = refl; bytes = otherwise _ (le-ltb u 128 a) (otherwise _ (le-ltb u 2048 b) (otherwise _ (le-ltb u 65536 h) refl)) }

-- ---- what a reading that is no fault says

pub never : {A : Type 0} {w : Fault} {l f : ℕ} {a : A} {rest : List ℕ} → fault w l f ≡ got a rest → ⊥
never e = let z : ◌≡◌ {A = ℕ} 0 1 = cc in omega arith

pub record Came {A B : Type 0} (f : A → B) (m : Read A) (b : B) (rest : List ℕ) : Type 0 where
  pub what : A
  pub is : m ≡ got what rest
  pub makes : b ≡ f what

pub came : {A B : Type 0} (f : A → B) (m : Read A) {b : B} {rest : List ℕ} → mapped f m ≡ got b rest → Came f m b rest
unfolding then
came f (got a s) e = record { what = a; is = cc; makes = cc }
came f (fault w l k) e = absurd (never e)

pub none_left : (turns : ℕ) (d : Due) {text rest : List ℕ} → chars turns d [] ≡ got text rest → ⊥
unfolding chars
none_left zero d e = never e
none_left (suc turns) d e = never e

-- a quotation mark ends, and does not continue a character
pub quoted : (turns : ℕ) (d : Due) (s : List ℕ) {text rest : List ℕ} → chars turns d (34 ∷ s) ≡ got text rest → text ≡ []
unfolding chars choose ended ◌and◌ next follow is_wrong
quoted zero d s e = absurd (never e)
quoted (suc turns) Nothing s e = cc
quoted (suc turns) One s e = absurd (never e)
quoted (suc turns) Two s e = absurd (never e)
quoted (suc turns) Three s e = absurd (never e)
quoted (suc turns) AfterE0 s e = absurd (never e)
quoted (suc turns) AfterEd s e = absurd (never e)
quoted (suc turns) AfterF0 s e = absurd (never e)
quoted (suc turns) AfterF4 s e = absurd (never e)
quoted (suc turns) Never s e = absurd (never e)

abbrev pub after_slash : ℕ → List ℕ → Read (List ℕ)
after_slash turns s = then (escape s) (λ b rest. mapped (λ t. b ++ t) (chars turns Nothing rest))

pub slashed : (turns : ℕ) (d : Due) (s : List ℕ) {text rest : List ℕ} → chars turns d (92 ∷ s) ≡ got text rest → after_slash (turns - 1) s ≡ got text rest
unfolding chars choose ended ◌and◌ next follow is_wrong
slashed zero d s e = absurd (never e)
slashed (suc turns) Nothing s e = let z : suc turns - 1 ≡ turns = omega arith in rw z e
slashed (suc turns) One s e = absurd (never e)
slashed (suc turns) Two s e = absurd (never e)
slashed (suc turns) Three s e = absurd (never e)
slashed (suc turns) AfterE0 s e = absurd (never e)
slashed (suc turns) AfterEd s e = absurd (never e)
slashed (suc turns) AfterF0 s e = absurd (never e)
slashed (suc turns) AfterF4 s e = absurd (never e)
slashed (suc turns) Never s e = absurd (never e)

pub record Plain (c : ℕ) (s text rest : List ℕ) : Type 0 where
  pub turns : ℕ
  pub due : Due
  pub others : List ℕ
  pub is : chars turns due s ≡ got others rest
  pub makes : text ≡ c ∷ others

pub plain : (turns : ℕ) (d : Due) (c : ℕ) (s : List ℕ) {text rest : List ℕ} → (c ≡ 34 → ⊥) → (c ≡ 92 → ⊥) → chars turns d (c ∷ s) ≡ got text rest → Plain c s text rest
unfolding chars choose
plain zero d c s n m e = absurd (never e)
plain (suc turns) d c s {text} {rest} n m e =
    go (ended d and eqb c 34) (ended d and eqb c 92) (ended d and ltb c 32) (is_wrong (next d c)) (ap (λ (b : Bool). ended d and b) (ne_eqb c 34 n) ∙ and-false (ended d)) (ap (λ (b : Bool). ended d and b) (ne_eqb c 92 m) ∙ and-false (ended d)) e
  where
    go : (x y z w : Bool) → x ≡ false → y ≡ false → choose x (got [] s) (choose y (after_slash turns s) (choose z (no NotJson (c ∷ s)) (choose w (no NotJson (c ∷ s)) (mapped (λ t. c ∷ t) (chars turns (next d c) s))))) ≡ got text rest → Plain c s text rest
    go true y z w p q k = absurd (let z : ◌≡◌ {A = ℕ} 0 1 = cc in omega arith)
    go false true z w p q k = absurd (let z : ◌≡◌ {A = ℕ} 0 1 = cc in omega arith)
    go false false true w p q k = absurd (never k)
    go false false false true p q k = absurd (never k)
    go false false false false p q k = let h = came (λ t. c ∷ t) (chars turns (next d c) s) k in record { turns = turns; due = next d c; others = h.what; is = h.is; makes = h.makes }

-- ---- the next byte

pub char_below : {line : List ℕ} {at u e : ℕ} {x : Result (ℕ × ℕ) Bad} {m : Read (List ℕ)} → CharTold line at x m → x ≡ Ok (u, e) → u < 1114112
char_below t q = (t.found _ _ q).below

told-ended : {line : List ℕ} {c : Cursor} → ((bytes : List ℕ) → Spelt line c bytes → bytes ≡ []) → NextTold line c None
told-ended f =
    record {
      less = λ b n q. absurd (let z : ◌≡◌ {A = ℕ} 0 1 = cc in omega arith);
      ended = λ q. f;
      yields = λ b n q. absurd (let z : ◌≡◌ {A = ℕ} 0 1 = cc in omega arith);
    }

told-byte : {line : List ℕ} {c n : Cursor} {b : ℕ} → 4 * (length line - n.at) + n.left < 4 * (length line - c.at) + c.left → ((bytes : List ℕ) → Spelt line c bytes → Yielded line n b bytes) → NextTold line c (Some (b, n))
told-byte {line} {c} {n} {b} h f =
    record {
      less = λ k m q. let p : ◌≡◌ {A = ℕ × Cursor} (b, n) (k, m) = cc in let y : n ≡ m = ap (λ (p : ℕ × Cursor). p.1) p in rw y at h;
      ended = λ q. absurd (let z : ◌≡◌ {A = ℕ} 0 1 = cc in omega arith);
      yields =
          λ k m q.
          let p : ◌≡◌ {A = ℕ × Cursor} (b, n) (k, m) = cc in
          let z : b ≡ k = ap (λ (p : ℕ × Cursor). p.0) p in
          let y : n ≡ m = ap (λ (p : ℕ × Cursor). p.1) p in
          rw y at (rw z at f);
    }

module _ (line : List ℕ) (c : Cursor) where
  pub next-third : c.left ≡ 3 → NextTold line c (Some (128 + c.character / 4096 % 64, record { at = c.at; character = c.character; left = 2 }))
  unfolding last_of
  next-third e = told-byte (omega arith) (λ bytes s. record { others = last_of c.character 2 ++ s.text; is = s.all ∙ ap (λ (k : ℕ). last_of c.character k ++ s.text) e; spelt = record { turns = s.turns; due = s.due; text = s.text; rest = s.rest; few = omega arith; is = s.is; all = refl } })

  pub next-second : c.left ≡ 2 → NextTold line c (Some (128 + c.character / 64 % 64, record { at = c.at; character = c.character; left = 1 }))
  unfolding last_of
  next-second e = told-byte (omega arith) (λ bytes s. record { others = last_of c.character 1 ++ s.text; is = s.all ∙ ap (λ (k : ℕ). last_of c.character k ++ s.text) e; spelt = record { turns = s.turns; due = s.due; text = s.text; rest = s.rest; few = omega arith; is = s.is; all = refl } })

  pub next_last : c.left ≡ 1 → NextTold line c (Some (128 + c.character % 64, record { at = c.at; character = c.character; left = 0 }))
  unfolding last_of
  next_last e = told-byte (omega arith) (λ bytes s. record { others = s.text; is = s.all ∙ ap (λ (k : ℕ). last_of c.character k ++ s.text) e; spelt = record { turns = s.turns; due = s.due; text = s.text; rest = s.rest; few = omega arith; is = s.is; all = refl } })

  pub next-none : length line ≤ c.at → NextTold line c None
  next-none h = told-ended (λ bytes s. absurd (none_left s.turns s.due (ap (λ (l : List ℕ). chars s.turns s.due l) (sym (drop_of_length-le line h)) ∙ s.is)))

  module _ (n3 : c.left ≡ 3 → ⊥) (n2 : c.left ≡ 2 → ⊥) (n1 : c.left ≡ 1 → ⊥) (h : c.at < length line) where
    none_pending : (k : ℕ) → k ≤ 3 → (k ≡ 3 → ⊥) → (k ≡ 2 → ⊥) → (k ≡ 1 → ⊥) → k ≡ 0
    none_pending zero l x y z = refl
    none_pending (suc zero) l x y z = absurd (z refl)
    none_pending (suc (suc zero)) l x y z = absurd (y refl)
    none_pending (suc (suc (suc zero))) l x y z = absurd (x refl)
    none_pending (suc (suc (suc (suc k)))) l x y z = absurd (omega arith)

    text-only : {bytes : List ℕ} (s : Spelt line c bytes) → bytes ≡ s.text
    unfolding last_of
    text-only s = s.all ∙ ap (λ (k : ℕ). last_of c.character k ++ s.text) (none_pending c.left s.few n3 n2 n1)

    here : {bytes : List ℕ} {b : ℕ} (s : Spelt line c bytes) → get_or line c.at 0 ≡ b → chars s.turns s.due (b ∷ drop (c.at + 1) line) ≡ got s.text s.rest
    here s e = ap (λ (b : ℕ). chars s.turns s.due (b ∷ drop (c.at + 1) line)) (sym e) ∙ sym (ap (λ (l : List ℕ). chars s.turns s.due l) (byte_at line c.at h)) ∙ s.is

    pub next-quote : get_or line c.at 0 ≡ 34 → NextTold line c None
    next-quote e = told-ended (λ bytes s. text-only s ∙ quoted s.turns s.due (drop (c.at + 1) line) (here s e))

    pub next-plain : (get_or line c.at 0 ≡ 34 → ⊥) → (get_or line c.at 0 ≡ 92 → ⊥) → NextTold line c (Some (get_or line c.at 0, record { at = c.at + 1; character = 0; left = 0 }))
    unfolding last_of
    next-plain n m =
        told-byte (omega arith)
        (λ bytes s.
        let p = plain s.turns s.due (get_or line c.at 0) (drop (c.at + 1) line) n m (here s refl) in
        record { others = p.others; is = text-only s ∙ p.makes; spelt = record { turns = p.turns; due = p.due; text = p.others; rest = s.rest; few = omega arith; is = p.is; all = refl } })

    module _ (e : get_or line c.at 0 ≡ 92) {x : Result (ℕ × ℕ) Bad} (t : CharTold line (c.at + 1 + 1) x (escape (drop (c.at + 1) line))) where
      after : {bytes : List ℕ} (s : Spelt line c bytes) → after_slash (s.turns - 1) (drop (c.at + 1) line) ≡ got s.text s.rest
      after s = slashed s.turns s.due (drop (c.at + 1) line) (here s e)

      pub next-wrong : {p : Bad} → x ≡ Err p → NextTold line c None
      unfolding then
      next-wrong q = told-ended (λ bytes s. absurd (never (sym (ap (λ (m : Read (List ℕ)). then m (λ b rest. mapped (λ t. b ++ t) (chars (s.turns - 1) Nothing rest))) (t.missing _ q).faulty.is) ∙ after s)))

      pub next-escape : {u e : ℕ} {r : ℕ × Cursor} → x ≡ Ok (u, e) → Begins u e r → NextTold line c (Some r)
      next-escape {u} {e} {r} q b =
          let i = t.found _ _ q in
          let told : NextTold line c (Some (b.byte, record { at = e; character = u; left = b.left })) =
          told-byte (omega (arith, i.from, i.within, b.few))
          (λ bytes s.
          let m = came (λ t. utf8_of u ++ t) (chars (s.turns - 1) Nothing (drop e line)) (sym (then_is (λ b rest. mapped (λ t. b ++ t) (chars (s.turns - 1) Nothing rest)) i.is) ∙ after s) in
          record {
            others = last_of u b.left ++ m.what;
            is = text-only s ∙ m.makes ∙ ap (λ (l : List ℕ). l ++ m.what) b.bytes;
            spelt = record { turns = s.turns - 1; due = Nothing; text = m.what; rest = s.rest; few = b.few; is = m.is; all = refl };
          })
          in
          rw b.is told

-- ---- a word

-- a string's characters stand after its quotation mark
pub string-none : {n rest : List ℕ} → string [] ≡ got n rest → ⊥
unfolding string then want
string-none e = never e

pub string-text : (b : ℕ) (s : List ℕ) {n rest : List ℕ} → string (b ∷ s) ≡ got n rest → chars (suc (length s)) Nothing s ≡ got n rest
unfolding string then want choose
string-text b s {n} {rest} e =
    go (eqb b 34) e
  where
    go : (x : Bool) → then (choose x (got b s) (no NotJson (b ∷ s))) (λ q rest. chars (suc (length rest)) Nothing rest) ≡ got n rest → chars (suc (length s)) Nothing s ≡ got n rest
    go true k = k
    go false k = absurd (never k)

pub spelt-string : (line : List ℕ) (at : ℕ) {n rest : List ℕ} → string (drop at line) ≡ got n rest → Spelt line (record { at = at + 1; character = 0; left = 0 }) n
unfolding last_of
spelt-string line at {n} {rest} e =
    go (ltb at (length line)) refl
  where
    go : (x : Bool) → ltb at (length line) ≡ x → Spelt line (record { at = at + 1; character = 0; left = 0 }) n
    go true q = let l : at < length line = ltb-true at (length line) q in record { turns = suc (length (drop (at + 1) line)); due = Nothing; text = n; rest = rest; few = omega arith; is = string-text (get_or line at 0) (drop (at + 1) line) (sym (ap string (byte_at line at l)) ∙ e); all = refl }
    go false q = absurd (string-none (sym (ap string (drop_of_length-le line (ltb-false at (length line) q))) ∙ e))

pub match-start : (line word : List ℕ) (at : ℕ) → Matching line at word (record { at = at + 1; character = 0; left = 0 }) 0
match-start line word at = record { within = omega arith; goes = λ n rest e. record { bytes = n; spelt = spelt-string line at e; is = refl } }

same_none : (w : ℕ) (ws : List ℕ) → same_list [] (w ∷ ws) ≡ false
unfolding same_list
same_none w ws = refl

same-longer : (b : ℕ) (bs : List ℕ) → same_list (b ∷ bs) [] ≡ false
unfolding same_list
same-longer b bs = refl

same_ended : same_list [] [] ≡ true
unfolding same_list
same_ended = refl

same_more : (b w : ℕ) (bs ws : List ℕ) → b ≡ w → same_list (b ∷ bs) (w ∷ ws) ≡ same_list bs ws
unfolding same_list ◌and◌
same_more b w bs ws e = rw (eq-eqb b w e)

same_not : (b w : ℕ) (bs ws : List ℕ) → (b ≡ w → ⊥) → same_list (b ∷ bs) (w ∷ ws) ≡ false
unfolding same_list ◌and◌
same_not b w bs ws e = rw (ne_eqb b w e)

module _ {line word : List ℕ} {at i : ℕ} {x : Cursor} {r : Option (ℕ × Cursor)} (g : Matching line at word x i) (t : NextTold line x r) where
  pub match-done : length word ≤ i → r ≡ None → WordTold line at word true
  match-done h q n rest e =
      let m = g.goes n rest e in
      sym (m.is ∙ ap (λ (b : List ℕ). same_list b (drop i word)) (t.ended q _ m.spelt) ∙ ap (λ (w : List ℕ). same_list [] w) (drop_of_length-le word h) ∙ same_ended)

  pub match-longer : {b : ℕ} {k : Cursor} → length word ≤ i → r ≡ Some (b, k) → WordTold line at word false
  match-longer {b} h q n rest e =
      let m = g.goes n rest e in
      let y = t.yields _ _ q _ m.spelt in
      sym (m.is ∙ ap (λ (b : List ℕ). same_list b (drop i word)) y.is ∙ ap (λ (w : List ℕ). same_list (b ∷ y.others) w) (drop_of_length-le word h) ∙ same-longer b y.others)

  pub match-end : {z : Bool} → length word ≤ i → is_some r ≡ not z → WordTold line at word z
  match-end {z} h e =
      go r refl
    where
      go : (o : Option (ℕ × Cursor)) → r ≡ o → WordTold line at word z
      go None q = let k : true ≡ z = sym (not-false z (sym e ∙ ap is_some q)) in rw (← k) (match-done h q)
      go (Some x) q = let k : false ≡ z = sym (not-true z (sym e ∙ ap is_some q)) in rw (← k) (match-longer h q)

  module _ (h : i < length word) where
    pub match-short : r ≡ None → WordTold line at word false
    match-short q n rest e =
        let m = g.goes n rest e in
        sym (m.is ∙ ap (λ (b : List ℕ). same_list b (drop i word)) (t.ended q _ m.spelt) ∙ ap (λ (w : List ℕ). same_list [] w) (byte_at word i h) ∙ same_none (get_or word i 0) (drop (i + 1) word))

    module _ {b : ℕ} {k : Cursor} (q : r ≡ Some (b, k)) where
      both : {n rest : List ℕ} (e : string (drop at line) ≡ got n rest) → same_list n word ≡ same_list (b ∷ (t.yields _ _ q _ (g.goes n rest e).spelt).others) (get_or word i 0 ∷ drop (i + 1) word)
      both {n} {rest} e =
          let m = g.goes n rest e in
          let y = t.yields _ _ q _ m.spelt in
          m.is ∙ ap (λ (b : List ℕ). same_list b (drop i word)) y.is ∙ ap (λ (w : List ℕ). same_list (b ∷ y.others) w) (byte_at word i h)

      pub match-differs : (b ≡ get_or word i 0 → ⊥) → WordTold line at word false
      match-differs d n rest e = sym (both e ∙ same_not b (get_or word i 0) _ (drop (i + 1) word) d)

      pub match-more : b ≡ get_or word i 0 → Matching line at word k (i + 1)
      match-more d =
          record {
            within = omega arith;
            goes =
                λ n rest e.
                let y = t.yields _ _ q _ (g.goes n rest e).spelt in
                record { bytes = y.others; spelt = y.spelt; is = both e ∙ same_more b (get_or word i 0) y.others (drop (i + 1) word) d };
          }

-- ---- the order of two strings

pub compare_start : (line : List ℕ) (a b : ℕ) → Comparing line a b (record { at = a + 1; character = 0; left = 0 }) (record { at = b + 1; character = 0; left = 0 })
compare_start line a b = record { goes = λ m n s t e f. record { left = m; right = n; spelt-left = spelt-string line a e; spelt-right = spelt-string line b f; is = refl } }

order_same : order_of [] [] ≡ Equal
unfolding order_of
order_same = refl

order-shorter : (b : ℕ) (t : List ℕ) → order_of [] (b ∷ t) ≡ Less
unfolding order_of
order-shorter b t = refl

order-longer : (a : ℕ) (s : List ℕ) → order_of (a ∷ s) [] ≡ Greater
unfolding order_of
order-longer a s = refl

order-less : (a b : ℕ) (s t : List ℕ) → a < b → order_of (a ∷ s) (b ∷ t) ≡ Less
unfolding order_of
order-less a b s t h = yes _ (lt-ltb a b h)

order-more : (a b : ℕ) (s t : List ℕ) → b < a → order_of (a ∷ s) (b ∷ t) ≡ Greater
unfolding order_of
order-more a b s t h = otherwise _ (le-ltb a b (omega arith)) (yes _ (lt-ltb b a h))

order-on : (a b : ℕ) (s t : List ℕ) → b ≤ a → a ≤ b → order_of (a ∷ s) (b ∷ t) ≡ order_of s t
unfolding order_of
order-on a b s t h l = otherwise _ (le-ltb a b h) (otherwise _ (le-ltb b a l) refl)

order_differs : (a b : ℕ) (s t : List ℕ) → (a ≡ b → ⊥) → nat_cmp a b ≡ order_of (a ∷ s) (b ∷ t)
order_differs a b s t d =
    go (ltb a b) refl
  where
    go : (x : Bool) → ltb a b ≡ x → nat_cmp a b ≡ order_of (a ∷ s) (b ∷ t)
    go true e = let h : a < b = ltb-true a b e in sym (nat_cmp_is a b Less h) ∙ sym (order-less a b s t h)
    go false e = let l : b ≤ a = ltb-false a b e in let h : b < a = omega arith in sym (nat_cmp_is a b Greater h) ∙ sym (order-more a b s t h)

pub cursor_less : {line : List ℕ} {x n : Cursor} {b : ℕ} {u : Option (ℕ × Cursor)} → NextTold line x u → u ≡ Some (b, n) → 4 * (length line - n.at) + n.left < 4 * (length line - x.at) + x.left
cursor_less t q = t.less _ _ q

module _ (line : List ℕ) (a b : ℕ) {x y : Cursor} {u v : Option (ℕ × Cursor)} (g : Comparing line a b x y) (tu : NextTold line x u) (tv : NextTold line y v) where
  pub compare_same : u ≡ None → v ≡ None → OrderTold line a b Equal
  compare_same p q m n s t e f =
      let c = g.goes m n s t e f in
      sym (c.is ∙ ap (λ (l : List ℕ). order_of l c.right) (tu.ended p _ c.spelt-left) ∙ ap (λ (l : List ℕ). order_of [] l) (tv.ended q _ c.spelt-right) ∙ order_same)

  pub compare_shorter : {k : ℕ} {z : Cursor} → u ≡ None → v ≡ Some (k, z) → OrderTold line a b Less
  compare_shorter {k} p q m n s t e f =
      let c = g.goes m n s t e f in
      let w = tv.yields _ _ q _ c.spelt-right in
      sym (c.is ∙ ap (λ (l : List ℕ). order_of l c.right) (tu.ended p _ c.spelt-left) ∙ ap (λ (l : List ℕ). order_of [] l) w.is ∙ order-shorter k w.others)

  module _ {j : ℕ} {o : Cursor} (p : u ≡ Some (j, o)) where
    pub compare_longer : v ≡ None → OrderTold line a b Greater
    compare_longer q m n s t e f =
        let c = g.goes m n s t e f in
        let w = tu.yields _ _ p _ c.spelt-left in
        sym (c.is ∙ ap (λ (l : List ℕ). order_of l c.right) w.is ∙ ap (λ (l : List ℕ). order_of (j ∷ w.others) l) (tv.ended q _ c.spelt-right) ∙ order-longer j w.others)

    module _ {k : ℕ} {z : Cursor} (q : v ≡ Some (k, z)) where
      both_go : {m n s t : List ℕ} (e : string (drop a line) ≡ got m s) (f : string (drop b line) ≡ got n t) → order_of m n ≡ order_of (j ∷ (tu.yields _ _ p _ (g.goes m n s t e f).spelt-left).others) (k ∷ (tv.yields _ _ q _ (g.goes m n s t e f).spelt-right).others)
      both_go {m} {n} {s} {t} e f =
          let c = g.goes m n s t e f in
          let w = tu.yields _ _ p _ c.spelt-left in
          let x = tv.yields _ _ q _ c.spelt-right in
          c.is ∙ ap (λ (l : List ℕ). order_of l c.right) w.is ∙ ap (λ (l : List ℕ). order_of (j ∷ w.others) l) x.is

      -- by two bytes that differ
      pub compare_by : {r : Ordering} → r ≡ nat_cmp j k → (j ≡ k → ⊥) → OrderTold line a b r
      compare_by h d m n s t e f = h ∙ order_differs j k _ _ d ∙ sym (both_go e f)

      pub compare_on : k ≤ j → j ≤ k → Comparing line a b o z
      compare_on h l =
          record {
            goes =
                λ m n s t e f.
                let c = g.goes m n s t e f in
                let w = tu.yields _ _ p _ c.spelt-left in
                let x = tv.yields _ _ q _ c.spelt-right in
                record { left = w.others; right = x.others; spelt-left = w.spelt; spelt-right = x.spelt; is = both_go e f ∙ order-on j k _ _ h l };
          }

-- ---- bytes that stand for themselves

module _ {line : List ℕ} {i : ℕ} (h : i < length line) where
  next-mark : get_or line i 0 ≡ 34 → NextTold line (plainly i) None
  next-mark e = next-quote line (plainly i) (λ z. omega (arith, z)) (λ z. omega (arith, z)) (λ z. omega (arith, z)) h e

  next-itself : (get_or line i 0 ≡ 34 → ⊥) → (get_or line i 0 ≡ 92 → ⊥) → NextTold line (plainly i) (Some (get_or line i 0, plainly (i + 1)))
  next-itself n m = next-plain line (plainly i) (λ z. omega (arith, z)) (λ z. omega (arith, z)) (λ z. omega (arith, z)) h n m

pub alike-start : {line : List ℕ} {a b : ℕ} → a ≤ length line → b ≤ length line → Alike line a b 1
alike-start {line} {a} {b} h l = record { left = omega (arith, h); right = omega (arith, l); is = compare_start line a b }

module _ {line : List ℕ} {a b k : ℕ} (g : Alike line a b k) where
  pub alike_is : Comparing line a b (plainly (a + k)) (plainly (b + k))
  alike_is = g.is

  module _ (h : a + k < length line) (l : b + k < length line) where
    pub alike-below : length line - (k + 1) < length line - k
    alike-below = omega (arith, h)

    module _ (n : get_or line (a + k) 0 ≡ 34 → ⊥) (m : get_or line (a + k) 0 ≡ 92 → ⊥) where
      pub alike-more : get_or line (a + k) 0 ≡ get_or line (b + k) 0 → Alike line a b (k + 1)
      alike-more e =
          let x : a + k + 1 ≡ a + (k + 1) = omega arith in
          let y : b + k + 1 ≡ b + (k + 1) = omega arith in
          record {
            left = omega (arith, h);
            right = omega (arith, l);
            is =
                subst (λ (j : ℕ). Comparing line a b (plainly (a + (k + 1))) (plainly j)) y
                (subst (λ (i : ℕ). Comparing line a b (plainly i) (plainly (b + k + 1))) x
                (compare_on line a b g.is (next-itself h n m) (next-itself l (λ z. n (e ∙ z)) (λ z. m (e ∙ z))) refl refl (omega (arith, e)) (omega (arith, e))));
          }

      module _ (p : get_or line (b + k) 0 ≡ 34 → ⊥) (q : get_or line (b + k) 0 ≡ 92 → ⊥) where
        pub alike_differs : {r : Ordering} → r ≡ nat_cmp (get_or line (a + k) 0) (get_or line (b + k) 0) → (get_or line (a + k) 0 ≡ get_or line (b + k) 0 → ⊥) → OrderTold line a b r
        alike_differs z d = compare_by line a b g.is (next-itself h n m) (next-itself l p q) refl refl z d

pub fitting-start : {line word : List ℕ} {at : ℕ} → at ≤ length line → Fitting line at word 0
fitting-start {line} {word} {at} h =
    let z : at + 1 ≡ at + 1 + 0 = omega arith in
    record { within = omega (arith, h); is = subst (λ (i : ℕ). Matching line at word (plainly i) 0) z (match-start line word at) }

module _ {line word : List ℕ} {at i : ℕ} (g : Fitting line at word i) where
  pub fitting-is : Matching line at word (plainly (at + 1 + i)) i
  fitting-is = g.is

  module _ (h : at + 1 + i < length line) where
    module _ (e : get_or line (at + 1 + i) 0 ≡ 34) where
      pub fitting-short : i < length word → WordTold line at word false
      fitting-short l = match-short g.is (next-mark h e) l refl

      pub fitting-done : length word ≤ i → WordTold line at word true
      fitting-done l = match-done g.is (next-mark h e) l refl

    module _ (n : get_or line (at + 1 + i) 0 ≡ 34 → ⊥) (m : get_or line (at + 1 + i) 0 ≡ 92 → ⊥) where
      pub fitting-longer : length word ≤ i → WordTold line at word false
      fitting-longer l = match-longer g.is (next-itself h n m) l refl

      module _ (l : i < length word) where
        pub fitting-differs : (get_or line (at + 1 + i) 0 ≡ get_or word i 0 → ⊥) → WordTold line at word false
        fitting-differs d = match-differs g.is (next-itself h n m) l refl d

        pub fitting-more : get_or line (at + 1 + i) 0 ≡ get_or word i 0 → Fitting line at word (i + 1)
        fitting-more d =
            let z : at + 1 + i + 1 ≡ at + 1 + (i + 1) = omega arith in
            record { within = omega (arith, h); is = subst (λ (j : ℕ). Matching line at word (plainly j) (i + 1)) z (match-more g.is (next-itself h n m) l refl d) }

  -- at the word's end a quotation mark tells
  pub fitting-end : at + 1 + i < length line → (get_or line (at + 1 + i) 0 ≡ 92 → ⊥) → length word ≤ i → WordTold line at word (eqb (get_or line (at + 1 + i) 0) 34)
  fitting-end h m l =
      go (eqb (get_or line (at + 1 + i) 0) 34) refl
    where
      go : (x : Bool) → eqb (get_or line (at + 1 + i) 0) 34 ≡ x → WordTold line at word x
      go true e = fitting-done h (eqb-true _ 34 e) l
      go false e = fitting-longer h (eqb-false _ 34 e) m l
