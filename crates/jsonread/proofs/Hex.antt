-- Hex digits, and escapes made of them
use Rattle.std.specs.Prelude.{Result, Ok, Err}
use mathlib.Core.Path.{◌≡◌, refl, sym, ap, subst, ◌∙◌}
use mathlib.Core.Bool.{Bool, true, false, not}
use mathlib.Core.List.{List, [], ◌∷◌}
use mathlib.Core.Option.{Option, none, some}
use Prim.Native.Nat.{ℕ, zero, suc, ◌+◌, ◌*◌, ◌-◌, ◌<◌, ◌≤◌}
use native.Mathlib.Omega.{arith}
use lib.Dec.{eqb, leb, ltb}
use lib.ListN.{length, drop, get_or, length-drop, drop_of_length-le}
use borrow.Author.Tests.{eq-eqb, ne_eqb, lt-ltb, le-ltb, le-leb, lt-leb, leb-true, not-true, not-false}
use Rattle.meaning.specs.Tests.{◌and◌, choose, only_if, or_else}
use Rattle.laws.specs.Tests.{both, yes, no as otherwise}
use Rattle.jsontext.specs.declared.Bad.{Bad}
use Rattle.jsontext.specs.declared.Fault.TheVariants.{NotJson}
use Rattle.jsontext.specs.Reading.{Read, got, fault, then, no, want, or_wrong, wrong}
use Rattle.jsontext.specs.Strings.{hex_digit, hex_digits, hex4, is_high, is_low, low_unit, low_half, pair, utf8_of, joined, character, simple, escape}
use Rattle.jsonread.specs.Told.{Lacks, HexIs, HexTold, LowIs, LowTold, CharIs, CharTold}
use Rattle.jsonread.proofs.Places.{byte_at, no-here, lacks-here, lacks_of, lacks-then, then_is}

-- ---- one hex digit; 16 stands for none

module _ (c : ℕ) where
  pub hex_low : c < 48 → hex_digit c ≡ only_if (ltb 16 16) 16
  unfolding hex_digit only_if or_else ◌and◌
  hex_low h = rw (lt-leb 48 c h, lt-leb 65 c (omega arith), lt-leb 97 c (omega arith))

  pub hex_decimal : 48 ≤ c → c ≤ 57 → hex_digit c ≡ only_if (ltb (c - 48) 16) (c - 48)
  unfolding hex_digit only_if or_else ◌and◌
  hex_decimal h k = rw (le-leb 48 c h, le-leb c 57 k, lt-ltb (c - 48) 16 (omega arith))

  pub hex_between : 57 < c → c < 65 → hex_digit c ≡ only_if (ltb 16 16) 16
  unfolding hex_digit only_if or_else ◌and◌
  hex_between h k = rw (le-leb 48 c (omega arith), lt-leb c 57 h, lt-leb 65 c k, lt-leb 97 c (omega arith))

  pub hex_upper : 65 ≤ c → c ≤ 70 → hex_digit c ≡ only_if (ltb (c - 55) 16) (c - 55)
  unfolding hex_digit only_if or_else ◌and◌
  hex_upper h k = rw (le-leb 48 c (omega arith), lt-leb c 57 (omega arith), le-leb 65 c h, le-leb c 70 k, lt-ltb (c - 55) 16 (omega arith))

  pub hex_after : 70 < c → c < 97 → hex_digit c ≡ only_if (ltb 16 16) 16
  unfolding hex_digit only_if or_else ◌and◌
  hex_after h k = rw (le-leb 48 c (omega arith), lt-leb c 57 (omega arith), le-leb 65 c (omega arith), lt-leb c 70 h, lt-leb 97 c k)

  pub hex_lower : 97 ≤ c → c ≤ 102 → hex_digit c ≡ only_if (ltb (c - 87) 16) (c - 87)
  unfolding hex_digit only_if or_else ◌and◌
  hex_lower h k = rw (le-leb 48 c (omega arith), lt-leb c 57 (omega arith), le-leb 65 c (omega arith), lt-leb c 70 (omega arith), le-leb 97 c h, le-leb c 102 k, lt-ltb (c - 87) 16 (omega arith))

  pub hex_beyond : 102 < c → hex_digit c ≡ only_if (ltb 16 16) 16
  unfolding hex_digit only_if or_else ◌and◌
  hex_beyond h = rw (le-leb 48 c (omega arith), lt-leb c 57 (omega arith), le-leb 65 c (omega arith), lt-leb c 70 (omega arith), le-leb 97 c (omega arith), lt-leb c 102 h)

-- ---- four of them

-- what so many digits more leave room for
unfoldable pub room_for : ℕ → ℕ
room_for zero = 65536
room_for (suc zero) = 4096
room_for (suc (suc zero)) = 256
room_for (suc (suc (suc zero))) = 16
room_for (suc (suc (suc (suc k)))) = 1

room-more : (k n d : ℕ) → k < 4 → n < room_for (suc k) → d < 16 → 16 * n + d < room_for k
unfolding room_for
room-more zero n d h l e = omega arith
room-more (suc zero) n d h l e = omega arith
room-more (suc (suc zero)) n d h l e = omega arith
room-more (suc (suc (suc zero))) n d h l e = omega arith
room-more (suc (suc (suc (suc k)))) n d h l e = absurd (omega arith)

room_most : (k : ℕ) → k ≤ 4 → room_for k ≤ 65536
unfolding room_for
room_most zero h = omega arith
room_most (suc zero) h = omega arith
room_most (suc (suc zero)) h = omega arith
room_most (suc (suc (suc zero))) h = omega arith
room_most (suc (suc (suc (suc k)))) h = omega arith

pub record Hexing (line : List ℕ) (at n left i : ℕ) : Type 0 where
  pub there : i + left ≡ at + 4
  pub few : left ≤ 4
  pub within : i ≤ length line
  pub small : n < room_for left
  pub below : n < 65536
  pub goes : hex_digits left n (drop i line) ≡ hex4 (drop at line)

pub hex_start : {line : List ℕ} {at : ℕ} → at ≤ length line → Hexing line at 0 4 at
unfolding room_for
hex_start h = record { there = refl; few = omega arith; within = h; small = omega arith; below = omega arith; goes = refl }

hex_some : (k n c d : ℕ) (s : List ℕ) → hex_digit c ≡ some d → hex_digits (suc k) n (c ∷ s) ≡ hex_digits k (16 * n + d) s
unfolding hex_digits or_wrong
hex_some k n c d s e = ap (λ (o : Option ℕ). or_wrong o (c ∷ s) (λ d. hex_digits k (16 * n + d) s)) e

hex_none : (k n c : ℕ) (s : List ℕ) → hex_digit c ≡ none → hex_digits (suc k) n (c ∷ s) ≡ no NotJson (c ∷ s)
unfolding hex_digits or_wrong
hex_none k n c s e = ap (λ (o : Option ℕ). or_wrong o (c ∷ s) (λ d. hex_digits k (16 * n + d) s)) e

hex_cut : (k n : ℕ) → hex_digits (suc k) n [] ≡ no NotJson []
unfolding hex_digits
hex_cut k n = refl

is_some : {o : Option ℕ} (d : ℕ) → o ≡ only_if (ltb d 16) d → d < 16 → o ≡ some d
unfolding only_if
is_some d e h = e ∙ rw (lt-ltb d 16 h)

is_none : {o : Option ℕ} (d : ℕ) → o ≡ only_if (ltb d 16) d → 16 ≤ d → o ≡ none
unfolding only_if
is_none d e h = e ∙ rw (le-ltb d 16 h)

hex_found : {line : List ℕ} {at u : ℕ} → HexIs line at u → HexTold line at (Ok u)
hex_found {line} {at} {u} h =
    record {
      found = λ v q. let z : u ≡ v = cc in subst (λ (v : ℕ). HexIs line at v) z h;
      missing = λ p q. absurd (let z : ◌≡◌ {A = ℕ} 0 1 = cc in omega arith);
    }

hex_lacks : {line : List ℕ} {at p : ℕ} → p ≤ length line → hex4 (drop at line) ≡ no NotJson (drop p line) → HexTold line at (Err (wrong NotJson p))
hex_lacks {line} {at} {p} h e =
    record {
      found = λ v q. absurd (let z : ◌≡◌ {A = ℕ} 0 1 = cc in omega arith);
      missing = λ b q. let z : wrong NotJson p ≡ b = cc in subst (λ (b : Bad). Lacks line b (hex4 (drop at line))) z (lacks-here h e);
    }

module _ {line : List ℕ} {at n left i : ℕ} (g : Hexing line at n left i) where
  pub hex_done : left ≤ 0 → HexTold line at (Ok n)
  unfolding hex_digits
  hex_done z =
      let k : left ≡ 0 = omega arith in
      let p : i ≡ at + 4 = omega (arith, g.there) in
      hex_found (record { within = omega (arith, g.within); below = g.below; is = sym g.goes ∙ ap (λ (l : ℕ). hex_digits l n (drop i line)) k ∙ ap (λ (j : ℕ). got n (drop j line)) p })

  module _ (more : 0 < left) where
    by_one : {m : Read ℕ} → hex_digits (suc (left - 1)) n (drop i line) ≡ m → hex4 (drop at line) ≡ m
    by_one e = let k : left ≡ suc (left - 1) = omega arith in sym g.goes ∙ ap (λ (l : ℕ). hex_digits l n (drop i line)) k ∙ e

    pub hex_end : length line ≤ i → HexTold line at (Err (wrong NotJson i))
    hex_end h = hex_lacks g.within (by_one (rw (drop_of_length-le line h) (hex_cut (left - 1) n)))

    module _ {d : ℕ} (h : i < length line) (e : hex_digit (get_or line i 0) ≡ only_if (ltb d 16) d) where
      pub hex_other : 16 ≤ d → HexTold line at (Err (wrong NotJson i))
      hex_other b = hex_lacks g.within (by_one (ap (hex_digits (suc (left - 1)) n) (byte_at line i h) ∙ hex_none (left - 1) n (get_or line i 0) (drop (i + 1) line) (is_none d e b) ∙ no-here NotJson line i h))

      pub hex_next : d < 16 → Hexing line at (16 * n + d) (left - 1) (i + 1)
      hex_next b =
          let k : left ≡ suc (left - 1) = omega arith in
          let s : n < room_for (suc (left - 1)) = rw k at g.small in
          let m : 16 * n + d < room_for (left - 1) = room-more (left - 1) n d (omega (arith, g.few)) s b in
          record {
            there = omega (arith, g.there);
            few = omega (arith, g.few);
            within = omega arith;
            small = m;
            below = omega (arith, room_most (left - 1) (omega (arith, g.few)));
            goes = sym (by_one (ap (hex_digits (suc (left - 1)) n) (byte_at line i h) ∙ hex_some (left - 1) n (get_or line i 0) d (drop (i + 1) line) (is_some d e b)));
          }

-- ---- an escaped low half

low-found : {line : List ℕ} {e u : ℕ} {m : Read ℕ} → LowIs line e u m → LowTold line e (Ok u) m
low-found {line} {e} {u} {m} h =
    record {
      found = λ v q. let z : u ≡ v = cc in subst (λ (v : ℕ). LowIs line e v m) z h;
      missing = λ p q. absurd (let z : ◌≡◌ {A = ℕ} 0 1 = cc in omega arith);
    }

low-lacks : {line : List ℕ} {e : ℕ} {b : Bad} {m : Read ℕ} → Lacks line b m → LowTold line e (Err b) m
low-lacks {line} {e} {b} {m} h =
    record {
      found = λ v q. absurd (let z : ◌≡◌ {A = ℕ} 0 1 = cc in omega arith);
      missing = λ v q. let z : b ≡ v = cc in subst (λ (v : Bad). Lacks line v m) z h;
    }

module _ {line : List ℕ} {at : ℕ} {x : Result ℕ Bad} (t : HexTold line at x) where
  pub hex_within : {u : ℕ} → x ≡ Ok u → at + 4 ≤ length line
  hex_within e = (t.found _ e).within

  pub unit-missing : {b : Bad} → x ≡ Err b → LowTold line (at + 4) (Err b) (low_unit (drop at line))
  unfolding low_unit
  unit-missing e = low-lacks (lacks-then (λ low rest. choose (is_low low) (got low rest) (no NotJson rest)) (t.missing _ e))

  module _ {u : ℕ} {z : Bool} (e : x ≡ Ok u) (q : z ≡ is_low u) where
    unit-is : low_unit (drop at line) ≡ choose (is_low u) (got u (drop (at + 4) line)) (no NotJson (drop (at + 4) line))
    unfolding low_unit
    unit-is = then_is (λ low rest. choose (is_low low) (got low rest) (no NotJson rest)) (t.found _ e).is

    pub unit-low : z ≡ true → LowTold line (at + 4) (Ok u) (low_unit (drop at line))
    unit-low h = low-found (record { within = (t.found _ e).within; low = sym q ∙ h; is = unit-is ∙ yes _ (sym q ∙ h) })

    pub unit-other : z ≡ false → LowTold line (at + 4) (Err (wrong NotJson (at + 4))) (low_unit (drop at line))
    unit-other h = low-lacks (lacks-here (t.found _ e).within (unit-is ∙ otherwise _ (sym q ∙ h) refl))

want_is : (line : List ℕ) (at b : ℕ) → at < length line → get_or line at 0 ≡ b → want b (drop at line) ≡ got (get_or line at 0) (drop (at + 1) line)
unfolding want
want_is line at b h e = rw (byte_at line at h) (yes _ (eq-eqb _ _ e))

want-not : (line : List ℕ) (at b : ℕ) → at < length line → (get_or line at 0 ≡ b → ⊥) → want b (drop at line) ≡ no NotJson (drop at line)
unfolding want
want-not line at b h n = rw (byte_at line at h) (otherwise _ (ne_eqb _ _ n) refl)

want-none : (line : List ℕ) (at b : ℕ) → length line ≤ at → want b (drop at line) ≡ no NotJson (drop at line)
unfolding want
want-none line at b h = rw (drop_of_length-le line h)

module _ (line : List ℕ) (at : ℕ) where
  half-wrong : {e : ℕ} → at ≤ length line → want 92 (drop at line) ≡ no NotJson (drop at line) → LowTold line e (Err (wrong NotJson at)) (low_half (drop at line))
  unfolding low_half
  half-wrong h q = low-lacks (lacks-then (λ b rest. then (want 117 rest) (λ u rest. low_unit rest)) (lacks-here h q))

  pub half-end : at ≤ length line → length line ≤ at → LowTold line (at + 6) (Err (wrong NotJson at)) (low_half (drop at line))
  half-end h l = half-wrong h (want-none line at 92 l)

  pub half-none : at < length line → (get_or line at 0 ≡ 92 → ⊥) → LowTold line (at + 6) (Err (wrong NotJson at)) (low_half (drop at line))
  half-none h n = half-wrong (omega arith) (want-not line at 92 h n)

  module _ (h : at < length line) (e : get_or line at 0 ≡ 92) where
    half-rest : low_half (drop at line) ≡ then (want 117 (drop (at + 1) line)) (λ u rest. low_unit rest)
    unfolding low_half
    half-rest = then_is (λ b rest. then (want 117 rest) (λ u rest. low_unit rest)) (want_is line at 92 h e)

    half-lacks : want 117 (drop (at + 1) line) ≡ no NotJson (drop (at + 1) line) → LowTold line (at + 6) (Err (wrong NotJson (at + 1))) (low_half (drop at line))
    half-lacks q =
        low-lacks (lacks_of half-rest (lacks-then {line = line} (λ u rest. low_unit rest) (lacks-here {at = at + 1} (omega arith) q)))

    pub half-cut : length line ≤ at + 1 → LowTold line (at + 6) (Err (wrong NotJson (at + 1))) (low_half (drop at line))
    half-cut l = half-lacks (want-none line (at + 1) 117 l)

    pub half-other : at + 1 < length line → (get_or line (at + 1) 0 ≡ 117 → ⊥) → LowTold line (at + 6) (Err (wrong NotJson (at + 1))) (low_half (drop at line))
    half-other l n = half-lacks (want-not line (at + 1) 117 l n)

    pub half-unit : {r : Result ℕ Bad} → at + 1 < length line → get_or line (at + 1) 0 ≡ 117 → LowTold line (at + 2 + 4) r (low_unit (drop (at + 2) line)) → LowTold line (at + 6) r (low_half (drop at line))
    half-unit {r} l n t =
        let two : at + 1 + 1 ≡ at + 2 = omega arith in
        let q : low_half (drop at line) ≡ low_unit (drop (at + 2) line) = half-rest ∙ then_is (λ u rest. low_unit rest) (want_is line (at + 1) 117 l n) ∙ ap (λ (k : ℕ). low_unit (drop k line)) two in
        let k : at + 2 + 4 ≡ at + 6 = omega arith in
        let u : LowTold line (at + 6) r (low_unit (drop (at + 2) line)) = rw k at t in
        rw q u

-- ---- a character

char_found : {line : List ℕ} {at u e : ℕ} {m : Read (List ℕ)} → CharIs line at u e m → CharTold line at (Ok (u, e)) m
char_found {line} {at} {u} {e} {m} h =
    record {
      found =
          λ v k q.
          let p : ◌≡◌ {A = ℕ × ℕ} (u, e) (v, k) = cc in
          let z : u ≡ v = ap (λ (p : ℕ × ℕ). p.0) p in
          let y : e ≡ k = ap (λ (p : ℕ × ℕ). p.1) p in
          rw y at (rw z at h);
      missing = λ p q. absurd (let z : ◌≡◌ {A = ℕ} 0 1 = cc in omega arith);
    }

char_lacks : {line : List ℕ} {at : ℕ} {b : Bad} {m : Read (List ℕ)} → Lacks line b m → CharTold line at (Err b) m
char_lacks {line} {at} {b} {m} h =
    record {
      found = λ v k q. absurd (let z : ◌≡◌ {A = ℕ} 0 1 = cc in omega arith);
      missing = λ v q. let z : b ≡ v = cc in subst (λ (v : Bad). Lacks line v m) z h;
    }

-- a half's range
pub low-least : (u : ℕ) → is_low u ≡ true → (56320 ≤ u) × (u ≤ 57343)
unfolding is_low
low-least u e = let b = both (leb 56320 u) (leb u 57343) e in (leb-true 56320 u b.0, leb-true u 57343 b.1)

pub high-least : (u : ℕ) → is_high u ≡ true → (55296 ≤ u) × (u ≤ 56319)
unfolding is_high
high-least u e = let b = both (leb 55296 u) (leb u 56319) e in (leb-true 55296 u b.0, leb-true u 56319 b.1)

-- what is taken from halves
pub high-from : {u : ℕ} {y : Bool} → y ≡ is_high u → not y ≡ false → 55296 ≤ u
high-from {u} {y} k n = (high-least u (sym k ∙ not-false y n)).0

pub high-to : {u : ℕ} {y : Bool} → y ≡ is_high u → not y ≡ false → u ≤ 56319
high-to {u} {y} k n = (high-least u (sym k ∙ not-false y n)).1

pub low-from : {line : List ℕ} {e u : ℕ} {x : Result ℕ Bad} {m : Read ℕ} → LowTold line e x m → x ≡ Ok u → 56320 ≤ u
low-from {u = u} t q = (low-least u (t.found _ q).low).0

pub low-to : {line : List ℕ} {e u : ℕ} {x : Result ℕ Bad} {m : Read ℕ} → LowTold line e x m → x ≡ Ok u → u ≤ 57343
low-to {u = u} t q = (low-least u (t.found _ q).low).1

pub low-within : {line : List ℕ} {e u : ℕ} {x : Result ℕ Bad} {m : Read ℕ} → LowTold line e x m → x ≡ Ok u → e ≤ length line
low-within t q = (t.found _ q).within

module _ (line : List ℕ) (slash u at : ℕ) (s : slash ≤ at) (h : at ≤ length line) where
  alone : character (length line - slash) u (drop at line) ≡ fault NotJson (length line - slash) (length line - slash) → CharTold line at (Err (wrong NotJson slash)) (character (length line - slash) u (drop at line))
  alone e = char_lacks (record { alone = refl; faulty = record { place = omega arith; first = omega arith; is = e } })

  pub lone_low : {z : Bool} → z ≡ is_low u → z ≡ true → CharTold line at (Err (wrong NotJson slash)) (character (length line - slash) u (drop at line))
  unfolding character
  lone_low q e = alone (yes _ (sym q ∙ e))

  module _ (b : u < 65536) {z y : Bool} (q : z ≡ is_low u) (e : z ≡ false) (k : y ≡ is_high u) where
    pub whole : not y ≡ true → CharTold line at (Ok (u, at)) (character (length line - slash) u (drop at line))
    unfolding character
    whole n = char_found (record { from = omega arith; within = h; below = omega arith; is = otherwise _ (sym q ∙ e) (otherwise _ (sym k ∙ not-true y n) refl) })

    module _ (n : not y ≡ false) {x : Result ℕ Bad} (t : LowTold line (at + 6) x (low_half (drop at line))) where
      halves : character (length line - slash) u (drop at line) ≡ pair (length line - slash) u (low_half (drop at line))
      unfolding character
      halves = otherwise _ (sym q ∙ e) (yes _ (sym k ∙ not-false y n))

      pub both_halves : {low v : ℕ} → x ≡ Ok low → v ≡ 65536 + (u - 55296) * 1024 + (low - 56320) → CharTold line at (Ok (v, at + 6)) (character (length line - slash) u (drop at line))
      unfolding pair joined
      both_halves {low} f j =
          let l = t.found _ f in
          char_found (record { from = omega arith; within = l.within; below = omega (arith, high-to k n, low-to t f); is = halves ∙ ap (pair (length line - slash) u) l.is ∙ ap (λ (v : ℕ). got (utf8_of v) (drop (at + 6) line)) (sym j) })

      pub lone_high : {b : Bad} → x ≡ Err b → CharTold line at (Err (wrong NotJson slash)) (character (length line - slash) u (drop at line))
      unfolding pair
      lone_high f = alone (halves ∙ ap (pair (length line - slash) u) (t.missing _ f).faulty.is)

-- ---- what a backslash and a byte stand for

pub simple-quote : (c : ℕ) → c ≡ 34 → simple c ≡ only_if (ltb 34 128) 34
unfolding simple choose only_if
simple-quote c e = rw e refl

pub simple_backslash : (c : ℕ) → c ≡ 92 → simple c ≡ only_if (ltb 92 128) 92
unfolding simple choose only_if
simple_backslash c e = rw e refl

pub simple_slash : (c : ℕ) → c ≡ 47 → simple c ≡ only_if (ltb 47 128) 47
unfolding simple choose only_if
simple_slash c e = rw e refl

pub simple_backspace : (c : ℕ) → c ≡ 98 → simple c ≡ only_if (ltb 8 128) 8
unfolding simple choose only_if
simple_backspace c e = rw e refl

pub simple_feed : (c : ℕ) → c ≡ 102 → simple c ≡ only_if (ltb 12 128) 12
unfolding simple choose only_if
simple_feed c e = rw e refl

pub simple-line : (c : ℕ) → c ≡ 110 → simple c ≡ only_if (ltb 10 128) 10
unfolding simple choose only_if
simple-line c e = rw e refl

pub simple_return : (c : ℕ) → c ≡ 114 → simple c ≡ only_if (ltb 13 128) 13
unfolding simple choose only_if
simple_return c e = rw e refl

pub simple-tab : (c : ℕ) → c ≡ 116 → simple c ≡ only_if (ltb 9 128) 9
unfolding simple choose only_if
simple-tab c e = rw e refl

pub simple-none : (c : ℕ) → (c ≡ 34 → ⊥) → (c ≡ 92 → ⊥) → (c ≡ 47 → ⊥) → (c ≡ 98 → ⊥) → (c ≡ 102 → ⊥) → (c ≡ 110 → ⊥) → (c ≡ 114 → ⊥) → (c ≡ 116 → ⊥) → simple c ≡ only_if (ltb 128 128) 128
unfolding simple choose only_if
simple-none c a b d e f g h k = rw (ne_eqb c 34 a, ne_eqb c 92 b, ne_eqb c 47 d, ne_eqb c 98 e, ne_eqb c 102 f, ne_eqb c 110 g, ne_eqb c 114 h, ne_eqb c 116 k)

-- ---- an escape, after its backslash

escape-byte : (line : List ℕ) (at : ℕ) → at < length line → escape (drop at line) ≡ choose (eqb (get_or line at 0) 117) (then (hex4 (drop (at + 1) line)) (λ u rest. character (suc (suc (length (drop (at + 1) line)))) u rest)) (or_wrong (simple (get_or line at 0)) (drop at line) (λ b. got (b ∷ []) (drop (at + 1) line)))
unfolding escape
escape-byte line at h = rw (byte_at line at h)

one_byte : (u : ℕ) → u < 128 → utf8_of u ≡ u ∷ []
unfolding utf8_of
one_byte u h = yes _ (lt-ltb u 128 h)

module _ (line : List ℕ) (at : ℕ) where
  pub escape_end : at ≤ length line → length line ≤ at → CharTold line (at + 1) (Err (wrong NotJson at)) (escape (drop at line))
  unfolding escape
  escape_end h l = char_lacks (lacks-here h (rw (drop_of_length-le line l)))

  module _ (h : at < length line) where
    module _ (n : get_or line at 0 ≡ 117 → ⊥) where
      not_hex : {o : Option ℕ} → simple (get_or line at 0) ≡ o → escape (drop at line) ≡ or_wrong o (drop at line) (λ b. got (b ∷ []) (drop (at + 1) line))
      not_hex e = escape-byte line at h ∙ otherwise _ (ne_eqb (get_or line at 0) 117 n) refl ∙ ap (λ (o : Option ℕ). or_wrong o (drop at line) (λ b. got (b ∷ []) (drop (at + 1) line))) e

      module _ (b : ℕ) (q : simple (get_or line at 0) ≡ only_if (ltb b 128) b) where
        pub escape-simple : b < 128 → CharTold line (at + 1) (Ok (b, at + 1)) (escape (drop at line))
        unfolding or_wrong only_if
        escape-simple l = char_found (record { from = omega arith; within = omega arith; below = omega arith; is = not_hex {o = some b} (q ∙ rw (lt-ltb b 128 l)) ∙ ap (λ (s : List ℕ). got s (drop (at + 1) line)) (sym (one_byte b l)) })

        pub escape-other : 128 ≤ b → CharTold line (at + 1) (Err (wrong NotJson at)) (escape (drop at line))
        unfolding or_wrong only_if
        escape-other l = char_lacks (lacks-here (omega arith) (not_hex {o = none} (q ∙ rw (le-ltb b 128 l))))

    module _ (e : get_or line at 0 ≡ 117) {x : Result ℕ Bad} (t : HexTold line (at + 1) x) where
      hexed : escape (drop at line) ≡ then (hex4 (drop (at + 1) line)) (λ u rest. character (suc (suc (length (drop (at + 1) line)))) u rest)
      hexed = escape-byte line at h ∙ yes _ (eq-eqb (get_or line at 0) 117 e)

      pub escape-missing : {b : Bad} → x ≡ Err b → CharTold line (at + 1) (Err b) (escape (drop at line))
      escape-missing q = char_lacks (lacks_of hexed (lacks-then (λ u rest. character (suc (suc (length (drop (at + 1) line)))) u rest) (t.missing _ q)))

      slashed : 0 < at → suc (suc (length (drop (at + 1) line))) ≡ length line - (at - 1)
      slashed z = omega (arith, length-drop (at + 1) line)

      pub escape-within : {u : ℕ} → x ≡ Ok u → at + 5 ≤ length line
      escape-within q = omega (arith, (t.found _ q).within)

      pub escape-below : {u : ℕ} → x ≡ Ok u → u < 65536
      escape-below q = (t.found _ q).below

      pub escape-unit : {u : ℕ} {r : Result (ℕ × ℕ) Bad} → 0 < at → x ≡ Ok u → CharTold line (at + 5) r (character (length line - (at - 1)) u (drop (at + 5) line)) → CharTold line (at + 1) r (escape (drop at line))
      escape-unit {u = u} z q v =
          let five : at + 1 + 4 ≡ at + 5 = omega arith in
          let is : escape (drop at line) ≡ character (length line - (at - 1)) u (drop (at + 5) line) =
          hexed
          ∙ then_is (λ u rest. character (suc (suc (length (drop (at + 1) line)))) u rest) (t.found _ q).is
          ∙ ap (λ (k : ℕ). character k u (drop (at + 1 + 4) line)) (slashed z)
          ∙ ap (λ (j : ℕ). character (length line - (at - 1)) u (drop j line)) five
          in
          record {
            found = λ u e k. let s = v.found u e k in record { from = omega (arith, s.from); within = s.within; below = s.below; is = is ∙ s.is };
            missing = λ b k. lacks_of is (v.missing b k);
          }
