-- An escaped string reads as itself
use Rattle.std.specs.Prelude.{◌≡◌, Bool, ltb}
use Rattle.std.proofs.Math.Path.{refl, ap}
use Rattle.std.proofs.Common.{sym, ◌∙◌}
use Rattle.std.proofs.Math.Bool.{true, false}
use mathlib.Core.List.{List, [], ◌∷◌, ◌++◌, append_assoc}
use Rattle.std.proofs.Math.Option.{some}
use Prim.Native.Nat.{ℕ, zero, suc, ◌+◌, ◌*◌, ◌-◌, ◌/◌, ◌%◌, ◌<◌}
use native.Mathlib.Omega.{arith}
use Rattle.std.proofs.Math.Dec.{eqb}
use Rattle.std.proofs.Math.ListN.{length, length-append}
use borrow.Author.Tests.{ltb-true, ltb-false, eqb-true, le-leb, lt-leb, lt-ltb}
use Rattle.meaning.specs.declared.Due.{Due}
use Rattle.meaning.specs.declared.Due.TheVariants.{Nothing, One, Two, Three, AfterE0, AfterEd, AfterF0, AfterF4, Wrong}
use Rattle.meaning.specs.Tests.{◌and◌, ◌or◌, choose, only_if, or_else}
use Rattle.meaning.specs.Text.{first, follow, next, ended, utf8}
use Rattle.laws.specs.Tests.{yes, no as otherwise, and-false}
use Rattle.encode.proofs.Laws.Read.{never}
use Rattle.jsontext.specs.Reading.{got, then, mapped, want, or_wrong}
use Rattle.jsontext.specs.Strings.{hex_digit, hex_digits, utf8_of, is_high, is_low, character, simple, escape, is_wrong, chars, string}
use Rattle.jsontrace.specs.Text.{hex_byte, escaped_byte, escaped, quoted}

-- ---- UTF-8

wrong-never : (t : List ℕ) → utf8 Wrong t ≡ false
unfolding utf8 ended next
wrong-never [] = refl
wrong-never (b ∷ t) = wrong-never t

-- within a character no byte below 128 follows
inside : (d : Due) (c : ℕ) (t : List ℕ) → c < 128 → utf8 (next d c) t ≡ true → d ≡ Nothing
unfolding next follow choose
inside Nothing c t h u = refl
inside One c t h u = never (rw (lt-ltb c 128 h, wrong-never t) at u)
inside Two c t h u = never (rw (lt-ltb c 128 h, wrong-never t) at u)
inside Three c t h u = never (rw (lt-ltb c 128 h, wrong-never t) at u)
inside AfterE0 c t h u = never (rw (lt-ltb c 160 (omega arith), wrong-never t) at u)
inside AfterEd c t h u = never (rw (lt-ltb c 128 h, wrong-never t) at u)
inside AfterF0 c t h u = never (rw (lt-ltb c 144 (omega arith), wrong-never t) at u)
inside AfterF4 c t h u = never (rw (lt-ltb c 128 h, wrong-never t) at u)
inside Wrong c t h u = never (rw (wrong-never t) at u)

ascii : (c : ℕ) → c < 128 → next Nothing c ≡ Nothing
unfolding next first choose
ascii c h = rw (lt-ltb c 128 h)

not-wrong : (d : Due) (t : List ℕ) → utf8 d t ≡ true → is_wrong d ≡ false
unfolding is_wrong
not-wrong Nothing t u = refl
not-wrong One t u = refl
not-wrong Two t u = refl
not-wrong Three t u = refl
not-wrong AfterE0 t u = refl
not-wrong AfterEd t u = refl
not-wrong AfterF0 t u = refl
not-wrong AfterF4 t u = refl
not-wrong Wrong t u = never (rw (wrong-never t) at u)

-- ---- what is escaped

hex_byte_lem : (d : ℕ) → d < 16 → hex_digit (hex_byte d) ≡ some d
unfolding hex_byte
hex_byte_lem d h = go (ltb d 10) refl
  where
    back : (k d : ℕ) → k + d - k ≡ d
    back k d = omega arith

    go : (b : Bool) → ltb d 10 ≡ b → hex_digit (choose b (48 + d) (87 + d)) ≡ some d
    go true e =
        let l = ltb-true d 10 e in
        unfold choose hex_digit only_if or_else ◌and◌ in
        rw (le-leb 48 (48 + d) (omega arith), le-leb (48 + d) 57 (omega arith)) (ap some (back 48 d))
    go false e =
        let l = ltb-false d 10 e in
        unfold choose hex_digit only_if or_else ◌and◌ in
        rw (le-leb 48 (87 + d) (omega arith), lt-leb (87 + d) 57 (omega arith), le-leb 65 (87 + d) (omega arith), lt-leb (87 + d) 70 (omega arith), le-leb 97 (87 + d) (omega arith), le-leb (87 + d) 102 (omega arith))
        (ap some (back 87 d))

-- a quotation mark and a backslash
escape-marked : (c : ℕ) (s : List ℕ) → (eqb c 34 or eqb c 92) ≡ true → escape (c ∷ s) ≡ got (c ∷ []) s
unfolding escape choose or_wrong simple ◌or◌
escape-marked c s h = go (eqb c 34) (eqb c 92) refl refl h
  where
    go : (q b : Bool) → eqb c 34 ≡ q → eqb c 92 ≡ b → (q or b) ≡ true → escape (c ∷ s) ≡ got (c ∷ []) s
    go true b e f h = let z : c ≡ 34 = eqb-true c 34 e in rw z refl
    go false true e f h = let z : c ≡ 92 = eqb-true c 92 f in rw z refl
    go false false e f h = never h

-- a byte below 32
escape-control : (c : ℕ) (s : List ℕ) → c < 32 → escape (117 ∷ 48 ∷ 48 ∷ hex_byte (c / 16) ∷ hex_byte (c % 16) ∷ s) ≡ got (c ∷ []) s
unfolding escape choose hex_digits then or_wrong character is_low is_high utf8_of ◌and◌
escape-control c s h =
    let hd : hex_digit 48 ≡ some 0 = unfold hex_digit only_if or_else in refl in
    let z : 16 * (16 * (16 * (16 * 0 + 0) + 0) + c / 16) + c % 16 ≡ c = omega arith in
    rw (hd, hex_byte_lem (c / 16) (omega arith), hex_byte_lem (c % 16) (omega arith), z, lt-leb 56320 c (omega arith), lt-leb 55296 c (omega arith), lt-ltb c 128 (omega arith)) refl

-- ---- characters

escape-step : (turns : ℕ) (s : List ℕ) → chars (suc turns) Nothing (92 ∷ s) ≡ then (escape s) (λ b rest. mapped (λ t. b ++ t) (chars turns Nothing rest))
unfolding chars ended ◌and◌ choose
escape-step turns s = refl

pub neither : (c : ℕ) → (eqb c 34 or eqb c 92) ≡ false → (eqb c 34 ≡ false) × (eqb c 92 ≡ false)
neither c h = go (eqb c 34) (eqb c 92) h
  where
    go : (q b : Bool) → (q or b) ≡ false → (q ≡ false) × (b ≡ false)
    go true b h = unfold ◌or◌ in never (sym h)
    go false b h = unfold ◌or◌ in (refl, h)

plain_step : (turns : ℕ) (d : Due) (c : ℕ) (s : List ℕ) → (eqb c 34 or eqb c 92) ≡ false → ltb c 32 ≡ false → is_wrong (next d c) ≡ false → chars (suc turns) d (c ∷ s) ≡ mapped (λ t. c ∷ t) (chars turns (next d c) s)
unfolding chars choose
plain_step turns d c s m l w =
    let n = neither c m in
    rw (n.0, n.1, l, and-false (ended d), w) refl

plain-read : (turns : ℕ) (d : Due) (c : ℕ) (s t rest : List ℕ) → (eqb c 34 or eqb c 92) ≡ false → ltb c 32 ≡ false → is_wrong (next d c) ≡ false → chars turns (next d c) s ≡ got t rest → chars (suc turns) d (c ∷ s) ≡ got (c ∷ t) rest
unfolding then
plain-read turns d c s t rest m l w e = plain_step turns d c s m l w ∙ rw e refl

escaped-step : (turns c : ℕ) (k s t rest : List ℕ) → escape (k ++ s) ≡ got (c ∷ []) s → chars turns Nothing s ≡ got t rest → chars (suc turns) Nothing (92 ∷ k ++ s) ≡ got (c ∷ t) rest
unfolding then
escaped-step turns c k s t rest e m = escape-step turns (k ++ s) ∙ rw (e, m) refl

marked-low : (c : ℕ) → (eqb c 34 or eqb c 92) ≡ true → c < 128
marked-low c h = go (eqb c 34) (eqb c 92) refl refl h
  where
    go : (q b : Bool) → eqb c 34 ≡ q → eqb c 92 ≡ b → (q or b) ≡ true → c < 128
    go true b e f h = omega (arith, eqb-true c 34 e)
    go false true e f h = omega (arith, eqb-true c 92 f)
    go false false e f h = unfold ◌or◌ in never h

-- more turns than bytes suffice
module _ (rest : List ℕ) where
  pub chars-text : (turns : ℕ) (d : Due) (t : List ℕ) → length (escaped t) < turns → utf8 d t ≡ true → chars turns d (escaped t ++ 34 ∷ rest) ≡ got t rest
  unfolding escaped utf8
  chars-text zero d t h u = absurd (omega arith)
  chars-text (suc turns) d [] h u = unfold chars choose ◌and◌ in rw u refl
  chars-text (suc turns) d (c ∷ t) h u =
      go (eqb c 34 or eqb c 92) (ltb c 32) refl refl (λ more. chars-text turns (next d c) t more u)
    where
      fewer : (k : List ℕ) → 0 < length k → escaped_byte c ≡ k → length (escaped t) < turns
      fewer k l e = omega (arith, h, length-append (escaped_byte c) (escaped t), ap length e)

      -- an escape stands at the end of a character, and is one
      an_escape : (k : List ℕ) → c < 128 → escaped_byte c ≡ 92 ∷ k → escape (k ++ (escaped t ++ 34 ∷ rest)) ≡ got (c ∷ []) (escaped t ++ 34 ∷ rest) → (length (escaped t) < turns → chars turns (next d c) (escaped t ++ 34 ∷ rest) ≡ got t rest) → chars (suc turns) d ((escaped_byte c ++ escaped t) ++ 34 ∷ rest) ≡ got (c ∷ t) rest
      an_escape k low e reads more =
          let d_is : d ≡ Nothing = inside d c t low u in
          let next-is : next d c ≡ Nothing = ap (λ (d : Due). next d c) d_is ∙ ascii c low in
          ap (λ (x : List ℕ). chars (suc turns) d ((x ++ escaped t) ++ 34 ∷ rest)) e
          ∙ ap (λ (x : List ℕ). chars (suc turns) d (92 ∷ x)) (append_assoc k (escaped t) (34 ∷ rest))
          ∙ ap (λ (d : Due). chars (suc turns) d (92 ∷ k ++ (escaped t ++ 34 ∷ rest))) d_is
          ∙ escaped-step turns c k (escaped t ++ 34 ∷ rest) t rest reads (ap (λ (d : Due). chars turns d (escaped t ++ 34 ∷ rest)) (sym next-is) ∙ more (fewer (92 ∷ k) (omega arith) e))

      go : (m l : Bool) → (eqb c 34 or eqb c 92) ≡ m → ltb c 32 ≡ l → (length (escaped t) < turns → chars turns (next d c) (escaped t ++ 34 ∷ rest) ≡ got t rest) → chars (suc turns) d ((escaped_byte c ++ escaped t) ++ 34 ∷ rest) ≡ got (c ∷ t) rest
      go true l e f more = an_escape (c ∷ []) (marked-low c e) (unfold escaped_byte in yes _ e) (escape-marked c (escaped t ++ 34 ∷ rest) e) more
      go false true e f more =
          let low = ltb-true c 32 f in
          an_escape (117 ∷ 48 ∷ 48 ∷ hex_byte (c / 16) ∷ hex_byte (c % 16) ∷ []) (omega arith) (unfold escaped_byte in otherwise _ e (yes _ f)) (escape-control c (escaped t ++ 34 ∷ rest) low) more
      go false false e f more =
          let is : escaped_byte c ≡ c ∷ [] = unfold escaped_byte in otherwise _ e (otherwise _ f refl) in
          ap (λ (x : List ℕ). chars (suc turns) d ((x ++ escaped t) ++ 34 ∷ rest)) is
          ∙ plain-read turns d c (escaped t ++ 34 ∷ rest) t rest e f (not-wrong (next d c) t u) (more (fewer (c ∷ []) (omega arith) is))

-- string = quotation-mark *char quotation-mark
pub string-text : (t rest : List ℕ) → utf8 Nothing t ≡ true → string (quoted t ++ rest) ≡ got t rest
unfolding string quoted then want choose
string-text t rest u =
    ap (λ (s : List ℕ). chars (suc (length s)) Nothing s) (append_assoc (escaped t) (34 ∷ []) rest)
    ∙ chars-text rest (suc (length (escaped t ++ 34 ∷ rest))) Nothing t (omega (arith, length-append (escaped t) (34 ∷ rest))) u
