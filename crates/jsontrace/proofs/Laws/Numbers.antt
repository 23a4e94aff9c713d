-- An integer in decimal reads as itself
use Rattle.std.specs.Prelude.{◌≡◌, Bool, not, ℕ, zero, suc, ◌+◌, ◌*◌, ◌-◌, ◌/◌, ◌%◌, ◌<◌, ◌≤◌, ℤ, pos, negsuc, eqb, ltb, length}
use Rattle.std.proofs.Math.Path.{refl, ap}
use Rattle.std.proofs.Common.{sym, ◌∙◌, arith}
use Rattle.std.proofs.Math.Bool.{true, false}
use mathlib.Core.List.{List, [], ◌∷◌, ◌++◌, append_assoc}
use borrow.Author.Tests.{ltb-true, ltb-false, ne_eqb, le-leb, lt-ltb, le-ltb, leb-true}
use Rattle.meaning.specs.Tests.{◌or◌, choose}
use Rattle.laws.specs.Tests.{yes, no as otherwise, pass}
use Rattle.meaning.specs.Equal.{is_digit}
use Rattle.jsontext.specs.Reading.{got, then}
use Rattle.jsontext.specs.Numbers.{digits, some_digits, int, frac, unsigned, exp, fits, signed, integer, parts, magnitude, number}
use Rattle.jsontrace.specs.Writable.{fits64}
use Rattle.jsontrace.specs.Text.{decimal_digits, natural, integer as integer_text}

digit : (d : ℕ) → d ≤ 9 → is_digit (48 + d) ≡ true
unfolding is_digit
digit d h = pass (le-leb 48 (48 + d) (omega arith)) (le-leb (48 + d) 57 (omega arith))

-- ---- digits

-- a numeral begins with a digit, with 0 only for 0; those after it make n of it
record Numeral (turns n : ℕ) : Type 0 where
  first : ℕ
  others : List ℕ
  is : decimal_digits turns n ≡ (48 + first) ∷ others
  low : first ≤ 9
  some : 0 < n → 0 < first
  goes : (rest : List ℕ) → digits first (others ++ rest) ≡ digits n rest

one-digit : (turns n : ℕ) → n < 10 → Numeral (suc turns) n
unfolding decimal_digits
one-digit turns n h = record {
  first = n;
  others = [];
  is = yes _ (lt-ltb n 10 h);
  low = omega arith;
  some = λ p. p;
  goes = λ rest. refl;
}

more-digits : (turns n : ℕ) → 10 ≤ n → Numeral turns (n / 10) → Numeral (suc turns) n
unfolding decimal_digits digits
more-digits turns n h m = record {
  first = m.first;
  others = m.others ++ ((48 + n % 10) ∷ []);
  is = otherwise _ (le-ltb n 10 h) (ap (λ (t : List ℕ). t ++ ((48 + n % 10) ∷ [])) m.is);
  low = m.low;
  some = λ p. m.some (omega arith);
  goes = λ rest. ap (digits m.first) (append_assoc m.others ((48 + n % 10) ∷ []) rest) ∙ m.goes ((48 + n % 10) ∷ rest) ∙ yes _ (digit (n % 10) (omega arith)) ∙ ap (λ (k : ℕ). digits k rest) (whole n);
}
  where
    whole : (n : ℕ) → 10 * (n / 10) + (48 + n % 10 - 48) ≡ n
    whole n = omega arith

numeral : (turns n : ℕ) → n < turns → Numeral turns n
numeral zero n h = absurd (omega arith)
numeral (suc turns) n h = go (ltb n 10) refl (λ l. numeral turns (n / 10) (omega arith))
  where
    go : (b : Bool) → ltb n 10 ≡ b → (10 ≤ n → Numeral turns (n / 10)) → Numeral (suc turns) n
    go true e f = one-digit turns n (ltb-true n 10 e)
    go false e f = more-digits turns n (ltb-false n 10 e) (f (ltb-false n 10 e))

-- ---- what ends a number: no digit, point or exponent

unfoldable pub ends_number : List ℕ → Bool
ends_number [] = true
ends_number (c ∷ s) = not (is_digit c or eqb c 46 or eqb c 101 or eqb c 69)

digits-end : (n : ℕ) (rest : List ℕ) → ends_number rest ≡ true → digits n rest ≡ got n rest
unfolding digits ends_number ◌or◌ choose
digits-end n [] h = refl
digits-end n (c ∷ s) h = go (is_digit c) (eqb c 46 or eqb c 101 or eqb c 69) h
  where
    go : (d o : Bool) → not (d or o) ≡ true → choose d (digits (10 * n + (c - 48)) s) (got n (c ∷ s)) ≡ got n (c ∷ s)
    go true o h = cc
    go false o h = refl

frac-end : (rest : List ℕ) → ends_number rest ≡ true → frac rest ≡ got false rest
unfolding frac ends_number ◌or◌ choose
frac-end [] h = refl
frac-end (c ∷ s) h = go (is_digit c) (eqb c 46) (eqb c 101 or eqb c 69) h
  where
    go : (d p o : Bool) → not (d or p or o) ≡ true → choose p (then (some_digits s) (λ n rest. got true rest)) (got false (c ∷ s)) ≡ got false (c ∷ s)
    go true p o h = cc
    go false true o h = cc
    go false false o h = refl

exp-end : (rest : List ℕ) → ends_number rest ≡ true → exp rest ≡ got false rest
unfolding exp ends_number ◌or◌ choose
exp-end [] h = refl
exp-end (c ∷ s) h = go (is_digit c) (eqb c 46) (eqb c 101) (eqb c 69) h
  where
    go : (d p e f : Bool) → not (d or p or e or f) ≡ true → choose (e or f) (then (some_digits (unsigned s)) (λ n rest. got true rest)) (got false (c ∷ s)) ≡ got false (c ∷ s)
    go true p e f h = cc
    go false true e f h = cc
    go false false true f h = cc
    go false false false true h = cc
    go false false false false h = refl

-- ---- numbers

parts-end : (left : ℕ) (minus : Bool) (n : ℕ) (rest : List ℕ) → fits minus n ≡ true → ends_number rest ≡ true → parts left minus n rest ≡ got (signed minus n) rest
unfolding parts then integer choose ◌or◌
parts-end left minus n rest f h = rw (frac-end rest h, exp-end rest h, f)

-- int takes the digits of n and no more
int-end : (n : ℕ) (rest : List ℕ) → ends_number rest ≡ true → int (natural n ++ rest) ≡ got n rest
unfolding natural int some_digits
int-end zero rest h = unfold decimal_digits choose in refl
int-end (suc n) rest h =
    let m = numeral (suc (suc n)) (suc n) (omega arith) in
    let low = m.some (omega arith) in
    rw m.is
    (otherwise _ (ne_eqb (48 + m.first) 48 (λ e. absurd (omega arith)))
    (yes _ (digit m.first m.low) ∙ ap (λ (k : ℕ). digits k (m.others ++ rest)) (back m.first) ∙ m.goes rest ∙ digits-end (suc n) rest h))
  where
    back : (d : ℕ) → 48 + d - 48 ≡ d
    back d = omega arith

magnitude-end : (left : ℕ) (minus : Bool) (n : ℕ) (rest : List ℕ) → fits minus n ≡ true → ends_number rest ≡ true → magnitude left minus (natural n ++ rest) ≡ got (signed minus n) rest
unfolding magnitude then
magnitude-end left minus n rest f h = rw (int-end n rest h) (parts-end left minus n rest f h)

-- the first byte of an integer
pub record Begun (z : ℤ) : Type 0 where
  pub byte : ℕ
  pub others : List ℕ
  pub is : integer_text z ≡ byte ∷ others
  pub numeral : (eqb byte 45 or is_digit byte) ≡ true
  pub low : 45 ≤ byte
  pub high : byte ≤ 57

pub begun : (z : ℤ) → Begun z
unfolding integer_text ◌or◌ natural
begun (pos n) =
    let m = numeral (suc n) n (omega arith) in
    record { byte = 48 + m.first; others = m.others; is = m.is; numeral = rw (ne_eqb (48 + m.first) 45 (λ e. absurd (omega arith))) (digit m.first m.low); low = omega arith; high = omega (arith, m.low) }
begun (negsuc n) = record { byte = 45; others = natural (suc n); is = refl; numeral = refl; low = omega arith; high = omega arith }

pub number-text : (z : ℤ) (rest : List ℕ) → fits64 z ≡ true → ends_number rest ≡ true → number (integer_text z ++ rest) ≡ got z rest
unfolding integer_text fits64 signed
number-text (pos n) rest f h = go (numeral (suc n) n (omega arith))
  where
    go : Numeral (suc n) n → number (natural n ++ rest) ≡ got (pos n) rest
    go m =
        unfold natural number fits signed in
        ap (λ (t : List ℕ). number (t ++ rest)) m.is
        ∙ otherwise _ (ne_eqb (48 + m.first) 45 (λ e. absurd (omega arith)))
        (ap (λ (t : List ℕ). magnitude (suc (length (m.others ++ rest))) false (t ++ rest)) (sym m.is)
        ∙ magnitude-end (suc (length (m.others ++ rest))) false n rest f h)
number-text (negsuc n) rest f h =
    unfold number in
    yes _ refl ∙ magnitude-end _ true (suc n) rest (unfold fits in le-leb (suc n) 9223372036854775808 (omega (arith, leb-true n 9223372036854775807 f))) h
