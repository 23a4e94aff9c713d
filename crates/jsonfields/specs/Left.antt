-- What is left of a line behind a string, a number, a word: a string takes two bytes at least
use Rattle.std.specs.Prelude.{◌≡◌, refl, Bool, true, false, List, [], ◌∷◌, ◌++◌, ℕ, zero, suc, ◌+◌, ◌*◌, ◌-◌, ◌<◌, ◌≤◌, ℤ, eqb, ltb, length}
use Rattle.std.proofs.Math.Option.{Option, none, some}
use Rattle.std.proofs.Common.{arith}
use Rattle.meaning.specs.Tests.{◌and◌, ◌or◌, choose}
use Rattle.meaning.specs.Equal.{is_digit}
use Rattle.meaning.specs.Text.{next, ended}
use Rattle.meaning.specs.declared.Due.{Due}
use Rattle.meaning.specs.declared.Due.TheVariants.{Nothing}
use Rattle.jsontext.specs.declared.Fault.{Fault}
use Rattle.jsontext.specs.declared.Fault.TheVariants.{NotJson, BadNumber}
use Rattle.jsontext.specs.Reading.{Read, got, fault, then, mapped, is_blank, blanks, want, or_wrong}
use Rattle.jsontext.specs.Numbers.{digits, some_digits, int, frac, unsigned, exp, fits, signed, integer, parts, magnitude, number}
use Rattle.jsontext.specs.Strings.{hex_digit, hex_digits, hex4, utf8_of, is_high, is_low, joined, low_unit, low_half, pair, character, simple, escape, is_wrong, chars, string}
use Rattle.jsontext.specs.Values.{J, spelt}
use Rattle.jsonread.proofs.Spelling.{never}

-- where something is read, fewer than k bytes are left
abbrev Leaves : {A : Type 0} → ℕ → Read A → Type 0
Leaves {A} k m = (a : A) (rest : List ℕ) → m ≡ got a rest → length rest < k

leaves-got : {A : Type 0} {k : ℕ} (a : A) (s : List ℕ) → length s < k → Leaves k (got a s)
leaves-got a s h b rest e = let z : s ≡ rest = cc in rw z at h

leaves-fault : {A : Type 0} {k : ℕ} (w : Fault) (p q : ℕ) → Leaves {A = A} k (fault w p q)
leaves-fault w p q a rest e = absurd (never e)

leaves-then : {A B : Type 0} {k j : ℕ} (m : Read A) {f : A → List ℕ → Read B} → Leaves k m → ((a : A) (rest : List ℕ) → length rest < k → Leaves j (f a rest)) → Leaves j (then m f)
unfolding then
leaves-then (got a rest) h g = g a rest (h a rest refl)
leaves-then (fault w p q) h g = leaves-fault w p q

leaves-mapped : {A B : Type 0} {k : ℕ} (m : Read A) (f : A → B) → Leaves k m → Leaves k (mapped f m)
leaves-mapped m f h = leaves-then m h (λ a rest l. leaves-got (f a) rest l)

leaves-choose : {A : Type 0} {k : ℕ} (b : Bool) {m n : Read A} → Leaves k m → Leaves k n → Leaves k (choose b m n)
unfolding choose
leaves-choose true h g = h
leaves-choose false h g = g

leaves_or : {A B : Type 0} {k : ℕ} (o : Option A) (s : List ℕ) {f : A → Read B} → ((a : A) → Leaves k (f a)) → Leaves k (or_wrong o s f)
unfolding or_wrong
leaves_or none s g = leaves-fault NotJson (length s) (length s)
leaves_or (some a) s g = g a

-- ---- blanks, a byte, a word

pub blanks-left : (s : List ℕ) → length (blanks s) ≤ length s
unfolding blanks choose
blanks-left [] = omega arith
blanks-left (c ∷ s) =
    go (is_blank c) (blanks-left s)
  where
    go : (x : Bool) → length (blanks s) ≤ length s → length (choose x (blanks s) (c ∷ s)) ≤ length (c ∷ s)
    go true h = omega (arith, h)
    go false h = omega arith

want-leaves : {k : ℕ} (b : ℕ) (s : List ℕ) → length s ≤ k → Leaves k (want b s)
unfolding want
want-leaves b [] h = leaves-fault NotJson 0 0
want-leaves b (c ∷ s) h = leaves-choose (eqb c b) (leaves-got c s (omega arith)) (leaves-fault NotJson (length (c ∷ s)) (length (c ∷ s)))

spelt-leaves : {k : ℕ} (bs : List ℕ) (j : J) (s : List ℕ) → length s < k → Leaves k (spelt bs j s)
unfolding spelt
spelt-leaves [] j s h = leaves-got j s h
spelt-leaves {k = k} (b ∷ bs) j s h = leaves-then (want b s) (want-leaves {k = k} b s (omega arith)) (λ c rest l. spelt-leaves bs j rest l)

-- ---- strings

hex_leaves : {k : ℕ} (d n : ℕ) (s : List ℕ) → length s < k → Leaves k (hex_digits d n s)
unfolding hex_digits
hex_leaves zero n s h = leaves-got n s h
hex_leaves (suc d) n [] h = leaves-fault NotJson 0 0
hex_leaves (suc d) n (c ∷ s) h = leaves_or (hex_digit c) (c ∷ s) (λ x. hex_leaves d (16 * n + x) s (omega arith))

low-leaves : {k : ℕ} (s : List ℕ) → length s < k → Leaves k (low_half s)
unfolding low_half low_unit
low-leaves {k = k} s h = leaves-then (want 92 s) (want-leaves {k = k} 92 s (omega arith)) (λ b r l. leaves-then (want 117 r) (want-leaves {k = k} 117 r (omega arith)) (λ u t j. leaves-then (hex4 t) (hex_leaves {k = k} 4 0 t j) (λ low rest g. leaves-choose (is_low low) (leaves-got low rest g) (leaves-fault NotJson (length rest) (length rest)))))

pair-leaves : {k : ℕ} (left high : ℕ) (m : Read ℕ) → Leaves k m → Leaves k (pair left high m)
unfolding pair
pair-leaves left high (got low rest) h = leaves-got (utf8_of (joined high low)) rest (h low rest refl)
pair-leaves left high (fault w p q) h = leaves-fault NotJson left left

character-leaves : {k : ℕ} (left u : ℕ) (s : List ℕ) → length s < k → Leaves k (character left u s)
unfolding character
character-leaves left u s h = leaves-choose (is_low u) (leaves-fault NotJson left left) (leaves-choose (is_high u) (pair-leaves left u (low_half s) (low-leaves s h)) (leaves-got (utf8_of u) s h))

escape-leaves : {k : ℕ} (s : List ℕ) → length s < k → Leaves k (escape s)
unfolding escape
escape-leaves [] h = leaves-fault NotJson 0 0
escape-leaves {k = k} (c ∷ s) h = leaves-choose (eqb c 117) (leaves-then (hex4 s) (hex_leaves {k = k} 4 0 s (omega arith)) (λ u rest l. character-leaves (suc (suc (length s))) u rest l)) (leaves_or (simple c) (c ∷ s) (λ b. leaves-got (b ∷ []) s (omega arith)))

chars-leaves : {k : ℕ} (turns : ℕ) (d : Due) (s : List ℕ) → length s ≤ k → Leaves k (chars turns d s)
unfolding chars
chars-leaves zero d s h = leaves-fault NotJson (length s) (length s)
chars-leaves (suc turns) d [] h = leaves-fault NotJson 0 0
chars-leaves {k = k} (suc turns) d (c ∷ s) h =
    leaves-choose (ended d and eqb c 34) (leaves-got [] s (omega arith))
    (leaves-choose (ended d and eqb c 92) (leaves-then (escape s) (escape-leaves {k = k} s (omega arith)) (λ b rest l. leaves-mapped (chars turns Nothing rest) (λ t. b ++ t) (chars-leaves turns Nothing rest (omega arith))))
    (leaves-choose (ended d and ltb c 32) (leaves-fault NotJson (length (c ∷ s)) (length (c ∷ s)))
    (leaves-choose (is_wrong (next d c)) (leaves-fault NotJson (length (c ∷ s)) (length (c ∷ s))) (leaves-mapped (chars turns (next d c) s) (λ t. c ∷ t) (chars-leaves turns (next d c) s (omega arith))))))

string-leaves : {k : ℕ} (s : List ℕ) → length s ≤ suc k → Leaves k (string s)
unfolding string
string-leaves {k = k} s h = leaves-then (want 34 s) (want-leaves {k = suc k} 34 s h) (λ q rest l. chars-leaves (suc (length rest)) Nothing rest (omega arith))

-- ---- numbers

digits-leaves : {k : ℕ} (n : ℕ) (s : List ℕ) → length s < k → Leaves k (digits n s)
unfolding digits
digits-leaves n [] h = leaves-got n [] h
digits-leaves n (c ∷ s) h = leaves-choose (is_digit c) (digits-leaves (10 * n + (c - 48)) s (omega arith)) (leaves-got n (c ∷ s) h)

some-leaves : {k : ℕ} (s : List ℕ) → length s < k → Leaves k (some_digits s)
unfolding some_digits
some-leaves [] h = leaves-fault NotJson 0 0
some-leaves (c ∷ s) h = leaves-choose (is_digit c) (digits-leaves (c - 48) s (omega arith)) (leaves-fault NotJson (length (c ∷ s)) (length (c ∷ s)))

int-leaves : {k : ℕ} (s : List ℕ) → length s < k → Leaves k (int s)
unfolding int
int-leaves [] h = leaves-fault NotJson 0 0
int-leaves (c ∷ s) h = leaves-choose (eqb c 48) (leaves-got 0 s (omega arith)) (some-leaves (c ∷ s) h)

frac-leaves : {k : ℕ} (s : List ℕ) → length s < k → Leaves k (frac s)
unfolding frac
frac-leaves [] h = leaves-got false [] h
frac-leaves {k = k} (c ∷ s) h = leaves-choose (eqb c 46) (leaves-then (some_digits s) (some-leaves {k = k} s (omega arith)) (λ n rest l. leaves-got true rest l)) (leaves-got false (c ∷ s) h)

unsigned-left : (s : List ℕ) → length (unsigned s) ≤ length s
unfolding unsigned choose
unsigned-left [] = omega arith
unsigned-left (c ∷ s) =
    go (eqb c 45 or eqb c 43)
  where
    go : (x : Bool) → length (choose x s (c ∷ s)) ≤ length (c ∷ s)
    go true = omega arith
    go false = omega arith

exp-leaves : {k : ℕ} (s : List ℕ) → length s < k → Leaves k (exp s)
unfolding exp
exp-leaves [] h = leaves-got false [] h
exp-leaves {k = k} (c ∷ s) h = leaves-choose (eqb c 101 or eqb c 69) (leaves-then (some_digits (unsigned s)) (some-leaves {k = k} (unsigned s) (omega (arith, unsigned-left s))) (λ n rest l. leaves-got true rest l)) (leaves-got false (c ∷ s) h)

magnitude-leaves : {k : ℕ} (left : ℕ) (minus : Bool) (s : List ℕ) → length s < k → Leaves k (magnitude left minus s)
unfolding magnitude parts integer
magnitude-leaves {k = k} left minus s h =
    leaves-then (int s) (int-leaves {k = k} s h) λ n r l.
    leaves-then (frac r) (frac-leaves {k = k} r l) λ f t j.
    leaves-then (exp t) (exp-leaves {k = k} t j) λ e rest g.
    leaves-choose (f or e) (leaves-fault BadNumber left left) (leaves-choose (fits minus n) (leaves-got (signed minus n) rest g) (leaves-fault BadNumber left left))

number-leaves : {k : ℕ} (s : List ℕ) → length s < k → Leaves k (number s)
unfolding number
number-leaves [] h = leaves-fault NotJson 0 0
number-leaves (c ∷ s) h = leaves-choose (eqb c 45) (magnitude-leaves (suc (length s)) true s (omega arith)) (magnitude-leaves (suc (length s)) false (c ∷ s) h)

-- ---- at least

pub string-takes : (s : List ℕ) {t rest : List ℕ} → string s ≡ got t rest → suc (suc (length rest)) ≤ length s
string-takes s {t} {rest} e = omega (arith, string-leaves {k = length s - 1} s (omega arith) t rest e)

pub number-takes : (s : List ℕ) {z : ℤ} {rest : List ℕ} → number s ≡ got z rest → length rest ≤ length s
number-takes s {z} {rest} e = omega (arith, number-leaves {k = suc (length s)} s (omega arith) z rest e)

pub spelt-takes : (bs : List ℕ) (j : J) (s : List ℕ) {k : J} {rest : List ℕ} → spelt bs j s ≡ got k rest → length rest ≤ length s
spelt-takes bs j s {k} {rest} e = omega (arith, spelt-leaves {k = suc (length s)} bs j s (omega arith) k rest e)
