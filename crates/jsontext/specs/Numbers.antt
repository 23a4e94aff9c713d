-- RFC 8259, section 6: numbers; readings J6 and J12
use Rattle.std.specs.Prelude.{Bool, true, false, List, [], ◌∷◌, ℕ, zero, suc, ◌+◌, ◌*◌, ◌-◌, ℤ, pos, negsuc, eqb, leb, length}
use Rattle.meaning.specs.Tests.{◌or◌, choose}
use Rattle.meaning.specs.Equal.{is_digit}
use Rattle.jsontext.specs.declared.Fault.TheVariants.{NotJson, BadNumber}
use Rattle.jsontext.specs.Reading.{Read, got, fault, then, no}

-- *DIGIT, after digits that say n
unfoldable pub digits : ℕ → List ℕ → Read ℕ
digits n [] = got n []
digits n (c ∷ s) = choose (is_digit c) (digits (10 * n + (c - 48)) s) (got n (c ∷ s))

-- 1*DIGIT
unfoldable pub some_digits : List ℕ → Read ℕ
some_digits [] = no NotJson []
some_digits (c ∷ s) = choose (is_digit c) (digits (c - 48) s) (no NotJson (c ∷ s))

-- int = zero / ( digit1-9 *DIGIT )
unfoldable pub int : List ℕ → Read ℕ
int [] = no NotJson []
int (c ∷ s) = choose (eqb c 48) (got 0 s) (some_digits (c ∷ s))

-- frac = decimal-point 1*DIGIT; whether there is one
unfoldable pub frac : List ℕ → Read Bool
frac [] = got false []
frac (c ∷ s) = choose (eqb c 46) (then (some_digits s) (λ n rest. got true rest)) (got false (c ∷ s))

-- [ minus / plus ]
unfoldable pub unsigned : List ℕ → List ℕ
unsigned [] = []
unsigned (c ∷ s) = choose (eqb c 45 or eqb c 43) s (c ∷ s)

-- exp = e [ minus / plus ] 1*DIGIT; whether there is one
unfoldable pub exp : List ℕ → Read Bool
exp [] = got false []
exp (c ∷ s) = choose (eqb c 101 or eqb c 69) (then (some_digits (unsigned s)) (λ n rest. got true rest)) (got false (c ∷ s))

-- what 64 bits hold with a sign
unfoldable pub fits : Bool → ℕ → Bool
fits true n = leb n 9223372036854775808
fits false n = leb n 9223372036854775807

unfoldable pub signed : Bool → ℕ → ℤ
signed true zero = pos 0
signed true (suc n) = negsuc n
signed false n = pos n

-- without fraction and exponent, and within 64 bits; else 22 where the number began, with `left` bytes left
unfoldable pub integer : ℕ → Bool → Bool → ℕ → List ℕ → Read ℤ
integer left minus other n rest =
    choose other (fault BadNumber left left)
    (choose (fits minus n) (got (signed minus n) rest) (fault BadNumber left left))

-- [ frac ] [ exp ], after digits that say n
unfoldable pub parts : ℕ → Bool → ℕ → List ℕ → Read ℤ
parts left minus n s =
    then (frac s) λ f rest.
    then (exp rest) λ e rest.
    integer left minus (f or e) n rest

-- int [ frac ] [ exp ], after the sign
unfoldable pub magnitude : ℕ → Bool → List ℕ → Read ℤ
magnitude left minus s = then (int s) λ n rest. parts left minus n rest

-- number = [ minus ] int [ frac ] [ exp ]
unfoldable pub number : List ℕ → Read ℤ
number [] = no NotJson []
number (c ∷ s) = choose (eqb c 45) (magnitude (suc (length s)) true s) (magnitude (suc (length s)) false (c ∷ s))
