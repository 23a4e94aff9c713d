-- Equality of values, and what a variable can be bound to
use Rattle.std.specs.Prelude.{Bool, true, false, List, [], ◌∷◌, ◌++◌, ℕ, ◌+◌, ◌*◌, ◌-◌, ◌^◌, leb, ltb, eqb, length, ℤ, pos, neg_ℤ}
use Rattle.std.proofs.Math.Option.{Option, none, some}
use Rattle.std.specs.Int.Signed.{mag}
use Rattle.std.proofs.Common.{of_z}
use Rattle.std.specs.Int.{w64}
use Rattle.meaning.specs.Tests.{◌and◌}
use Rattle.meaning.specs.Case.{Case, Value, Part, Null, Boolean, Int, Decimal, Text, Entity, Array, Object}
use Rattle.meaning.specs.Below.{made}

-- ---- decimals: an optional minus, digits, a point, 1 to 4 digits

unfoldable pub is_digit : ℕ → Bool
is_digit b = leb 48 b and leb b 57

unfoldable pub digits : List ℕ → Bool
digits [] = true
digits (b ∷ bs) = is_digit b and digits bs

unfoldable pub natural : ℕ → List ℕ → ℕ
natural n [] = n
natural n (b ∷ bs) = natural (10 * n + (b - 48)) bs

-- what stands before the first point and after it
unfoldable pub cut : List ℕ → List ℕ → Option (List ℕ × List ℕ)
cut before [] = none
cut before (b ∷ bs) = elim (eqb b 46) [ true ↦ some (before, bs) | false ↦ cut (before ++ (b ∷ [])) bs ]

-- the text without its minus, and whether it had one
unfoldable pub unsigned : List ℕ → Bool × List ℕ
unsigned [] = (false, [])
unsigned (b ∷ bs) = elim (eqb b 45) [ true ↦ (true, bs) | false ↦ (false, b ∷ bs) ]

-- times 10,000, where the number then fits 64 bits
unfoldable pub scaled : Bool → List ℕ → List ℕ → Option ℤ
scaled minus whole frac =
    let n = natural 0 whole * 10000 + natural 0 frac * 10 ^ (4 - length frac) in
    let z : ℤ = elim minus [ true ↦ neg_ℤ (pos n) | false ↦ pos n ] in
    elim (digits whole and digits frac and leb 1 (length whole) and leb 1 (length frac) and leb (length frac) 4 and ltb (mag z) (2 ^ 63)) [
      | true ↦ some z
      | false ↦ none
    ]

unfoldable pub decimal : List ℕ → Option ℤ
decimal text =
    let u = unsigned text in
    elim (cut [] u.1) [ none ↦ none | some parts ↦ scaled u.0 parts.0 parts.1 ]

-- ---- values

-- what tells a value from others: its kind, its numbers, its parts
pub record Seen : Type 0 where
  pub kind : ℕ
  pub key : List ℕ
  pub parts : List Part

unfoldable pub seen : ℕ → List ℕ → List Part → Seen
seen k n p = record { kind = k; key = n; parts = p }

-- a decimal that reads goes by its scaled number, any other by its text
unfoldable pub decimal_key : Case → ℕ → List ℕ
decimal_key c s = elim (decimal (c.text s)) [ none ↦ 1 ∷ s ∷ [] | some z ↦ 0 ∷ of_z w64 z ∷ [] ]

unfoldable pub see : Case → Value → Seen
see c Null = seen 0 [] []
see c (Boolean b) = seen 1 (b ∷ []) []
see c (Int z) = seen 2 (of_z w64 z ∷ []) []
see c (Decimal s) = seen 3 (decimal_key c s) []
see c (Text s) = seen 4 (s ∷ []) []
see c (Entity t i) = seen 5 (t ∷ i ∷ []) []
see c (Array ps) = seen 6 [] ps
see c (Object ps) = seen 7 [] ps

unfoldable pub same_list : List ℕ → List ℕ → Bool
same_list [] [] = true
same_list [] (y ∷ ys) = false
same_list (x ∷ xs) [] = false
same_list (x ∷ xs) (y ∷ ys) = eqb x y and same_list xs ys

unfoldable pub same_parts : (ℕ → ℕ → Bool) → List Part → List Part → Bool
same_parts eq [] [] = true
same_parts eq [] (y ∷ ys) = false
same_parts eq (x ∷ xs) [] = false
same_parts eq (x ∷ xs) (y ∷ ys) = eqb x.name y.name and eq x.value y.value and same_parts eq xs ys

unfoldable pub alike : (ℕ → ℕ → Bool) → Seen → Seen → Bool
alike eq s t = eqb s.kind t.kind and same_list s.key t.key and same_parts eq s.parts t.parts

-- value number m equals value number n
unfoldable pub same_value : Case → ℕ → ℕ → Bool
same_value c = made (λ n. false) (λ eq m n. alike eq (see c (c.value m)) (see c (c.value n)))

-- ---- what a variable can be bound to: an integer, a value that is no Int, by its number, or a string, an entity's own part

pub data Bound : Type 0 where
  int : ℤ → Bound
  value : ℕ → Bound
  part : ℕ → Bound

unfoldable pub as_value : Case → Bound → Value
as_value c (int z) = Int z
as_value c (value k) = c.value k
as_value c (part s) = Text s

unfoldable pub same : Case → Bound → Bound → Bool
same c a b = alike (same_value c) (see c (as_value c a)) (see c (as_value c b))

unfoldable pub bound_of : ℕ → Value → Bound
bound_of k Null = value k
bound_of k (Boolean b) = value k
bound_of k (Int z) = int z
bound_of k (Decimal s) = value k
bound_of k (Text s) = value k
bound_of k (Entity t i) = value k
bound_of k (Array ps) = value k
bound_of k (Object ps) = value k

unfoldable pub integer : Bound → Option ℤ
integer (int z) = some z
integer (value k) = none
integer (part s) = none
