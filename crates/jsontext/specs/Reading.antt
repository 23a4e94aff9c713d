-- Reading a line from left to right: what was read and what is left, or the first fault; blanks, and a byte that is due
use Rattle.std.specs.Prelude.{Bool, List, [], ◌∷◌, ℕ, eqb, length}
use Rattle.std.proofs.Math.Option.{Option, none, some}
use Rattle.meaning.specs.Tests.{◌or◌, choose}
use Rattle.jsontext.specs.declared.Bad.{Bad}
use Rattle.jsontext.specs.declared.Fault.{Fault}
use Rattle.jsontext.specs.declared.Fault.TheVariants.{NotJson}

-- what was read, and what is left of the line; or what is wrong, how many bytes were left at its place, and how many at the first of two equal names (else the same)
pub data Read (A : Type 0) : Type 0 where
  got : A → List ℕ → Read A
  fault : Fault → ℕ → ℕ → Read A

unfoldable pub then : {A B : Type 0} → Read A → (A → List ℕ → Read B) → Read B
then (got a rest) f = f a rest
then (fault w left first) f = fault w left first

-- wrong, at what is left
abbrev pub no : {A : Type 0} → Fault → List ℕ → Read A
no w s = fault w (length s) (length s)

-- what was read, as something else
abbrev pub mapped : {A B : Type 0} → (A → B) → Read A → Read B
mapped f m = then m (λ a rest. got (f a) rest)

-- ws = *( %x20 / %x09 / %x0A / %x0D ); a line holds no %x0A
unfoldable pub is_blank : ℕ → Bool
is_blank c = eqb c 32 or eqb c 9 or eqb c 13

unfoldable pub blanks : List ℕ → List ℕ
blanks [] = []
blanks (c ∷ s) = choose (is_blank c) (blanks s) (c ∷ s)

-- a byte that must stand here
unfoldable pub want : ℕ → List ℕ → Read ℕ
want b [] = no NotJson []
want b (c ∷ s) = choose (eqb c b) (got c s) (no NotJson (c ∷ s))

-- what stands for the first byte left, or wrong
unfoldable pub or_wrong : {A B : Type 0} → Option A → List ℕ → (A → Read B) → Read B
or_wrong none s f = no NotJson s
or_wrong (some a) s f = f a

-- wrong at a place, which is no repeated name's
abbrev pub wrong : Fault → ℕ → Bad
wrong w at = record { fault = w; at = at; first = at }
