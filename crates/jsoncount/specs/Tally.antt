-- Tallies: counts that stop one above what a word holds; and what a part of a line that reads well adds to one
use Rattle.std.specs.Prelude.{◌≡◌, List, [], ◌∷◌, ℕ, ◌+◌, ◌≤◌, leb, length, drop}
use Rattle.meaning.specs.Tests.{choose}
use Rattle.jsontext.specs.Reading.{Read, got}
use Rattle.jsontrace.specs.Count.{Count, nothing, ◌⊞◌}
use Rattle.jsoncount.specs.declared.tallies.Tally.{Tally}

-- a number that a word holds, or one more than the greatest of them
unfoldable pub capped : ℕ → ℕ
capped n = choose (leb n 4294967295) n 4294967296

-- a capped number raised
pub record Raised (n by r : ℕ) : Type 0 where
  pub is : (m : ℕ) → n ≡ capped m → r ≡ capped (m + by)

-- a tally shows a count
pub record Shows (t : Tally) (c : Count) : Type 0 where
  pub strings : t.strings ≡ capped c.strings
  pub bytes : t.bytes ≡ capped c.bytes
  pub values : t.values ≡ capped c.values
  pub members : t.members ≡ capped c.members
  pub points : t.points ≡ capped c.points
  pub lists : t.lists ≡ capped c.lists

pub record Adds (t : Tally) (d : Count) (r : Tally) : Type 0 where
  pub shows : (c : Count) → Shows t c → Shows r (c ⊞ d)

-- all of a list
unfoldable pub sizes : {A : Type 0} → (A → Count) → List A → Count
sizes size [] = nothing
sizes size (a ∷ others) = size a ⊞ sizes size others

-- what was read up to the end is added
pub record CountedTo {A : Type 0} (line : List ℕ) (at : ℕ) (t u : Tally) (end : ℕ) (m : Read A) (size : A → Count) : Type 0 where
  pub from : at ≤ end
  pub within : end ≤ length line
  pub is : (what : A) (rest : List ℕ) → m ≡ got what rest → rest ≡ drop end line
  pub adds : (what : A) (rest : List ℕ) → m ≡ got what rest → Adds t (size what) u
