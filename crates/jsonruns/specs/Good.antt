-- A part that reads well, from a place of the line on, and where it ends
use Rattle.std.specs.Prelude.{◌≡◌, List, ◌∷◌, ℕ, ◌<◌, ◌≤◌, Result, Ok, Err, length, drop}
use Rattle.jsontext.specs.Reading.{Read, got, blanks}

pub record Good {A : Type 0} (line : List ℕ) (at : ℕ) (m : Read A) : Type 0 where
  pub what : A
  pub rest : List ℕ
  pub within : at ≤ length line
  pub is : m ≡ got what rest

-- what is left after it stands from e on
pub record Ends {A : Type 0} (line : List ℕ) (at e : ℕ) (m : Read A) : Type 0 where
  pub from : at ≤ e
  pub within : e ≤ length line
  pub is : (what : A) (rest : List ℕ) → m ≡ got what rest → rest ≡ drop e line

-- a byte stands here, after blanks
pub record Signed (line : List ℕ) (at : ℕ) : Type 0 where
  pub within : at ≤ length line
  pub sign : ℕ
  pub rest : List ℕ
  pub is : blanks (drop at line) ≡ sign ∷ rest

-- past it, and past the blanks behind it
pub record Past (line : List ℕ) (at r : ℕ) : Type 0 where
  pub from : at < r
  pub within : r ≤ length line
  pub is : (c : ℕ) (rest : List ℕ) → blanks (drop at line) ≡ c ∷ rest → drop r line ≡ blanks rest

-- past it alone
pub record Behind (line : List ℕ) (at r : ℕ) : Type 0 where
  pub from : at < r
  pub within : r ≤ length line
  pub is : (c : ℕ) (rest : List ℕ) → blanks (drop at line) ≡ c ∷ rest → rest ≡ drop r line

-- the closing byte stands here, after blanks, and e is behind it
pub record ClosedAt (line : List ℕ) (at close e : ℕ) : Type 0 where
  pub from : at < e
  pub within : e ≤ length line
  pub is : blanks (drop at line) ≡ close ∷ drop e line

-- a first part stands at i
pub record BeginAt (line : List ℕ) (at close i : ℕ) : Type 0 where
  pub from : at ≤ i
  pub within : i ≤ length line
  pub other : (c : ℕ) (rest : List ℕ) → blanks (drop at line) ≡ c ∷ rest → c ≡ close → ⊥
  pub is : drop i line ≡ blanks (drop at line)

-- another byte stands here, and a part behind it, at i
pub record NextAt (line : List ℕ) (at close i : ℕ) : Type 0 where
  pub from : at < i
  pub within : i ≤ length line
  pub other : (c : ℕ) (rest : List ℕ) → blanks (drop at line) ≡ c ∷ rest → c ≡ close → ⊥
  pub is : (c : ℕ) (rest : List ℕ) → blanks (drop at line) ≡ c ∷ rest → drop i line ≡ blanks rest

pub record BeginTold (line : List ℕ) (at close : ℕ) (r : Result ℕ ℕ) : Type 0 where
  pub closed : (e : ℕ) → r ≡ Err e → ClosedAt line at close e
  pub next : (i : ℕ) → r ≡ Ok i → BeginAt line at close i

pub record PartTold (line : List ℕ) (at close : ℕ) (r : Result ℕ ℕ) : Type 0 where
  pub closed : (e : ℕ) → r ≡ Err e → ClosedAt line at close e
  pub next : (i : ℕ) → r ≡ Ok i → NextAt line at close i
