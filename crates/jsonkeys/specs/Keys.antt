-- How an array or object begins, a member's name, and what may follow a part; what pass one does with the workspace
use Rattle.std.specs.Prelude.{◌≡◌, Bool, true, false, List, [], ◌∷◌, ℕ, suc, ◌+◌, ◌*◌, ◌-◌, ◌≤◌, eqb, length, drop, Result, Ok, Err}
use Rattle.meaning.specs.Tests.{choose}
use Rattle.jsontext.specs.declared.Fault.TheVariants.{NotJson}
use Rattle.jsontext.specs.declared.Bad.{Bad}
use Rattle.jsontext.specs.Reading.{Read, got, then, no, blanks}
use Rattle.jsontext.specs.Strings.{string}
use Rattle.jsontext.specs.Values.{Name, after_name, after_part, members}
use Rattle.jsonread.specs.Told.{Faulty, Lacks, Told}
use Rattle.jsonnames.specs.Sorted.{Table}
use Rattle.jsonmarks.specs.Marks.{Marked, Below}
use Rattle.jsonkeys.specs.declared.Turn.{Turn}
use Rattle.jsonkeys.specs.declared.Turn.TheVariants.{On, Over}

-- ---- how an array or object begins, and what may follow a part: true after the closing bracket

unfoldable pub opened : ℕ → List ℕ → Read Bool
opened close [] = no NotJson []
opened close (c ∷ s) = choose (eqb c close) (got true s) (got false (c ∷ s))

unfoldable pub after : ℕ → List ℕ → Read Bool
after close [] = no NotJson []
after close (c ∷ s) = choose (eqb c close) (got true s) (choose (eqb c 44) (got false (blanks s)) (no NotJson (c ∷ s)))

-- from a place to i
pub record Comes (line : List ℕ) (low i : ℕ) (over : Bool) (m : Read Bool) : Type 0 where
  pub from : low ≤ i
  pub within : i ≤ length line
  pub is : m ≡ got over (drop i line)

pub record TurnTold (line : List ℕ) (low : ℕ) (m : Read Bool) (r : Result Turn Bad) : Type 0 where
  pub on : (i : ℕ) → r ≡ Ok (On i) → Comes line low i false m
  pub over : (i : ℕ) → r ≡ Ok (Over i) → Comes line low i true m
  pub missing : (b : Bad) → r ≡ Err b → Lacks line b m

-- ---- the workspace

-- a name takes four bytes of the line with its colon and the byte after its value; so many bytes may be missing where a value begins
abbrev pub Room : List ℕ → List ℕ → ℕ → ℕ → ℕ → Type 0
Room line names used at more = 4 * used + (length line - at) ≤ 4 * length names + more

pub record Passed {A : Type 0} (line names after : List ℕ) (used at : ℕ) (r : Result ℕ Bad) (m : Read A) : Type 0 where
  pub told : Told line at r m
  pub below : Below line used names after

-- ---- a member's name

abbrev pub named : List ℕ → List ℕ → Name
named n s = record { name = n; left = length s }

-- a name that may stand here, after those seen, its colon, and blanks
unfoldable pub key : (List ℕ → Bool) → List Name → List ℕ → Read (List ℕ)
key known seen s = then (string s) λ n rest. then (after_name known seen (named n s) (blanks rest)) λ colon rest. got n (blanks rest)

-- of a name that reads well: whether it may stand here
abbrev pub KnownTold : List ℕ → ℕ → (List ℕ → Bool) → Bool → Type 0
KnownTold line at known r = (n rest : List ℕ) → string (drop at line) ≡ got n rest → r ≡ known n

-- its value begins at v
pub record KeyIs (line names after : List ℕ) (first end at v : ℕ) : Type 0 where
  pub name : List ℕ
  pub rest : List ℕ
  pub spells : string (drop at line) ≡ got name rest
  pub takes : at + 3 ≤ v
  pub within : v ≤ length line
  pub marked : Marked line after first (end + 1)
  pub table : (seen : List Name) → Table line names first end seen → Table line after first (end + 1) (named name (drop at line) ∷ seen)
  pub is : (known : List ℕ → Bool) → known name ≡ true → (seen : List Name) → Table line names first end seen → key known seen (drop at line) ≡ got name (drop v line)

pub record KeyTold (line names after : List ℕ) (first end at : ℕ) (allowed : Bool) (r : Result ℕ Bad) : Type 0 where
  pub below : Below line first names after
  pub allows : (v : ℕ) → r ≡ Ok v → allowed ≡ true
  pub read : (v : ℕ) → r ≡ Ok v → KeyIs line names after first end at v
  pub wrong : (b : Bad) → r ≡ Err b → (known : List ℕ → Bool) → KnownTold line at known allowed → (seen : List Name) → Table line names first end seen → Faulty line b (key known seen (drop at line))

-- ---- a member, whatever its value is read as

module _ {A : Type 0} (known : List ℕ → Bool) (item : List ℕ → List ℕ → Read A) where
  -- read up to e: what is left is what may follow a part
  pub record MemberIs (line names last : List ℕ) (first end at e : ℕ) : Type 0 where
    pub name : List ℕ
    pub rest : List ℕ
    pub spells : string (drop at line) ≡ got name rest
    pub value : ℕ
    pub what : A
    pub reads : item name (drop value line) ≡ got what (drop e line)
    pub takes : at + 3 ≤ e
    pub within : e ≤ length line
    pub below : Below line first names last
    pub marked : Marked line last first (end + 1)
    pub table : (seen : List Name) → Table line names first end seen → Table line last first (end + 1) (named name (drop at line) ∷ seen)
    pub is : (seen : List Name) → Table line names first end seen → (turns : ℕ) → members known item (suc turns) seen (drop at line) ≡ after_part 125 (name, what) (λ t. members known item turns (named name (drop at line) ∷ seen) t) (blanks (drop e line))

  pub record MemberWrong (line names last : List ℕ) (first end at : ℕ) (b : Bad) : Type 0 where
    pub below : Below line first names last
    pub is : (seen : List Name) → Table line names first end seen → (turns : ℕ) → Faulty line b (members known item (suc turns) seen (drop at line))
