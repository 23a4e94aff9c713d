-- What the reader's functions tell of a line, beside what the definition reads on what is left of it
use Rattle.std.specs.Prelude.{◌≡◌, Bool, true, List, ℕ, ◌+◌, ◌-◌, ◌<◌, ◌≤◌, eqb, leb, ltb, length, drop, Result, Ok, Err}
use Rattle.meaning.specs.Tests.{◌and◌, ◌or◌, choose}
use Rattle.meaning.specs.Text.{ended}
use Rattle.meaning.specs.declared.Due.{Due}
use Rattle.jsontext.specs.declared.Fault.TheVariants.{NotJson}
use Rattle.jsontext.specs.declared.Bad.{Bad}
use Rattle.jsontext.specs.Reading.{Read, got, fault, then, blanks, wrong}
use Rattle.jsontext.specs.Numbers.{digits, int, frac, unsigned, exp}
use Rattle.jsontext.specs.Strings.{hex4, is_low, utf8_of}
use Rattle.jsonread.specs.declared.strings.Mark.{Mark}
use Rattle.jsonread.specs.declared.strings.Mark.TheVariants.{Quote, Backslash, Control, Byte}
use Rattle.jsonread.specs.declared.integers.Digits.{Digits}

-- read from `at` to e
pub record Stands {A : Type 0} (line : List ℕ) (at e : ℕ) (m : Read A) : Type 0 where
  pub what : A
  pub from : at ≤ e
  pub within : e ≤ length line
  pub is : m ≡ got what (drop e line)

-- wrong as b says
pub record Faulty {A : Type 0} (line : List ℕ) (b : Bad) (m : Read A) : Type 0 where
  pub place : b.at ≤ length line
  pub first : b.first ≤ length line
  pub is : m ≡ fault b.fault (length line - b.at) (length line - b.first)

-- no JSON, at the place of b
pub record Lacks {A : Type 0} (line : List ℕ) (b : Bad) (m : Read A) : Type 0 where
  pub alone : b ≡ wrong NotJson b.at
  pub faulty : Faulty line b m

-- what a step tells of a reading from `at` on
pub record Told {A : Type 0} (line : List ℕ) (at : ℕ) (r : Result ℕ Bad) (m : Read A) : Type 0 where
  pub stands : (e : ℕ) → r ≡ Ok e → Stands line at e m
  pub faulty : (b : Bad) → r ≡ Err b → Faulty line b m

pub record Blanks (line : List ℕ) (at r : ℕ) : Type 0 where
  pub from : at ≤ r
  pub within : r ≤ length line
  pub is : drop r line ≡ blanks (drop at line)

-- ---- strings

pub record HexIs (line : List ℕ) (at u : ℕ) : Type 0 where
  pub within : at + 4 ≤ length line
  pub below : u < 65536
  pub is : hex4 (drop at line) ≡ got u (drop (at + 4) line)

pub record HexTold (line : List ℕ) (at : ℕ) (r : Result ℕ Bad) : Type 0 where
  pub found : (u : ℕ) → r ≡ Ok u → HexIs line at u
  pub missing : (b : Bad) → r ≡ Err b → Lacks line b (hex4 (drop at line))

-- a low half read up to e
pub record LowIs (line : List ℕ) (e u : ℕ) (m : Read ℕ) : Type 0 where
  pub within : e ≤ length line
  pub low : is_low u ≡ true
  pub is : m ≡ got u (drop e line)

pub record LowTold (line : List ℕ) (e : ℕ) (r : Result ℕ Bad) (m : Read ℕ) : Type 0 where
  pub found : (u : ℕ) → r ≡ Ok u → LowIs line e u m
  pub missing : (b : Bad) → r ≡ Err b → Lacks line b m

-- the character u read from `at` to e
pub record CharIs (line : List ℕ) (at u e : ℕ) (m : Read (List ℕ)) : Type 0 where
  pub from : at ≤ e
  pub within : e ≤ length line
  pub below : u < 1114112
  pub is : m ≡ got (utf8_of u) (drop e line)

pub record CharTold (line : List ℕ) (at : ℕ) (r : Result (ℕ × ℕ) Bad) (m : Read (List ℕ)) : Type 0 where
  pub found : (u e : ℕ) → r ≡ Ok (u, e) → CharIs line at u e m
  pub missing : (b : Bad) → r ≡ Err b → Lacks line b m

-- what a byte of a string is, where d is due
unfoldable pub mark_of : Due → ℕ → Mark
mark_of d c =
    choose (ended d and eqb c 34) Quote
    (choose (ended d and eqb c 92) Backslash
    (choose (ended d and ltb c 32) Control Byte))

-- ---- numbers

-- a number, or the least that 64 bits cannot hold with any sign
unfoldable pub cap : ℕ → ℕ
cap n = choose (leb n 9223372036854775808) n 9223372036854775809

pub record DigitsTold (line : List ℕ) (at n : ℕ) (r : Digits) : Type 0 where
  pub what : ℕ
  pub from : at ≤ r.at
  pub within : r.at ≤ length line
  pub is : digits n (drop at line) ≡ got what (drop r.at line)
  pub value : r.value ≡ cap what

pub record IntTold (line : List ℕ) (at : ℕ) (r : Digits) : Type 0 where
  pub what : ℕ
  pub from : at ≤ r.at
  pub within : r.at ≤ length line
  pub is : int (drop at line) ≡ got what (drop r.at line)
  pub value : r.value ≡ cap what

pub record WholeTold (line : List ℕ) (at : ℕ) (r : Result Digits Bad) : Type 0 where
  pub counted : (n : Digits) → r ≡ Ok n → IntTold line at n
  pub missing : (b : Bad) → r ≡ Err b → Lacks line b (int (drop at line))

-- a part that may be missing: there is one where it takes a byte
pub record PartIs (line : List ℕ) (at e : ℕ) (m : Read Bool) : Type 0 where
  pub from : at ≤ e
  pub within : e ≤ length line
  pub is : m ≡ got (ltb at e) (drop e line)

pub record PartTold (line : List ℕ) (at : ℕ) (r : Result ℕ Bad) (m : Read Bool) : Type 0 where
  pub part : (e : ℕ) → r ≡ Ok e → PartIs line at e m
  pub faulty : (b : Bad) → r ≡ Err b → Faulty line b m

pub record Unsigned (line : List ℕ) (at r : ℕ) : Type 0 where
  pub from : at ≤ r
  pub within : r ≤ length line
  pub is : drop r line ≡ unsigned (drop at line)

-- [ frac ] [ exp ]; whether there is one
unfoldable pub others : List ℕ → Read Bool
others s = then (frac s) λ f rest. then (exp rest) λ e rest. got (f or e) rest
