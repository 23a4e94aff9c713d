-- Of a string that reads well: its bytes, how many they are, and where it ends
use Rattle.std.specs.Prelude.{◌≡◌, List, ℕ, ◌+◌, ◌<◌, ◌≤◌, length, drop}
use Rattle.laws.specs.Writing.{Writing}
use Rattle.jsontext.specs.Reading.{got}
use Rattle.jsontext.specs.Strings.{string}
use Rattle.jsonspelt.specs.declared.Spelt.{Spelt}

pub record SpeltIs (line : List ℕ) (at : ℕ) (r : Spelt) (text rest : List ℕ) : Type 0 where
  pub from : at < r.end
  pub within : r.end ≤ length line
  pub is : rest ≡ drop r.end line
  pub many : r.bytes ≡ length text

abbrev pub SpeltTold : List ℕ → ℕ → Spelt → Type 0
SpeltTold line at r = (text rest : List ℕ) → string (drop at line) ≡ got text rest → SpeltIs line at r text rest

-- cells from a place on are new, and the next place
pub record Put (before after : List ℕ) (at : ℕ) (new : List ℕ) (next : ℕ) : Type 0 where
  pub is : Writing before after at new
  pub end : next ≡ at + length new

-- a string stands here, and its bytes fit
pub record Fits (line : List ℕ) (at to : ℕ) (out : List ℕ) : Type 0 where
  pub text : List ℕ
  pub rest : List ℕ
  pub within : at ≤ length line
  pub is : string (drop at line) ≡ got text rest
  pub room : to + length text ≤ length out

pub record PutIs (line : List ℕ) (at : ℕ) (before after : List ℕ) (to : ℕ) (r : Spelt) (text rest : List ℕ) : Type 0 where
  pub spelt : SpeltIs line at r text rest
  pub written : Writing before after to text

abbrev pub PutTold : List ℕ → ℕ → List ℕ → List ℕ → ℕ → Spelt → Type 0
PutTold line at before after to r = (text rest : List ℕ) → string (drop at line) ≡ got text rest → PutIs line at before after to r text rest
