-- Sizes: how many different texts there are and how many bytes they have, a case that fits a room, and what is put from a place on
use Rattle.std.specs.Prelude.{◌≡◌, List, ℕ, ◌+◌, ◌<◌, ◌≤◌, length}
use Rattle.meaning.specs.Case.{size}
use Rattle.laws.specs.Writing.{Writing}
use Rattle.encode.specs.Encode.{flat}
use Rattle.encode.specs.Unsorted.{texts}

-- a body's bytes, as many as 32 bits can count
pub record BodySize (s : List ℕ) (k r : ℕ) : Type 0 where
  pub is : r ≡ size s k
  pub few : r ≤ 4294967295

-- a table of words, with so many texts
pub record Table (n k : ℕ) : Type 0 where
  pub few : n ≤ 16384
  pub words : k < 6

pub record Sized (s : List ℕ) (n total : ℕ) : Type 0 where
  pub many : n ≡ length (texts s)
  pub few : n ≤ 16384
  pub bytes : total ≡ length (flat (texts s))
  pub small : total ≤ 70368744177664

-- the bytes alone, as many as 46 bits can count
pub record TextBytes (s : List ℕ) (total : ℕ) : Type 0 where
  pub is : total ≡ length (flat (texts s))
  pub few : total ≤ 70368744177664

-- how many bytes a part has
pub record PartSize (part : List ℕ) (r : ℕ) : Type 0 where
  pub is : r ≡ length part
  pub few : r ≤ 70368744177664

-- no larger than a case may be, nor than the room
pub record Fits (f room : List ℕ) : Type 0 where
  pub most : length f ≤ 4194304
  pub held : length f ≤ length room

-- new bytes fit from a place on
pub record Room (at : ℕ) (new out : List ℕ) : Type 0 where
  pub held : at + length new ≤ length out
  pub few : at + length new ≤ 4194304

-- new bytes from a place on, and the place after them
pub record Put (before after : List ℕ) (at : ℕ) (new : List ℕ) (next : ℕ) : Type 0 where
  pub is : Writing before after at new
  pub end : next ≡ at + length new
