-- What making a finished case says, and what the room holds after it
use Rattle.std.specs.Prelude.{◌≡◌, List, ℕ, ◌≤◌, length, Result, Ok, Err}
use Rattle.std.proofs.Math.Option.{Option, none, some}
use Rattle.meaning.specs.declared.Refusal.{Refusal}
use Rattle.encode.specs.Unsorted.{finished}
use Rattle.encode.specs.Write.{make_refusal, room_after}

-- the finished case's bytes, as many as 50 bits can count
pub record FinishedSize (s marks : List ℕ) (r : ℕ) : Type 0 where
  pub is : r ≡ length (finished s marks)
  pub few : r ≤ 1125899906842624

unfoldable pub made_as : ℕ → Option Refusal → Result ℕ Refusal
made_as size none = Ok size
made_as size (some r) = Err r

pub record Makes (s marks room after : List ℕ) (r : Result ℕ Refusal) : Type 0 where
  pub is : r ≡ made_as (length (finished s marks)) (make_refusal s marks room)
  pub holds : after ≡ room_after s marks room (make_refusal s marks room)
