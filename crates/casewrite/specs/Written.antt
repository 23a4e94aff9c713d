-- What the writer says, and what the room and the output hold after it
use Rattle.std.specs.Prelude.{◌≡◌, Bool, List, [], ◌∷◌, ℕ, leb, length, Result, Ok, Err, ⊤}
use Rattle.std.proofs.Math.Option.{Option, none, some}
use Rattle.meaning.specs.declared.Refusal.{Refusal}
use Rattle.meaning.specs.declared.Refusal.TheVariants.{BadStrings, BadValues, BadPoints, BadNodes, OutputTooShort}
use Rattle.meaning.specs.Tests.{◌and◌, choose, first_broken, all_below}
use Rattle.meaning.specs.Case.{strings, points, nodes}
use Rattle.meaning.specs.Check.{string_rules, value_rules, point_rules, node_rules}
use Rattle.encode.specs.Unsorted.{in_text, finished}
use Rattle.encode.specs.Write.{point_marks, node_marks, make_refusal, room_after, later_refusal, write_refusal, output_after, over}

-- ---- the call

-- how many bytes were written, or the refusal
unfoldable pub written_as : ℕ → Option Refusal → Result ℕ Refusal
written_as size none = Ok size
written_as size (some r) = Err r

pub record Writes (s marks room room_left output output_left : List ℕ) (r : Result ℕ Refusal) : Type 0 where
  pub is : r ≡ written_as (length (finished s marks)) (write_refusal s marks room output)
  pub holds : room_left ≡ room_after s marks room (make_refusal s marks room)
  pub gives : output_left ≡ output_after s marks room output (write_refusal s marks room output)

-- ---- its parts

unfoldable pub against_as : Option Refusal → Result ⊤ Refusal
against_as none = Ok tt
against_as (some r) = Err r

-- places used against their marks, in a case whose rules for points hold and for nodes hold or not
unfoldable pub marks_refusal : List ℕ → List ℕ → Bool → Option Refusal
marks_refusal marks f pass =
    first_broken (
    (all_below (points f) (point_marks f marks), BadPoints)
    ∷ (pass and all_below (nodes f) (node_marks f marks), BadNodes)
    ∷ []
    )

-- 3 to 6 of the case f made of s
unfoldable pub case_refusal : List ℕ → List ℕ → List ℕ → Option Refusal
case_refusal s marks f =
    first_broken (
    (all_below (strings s) (in_text s) and string_rules f, BadStrings)
    ∷ (value_rules f, BadValues)
    ∷ (point_rules f and all_below (points f) (point_marks f marks), BadPoints)
    ∷ (node_rules f and all_below (nodes f) (node_marks f marks), BadNodes)
    ∷ []
    )

-- a case written over the output, if it fits
pub record WritesOut (f output after : List ℕ) (r : Result ℕ Refusal) : Type 0 where
  pub is : r ≡ choose (leb (length f) (length output)) (Ok (length f)) (Err OutputTooShort)
  pub gives : after ≡ choose (leb (length f) (length output)) (over f output) output

-- the finished case checked, then written; the room is as it was
pub record WritesChecked (s marks output after : List ℕ) (r : Result ℕ Refusal) : Type 0 where
  pub is : r ≡ written_as (length (finished s marks)) (later_refusal s marks [] output)
  pub gives : after ≡ output_after s marks [] output (later_refusal s marks [] output)
