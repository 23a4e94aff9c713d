-- Demand 3 and later points: which calls are answered and with what, and which files a call cannot tell apart
use Rattle.std.specs.Prelude.{◌≡◌, Bool, true, List, ℕ, ◌+◌, ◌*◌, ◌≤◌, ◌<◌, length, take}
use Rattle.meaning.specs.declared.Limits.{Limits}
use Rattle.meaning.specs.declared.Node.{Node}
use Rattle.meaning.specs.Tests.{is_some}
use Rattle.meaning.specs.Walk.{W, spent, most}
use Rattle.meaning.specs.Case.{body, vars, points, nodes, node_at}
use Rattle.meaning.specs.Check.{Checked}
use Rattle.meaning.specs.Carried.{carried_call}
use Rattle.meaning.specs.Calls.{Call, Said, gives, refuses, start_row, ask_call, rows_call}

-- a checked case, a point and a wanted node in it, well-formed starting bindings, limits in range, a workspace long enough
pub record Askable (wanted : Node → Bool) (c : Call) : Type 0 where
  pub checked : Checked c.file
  pub point : c.point < points c.file
  pub node : c.node < nodes c.file
  pub one : wanted (node_at c.file c.node) ≡ true
  pub start : is_some (start_row c.file (vars c.file) c.start) ≡ true
  pub steps : c.limits.steps ≤ 1000000000
  pub room : c.limits.room ≤ 16384
  pub cells : 2 * vars c.file * c.limits.room ≤ length c.workspace

-- 11 and all steps of the limit, or 12 and all rows of the room; the other number as reached
pub data Exhausted (l : Limits) (number steps held : ℕ) : Type 0 where
  steps-out : number ≡ 11 → steps ≡ l.steps → held ≤ l.room → Exhausted l number steps held
  room_out : number ≡ 12 → held ≡ l.room → steps ≤ l.steps → Exhausted l number steps held

-- an answer is the walk's, with its numbers, which the limits reach; all else is 11 or 12
abbrev pub Tells : {A : Type 0} → Limits → W A → Said A → Type 0
Tells l w (gives a steps held) =
    (a ≡ w.answer) × (steps ≡ spent w) × (held ≡ most w) × (spent w ≤ l.steps) × (most w ≤ l.room)
Tells l w (refuses n steps held) = Exhausted l n steps held

-- ---- later points

-- V and every table but the points
pub record SameTables (s t : List ℕ) : Type 0 where
  pub vars : vars s ≡ vars t
  pub strings : body s 0 ≡ body t 0
  pub values : body s 1 ≡ body t 1
  pub members : body s 2 ≡ body t 2
  pub nodes : body s 4 ≡ body t 4
  pub lists : body s 5 ≡ body t 5
  pub text : body s 6 ≡ body t 6

-- the bytes of the points up to and including i
abbrev pub bytes_up_to : ℕ → ℕ
bytes_up_to i = 48 * (i + 1)

-- and the points up to and including i; what stands after point i in either file is free
pub record SameUpTo (i : ℕ) (s t : List ℕ) : Type 0 where
  pub others : SameTables s t
  pub here : i < points s
  pub there : i < points t
  pub points : take (bytes_up_to i) (body s 3) ≡ take (bytes_up_to i) (body t 3)

-- the same call of another file
unfoldable pub of_file : Call → List ℕ → Call
of_file c s = record { file = s; point = c.point; node = c.node; start = c.start; limits = c.limits; workspace = c.workspace }

-- the asking calls say the same of both files and leave the same workspace and output
abbrev pub SameAnswers : Call → List ℕ → List ℕ → Type 0
SameAnswers c s t =
    (ask_call (of_file c s) ≡ ask_call (of_file c t))
    × ((binders output : List ℕ) → rows_call binders output (of_file c s) ≡ rows_call binders output (of_file c t))
    × ((list : List ℕ) → carried_call list (of_file c s) ≡ carried_call list (of_file c t))
