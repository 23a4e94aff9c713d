-- What the program asks of a file and at a point, or what it refuses a file with
use Rattle.std.specs.Prelude.{List, ℕ, ◌-◌, ◌*◌, eqb, ltb, length, replicate, Result, Ok, Err}
use Rattle.std.proofs.Math.Option.{Option, none, some}
use Rattle.meaning.specs.declared.Refusal.{Refusal}
use Rattle.meaning.specs.declared.Refusal.TheVariants.{TooLarge, NoSuchNode}
use Rattle.meaning.specs.Tests.{choose}
use Rattle.meaning.specs.Case.{nodes, points, vars, node_at}
use Rattle.meaning.specs.Check.{check}
use Rattle.meaning.specs.Calls.{Call, answerable}
use Rattle.calls.specs.Promises.{call_of}
use Rattle.bench.specs.declared.plan.Asking.{Asking}

-- what is asked, or why nothing is
abbrev pub Plan : Type 0
Plan = Result Asking Refusal

-- the last node, at every point
abbrev pub asking_of : List ℕ → Asking
asking_of s = record { node = record { 0 = nodes s - 1 }; points = points s; vars = vars s }

-- no last node, or a term, is refused
unfoldable pub plan_checked : List ℕ → Plan
plan_checked s =
    choose (eqb (nodes s) 0) (Err NoSuchNode)
    (choose (answerable (node_at s (nodes s - 1))) (Ok (asking_of s)) (Err NoSuchNode))

unfoldable pub plan_after : Option Refusal → List ℕ → Plan
plan_after none s = plan_checked s
plan_after (some n) s = Err n

unfoldable pub plan_of : List ℕ → Plan
plan_of s = choose (ltb 65536 (length s)) (Err TooLarge) (plan_after (check s) s)

-- the question at a point: the last node, all variables unbound, 1,000,000 steps, room 256
abbrev pub question_at : List ℕ → ℕ → List ℕ → Call
question_at s point work = call_of s point (nodes s - 1) (replicate (2 * vars s) 0) (record { steps = 1000000; room = 256 }) work
