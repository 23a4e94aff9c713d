-- What is against a call of a checked case, and what its walk starts with where nothing is
use Rattle.std.specs.Prelude.{◌≡◌, Bool, ℕ, ◌*◌, ◌≤◌, ◌<◌, leb, length, take, Result, Ok, Err}
use Rattle.std.proofs.Math.Option.{Option, none, some}
use Rattle.meaning.specs.declared.Env.{Env}
use Rattle.meaning.specs.declared.Limits.{Limits}
use Rattle.meaning.specs.declared.Node.{Node}
use Rattle.meaning.specs.declared.Refusal.{Refusal}
use Rattle.meaning.specs.Tests.{◌and◌}
use Rattle.meaning.specs.Walk.{started}
use Rattle.meaning.specs.Case.{vars}
use Rattle.meaning.specs.Rows.{row_of}
use Rattle.meaning.specs.Calls.{Call, start_row, start_or, is_condition, answerable, against}
use Rattle.meaning.specs.Carried.{looks_back}
use Rattle.evaluator.specs.declared.Call.{Call as WalkCall}
use Rattle.evaluator.specs.Asks.{Ready}
use Rattle.opening.specs.declared.Wanted.{Wanted}
use Rattle.opening.specs.declared.Wanted.TheVariants.{Answerable, Condition, LooksBack}
use Rattle.opening.specs.declared.Opening.{Opening}

unfoldable pub wanted_for : Wanted → Node → Bool
wanted_for Answerable = answerable
wanted_for Condition = is_condition
wanted_for LooksBack = looks_back

-- the definition's test of limits, by the numbers that it reads: variables, limits, cells of the workspace
abbrev pub in_limits : ℕ → Limits → ℕ → Bool
in_limits v limits cells = leb limits.steps 1000000000 and leb limits.room 16384 and leb (2 * v * limits.room) cells

unfoldable pub refusal_in : Result Opening Refusal → Option Refusal
refusal_in (Ok o) = none
refusal_in (Err n) = some n

-- the environment holds the starting bindings, the call is as asked, and the workspace has room
pub record Opened (c : Call) (o : Opening) : Type 0 where
  pub bindings : row_of o.env ≡ start_or (start_row c.file (vars c.file) c.start)
  pub call : o.call ≡ record { limits = c.limits; vars = vars c.file; asked = c.point }
  pub point : o.call.asked < 16384
  pub cells : o.cells ≡ 2 * vars c.file * c.limits.room
  pub fits : o.cells ≤ length c.workspace
  pub ready : Ready c.file o.call o.env started (take o.cells c.workspace)

abbrev pub OpenedBy : Call → Result Opening Refusal → Type 0
OpenedBy c (Ok o) = Opened c o
OpenedBy c (Err n) = Unit {0}

pub record Opens (wanted : Node → Bool) (c : Call) (r : Result Opening Refusal) : Type 0 where
  pub is : refusal_in r ≡ against wanted c
  pub opened : OpenedBy c r
