-- The environment that starting bindings are read into
use Rattle.std.specs.Prelude.{◌≡◌, List, ℕ, Option as Answer, Some, None}
use Rattle.std.proofs.Math.Option.{none, some}
use Rattle.meaning.specs.declared.Env.{Env}
use Rattle.meaning.specs.Case.{vars}
use Rattle.meaning.specs.Rows.{row_of}
use Rattle.meaning.specs.Calls.{start_row}
use Rattle.rows.specs.Slots.{Sized}

-- the cells' row
pub record Reads (s start : List ℕ) (env : Env) : Type 0 where
  pub is : some (row_of env) ≡ start_row s (vars s) start
  pub sized : Sized env
  pub count : env.count ≡ vars s

abbrev pub StartsBy : List ℕ → List ℕ → Answer Env → Type 0
StartsBy s start (Some env) = Reads s start env
StartsBy s start None = none ≡ start_row s (vars s) start

-- an environment, if the cells are well formed and just so many
pub record Starts (s start : List ℕ) (r : Answer Env) : Type 0 where
  pub says : StartsBy s start r
