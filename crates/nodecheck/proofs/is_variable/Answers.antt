-- A variable's number is below their count
use mathlib.Core.Path.{refl}
use Rattle.nodecheck.proofs.is_variable.Goals as goal

pub returns : goal.returns
returns c = rw c.var_count.ensures refl
