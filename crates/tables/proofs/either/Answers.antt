-- `either` says a or b
use mathlib.Core.Path.{◌≡◌, ◌∙◌}
use mathlib.Core.Bool.{Bool, true, false}
use Rattle.meaning.specs.Tests.{◌or◌}
use Rattle.tables.proofs.either.Goals as goal

first : (a b : Bool) → a ≡ true → true ≡ (a or b)
unfolding ◌or◌
first a b e = rw e

second : (a b : Bool) → a ≡ false → b ≡ (a or b)
unfolding ◌or◌
second a b e = rw e

pub returns-then-a : goal.returns-then-a
returns-then-a c = c.if-a.true ∙ first _ _ c.if-a.true

pub returns-else-a : goal.returns-else-a
returns-else-a c = second _ _ c.if-a.false
