-- `both` says a and b
use mathlib.Core.Path.{sym, ◌∙◌}
use Rattle.laws.specs.Tests.{stop, after}
use Rattle.tables.proofs.both.Goals as goal

pub returns-then-a : goal.returns-then-a
returns-then-a c = sym (after c.if-a.true)

pub returns-else-a : goal.returns-else-a
returns-else-a c = c.if-a.false ∙ sym (stop _ c.if-a.false)
