use Rattle.std.proofs.Common.{rules}
use Rattle.making.proofs.Rules.{tables-not, tables-as}
use Rattle.making.proofs.has_tables.Goals as goal

pub returns-then-check_bodies : goal.returns-then-check_bodies
returns-then-check_bodies c = search (tables-as, rules)

pub returns-else-check_bodies : goal.returns-else-check_bodies
returns-else-check_bodies c = search (tables-not, rules)
