-- An item of a run of entities: its own rule, and that it comes after the one before
use Rattle.std.proofs.Common.{arith}
use Rattle.std.proofs.lemmas.Bool.Decides.{nat_tests}
use Rattle.meaning.specs.Tests.{◌and◌}
use Rattle.meaning.specs.Check.{entity_item}
use Rattle.stringcheck.specs.Ranges.{rises-is}
use Rattle.pointcheck.proofs.entity_item.Goals as goal

pub returns-else-entity_rule : goal.returns-else-entity_rule
unfolding entity_item ◌and◌
returns-else-entity_rule c = grind (arith, nat_tests, rises-is)

pub returns-then-i-eq0 : goal.returns-then-i-eq0
unfolding entity_item ◌and◌
returns-then-i-eq0 c = grind (arith, nat_tests, rises-is)

pub returns-else-i-eq0 : goal.returns-else-i-eq0
unfolding entity_item ◌and◌
returns-else-i-eq0 c = grind (arith, nat_tests, rises-is)
