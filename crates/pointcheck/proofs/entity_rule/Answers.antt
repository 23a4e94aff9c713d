-- An entity: type, id and attributes
use Rattle.std.proofs.Common.{arith}
use Rattle.std.proofs.lemmas.Bool.Decides.{nat_tests}
use Rattle.meaning.specs.Tests.{◌and◌}
use Rattle.meaning.specs.Check.{entity_rule}
use Rattle.pointcheck.proofs.entity_rule.Goals as goal

pub returns-then-list_at-string_count : goal.returns-then-list_at-string_count
unfolding entity_rule ◌and◌
returns-then-list_at-string_count c = grind (arith, nat_tests)

pub returns-else-list_at-string_count : goal.returns-else-list_at-string_count
unfolding entity_rule ◌and◌
returns-else-list_at-string_count c = grind (arith, nat_tests)
