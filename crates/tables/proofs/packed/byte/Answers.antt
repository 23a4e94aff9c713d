use Rattle.std.proofs.Common.{rules}
use lib.ListN.{get_or-eq_default}
use Rattle.tables.proofs.packed.byte.Goals as goal

pub returns-then-list-i : goal.returns-then-list-i
returns-then-list-i c = search (get_or-eq_default, rules)
