use Rattle.std.proofs.Common.{rules}
use Rattle.jsonread.proofs.Firsts.{instead_begins, instead_none}
use Rattle.jsonread.proofs.begins.instead.Goals as goal

pub returns-then-is_first : goal.returns-then-is_first
returns-then-is_first c = search (instead_begins, rules)

pub returns-else-is_first : goal.returns-else-is_first
returns-else-is_first c = search (instead_none, rules)
