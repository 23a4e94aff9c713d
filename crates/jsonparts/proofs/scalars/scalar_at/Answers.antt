use Rattle.std.proofs.Common.{rules}
use Rattle.jsonparts.proofs.Flat.{scalar-end, scalar-string, scalar-true, scalar-false, scalar_null, scalar-number, scalar-none}
use Rattle.jsonparts.proofs.scalars.scalar_at.Goals as goal

pub returns-then-line-at : goal.returns-then-line-at
returns-then-line-at c = search (scalar-end, rules)

pub returns-in-34 : goal.returns-in-34
returns-in-34 c = search (scalar-string, rules)

pub returns-in-116 : goal.returns-in-116
returns-in-116 c = search (scalar-true, rules)

pub returns-in-102 : goal.returns-in-102
returns-in-102 c = search (scalar-false, rules)

pub returns-in-110 : goal.returns-in-110
returns-in-110 c = search (scalar_null, rules)

pub returns-in_default : goal.returns-in_default
returns-in_default c = search (scalar-number, rules)

pub returns-in_default-2 : goal.returns-in_default-2
returns-in_default-2 c = rw c.new-in_default-2.ensures (search (scalar-none, rules))
