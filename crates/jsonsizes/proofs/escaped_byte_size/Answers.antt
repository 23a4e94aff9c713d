use Rattle.std.proofs.Common.{rules}
use Rattle.jsonsizes.specs.Laws.Leaves.{control-size, marked-size, itself-size}
use Rattle.jsonsizes.proofs.escaped_byte_size.Goals as goal

pub returns-then-c-lt32 : goal.returns-then-c-lt32
returns-then-c-lt32 c = search (control-size, rules)

pub returns-then-is_marked : goal.returns-then-is_marked
returns-then-is_marked c = search (marked-size, rules)

pub returns-else-is_marked : goal.returns-else-is_marked
returns-else-is_marked c = search (itself-size, rules)
