use Rattle.std.proofs.Common.{rules}
use Rattle.jsonsizes.specs.Laws.Leaves.{digit-size, digits-size}
use Rattle.jsonsizes.proofs.+natural_size.Goals as goal

pub returns-then-n-lt10 : goal.returns-then-n-lt10
returns-then-n-lt10 t c = search (digit-size, rules)

pub returns-else-n-lt10 : goal.returns-else-n-lt10
returns-else-n-lt10 t c = search (digits-size, rules)
