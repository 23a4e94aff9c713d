use Rattle.std.proofs.Common.{rules}
use Rattle.jsonsizes.specs.Laws.Leaves.{null_plain, truth_plain, int-plain}
use Rattle.jsonsizes.proofs.plain_size.Goals as goal

pub returns-then-kind-lt1 : goal.returns-then-kind-lt1
returns-then-kind-lt1 c = search (null_plain, rules)

pub returns-then-kind-lt2 : goal.returns-then-kind-lt2
returns-then-kind-lt2 c = search (truth_plain, rules)

pub returns : goal.returns
returns c = search (int-plain, rules)
