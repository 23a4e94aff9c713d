use Rattle.std.proofs.Common.{rules}
use Rattle.jsonsizes.specs.Laws.Items.{entry-is}
use Rattle.jsonsizes.proofs.counted.Goals as goal

pub returns : goal.returns
returns c = search (entry-is, rules)
