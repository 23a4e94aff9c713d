use Rattle.std.proofs.Common.{rules}
use Rattle.finish.proofs.Whole.{part-first, part-last, part-middle}
use Rattle.finish.proofs.part_size.Goals as goal

pub returns-in-0 : goal.returns-in-0
returns-in-0 c = search (part-first, rules)

pub returns-in-6 : goal.returns-in-6
returns-in-6 c = search (part-last, rules)

pub returns-in_default : goal.returns-in_default
returns-in_default c = search (part-middle, rules)
