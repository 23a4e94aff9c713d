use Rattle.std.proofs.Common.{rules}
use Rattle.jsonclear.specs.Laws.Points.{far-mark, mark-is}
use Rattle.jsonclear.proofs.is_clear.Goals as goal

pub returns-else-v-lt16384 : goal.returns-else-v-lt16384
returns-else-v-lt16384 c = search (far-mark, rules)

pub returns-then-v-lt16384 : goal.returns-then-v-lt16384
returns-then-v-lt16384 c = search (mark-is, rules)
