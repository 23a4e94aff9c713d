use Rattle.std.proofs.Common.{rules}
use Rattle.marking.proofs.Rules.{point-then, point-else}
use Rattle.marking.proofs.point_marks.Goals as goal

pub returns-then-word_run : goal.returns-then-word_run
returns-then-word_run c = search (point-then, rules)

pub returns-else-word_run : goal.returns-else-word_run
returns-else-word_run c = search (point-else, rules)
