use Rattle.std.proofs.Common.{rules}
use Rattle.laws.specs.Checked.{checked-bodies}
use Rattle.lookup.proofs.Reach.{event-action, event-kind, event-runs}
use Rattle.lookup.proofs.paths.same_event.Goals.{then-action-point_word-via-then-action-point_word, then-action-point_word-via-else-action-point_word+then-kind-point_word}
use Rattle.lookup.proofs.paths.same_event.Goals as goal

pub point_word-requires : goal.point_word-requires
point_word-requires c = search (checked-bodies, rules)

pub point_word-requires-else-action-point_word : goal.point_word-requires-else-action-point_word
point_word-requires-else-action-point_word c = search (checked-bodies, rules)

pub returns-then-action-point_word : goal.returns-then-action-point_word
returns-then-action-point_word c = elim c.then-action-point_word.branch [
  | then-action-point_word-via-then-action-point_word w ↦ search (event-action, rules)
  | then-action-point_word-via-else-action-point_word+then-kind-point_word w ↦ search (event-kind, rules)
]

pub point_word-requires-2 : goal.point_word-requires-2
point_word-requires-2 c = search (checked-bodies, rules)

pub point_word-requires-3 : goal.point_word-requires-3
point_word-requires-3 c = search (checked-bodies, rules)

pub same_runs-requires : goal.same_runs-requires
same_runs-requires c = search (checked-bodies, rules)

pub returns : goal.returns
returns c = search (event-runs, rules)
