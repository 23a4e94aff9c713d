use Rattle.std.proofs.Common.{rules}
use Rattle.jsonclear.specs.Laws.Points.{point-no, point-run, run_fits, run-few}
use Rattle.laws.specs.Checked.{checked-bodies}
use Rattle.jsonclear.proofs.point_clear.Goals as goal

pub returns-then-not-fields_clear : goal.returns-then-not-fields_clear
returns-then-not-fields_clear c = search (point-no, rules)

pub point_word-first-requires : goal.point_word-first-requires
point_word-first-requires c = search (checked-bodies, rules)

pub point_word-items-requires : goal.point_word-items-requires
point_word-items-requires c = search (checked-bodies, rules)

pub run_clear-requires-clause-bound : goal.run_clear-requires-clause-bound
run_clear-requires-clause-bound c = search (run_fits, rules)

pub run_clear-requires-clause-bound_2 : goal.run_clear-requires-clause-bound_2
run_clear-requires-clause-bound_2 c = search (run-few, rules)

pub returns : goal.returns
returns c = search (point-run, rules)
