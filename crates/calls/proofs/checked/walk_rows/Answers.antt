use Rattle.std.proofs.Common.{rules}
use Rattle.calls.proofs.Asked.{ready-started}
use Rattle.calls.proofs.RowsAsked.{part-fit, held_in, rows-given, rows-stopped}
use Rattle.evaluator.proofs.Walks.{passed}
use Rattle.calls.proofs.checked.walk_rows.Goals as goal

pub match_occurrences-requires : goal.match_occurrences-requires
match_occurrences-requires c = search (ready-started, rules)

pub give_rows-requires-clause-fit : goal.give_rows-requires-clause-fit
give_rows-requires-clause-fit c = (search (part-fit, rules), search (held_in, c.in_ok-m.was, rules))

pub returns : goal.returns
returns c = search (rows-given, c.in_ok-m.was, rules)

pub returns-in_err-m : goal.returns-in_err-m
returns-in_err-m c = rw (passed _ c.from_residual.ensures) (search (rows-stopped, c.in_err-m.was, rules))
