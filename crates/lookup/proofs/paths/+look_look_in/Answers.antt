use Rattle.std.proofs.Common.{rules}
use Rattle.laws.specs.Checked.{checked-bodies}
use Rattle.lookup.proofs.Searching.{sought_end, sought_known, sought_same, sought_none, ready, look_in_falls, look-falls, seeking_start, seeking_skip, seeking_found, seeking_nothing, seeking_over}
use Rattle.lookup.proofs.paths.+look_look_in.Goals as goal

pub look-returns-then-from-wide : goal.look-returns-then-from-wide
look-returns-then-from-wide t c = search (sought_end, rules)

pub look-returns-then-known : goal.look-returns-then-known
look-returns-then-known t c = search (sought_known, rules)

pub look-look_in-requires : goal.look-look_in-requires
look-look_in-requires t c = (search (look_in_falls, rules), search (ready, rules))

pub look-note-requires-clause-missed : goal.look-note-requires-clause-missed
look-note-requires-clause-missed t c = search (sought_none, rules)

pub look-returns-in-Some : goal.look-returns-in-Some
look-returns-in-Some t c = search (sought_same, rules)

pub look_in-loop-m-init : goal.look_in-loop-m-init
look_in-loop-m-init t c = (search (seeking_start, rules), search rules)

pub look_in-member_word-requires : goal.look_in-member_word-requires
look_in-member_word-requires t c = search (checked-bodies, rules)

pub look_in-loop-m-preserved-then-k-eq0 : goal.look_in-loop-m-preserved-then-k-eq0
look_in-loop-m-preserved-then-k-eq0 t c = (search (seeking_skip, rules), search rules)

pub look_in-member_word-requires-in-loop-m : goal.look_in-member_word-requires-in-loop-m
look_in-member_word-requires-in-loop-m t c = search (checked-bodies, rules)

pub look_in-look-requires : goal.look_in-look-requires
look_in-look-requires t c = (search (look-falls, rules), (search rules, (search rules, search rules)))

pub look_in-returns-in-Some : goal.look_in-returns-in-Some
look_in-returns-in-Some t c = search (seeking_found, rules)

pub look_in-loop-m-preserved : goal.look_in-loop-m-preserved
look_in-loop-m-preserved t c = (search (seeking_nothing, rules), search rules)

pub look_in-returns : goal.look_in-returns
look_in-returns t c = search (seeking_over, rules)
