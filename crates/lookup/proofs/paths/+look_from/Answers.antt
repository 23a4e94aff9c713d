use Rattle.std.proofs.Common.{rules}
use Rattle.laws.specs.Checked.{checked-bodies}
use Rattle.lookup.proofs.Reach.{bound-so}
use Rattle.lookup.proofs.Searching.{from_end, from-string, from_found, from-none}
use Rattle.lookup.proofs.paths.+look_from.Goals as goal

pub returns-then-from-wide : goal.returns-then-from-wide
returns-then-from-wide t c = search (from_end, rules)

pub list_at-requires : goal.list_at-requires
list_at-requires t c = search (checked-bodies, rules)

pub may_join-requires : goal.may_join-requires
may_join-requires t c = search (from-string, rules)

pub returns-then-may_join : goal.returns-then-may_join
returns-then-may_join t c = search (bound-so, rules)

pub look_from-requires : goal.look_from-requires
look_from-requires t c = (search rules, (search rules, (search rules, search rules)))

pub returns-in-Some : goal.returns-in-Some
returns-in-Some t c = search (from_found, rules)

pub returns-in-None : goal.returns-in-None
returns-in-None t c = search (from-none, rules)
