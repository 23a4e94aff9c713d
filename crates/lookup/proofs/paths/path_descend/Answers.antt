use Rattle.std.proofs.Common.{rules}
use Rattle.laws.specs.Checked.{checked-bodies}
use Rattle.lookup.proofs.Reach.{descend-start, name-found, name-none, names-end}
use Rattle.lookup.proofs.paths.path_descend.Goals as goal

pub loop-i-init : goal.loop-i-init
loop-i-init c = search (descend-start, rules)

pub list_at-requires : goal.list_at-requires
list_at-requires c = search (checked-bodies, rules)

pub loop-i-preserved : goal.loop-i-preserved
loop-i-preserved c = search (name-found, rules)

pub returns-in_err-at : goal.returns-in_err-at
returns-in_err-at c = search (name-none, rules)

pub returns : goal.returns
returns c = search (names-end, rules)
