use Rattle.std.proofs.Common.{rules}
use Rattle.laws.specs.Checked.{checked-bodies}
use Rattle.lookup.proofs.Searching.{plain_begins, plain-string, plain_on, plain-no, plain-yes}
use Rattle.lookup.proofs.paths.plain_path.Goals as goal

pub loop-i-init : goal.loop-i-init
loop-i-init c = search (plain_begins, rules)

pub list_at-requires : goal.list_at-requires
list_at-requires c = search (checked-bodies, rules)

pub may_join-requires : goal.may_join-requires
may_join-requires c = search (plain-string, rules)

pub returns-then-may_join : goal.returns-then-may_join
returns-then-may_join c = search (plain-no, rules)

pub loop-i-preserved : goal.loop-i-preserved
loop-i-preserved c = search (plain_on, rules)

pub returns : goal.returns
returns c = search (plain-yes, rules)
