use Rattle.std.proofs.Common.{rules}
use Rattle.carried.proofs.Downs.{downs_start, downs_none, downs_room, downs_outside, downs_passes, downs_carries, downs_refused, downs_fails}
use Rattle.carried.proofs.Asked.{whole}
use Rattle.evaluator.proofs.Walks.{passed}
use Rattle.carried.proofs.scans.scan_down.Goals as goal

pub time_at-here-requires : goal.time_at-here-requires
time_at-here-requires c = search (whole, rules)

pub loop-j-init : goal.loop-j-init
loop-j-init c = search (downs_start, rules)

pub time_at-then-requires : goal.time_at-then-requires
time_at-then-requires c = search (whole, rules)

pub loop-j-preserved-in-Passes : goal.loop-j-preserved-in-Passes
loop-j-preserved-in-Passes c = search (downs_passes, c.in_ok-turn-in-Inside.was, rules)

pub returns-in-Carries : goal.returns-in-Carries
returns-in-Carries c = search (downs_carries, c.in_ok-turn-in-Inside.was, rules)

pub put_two-requires : goal.put_two-requires
put_two-requires c = search (downs_room, rules)

pub loop-j-preserved-in-Fails : goal.loop-j-preserved-in-Fails
loop-j-preserved-in-Fails c = search (downs_fails, c.in_ok-turn-in-Inside.was, rules)

pub returns-in_err-turn-in-Inside : goal.returns-in_err-turn-in-Inside
returns-in_err-turn-in-Inside c = rw (passed _ c.from_residual.ensures) (search (downs_refused, c.in_err-turn-in-Inside.was, rules))

pub loop-j-preserved : goal.loop-j-preserved
loop-j-preserved c = search (downs_outside, rules)

pub returns : goal.returns
returns c = search (downs_none, rules)
