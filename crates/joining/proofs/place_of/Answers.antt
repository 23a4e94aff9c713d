use Rattle.joining.proofs.Rules.{half-under, between-all, between-up, between-down, between-one}
use Rattle.std.proofs.Common.{rules}
use Rattle.joining.proofs.place_of.Goals as goal

pub loop-low-init : goal.loop-low-init
loop-low-init c = search (between-all, rules)

pub loop-low-preserved-then-is_before : goal.loop-low-preserved-then-is_before
loop-low-preserved-then-is_before c = search (between-up, half-under, rules)

pub loop-low-preserved : goal.loop-low-preserved
loop-low-preserved c = search (between-down, half-under, rules)

pub returns : goal.returns
returns c = search (between-one, rules)
