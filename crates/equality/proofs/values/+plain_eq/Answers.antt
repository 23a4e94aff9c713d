use Rattle.std.proofs.Common.{rules}
use Rattle.laws.specs.Checked.{checked-bodies}
use Rattle.equality.proofs.Alike.{look-said, look-start, look-whole, look-spent, look-falls, look-name, look-same, look-differ, look-no, look-more, look-end}
use Rattle.equality.proofs.values.+plain_eq.Goals as goal

pub returns-in-Break : goal.returns-in-Break
returns-in-Break t c = search (look-said, rules)

pub returns-then-left-n : goal.returns-then-left-n
returns-then-left-n t c = search (look-whole, rules)

pub loop-i-init : goal.loop-i-init
loop-i-init t c = search (look-start, rules)

pub pair-requires : goal.pair-requires
pair-requires t c = search (checked-bodies, rules)

pub returns-in_default : goal.returns-in_default
returns-in_default t c = search (look-name, rules)

pub loop-i-preserved-in-Some-true : goal.loop-i-preserved-in-Some-true
loop-i-preserved-in-Some-true t c = search (look-same, rules)

pub returns-in-Some-false : goal.returns-in-Some-false
returns-in-Some-false t c = search (look-differ, rules)

pub plain_eq-r-requires : goal.plain_eq-r-requires
plain_eq-r-requires t c = search (look-falls, rules)

pub returns-then-left-eq0 : goal.returns-then-left-eq0
returns-then-left-eq0 t c = search (look-spent, rules)

pub returns-then-not-r : goal.returns-then-not-r
returns-then-not-r t c = search (look-no, rules)

pub loop-i-preserved : goal.loop-i-preserved
loop-i-preserved t c = search (look-more, rules)

pub returns : goal.returns
returns t c = search (look-end, rules)
