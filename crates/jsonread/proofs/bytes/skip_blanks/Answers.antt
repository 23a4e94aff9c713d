use Rattle.std.proofs.Common.{rules}
use Rattle.jsonread.proofs.Due.{skip-start, skip-end, skip-more, skip_stop}
use Rattle.jsonread.proofs.bytes.skip_blanks.Goals as goal

pub loop-i-init : goal.loop-i-init
loop-i-init c = search (skip-start, rules)

pub returns-then-not-is_blank : goal.returns-then-not-is_blank
returns-then-not-is_blank c = search (skip_stop, rules)

pub loop-i-preserved : goal.loop-i-preserved
loop-i-preserved c = search (skip-more, rules)

pub returns : goal.returns
returns c = search (skip-end, rules)
