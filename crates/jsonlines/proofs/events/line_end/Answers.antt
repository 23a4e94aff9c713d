use Rattle.std.proofs.Common.{rules}
use Rattle.jsonlines.proofs.Lines.{end-start, end-stop, end_more, end_none}
use Rattle.jsonlines.proofs.events.line_end.Goals as goal

pub loop-i-init : goal.loop-i-init
loop-i-init c = search (end-start, rules)

pub returns-then-text-i-eq10 : goal.returns-then-text-i-eq10
returns-then-text-i-eq10 c = search (end-stop, rules)

pub loop-i-preserved : goal.loop-i-preserved
loop-i-preserved c = search (end_more, rules)

pub returns : goal.returns
returns c = search (end_none, rules)
