use Rattle.std.proofs.Common.{rules}
use Rattle.jsonspelt.proofs.Going.{going_start, going-quote, going-wrong, going-escape, going-plain, going_end, escape-shorter}
use Rattle.jsonspelt.proofs.spelt_at.Goals as goal

pub loop-i-init : goal.loop-i-init
loop-i-init c = search (going_start, rules)

pub returns-in-34 : goal.returns-in-34
returns-in-34 c = search (going-quote, rules)

pub returns-in_default-escape_at : goal.returns-in_default-escape_at
returns-in_default-escape_at c = search (going-wrong, rules)

pub loop-i-smaller-in-92 : goal.loop-i-smaller-in-92
loop-i-smaller-in-92 c = search (escape-shorter, rules)

pub loop-i-preserved-in-92 : goal.loop-i-preserved-in-92
loop-i-preserved-in-92 c = search (going-escape, rules)

pub loop-i-preserved : goal.loop-i-preserved
loop-i-preserved c = search (going-plain, rules)

pub returns : goal.returns
returns c = search (going_end, rules)
