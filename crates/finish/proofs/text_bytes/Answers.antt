use Rattle.std.proofs.Common.{rules}
use Rattle.finish.proofs.Parts.{counting_none, counting_more, counting_all}
use Rattle.finish.proofs.text_bytes.Goals as goal

pub loop-i-init : goal.loop-i-init
loop-i-init c = search (counting_none, rules)

pub loop-i-preserved : goal.loop-i-preserved
loop-i-preserved c = search (counting_more, rules)

pub returns : goal.returns
returns c = search (counting_all, rules)
