use Rattle.std.proofs.Common.{rules}
use Rattle.finish.proofs.Parts.{placing_none, strings-more, strings-all}
use Rattle.finish.proofs.put_strings.Goals as goal

pub loop-i-init : goal.loop-i-init
loop-i-init c = search (placing_none, rules)

pub loop-i-preserved : goal.loop-i-preserved
loop-i-preserved c = search (strings-more, rules)

pub returns : goal.returns
returns c = search (strings-all, rules)
