use Rattle.std.proofs.Common.{rules}
use Rattle.laws.specs.Tests.{passing-none, passing-no, passing-more, passing-all}
use Rattle.marking.proofs.strings_in_text.Goals as goal

pub loop-k-init : goal.loop-k-init
loop-k-init c = search (passing-none, rules)

pub returns-then-not-in_text : goal.returns-then-not-in_text
returns-then-not-in_text c = search (passing-no, rules)

pub loop-k-preserved : goal.loop-k-preserved
loop-k-preserved c = search (passing-more, rules)

pub returns : goal.returns
returns c = search (passing-all, rules)
