use Rattle.std.proofs.Common.{rules}
use Rattle.jsonread.proofs.Spelling.{alike-start, alike-below, alike-more}
use Rattle.jsonread.proofs.names.same_bytes.Goals as goal

pub loop-k-init : goal.loop-k-init
loop-k-init c = search (alike-start, rules)

pub loop-k-smaller : goal.loop-k-smaller
loop-k-smaller c = search (alike-below, rules)

pub loop-k-preserved : goal.loop-k-preserved
loop-k-preserved c = search (alike-more, rules)
