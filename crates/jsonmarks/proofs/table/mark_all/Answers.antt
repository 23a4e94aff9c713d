use Rattle.std.proofs.Common.{rules}
use Rattle.jsonmarks.proofs.Sets.{all_start, all-cell, all-due, all-on, all_past, all_done}
use Rattle.jsonmarks.proofs.table.mark_all.Goals as goal
use Rattle.jsonmarks.proofs.table.mark_all.Goals.{then-at-line, else-at-line}

pub loop-k-init : goal.loop-k-init
loop-k-init c = search (all_start, rules)

pub bounds-names-k : goal.bounds-names-k
bounds-names-k c = search (all-cell, rules)

pub mark-requires : goal.mark-requires
mark-requires c = search (all-due, rules)

pub loop-k-preserved : goal.loop-k-preserved
loop-k-preserved c = elim c.if-at-line.branch [ then-at-line w ↦ rw w.names-is (search (all-on, rules)) | else-at-line w ↦ rw w.names-is (search (all_past, rules)) ]

pub returns : goal.returns
returns c = search (all_done, rules)
