use Rattle.std.proofs.Common.{rules}
use Rattle.jsonlines.proofs.Lines.{end-within, end-from}
use Rattle.jsontotal.proofs.Totals.{total-start, total-done, line-good, total-on, end_fits, total-less}
use Rattle.jsontotal.proofs.lines.count_log.Goals as goal

pub loop-at-init : goal.loop-at-init
loop-at-init c = search (total-start, rules)

pub slice_bounds-count_line-count : goal.slice_bounds-count_line-count
slice_bounds-count_line-count c = search (end-from, rules)

pub slice_bounds-count_line-start : goal.slice_bounds-count_line-start
slice_bounds-count_line-start c = search (end-from, rules)

pub slice_bounds-count_line-end : goal.slice_bounds-count_line-end
slice_bounds-count_line-end c = search (end-within, rules)

pub count_line-requires : goal.count_line-requires
count_line-requires c = search (line-good, rules)

pub overflow_add-at : goal.overflow_add-at
overflow_add-at c = search (end_fits, rules)

pub loop-at-smaller : goal.loop-at-smaller
loop-at-smaller c = search (total-less, rules)

pub loop-at-preserved : goal.loop-at-preserved
loop-at-preserved c = search (total-on, rules)

pub returns : goal.returns
returns c = search (total-done, rules)
