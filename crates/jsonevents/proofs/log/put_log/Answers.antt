use Rattle.std.proofs.Common.{rules}
use Rattle.jsonlines.proofs.Lines.{end-within, end-from}
use Rattle.jsonpieces.proofs.Logs.{log-starts, log-line, log-fit, log-again, log-falls, log-written, log-names, log-out, log-marks}
use Rattle.jsonevents.proofs.log.put_log.Goals as goal

pub loop-at-init : goal.loop-at-init
loop-at-init c = search (log-starts, rules)

pub slice_bounds-put_line-count : goal.slice_bounds-put_line-count
slice_bounds-put_line-count c = search (end-from, rules)

pub slice_bounds-put_line-start : goal.slice_bounds-put_line-start
slice_bounds-put_line-start c = search (end-from, rules)

pub slice_bounds-put_line-end : goal.slice_bounds-put_line-end
slice_bounds-put_line-end c = search (end-within, rules)

pub put_line-requires : goal.put_line-requires
put_line-requires c = search (log-line, rules)

pub overflow_add-at : goal.overflow_add-at
overflow_add-at c = search (log-fit, rules)

pub loop-at-smaller : goal.loop-at-smaller
loop-at-smaller c = search (log-falls, rules)

pub loop-at-preserved : goal.loop-at-preserved
loop-at-preserved c = search (log-again, rules)

pub shape_of-names : goal.shape_of-names
shape_of-names c = search (log-names, rules)

pub shape_of-out : goal.shape_of-out
shape_of-out c = search (log-out, rules)

pub shape_of-marks : goal.shape_of-marks
shape_of-marks c = search (log-marks, rules)

pub returns : goal.returns
returns c = search (log-written, rules)
