use Rattle.std.proofs.Common.{rules}
use Rattle.jsonlines.proofs.Lines.{log-start, log-done, end-within, end-from, line-room, log-long, place-within, first-within, log_bad, log-last, log-on, log-less}
use Rattle.jsonlines.proofs.events.log_at.Goals as goal

pub loop-at-init : goal.loop-at-init
loop-at-init c = search (log-start, rules)

pub slice_bounds-line_at-start : goal.slice_bounds-line_at-start
slice_bounds-line_at-start c = search (end-from, rules)

pub slice_bounds-line_at-end : goal.slice_bounds-line_at-end
slice_bounds-line_at-end c = search (end-within, rules)

pub line_at-requires : goal.line_at-requires
line_at-requires c = search (line-room, rules)

pub placed-requires : goal.placed-requires
placed-requires c = record { p_in_bounds = search (place-within, rules); q_in_bounds = search (first-within, rules) }

pub shape_of-names-in-Err : goal.shape_of-names-in-Err
shape_of-names-in-Err c = search (log-long, rules)

pub returns-in-Err : goal.returns-in-Err
returns-in-Err c = search (log_bad, rules)

pub shape_of-names-then-text-end : goal.shape_of-names-then-text-end
shape_of-names-then-text-end c = search (log-long, rules)

pub returns-then-text-end : goal.returns-then-text-end
returns-then-text-end c = search (log-last, rules)

pub loop-at-smaller : goal.loop-at-smaller
loop-at-smaller c = search (log-less, rules)

pub loop-at-preserved : goal.loop-at-preserved
loop-at-preserved c = search (log-on, rules)

pub returns : goal.returns
returns c = search (log-done, rules)
