use Rattle.std.proofs.Common.{rules}
use Rattle.jsoncheck.proofs.Cells.{part-long, part_room, checked}
use Rattle.jsoncheck.proofs.check_log.Goals as goal

pub slice_bounds-log_at-end-2 : goal.slice_bounds-log_at-end-2
slice_bounds-log_at-end-2 c = search (part-long, rules)

pub log_at-r-requires : goal.log_at-r-requires
log_at-r-requires c = search (part_room, rules)

pub returns : goal.returns
returns c = search (checked, rules)
