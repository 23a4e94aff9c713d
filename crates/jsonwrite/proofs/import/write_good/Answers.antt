use Rattle.std.proofs.Common.{rules}
use lib.Seq.{length-take-le}
use Rattle.jsonwrite.proofs.Sizes.{few}
use Rattle.jsonwrite.proofs.Calls.{good-large, good-short, good-unmarked, trace-due, good-written}
use Rattle.jsonwrite.proofs.import.write_good.Goals as goal

pub bodies_of-b-requires : goal.bodies_of-b-requires
bodies_of-b-requires c = search (few, rules)

pub returns-then-total-gt-LONGEST : goal.returns-then-total-gt-LONGEST
returns-then-total-gt-LONGEST c = search (good-large, rules)

pub returns-then-file-total : goal.returns-then-file-total
returns-then-file-total c = search (good-short, rules)

pub returns-then-marks-c : goal.returns-then-marks-c
returns-then-marks-c c = search (good-unmarked, rules)

pub slice_bounds-put_trace-end-2 : goal.slice_bounds-put_trace-end-2
slice_bounds-put_trace-end-2 c = search (length-take-le, rules)

pub put_trace-requires : goal.put_trace-requires
put_trace-requires c = search (trace-due, rules)

pub returns : goal.returns
returns c = search (good-written, rules)
