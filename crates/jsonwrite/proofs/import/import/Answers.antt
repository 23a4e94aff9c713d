use Rattle.std.proofs.Common.{rules}
use lib.Seq.{length-take-le}
use Rattle.jsonwrite.proofs.Calls.{import_cells_lem, import_limited, import_told}
use Rattle.jsonwrite.proofs.import.import.Goals as goal

pub returns-then-workspace-n : goal.returns-then-workspace-n
returns-then-workspace-n c = search (import_limited, rules)

pub slice_bounds-read_text-end-2 : goal.slice_bounds-read_text-end-2
slice_bounds-read_text-end-2 c = search (length-take-le, rules)

pub read_text-r-requires : goal.read_text-r-requires
read_text-r-requires c = search (import_cells_lem, rules)

pub returns : goal.returns
returns c = search (import_told, rules)
