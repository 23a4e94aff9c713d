use Rattle.std.proofs.Common.{rules}
use Rattle.capi.proofs.Seeing.{unasked, rows_told}
use Rattle.capi.proofs.galivodern_checked_rows.Goals as goal

pub returns-then-told-lt-TOLD_CELLS : goal.returns-then-told-lt-TOLD_CELLS
returns-then-told-lt-TOLD_CELLS c = search (unasked, rules)

pub returns : goal.returns
returns c = search (rows_told, rules)
