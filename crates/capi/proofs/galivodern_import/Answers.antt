use Rattle.std.proofs.Common.{rules}
use Rattle.capi.proofs.Logs.{unimported, import_told}
use Rattle.capi.proofs.galivodern_import.Goals as goal

pub returns-then-told-lt-IMPORTED_CELLS : goal.returns-then-told-lt-IMPORTED_CELLS
returns-then-told-lt-IMPORTED_CELLS c = search (unimported, rules)

pub returns : goal.returns
returns c = search (import_told, rules)
