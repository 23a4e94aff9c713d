use Rattle.std.proofs.Common.{rules}
use Rattle.jsonexport.specs.Call.{export_refused, export_passed, export_checked}
use Rattle.jsonexport.proofs.export.Goals as goal

pub export_checked-requires : goal.export_checked-requires
export_checked-requires c = search (export_checked, rules)

pub returns-in-Ok : goal.returns-in-Ok
returns-in-Ok c = search (export_passed, rules)

pub returns-in-Err : goal.returns-in-Err
returns-in-Err c = search (export_refused, rules)
