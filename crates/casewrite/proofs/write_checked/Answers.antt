use Rattle.std.proofs.Common.{rules}
use Rattle.casewrite.proofs.Rules.{finished-tables, checked_refused, checked-written}
use Rattle.casewrite.proofs.write_checked.Goals as goal

pub against_case-requires-clause-f_value : goal.against_case-requires-clause-f_value
against_case-requires-clause-f_value c = search (finished-tables, rules)

pub write_out-requires : goal.write_out-requires
write_out-requires c = search (finished-tables, rules)

pub returns-in-Err : goal.returns-in-Err
returns-in-Err c = search (checked_refused, rules)

pub returns-in-Ok : goal.returns-in-Ok
returns-in-Ok c = search (checked-written, rules)
