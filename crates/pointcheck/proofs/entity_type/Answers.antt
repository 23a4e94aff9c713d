-- A string without a quotation mark
use Rattle.std.proofs.Common.{rules}
use Rattle.listruns.proofs.Runs.{no-string, string_in, string-marked}
use Rattle.pointcheck.proofs.entity_type.Goals as goal

pub returns-else-n-string_count : goal.returns-else-n-string_count
returns-else-n-string_count c = search (no-string, rules)

pub bounds-unquoted-n : goal.bounds-unquoted-n
bounds-unquoted-n c = search (string_in, rules)

pub returns-then-n-string_count : goal.returns-then-n-string_count
returns-then-n-string_count c = search (string-marked, rules)
