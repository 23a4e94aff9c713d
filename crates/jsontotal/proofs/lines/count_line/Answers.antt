use Rattle.std.proofs.Common.{rules}
use Rattle.jsontotal.proofs.Totals.{line-entries, line-adds}
use Rattle.jsontotal.proofs.lines.count_line.Goals as goal

pub count_entries-requires : goal.count_entries-requires
count_entries-requires c = search (line-entries, rules)

pub returns : goal.returns
returns c = search (line-adds, rules)
