use Rattle.std.proofs.Common.{rules}
use Rattle.bench.proofs.Plans.{asked-checked, asked}
use Rattle.bench.proofs.table.print_table.Goals as goal

pub at_points-requires : goal.at_points-requires
at_points-requires c = search (asked-checked, asked, rules)
