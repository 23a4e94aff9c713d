use Rattle.std.proofs.Common.{rules}
use Rattle.rows.proofs.Out.{out_none, out-fits, out-more, out-all}
use Rattle.rows.proofs.Cells.{in_rows-to}
use Rattle.rows.proofs.output.write_rows.Goals as goal

pub loop-h-init : goal.loop-h-init
loop-h-init c = search (out_none, rules)

pub write_row-requires : goal.write_row-requires
write_row-requires c = search (out-fits, rules)

pub loop-h-preserved : goal.loop-h-preserved
loop-h-preserved c = search (out-more, in_rows-to, rules)

pub returns : goal.returns
returns c = search (out-all, rules)
