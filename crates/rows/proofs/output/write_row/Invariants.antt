use Rattle.rows.specs.Table.{row_in}
use Rattle.rows.proofs.Out.{RowOut}
use Rattle.rows.proofs.output.write_row.Given as goal

abbrev pub invariant-loop-k : goal.invariant-loop-k
invariant-loop-k l = RowOut l.initial.out l.out l.at l.k l.binders (row_in l.shape l.work l.h)
