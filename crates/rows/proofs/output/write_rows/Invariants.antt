use Rattle.rows.proofs.Out.{Output}
use Rattle.rows.specs.Table.{rows_in}
use Rattle.rows.proofs.output.write_rows.Given as goal

abbrev pub invariant-loop-h : goal.invariant-loop-h
invariant-loop-h l = Output l.initial.out l.out l.binders (rows_in l.shape l.work) l.from l.to l.h l.at
