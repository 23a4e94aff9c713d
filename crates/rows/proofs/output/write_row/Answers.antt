use Rattle.std.proofs.Common.{rules}
use lib.ListN.{length-set}
use native.Mathlib.Omega.{arith}
use Rattle.rows.proofs.Out.{binder_in, row-none, row_more, row-all}
use Rattle.rows.proofs.output.write_row.Goals as goal

pub loop-k-init : goal.loop-k-init
loop-k-init c = search (row-none, rules)

pub get-b-requires : goal.get-b-requires
get-b-requires c = search (binder_in, rules)

pub bounds-out-p-in-loop-k : goal.bounds-out-p-in-loop-k
bounds-out-p-in-loop-k c = simp length-set (omega arith)

pub loop-k-preserved : goal.loop-k-preserved
loop-k-preserved c = search (row_more, rules)

pub returns : goal.returns
returns c = row-all c.loop-k.invariant (omega arith)
