use Rattle.carried.proofs.Downs.{Downs}
use Rattle.carried.proofs.scans.scan_down.Given as goal

abbrev pub invariant-loop-j : goal.invariant-loop-j
invariant-loop-j l = Downs l.s l.call l.env l.look l.span l.initial.work l.initial.list l.j l.failed l.work l.list
