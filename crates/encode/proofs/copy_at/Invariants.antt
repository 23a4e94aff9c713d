use Rattle.std.proofs.Common.{length, ◌-◌}
use Rattle.encode.proofs.Out.{Copied}
use Rattle.encode.proofs.copy_at.Given as goal

abbrev pub invariant-loop-i : goal.invariant-loop-i
invariant-loop-i l = Copied l.initial.out l.out l.at l.piece l.i
