use Prim.Native.Nat.{◌+◌, ◌*◌, ◌-◌}
use mathlib.Core.Path.{◌≡◌}
use lib.ListN.{length}
use Rattle.lookup.proofs.Searching.{Seeking}
use Rattle.lookup.proofs.paths.+look_look_in.Given as goal

abbrev pub decreases-look : goal.decreases-look
decreases-look l = 2 * (l.path.count - l.from) + 1

abbrev pub decreases-look_in : goal.decreases-look_in
decreases-look_in l = 2 * (l.path.count - l.from)

abbrev pub invariant-look_in-loop-m : goal.invariant-look_in-loop-m
invariant-look_in-loop-m l = Seeking l.s l.path l.failed l.from l.m-start l.initial.m l.m × (length l.initial.failed ≡ 3989)
