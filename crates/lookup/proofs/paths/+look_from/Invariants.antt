use Prim.Native.Nat.{◌-◌}
use Rattle.lookup.proofs.paths.+look_from.Given as goal

abbrev pub decreases-look_from : goal.decreases-look_from
decreases-look_from l = l.path.count - l.from
