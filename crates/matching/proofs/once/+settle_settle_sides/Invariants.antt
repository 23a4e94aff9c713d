use Prim.Native.Nat.{◌+◌, ◌*◌, max}
use Rattle.matching.proofs.once.+settle_settle_sides.Given as goal

abbrev pub decreases-settle : goal.decreases-settle
decreases-settle l = 2 * l.t.0

abbrev pub decreases-settle_sides : goal.decreases-settle_sides
decreases-settle_sides l = 2 * max l.l.0 l.r.0 + 1
