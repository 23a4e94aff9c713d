use Rattle.std.proofs.Common.{rules}
use native.Mathlib.Omega.{arith}
use lib.ListN.{length-set}
use Rattle.jsonspelt.proofs.Characters.{two-written}
use Rattle.jsonspelt.proofs.put_two.Goals as goal

pub bounds-out-at-2 : goal.bounds-out-at-2
bounds-out-at-2 c = simp length-set (omega arith)

pub returns : goal.returns
returns c = search (two-written, rules)
