-- No node is higher than 64: one pass upward
use Rattle.meaning.specs.Check.{height, height_rule}
use Rattle.laws.specs.Tests.{Passing}
use Rattle.stringcheck.specs.Tables.{Filling}
use Rattle.nodecheck.proofs.check_heights.Given as goal

abbrev pub invariant-loop-n : goal.invariant-loop-n
invariant-loop-n l = Passing (height_rule l.s) l.n-end l.n × Filling 0 (height l.s) 1024 l.n-end l.heights l.n
