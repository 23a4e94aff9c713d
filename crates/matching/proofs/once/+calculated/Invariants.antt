use Rattle.matching.proofs.once.+calculated.Given as goal

abbrev pub decreases-calculated : goal.decreases-calculated
decreases-calculated l = l.t.0
