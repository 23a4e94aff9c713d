use Rattle.quick.proofs.+decide.Given as goal

abbrev pub decreases-decide : goal.decreases-decide
decreases-decide l = l.n.0
