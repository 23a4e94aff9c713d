use Rattle.jsonsizes.proofs.+natural_size.Given as goal

-- proposed from what the function passes where it calls itself
abbrev pub decreases-natural_size : goal.decreases-natural_size
decreases-natural_size l = l.n
