use Rattle.tables.proofs.interval_of.Goals as goal

pub returns : goal.returns
returns c = cc
