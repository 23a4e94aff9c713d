use Rattle.joining.proofs.Guessing.{sifting_from, sifting_fits, sifting_more, sifting_not}
use Rattle.std.proofs.Common.{rules}
use Rattle.joining.proofs.keep_others.Goals as goal

pub loop-k-init : goal.loop-k-init
loop-k-init c = search (sifting_from, rules)

pub keep_one-requires-clause-m_in_bounds : goal.keep_one-requires-clause-m_in_bounds
keep_one-requires-clause-m_in_bounds c = search (sifting_fits, rules)

pub returns-in_default : goal.returns-in_default
returns-in_default c = search (sifting_not, rules)

pub loop-k-preserved : goal.loop-k-preserved
loop-k-preserved c = search (sifting_more, rules)
