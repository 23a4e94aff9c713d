use Rattle.joining.proofs.Guessing.{few-all, takes_none}
use Rattle.std.proofs.Common.{rules}
use Rattle.joining.proofs.take_kept.Goals as goal

pub returns-then-upto-all : goal.returns-then-upto-all
returns-then-upto-all c = search (takes_none, rules)

pub gather-requires-clause-few : goal.gather-requires-clause-few
gather-requires-clause-few c = search (few-all, rules)
