use Rattle.std.proofs.Common.{rules}
use Rattle.marking.proofs.Rules.{in_text-as}
use Rattle.laws.specs.Bodies.{long}
use Rattle.marking.proofs.in_text.Goals as goal

pub size_of-requires : goal.size_of-requires
size_of-requires c = search (long, rules)

pub returns : goal.returns
returns c = search (in_text-as, rules) fits 20000
