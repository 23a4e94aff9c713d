use Rattle.std.proofs.Common.{rules}
use Rattle.carried.proofs.Looking.{looks-as}
use Rattle.carried.proofs.looks.looks_back.Goals as goal

pub returns : goal.returns
returns c = search (looks-as, rules)
