use Rattle.std.proofs.Common.{rules}
use Rattle.matching.proofs.Comparing.{int_tag}
use Rattle.matching.proofs.sides.is_int.Goals as goal

pub returns : goal.returns
returns c = search (int_tag, rules)
