use Rattle.std.proofs.Common.{rules}
use Rattle.finish.proofs.Names.{marked-not, marked-as}
use Rattle.finish.proofs.is_marked.Goals as goal

pub returns-then-i-marks : goal.returns-then-i-marks
returns-then-i-marks c = search (marked-as, rules)

pub returns-else-i-marks : goal.returns-else-i-marks
returns-else-i-marks c = search (marked-not, rules)
