use Rattle.std.proofs.Common.{rules, ◌⊎◌}
use Rattle.jsonends.proofs.Ends.{step-none, step-opens, step-closes}
use Rattle.jsonends.proofs.depth_after.Goals as goal

pub returns-in-91 : goal.returns-in-91
returns-in-91 c = search (step-opens, rules)

pub returns-in-93 : goal.returns-in-93
returns-in-93 c = search (step-closes, rules)

pub returns-in_default : goal.returns-in_default
returns-in_default c = search (step-none, rules)
