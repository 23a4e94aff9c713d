use Rattle.std.proofs.Common.{rules}
use Rattle.jsonruns.proofs.Signs.{sign-behind}
use Rattle.jsonruns.proofs.sign_end.Goals as goal

pub returns : goal.returns
returns c = search (sign-behind, rules)
