use Rattle.std.proofs.Common.{rules}
use Rattle.jsonmarks.proofs.Keeps.{sign-last, sign-done}
use Rattle.jsonmarks.proofs.sign.Goals as goal

pub returns : goal.returns
returns c = search (sign-done, rules)
