use Rattle.std.proofs.Common.{rules}
use Rattle.jsonentities.proofs.Naming.{signed-sign, signed-wrote}
use Rattle.jsonentities.proofs.keys.put_signed.Goals as goal

pub after_sign-requires : goal.after_sign-requires
after_sign-requires c = search (signed-sign, rules)

pub returns : goal.returns
returns c = search (signed-wrote, rules)
