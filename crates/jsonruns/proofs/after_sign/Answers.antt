use Rattle.std.proofs.Common.{rules}
use Rattle.jsonruns.proofs.Signs.{sign-there, sign-past}
use Rattle.jsonruns.proofs.after_sign.Goals as goal

pub skip_blanks-requires : goal.skip_blanks-requires
skip_blanks-requires c = search (sign-there, rules)

pub returns : goal.returns
returns c = search (sign-past, rules)
