use Rattle.std.proofs.Common.{rules}
use Rattle.jsonruns.proofs.Signs.{sign-there, sign_read, part-closed, part-next}
use Rattle.jsonruns.proofs.part_after.Goals as goal

pub bounds-line-sign : goal.bounds-line-sign
bounds-line-sign c = search (sign_read, rules)

pub returns-then-line-sign : goal.returns-then-line-sign
returns-then-line-sign c = search (part-closed, rules)

pub skip_blanks-requires : goal.skip_blanks-requires
skip_blanks-requires c = search (sign-there, rules)

pub returns-else-line-sign : goal.returns-else-line-sign
returns-else-line-sign c = search (part-next, rules)
