use Rattle.std.proofs.Common.{rules}
use Rattle.jsonentities.proofs.Naming.{keys-past, type-due, id-due, keys-wrote}
use Rattle.jsonentities.proofs.keys.put_keys.Goals as goal

pub skip_blanks-requires : goal.skip_blanks-requires
skip_blanks-requires c = search (keys-past, rules)

pub put_signed-id-requires : goal.put_signed-id-requires
put_signed-id-requires c = search (type-due, rules)

pub put_signed-requires : goal.put_signed-requires
put_signed-requires c = search (id-due, rules)

pub returns : goal.returns
returns c = search (keys-wrote, rules)
