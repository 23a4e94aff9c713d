use Rattle.std.proofs.Common.{rules}
use Rattle.jsonpieces.proofs.Names.{names-fit, names-spaces, names-two, names-wrote}
use Rattle.jsonevents.proofs.names.put_names.Goals as goal

pub overflow_add-f : goal.overflow_add-f
overflow_add-f c = search (names-fit, rules)

pub put_spaces-requires : goal.put_spaces-requires
put_spaces-requires c = search (names-spaces, rules)

pub put_two-requires : goal.put_two-requires
put_two-requires c = search (names-two, rules)

pub returns : goal.returns
returns c = search (names-wrote, rules)
