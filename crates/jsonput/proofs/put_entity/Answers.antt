use Rattle.std.proofs.Common.{rules}
use Rattle.jsonput.specs.Laws.Values.{entity-first, entity-last, entity-put}
use Rattle.jsonput.proofs.put_entity.Goals as goal

pub put_identity-next-requires : goal.put_identity-next-requires
put_identity-next-requires c = search (entity-first, rules)

pub put_piece-requires : goal.put_piece-requires
put_piece-requires c = search (entity-last, rules)

pub returns : goal.returns
returns c = search (entity-put, rules)
