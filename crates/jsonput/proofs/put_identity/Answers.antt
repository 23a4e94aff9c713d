use Rattle.std.proofs.Common.{rules}
use Rattle.jsonput.specs.Laws.Values.{identity_first, identity_second, identity_put}
use Rattle.jsonput.proofs.put_identity.Goals as goal

pub put_after-next-requires : goal.put_after-next-requires
put_after-next-requires c = search (identity_first, rules)

pub put_after-requires : goal.put_after-requires
put_after-requires c = search (identity_second, rules)

pub returns : goal.returns
returns c = search (identity_put, rules)
