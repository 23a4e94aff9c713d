use Rattle.std.proofs.Common.{rules}
use Rattle.jsonnames.proofs.Stores.{store_look, store_there, store_due}
use Rattle.jsonnames.proofs.runs.store.Goals as goal

pub look-requires : goal.look-requires
look-requires c = search (store_look, rules)

pub put_last-requires : goal.put_last-requires
put_last-requires c = search (store_due, rules)

pub returns-in-Some : goal.returns-in-Some
returns-in-Some c = search (store_there, rules)
