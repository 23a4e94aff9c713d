use Rattle.std.proofs.Common.{rules}
use Rattle.finish.proofs.Whole.{strings-room, text-few, tables-room, text-room, finished-all}
use Rattle.finish.proofs.finish.Goals as goal

pub put_strings-requires-clause-n_in_bounds : goal.put_strings-requires-clause-n_in_bounds
put_strings-requires-clause-n_in_bounds c = (search (strings-room, rules), search (text-few, rules))

pub put_tables-at-requires-clause-room : goal.put_tables-at-requires-clause-room
put_tables-at-requires-clause-room c = search (tables-room, rules)

pub put_text-requires-clause-s_in_bounds : goal.put_text-requires-clause-s_in_bounds
put_text-requires-clause-s_in_bounds c = search (text-room, rules)

pub returns : goal.returns
returns c = search (finished-all, rules)
