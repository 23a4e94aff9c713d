use Rattle.std.proofs.Common.{rules}
use Rattle.finish.proofs.Whole.{tables-none, table_of, table-room, tables_more, tables-all}
use Rattle.finish.proofs.put_tables.Goals as goal

pub loop-i-init : goal.loop-i-init
loop-i-init c = search (tables-none, rules)

pub put_table-requires-clause-table : goal.put_table-requires-clause-table
put_table-requires-clause-table c = search (table_of, rules)

pub put_table-requires-clause-k_in_bounds : goal.put_table-requires-clause-k_in_bounds
put_table-requires-clause-k_in_bounds c = search (table-room, rules)

pub loop-i-preserved : goal.loop-i-preserved
loop-i-preserved c = search (tables_more, rules)

pub returns : goal.returns
returns c = search (tables-all, rules)
