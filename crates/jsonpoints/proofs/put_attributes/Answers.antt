use Rattle.std.proofs.Common.{rules}
use Rattle.jsonpoints.specs.Laws.{attributes-first, attributes-second, attributes-put}
use Rattle.laws.specs.Checked.{checked-bodies}
use Rattle.jsonpoints.proofs.put_attributes.Goals as goal

pub list_at-requires : goal.list_at-requires
list_at-requires c = search (checked-bodies, rules)

pub put_value_after-next-requires-clause-v_in_bounds : goal.put_value_after-next-requires-clause-v_in_bounds
put_value_after-next-requires-clause-v_in_bounds c = search (attributes-first, rules)

pub put_byte-requires : goal.put_byte-requires
put_byte-requires c = search (attributes-second, rules)

pub returns : goal.returns
returns c = search (attributes-put, rules)
