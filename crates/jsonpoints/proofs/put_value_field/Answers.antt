use Rattle.std.proofs.Common.{rules}
use Rattle.jsonpoints.specs.Laws.{other-room, other-put, value_same}
use Rattle.laws.specs.Checked.{checked-bodies}
use Rattle.jsonpoints.proofs.put_value_field.Goals as goal

pub point_word-requires : goal.point_word-requires
point_word-requires c = search (checked-bodies, rules)

pub put_value_after-requires-clause-v_in_bounds : goal.put_value_after-requires-clause-v_in_bounds
put_value_after-requires-clause-v_in_bounds c = search (other-room, value_same, rules)

pub returns : goal.returns
returns c = search (other-put, value_same, rules)
