use Rattle.std.proofs.Common.{rules}
use Rattle.jsonpoints.specs.Laws.{maybe-none, maybe-room, maybe-put}
use Rattle.laws.specs.Checked.{checked-bodies}
use Rattle.jsonpoints.proofs.put_maybe_field.Goals as goal

pub point_word-requires : goal.point_word-requires
point_word-requires c = search (checked-bodies, rules)

pub returns-then-point_word : goal.returns-then-point_word
returns-then-point_word c = search (maybe-none, rules)

pub put_value_field-requires-clause-j_in_bounds : goal.put_value_field-requires-clause-j_in_bounds
put_value_field-requires-clause-j_in_bounds c = search (maybe-room, rules)

pub returns-else-point_word : goal.returns-else-point_word
returns-else-point_word c = search (maybe-put, rules)
