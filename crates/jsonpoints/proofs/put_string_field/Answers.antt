use Rattle.std.proofs.Common.{rules}
use Rattle.jsonpoints.specs.Laws.{other-room, other-put, string-same}
use Rattle.laws.specs.Checked.{checked-bodies}
use Rattle.jsonpoints.proofs.put_string_field.Goals as goal

pub point_word-requires : goal.point_word-requires
point_word-requires c = search (checked-bodies, rules)

pub put_after-requires-clause-n_in_bounds : goal.put_after-requires-clause-n_in_bounds
put_after-requires-clause-n_in_bounds c = search (other-room, string-same, rules)

pub returns : goal.returns
returns c = search (other-put, string-same, rules)
