use Rattle.std.proofs.Common.{rules}
use Rattle.jsonpoints.specs.Laws.{first-room, second-room, second-put, word_same}
use Rattle.laws.specs.Checked.{checked-bodies}
use Rattle.jsonpoints.proofs.put_word.Goals as goal

pub put_comma-next-requires : goal.put_comma-next-requires
put_comma-next-requires c = search (first-room, rules)

pub list_at-requires : goal.list_at-requires
list_at-requires c = search (checked-bodies, rules)

pub put_string-requires-clause-n_in_bounds : goal.put_string-requires-clause-n_in_bounds
put_string-requires-clause-n_in_bounds c = search (second-room, word_same, rules)

pub returns : goal.returns
returns c = search (second-put, word_same, rules)
