use Rattle.std.proofs.Common.{rules}
use Rattle.jsonput.specs.Laws.Values.{null_room, truth_room, int-room, extension-room, words-room, reference_room, null_put, truth_put, int-put, extension-put, words-put, reference_put}
use Rattle.jsonput.proofs.put_leaf.Goals as goal

pub put_piece-requires : goal.put_piece-requires
put_piece-requires c = search (null_room, rules)

pub put_truth-requires : goal.put_truth-requires
put_truth-requires c = search (truth_room, rules)

pub put_integer-requires : goal.put_integer-requires
put_integer-requires c = search (int-room, rules)

pub put_decimal-requires : goal.put_decimal-requires
put_decimal-requires c = search (extension-room, rules)

pub put_string-requires : goal.put_string-requires
put_string-requires c = search (words-room, rules)

pub put_entity-requires : goal.put_entity-requires
put_entity-requires c = search (reference_room, rules)

pub returns-in-0 : goal.returns-in-0
returns-in-0 c = search (null_put, rules)

pub returns-in-1 : goal.returns-in-1
returns-in-1 c = search (truth_put, rules)

pub returns-in-2 : goal.returns-in-2
returns-in-2 c = search (int-put, rules)

pub returns-in-3 : goal.returns-in-3
returns-in-3 c = search (extension-put, rules)

pub returns-in-4 : goal.returns-in-4
returns-in-4 c = search (words-put, rules)

pub returns-in_default : goal.returns-in_default
returns-in_default c = search (reference_put, rules)
