use Rattle.std.proofs.Common.{rules}
use Rattle.jsonmarks.proofs.Keeps.{note-count, note-cells, note_take, noted-taken, noted-none, note_mark, noted-marked}
use Rattle.jsonmarks.proofs.note.Goals as goal

pub is_due-requires : goal.is_due-requires
is_due-requires c = search (note-count, rules)

pub take_over-requires : goal.take_over-requires
take_over-requires c = search (note_take, rules)

pub returns-then-is_due : goal.returns-then-is_due
returns-then-is_due c = search (noted-taken, rules)

pub size_of-size-requires : goal.size_of-size-requires
size_of-size-requires c = search (note-cells, rules)

pub mark-requires : goal.mark-requires
mark-requires c = search (note_mark, rules)

pub returns-then-size-gt0 : goal.returns-then-size-gt0
returns-then-size-gt0 c = search (noted-marked, rules)

pub returns-else-size-gt0 : goal.returns-else-size-gt0
returns-else-size-gt0 c = search (noted-none, rules)
