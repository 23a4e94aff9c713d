use Rattle.std.proofs.Common.{rules}
use Rattle.jsonmarks.proofs.Keeps.{keep-place, held-there, held_note, held_new}
use Rattle.jsonmarks.proofs.hold_many.Goals as goal

pub digest-d-requires : goal.digest-d-requires
digest-d-requires c = search (keep-place, rules)

pub note-requires : goal.note-requires
note-requires c = search (held_note, rules)

pub returns-in-Some : goal.returns-in-Some
returns-in-Some c = search (held-there, rules)

pub returns : goal.returns
returns c = search (held_new, rules)
