use Rattle.std.proofs.Common.{rules}
use Rattle.jsonread.proofs.Places.{passed}
use Rattle.jsonlines.proofs.Entries.{name-within, name-room, entry-name, entry_bad, entry_read}
use Rattle.jsonlines.proofs.events.entry_at.Goals as goal

pub returns-in_err-field : goal.returns-in_err-field
returns-in_err-field c = rw (passed c.from_residual.ensures.1) (search (entry-name, c.in_err-field.was, rules))

pub field_at-requires : goal.field_at-requires
field_at-requires c = record { at_in_bounds = search (name-within, c.in_ok-field.was, rules); room = search (name-room, c.in_ok-field.was, rules) }

pub returns-in_err-e : goal.returns-in_err-e
returns-in_err-e c = rw (passed c.from_residual-in_err-e.ensures.1) (search (entry_bad, c.in_ok-field.was, c.in_err-e.was, rules))

pub returns : goal.returns
returns c = search (entry_read, c.in_ok-field.was, c.in_ok-e.was, rules)
