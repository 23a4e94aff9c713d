use Rattle.std.proofs.Common.{rules}
use Rattle.jsonfields.proofs.Members.{entry-colon, entry_value, entry-told}
use Rattle.jsonfields.proofs.places.entry_of.Goals as goal

pub after_sign-value-requires : goal.after_sign-value-requires
after_sign-value-requires c = search (entry-colon, rules)

pub field_end-requires : goal.field_end-requires
field_end-requires c = search (entry_value, rules)

pub returns : goal.returns
returns c = search (entry-told, rules)
