use Rattle.std.proofs.Common.{rules}
use Rattle.jsonadds.proofs.Flats.{form-word, form-good, decimal-due, decimal-room, decimal-wrote, entity-two, entity-fits, entity-room, entity-wrote}
use Rattle.jsonleaf.proofs.flats.write_form.Goals as goal

pub narrow-string-requires : goal.narrow-string-requires
narrow-string-requires c = search (form-word, rules)

pub two_of-two-requires : goal.two_of-two-requires
two_of-two-requires c = search (form-good, rules)

pub put_text-requires : goal.put_text-requires
put_text-requires c = search (decimal-due, rules)

pub put_value-requires : goal.put_value-requires
put_value-requires c = search (decimal-room, rules)

pub returns-then-extension : goal.returns-then-extension
returns-then-extension c = search (decimal-wrote, rules)

pub put_two-requires : goal.put_two-requires
put_two-requires c = search (entity-two, rules)

pub overflow_add-string : goal.overflow_add-string
overflow_add-string c = search (entity-fits, rules)

pub put_value-requires-else-extension : goal.put_value-requires-else-extension
put_value-requires-else-extension c = search (entity-room, rules)

pub returns-else-extension : goal.returns-else-extension
returns-else-extension c = search (entity-wrote, rules)
