use Rattle.std.proofs.Common.{rules}
use Rattle.jsontotal.proofs.Entries.{entries-within, entries-signed, entries-begun, entries-name, entries-colon, entries-value, entries-after, entries-less, entries-again, entries-told}
use Rattle.jsontotal.proofs.fields.count_entries.Goals as goal

pub first_part-part-requires : goal.first_part-part-requires
first_part-part-requires c = search (entries-signed, rules)

pub loop-part-init : goal.loop-part-init
loop-part-init c = search (entries-begun, rules)

pub string_end-requires : goal.string_end-requires
string_end-requires c = search (entries-name, rules)

pub after_sign-requires : goal.after_sign-requires
after_sign-requires c = search (entries-colon, rules)

pub count_field-end-requires : goal.count_field-end-requires
count_field-end-requires c = search (entries-value, rules)

pub part_after-part-requires : goal.part_after-part-requires
part_after-part-requires c = search (entries-after, rules)

pub loop-part-smaller : goal.loop-part-smaller
loop-part-smaller c = search (entries-less, rules)

pub loop-part-preserved : goal.loop-part-preserved
loop-part-preserved c = search (entries-again, rules)

pub returns : goal.returns
returns c = search (entries-told, rules)

pub field_of-field-requires : goal.field_of-field-requires
field_of-field-requires c = search (entries-within, rules)
