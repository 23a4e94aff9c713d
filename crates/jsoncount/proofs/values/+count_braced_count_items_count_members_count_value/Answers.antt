use Rattle.std.proofs.Common.{rules}
use Rattle.jsoncount.proofs.Items.{items-signed, items-begun, items-good, items-after, items-less, items-again, items-told, members-signed, members-begun, members-name, members-colon, members-value, members-after, members-less, members-again, members-told}
use Rattle.jsoncount.proofs.Nested.{has_level, value-below, deeper, deeper_yet, array-good, array-counted, scalar-good, scalar-counted, braced-good, braced-counted, object-good, object-counted, entity-good, entity-counted, extension-good, extension-counted}
use Rattle.jsoncount.proofs.values.+count_braced_count_items_count_members_count_value.Goals as goal

pub count_braced-count_members-requires : goal.count_braced-count_members-requires
count_braced-count_members-requires t c = search (object-good, rules)

pub count_braced-count_form-requires : goal.count_braced-count_form-requires
count_braced-count_form-requires t c = search (entity-good, rules)

pub count_braced-count_form-requires-in-Extension : goal.count_braced-count_form-requires-in-Extension
count_braced-count_form-requires-in-Extension t c = search (extension-good, rules)

pub count_braced-returns-in-Plain : goal.count_braced-returns-in-Plain
count_braced-returns-in-Plain t c = search (object-counted, rules)

pub count_braced-returns-in-Entity : goal.count_braced-returns-in-Entity
count_braced-returns-in-Entity t c = search (entity-counted, rules)

pub count_braced-returns-in-Extension : goal.count_braced-returns-in-Extension
count_braced-returns-in-Extension t c = search (extension-counted, rules)

pub count_items-first_part-part-requires : goal.count_items-first_part-part-requires
count_items-first_part-part-requires t c = search (items-signed, rules)

pub count_items-loop-part-init : goal.count_items-loop-part-init
count_items-loop-part-init t c = search (items-begun, rules)

pub count_items-count_value-end-requires : goal.count_items-count_value-end-requires
count_items-count_value-end-requires t c = search (items-good, rules)

pub count_items-part_after-part-requires : goal.count_items-part_after-part-requires
count_items-part_after-part-requires t c = search (items-after, rules)

pub count_items-loop-part-smaller : goal.count_items-loop-part-smaller
count_items-loop-part-smaller t c = search (items-less, rules)

pub count_items-loop-part-preserved : goal.count_items-loop-part-preserved
count_items-loop-part-preserved t c = search (items-again, rules)

pub count_items-returns : goal.count_items-returns
count_items-returns t c = search (items-told, rules)

pub count_members-first_part-part-requires : goal.count_members-first_part-part-requires
count_members-first_part-part-requires t c = search (members-signed, rules)

pub count_members-loop-part-init : goal.count_members-loop-part-init
count_members-loop-part-init t c = search (members-begun, rules)

pub count_members-add_string-name_end-requires : goal.count_members-add_string-name_end-requires
count_members-add_string-name_end-requires t c = search (members-name, rules)

pub count_members-after_sign-requires : goal.count_members-after_sign-requires
count_members-after_sign-requires t c = search (members-colon, rules)

pub count_members-count_value-end-requires : goal.count_members-count_value-end-requires
count_members-count_value-end-requires t c = search (members-value, rules)

pub count_members-part_after-part-requires : goal.count_members-part_after-part-requires
count_members-part_after-part-requires t c = search (members-after, rules)

pub count_members-loop-part-smaller : goal.count_members-loop-part-smaller
count_members-loop-part-smaller t c = search (members-less, rules)

pub count_members-loop-part-preserved : goal.count_members-loop-part-preserved
count_members-loop-part-preserved t c = search (members-again, rules)

pub count_members-returns : goal.count_members-returns
count_members-returns t c = search (members-told, rules)

pub count_value-bounds-line-at : goal.count_value-bounds-line-at
count_value-bounds-line-at t c = search (value-below, rules)

pub count_value-overflow_sub-levels : goal.count_value-overflow_sub-levels
count_value-overflow_sub-levels t c = search (has_level, rules)

pub count_value-count_items-requires : goal.count_value-count_items-requires
count_value-count_items-requires t c = search (deeper, array-good, rules)

pub count_value-returns-in-91 : goal.count_value-returns-in-91
count_value-returns-in-91 t c = search (array-counted, rules)

pub count_value-overflow_sub-levels-in-123 : goal.count_value-overflow_sub-levels-in-123
count_value-overflow_sub-levels-in-123 t c = search (has_level, rules)

pub count_value-count_braced-requires : goal.count_value-count_braced-requires
count_value-count_braced-requires t c = search (deeper_yet, braced-good, rules)

pub count_value-returns-in-123 : goal.count_value-returns-in-123
count_value-returns-in-123 t c = search (braced-counted, rules)

pub count_value-count_scalar-requires : goal.count_value-count_scalar-requires
count_value-count_scalar-requires t c = search (scalar-good, rules)

pub count_value-returns-in_default : goal.count_value-returns-in_default
count_value-returns-in_default t c = search (scalar-counted, rules)
