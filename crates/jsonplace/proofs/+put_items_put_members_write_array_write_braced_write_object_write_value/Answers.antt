use Rattle.std.proofs.Common.{rules}
use Rattle.jsonadds.proofs.Members.{parts_from, parts-run, parts-start, cell-within, name-due, part-from, part-fits, gather_names, gather_out, parts-end}
use Rattle.jsonadds.proofs.Cycle.{items-run, items-signed, items-begun, run_fits, item_count, item-due, item_room, item-signed, items-less, items-again, items-names, items-out, items-told, part-due, part_room, part-again, array-good, run-due, array-room, array_placed, braced-within, plain-due, plain-placed, entity-due, entity-placed, extension-due, extension-placed, object-good, object-spare, object-parts, object-room, object-placed, value-here, value_level, array-deeper, braced-deeper, array-due, value-array, braced-due, value-braced, flat-due, value-flat}
use Rattle.jsonplace.proofs.+put_items_put_members_write_array_write_braced_write_object_write_value.Goals as goal

pub put_items-after_run-requires : goal.put_items-after_run-requires
put_items-after_run-requires t c = search (items-run, rules)

pub put_items-first_part-part-requires : goal.put_items-first_part-part-requires
put_items-first_part-part-requires t c = search (items-signed, rules)

pub put_items-loop-part-init : goal.put_items-loop-part-init
put_items-loop-part-init t c = search (items-begun, rules)

pub put_items-write_value-end-requires : goal.put_items-write_value-end-requires
put_items-write_value-end-requires t c = search (item-due, rules)

pub put_items-overflow_add-first : goal.put_items-overflow_add-first
put_items-overflow_add-first t c = search (run_fits, rules)

pub put_items-put_part-requires : goal.put_items-put_part-requires
put_items-put_part-requires t c = search (item_room, rules)

pub put_items-overflow_add-k : goal.put_items-overflow_add-k
put_items-overflow_add-k t c = search (item_count, rules)

pub put_items-part_after-part-requires : goal.put_items-part_after-part-requires
put_items-part_after-part-requires t c = search (item-signed, rules)

pub put_items-loop-part-smaller : goal.put_items-loop-part-smaller
put_items-loop-part-smaller t c = search (items-less, rules)

pub put_items-loop-part-preserved : goal.put_items-loop-part-preserved
put_items-loop-part-preserved t c = search (items-again, rules)

pub put_items-shape_of-names : goal.put_items-shape_of-names
put_items-shape_of-names t c = search (items-names, rules)

pub put_items-shape_of-out : goal.put_items-shape_of-out
put_items-shape_of-out t c = search (items-out, rules)

pub put_items-returns : goal.put_items-returns
put_items-returns t c = search (items-told, rules)

pub put_members-overflow_sub-stop : goal.put_members-overflow_sub-stop
put_members-overflow_sub-stop t c = search (parts_from, rules)

pub put_members-after_run-requires : goal.put_members-after_run-requires
put_members-after_run-requires t c = search (parts-run, rules)

pub put_members-loop-i-init : goal.put_members-loop-i-init
put_members-loop-i-init t c = search (parts-start, rules)

pub put_members-bounds-names-i : goal.put_members-bounds-names-i
put_members-bounds-names-i t c = search (cell-within, rules)

pub put_members-put_name-begin-requires : goal.put_members-put_name-begin-requires
put_members-put_name-begin-requires t c = search (name-due, rules)

pub put_members-write_value-requires : goal.put_members-write_value-requires
put_members-write_value-requires t c = search (part-due, rules)

pub put_members-overflow_sub-i : goal.put_members-overflow_sub-i
put_members-overflow_sub-i t c = search (part-from, rules)

pub put_members-overflow_add-first : goal.put_members-overflow_add-first
put_members-overflow_add-first t c = search (part-fits, rules)

pub put_members-put_part-requires : goal.put_members-put_part-requires
put_members-put_part-requires t c = part_room c.loop-i.invariant (search rules) c.put_name-begin.ensures c.write_value.ensures (search rules) (search rules)

pub put_members-loop-i-preserved : goal.put_members-loop-i-preserved
put_members-loop-i-preserved t c = search (part-again, rules)

pub put_members-shape_of-names : goal.put_members-shape_of-names
put_members-shape_of-names t c = search (gather_names, gather_out, rules)

pub put_members-shape_of-out : goal.put_members-shape_of-out
put_members-shape_of-out t c = search (gather_names, gather_out, rules)

pub put_members-returns : goal.put_members-returns
put_members-returns t c = search (parts-end, rules)

pub write_array-count_items-m-requires : goal.write_array-count_items-m-requires
write_array-count_items-m-requires t c = search (array-good, rules)

pub write_array-put_items-requires : goal.write_array-put_items-requires
write_array-put_items-requires t c = search (run-due, rules)

pub write_array-put_held-requires : goal.write_array-put_held-requires
write_array-put_held-requires t c = search (array-room, rules)

pub write_array-returns : goal.write_array-returns
write_array-returns t c = search (array_placed, rules)

pub write_braced-form_at-requires : goal.write_braced-form_at-requires
write_braced-form_at-requires t c = search (braced-within, rules)

pub write_braced-write_object-requires : goal.write_braced-write_object-requires
write_braced-write_object-requires t c = search (plain-due, rules)

pub write_braced-write_form-requires : goal.write_braced-write_form-requires
write_braced-write_form-requires t c = search (entity-due, rules)

pub write_braced-write_form-requires-in-Extension : goal.write_braced-write_form-requires-in-Extension
write_braced-write_form-requires-in-Extension t c = search (extension-due, rules)

pub write_braced-returns-in-Plain : goal.write_braced-returns-in-Plain
write_braced-returns-in-Plain t c = search (plain-placed, rules)

pub write_braced-returns-in-Entity : goal.write_braced-returns-in-Entity
write_braced-returns-in-Entity t c = search (entity-placed, rules)

pub write_braced-returns-in-Extension : goal.write_braced-returns-in-Extension
write_braced-returns-in-Extension t c = search (extension-placed, rules)

pub write_object-sort_names-m-requires : goal.write_object-sort_names-m-requires
write_object-sort_names-m-requires t c = record { good = search (object-good, rules); spare = search (object-spare, rules) }

pub write_object-put_members-requires : goal.write_object-put_members-requires
write_object-put_members-requires t c = search (object-parts, rules)

pub write_object-put_held-requires : goal.write_object-put_held-requires
write_object-put_held-requires t c = object-room _ c.requires c.sort_names-m.ensures c.put_members.ensures (search rules)

pub write_object-returns : goal.write_object-returns
write_object-returns t c = object-placed _ c.requires c.sort_names-m.ensures c.put_members.ensures c.put_held.ensures

pub write_value-bounds-line-at : goal.write_value-bounds-line-at
write_value-bounds-line-at t c = search (value-here, rules)

pub write_value-overflow_add-at : goal.write_value-overflow_add-at
write_value-overflow_add-at t c = search (value-here, rules)

pub write_value-overflow_sub-levels : goal.write_value-overflow_sub-levels
write_value-overflow_sub-levels t c = search (value_level, rules)

pub write_value-write_array-requires : goal.write_value-write_array-requires
write_value-write_array-requires t c = search (array-deeper, array-due, rules)

pub write_value-returns-in-91 : goal.write_value-returns-in-91
write_value-returns-in-91 t c = search (value-array, rules)

pub write_value-overflow_add-at-in-123 : goal.write_value-overflow_add-at-in-123
write_value-overflow_add-at-in-123 t c = search (value-here, rules)

pub write_value-overflow_sub-levels-in-123 : goal.write_value-overflow_sub-levels-in-123
write_value-overflow_sub-levels-in-123 t c = search (value_level, rules)

pub write_value-write_braced-requires : goal.write_value-write_braced-requires
write_value-write_braced-requires t c = search (braced-deeper, braced-due, rules)

pub write_value-returns-in-123 : goal.write_value-returns-in-123
write_value-returns-in-123 t c = search (value-braced, rules)

pub write_value-write_scalar-requires : goal.write_value-write_scalar-requires
write_value-write_scalar-requires t c = search (flat-due, rules)

pub write_value-returns-in_default : goal.write_value-returns-in_default
write_value-returns-in_default t c = search (value-flat, rules)
