use Rattle.joining.proofs.Rules.{bounded, low-inside, low-high, part-rises, part-place}
use Rattle.std.proofs.Common.{rules}
use Rattle.joining.proofs.place_beside.Goals as goal

pub offset_bounds-order-low : goal.offset_bounds-order-low
offset_bounds-order-low c = search (low-inside c.requires.in_order (bounded c.requires.in_order c.requires.beside c.floor_at-low.ensures c.roof_at-high.ensures), rules)

pub slice_bounds-place_of-count : goal.slice_bounds-place_of-count
slice_bounds-place_of-count c = search (low-inside c.requires.in_order (bounded c.requires.in_order c.requires.beside c.floor_at-low.ensures c.roof_at-high.ensures), rules)

pub slice_bounds-place_of-start : goal.slice_bounds-place_of-start
slice_bounds-place_of-start c = search (low-inside c.requires.in_order (bounded c.requires.in_order c.requires.beside c.floor_at-low.ensures c.roof_at-high.ensures), rules)

pub overflow_sub-high : goal.overflow_sub-high
overflow_sub-high c = search (low-high (bounded c.requires.in_order c.requires.beside c.floor_at-low.ensures c.roof_at-high.ensures), rules)

pub place_of-requires-clause-in_order : goal.place_of-requires-clause-in_order
place_of-requires-clause-in_order c = part-rises c.requires.in_order (bounded c.requires.in_order c.requires.beside c.floor_at-low.ensures c.roof_at-high.ensures)

pub returns : goal.returns
returns c = part-place c.requires.in_order (bounded c.requires.in_order c.requires.beside c.floor_at-low.ensures c.roof_at-high.ensures) c.place_of.ensures
