use Rattle.std.proofs.Common.{rules}
use native.Mathlib.Omega.{arith}
use Rattle.bench.proofs.Plans.{few, cells-long, asked-at}
use Rattle.bench.proofs.table.at_point.Goals as goal

pub overflow_mul-cells : goal.overflow_mul-cells
overflow_mul-cells c = omega (arith, few _ _ c.requires.checked c.requires.asking_value)

pub slice_bounds-unbound-end : goal.slice_bounds-unbound-end
slice_bounds-unbound-end c = omega (arith, few _ _ c.requires.checked c.requires.asking_value)

pub slice_bounds-ask-end : goal.slice_bounds-ask-end
slice_bounds-ask-end c = search (cells-long, rules)

pub returns : goal.returns
returns c = search (asked-at, rules)
