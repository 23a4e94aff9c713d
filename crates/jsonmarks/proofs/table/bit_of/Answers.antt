use Rattle.std.proofs.Common.{rules}
use Rattle.jsonmarks.proofs.Sets.{bit_shift, bit_is}
use Rattle.jsonmarks.proofs.table.bit_of.Goals as goal

pub overflow_shl-result : goal.overflow_shl-result
overflow_shl-result c = search (bit_shift, rules)

pub returns : goal.returns
returns c = search (bit_is, rules)
