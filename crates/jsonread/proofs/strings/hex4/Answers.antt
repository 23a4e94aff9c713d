use Rattle.std.proofs.Common.{rules}
use Rattle.jsonread.proofs.Hex.{hex_start, hex_done, hex_end, hex_other, hex_next}
use Rattle.jsonread.proofs.strings.hex4.Goals as goal

pub loop-left-init : goal.loop-left-init
loop-left-init c = search (hex_start, rules)

pub returns-then-line-i : goal.returns-then-line-i
returns-then-line-i c = search (hex_end, rules)

pub returns-then-d-ge16 : goal.returns-then-d-ge16
returns-then-d-ge16 c = rw c.new-then-d-ge16.ensures (search (hex_other, rules))

pub loop-left-preserved : goal.loop-left-preserved
loop-left-preserved c = search (hex_next, rules)

pub returns : goal.returns
returns c = search (hex_done, rules)
