use Rattle.std.proofs.Common.{arith, rules}
use Rattle.jsonread.proofs.Spelling.{compare_same, compare_shorter, compare_longer, compare_by, compare_on, cursor_less, alike_is}
use Rattle.jsonread.proofs.names.compare_from.Goals as goal

pub loop-p-init : goal.loop-p-init
loop-p-init c = search (alike_is, rules)

pub returns-in-None : goal.returns-in-None
returns-in-None c = search (compare_same, rules)

pub returns-in-Some-next_byte : goal.returns-in-Some-next_byte
returns-in-Some-next_byte c = compare_shorter _ _ _ c.loop-p.invariant c.next_byte.ensures c.next_byte-in_default.ensures c.in_default.is c.in-Some-next_byte.is

pub returns-in_default-next_byte : goal.returns-in_default-next_byte
returns-in_default-next_byte c = search (compare_longer, rules)

pub returns-then-p-q : goal.returns-then-p-q
returns-then-p-q c = search (compare_by, rules)

pub loop-p-preserved : goal.loop-p-preserved
loop-p-preserved c = compare_on _ _ _ c.loop-p.invariant c.next_byte.ensures c.next_byte-in-loop-p.ensures c.in-Some.is c.in-Some-next_byte-2.is (omega arith) (omega arith)

pub loop-p-smaller : goal.loop-p-smaller
loop-p-smaller c = search (cursor_less, rules)
