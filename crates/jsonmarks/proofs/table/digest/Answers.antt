use Rattle.std.proofs.Common.{rules}
use Rattle.jsonread.proofs.Spelling.{cursor_less}
use Rattle.jsonmarks.proofs.Digests.{digest_start, digest_ended, digest_on, digest_small}
use Rattle.jsonmarks.proofs.table.digest.Goals as goal

pub loop-b-init : goal.loop-b-init
loop-b-init c = rw c.at-x.ensures (search (digest_start, rules))

pub returns : goal.returns
returns c = search (digest_ended, rules)

pub overflow_mul-sum : goal.overflow_mul-sum
overflow_mul-sum c = search (digest_small, rules)

pub overflow_add-sum : goal.overflow_add-sum
overflow_add-sum c = search (digest_small, rules)

pub loop-b-smaller : goal.loop-b-smaller
loop-b-smaller c = search (cursor_less, rules)

pub loop-b-preserved : goal.loop-b-preserved
loop-b-preserved c = rw c.from.ensures (search (digest_on, rules))
