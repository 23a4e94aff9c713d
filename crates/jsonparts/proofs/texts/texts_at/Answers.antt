use Rattle.std.proofs.Common.{rules}
use Rattle.jsonread.proofs.Places.{passed, told-within}
use Rattle.jsonparts.proofs.Items.{array-cut, array-empty, array-start, item_bad, item-cut, item-last, item-other, item-more, item-less}
use Rattle.jsonparts.proofs.texts.texts_at.Goals as goal

pub returns-then-line-i : goal.returns-then-line-i
returns-then-line-i c = search (array-cut, rules)

pub returns-then-line-i-eq93 : goal.returns-then-line-i-eq93
returns-then-line-i-eq93 c = search (array-empty, rules)

pub loop-e-init : goal.loop-e-init
loop-e-init c = search (array-start, rules)

pub returns-in_err-e : goal.returns-in_err-e
returns-in_err-e c = rw (passed c.from_residual.ensures.1) (search (item_bad, c.in_err-e.was, rules))

pub skip_blanks-k-requires : goal.skip_blanks-k-requires
skip_blanks-k-requires c = search (told-within, c.in_ok-e.was, rules)

pub returns-then-line-k : goal.returns-then-line-k
returns-then-line-k c = rw c.new-then-line-k.ensures (search (item-cut, c.in_ok-e.was, rules))

pub returns-then-line-k-eq93 : goal.returns-then-line-k-eq93
returns-then-line-k-eq93 c = search (item-last, c.in_ok-e.was, rules)

pub returns-then-line-k-ne44 : goal.returns-then-line-k-ne44
returns-then-line-k-ne44 c = rw c.new-then-line-k-ne44.ensures (search (item-other, c.in_ok-e.was, rules))

pub loop-e-smaller : goal.loop-e-smaller
loop-e-smaller c = search (item-less, c.in_ok-e.was, rules)

pub loop-e-preserved : goal.loop-e-preserved
loop-e-preserved c = search (item-more, c.in_ok-e.was, rules)
