use Rattle.std.proofs.Common.{rules}
use Rattle.jsonread.proofs.Places.{passed}
use Rattle.jsonread.proofs.Firsts.{spelt-start, spelt_bad, spelt-more, spelt-done}
use Rattle.jsonread.proofs.begins.word_at.Goals as goal

pub loop-b-init : goal.loop-b-init
loop-b-init c = search (spelt-start, rules)

pub returns-in_err-k : goal.returns-in_err-k
returns-in_err-k c = rw (passed c.from_residual.ensures.1) (search (spelt_bad, c.in_err-k.was, rules))

pub loop-b-preserved : goal.loop-b-preserved
loop-b-preserved c = search (spelt-more, c.in_ok-k.was, rules)

pub returns : goal.returns
returns c = search (spelt-done, rules)
