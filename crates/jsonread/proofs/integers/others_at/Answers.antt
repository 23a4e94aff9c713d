use Rattle.std.proofs.Common.{rules}
use Rattle.jsonread.proofs.Places.{passed}
use Rattle.jsonread.proofs.Counts.{part-within, others-frac, others-exp}
use Rattle.jsonread.proofs.integers.others_at.Goals as goal

pub exp_at-requires : goal.exp_at-requires
exp_at-requires c = search (part-within, c.in_ok-f.was, rules)

pub returns-in_err-f : goal.returns-in_err-f
returns-in_err-f c = rw (passed c.from_residual.ensures.1) (search (others-frac, c.in_err-f.was, rules))

pub returns : goal.returns
returns c = search (others-exp, c.in_ok-f.was, rules)
