use Rattle.std.proofs.Common.{rules}
use Rattle.jsonread.proofs.Places.{passed}
use Rattle.jsonread.proofs.Counts.{counted-from, counted-within, magnitude-none, magnitude-parts}
use Rattle.jsonread.proofs.integers.magnitude_at.Goals as goal

pub parts_at-requires : goal.parts_at-requires
parts_at-requires c = search (counted-from, counted-within, c.in_ok-n.was, rules)

pub returns-in_err-n : goal.returns-in_err-n
returns-in_err-n c = rw (passed c.from_residual.ensures.1) (search (magnitude-none, c.in_err-n.was, rules))

pub returns : goal.returns
returns c = search (magnitude-parts, c.in_ok-n.was, rules)
