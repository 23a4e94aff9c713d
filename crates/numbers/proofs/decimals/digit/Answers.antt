use Rattle.std.proofs.Common.{rules}
use native.Mathlib.Omega.{arith}
use Rattle.numbers.proofs.Reading.{digit-fits}
use Rattle.numbers.proofs.decimals.digit.Goals as goal

pub overflow_sub-b : goal.overflow_sub-b
overflow_sub-b c = omega (arith, digit-fits c.args.b c.requires)

pub returns : goal.returns
returns c = (search rules, omega (arith, digit-fits c.args.b c.requires))
