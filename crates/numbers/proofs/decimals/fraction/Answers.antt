-- At most four digits, as ten thousandths
use Rattle.std.proofs.Common.{rules}
use Rattle.numbers.proofs.Scaling.{fraction_of, fraction_last, fraction_small, scaled_small}
use Rattle.numbers.proofs.decimals.fraction.Goals as goal

pub returns-in-0 : goal.returns-in-0
returns-in-0 c = (search (fraction_of, rules), search (scaled_small, rules))

pub returns-in-1 : goal.returns-in-1
returns-in-1 c = (search (fraction_of, rules), search (scaled_small, rules))

pub returns-in-2 : goal.returns-in-2
returns-in-2 c = (search (fraction_of, rules), search (scaled_small, rules))

pub returns-in-3 : goal.returns-in-3
returns-in-3 c = (search (fraction_of, rules), search (scaled_small, rules))

pub returns-in_default : goal.returns-in_default
returns-in_default c = (search (fraction_last, rules), search (fraction_small, rules))
