use Rattle.joining.proofs.Rules.{number-kept, sorted_rises, number-new}
use Rattle.std.proofs.Common.{rules}
use Rattle.joining.proofs.number_of.Goals as goal

pub returns-then-string_count-w : goal.returns-then-string_count-w
returns-then-string_count-w c = search (number-kept, rules)

pub place_of-requires : goal.place_of-requires
place_of-requires c = search (sorted_rises, rules)

pub returns : goal.returns
returns c = search (number-new, rules)
