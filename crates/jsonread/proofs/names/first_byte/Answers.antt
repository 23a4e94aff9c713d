use Rattle.std.proofs.Common.{rules}
use Rattle.jsonread.proofs.Spelling.{first_one, first_two, first_three, first-four}
use Rattle.jsonread.proofs.names.first_byte.Goals as goal

pub returns-then-u-lt128 : goal.returns-then-u-lt128
returns-then-u-lt128 c = search (first_one, rules)

pub returns-then-u-lt2048 : goal.returns-then-u-lt2048
returns-then-u-lt2048 c = search (first_two, rules)

pub returns-then-u-lt65536 : goal.returns-then-u-lt65536
returns-then-u-lt65536 c = search (first_three, rules)

pub returns : goal.returns
returns c = search (first-four, rules)
