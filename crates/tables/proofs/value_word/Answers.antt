use Rattle.std.proofs.Common.{rules}
use Rattle.laws.specs.Bodies.{long}
use Rattle.tables.proofs.Words.{no_value, value_read}
use Rattle.tables.proofs.value_word.Goals as goal

pub size_of-requires : goal.size_of-requires
size_of-requires c = search (long, rules)

pub returns-then-size-j : goal.returns-then-size-j
returns-then-size-j c = search (no_value, rules)

pub returns : goal.returns
returns c = search (value_read, rules)
