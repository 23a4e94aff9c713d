use Rattle.std.proofs.Common.{rules}
use Rattle.laws.specs.Bodies.{long}
use Rattle.tables.proofs.Records.{time-none, time-first, time-fits, time-whole}
use Rattle.tables.proofs.time_at.Goals as goal

pub size_of-requires : goal.size_of-requires
size_of-requires c = search (long, rules)

pub returns-then-size-p : goal.returns-then-size-p
returns-then-size-p c = search (time-none, rules)

pub offset_of-requires : goal.offset_of-requires
offset_of-requires c = search (long, rules)

pub word_at-requires : goal.word_at-requires
word_at-requires c = search (time-first, rules)

pub word_at-requires-2 : goal.word_at-requires-2
word_at-requires-2 c = search (time-fits, rules)

pub returns : goal.returns
returns c = search (time-whole, rules)
