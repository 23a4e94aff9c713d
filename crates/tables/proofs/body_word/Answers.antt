use Rattle.std.proofs.Common.{rules}
use Rattle.laws.specs.Bodies.{long}
use Rattle.tables.proofs.Words.{body-none, body-fits, body-read}
use Rattle.tables.proofs.body_word.Goals as goal

pub size_of-requires : goal.size_of-requires
size_of-requires c = search (long, rules)

pub returns-then-size-i : goal.returns-then-size-i
returns-then-size-i c = search (body-none, rules)

pub offset_of-requires : goal.offset_of-requires
offset_of-requires c = search (long, rules)

pub word_at-requires : goal.word_at-requires
word_at-requires c = search (body-fits, rules)

pub returns : goal.returns
returns c = search (body-read, rules)
