-- A node is read of its words, or is Broken beyond the table
use Rattle.std.proofs.Common.{rules}
use Rattle.laws.specs.Bodies.{long}
use Rattle.tables.proofs.Records.{node-none, node-first, node-fits, node-whole}
use Rattle.tables.proofs.node_at.Goals as goal

pub size_of-requires : goal.size_of-requires
size_of-requires c = search (long, rules)

pub returns-then-size-k : goal.returns-then-size-k
returns-then-size-k c = search (node-none, rules)

pub offset_of-requires : goal.offset_of-requires
offset_of-requires c = search (long, rules)

pub word_at-requires : goal.word_at-requires
word_at-requires c = search (node-first, rules)

pub word_at-requires-2 : goal.word_at-requires-2
word_at-requires-2 c = search (node-fits, rules)

pub word_at-requires-3 : goal.word_at-requires-3
word_at-requires-3 c = search (node-fits, rules)

pub word_at-requires-4 : goal.word_at-requires-4
word_at-requires-4 c = search (node-fits, rules)

pub word_at-requires-5 : goal.word_at-requires-5
word_at-requires-5 c = search (node-fits, rules)

pub word_at-requires-6 : goal.word_at-requires-6
word_at-requires-6 c = search (node-fits, rules)

pub word_at-requires-7 : goal.word_at-requires-7
word_at-requires-7 c = search (node-fits, rules)

pub returns : goal.returns
returns c = search (node-whole, rules)
