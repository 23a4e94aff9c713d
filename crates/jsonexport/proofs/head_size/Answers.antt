use Rattle.std.proofs.Common.{rules}
use Rattle.jsonexport.specs.Laws.{words_of, head-size}
use Rattle.laws.specs.Checked.{checked-bodies}
use Rattle.jsonexport.proofs.head_size.Goals as goal

pub point_word-requires : goal.point_word-requires
point_word-requires c = search (checked-bodies, rules)

pub point_word-requires-2 : goal.point_word-requires-2
point_word-requires-2 c = search (checked-bodies, rules)

pub point_word-first-requires : goal.point_word-first-requires
point_word-first-requires c = search (checked-bodies, rules)

pub point_word-items-requires : goal.point_word-items-requires
point_word-items-requires c = search (checked-bodies, rules)

pub words_size-requires-clause-words : goal.words_size-requires-clause-words
words_size-requires-clause-words c = search (words_of, rules)

pub returns : goal.returns
returns c = search (head-size, rules)
