use Rattle.std.proofs.Common.{rules}
use Rattle.jsonpoints.specs.Laws.{putting_none, words-room, words_more, putting_all}
use Rattle.jsonpoints.proofs.put_words.Goals as goal

pub loop-i-init : goal.loop-i-init
loop-i-init c = search (putting_none, rules)

pub put_word-next-requires-clause-m_in_bounds : goal.put_word-next-requires-clause-m_in_bounds
put_word-next-requires-clause-m_in_bounds c = search (words-room, rules)

pub loop-i-preserved : goal.loop-i-preserved
loop-i-preserved c = search (words_more, rules)

pub returns : goal.returns
returns c = search (putting_all, rules)
