use Rattle.std.proofs.Common.{rules}
use Rattle.finish.proofs.Whole.{head-room, head-rest, contents-none, contents-room, size_few, at-few, contents-more, contents-all}
use Rattle.finish.proofs.put_contents.Goals as goal

pub put_word-requires : goal.put_word-requires
put_word-requires c = search (head-room, rules)

pub put_word-requires-2 : goal.put_word-requires-2
put_word-requires-2 c = search (head-rest, rules)

pub loop-k-init : goal.loop-k-init
loop-k-init c = search (contents-none, rules)

pub put_place-requires : goal.put_place-requires
put_place-requires c = search (contents-room, size_few, at-few, rules)

pub loop-k-preserved : goal.loop-k-preserved
loop-k-preserved c = search (contents-more, rules)

pub returns : goal.returns
returns c = search (contents-all, rules)
