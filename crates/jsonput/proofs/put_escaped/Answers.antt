use Rattle.std.proofs.Common.{rules}
use Rattle.jsonput.specs.Laws.Strings.{escaping_none, escaping_room, escaping_more, escaping_all}
use Rattle.jsonput.proofs.put_escaped.Goals as goal

pub loop-c-init : goal.loop-c-init
loop-c-init c = search (escaping_none, rules)

pub put_escaped_byte-next-requires : goal.put_escaped_byte-next-requires
put_escaped_byte-next-requires c = search (escaping_room, rules)

pub loop-c-preserved : goal.loop-c-preserved
loop-c-preserved c = search (escaping_more, rules)

pub returns : goal.returns
returns c = search (escaping_all, rules)
