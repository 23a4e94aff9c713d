use Rattle.std.proofs.Common.{rules}
use Rattle.jsonput.specs.Laws.Strings.{high-room, high-put}
use Rattle.jsonput.proofs.put_high.Goals as goal

pub put_byte-requires : goal.put_byte-requires
put_byte-requires c = search (high-room, rules)

pub returns : goal.returns
returns c = search (high-put, rules)
