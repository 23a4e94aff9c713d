use Rattle.std.proofs.Common.{rules}
use Rattle.jsonput.specs.Laws.Values.{comma-none, comma-room, comma-put}
use Rattle.jsonput.proofs.put_comma.Goals as goal

pub returns-then-i-eq0 : goal.returns-then-i-eq0
returns-then-i-eq0 c = search (comma-none, rules)

pub put_byte-requires : goal.put_byte-requires
put_byte-requires c = search (comma-room, rules)

pub returns-else-i-eq0 : goal.returns-else-i-eq0
returns-else-i-eq0 c = search (comma-put, rules)
