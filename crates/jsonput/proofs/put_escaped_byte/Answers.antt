use Rattle.std.proofs.Common.{rules}
use Rattle.jsonput.specs.Laws.Strings.{marked-first, marked-second, marked-put, itself-room, itself-put}
use Rattle.jsonput.proofs.put_escaped_byte.Goals as goal

pub put_byte-next-requires : goal.put_byte-next-requires
put_byte-next-requires c = search (marked-first, rules)

pub put_byte-requires : goal.put_byte-requires
put_byte-requires c = search (marked-second, rules)

pub returns-then-is_marked : goal.returns-then-is_marked
returns-then-is_marked c = search (marked-put, rules)

pub put_byte-requires-2 : goal.put_byte-requires-2
put_byte-requires-2 c = search (itself-room, rules)

pub returns : goal.returns
returns c = search (itself-put, rules)
