use Rattle.std.proofs.Common.{rules}
use Rattle.jsonput.specs.Laws.Numbers.{tenth_falls, digit_room, digit-put, higher-room, last-room, digits-put}
use Rattle.jsonput.proofs.+put_natural.Goals as goal

pub put_byte-requires : goal.put_byte-requires
put_byte-requires t c = search (digit_room, rules)

pub returns-then-n-lt10 : goal.returns-then-n-lt10
returns-then-n-lt10 t c = search (digit-put, rules)

pub put_natural-last-requires : goal.put_natural-last-requires
put_natural-last-requires t c = search (tenth_falls, higher-room, rules)

pub put_byte-requires-2 : goal.put_byte-requires-2
put_byte-requires-2 t c = search (last-room, rules)

pub returns : goal.returns
returns t c = search (digits-put, rules)
