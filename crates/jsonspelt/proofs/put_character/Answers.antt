use Rattle.std.proofs.Common.{rules}
use Rattle.jsonspelt.proofs.Characters.{room-one, room-two, room-three, room-four, put_one, put_two, put_three, put_four}
use Rattle.jsonspelt.proofs.put_character.Goals as goal

pub bounds-out-at : goal.bounds-out-at
bounds-out-at c = search (room-one, rules)

pub returns-then-u-lt128 : goal.returns-then-u-lt128
returns-then-u-lt128 c = search (put_one, rules)

pub put_two-requires : goal.put_two-requires
put_two-requires c = search (room-two, rules)

pub returns-then-u-lt2048 : goal.returns-then-u-lt2048
returns-then-u-lt2048 c = search (put_two, rules)

pub put_three-requires : goal.put_three-requires
put_three-requires c = search (room-three, rules)

pub returns-then-u-lt65536 : goal.returns-then-u-lt65536
returns-then-u-lt65536 c = search (put_three, rules)

pub put_four-requires : goal.put_four-requires
put_four-requires c = search (room-four, rules)

pub returns-else-u-lt65536 : goal.returns-else-u-lt65536
returns-else-u-lt65536 c = search (put_four, rules)
