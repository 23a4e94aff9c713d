use Rattle.std.proofs.Common.{rules}
use Rattle.jsonspelt.proofs.Characters.{bytes_one, bytes-two, bytes-three, bytes-four}
use Rattle.jsonspelt.proofs.character_bytes.Goals as goal

pub returns-then-u-lt128 : goal.returns-then-u-lt128
returns-then-u-lt128 c = search (bytes_one, rules)

pub returns-then-u-lt2048 : goal.returns-then-u-lt2048
returns-then-u-lt2048 c = search (bytes-two, rules)

pub returns-then-u-lt65536 : goal.returns-then-u-lt65536
returns-then-u-lt65536 c = search (bytes-three, rules)

pub returns-else-u-lt65536 : goal.returns-else-u-lt65536
returns-else-u-lt65536 c = search (bytes-four, rules)
