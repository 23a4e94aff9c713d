use Rattle.std.proofs.Common.{◌≡◌, rules, arith, to_z, pos, ◌<ℤ◌, unsigned_abs}
use Rattle.std.specs.Int.{w64}
use Rattle.std.proofs.lemmas.Int.{ints, to_z-of_z}
use Rattle.jsontrace.specs.Text.{integer}
use Rattle.jsonput.specs.Laws.Numbers.{minus-room, negative-put}
use Rattle.jsonput.proofs.put_integer.Goals as goal

pub put_byte-first-requires : goal.put_byte-first-requires
put_byte-first-requires c = let low : to_z w64 c.args.bits <ℤ pos 0 = grind (arith, ints, to_z-of_z) in search (minus-room, rules)

pub returns-then-n-lt0 : goal.returns-then-n-lt0
returns-then-n-lt0 c = let low : to_z w64 c.args.bits <ℤ pos 0 = grind (arith, ints, to_z-of_z) in let size : c.unsigned_abs.result ≡ unsigned_abs (to_z w64 c.args.bits) = grind (arith, to_z-of_z) in search (negative-put, rules)

pub returns : goal.returns
unfolding integer
returns c = search rules

pub put_natural-requires : goal.put_natural-requires
unfolding integer
put_natural-requires c = search rules

pub put_natural-requires-2 : goal.put_natural-requires-2
unfolding integer
put_natural-requires-2 c = search rules
