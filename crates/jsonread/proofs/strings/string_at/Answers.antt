use Rattle.std.proofs.Common.{rules}
use Rattle.jsonread.proofs.Places.{passed, told-within}
use Rattle.jsonread.proofs.Chars.{string-none, string-chars}
use Rattle.jsonread.proofs.strings.string_at.Goals as goal

pub chars_at-requires : goal.chars_at-requires
chars_at-requires c = search (told-within, c.in_ok-i.was, rules)

pub returns-in_err-i : goal.returns-in_err-i
returns-in_err-i c = rw (passed c.from_residual.ensures.1) (search (string-none, c.in_err-i.was, rules))

pub returns : goal.returns
returns c = search (string-chars, c.in_ok-i.was, rules)
