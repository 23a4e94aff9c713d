-- A text is UTF-8: at once where all bytes are below 128, else letter by letter
use Rattle.std.proofs.Common.{rules}
use Rattle.stringcheck.proofs.Letters.{low-bytes}
use Rattle.stringcheck.proofs.is_utf8.Goals as goal

pub returns-then-greatest_byte-lt128 : goal.returns-then-greatest_byte-lt128
returns-then-greatest_byte-lt128 c = search (low-bytes, rules)
