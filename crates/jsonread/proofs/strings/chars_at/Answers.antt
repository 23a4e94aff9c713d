use Rattle.std.proofs.Common.{rules}
use Rattle.jsonread.proofs.Chars.{chars-start, chars-end, chars-quote, chars-control, chars-escape_bad, chars-escape, escape-less, chars-wrong, chars-byte}
use Rattle.jsonread.proofs.Places.{passed}
use Rattle.jsonread.proofs.strings.chars_at.Goals as goal

pub loop-i-init : goal.loop-i-init
loop-i-init c = search (chars-start, rules)

pub returns-in-Quote : goal.returns-in-Quote
returns-in-Quote c = search (chars-quote, rules)

pub returns-in-Control : goal.returns-in-Control
returns-in-Control c = rw c.new.ensures (search (chars-control, rules))

pub returns-then-is_wrong : goal.returns-then-is_wrong
returns-then-is_wrong c = rw c.new-then-is_wrong.ensures (search (chars-wrong, rules))

pub loop-i-preserved : goal.loop-i-preserved
loop-i-preserved c = search (chars-byte, rules)

pub returns : goal.returns
returns c = rw c.new-2.ensures (search (chars-end, rules))

pub returns-in_err-next-in-Backslash : goal.returns-in_err-next-in-Backslash
returns-in_err-next-in-Backslash c = rw (passed c.from_residual.ensures.1) (search (chars-escape_bad, c.in_err-next-in-Backslash.was, rules))

pub loop-i-smaller-in-Backslash : goal.loop-i-smaller-in-Backslash
loop-i-smaller-in-Backslash c = search (escape-less, c.in_ok-next-in-Backslash.was, rules)

pub loop-i-preserved-in-Backslash : goal.loop-i-preserved-in-Backslash
loop-i-preserved-in-Backslash c = search (chars-escape, c.in_ok-next-in-Backslash.was, rules)
