use Rattle.std.proofs.Common.{rules}
use Rattle.jsonread.proofs.Places.{passed}
use Rattle.jsonkeys.proofs.Cells.{passed-within}
use Rattle.jsonlines.proofs.Lines.{line_bad, line-more, line-ended}
use Rattle.jsonlines.proofs.events.line_at.Goals as goal

pub returns-in_err-e : goal.returns-in_err-e
returns-in_err-e c = rw (passed c.from_residual.ensures.1) (search (line_bad, c.in_err-e.was, rules))

pub skip_blanks-i-requires : goal.skip_blanks-i-requires
skip_blanks-i-requires c = search (passed-within, c.in_ok-e.was, rules)

pub returns-then-i-line : goal.returns-then-i-line
returns-then-i-line c = rw c.new.ensures (search (line-more, c.in_ok-e.was, rules))

pub returns : goal.returns
returns c = search (line-ended, c.in_ok-e.was, rules)
