use Rattle.std.proofs.Common.{rules}
use Rattle.jsonread.proofs.Places.{passed}
use Rattle.jsonlines.proofs.Entries.{name_bad, name-read}
use Rattle.jsonlines.proofs.events.name_at.Goals as goal

pub returns-in_err-v : goal.returns-in_err-v
returns-in_err-v c = rw (passed c.from_residual.ensures.1) (search (name_bad, c.in_err-v.was, rules))

pub returns : goal.returns
returns c = search (name-read, c.in_ok-v.was, rules)
