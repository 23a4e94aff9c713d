use Rattle.std.proofs.Common.{rules}
use Rattle.marking.proofs.Tables.{known-between, known-beyond, known_at}
use Rattle.marking.proofs.ahead.Goals as goal

pub returns-then-at-ne0 : goal.returns-then-at-ne0
returns-then-at-ne0 c = search (known-between, rules)

pub returns-then-b-ge8192 : goal.returns-then-b-ge8192
returns-then-b-ge8192 c = search (known-beyond, rules)

pub returns : goal.returns
returns c = search (known_at, rules)
