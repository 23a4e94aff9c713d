use Rattle.std.proofs.Common.{rules}
use Rattle.jsonread.proofs.Firsts.{comma-end, comma-early, comma-due}
use Rattle.jsonread.proofs.begins.comma_at.Goals as goal

pub returns-then-line-at : goal.returns-then-line-at
returns-then-line-at c = search (comma-end, rules)

pub returns-then-line-at-eq93 : goal.returns-then-line-at-eq93
returns-then-line-at-eq93 c = search (comma-early, rules)

pub returns : goal.returns
returns c = search (comma-due, rules)
