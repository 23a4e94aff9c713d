use Rattle.std.proofs.Common.{rules}
use Rattle.jsonread.proofs.Ahead.{inside-quote, inside_slash, inside-other}
use Rattle.jsonread.proofs.forms.inside_after.Goals as goal

pub returns-then-c-eq34 : goal.returns-then-c-eq34
returns-then-c-eq34 c = search (inside-quote, rules)

pub returns-then-c-eq92 : goal.returns-then-c-eq92
returns-then-c-eq92 c = search (inside_slash, rules)

pub returns : goal.returns
returns c = search (inside-other, rules)
