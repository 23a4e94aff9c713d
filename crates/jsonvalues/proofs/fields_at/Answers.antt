use Rattle.std.proofs.Common.{rules}
use Rattle.jsonvalues.proofs.Values.{fields-end, fields-not, fields-form, fields-plain}
use Rattle.jsonvalues.proofs.fields_at.Goals as goal

pub returns-then-line-at : goal.returns-then-line-at
returns-then-line-at c = rw c.new.ensures (search (fields-end, rules))

pub returns-then-c-ne123 : goal.returns-then-c-ne123
returns-then-c-ne123 c = rw c.new-then-c-ne123.ensures (search (fields-not, rules))

pub returns-in-Plain : goal.returns-in-Plain
returns-in-Plain c = search (fields-plain, rules)

pub returns-in_default : goal.returns-in_default
returns-in_default c = rw c.new-in_default.ensures (search (fields-form, rules))
