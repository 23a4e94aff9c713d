use Rattle.std.proofs.Common.{rules}
use Rattle.jsonlines.proofs.Naming.{if_this, if_other}
use Rattle.jsonlines.proofs.fields.if_word.Goals as goal

pub returns-then-is_word : goal.returns-then-is_word
returns-then-is_word c = search (if_this, rules)

pub returns-else-is_word : goal.returns-else-is_word
returns-else-is_word c = search (if_other, rules)
