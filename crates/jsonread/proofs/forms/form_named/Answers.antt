use Rattle.std.proofs.Common.{rules}
use Rattle.jsonread.proofs.Firsts.{named-entity, named-extension, named-plain}
use Rattle.jsonread.proofs.forms.form_named.Goals as goal

pub returns-then-is_word : goal.returns-then-is_word
returns-then-is_word c = search (named-entity, rules)

pub returns-then-is_word-2 : goal.returns-then-is_word-2
returns-then-is_word-2 c = search (named-extension, rules)

pub returns : goal.returns
returns c = search (named-plain, rules)
