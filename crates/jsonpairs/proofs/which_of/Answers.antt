use Rattle.std.proofs.Common.{rules}
use Rattle.jsonpairs.proofs.Words.{is_fn, is_arg, no_fn_arg, is-type, is-id, no-type-id}
use Rattle.jsonpairs.proofs.which_of.Goals as goal

pub returns-then-is_word : goal.returns-then-is_word
returns-then-is_word c = search (is_fn, rules)

pub returns-then-is_word-2 : goal.returns-then-is_word-2
returns-then-is_word-2 c = search (is_arg, rules)

pub returns-then-extension : goal.returns-then-extension
returns-then-extension c = search (no_fn_arg, rules)

pub returns-then-is_word-3 : goal.returns-then-is_word-3
returns-then-is_word-3 c = search (is-type, rules)

pub returns-then-is_word-4 : goal.returns-then-is_word-4
returns-then-is_word-4 c = search (is-id, rules)

pub returns : goal.returns
returns c = search (no-type-id, rules)
