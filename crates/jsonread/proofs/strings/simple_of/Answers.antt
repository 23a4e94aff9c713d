use Rattle.std.proofs.Common.{rules}
use Rattle.jsonread.proofs.Hex.{simple-quote, simple_backslash, simple_slash, simple_backspace, simple_feed, simple-line, simple_return, simple-tab, simple-none}
use Rattle.jsonread.proofs.strings.simple_of.Goals as goal

pub returns-in-34 : goal.returns-in-34
returns-in-34 c = search (simple-quote, rules)

pub returns-in-92 : goal.returns-in-92
returns-in-92 c = search (simple_backslash, rules)

pub returns-in-47 : goal.returns-in-47
returns-in-47 c = search (simple_slash, rules)

pub returns-in-98 : goal.returns-in-98
returns-in-98 c = search (simple_backspace, rules)

pub returns-in-102 : goal.returns-in-102
returns-in-102 c = search (simple_feed, rules)

pub returns-in-110 : goal.returns-in-110
returns-in-110 c = search (simple-line, rules)

pub returns-in-114 : goal.returns-in-114
returns-in-114 c = search (simple_return, rules)

pub returns-in-116 : goal.returns-in-116
returns-in-116 c = search (simple-tab, rules)

pub returns-in_default : goal.returns-in_default
returns-in_default c = search (simple-none, rules)
