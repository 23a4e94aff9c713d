use Rattle.std.proofs.Common.{rules}
use Rattle.jsonnames.proofs.Joins.{later_more, later-less, later_same}
use Rattle.jsonnames.proofs.merges.comes_last.Goals as goal

pub returns-in-Greater : goal.returns-in-Greater
returns-in-Greater c = search (later_more, rules)

pub returns-in-Equal : goal.returns-in-Equal
returns-in-Equal c = search (later_same, rules)

pub returns-in-Less : goal.returns-in-Less
returns-in-Less c = search (later-less, rules)
