use Rattle.std.proofs.Common.{rules}
use Rattle.jsonentities.proofs.Comparing.{type-less, type-more, id-less, id_same, id-more}
use Rattle.jsonentities.proofs.sorting.is_before.Goals as goal

pub returns-in-Less : goal.returns-in-Less
returns-in-Less c = search (type-less, rules)

pub returns-in-Greater : goal.returns-in-Greater
returns-in-Greater c = search (type-more, rules)

pub returns-in-Less-compare : goal.returns-in-Less-compare
returns-in-Less-compare c = search (id-less, rules)

pub returns-in-Equal-compare : goal.returns-in-Equal-compare
returns-in-Equal-compare c = search (id_same, rules)

pub returns-in-Greater-compare : goal.returns-in-Greater-compare
returns-in-Greater-compare c = search (id-more, rules)
