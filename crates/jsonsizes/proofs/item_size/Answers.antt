use Rattle.std.proofs.Common.{rules}
use Rattle.jsonsizes.specs.Laws.Items.{held-few, name-few, array-item, object-item}
use Rattle.laws.specs.Checked.{checked-bodies}
use Rattle.jsonsizes.proofs.item_size.Goals as goal

pub member_word-requires : goal.member_word-requires
member_word-requires c = search (checked-bodies, rules)

pub counted-held-requires : goal.counted-held-requires
counted-held-requires c = search (held-few, rules)

pub returns-then-kind-lt7 : goal.returns-then-kind-lt7
returns-then-kind-lt7 c = search (array-item, rules)

pub member_word-requires-2 : goal.member_word-requires-2
member_word-requires-2 c = search (checked-bodies, rules)

pub counted-name-requires : goal.counted-name-requires
counted-name-requires c = search (name-few, rules)

pub returns : goal.returns
returns c = search (object-item, rules)
