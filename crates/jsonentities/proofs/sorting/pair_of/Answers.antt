use Rattle.std.proofs.Common.{rules}
use Rattle.jsonentities.proofs.Comparing.{pair-past, pair-type, pair-comma, pair-told}
use Rattle.jsonentities.proofs.sorting.pair_of.Goals as goal

pub skip_blanks-kind-requires : goal.skip_blanks-kind-requires
skip_blanks-kind-requires c = search (pair-past, rules)

pub string_end-requires : goal.string_end-requires
string_end-requires c = search (pair-type, rules)

pub after_sign-requires : goal.after_sign-requires
after_sign-requires c = search (pair-comma, rules)

pub returns : goal.returns
returns c = search (pair-told, rules)
