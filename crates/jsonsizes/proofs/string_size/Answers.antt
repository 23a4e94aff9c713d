use Rattle.std.proofs.Common.{rules}
use Rattle.jsonsizes.specs.Laws.Leaves.{quoted-size}
use Rattle.laws.specs.Checked.{checked-bodies, checked-strings}
use Rattle.jsonsizes.proofs.string_size.Goals as goal

pub text_of-requires : goal.text_of-requires
text_of-requires c = search (checked-bodies, checked-strings, rules)

pub returns : goal.returns
returns c = search (quoted-size, rules)
