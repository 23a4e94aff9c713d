use Rattle.std.proofs.Common.{rules}
use Rattle.laws.specs.Checked.{checked-bodies, checked-strings}
use Rattle.leaf_table.proofs.replay.reading.Goals as goal

pub text_of-requires : goal.text_of-requires
text_of-requires c = search (checked-bodies, checked-strings, rules)
