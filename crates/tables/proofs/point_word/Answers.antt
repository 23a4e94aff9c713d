use Rattle.std.proofs.Common.{rules}
use Rattle.meaning.specs.Case.{point_word}
use Rattle.laws.specs.Bodies.{long}
use Rattle.tables.proofs.Words.{no-point, no-point-word}
use Rattle.tables.proofs.point_word.Goals.{then-size-j-via-then-size-j, then-size-j-via-else-size-j+then-size-p}
use Rattle.tables.proofs.point_word.Goals as goal

pub size_of-requires : goal.size_of-requires
size_of-requires c = search (long, rules)

pub returns-then-size-j : goal.returns-then-size-j
returns-then-size-j c = elim c.then-size-j.branch [
  | then-size-j-via-then-size-j w ↦ search (no-point-word, rules)
  | then-size-j-via-else-size-j+then-size-p w ↦ search (no-point, rules)
]

pub returns : goal.returns
unfolding point_word
returns c = search rules
