use Rattle.std.proofs.Common.{rules}
use Rattle.stringcheck.proofs.Letters.{letter-no, letter-more, letters_end}
use Rattle.stringcheck.proofs.are_letters.Goals as goal

pub returns-then-n-eq0 : goal.returns-then-n-eq0
returns-then-n-eq0 c = search (letter-no, rules)

pub loop-i-preserved : goal.loop-i-preserved
loop-i-preserved c = search (letter-more, rules)

pub returns : goal.returns
returns c = search (letters_end, rules)
