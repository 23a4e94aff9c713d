use Rattle.std.proofs.Common.{rules}
use Rattle.numbers.proofs.Reading.{natural-start, natural-far, natural-more, natural-end, digits-at}
use Rattle.numbers.proofs.decimals.natural.Goals as goal

pub loop-b-init : goal.loop-b-init
loop-b-init c = search (natural-start, rules)

pub returns-then-n-ge100000000000000 : goal.returns-then-n-ge100000000000000
returns-then-n-ge100000000000000 c = search (natural-far, rules)

pub digit-requires : goal.digit-requires
digit-requires c = search (digits-at, rules)

pub loop-b-preserved : goal.loop-b-preserved
loop-b-preserved c = search (natural-more, rules)

pub returns : goal.returns
returns c = search (natural-end, rules)
