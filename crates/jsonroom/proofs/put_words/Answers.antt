use Rattle.std.proofs.Common.{rules}
use Rattle.jsonroom.proofs.Records.{wording_start, wording_more, wording_end}
use Rattle.jsonroom.proofs.put_words.Goals as goal

pub loop-i-init : goal.loop-i-init
loop-i-init c = search (wording_start, rules)

pub loop-i-preserved : goal.loop-i-preserved
loop-i-preserved c = search (wording_more, rules)

pub returns : goal.returns
returns c = search (wording_end, rules)
