use Rattle.std.proofs.Common.{rules}
use Rattle.finish.proofs.Parts.{filling_none, text-fits, text-more, text-all}
use Rattle.finish.proofs.put_text.Goals as goal

pub loop-i-init : goal.loop-i-init
loop-i-init c = search (filling_none, rules)

pub copy_text-next-requires : goal.copy_text-next-requires
copy_text-next-requires c = search (text-fits, rules)

pub loop-i-preserved : goal.loop-i-preserved
loop-i-preserved c = search (text-more, rules)

pub returns : goal.returns
returns c = search (text-all, rules)
