use Rattle.std.proofs.Common.{rules}
use Rattle.jsonsort.proofs.Keeping.{keep-due, keep-grown}
use Rattle.jsonsort.proofs.keep.Goals as goal

pub put_last-requires : goal.put_last-requires
put_last-requires c = search (keep-due, rules)

pub returns : goal.returns
returns c = search (keep-grown, rules)
