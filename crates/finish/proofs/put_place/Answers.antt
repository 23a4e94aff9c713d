use Rattle.std.proofs.Common.{rules}
use Rattle.finish.proofs.Parts.{place-written}
use Rattle.finish.proofs.put_place.Goals as goal

pub returns : goal.returns
returns c = search (place-written, rules)
