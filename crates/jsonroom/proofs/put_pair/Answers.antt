use Rattle.std.proofs.Common.{rules}
use Rattle.jsonroom.proofs.Records.{pair-written}
use Rattle.jsonroom.proofs.put_pair.Goals as goal

pub returns : goal.returns
returns c = search (pair-written, rules)
