use Rattle.std.proofs.Common.{rules}
use Rattle.jsonroom.proofs.Records.{front-written}
use Rattle.jsonroom.proofs.put_front.Goals as goal

pub returns : goal.returns
returns c = search (front-written, rules)
