use Rattle.std.proofs.Common.{rules}
use Rattle.jsonroom.proofs.Records.{contents-written}
use Rattle.jsonroom.proofs.put_contents.Goals as goal

pub returns : goal.returns
returns c = search (contents-written, rules)
