use Rattle.std.proofs.Common.{rules}
use Rattle.jsonroom.proofs.Records.{spans-written}
use Rattle.jsonroom.proofs.put_spans.Goals as goal

pub returns : goal.returns
returns c = search (spans-written, rules)
