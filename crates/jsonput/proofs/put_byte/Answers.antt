use Rattle.std.proofs.Common.{rules}
use Rattle.jsonput.specs.Put.{put_one}
use Rattle.jsonput.proofs.put_byte.Goals as goal

pub returns : goal.returns
returns c = search (put_one, rules)
