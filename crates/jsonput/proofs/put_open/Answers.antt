use Rattle.std.proofs.Common.{rules}
use Rattle.jsonput.specs.Laws.Values.{open_put}
use Rattle.jsonput.proofs.put_open.Goals as goal

pub returns : goal.returns
returns c = search (open_put, rules)
