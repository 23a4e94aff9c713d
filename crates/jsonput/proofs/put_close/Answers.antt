use Rattle.std.proofs.Common.{rules}
use Rattle.jsonput.specs.Laws.Values.{close-put}
use Rattle.jsonput.proofs.put_close.Goals as goal

pub returns : goal.returns
returns c = search (close-put, rules)
