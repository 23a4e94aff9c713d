use Rattle.std.proofs.Common.{rules}
use Rattle.jsonruns.proofs.Signs.{good-end}
use Rattle.jsontotal.proofs.fields.time_end.Goals as goal

pub returns : goal.returns
returns c = search (good-end, rules)
