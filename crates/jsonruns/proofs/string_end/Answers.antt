use Rattle.std.proofs.Common.{rules}
use Rattle.jsonruns.proofs.Pairs.{string-ends}
use Rattle.jsonruns.proofs.string_end.Goals as goal

pub returns : goal.returns
returns c = search (string-ends, rules)
