use Rattle.std.proofs.Common.{rules}
use Rattle.jsonwrite.proofs.Whole.{log-due, trace-written}
use Rattle.jsonwrite.proofs.import.put_trace.Goals as goal

pub put_log-requires : goal.put_log-requires
put_log-requires c = search (log-due, rules)

pub returns : goal.returns
returns c = search (trace-written, rules)
