use Rattle.std.proofs.Common.{rules}
use Rattle.carried.proofs.Asked.{ready_afresh, asked}
use Rattle.carried.proofs.turns.ask.Goals as goal

pub eval_condition-requires-clause-ready : goal.eval_condition-requires-clause-ready
eval_condition-requires-clause-ready c = search (ready_afresh, rules)

pub returns : goal.returns
returns c = search (asked, rules)
