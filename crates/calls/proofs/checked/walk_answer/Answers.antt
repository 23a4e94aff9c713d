use Rattle.std.proofs.Common.{rules}
use Rattle.laws.specs.Checked.{checked-bodies}
use Rattle.calls.proofs.Asked.{ready-started, answer-number, number-stopped, answer-verdict, verdict-stopped}
use Rattle.evaluator.proofs.Walks.{passed}
use Rattle.calls.proofs.checked.walk_answer.Goals as goal

pub node_at-asked-requires : goal.node_at-asked-requires
node_at-asked-requires c = search (checked-bodies, rules)

pub eval_agg_expr-requires : goal.eval_agg_expr-requires
eval_agg_expr-requires c = search (ready-started, rules)

pub returns-then-is_aggregate : goal.returns-then-is_aggregate
returns-then-is_aggregate c = search (answer-number, c.in_ok-bits.was, rules)

pub returns-in_err-bits : goal.returns-in_err-bits
returns-in_err-bits c = rw (passed _ c.from_residual.ensures) (search (number-stopped, c.in_err-bits.was, rules))

pub eval_condition-requires : goal.eval_condition-requires
eval_condition-requires c = search (ready-started, rules)

pub returns-in_err-yes : goal.returns-in_err-yes
returns-in_err-yes c = rw (passed _ c.from_residual-in_err-yes.ensures) (search (verdict-stopped, c.in_err-yes.was, rules))

pub returns : goal.returns
returns c = search (answer-verdict, c.in_ok-yes.was, rules)
