use Rattle.std.proofs.Common.{rules}
use Rattle.casewrite.proofs.Rules.{points-against, nodes-broken, nodes-against, none-against}
use Rattle.casewrite.proofs.against_marks.Goals as goal
use Rattle.casewrite.proofs.against_marks.Goals.{else-pass-via-then-pass+else-nodes_marked, else-pass-via-else-pass}

pub returns-then-not-points_marked : goal.returns-then-not-points_marked
returns-then-not-points_marked c = search (points-against, rules)

pub returns-then-nodes_marked : goal.returns-then-nodes_marked
returns-then-nodes_marked c = search (none-against, rules)

pub returns-else-pass : goal.returns-else-pass
returns-else-pass c = elim c.else-pass.branch [
  | else-pass-via-then-pass+else-nodes_marked w ↦ nodes-against _ _ _ c.points_marked.ensures c.if-not-points_marked.false w.if-pass.true w.nodes_marked.ensures w.if-nodes_marked.false
  | else-pass-via-else-pass w ↦ nodes-broken _ _ _ c.points_marked.ensures c.if-not-points_marked.false w.if-pass.false
]
