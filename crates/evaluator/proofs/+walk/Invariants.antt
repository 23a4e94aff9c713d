use Rattle.evaluator.proofs.Keeping.{GoesKeep}
use Rattle.evaluator.proofs.Loops.{GoesEach, GoesUp, rows_of, keeps_of}
use Rattle.evaluator.proofs.Verdicts.{Goes, GoesAll, for, anchors as sinces}
use Prim.Native.Nat.{◌+◌, ◌*◌, max}
use Rattle.evaluator.proofs.+walk.Given as goal

abbrev pub decreases-and : goal.decreases-and
decreases-and l = 8 * max l.l.0 l.r.0 + 1

abbrev pub decreases-arith : goal.decreases-arith
decreases-arith l = 8 * max l.l.0 l.r.0 + 1

abbrev pub decreases-each : goal.decreases-each
decreases-each l = 8 * l.r.0 + 4

abbrev pub decreases-eq_binding : goal.decreases-eq_binding
decreases-eq_binding l = 8 * l.n.0 + 2

abbrev pub decreases-eval_agg_expr : goal.decreases-eval_agg_expr
decreases-eval_agg_expr l = 8 * l.n.0

abbrev pub decreases-eval_comparison : goal.decreases-eval_comparison
decreases-eval_comparison l = 8 * max l.l.0 l.r.0 + 1

abbrev pub decreases-eval_condition : goal.decreases-eval_condition
decreases-eval_condition l = 8 * l.n.0

abbrev pub decreases-filter_witness : goal.decreases-filter_witness
decreases-filter_witness l = 8 * l.n.0 + 1

abbrev pub decreases-finds : goal.decreases-finds
decreases-finds l = 8 * l.x.0 + 4

abbrev pub decreases-formerly : goal.decreases-formerly
decreases-formerly l = 8 * l.x.0 + 2

abbrev pub decreases-join : goal.decreases-join
decreases-join l = 8 * max l.l.0 l.r.0 + 5

abbrev pub decreases-lasts : goal.decreases-lasts
decreases-lasts l = 8 * l.l.0 + 1

abbrev pub decreases-match_occurrences : goal.decreases-match_occurrences
decreases-match_occurrences l = 8 * l.n.0 + 3

abbrev pub decreases-or : goal.decreases-or
decreases-or l = 8 * max l.l.0 l.r.0 + 1

abbrev pub decreases-resolve_term : goal.decreases-resolve_term
decreases-resolve_term l = 8 * l.t.0

abbrev pub decreases-rows_up : goal.decreases-rows_up
decreases-rows_up l = 8 * l.x.0 + 5

abbrev pub decreases-since : goal.decreases-since
decreases-since l = 8 * max l.l.0 l.r.0 + 3

abbrev pub decreases-since_up : goal.decreases-since_up
decreases-since_up l = 8 * max l.l.0 l.r.0 + 6

abbrev pub decreases-turn : goal.decreases-turn
decreases-turn l = 8 * max l.l.0 l.r.0 + 5

abbrev pub decreases-union : goal.decreases-union
decreases-union l = 8 * max l.l.0 l.r.0 + 4

abbrev pub invariant-each-loop-k : goal.invariant-each-loop-k
invariant-each-loop-k l = GoesEach l.s l.call l.env l.r.0 l.i l.base l.initial.so_far l.initial.work l.k l.so_far l.work

abbrev pub invariant-formerly-loop-call : goal.invariant-formerly-loop-call
invariant-formerly-loop-call l = Goes l.s l.call l.env (for l.x.0) l.span l.here l.i l.initial.mn l.initial.work l.n l.mn l.work

abbrev pub decreases-formerly-loop-call : goal.decreases-formerly-loop-call
decreases-formerly-loop-call l = l.n

abbrev pub invariant-lasts-loop-k : goal.invariant-lasts-loop-k
invariant-lasts-loop-k l = GoesAll l.s l.call l.env l.l.0 l.i l.j l.initial.mk l.initial.work l.k l.mk l.work

abbrev pub invariant-rows_up-loop-j : goal.invariant-rows_up-loop-j
invariant-rows_up-loop-j l = GoesUp l.s l.call l.env (rows_of l.x.0) l.span l.here l.i l.initial.mj l.initial.work l.j l.mj l.work

abbrev pub invariant-since-loop-call : goal.invariant-since-loop-call
invariant-since-loop-call l = Goes l.s l.call l.env (sinces l.l.0 l.r.0) l.span l.here l.i l.initial.mn l.initial.work l.n l.mn l.work

abbrev pub decreases-since-loop-call : goal.decreases-since-loop-call
decreases-since-loop-call l = l.n

abbrev pub invariant-since_up-loop-j : goal.invariant-since_up-loop-j
invariant-since_up-loop-j l = GoesUp l.s l.call l.env (keeps_of l.l.0 l.r.0) l.span l.here l.i l.initial.mj l.initial.work l.j l.mj l.work

abbrev pub invariant-turn-loop-h : goal.invariant-turn-loop-h
invariant-turn-loop-h l = GoesKeep l.s l.call l.env l.l.0 l.i l.j l.base l.h-end l.initial.top l.initial.mh l.initial.work l.top l.h l.mh l.work
