use Rattle.std.proofs.Common.{rules, refl}
use Rattle.evaluator.proofs.Keeping.{keep-go, ask_anchor, ask_kept, keep-no, keep-yes, anchors-stop, anchors-refused, anchors-end}
use Rattle.evaluator.proofs.Asked.{fit-after-both, rows-room, joined-more, joined-room, ask_trim, ask_project, ask_count, ask_sum, ask_extend, ask_join, fit-still, fit-resolved}
use Rattle.evaluator.proofs.Terms.{term-number, term-number-stop, term-arithmetic, term-settled, term-leaf, arith-stop, arith-none, arith-right-stop, arith-end, number-stop, number-other, sum-stop, sum-end, count-stop, count-end}
use Rattle.evaluator.proofs.Dispatch.{exists_in, rows-stop, rows-and, rows_or, rows-formerly, rows-previous, rows-no-previous, rows-since, rows_exists, rows-not, rows_other, rows-predicate-yes, rows-predicate-no, rows-elsewhere, rows_tp_yes, rows_tp_no, rows_left, rows_right, rows-neither}
use Rattle.evaluator.proofs.Loops.{each-go, each-end, each-stop, each_next, up_go, up_more, up_end, up-stop, since-up-more, since-up-end, since-up-stop, base_below}
use Rattle.evaluator.proofs.Relations.{ready-rows, rows_more, fit-match, filter_stop, filter_no, filter_yes, bind_stop', bind_none, bind_some, rows_inside, rows-outside, or_left-stop, or_right-stop, or_end, and-left-stop, and-right-stop, and-end}
use Rattle.evaluator.proofs.Scans.{since-ready, since-more, since-yes, since-refused, since-same, standing, scan_holds, scan_told-yes, scan_told-no, scan_less, scan_none, scan_ready, scan_low, scan_below, scan_yes, scan_no, scan_stop}
use Rattle.evaluator.proofs.Verdicts.{ready-still, stop, by_and, by_or, by-not, by-not-stop, by-formerly, by-previous, by-no-previous, earlier-below, by-since, by_exists, by_comparison, by-predicate, by-elsewhere, by_tp, by-other, lent-stop, lent-yes, lent-no, lent-elsewhere, both-stop, both_yes, both-no, either-stop, either-yes, either-no, go, all_go, all_end, all-next, all-no, all-stop, all-told-yes, all-told-no, compare_left-stop, compare_right-stop, compare_end, ready-resolved}
use Rattle.evaluator.proofs.Nodes.{whole, ready-step, ready_env, fall_not, fall_formerly, fall_previous, fall_exists, fall_and, fall_or, fall_since, fall_comparison, still-below, up-below, next-below, drop-formerly, drop-previous, drop_exists, drop-and, drop_or, drop-since, low-left, low-right, fall_aggregate, fall_arithmetic, fall_sum, fall_count}
use Rattle.matching.specs.Laws.{predicate-arguments}
use native.Mathlib.Omega.{arith}
use Rattle.evaluator.proofs.Walks.{passed}
use Rattle.evaluator.proofs.+walk.Goals as goal

pub and-node_at-left-requires : goal.and-node_at-left-requires
and-node_at-left-requires t c = search (whole, rules)

pub and-returns-then-call-m : goal.and-returns-then-call-m
and-returns-then-call-m t c = search (lent-stop, rules)

pub and-match_args-requires : goal.and-match_args-requires
and-match_args-requires t c = search (predicate-arguments, rules)

pub and-lend-lent-requires : goal.and-lend-lent-requires
and-lend-lent-requires t c = search rules

pub and-eval_condition-requires : goal.and-eval_condition-requires
and-eval_condition-requires t c = search (ready_env, ready-step, rules)

pub and-returns-in-Some : goal.and-returns-in-Some
and-returns-in-Some t c = search (lent-yes, rules) fits 4000

pub and-returns-in_default-match_args : goal.and-returns-in_default-match_args
and-returns-in_default-match_args t c = search (lent-no, rules) fits 4000

pub and-returns-else-same_event : goal.and-returns-else-same_event
and-returns-else-same_event t c = search (lent-elsewhere, rules)

pub and-returns-in_err-b : goal.and-returns-in_err-b
and-returns-in_err-b t c = rw (passed _ c.from_residual.ensures) (both-stop c.requires.ready c.node_at-left.ensures (search rules) c.eval_condition-2.ensures c.in_err-b.was)

pub and-returns-then-not-b : goal.and-returns-then-not-b
and-returns-then-not-b t c = both-no c.requires.ready c.node_at-left.ensures (search rules) c.eval_condition-2.ensures c.in_ok-b.was c.if-not-b.true

pub and-returns : goal.and-returns
and-returns t c = both_yes c.requires.ready c.node_at-left.ensures (search rules) c.eval_condition-2.ensures c.in_ok-b.was c.if-not-b.false c.eval_condition-3.ensures

pub or-returns-then-b : goal.or-returns-then-b
or-returns-then-b t c = search (either-yes, c.in_ok-b.was, rules)

pub or-eval_condition-requires-2 : goal.or-eval_condition-requires-2
or-eval_condition-requires-2 t c = search (ready-still, c.in_ok-b.was, rules)

pub or-returns : goal.or-returns
or-returns t c = search (either-no, c.in_ok-b.was, rules)

pub or-returns-in_err-b : goal.or-returns-in_err-b
or-returns-in_err-b t c = rw (passed _ c.from_residual.ensures) (search (either-stop, c.in_err-b.was, rules))

pub arith-resolve_term-requires-2 : goal.arith-resolve_term-requires-2
arith-resolve_term-requires-2 t c = search (ready-resolved, c.in_ok-a.was, rules)

pub arith-returns : goal.arith-returns
arith-returns t c = search (arith-end, c.in_ok-a.was, c.in_ok-b.was, rules)

pub arith-returns-in_err-b : goal.arith-returns-in_err-b
arith-returns-in_err-b t c = rw (passed _ c.from_residual-in_err-b.ensures) (search (arith-right-stop, c.in_ok-a.was, c.in_err-b.was, rules))

pub arith-returns-then-not-is_int : goal.arith-returns-then-not-is_int
arith-returns-then-not-is_int t c = search (arith-none, c.in_ok-a.was, rules)

pub arith-returns-in_err-a : goal.arith-returns-in_err-a
arith-returns-in_err-a t c = rw (passed _ c.from_residual.ensures) (search (arith-stop, c.in_err-a.was, rules))

pub each-loop-k-init : goal.each-loop-k-init
each-loop-k-init t c = search (each-go, rules)

pub each-extend-inner-requires-clause-fit : goal.each-extend-inner-requires-clause-fit
each-extend-inner-requires-clause-fit t c = search (ask_extend, rules)

pub each-match_occurrences-requires : goal.each-match_occurrences-requires
each-match_occurrences-requires t c = search (ready_env, rules)

pub each-join_rows-kept-requires-clause-fit : goal.each-join_rows-kept-requires-clause-fit
each-join_rows-kept-requires-clause-fit t c = ask_join c.loop-k.invariant c.loop-k-test.true c.match_occurrences.ensures c.in_ok-m2.was c.match_occurrences.auto.work

pub each-returns-in_err-m2 : goal.each-returns-in_err-m2
each-returns-in_err-m2 t c = rw (passed _ c.from_residual.ensures) (search (each-stop, c.in_err-m2.was, rules))

pub each-loop-k-preserved : goal.each-loop-k-preserved
each-loop-k-preserved t c = each_next c.loop-k.invariant c.loop-k-test.true c.extend-inner.ensures c.match_occurrences.ensures c.in_ok-m2.was c.join_rows-kept.ensures c.match_occurrences.auto.work c.join_rows-kept.auto.work c.holding-so_far.ensures

pub each-returns : goal.each-returns
each-returns t c = search (each-end, rules)

pub eq_binding-push-requires-clause-fit : goal.eq_binding-push-requires-clause-fit
eq_binding-push-requires-clause-fit t c = search (fit-resolved, c.in_ok-b.was, rules)

pub eq_binding-returns : goal.eq_binding-returns
eq_binding-returns t c = search (bind_some, c.in_ok-b.was, rules)

pub eq_binding-filter_witness-requires : goal.eq_binding-filter_witness-requires
eq_binding-filter_witness-requires t c = search (ready-resolved, c.in_ok-b.was, rules)

pub eq_binding-returns-then-not-is_bound : goal.eq_binding-returns-then-not-is_bound
eq_binding-returns-then-not-is_bound t c = search (bind_none, c.in_ok-b.was, rules)

pub eq_binding-returns-in_err-b : goal.eq_binding-returns-in_err-b
eq_binding-returns-in_err-b t c = rw (passed _ c.from_residual.ensures) (search (bind_stop', c.in_err-b.was, rules))

pub eval_agg_expr-returns-then-call-m : goal.eval_agg_expr-returns-then-call-m
eval_agg_expr-returns-then-call-m t c = search (number-stop, rules)

pub eval_agg_expr-node_at-requires : goal.eval_agg_expr-node_at-requires
eval_agg_expr-node_at-requires t c = search (whole, rules)

pub eval_agg_expr-match_occurrences-requires : goal.eval_agg_expr-match_occurrences-requires
eval_agg_expr-match_occurrences-requires t c = search (fall_sum, ready_env, ready-step, rules)

pub eval_agg_expr-project_dedup-kept-requires-clause-checked : goal.eval_agg_expr-project_dedup-kept-requires-clause-checked
eval_agg_expr-project_dedup-kept-requires-clause-checked t c = let ready = c.requires.ready in ready.checked

pub eval_agg_expr-project_dedup-kept-requires-clause-fit : goal.eval_agg_expr-project_dedup-kept-requires-clause-fit
eval_agg_expr-project_dedup-kept-requires-clause-fit t c = let ready = c.requires.ready in ask_project ready c.stepped-m1.ensures c.match_occurrences.ensures c.in_ok-m2-in-Sum.was c.match_occurrences.auto.work

pub eval_agg_expr-sum_column-total-requires : goal.eval_agg_expr-sum_column-total-requires
eval_agg_expr-sum_column-total-requires t c = ask_sum c.requires.ready c.stepped-m1.ensures c.match_occurrences.ensures c.in_ok-m2-in-Sum.was _ c.project_dedup-kept.ensures c.match_occurrences.auto.work c.project_dedup-kept.auto.work c.node_at.ensures c.in-Sum.is c.wide-column.ensures

pub eval_agg_expr-match_occurrences-requires-in-Count : goal.eval_agg_expr-match_occurrences-requires-in-Count
eval_agg_expr-match_occurrences-requires-in-Count t c = search (fall_count, ready_env, ready-step, rules)

pub eval_agg_expr-project_dedup-kept-requires-in-Count-clause-fit : goal.eval_agg_expr-project_dedup-kept-requires-in-Count-clause-fit
eval_agg_expr-project_dedup-kept-requires-in-Count-clause-fit t c = let ready = c.requires.ready in ask_project ready c.stepped-m1.ensures c.match_occurrences-in-Count.ensures c.in_ok-m2-in-Count.was c.match_occurrences-in-Count.auto.work

pub eval_agg_expr-count_rows-total-requires : goal.eval_agg_expr-count_rows-total-requires
eval_agg_expr-count_rows-total-requires t c = ask_count c.requires.ready c.stepped-m1.ensures c.match_occurrences-in-Count.ensures c.in_ok-m2-in-Count.was c.project_dedup-kept-in-Count.ensures c.match_occurrences-in-Count.auto.work c.project_dedup-kept-in-Count.auto.work

pub eval_agg_expr-returns-in_ok-m2-in-Sum : goal.eval_agg_expr-returns-in_ok-m2-in-Sum
eval_agg_expr-returns-in_ok-m2-in-Sum t c = sum-end c.requires.ready c.node_at.ensures c.if-call-m.false c.in-Sum.is c.unbind_run-inner.ensures c.match_occurrences.ensures c.stepped-m1.ensures c.in_ok-m2-in-Sum.was c.project_dedup-kept.ensures c.wide-column.ensures c.sum_column-total.ensures c.holding.ensures

pub eval_agg_expr-returns-in_err-m2-in-Sum : goal.eval_agg_expr-returns-in_err-m2-in-Sum
eval_agg_expr-returns-in_err-m2-in-Sum t c = rw (passed _ c.from_residual.ensures) (let pre = c.requires in search (sum-stop, c.in_err-m2-in-Sum.was, rules))

pub eval_agg_expr-returns-in_ok-m2-in-Count : goal.eval_agg_expr-returns-in_ok-m2-in-Count
eval_agg_expr-returns-in_ok-m2-in-Count t c = count-end c.requires.ready c.node_at.ensures c.if-call-m.false c.in-Count.is c.unbind_run-inner-in-Count.ensures c.match_occurrences-in-Count.ensures c.stepped-m1.ensures c.in_ok-m2-in-Count.was c.project_dedup-kept-in-Count.ensures c.count_rows-total.ensures c.holding-in-Count.ensures

pub eval_agg_expr-returns-in_err-m2-in-Count : goal.eval_agg_expr-returns-in_err-m2-in-Count
eval_agg_expr-returns-in_err-m2-in-Count t c = rw (passed _ c.from_residual-in_err-m2-in-Count.ensures) (let pre = c.requires in search (count-stop, c.in_err-m2-in-Count.was, rules))

pub eval_agg_expr-returns-in_default : goal.eval_agg_expr-returns-in_default
eval_agg_expr-returns-in_default t c = number-other c.requires.ready c.node_at.ensures c.if-call-m.false (search rules) c.stepped-m1.ensures

pub eval_comparison-resolve_term-requires-2 : goal.eval_comparison-resolve_term-requires-2
eval_comparison-resolve_term-requires-2 t c = search (ready-resolved, c.in_ok-a.was, rules)

pub eval_comparison-compare-requires : goal.eval_comparison-compare-requires
eval_comparison-compare-requires t c = search rules

pub eval_comparison-returns : goal.eval_comparison-returns
eval_comparison-returns t c = search (compare_end, c.in_ok-a.was, c.in_ok-b.was, rules)

pub eval_comparison-returns-in_err-b : goal.eval_comparison-returns-in_err-b
eval_comparison-returns-in_err-b t c = rw (passed _ c.from_residual-in_err-b.ensures) (search (compare_right-stop, c.in_ok-a.was, c.in_err-b.was, rules))

pub eval_comparison-returns-in_err-a : goal.eval_comparison-returns-in_err-a
eval_comparison-returns-in_err-a t c = rw (passed _ c.from_residual.ensures) (search (compare_left-stop, c.in_err-a.was, rules))

pub eval_condition-returns-then-call-m : goal.eval_condition-returns-then-call-m
eval_condition-returns-then-call-m t c = search (stop, rules)

pub eval_condition-node_at-requires : goal.eval_condition-node_at-requires
eval_condition-node_at-requires t c = search (whole, rules)

pub eval_condition-and-requires : goal.eval_condition-and-requires
eval_condition-and-requires t c = search (fall_and, ready-step, rules)

pub eval_condition-or-requires : goal.eval_condition-or-requires
eval_condition-or-requires t c = search (fall_or, ready-step, rules)

pub eval_condition-eval_condition-requires : goal.eval_condition-eval_condition-requires
eval_condition-eval_condition-requires t c = search (fall_not, ready-step, rules)

pub eval_condition-formerly-requires : goal.eval_condition-formerly-requires
eval_condition-formerly-requires t c = search (fall_formerly, ready-step, rules)

pub eval_condition-previous_point-requires : goal.eval_condition-previous_point-requires
eval_condition-previous_point-requires t c = search (whole, rules)

pub eval_condition-eval_condition-requires-in-Some : goal.eval_condition-eval_condition-requires-in-Some
eval_condition-eval_condition-requires-in-Some t c = (search (fall_previous, rules), (search (ready-step, rules), search (earlier-below, rules)))

pub eval_condition-since-requires : goal.eval_condition-since-requires
eval_condition-since-requires t c = search (fall_since, ready-step, rules)

pub eval_condition-match_args-found-requires : goal.eval_condition-match_args-found-requires
eval_condition-match_args-found-requires t c = let pre = c.requires in let is = c.node_at.ensures in let k = c.in-Predicate.is in search (predicate-arguments, rules)

pub eval_condition-eval_comparison-requires : goal.eval_condition-eval_comparison-requires
eval_condition-eval_comparison-requires t c = search (fall_comparison, ready-step, rules)

pub eval_condition-match_occurrences-witnesses-requires : goal.eval_condition-match_occurrences-witnesses-requires
eval_condition-match_occurrences-witnesses-requires t c = (search (fall_exists, rules), (search (ready_env, ready-step, rules), search rules))

pub eval_condition-returns-in-And : goal.eval_condition-returns-in-And
eval_condition-returns-in-And t c = search (by_and, rules)

pub eval_condition-returns-in-Or : goal.eval_condition-returns-in-Or
eval_condition-returns-in-Or t c = search (by_or, rules)

pub eval_condition-returns-in_ok-b-in-Not : goal.eval_condition-returns-in_ok-b-in-Not
eval_condition-returns-in_ok-b-in-Not t c = let pre = c.requires in let is = c.node_at.ensures in let k = c.in-Not.is in let em = c.stepped-m1.ensures in search (by-not, c.in_ok-b-in-Not.was, rules) fits 4000

pub eval_condition-returns-in_err-b-in-Not : goal.eval_condition-returns-in_err-b-in-Not
eval_condition-returns-in_err-b-in-Not t c = rw (passed _ c.from_residual.ensures) (let pre = c.requires in let is = c.node_at.ensures in let k = c.in-Not.is in let em = c.stepped-m1.ensures in search (by-not-stop, c.in_err-b-in-Not.was, rules) fits 4000)

pub eval_condition-returns-in-Formerly : goal.eval_condition-returns-in-Formerly
eval_condition-returns-in-Formerly t c = search (by-formerly, rules)

pub eval_condition-returns-in-Some : goal.eval_condition-returns-in-Some
eval_condition-returns-in-Some t c = let pre = c.requires in let is = c.node_at.ensures in let k = c.in-Previous.is in let em = c.stepped-m1.ensures in search (by-previous, rules) fits 4000

pub eval_condition-returns-in-None : goal.eval_condition-returns-in-None
eval_condition-returns-in-None t c = search (by-no-previous, rules)

pub eval_condition-returns-in-Since : goal.eval_condition-returns-in-Since
eval_condition-returns-in-Since t c = let pre = c.requires in let is = c.node_at.ensures in let k = c.in-Since.is in let em = c.stepped-m1.ensures in search (by-since, rules) fits 4000

pub eval_condition-returns-then-not-same_event : goal.eval_condition-returns-then-not-same_event
eval_condition-returns-then-not-same_event t c = search (by-elsewhere, rules)

pub eval_condition-returns-else-not-same_event : goal.eval_condition-returns-else-not-same_event
eval_condition-returns-else-not-same_event t c = let pre = c.requires in let is = c.node_at.ensures in let k = c.in-Predicate.is in search (by-predicate, rules) fits 4000

pub eval_condition-returns-in-Comparison : goal.eval_condition-returns-in-Comparison
eval_condition-returns-in-Comparison t c = search (by_comparison, rules)

pub eval_condition-returns-in-Exists : goal.eval_condition-returns-in-Exists
eval_condition-returns-in-Exists t c = let pre = c.requires in let is = c.node_at.ensures in let k = c.in-Exists.is in search (by_exists, rules) fits 4000

pub eval_condition-returns-in-Tp : goal.eval_condition-returns-in-Tp
eval_condition-returns-in-Tp t c = search (by_tp, rules)

pub eval_condition-returns-in_default : goal.eval_condition-returns-in_default
eval_condition-returns-in_default t c = search (by-other, rules)

pub filter_witness-push-requires-clause-fit : goal.filter_witness-push-requires-clause-fit
filter_witness-push-requires-clause-fit t c = search (fit-still, c.in_ok-b.was, rules)

pub filter_witness-returns : goal.filter_witness-returns
filter_witness-returns t c = search (filter_yes, c.in_ok-b.was, rules)

pub filter_witness-returns-then-not-b : goal.filter_witness-returns-then-not-b
filter_witness-returns-then-not-b t c = search (filter_no, c.in_ok-b.was, rules)

pub filter_witness-returns-in_err-b : goal.filter_witness-returns-in_err-b
filter_witness-returns-in_err-b t c = rw (passed _ c.from_residual.ensures) (search (filter_stop, c.in_err-b.was, rules))

pub finds-time_at-then-requires : goal.finds-time_at-then-requires
finds-time_at-then-requires t c = search (whole, rules)

pub finds-returns-in-Inside : goal.finds-returns-in-Inside
finds-returns-in-Inside t c = search (rows_inside, rules)

pub finds-returns-in-TooOld : goal.finds-returns-in-TooOld
finds-returns-in-TooOld t c = search (rows-outside, rules)

pub formerly-time_at-here-requires : goal.formerly-time_at-here-requires
formerly-time_at-here-requires t c = search (whole, rules)

pub formerly-node_at-node-requires : goal.formerly-node_at-node-requires
formerly-node_at-node-requires t c = search (whole, rules)

pub formerly-loop-call-init : goal.formerly-loop-call-init
formerly-loop-call-init t c = search (go, rules)

pub formerly-skip_down-next-requires : goal.formerly-skip_down-next-requires
formerly-skip_down-next-requires t c = search (standing, rules)

pub formerly-returns-then-next-eq0 : goal.formerly-returns-then-next-eq0
formerly-returns-then-next-eq0 t c = search (scan_none, rules)

pub formerly-returns-then-at-limit : goal.formerly-returns-then-at-limit
formerly-returns-then-at-limit t c = search (scan_holds, rules)

pub formerly-returns-then-b : goal.formerly-returns-then-b
formerly-returns-then-b t c = search (scan_told-yes, rules)

pub formerly-loop-call-smaller-in-Some : goal.formerly-loop-call-smaller-in-Some
formerly-loop-call-smaller-in-Some t c = search (scan_less, rules)

pub formerly-loop-call-preserved-in-Some : goal.formerly-loop-call-preserved-in-Some
formerly-loop-call-preserved-in-Some t c = search (scan_told-no, rules)

pub formerly-eval_condition-requires : goal.formerly-eval_condition-requires
formerly-eval_condition-requires t c = (search rules, (scan_ready c.loop-call.invariant c.skip_down-next.ensures c.node_at-node.ensures, search (scan_below, rules)))

pub formerly-returns-then-b-2 : goal.formerly-returns-then-b-2
formerly-returns-then-b-2 t c = search (scan_yes, c.in_ok-b.was, rules)

pub formerly-loop-call-smaller : goal.formerly-loop-call-smaller
formerly-loop-call-smaller t c = search (scan_less, rules)

pub formerly-loop-call-preserved : goal.formerly-loop-call-preserved
formerly-loop-call-preserved t c = search (scan_no, c.in_ok-b.was, rules)

pub formerly-returns-in_err-b : goal.formerly-returns-in_err-b
formerly-returns-in_err-b t c = rw (passed _ c.from_residual.ensures) (search (scan_stop, c.in_err-b.was, rules))

pub join-each-requires : goal.join-each-requires
join-each-requires t c = (search rules, (search (ready-rows, c.in_ok-m2.was, rules), search (rows_more, c.in_ok-m2.was, rules)))

pub join-move_down-up-requires : goal.join-move_down-up-requires
join-move_down-up-requires t c = let pre = c.requires in search (fit-after-both, rows_more, joined-more, joined-room, c.in_ok-m2.was, c.in_ok-m3.was, rules)

pub join-returns : goal.join-returns
join-returns t c = and-end c.match_occurrences.ensures c.requires.ready c.in_ok-m2.was c.each.ensures c.in_ok-m3.was c.move_down-up.ensures c.holding.ensures

pub join-returns-in_err-m3 : goal.join-returns-in_err-m3
join-returns-in_err-m3 t c = rw (passed _ c.from_residual-in_err-m3.ensures) (search (and-right-stop, c.in_ok-m2.was, c.in_err-m3.was, rules))

pub join-returns-in_err-m2 : goal.join-returns-in_err-m2
join-returns-in_err-m2 t c = rw (passed _ c.from_residual.ensures) (search (and-left-stop, c.in_err-m2.was, rules))

pub lasts-loop-k-init : goal.lasts-loop-k-init
lasts-loop-k-init t c = search (all_go, rules)

pub lasts-loop-k-preserved-in-Some : goal.lasts-loop-k-preserved-in-Some
lasts-loop-k-preserved-in-Some t c = search (all-told-yes, rules)

pub lasts-returns-then-not-b : goal.lasts-returns-then-not-b
lasts-returns-then-not-b t c = search (all-told-no, rules)

pub lasts-eval_condition-requires : goal.lasts-eval_condition-requires
lasts-eval_condition-requires t c = (search rules, (search rules, search (next-below, rules)))

pub lasts-returns-then-not-b-2 : goal.lasts-returns-then-not-b-2
lasts-returns-then-not-b-2 t c = search (all-no, c.in_ok-b.was, rules)

pub lasts-returns-in_err-b : goal.lasts-returns-in_err-b
lasts-returns-in_err-b t c = rw (passed _ c.from_residual.ensures) (search (all-stop, c.in_err-b.was, rules))

pub lasts-loop-k-preserved : goal.lasts-loop-k-preserved
lasts-loop-k-preserved t c = search (all-next, c.in_ok-b.was, rules)

pub lasts-returns : goal.lasts-returns
lasts-returns t c = search (all_end, rules)

pub match_occurrences-returns-then-call-m : goal.match_occurrences-returns-then-call-m
match_occurrences-returns-then-call-m t c = search (rows-stop, rules)

pub match_occurrences-node_at-requires : goal.match_occurrences-node_at-requires
match_occurrences-node_at-requires t c = search (whole, rules)

pub match_occurrences-join-requires : goal.match_occurrences-join-requires
match_occurrences-join-requires t c = search (drop-and, ready-step, rules)

pub match_occurrences-union-requires : goal.match_occurrences-union-requires
match_occurrences-union-requires t c = search (drop_or, ready-step, rules)

pub match_occurrences-filter_witness-requires : goal.match_occurrences-filter_witness-requires
match_occurrences-filter_witness-requires t c = search (ready-step, rules)

pub match_occurrences-rows_up-requires : goal.match_occurrences-rows_up-requires
match_occurrences-rows_up-requires t c = search (drop-formerly, ready-step, rules)

pub match_occurrences-previous_point-requires : goal.match_occurrences-previous_point-requires
match_occurrences-previous_point-requires t c = search (whole, rules)

pub match_occurrences-match_occurrences-requires : goal.match_occurrences-match_occurrences-requires
match_occurrences-match_occurrences-requires t c = (search (drop-previous, rules), (search (ready-step, rules), search (earlier-below, rules)))

pub match_occurrences-since_up-requires : goal.match_occurrences-since_up-requires
match_occurrences-since_up-requires t c = search (drop-since, ready-step, rules)

pub match_occurrences-match_args-requires : goal.match_occurrences-match_args-requires
match_occurrences-match_args-requires t c = let pre = c.requires in let is = c.node_at.ensures in let k = c.in-Predicate.is in search (predicate-arguments, rules)

pub match_occurrences-push-requires-clause-fit : goal.match_occurrences-push-requires-clause-fit
match_occurrences-push-requires-clause-fit t c = let pre = c.requires in search (fit-match, rules)

pub match_occurrences-eq_binding-requires : goal.match_occurrences-eq_binding-requires
match_occurrences-eq_binding-requires t c = (search rules, (search (ready-step, rules), search (low-right, rules)))

pub match_occurrences-eq_binding-requires-in-Right : goal.match_occurrences-eq_binding-requires-in-Right
match_occurrences-eq_binding-requires-in-Right t c = (search rules, (search (ready-step, rules), search (low-left, rules)))

pub match_occurrences-filter_witness-requires-in-Neither : goal.match_occurrences-filter_witness-requires-in-Neither
match_occurrences-filter_witness-requires-in-Neither t c = search (ready-step, rules)

pub match_occurrences-match_occurrences-found-requires : goal.match_occurrences-match_occurrences-found-requires
match_occurrences-match_occurrences-found-requires t c = (search (drop_exists, rules), (search (ready_env, ready-step, rules), search rules))

pub match_occurrences-trimmed-requires-clause-checked : goal.match_occurrences-trimmed-requires-clause-checked
match_occurrences-trimmed-requires-clause-checked t c = let ready = c.requires.ready in ready.checked

pub match_occurrences-trimmed-requires-clause-found : goal.match_occurrences-trimmed-requires-clause-found
match_occurrences-trimmed-requires-clause-found t c = let ready = c.requires.ready in ask_trim ready c.match_occurrences-found.ensures c.match_occurrences-found.auto.work (exists_in _ ready c.node_at.ensures c.in-Exists.is) c.wide-at.ensures

pub match_occurrences-returns-in-And : goal.match_occurrences-returns-in-And
match_occurrences-returns-in-And t c = search (rows-and, rules)

pub match_occurrences-returns-in-Or : goal.match_occurrences-returns-in-Or
match_occurrences-returns-in-Or t c = search (rows_or, rules)

pub match_occurrences-returns-in-Not : goal.match_occurrences-returns-in-Not
match_occurrences-returns-in-Not t c = search (rows-not, rules)

pub match_occurrences-returns-in-Formerly : goal.match_occurrences-returns-in-Formerly
match_occurrences-returns-in-Formerly t c = search (rows-formerly, rules)

pub match_occurrences-returns-in-Some : goal.match_occurrences-returns-in-Some
match_occurrences-returns-in-Some t c = let pre = c.requires in let is = c.node_at.ensures in let k = c.in-Previous.is in let em = c.stepped-m1.ensures in search (rows-previous, rules) fits 4000

pub match_occurrences-returns-in-None : goal.match_occurrences-returns-in-None
match_occurrences-returns-in-None t c = search (rows-no-previous, rules)

pub match_occurrences-returns-in-Since : goal.match_occurrences-returns-in-Since
match_occurrences-returns-in-Since t c = let pre = c.requires in let is = c.node_at.ensures in let k = c.in-Since.is in let em = c.stepped-m1.ensures in search (rows-since, rules) fits 4000

pub match_occurrences-returns-in-Some-match_args : goal.match_occurrences-returns-in-Some-match_args
match_occurrences-returns-in-Some-match_args t c = let pre = c.requires in let is = c.node_at.ensures in let k = c.in-Predicate.is in search (rows-predicate-yes, rules) fits 4000

pub match_occurrences-returns-in-Some-tp_row : goal.match_occurrences-returns-in-Some-tp_row
match_occurrences-returns-in-Some-tp_row t c = let pre = c.requires in let is = c.node_at.ensures in let k = c.in-Tp.is in search (rows_tp_yes, rules) fits 4000

pub match_occurrences-returns-in_default-match_args : goal.match_occurrences-returns-in_default-match_args
match_occurrences-returns-in_default-match_args t c = let pre = c.requires in let is = c.node_at.ensures in let k = c.in-Predicate.is in search (rows-predicate-no, rules) fits 4000

pub match_occurrences-returns-in_default-tp_row : goal.match_occurrences-returns-in_default-tp_row
match_occurrences-returns-in_default-tp_row t c = search (rows_tp_no, rules)

pub match_occurrences-returns-in_default : goal.match_occurrences-returns-in_default
match_occurrences-returns-in_default t c = search (rows_other, rules)

pub match_occurrences-returns-else-same_event : goal.match_occurrences-returns-else-same_event
match_occurrences-returns-else-same_event t c = search (rows-elsewhere, rules)

pub match_occurrences-returns-in-Left : goal.match_occurrences-returns-in-Left
match_occurrences-returns-in-Left t c = let pre = c.requires in let is = c.node_at.ensures in let k = c.in-Comparison.is in let em = c.stepped-m1.ensures in search (rows_left, rules) fits 4000

pub match_occurrences-returns-in-Right : goal.match_occurrences-returns-in-Right
match_occurrences-returns-in-Right t c = let pre = c.requires in let is = c.node_at.ensures in let k = c.in-Comparison.is in let em = c.stepped-m1.ensures in search (rows_right, rules) fits 4000

pub match_occurrences-returns-in-Neither : goal.match_occurrences-returns-in-Neither
match_occurrences-returns-in-Neither t c = let pre = c.requires in search (rows-neither, rules)

pub match_occurrences-returns-in-Exists : goal.match_occurrences-returns-in-Exists
match_occurrences-returns-in-Exists t c = let pre = c.requires in let is = c.node_at.ensures in let k = c.in-Exists.is in search (rows_exists, rules) fits 4000

pub resolve_term-node_at-requires : goal.resolve_term-node_at-requires
resolve_term-node_at-requires t c = search (whole, rules)

pub resolve_term-eval_agg_expr-requires : goal.resolve_term-eval_agg_expr-requires
resolve_term-eval_agg_expr-requires t c = search (fall_aggregate, rules)

pub resolve_term-returns-in-Some : goal.resolve_term-returns-in-Some
resolve_term-returns-in-Some t c = search (term-settled, rules)

pub resolve_term-arith-requires : goal.resolve_term-arith-requires
resolve_term-arith-requires t c = search (fall_arithmetic, rules)

pub resolve_term-returns-in_ok-bits-in-Aggregate : goal.resolve_term-returns-in_ok-bits-in-Aggregate
resolve_term-returns-in_ok-bits-in-Aggregate t c = search (term-number, c.in_ok-bits-in-Aggregate.was, rules)

pub resolve_term-returns-in_err-bits-in-Aggregate : goal.resolve_term-returns-in_err-bits-in-Aggregate
resolve_term-returns-in_err-bits-in-Aggregate t c = rw (passed _ c.from_residual.ensures) (search (term-number-stop, c.in_err-bits-in-Aggregate.was, rules))

pub resolve_term-returns-after-nests : goal.resolve_term-returns-after-nests
resolve_term-returns-after-nests t c = search (term-arithmetic, rules)

pub resolve_term-returns-in_default : goal.resolve_term-returns-in_default
resolve_term-returns-in_default t c = term-leaf c.requires.ready c.node_at.ensures (search rules) c.resolve_leaf.ensures

pub rows_up-time_at-here-requires : goal.rows_up-time_at-here-requires
rows_up-time_at-here-requires t c = search (whole, rules)

pub rows_up-loop-j-init : goal.rows_up-loop-j-init
rows_up-loop-j-init t c = search (up_go, rules)

pub rows_up-finds-requires : goal.rows_up-finds-requires
rows_up-finds-requires t c = (search rules, (search rules, search (up-below, rules)))

pub rows_up-returns : goal.rows_up-returns
rows_up-returns t c = search (up_end, rules)

pub rows_up-returns-in_err-mj : goal.rows_up-returns-in_err-mj
rows_up-returns-in_err-mj t c = rw (passed _ c.from_residual.ensures) (search (up-stop, c.in_err-mj.was, rules))

pub rows_up-loop-j-preserved : goal.rows_up-loop-j-preserved
rows_up-loop-j-preserved t c = search (up_more, c.in_ok-mj.was, rules)

pub since-time_at-here-requires : goal.since-time_at-here-requires
since-time_at-here-requires t c = search (whole, rules)

pub since-node_at-node-requires : goal.since-node_at-node-requires
since-node_at-node-requires t c = search (whole, rules)

pub since-loop-call-init : goal.since-loop-call-init
since-loop-call-init t c = search (go, rules)

pub since-skip_down-next-requires : goal.since-skip_down-next-requires
since-skip_down-next-requires t c = search (standing, rules)

pub since-returns-then-next-eq0 : goal.since-returns-then-next-eq0
since-returns-then-next-eq0 t c = search (scan_none, rules)

pub since-eval_condition-requires : goal.since-eval_condition-requires
since-eval_condition-requires t c = (search rules, (scan_ready c.loop-call.invariant c.skip_down-next.ensures c.node_at-node.ensures, search (scan_below, rules)))

pub since-loop-call-smaller-then-not-anchor : goal.since-loop-call-smaller-then-not-anchor
since-loop-call-smaller-then-not-anchor t c = search (scan_less, rules)

pub since-loop-call-preserved-then-not-anchor : goal.since-loop-call-preserved-then-not-anchor
since-loop-call-preserved-then-not-anchor t c = search (scan_no, c.in_ok-anchor.was, rules)

pub since-returns-in_err-anchor : goal.since-returns-in_err-anchor
since-returns-in_err-anchor t c = rw (passed _ c.from_residual.ensures) (search (scan_stop, c.in_err-anchor.was, rules))

pub since-lasts-requires : goal.since-lasts-requires
since-lasts-requires t c = (let pre = c.requires in omega arith, let pre = c.requires in (since-ready c.skip_down-next.ensures c.loop-call.invariant c.node_at-node.ensures c.if-next-eq0.false c.eval_condition.ensures c.in_ok-anchor.was c.eval_condition.auto.work, (scan_low c.loop-call.invariant c.skip_down-next.ensures c.node_at-node.ensures c.if-next-eq0.false, c.requires.i_bound)))

pub since-shape_of-work-then-b : goal.since-shape_of-work-then-b
since-shape_of-work-then-b t c = search (since-same, rules)

pub since-returns-then-b : goal.since-returns-then-b
since-returns-then-b t c = since-yes c.skip_down-next.ensures c.loop-call.invariant c.node_at-node.ensures c.if-next-eq0.false c.eval_condition.ensures c.in_ok-anchor.was c.if-not-anchor.false c.lasts.ensures _ c.seconds-span.ensures c.time_at-here.ensures c.in_ok-b.was c.if-b.true

pub since-loop-call-smaller : goal.since-loop-call-smaller
since-loop-call-smaller t c = search (scan_less, rules)

pub since-loop-call-preserved : goal.since-loop-call-preserved
since-loop-call-preserved t c = since-more c.skip_down-next.ensures c.loop-call.invariant c.node_at-node.ensures c.if-next-eq0.false c.eval_condition.ensures c.in_ok-anchor.was c.if-not-anchor.false c.lasts.ensures c.in_ok-b.was c.if-b.false c.eval_condition.auto.work c.lasts.auto.work

pub since-shape_of-work-in_err-b : goal.since-shape_of-work-in_err-b
since-shape_of-work-in_err-b t c = search (since-same, rules)

pub since-returns-in_err-b : goal.since-returns-in_err-b
since-returns-in_err-b t c = rw (passed _ c.from_residual-in_err-b.ensures) (since-refused c.skip_down-next.ensures c.loop-call.invariant c.node_at-node.ensures c.if-next-eq0.false c.eval_condition.ensures c.in_ok-anchor.was c.if-not-anchor.false c.lasts.ensures _ c.seconds-span.ensures c.time_at-here.ensures c.in_err-b.was)

pub since_up-time_at-here-requires : goal.since_up-time_at-here-requires
since_up-time_at-here-requires t c = search (whole, rules)

pub since_up-loop-j-init : goal.since_up-loop-j-init
since_up-loop-j-init t c = search (up_go, rules)

pub since_up-turn-requires : goal.since_up-turn-requires
since_up-turn-requires t c = (search rules, (search rules, (omega arith, search rules, base_below refl c.loop-j.invariant)))

pub since_up-returns : goal.since_up-returns
since_up-returns t c = search (since-up-end, rules)

pub since_up-returns-in_err-mj : goal.since_up-returns-in_err-mj
since_up-returns-in_err-mj t c = rw (passed _ c.from_residual.ensures) (since-up-stop refl c.loop-j.invariant c.loop-j-test.true c.turn.ensures c.seconds-span.ensures c.time_at-here.ensures c.in_err-mj.was)

pub since_up-loop-j-preserved : goal.since_up-loop-j-preserved
since_up-loop-j-preserved t c = since-up-more refl c.loop-j.invariant c.loop-j-test.true c.turn.ensures c.in_ok-mj.was c.turn.auto.work

pub turn-finds-requires : goal.turn-finds-requires
turn-finds-requires t c = (search rules, (search rules, search (still-below, rules)))

pub turn-loop-h-init : goal.turn-loop-h-init
turn-loop-h-init t c = search (keep-go, ready-rows, rows_more, c.in_ok-m2.was, rules)

pub turn-extend-inner-requires-clause-fit : goal.turn-extend-inner-requires-clause-fit
turn-extend-inner-requires-clause-fit t c = search (ask_anchor, rules)

pub turn-lasts-requires : goal.turn-lasts-requires
turn-lasts-requires t c = (search rules, (search (ready_env, rules), search rules))

pub turn-keep_row-top-requires-clause-fit : goal.turn-keep_row-top-requires-clause-fit
turn-keep_row-top-requires-clause-fit t c = search (ask_kept, c.in_ok-b.was, rules)

pub turn-loop-h-preserved : goal.turn-loop-h-preserved
turn-loop-h-preserved t c = keep-yes c.loop-h.invariant c.loop-h-test.true c.extend-inner.ensures c.lasts.ensures c.in_ok-b.was c.if-not-b.false c.keep_row-top.ensures c.lasts.auto.work c.keep_row-top.auto.work

pub turn-returns-in_err-b : goal.turn-returns-in_err-b
turn-returns-in_err-b t c = rw (passed _ c.from_residual-in_err-b.ensures) (anchors-refused c.requires.ready c.finds.ensures c.in_ok-m2.was c.loop-h.invariant c.loop-h-test.true c.extend-inner.ensures c.lasts.ensures c.in_err-b.was)

pub turn-loop-h-preserved-then-not-b : goal.turn-loop-h-preserved-then-not-b
turn-loop-h-preserved-then-not-b t c = search (keep-no, c.in_ok-b.was, rules)

pub turn-returns : goal.turn-returns
turn-returns t c = search (anchors-end, c.in_ok-m2.was, rules)

pub turn-returns-in_err-m2 : goal.turn-returns-in_err-m2
turn-returns-in_err-m2 t c = rw (passed _ c.from_residual.ensures) (search (anchors-stop, c.in_err-m2.was, rules))

pub union-match_occurrences-requires-2 : goal.union-match_occurrences-requires-2
union-match_occurrences-requires-2 t c = search (ready-rows, c.in_ok-m2.was, rules)

pub union-keep_new-kept-requires : goal.union-keep_new-kept-requires
union-keep_new-kept-requires t c = let pre = c.requires in search (fit-after-both, rows_more, rows-room, c.in_ok-m2.was, c.in_ok-m3.was, rules)

pub union-returns : goal.union-returns
union-returns t c = or_end c.match_occurrences.ensures c.in_ok-m2.was c.match_occurrences-2.ensures c.requires.ready c.in_ok-m3.was c.keep_new-kept.ensures c.holding.ensures

pub union-returns-in_err-m3 : goal.union-returns-in_err-m3
union-returns-in_err-m3 t c = rw (passed _ c.from_residual-in_err-m3.ensures) (search (or_right-stop, c.in_ok-m2.was, c.in_err-m3.was, rules))

pub union-returns-in_err-m2 : goal.union-returns-in_err-m2
union-returns-in_err-m2 t c = rw (passed _ c.from_residual.ensures) (search (or_left-stop, c.in_err-m2.was, rules))
