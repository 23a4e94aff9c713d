-- E1 to E12, the sample table and the slips: one list with one claim, asked of the calls on the bytes of one case; then E13 on a case of its own, each refusal, later points, and parts that the case does not reach
use Rattle.std.specs.Prelude.{◌≡◌, refl, true, false, List, [], ◌∷◌, ◌++◌, map, ℕ, ℤ, pos, negsuc, set, replicate}
use Rattle.std.proofs.Common.{◌∙◌, of_z}
use Rattle.std.proofs.Math.Option.{none, some}
use Rattle.std.specs.Int.{w64}
use Rattle.meaning.specs.declared.Limits.{Limits}
use Rattle.meaning.specs.declared.Node.{Node}
use Rattle.meaning.specs.declared.Node.TheVariants.{And, Or, Not, Formerly, Previous, Since, Predicate, Comparison, Exists, Literal, Context, Variable, Sum, Count}
use Rattle.meaning.specs.declared.NodeNo.{NodeNo}
use Rattle.meaning.specs.declared.ValNo.{ValNo}
use Rattle.meaning.specs.declared.StrNo.{StrNo}
use Rattle.meaning.specs.declared.Run.{Run}
use Rattle.meaning.specs.declared.Interval.{Interval}
use Rattle.meaning.specs.declared.TimeUnit.{TimeUnit}
use Rattle.meaning.specs.declared.TimeUnit.TheVariants.{Seconds, Minutes, Hours, Days}
use Rattle.meaning.specs.declared.CmpOp.TheVariants.{Eq, NotEq}
use Rattle.meaning.specs.Written.{packed, table, placed, flat, bytes_of, file}
use Rattle.meaning.specs.Below.{upto, made}
use Rattle.meaning.specs.Tests.{◌and◌, ◌or◌, choose, only_if, is_some, or_else, pick, all_below, rises, greatest, levels, throughout}
use Rattle.meaning.specs.Text.{before, free as free·Text, first, follow, next, ended, utf8}
use Rattle.meaning.specs.Case.{Point, Value, Int, Decimal, Text, Object, words as words·Case, contents, offset, size, body, body_word, string_word, value_word, member_word, point_word, node_word, list as list·Case, text as text·Case, places, run_of, signed, maybe, unit_of, cmp_of, arith_of, root_from, under, node_from, value_from, part_at, value_at, entity_at, point_at, node_at, case_of, is_sort, sort_of, arity, child}
use Rattle.meaning.specs.Check.{start_of, body_rule, bodies, mosts, end_before, place_rule, end_to_end, utf8_rule, order_rule, string_rules, member_rule, array_item, object_item, value_rule, part_count, part_value, depth, depth_rule, value_rules, string_run, entity_rule, entity_item, entity_run, point_rule, point_rules, path_run, variable_run, argument_rule, argument_run, literal, zeros_from, rule_of, node_rule, height, height_rule, node_rules, check}
use Rattle.meaning.specs.Number.{highest, lowest, clamp, calculate, seconds_of, seconds, in_window, sumℤ}
use Rattle.meaning.specs.Equal.{int, value, is_digit, digits, natural, cut, unsigned, scaled, decimal, seen, decimal_key, see, same_list, same_parts, alike, same_value, as_value, same, bound_of, integer}
use Rattle.meaning.specs.Look.{named, members as members·Look, descend, dotted, writes, written, last_under, lookup, bound_at, attributes_of, own_part, supplied, entity_of, attribute, from_root, root_of, scope_at, context_at, field_at}
use Rattle.meaning.specs.Rows.{in_cells, cells, row_of, at, blank, with, without, without_all, over, onto, agree, agreeing, same_cell, same_row, is_in, add_new, join_all, column}
use Rattle.meaning.specs.Walk.{give, visit, adding, dropping, ◌>>=◌, started, after, measured, spent, most, run as run·Walk, ending, outcome}
use Rattle.meaning.specs.Meaning.{under as under·Meaning, unbinding, earlier, latest, now, lending, condition, term, aggregate, if_yes, unless_yes, one_row, as_rows, taking, lent_to, and_verdict, joining, and_rows, or_verdict, or_rows, not_verdict, exists_verdict, exists_rows, time, inside, if_inside, downward, rising, upward, every, formerly_verdict, formerly_rows, since_verdict, keeping, since_rows, before as before·Meaning, is_there, previously, place, tp_row, tp_verdict, given, match_field, match_arguments, same_event, match, predicate, both, compared, compare_verdict, unbound, bind_rows, eq_rows, compare_rows, if_int, arithmetic, aggregated, relation, sum_of, count_of, names, arguments, meaning_of, no_meaning, meaning, firsts, question}
use Rattle.meaning.specs.Calls.{Call, Said, gives, refuses, number_of, is_int, well_formed, more_row, start_row, start_or, is_condition, is_aggregate, answerable, against, walk_of, told, unless_refused, unless_against, asking, cleared, workspace_after, result, check_call, Answer, verdict, number, saying, ask_call, cells_of, filled, all_under, projected, output_fits, rows_given, rows_call}

-- ---- the case, record by record in words

text : List ℕ
text =
    49 ∷ 46 ∷ 48 ∷  -- 1.0
    49 ∷ 46 ∷ 48 ∷ 48 ∷  -- 1.00
    49 ∷ 46 ∷ 48 ∷ 48 ∷ 48 ∷ 48 ∷ 48 ∷  -- 1.00000
    70 ∷ 108 ∷ 97 ∷ 115 ∷ 104 ∷  -- Flash
    82 ∷ 101 ∷ 118 ∷ 105 ∷ 101 ∷ 119 ∷  -- Review
    98 ∷ 49 ∷  -- b1
    98 ∷ 50 ∷  -- b2
    98 ∷ 111 ∷ 97 ∷ 114 ∷ 100 ∷  -- board
    110 ∷  -- n
    114 ∷ 101 ∷ 113 ∷ 117 ∷ 101 ∷ 115 ∷ 116 ∷  -- request
    []

-- start and length in text
strings : List (List ℕ)
strings =
    (0 ∷ 3 ∷ []) ∷  -- 1.0
    (3 ∷ 4 ∷ []) ∷  -- 1.00
    (7 ∷ 7 ∷ []) ∷  -- 1.00000
    (14 ∷ 5 ∷ []) ∷  -- Flash
    (19 ∷ 6 ∷ []) ∷  -- Review
    (25 ∷ 2 ∷ []) ∷  -- b1
    (27 ∷ 2 ∷ []) ∷  -- b2
    (29 ∷ 5 ∷ []) ∷  -- board
    (34 ∷ 1 ∷ []) ∷  -- n
    (35 ∷ 7 ∷ []) ∷  -- request
    []

-- kind, a, b
values : List (List ℕ)
values =
    (4 ∷ 5 ∷ []) ∷  -- 0: "b1"
    (4 ∷ 6 ∷ []) ∷  -- 1: "b2"
    (2 ∷ 3 ∷ []) ∷  -- 2: 3
    (2 ∷ 4 ∷ []) ∷  -- 3: 4
    (2 ∷ 7 ∷ []) ∷  -- 4: 7
    (2 ∷ 4294967295 ∷ 2147483647 ∷ []) ∷  -- 5: 9223372036854775807
    (2 ∷ 1 ∷ []) ∷  -- 6: 1
    (2 ∷ 4294967291 ∷ 4294967295 ∷ []) ∷  -- 7: -5
    (3 ∷ []) ∷  -- 8: decimal "1.0"
    (3 ∷ 1 ∷ []) ∷  -- 9: decimal "1.00"
    (3 ∷ 2 ∷ []) ∷  -- 10: decimal "1.00000"
    (7 ∷ 0 ∷ 2 ∷ []) ∷  -- 11: {board: "b1", n: 3}
    (7 ∷ 2 ∷ 1 ∷ []) ∷  -- 12: {board: "b2"}
    (7 ∷ 3 ∷ 2 ∷ []) ∷  -- 13: {board: "b1", n: 4}
    (7 ∷ 5 ∷ 1 ∷ []) ∷  -- 14: {board: "b1"}
    (7 ∷ 6 ∷ 2 ∷ []) ∷  -- 15: {board: "b2", n: 3}
    (7 ∷ 8 ∷ 1 ∷ []) ∷  -- 16: {board: "b1"}
    (7 ∷ 9 ∷ 2 ∷ []) ∷  -- 17: {board: "b2", n: 7}
    (7 ∷ 11 ∷ 1 ∷ []) ∷  -- 18: {board: "b2"}
    []

-- name and value
members : List (List ℕ)
members =
    (7 ∷ []) ∷  -- 0: board: "b1"
    (8 ∷ 2 ∷ []) ∷  -- 1: n: 3
    (7 ∷ 1 ∷ []) ∷  -- 2: board: "b2"
    (7 ∷ []) ∷  -- 3: board: "b1"
    (8 ∷ 3 ∷ []) ∷  -- 4: n: 4
    (7 ∷ []) ∷  -- 5: board: "b1"
    (7 ∷ 1 ∷ []) ∷  -- 6: board: "b2"
    (8 ∷ 2 ∷ []) ∷  -- 7: n: 3
    (7 ∷ []) ∷  -- 8: board: "b1"
    (7 ∷ 1 ∷ []) ∷  -- 9: board: "b2"
    (8 ∷ 4 ∷ []) ∷  -- 10: n: 7
    (7 ∷ 1 ∷ []) ∷  -- 11: board: "b2"
    []

-- time low, high, namespace run, action, kind, logged, context, principal, resource, entities run
points : List (List ℕ)
points =
    (100 ∷ 0 ∷ 0 ∷ 0 ∷ 4 ∷ 9 ∷ 11 ∷ 12 ∷ 4294967295 ∷ 4294967295 ∷ []) ∷  -- 0: Review(board: "b1", n: 3) at 100, context {board: "b2"}
    (110 ∷ 0 ∷ 0 ∷ 0 ∷ 3 ∷ 9 ∷ 13 ∷ 14 ∷ 4294967295 ∷ 4294967295 ∷ []) ∷  -- 1: Flash(board: "b1", n: 4) at 110, context {board: "b1"}
    (105 ∷ 0 ∷ 0 ∷ 0 ∷ 4 ∷ 9 ∷ 15 ∷ 16 ∷ 4294967295 ∷ 4294967295 ∷ []) ∷  -- 2: Review(board: "b2", n: 3) at 105, context {board: "b1"}
    (120 ∷ 0 ∷ 0 ∷ 0 ∷ 3 ∷ 9 ∷ 17 ∷ 18 ∷ 4294967295 ∷ 4294967295 ∷ []) ∷  -- 3: Flash(board: "b2", n: 7) at 120, context {board: "b2"}
    []

-- kind and operands; below, each as the node that it is
nodes : List (List ℕ)
nodes =
    (20 ∷ 2 ∷ []) ∷
    (8 ∷ 4 ∷ []) ∷
    (5 ∷ 1 ∷ 0 ∷ 2 ∷ 1 ∷ []) ∷
    (20 ∷ 3 ∷ []) ∷
    (7 ∷ 0 ∷ 0 ∷ 3 ∷ 9 ∷ 1 ∷ 1 ∷ []) ∷
    (4 ∷ 10 ∷ 0 ∷ 0 ∷ 4 ∷ []) ∷
    (4 ∷ 9 ∷ 0 ∷ 0 ∷ 4 ∷ []) ∷
    (20 ∷ []) ∷
    (7 ∷ 0 ∷ 0 ∷ 4 ∷ 9 ∷ 5 ∷ 1 ∷ []) ∷
    (4 ∷ 5 ∷ 0 ∷ 0 ∷ 8 ∷ []) ∷
    (3 ∷ 8 ∷ []) ∷
    (6 ∷ 10 ∷ 8 ∷ 20 ∷ []) ∷
    (6 ∷ 10 ∷ 8 ∷ 19 ∷ []) ∷
    (7 ∷ 0 ∷ 0 ∷ 3 ∷ 9 ∷ 8 ∷ []) ∷
    (7 ∷ 0 ∷ 0 ∷ 4 ∷ 9 ∷ 8 ∷ []) ∷
    (6 ∷ 13 ∷ 14 ∷ []) ∷
    (23 ∷ []) ∷
    (8 ∷ 5 ∷ 16 ∷ []) ∷
    (8 ∷ 4 ∷ 16 ∷ []) ∷
    (3 ∷ 18 ∷ []) ∷
    (23 ∷ 1 ∷ []) ∷
    (23 ∷ 2 ∷ []) ∷
    (7 ∷ 0 ∷ 0 ∷ 4 ∷ 9 ∷ 10 ∷ 2 ∷ []) ∷
    (4 ∷ 1 ∷ 0 ∷ 2 ∷ 22 ∷ []) ∷
    (31 ∷ 16 ∷ 1 ∷ 23 ∷ []) ∷
    (31 ∷ 17 ∷ 1 ∷ 23 ∷ []) ∷
    (30 ∷ 2 ∷ 18 ∷ 1 ∷ 23 ∷ []) ∷
    (30 ∷ 2 ∷ 19 ∷ 2 ∷ 23 ∷ []) ∷
    (30 ∷ 2 ∷ 21 ∷ 1 ∷ 23 ∷ []) ∷
    (20 ∷ 5 ∷ []) ∷
    (8 ∷ 4 ∷ 16 ∷ 29 ∷ []) ∷
    (20 ∷ 6 ∷ []) ∷
    (8 ∷ 4 ∷ 16 ∷ 31 ∷ []) ∷
    (2 ∷ 30 ∷ 32 ∷ []) ∷
    (20 ∷ 7 ∷ []) ∷
    (8 ∷ 4 ∷ 16 ∷ 34 ∷ []) ∷
    (2 ∷ 33 ∷ 35 ∷ []) ∷
    (30 ∷ 0 ∷ 22 ∷ 1 ∷ 36 ∷ []) ∷
    (20 ∷ 8 ∷ []) ∷
    (20 ∷ 9 ∷ []) ∷
    (8 ∷ 4 ∷ 38 ∷ 39 ∷ []) ∷
    (20 ∷ 10 ∷ []) ∷
    (8 ∷ 4 ∷ 41 ∷ 38 ∷ []) ∷
    (7 ∷ 0 ∷ 0 ∷ 3 ∷ 9 ∷ 24 ∷ 1 ∷ []) ∷
    (9 ∷ 0 ∷ 43 ∷ []) ∷
    (7 ∷ 0 ∷ 0 ∷ 4 ∷ 9 ∷ 28 ∷ 1 ∷ []) ∷
    (4 ∷ 1 ∷ 0 ∷ 2 ∷ 45 ∷ []) ∷
    (1 ∷ 46 ∷ 43 ∷ []) ∷
    (9 ∷ 0 ∷ 47 ∷ []) ∷
    (7 ∷ 0 ∷ 0 ∷ 4 ∷ 9 ∷ 33 ∷ 2 ∷ []) ∷
    (21 ∷ 39 ∷ 1 ∷ []) ∷
    (7 ∷ 0 ∷ 0 ∷ 4 ∷ 9 ∷ 41 ∷ 1 ∷ []) ∷
    (4 ∷ 1 ∷ 0 ∷ 2 ∷ 51 ∷ []) ∷
    (7 ∷ 0 ∷ 0 ∷ 4 ∷ 9 ∷ 45 ∷ 1 ∷ []) ∷
    (4 ∷ 1 ∷ 0 ∷ 2 ∷ 53 ∷ []) ∷
    (4 ∷ 1 ∷ 0 ∷ 2 ∷ 8 ∷ []) ∷
    []

-- paths, arguments (path run, term) and binders
lists : List ℕ
lists =
    8 ∷  -- 0: path n
    0 ∷ 1 ∷ 3 ∷  -- 1: argument of node 4: path at 0, term 3
    7 ∷  -- 4: path board
    4 ∷ 1 ∷ 7 ∷  -- 5: argument of node 8: path at 4, term 7
    7 ∷  -- 8: path board
    8 ∷  -- 9: path n
    8 ∷ 1 ∷ 20 ∷  -- 10: argument of node 22: path at 8, term 20
    9 ∷ 1 ∷ 21 ∷  -- 13: argument of node 22: path at 9, term 21
    1 ∷  -- 16: binders of node 24
    2 ∷  -- 17: binders of node 25
    2 ∷  -- 18: binders of node 26
    1 ∷ 2 ∷  -- 19: binders of node 27
    1 ∷  -- 21: binders of node 28
    0 ∷  -- 22: binders of node 37
    8 ∷  -- 23: path n
    23 ∷ 1 ∷ 16 ∷  -- 24: argument of node 43: path at 23, term 16
    8 ∷  -- 27: path n
    27 ∷ 1 ∷ 16 ∷  -- 28: argument of node 45: path at 27, term 16
    7 ∷  -- 31: path board
    8 ∷  -- 32: path n
    31 ∷ 1 ∷ 16 ∷  -- 33: argument of node 49: path at 31, term 16
    32 ∷ 1 ∷ 16 ∷  -- 36: argument of node 49: path at 32, term 16
    7 ∷  -- 39: path board
    7 ∷  -- 40: path board
    40 ∷ 1 ∷ 50 ∷  -- 41: argument of node 51: path at 40, term 50
    7 ∷  -- 44: path board
    44 ∷ 1 ∷ 50 ∷  -- 45: argument of node 53: path at 44, term 50
    []

-- the case with a log of these points
with_log : List (List ℕ) → List ℕ
unfolding table bytes_of packed placed flat file text strings values members nodes lists
with_log log =
    file 3 (table 2 strings ∷ table 4 values ∷ table 2 members ∷ table 12 log ∷ table 8 nodes ∷ lists ∷ []) text

bytes : List ℕ
unfolding with_log points
bytes = with_log points

-- what everything but the check computes by
walks-nothing : spent (give true) ≡ 0
unfolding bytes upto made ◌and◌ ◌or◌ choose only_if is_some or_else pick all_below rises greatest levels throughout before free·Text first follow next ended utf8 words·Case contents offset size body body_word string_word value_word member_word point_word node_word list·Case text·Case places run_of signed maybe unit_of cmp_of arith_of root_from under node_from value_from part_at value_at entity_at point_at node_at case_of is_sort sort_of arity child highest lowest clamp calculate seconds_of seconds in_window sumℤ is_digit digits natural cut unsigned scaled decimal seen decimal_key see same_list same_parts alike same_value as_value same bound_of integer named members·Look descend dotted writes written last_under lookup bound_at attributes_of own_part supplied entity_of attribute from_root root_of scope_at context_at field_at in_cells cells row_of at blank with without without_all over onto agree agreeing same_cell same_row is_in add_new join_all column give visit adding dropping ◌>>=◌ started after measured spent most run·Walk ending outcome under·Meaning unbinding earlier latest now lending condition term aggregate if_yes unless_yes one_row as_rows taking lent_to and_verdict joining and_rows or_verdict or_rows not_verdict exists_verdict exists_rows time inside if_inside downward rising upward every formerly_verdict formerly_rows since_verdict keeping since_rows before·Meaning is_there previously place tp_row tp_verdict given match_field match_arguments same_event match predicate both compared compare_verdict unbound bind_rows eq_rows compare_rows if_int arithmetic aggregated relation sum_of count_of names arguments meaning_of no_meaning meaning firsts question number_of is_int well_formed more_row start_row start_or is_condition is_aggregate answerable against walk_of told unless_refused unless_against asking cleared workspace_after result check_call saying ask_call cells_of filled all_under projected output_fits rows_given rows_call
walks-nothing = refl

passes : check bytes ≡ none
unfolding walks-nothing start_of body_rule bodies mosts end_before place_rule end_to_end utf8_rule order_rule string_rules member_rule array_item object_item value_rule part_count part_value depth depth_rule value_rules string_run entity_rule entity_item entity_run point_rule point_rules path_run variable_run argument_rule argument_run literal zeros_from rule_of node_rule height height_rule node_rules check
passes = refl

-- ---- what the bytes hold

n : ℕ → NodeNo
n k = record { 0 = k }

v : ℕ → ValNo
v k = record { 0 = k }

s : ℕ → StrNo
s k = record { 0 = k }

run : ℕ → ℕ → Run
run a b = record { first = a; count = b }

within : ℕ → TimeUnit → Interval
within a u = record { amount = a; unit = u }

object : List (ℕ × ℕ) → Value
object ps = Object (map (λ p. record { name = p.0; value = p.1 }) ps)

-- an event of no namespace, without principal, resource or entities
event : ℤ → ℕ → ℕ → ℕ → ℕ → Point
event time action kind logged context = record {
  time = time;
  namespace = [];
  action = action;
  kind = kind;
  logged = logged;
  context = context;
  principal = none;
  resource = none;
  entities = [];
}

held_texts : List (List ℕ)
held_texts =
    (49 ∷ 46 ∷ 48 ∷ []) ∷  -- 0: 1.0
    (49 ∷ 46 ∷ 48 ∷ 48 ∷ []) ∷  -- 1: 1.00
    (49 ∷ 46 ∷ 48 ∷ 48 ∷ 48 ∷ 48 ∷ 48 ∷ []) ∷  -- 2: 1.00000
    (70 ∷ 108 ∷ 97 ∷ 115 ∷ 104 ∷ []) ∷  -- 3: Flash
    (82 ∷ 101 ∷ 118 ∷ 105 ∷ 101 ∷ 119 ∷ []) ∷  -- 4: Review
    (98 ∷ 49 ∷ []) ∷  -- 5: b1
    (98 ∷ 50 ∷ []) ∷  -- 6: b2
    (98 ∷ 111 ∷ 97 ∷ 114 ∷ 100 ∷ []) ∷  -- 7: board
    (110 ∷ []) ∷  -- 8: n
    (114 ∷ 101 ∷ 113 ∷ 117 ∷ 101 ∷ 115 ∷ 116 ∷ []) ∷  -- 9: request
    []

held_values : List Value
unfolding object
held_values =
    Text 5 ∷  -- 0: "b1"
    Text 6 ∷  -- 1: "b2"
    Int (pos 3) ∷  -- 2: 3
    Int (pos 4) ∷  -- 3: 4
    Int (pos 7) ∷  -- 4: 7
    Int (pos 9223372036854775807) ∷  -- 5: 9223372036854775807
    Int (pos 1) ∷  -- 6: 1
    Int (negsuc 4) ∷  -- 7: -5
    Decimal 0 ∷  -- 8: decimal "1.0"
    Decimal 1 ∷  -- 9: decimal "1.00"
    Decimal 2 ∷  -- 10: decimal "1.00000"
    object ((7, 0) ∷ (8, 2) ∷ []) ∷  -- 11: {board: "b1", n: 3}
    object ((7, 1) ∷ []) ∷  -- 12: {board: "b2"}
    object ((7, 0) ∷ (8, 3) ∷ []) ∷  -- 13: {board: "b1", n: 4}
    object ((7, 0) ∷ []) ∷  -- 14: {board: "b1"}
    object ((7, 1) ∷ (8, 2) ∷ []) ∷  -- 15: {board: "b2", n: 3}
    object ((7, 0) ∷ []) ∷  -- 16: {board: "b1"}
    object ((7, 1) ∷ (8, 4) ∷ []) ∷  -- 17: {board: "b2", n: 7}
    object ((7, 1) ∷ []) ∷  -- 18: {board: "b2"}
    []

held_points : List Point
unfolding event
held_points =
    event (pos 100) 4 9 11 12 ∷  -- 0: Review(board: "b1", n: 3)
    event (pos 110) 3 9 13 14 ∷  -- 1: Flash(board: "b1", n: 4)
    event (pos 105) 4 9 15 16 ∷  -- 2: Review(board: "b2", n: 3)
    event (pos 120) 3 9 17 18 ∷  -- 3: Flash(board: "b2", n: 7)
    []

held_nodes : List Node
unfolding n v s run within
held_nodes =
    Literal (v 2) ∷  -- 0: 3
    Comparison Eq (n 0) (n 0) ∷  -- 1: 3 == 3
    Previous (within 1 Hours) (n 1) ∷  -- 2: previous within 1 hours (3 == 3)
    Literal (v 3) ∷  -- 3: 4
    Predicate (run 0 0) (s 3) (s 9) (run 1 1) ∷  -- 4: Flash(n: 4)
    Formerly (within 10 Seconds) (n 4) ∷  -- 5: formerly within 10 seconds (Flash(n: 4))
    Formerly (within 9 Seconds) (n 4) ∷  -- 6: formerly within 9 seconds (Flash(n: 4))
    Literal (v 0) ∷  -- 7: "b1"
    Predicate (run 0 0) (s 4) (s 9) (run 5 1) ∷  -- 8: Review(board: "b1")
    Formerly (within 5 Seconds) (n 8) ∷  -- 9: formerly within 5 seconds (Review(board: "b1"))
    Not (n 8) ∷  -- 10: not (Review(board: "b1"))
    Since (n 10) (n 8) (within 20 Seconds) ∷  -- 11: (not (Review(board: "b1"))) since within 20 seconds (Review(board: "b1"))
    Since (n 10) (n 8) (within 19 Seconds) ∷  -- 12: (not (Review(board: "b1"))) since within 19 seconds (Review(board: "b1"))
    Predicate (run 0 0) (s 3) (s 9) (run 8 0) ∷  -- 13: Flash()
    Predicate (run 0 0) (s 4) (s 9) (run 8 0) ∷  -- 14: Review()
    Since (n 13) (n 14) (within 0 Seconds) ∷  -- 15: (Flash()) since within 0 seconds (Review())
    Variable 0 ∷  -- 16: x
    Comparison NotEq (n 16) (n 0) ∷  -- 17: x != 3
    Comparison Eq (n 16) (n 0) ∷  -- 18: x == 3
    Not (n 18) ∷  -- 19: not (x == 3)
    Variable 1 ∷  -- 20: b
    Variable 2 ∷  -- 21: n
    Predicate (run 0 0) (s 4) (s 9) (run 10 2) ∷  -- 22: Review(board: b, n: n)
    Formerly (within 1 Hours) (n 22) ∷  -- 23: formerly within 1 hours (Review(board: b, n: n))
    Count (run 16 1) (n 23) ∷  -- 24: count for b: formerly within 1 hours (Review(board: b, n: n))
    Count (run 17 1) (n 23) ∷  -- 25: count for n: formerly within 1 hours (Review(board: b, n: n))
    Sum 2 (run 18 1) (n 23) ∷  -- 26: sum n for n: formerly within 1 hours (Review(board: b, n: n))
    Sum 2 (run 19 2) (n 23) ∷  -- 27: sum n for b,n: formerly within 1 hours (Review(board: b, n: n))
    Sum 2 (run 21 1) (n 23) ∷  -- 28: sum n for b: formerly within 1 hours (Review(board: b, n: n))
    Literal (v 5) ∷  -- 29: 9223372036854775807
    Comparison Eq (n 16) (n 29) ∷  -- 30: x == 9223372036854775807
    Literal (v 6) ∷  -- 31: 1
    Comparison Eq (n 16) (n 31) ∷  -- 32: x == 1
    Or (n 30) (n 32) ∷  -- 33: (x == 9223372036854775807) or (x == 1)
    Literal (v 7) ∷  -- 34: -5
    Comparison Eq (n 16) (n 34) ∷  -- 35: x == -5
    Or (n 33) (n 35) ∷  -- 36: ((x == 9223372036854775807) or (x == 1)) or (x == -5)
    Sum 0 (run 22 1) (n 36) ∷  -- 37: sum x for x: ((x == 9223372036854775807) or (x == 1)) or (x == -5)
    Literal (v 8) ∷  -- 38: "1.0"
    Literal (v 9) ∷  -- 39: "1.00"
    Comparison Eq (n 38) (n 39) ∷  -- 40: "1.0" == "1.00"
    Literal (v 10) ∷  -- 41: "1.00000"
    Comparison Eq (n 41) (n 38) ∷  -- 42: "1.00000" == "1.0"
    Predicate (run 0 0) (s 3) (s 9) (run 24 1) ∷  -- 43: Flash(n: x)
    Exists 0 (n 43) ∷  -- 44: exists x (Flash(n: x))
    Predicate (run 0 0) (s 4) (s 9) (run 28 1) ∷  -- 45: Review(n: x)
    Formerly (within 1 Hours) (n 45) ∷  -- 46: formerly within 1 hours (Review(n: x))
    And (n 46) (n 43) ∷  -- 47: (formerly within 1 hours (Review(n: x))) and (Flash(n: x))
    Exists 0 (n 47) ∷  -- 48: exists x ((formerly within 1 hours (Review(n: x))) and (Flash(n: x)))
    Predicate (run 0 0) (s 4) (s 9) (run 33 2) ∷  -- 49: Review(board: x, n: x)
    Context (run 39 1) ∷  -- 50: context.board
    Predicate (run 0 0) (s 4) (s 9) (run 41 1) ∷  -- 51: Review(board: context.board)
    Formerly (within 1 Hours) (n 51) ∷  -- 52: formerly within 1 hours (Review(board: context.board))
    Predicate (run 0 0) (s 4) (s 9) (run 45 1) ∷  -- 53: Review(board: context.board)
    Formerly (within 1 Hours) (n 53) ∷  -- 54: formerly within 1 hours (Review(board: context.board))
    Formerly (within 1 Hours) (n 8) ∷  -- 55: formerly within 1 hours (Review(board: "b1"))
    []

holds :
    (map (text·Case bytes) (places 0 1 10) ≡ held_texts)
    × (map (value_at bytes) (places 0 1 19) ≡ held_values)
    × (map (point_at bytes) (places 0 1 4) ≡ held_points)
    × (map (node_at bytes) (places 0 1 56) ≡ held_nodes)
    × (map (list·Case bytes) (places 0 1 48) ≡ lists)
unfolding passes held_texts held_values held_points held_nodes
holds = (refl, refl, refl, refl, refl)

-- ---- E1 to E12, the slips, the sample table, asked of the calls

-- the three variables unbound, and x at 9
free : List ℕ
free = 0 ∷ 0 ∷ 0 ∷ 0 ∷ 0 ∷ 0 ∷ []

x-is_9 : List ℕ
x-is_9 = 1 ∷ 9 ∷ 0 ∷ 0 ∷ 0 ∷ 0 ∷ []

-- an answer; an answer with steps spent and the greatest number of rows held
data Want : Type 0 where
  only : Answer → Want
  counted : Answer → ℕ → ℕ → Want
  refused·no : ℕ → Want

record Example : Type 0 where
  node : ℕ
  point : ℕ
  start : List ℕ
  want : Want

asked : ℕ → ℕ → List ℕ → Answer → Example
asked n i start a = record { node = n; point = i; start = start; want = only a }

walked : ℕ → ℕ → List ℕ → Answer → ℕ → ℕ → Example
walked n i start a steps held = record { node = n; point = i; start = start; want = counted a steps held }

examples : List Example
unfolding asked walked free x-is_9
examples =
    asked 2 0 free (verdict false) ∷  -- E1
    asked 5 3 free (verdict true) ∷  -- E2
    asked 6 3 free (verdict false) ∷  -- E2
    asked 9 2 free (verdict true) ∷  -- E3
    asked 11 3 free (verdict true) ∷  -- E4
    asked 12 3 free (verdict false) ∷  -- E4
    asked 15 0 free (verdict true) ∷  -- E5
    asked 17 3 free (verdict false) ∷  -- E6
    asked 19 3 free (verdict true) ∷  -- E6
    asked 24 3 free (number 2) ∷  -- E7
    asked 25 3 free (number 1) ∷  -- E7
    asked 26 3 free (number 3) ∷  -- E7
    walked 27 0 free (number 3) 3 1 ∷  -- E7 at each point
    walked 27 1 free (number 3) 4 1 ∷
    walked 27 2 free (number 6) 4 2 ∷
    walked 27 3 free (number 6) 6 2 ∷
    asked 28 3 free (number 0) ∷  -- E7
    asked 37 3 free (number 9223372036854775803) ∷  -- E8
    asked 40 3 free (verdict true) ∷  -- E9
    asked 42 3 free (verdict false) ∷  -- E9
    asked 43 3 x-is_9 (verdict false) ∷  -- E10
    walked 44 3 x-is_9 (verdict true) 2 1 ∷  -- E10
    asked 47 3 free (verdict true) ∷  -- E11
    asked 48 3 free (verdict false) ∷  -- E11
    asked 49 0 free (verdict false) ∷  -- E12
    asked 52 3 free (verdict true) ∷  -- slip
    asked 54 1 free (verdict true) ∷  -- slip
    walked 55 0 free (verdict true) 2 0 ∷  -- sample
    walked 55 1 free (verdict true) 3 0 ∷  -- sample
    walked 55 2 free (verdict true) 3 0 ∷  -- sample
    walked 55 3 free (verdict true) 5 0 ∷  -- sample
    []

-- the program's limits, and a workspace for as many rows
limits : Limits
limits = record { steps = 1000000; room = 256 }

call : List ℕ → ℕ → ℕ → List ℕ → Limits → List ℕ → Call
call file n i start l work = record { file = file; point = i; node = n; start = start; limits = l; workspace = work }

as_call : Example → Call
unfolding limits call
as_call e = call bytes e.node e.point e.start limits (replicate 1536 0)

-- what the call says, as the example wants it
like : Want → Said Answer → Want
like (only a) (gives b t h) = only b
like (only a) (refuses r t h) = refused·no r
like (counted a t h) (gives b t' h') = counted b t' h'
like (counted a t h) (refuses r t' h') = refused·no r
like (refused·no n) s = refused·no n

got : Example → Want
got e = like e.want (ask_call (as_call e)).said

-- the same with the check left out, since the case passes it: so that it is computed once
past : Example → Want
past e =
    let c = as_call e in
    like e.want
    (choose (is_aggregate (node_at bytes c.node))
    (saying (λ z. number (of_z w64 z)) (unless_refused (against answerable c) (told (outcome c.limits started (walk_of (λ m q. m.number q) bytes c.point c.node c.start)))))
    (saying verdict (unless_refused (against answerable c) (told (outcome c.limits started (walk_of (λ m q. m.verdict q) bytes c.point c.node c.start))))))

got-past : (e : Example) → got e ≡ past e
unfolding got past as_call ask_call result asking unless_against unless_refused
got-past e = rw passes refl

same-all : (f g : Example → Want) → ((e : Example) → f e ≡ g e) → (es : List Example) → map f es ≡ map g es
same-all f g h [] = refl
same-all f g h (e ∷ es) = cc (h e, same-all f g h es)

computed : map past examples ≡ map (λ e. e.want) examples
unfolding walks-nothing past like as_call examples asked walked
computed = refl

-- (computed once more, and not by `computed`, so that a definition that is wrong shows at each of the two)
claim : map got examples ≡ map (λ e. e.want) examples
unfolding walks-nothing past like as_call examples asked walked
claim = same-all got past got-past examples ∙ refl

-- ---- the calls: answers, refusals 7 to 13 and the buffers

-- room 1, so six cells of workspace, in a workspace of seven
short : ℕ → ℕ → List ℕ → ℕ → ℕ → Call
short n i start steps room = call bytes n i start (record { steps = steps; room = room }) (7 ∷ 7 ∷ 7 ∷ 7 ∷ 7 ∷ 7 ∷ 7 ∷ [])

said : Call → Said Answer × List ℕ
unfolding passes call short
said c = let r = ask_call c in (r.said, r.workspace)

calls :
    map said (
    short 55 3 free 5 1 ∷
    short 55 3 free 4 1 ∷
    short 44 3 free 10 0 ∷
    short 44 3 free 1 0 ∷
    short 55 4 free 5 1 ∷
    short 56 4 free 5 1 ∷
    short 56 3 free 5 1 ∷
    short 16 3 free 5 1 ∷
    short 55 3 (0 ∷ []) 5 1 ∷
    short 55 3 free 5 2 ∷
    short 55 3 free 1000000001 1 ∷
    []) ≡ (
    (gives (verdict true) 5 0, 0 ∷ 0 ∷ 0 ∷ 0 ∷ 0 ∷ 0 ∷ 7 ∷ []) ∷
    (refuses 11 4 0, 0 ∷ 0 ∷ 0 ∷ 0 ∷ 0 ∷ 0 ∷ 7 ∷ []) ∷
    (refuses 12 2 0, 7 ∷ 7 ∷ 7 ∷ 7 ∷ 7 ∷ 7 ∷ 7 ∷ []) ∷
    (refuses 11 1 0, 7 ∷ 7 ∷ 7 ∷ 7 ∷ 7 ∷ 7 ∷ 7 ∷ []) ∷
    (refuses 7 0 0, 7 ∷ 7 ∷ 7 ∷ 7 ∷ 7 ∷ 7 ∷ 7 ∷ []) ∷
    (refuses 7 0 0, 7 ∷ 7 ∷ 7 ∷ 7 ∷ 7 ∷ 7 ∷ 7 ∷ []) ∷
    (refuses 8 0 0, 7 ∷ 7 ∷ 7 ∷ 7 ∷ 7 ∷ 7 ∷ 7 ∷ []) ∷
    (refuses 8 0 0, 7 ∷ 7 ∷ 7 ∷ 7 ∷ 7 ∷ 7 ∷ 7 ∷ []) ∷
    (refuses 9 0 0, 7 ∷ 7 ∷ 7 ∷ 7 ∷ 7 ∷ 7 ∷ 7 ∷ []) ∷
    (refuses 10 0 0, 7 ∷ 7 ∷ 7 ∷ 7 ∷ 7 ∷ 7 ∷ 7 ∷ []) ∷
    (refuses 10 0 0, 7 ∷ 7 ∷ 7 ∷ 7 ∷ 7 ∷ 7 ∷ 7 ∷ []) ∷
    [])
unfolding said free
calls = refl

-- the rows call at point 3, in a workspace for four rows
rows_said : ℕ → List ℕ → List ℕ → Said ℕ × List ℕ
unfolding passes call free
rows_said n binders output =
    let r = rows_call binders output (call bytes n 3 free (record { steps = 100; room = 4 }) (free ++ free ++ free ++ free)) in
    (r.said, r.output)

-- two rows; an output too short; no such binder; Exists without its variable; Since without a binder; a filter pays twice; Or's rows; an aggregate has none
rows_calls :
    (rows_said 23 (1 ∷ 2 ∷ []) (9 ∷ 9 ∷ 9 ∷ 9 ∷ 9 ∷ 9 ∷ 9 ∷ 9 ∷ 9 ∷ []) ∷
    rows_said 23 (1 ∷ 2 ∷ []) (9 ∷ 9 ∷ 9 ∷ 9 ∷ 9 ∷ 9 ∷ 9 ∷ []) ∷
    rows_said 23 (3 ∷ []) (9 ∷ 9 ∷ 9 ∷ 9 ∷ []) ∷
    rows_said 44 (0 ∷ []) (9 ∷ 9 ∷ 9 ∷ []) ∷
    rows_said 11 [] (9 ∷ []) ∷
    rows_said 40 [] [] ∷
    rows_said 36 (0 ∷ []) (9 ∷ 9 ∷ 9 ∷ 9 ∷ 9 ∷ 9 ∷ []) ∷
    rows_said 27 [] (9 ∷ []) ∷
    []) ≡ (
    (gives 2 5 2, 2 ∷ 0 ∷ 1 ∷ 3 ∷ 2 ∷ 1 ∷ 1 ∷ 3 ∷ 9 ∷ []) ∷
    (refuses 13 5 2, 9 ∷ 9 ∷ 9 ∷ 9 ∷ 9 ∷ 9 ∷ 9 ∷ []) ∷
    (refuses 13 5 2, 9 ∷ 9 ∷ 9 ∷ 9 ∷ []) ∷
    (gives 1 2 1, 0 ∷ 0 ∷ 9 ∷ []) ∷
    (gives 1 11 1, 9 ∷ []) ∷
    (gives 1 2 1, []) ∷
    (gives 3 5 3, 1 ∷ 9223372036854775807 ∷ 1 ∷ 1 ∷ 1 ∷ 18446744073709551611 ∷ []) ∷
    (refuses 8 0 0, 9 ∷ []) ∷
    [])
unfolding rows_said
rows_calls = refl

-- ---- E13: in {a: {b: 1}, "a.b": 2} the path a.b gives 2, and the path a gives {b: 1}

-- strings a, a.b, b; values 1, 2, {b: 1}, {a: {b: 1}, "a.b": 2}; one point that has the last as its context
bytes13 : List ℕ
unfolding table bytes_of packed placed flat file
bytes13 =
    file 1 (
    table 2 ((0 ∷ 1 ∷ []) ∷ (1 ∷ 3 ∷ []) ∷ (4 ∷ 1 ∷ []) ∷ [])
    ∷ table 4 ((2 ∷ 1 ∷ []) ∷ (2 ∷ 2 ∷ []) ∷ (7 ∷ 0 ∷ 1 ∷ []) ∷ (7 ∷ 1 ∷ 2 ∷ []) ∷ [])
    ∷ table 2 ((2 ∷ 0 ∷ []) ∷ (0 ∷ 2 ∷ []) ∷ (1 ∷ 1 ∷ []) ∷ [])
    ∷ table 12 ((0 ∷ 0 ∷ 0 ∷ 0 ∷ 0 ∷ 0 ∷ 3 ∷ 3 ∷ 4294967295 ∷ 4294967295 ∷ []) ∷ [])
    ∷ table 8 (
    (21 ∷ 0 ∷ 2 ∷ []) ∷  -- 0: context.a.b
    (20 ∷ 1 ∷ []) ∷  -- 1: 2
    (8 ∷ 4 ∷ 0 ∷ 1 ∷ []) ∷  -- 2: context.a.b == 2
    (21 ∷ 0 ∷ 1 ∷ []) ∷  -- 3: context.a
    (23 ∷ []) ∷  -- 4: x
    (8 ∷ 4 ∷ 4 ∷ 3 ∷ []) ∷  -- 5: x == context.a
    [])
    ∷ (0 ∷ 2 ∷ [])
    ∷ []
    ) (97 ∷ 97 ∷ 46 ∷ 98 ∷ 98 ∷ [])

-- both asked at the point, with room for one row
call13 : ℕ → Call
unfolding call
call13 n = call bytes13 n 0 (0 ∷ 0 ∷ []) (record { steps = 10; room = 1 }) (0 ∷ 0 ∷ [])

e13 :
    ((ask_call (call13 2)).said ≡ gives (verdict true) 1 0)
    × ((rows_call (0 ∷ []) (9 ∷ 9 ∷ []) (call13 5)).said ≡ gives 1 1 1)
    × ((rows_call (0 ∷ []) (9 ∷ 9 ∷ []) (call13 5)).output ≡ (2 ∷ 2 ∷ []))
unfolding passes bytes13 call13
e13 = (refl, refl, refl)

-- ---- refusals 1 to 6, each for one byte of the case changed: edition, V, a string, a member's value, a point's context, a node's child

refusals :
    map (λ (change : ℕ × ℕ). check_call (set bytes change.0 change.1)) (
    (0, 2) ∷
    (4, 17) ∷
    (2746, 50) ∷
    (452, 11) ∷
    (572, 10) ∷
    (816, 2) ∷
    []) ≡ (refuses 1 0 0 ∷ refuses 2 0 0 ∷ refuses 3 0 0 ∷ refuses 4 0 0 ∷ refuses 5 0 0 ∷ refuses 6 0 0 ∷ [])
unfolding passes
refusals = refl

-- the lowest is given
lowest-given : check_call (set (set bytes 816 2) 4 17) ≡ refuses 2 0 0
unfolding passes
lowest-given = refl

-- V, strings, values, points, nodes of the case itself
passing : check_call bytes ≡ gives (3 ∷ 10 ∷ 19 ∷ 4 ∷ 56 ∷ []) 0 0
unfolding passes
passing = refl

-- ---- later points: log [p0, p1] beside [p0, q, p1], asked at 0; at 1 they differ

log_of : List ℕ → List (List ℕ)
unfolding points
log_of [] = []
log_of (i ∷ is) = pick points i [] ∷ log_of is

asked_of : List ℕ → ℕ → Said Answer
unfolding passes limits call log_of free
asked_of log i = (ask_call (call (with_log (log_of log)) 14 i free limits (replicate 1536 0))).said

between :
    (asked_of (0 ∷ 1 ∷ []) 0 ∷ asked_of (0 ∷ 2 ∷ 1 ∷ []) 0 ∷ asked_of (0 ∷ 1 ∷ []) 1 ∷ asked_of (0 ∷ 2 ∷ 1 ∷ []) 1 ∷ [])
    ≡ (gives (verdict true) 1 0 ∷ gives (verdict true) 1 0 ∷ gives (verdict false) 1 0 ∷ gives (verdict true) 1 0 ∷ [])
unfolding asked_of
between = refl

-- ---- parts that the case does not reach: the units, a sum that leaves 64 bits on its way, the cell kept of two equal ones

units :
    map seconds (
    record { amount = 2; unit = Seconds } ∷
    record { amount = 2; unit = Minutes } ∷
    record { amount = 2; unit = Hours } ∷
    record { amount = 2; unit = Days } ∷
    record { amount = 106751991167301; unit = Days } ∷
    record { amount = 18446744073709551615; unit = Days } ∷
    []) ≡ (pos 2 ∷ pos 120 ∷ pos 7200 ∷ pos 172800 ∷ pos 9223372036854775807 ∷ negsuc 86399 ∷ [])
unfolding passes
units = refl

sum : sum_of 0 (map (λ z. some (int z) ∷ []) (negsuc 4 ∷ pos 1 ∷ pos 9223372036854775807 ∷ [])) ≡ pos 9223372036854775803
unfolding passes
sum = refl

-- "1.0" and "1.00"
first-kept : add_new (case_of bytes) [] ((some (value 8) ∷ []) ∷ (some (value 9) ∷ []) ∷ []) ≡ ((some (value 8) ∷ []) ∷ [])
unfolding passes
first-kept = refl
