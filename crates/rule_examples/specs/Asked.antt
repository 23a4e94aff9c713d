-- How the examples are asked: what the check and the calls say of a file's bytes
use Rattle.std.specs.Prelude.{◌≡◌, refl, true, List, map, ℕ, ◌*◌, length, replicate}
use Rattle.meaning.specs.Calls.{Call, Said, gives, refuses, Answer}
use Rattle.meaning.specs.Below.{upto, made}
use Rattle.meaning.specs.Tests.{◌and◌, ◌or◌, choose, only_if, is_some, or_else, pick, all_below, rises, greatest, levels, throughout}
use Rattle.meaning.specs.Text.{before, free, first, follow, next, ended, utf8}
use Rattle.meaning.specs.Case.{words, contents, offset, size, body, body_word, string_word, value_word, member_word, point_word, node_word, list, text, places, run_of, signed, maybe, unit_of, cmp_of, arith_of, root_from, under, node_from, value_from, part_at, value_at, entity_at, point_at, node_at, case_of, is_sort, sort_of, arity, child}
use Rattle.meaning.specs.Check.{start_of, body_rule, bodies, mosts, end_before, place_rule, end_to_end, utf8_rule, order_rule, string_rules, member_rule, array_item, object_item, value_rule, part_count, part_value, depth, depth_rule, value_rules, string_run, entity_rule, entity_item, entity_run, point_rule, point_rules, path_run, variable_run, argument_rule, argument_run, literal, zeros_from, rule_of, node_rule, height, height_rule, node_rules, check}
use Rattle.meaning.specs.Number.{highest, lowest, clamp, calculate, seconds_of, seconds, in_window, sumℤ, window}
use Rattle.meaning.specs.Equal.{is_digit, digits, natural, cut, unsigned, scaled, decimal, seen, decimal_key, see, same_list, same_parts, alike, same_value, as_value, same, bound_of, integer}
use Rattle.meaning.specs.Look.{named, members, descend, dotted, writes, written, last_under, lookup, bound_at, attributes_of, own_part, supplied, entity_of, attribute, from_root, root_of, scope_at, context_at, field_at}
use Rattle.meaning.specs.Rows.{in_cells, cells, row_of, at, blank, with, without, without_all, over, onto, agree, agreeing, same_cell, same_row, is_in, add_new, join_all, column}
use Rattle.meaning.specs.Walk.{give, visit, adding, dropping, ◌>>=◌, started, after, measured, spent, most, run, ending, outcome}
use Rattle.meaning.specs.Meaning.{under as under·Meaning, unbinding, earlier, latest, now, lending, condition, term, aggregate, if_yes, unless_yes, one_row, as_rows, taking, lent_to, and_verdict, joining, and_rows, or_verdict, or_rows, not_verdict, exists_verdict, exists_rows, time, inside, if_inside, downward, rising, upward, every, formerly_verdict, formerly_rows, since_verdict, keeping, since_rows, before as before·Meaning, is_there, previously, place, tp_row, tp_verdict, given, match_field, match_arguments, same_event, match, predicate, both, compared, compare_verdict, unbound, bind_rows, eq_rows, compare_rows, if_int, arithmetic, aggregated, relation, sum_of, count_of, names, arguments, meaning_of, no_meaning, meaning, firsts, question}
use Rattle.meaning.specs.Calls.{number_of, is_int, well_formed, more_row, start_row, start_or, is_condition, is_aggregate, answerable, against, walk_of, told, unless_refused, unless_against, asking, cleared, workspace_after, result, check_call, saying, ask_call, cells_of, filled, all_under, projected, output_fits, rows_given, rows_call}
use Rattle.meaning.specs.Written.{bytes_of, packed, table, placed, flat, file}

-- examples are pairs: what is wanted, and what is asked
unfoldable pub wanted : {A B : Type 0} → List (A × B) → List A
wanted es = map (λ e. e.0) es

unfoldable pub got : {A B : Type 0} → (B → A) → List (A × B) → List A
got f es = map (λ e. f e.1) es

-- a check's refusal, 0 where the file passes
unfoldable pub no : {A : Type 0} → Said A → ℕ
no (gives a steps most) = 0
no (refuses n steps most) = n

unfoldable pub checked : List ℕ → ℕ
checked s = no (check_call s)

-- a call with 100 steps, room for 9 rows and just the workspace for V variables
unfoldable pub asked : List ℕ → ℕ → ℕ → List ℕ → Call
asked s node point start = record {
  file = s;
  point = point;
  node = node;
  start = start;
  limits = record { steps = 100; room = 9 };
  workspace = replicate (9 * length start) 7;
}

unfoldable pub answer : List ℕ → ℕ → ℕ → List ℕ → Said Answer
answer s node point start = (ask_call (asked s node point start)).said

-- the row count with both numbers, and the cells filled
unfoldable pub rows : List ℕ → ℕ → ℕ → List ℕ → List ℕ → ℕ → Said ℕ × List ℕ
rows s node point start binders cells =
    let r = rows_call binders (replicate cells 9) (asked s node point start) in (r.said, r.output)

-- the whole definition is computed by
unfoldable pub all : true ≡ true
unfolding upto made ◌and◌ ◌or◌ choose only_if is_some or_else pick all_below rises greatest levels throughout before free first follow next ended utf8 words contents offset size body body_word string_word value_word member_word point_word node_word list text places run_of signed maybe unit_of cmp_of arith_of root_from under node_from value_from part_at value_at entity_at point_at node_at case_of is_sort sort_of arity child start_of body_rule bodies mosts end_before place_rule end_to_end utf8_rule order_rule string_rules member_rule array_item object_item value_rule part_count part_value depth depth_rule value_rules string_run entity_rule entity_item entity_run point_rule point_rules path_run variable_run argument_rule argument_run literal zeros_from rule_of node_rule height height_rule node_rules check highest lowest clamp calculate seconds_of seconds in_window sumℤ window is_digit digits natural cut unsigned scaled decimal seen decimal_key see same_list same_parts alike same_value as_value same bound_of integer named members descend dotted writes written last_under lookup bound_at attributes_of own_part supplied entity_of attribute from_root root_of scope_at context_at field_at in_cells cells row_of at blank with without without_all over onto agree agreeing same_cell same_row is_in add_new join_all column give visit adding dropping ◌>>=◌ started after measured spent most run ending outcome under·Meaning unbinding earlier latest now lending condition term aggregate if_yes unless_yes one_row as_rows taking lent_to and_verdict joining and_rows or_verdict or_rows not_verdict exists_verdict exists_rows time inside if_inside downward rising upward every formerly_verdict formerly_rows since_verdict keeping since_rows before·Meaning is_there previously place tp_row tp_verdict given match_field match_arguments same_event match predicate both compared compare_verdict unbound bind_rows eq_rows compare_rows if_int arithmetic aggregated relation sum_of count_of names arguments meaning_of no_meaning meaning firsts question number_of is_int well_formed more_row start_row start_or is_condition is_aggregate answerable against walk_of told unless_refused unless_against asking cleared workspace_after result check_call saying ask_call cells_of filled all_under projected output_fits rows_given rows_call bytes_of packed table placed flat file wanted got no checked asked answer rows
all = refl
