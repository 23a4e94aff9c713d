-- How the writer's examples are asked: an unsorted case in words, and what writing it says
use Rattle.std.specs.Prelude.{◌≡◌, refl, true, List, [], ◌∷◌, ◌++◌, map, ℕ, replicate}
use Rattle.std.proofs.Math.Option.{Option, none, some}
use Rattle.meaning.specs.declared.Refusal.{Refusal}
use Rattle.meaning.specs.Below.{upto, made}
use Rattle.meaning.specs.Tests.{◌and◌, ◌or◌, choose, or_else, pick, all_below, rises, greatest, levels, throughout}
use Rattle.meaning.specs.Text.{before, free, first, follow, next, ended, utf8}
use Rattle.meaning.specs.Case.{words, contents, offset, size, body, body_word, string_word, value_word, member_word, point_word, node_word, list, text, places, unit_of, cmp_of, arith_of, root_from, under, node_from, node_at, arity, child}
use Rattle.meaning.specs.Check.{start_of, body_rule, bodies, mosts, end_before, place_rule, end_to_end, utf8_rule, order_rule, string_rules, member_rule, array_item, object_item, value_rule, part_count, part_value, depth, depth_rule, value_rules, string_run, entity_rule, entity_item, entity_run, point_rule, point_rules, path_run, variable_run, argument_rule, argument_run, literal, zeros_from, rule_of, node_rule, height, height_rule, node_rules, check}
use Rattle.meaning.specs.Calls.{number_of}
use Rattle.encode.specs.Words.{packed}
use Rattle.encode.specs.Encode.{flat, placed, encoded}
use Rattle.encode.specs.Join.{insert_new, below, joined}
use Rattle.encode.specs.Unsorted.{in_text, texts, number, value_names, member_names, point_names, node_names, marked, names, renamed, table, tables, parts, finished}
use Rattle.encode.specs.Write.{all_marked, none_marked, entity_marks, point_marks, argument_marks, marks_of, node_marks, over, make_refusal, later_refusal, write_refusal, output_after}
use Rattle.encode.specs.Read.{some_below, point_strings, strings_of, used_as_string, point_others, others_of, used_otherwise, read_marks, one_way}

-- examples are pairs: what is wanted, and what is asked
unfoldable pub wanted : {A B : Type 0} → List (A × B) → List A
wanted es = map (λ e. e.0) es

unfoldable pub got : {A B : Type 0} → (B → A) → List (A × B) → List A
got f es = map (λ e. f e.1) es

-- V; strings, values, members, points, nodes and lists in words; text
unfoldable pub unsorted : ℕ → List (List ℕ) → List ℕ → List ℕ
unsorted v tables text = encoded v (map packed tables ++ (text ∷ []))

-- 0 where nothing is refused
unfoldable pub told : Option Refusal → ℕ
told none = 0
told (some r) = number_of r

-- with so many bytes of room and of output
unfoldable pub wrote : ℕ → ℕ → List ℕ × List ℕ → ℕ
wrote room output e = told (write_refusal e.0 e.1 (replicate room 9) (replicate output 9))

-- the whole definition is computed by
unfoldable pub all : true ≡ true
unfolding upto made ◌and◌ ◌or◌ choose or_else pick all_below rises greatest levels throughout before free first follow next ended utf8 words contents offset size body body_word string_word value_word member_word point_word node_word list text places unit_of cmp_of arith_of root_from under node_from node_at arity child start_of body_rule bodies mosts end_before place_rule end_to_end utf8_rule order_rule string_rules member_rule array_item object_item value_rule part_count part_value depth depth_rule value_rules string_run entity_rule entity_item entity_run point_rule point_rules path_run variable_run argument_rule argument_run literal zeros_from rule_of node_rule height height_rule node_rules check number_of packed flat placed encoded insert_new below joined in_text texts number value_names member_names point_names node_names marked names renamed table tables parts finished all_marked none_marked entity_marks point_marks argument_marks marks_of node_marks over make_refusal later_refusal write_refusal output_after some_below point_strings strings_of used_as_string point_others others_of used_otherwise read_marks one_way wanted got unsorted told wrote
all = refl
