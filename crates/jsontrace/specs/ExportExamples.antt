-- Two events imported, written and exported; 25 and 14, computed
use Rattle.std.specs.Prelude.{◌≡◌, refl, true, List, [], ◌∷◌, ◌++◌, map, ℕ, replicate, Ok, Err}
use Rattle.std.proofs.Math.Option.{none}
use Rattle.meaning.specs.declared.Refusal.TheVariants.{BadContents, BadPoints, OutputTooShort}
use Rattle.meaning.specs.Below.{upto, made}
use Rattle.meaning.specs.Tests.{pick, all_below, rises, greatest, levels, throughout}
use Rattle.meaning.specs.Text.{free, utf8}
use Rattle.meaning.specs.Case.{nothing, words, contents, offset, size, body, body_word, string_word, value_word, member_word, point_word, node_word, list, text, run_of, signed as signed·Case, maybe, value_from, part_at, value_at, entity_at, point_at}
use Rattle.meaning.specs.Check.{start_of, body_rule, bodies, mosts, end_before, place_rule, end_to_end, utf8_rule, order_rule, string_rules, member_rule, array_item, object_item, value_rule, part_count, part_value, depth, depth_rule, value_rules, string_run, entity_rule, entity_item, entity_run, point_rule, point_rules, node_rules, check}
use Rattle.encode.specs.Words.{packed}
use Rattle.encode.specs.Encode.{encoded}
use Rattle.encode.specs.Join.{insert_new, below, joined}
use Rattle.encode.specs.Unsorted.{texts, number, value_names, member_names, point_names, node_names, marked, names, renamed, table, tables, parts, finished}
use Rattle.jsontext.specs.Events.{log}
use Rattle.jsontrace.specs.declared.ExportError.TheVariants.{Ambiguous, Refused}
use Rattle.jsontrace.specs.Trace.{trace, trace_marks}
use Rattle.jsontrace.specs.Import.{events_of}
use Rattle.jsontrace.specs.Text.{hex_byte, escaped_byte, escaped, quoted, decimal_digits, natural, integer, after_first, commas, brackets, braces, pair, shown, maybe_pair, entity_text, field_texts, event_text, log_text}
use Rattle.jsontrace.specs.Export.{Exported, parts_of, members_of, tree_of, tree_at, maybe_tree, item_of, event_of, point_events, exported, form_name, not_form, clear, clear_maybe, clear_items, clear_event, clear_events, given_case, unless_refused, filled_if, export_call}
use Rattle.jsontrace.specs.Examples.{all, two_events}

-- the whole definition is computed by
unfoldable exports : true ≡ true
unfolding all upto made pick all_below rises greatest levels throughout free utf8 words contents offset size body body_word string_word value_word member_word point_word node_word list text run_of signed·Case maybe value_from part_at value_at entity_at point_at start_of body_rule bodies mosts end_before place_rule end_to_end utf8_rule order_rule string_rules member_rule array_item object_item value_rule part_count part_value depth depth_rule value_rules string_run entity_rule entity_item entity_run point_rule point_rules node_rules check insert_new below joined texts number value_names member_names point_names node_names marked names renamed table tables parts finished hex_byte escaped_byte escaped quoted decimal_digits natural integer after_first commas brackets braces pair shown maybe_pair entity_text field_texts event_text log_text parts_of members_of tree_of tree_at maybe_tree item_of event_of point_events exported form_name not_form clear clear_maybe clear_items clear_event clear_events given_case unless_refused filled_if export_call
exports = refl

-- {"time":5,"namespace":["N"],"action":"a","kind":"k","logged":{"a":"x","b":[true,-1]},"context":{},"entities":[["T","1",{"c":null}],["U","2",{}]]}
-- {"time":-1,"namespace":[],"action":"a","kind":"k","logged":{},"context":{"e":{"__entity":{"type":"T","id":"1"}}},"principal":"p","resource":{"__extn":{"fn":"decimal","arg":"1.5"}},"entities":[]}
sorted : List ℕ
sorted =
    123 ∷ 34 ∷ 116 ∷ 105 ∷ 109 ∷ 101 ∷ 34 ∷ 58 ∷ 53 ∷ 44 ∷ 34 ∷ 110 ∷ 97 ∷ 109 ∷ 101 ∷ 115 ∷ 112 ∷ 97 ∷ 99 ∷ 101 ∷ 34 ∷ 58 ∷ 91 ∷ 34 ∷ 78 ∷ 34 ∷ 93 ∷ 44 ∷ 34 ∷ 97 ∷ 99 ∷ 116 ∷ 105 ∷ 111 ∷ 110 ∷ 34 ∷ 58 ∷ 34 ∷ 97 ∷ 34 ∷ 44 ∷ 34 ∷ 107 ∷ 105 ∷ 110 ∷ 100 ∷ 34 ∷ 58 ∷ 34 ∷ 107 ∷ 34 ∷ 44 ∷ 34 ∷ 108 ∷ 111 ∷ 103 ∷ 103 ∷ 101 ∷ 100 ∷ 34 ∷ 58 ∷ 123 ∷ 34 ∷ 97 ∷ 34 ∷ 58 ∷ 34 ∷ 120 ∷ 34 ∷ 44 ∷ 34 ∷ 98 ∷ 34 ∷ 58 ∷ 91 ∷ 116 ∷ 114 ∷ 117 ∷ 101 ∷ 44 ∷ 45 ∷ 49 ∷ 93 ∷ 125 ∷ 44 ∷ 34 ∷ 99 ∷ 111 ∷ 110 ∷ 116 ∷ 101 ∷ 120 ∷ 116 ∷ 34 ∷ 58 ∷ 123 ∷ 125 ∷ 44 ∷ 34 ∷ 101 ∷ 110 ∷ 116 ∷ 105 ∷ 116 ∷ 105 ∷ 101 ∷ 115 ∷ 34 ∷ 58 ∷ 91 ∷ 91 ∷ 34 ∷ 84 ∷ 34 ∷ 44 ∷ 34 ∷ 49 ∷ 34 ∷ 44 ∷ 123 ∷ 34 ∷ 99 ∷ 34 ∷ 58 ∷ 110 ∷ 117 ∷ 108 ∷ 108 ∷ 125 ∷ 93 ∷ 44 ∷ 91 ∷ 34 ∷ 85 ∷ 34 ∷ 44 ∷ 34 ∷ 50 ∷ 34 ∷ 44 ∷ 123 ∷ 125 ∷ 93 ∷ 93 ∷ 125 ∷ 10 ∷
    123 ∷ 34 ∷ 116 ∷ 105 ∷ 109 ∷ 101 ∷ 34 ∷ 58 ∷ 45 ∷ 49 ∷ 44 ∷ 34 ∷ 110 ∷ 97 ∷ 109 ∷ 101 ∷ 115 ∷ 112 ∷ 97 ∷ 99 ∷ 101 ∷ 34 ∷ 58 ∷ 91 ∷ 93 ∷ 44 ∷ 34 ∷ 97 ∷ 99 ∷ 116 ∷ 105 ∷ 111 ∷ 110 ∷ 34 ∷ 58 ∷ 34 ∷ 97 ∷ 34 ∷ 44 ∷ 34 ∷ 107 ∷ 105 ∷ 110 ∷ 100 ∷ 34 ∷ 58 ∷ 34 ∷ 107 ∷ 34 ∷ 44 ∷ 34 ∷ 108 ∷ 111 ∷ 103 ∷ 103 ∷ 101 ∷ 100 ∷ 34 ∷ 58 ∷ 123 ∷ 125 ∷ 44 ∷ 34 ∷ 99 ∷ 111 ∷ 110 ∷ 116 ∷ 101 ∷ 120 ∷ 116 ∷ 34 ∷ 58 ∷ 123 ∷ 34 ∷ 101 ∷ 34 ∷ 58 ∷ 123 ∷ 34 ∷ 95 ∷ 95 ∷ 101 ∷ 110 ∷ 116 ∷ 105 ∷ 116 ∷ 121 ∷ 34 ∷ 58 ∷ 123 ∷ 34 ∷ 116 ∷ 121 ∷ 112 ∷ 101 ∷ 34 ∷ 58 ∷ 34 ∷ 84 ∷ 34 ∷ 44 ∷ 34 ∷ 105 ∷ 100 ∷ 34 ∷ 58 ∷ 34 ∷ 49 ∷ 34 ∷ 125 ∷ 125 ∷ 125 ∷ 44 ∷ 34 ∷ 112 ∷ 114 ∷ 105 ∷ 110 ∷ 99 ∷ 105 ∷ 112 ∷ 97 ∷ 108 ∷ 34 ∷ 58 ∷ 34 ∷ 112 ∷ 34 ∷ 44 ∷ 34 ∷ 114 ∷ 101 ∷ 115 ∷ 111 ∷ 117 ∷ 114 ∷ 99 ∷ 101 ∷ 34 ∷ 58 ∷ 123 ∷ 34 ∷ 95 ∷ 95 ∷ 101 ∷ 120 ∷ 116 ∷ 110 ∷ 34 ∷ 58 ∷ 123 ∷ 34 ∷ 102 ∷ 110 ∷ 34 ∷ 58 ∷ 34 ∷ 100 ∷ 101 ∷ 99 ∷ 105 ∷ 109 ∷ 97 ∷ 108 ∷ 34 ∷ 44 ∷ 34 ∷ 97 ∷ 114 ∷ 103 ∷ 34 ∷ 58 ∷ 34 ∷ 49 ∷ 46 ∷ 53 ∷ 34 ∷ 125 ∷ 125 ∷ 44 ∷ 34 ∷ 101 ∷ 110 ∷ 116 ∷ 105 ∷ 116 ∷ 105 ∷ 101 ∷ 115 ∷ 34 ∷ 58 ∷ 91 ∷ 93 ∷ 125 ∷ 10 ∷ []

-- the case that the writer makes of the trace, and its log: members and entities in order
written : check (finished (trace (events_of (log two_events))) (trace_marks (events_of (log two_events)))) ≡ none
unfolding exports
written = refl

round : exported (finished (trace (events_of (log two_events))) (trace_marks (events_of (log two_events)))) ≡ sorted
unfolding exports sorted
round = refl

-- one point over the strings __entity and a"\x1f, with this record logged: 1 has one member, named __entity; 2 has none
logging : ℕ → List ℕ
logging v =
    encoded 0 (
    map packed (
    (0 ∷ 8 ∷ 8 ∷ 3 ∷ [])
    ∷ (0 ∷ 0 ∷ 0 ∷ 0 ∷ 7 ∷ 0 ∷ 1 ∷ 0 ∷ 7 ∷ 1 ∷ 0 ∷ 0 ∷ [])
    ∷ (0 ∷ 0 ∷ [])
    ∷ (0 ∷ 0 ∷ 0 ∷ 0 ∷ 1 ∷ 1 ∷ v ∷ 2 ∷ nothing ∷ nothing ∷ 0 ∷ 0 ∷ [])
    ∷ [] ∷ [] ∷ []
    )
    ++ ((95 ∷ 95 ∷ 101 ∷ 110 ∷ 116 ∷ 105 ∷ 116 ∷ 121 ∷ 97 ∷ 34 ∷ 31 ∷ []) ∷ [])
    )

-- {"time":0,"namespace":[],"action":"a\"\u001f","kind":"a\"\u001f","logged":{},"context":{},"entities":[]}
line : List ℕ
line = 123 ∷ 34 ∷ 116 ∷ 105 ∷ 109 ∷ 101 ∷ 34 ∷ 58 ∷ 48 ∷ 44 ∷ 34 ∷ 110 ∷ 97 ∷ 109 ∷ 101 ∷ 115 ∷ 112 ∷ 97 ∷ 99 ∷ 101 ∷ 34 ∷ 58 ∷ 91 ∷ 93 ∷ 44 ∷ 34 ∷ 97 ∷ 99 ∷ 116 ∷ 105 ∷ 111 ∷ 110 ∷ 34 ∷ 58 ∷ 34 ∷ 97 ∷ 92 ∷ 34 ∷ 92 ∷ 117 ∷ 48 ∷ 48 ∷ 49 ∷ 102 ∷ 34 ∷ 44 ∷ 34 ∷ 107 ∷ 105 ∷ 110 ∷ 100 ∷ 34 ∷ 58 ∷ 34 ∷ 97 ∷ 92 ∷ 34 ∷ 92 ∷ 117 ∷ 48 ∷ 48 ∷ 49 ∷ 102 ∷ 34 ∷ 44 ∷ 34 ∷ 108 ∷ 111 ∷ 103 ∷ 103 ∷ 101 ∷ 100 ∷ 34 ∷ 58 ∷ 123 ∷ 125 ∷ 44 ∷ 34 ∷ 99 ∷ 111 ∷ 110 ∷ 116 ∷ 101 ∷ 120 ∷ 116 ∷ 34 ∷ 58 ∷ 123 ∷ 125 ∷ 44 ∷ 34 ∷ 101 ∷ 110 ∷ 116 ∷ 105 ∷ 116 ∷ 105 ∷ 101 ∷ 115 ∷ 34 ∷ 58 ∷ 91 ∷ 93 ∷ 125 ∷ 10 ∷ []

-- into so many bytes
into : ℕ × ℕ → Exported
into e = (export_call (logging e.0) (replicate e.1 9)).said

-- a form is told of before a short output; one that no point reaches does not matter
said : map into ((2, 105) ∷ (2, 104) ∷ (1, 999) ∷ (1, 0) ∷ (0, 0) ∷ []) ≡ Ok 105 ∷ Err (Refused OutputTooShort) ∷ Err Ambiguous ∷ Err Ambiguous ∷ Err (Refused BadPoints) ∷ []
unfolding exports logging into
said = refl

output : (export_call (logging 2) (replicate 106 9)).output ≡ line ++ (9 ∷ [])
unfolding exports logging line
output = refl

no-case : export_call [] (9 ∷ []) ≡ record { said = Err (Refused BadContents); output = 9 ∷ [] }
unfolding exports
no-case = refl
