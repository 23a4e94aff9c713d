-- A trace word for word, and what the import call says and writes, computed
use Rattle.std.specs.Prelude.{◌≡◌, refl, true, List, [], ◌∷◌, ◌++◌, map, ℕ, replicate, Ok, Err}
use Rattle.meaning.specs.Tests.{◌and◌, ◌or◌, choose, only_if, or_else}
use Rattle.meaning.specs.Text.{before, first, follow, next, ended as ended·Text}
use Rattle.meaning.specs.Equal.{is_digit, same_list}
use Rattle.meaning.specs.Case.{places}
use Rattle.meaning.specs.Calls.{cleared, number_of}
use Rattle.encode.specs.Words.{packed}
use Rattle.encode.specs.Encode.{flat, placed, encoded}
use Rattle.encode.specs.Write.{over}
use Rattle.jsontext.specs.Reading.{then, is_blank, blanks, want, or_wrong}
use Rattle.jsontext.specs.Numbers.{digits, some_digits, int, frac, unsigned, exp, fits, signed, integer, parts, magnitude, number}
use Rattle.jsontext.specs.Strings.{hex_digit, hex_digits, utf8_of, is_high, is_low, joined, low_unit, low_half, pair, character, simple, escape, is_wrong, chars, string}
use Rattle.jsontext.specs.Values.{numeral, begins, due, after_part, items, unless_empty, array, before as before·Names, after_name, members, object, member_of, item_parts, member_parts, closes_first, form_named, form_after, form, only, both, entity, argument, extension, spelt, braced, value_of, value, bare, fields}
use Rattle.jsontext.specs.Events.{comma, closing, triple, unless_none, field_readers, is_field, field_by, with, found, have, whole, complete, event, ended, line, onto, cut, with_event, lines, log}
use Rattle.meaning.specs.declared.Refusal.TheVariants.{BadLimits, OutputTooShort}
use Rattle.jsontext.specs.declared.Fault.TheVariants.{BadField}
use Rattle.jsontrace.specs.declared.ImportError.TheVariants.{Faulty, Refused}
use Rattle.jsontrace.specs.Order.{insert_part, ordered, ordered_maybe, item_before, insert_item, ordered_entities, arranged}
use Rattle.jsontrace.specs.Trace.{empty, ◌⊕◌, texts, value as value·Trace, members as members·Trace, point, lists, first as first·Trace, past, last_value, low, high, many, holding, after_run, value_adds, maybe_adds, maybe_number, naming, entity_adds, entities_add, event_adds, events_add, bodies_of, tables_of, trace, trace_marks}
use Rattle.jsontrace.specs.Import.{fault_number, import_number, cells_for, Imported, given_events, given_log, imported, workspace_after, events_of, filled_if, import_call}

-- {"time":5,"namespace":["N"],"action":"a","kind":"k","logged":{"b":[true,-1],"a":"x"},"context":{},"entities":[["U","2",{}],["T","1",{"c":null}]]}
-- {"time":-1,"namespace":[],"action":"a","kind":"k","logged":{},"context":{"e":{"__entity":{"type":"T","id":"1"}}},"principal":"p","resource":{"__extn":{"fn":"decimal","arg":"1.5"}},"entities":[]}
abbrev pub two_events : List ℕ
two_events =
    123 ∷ 34 ∷ 116 ∷ 105 ∷ 109 ∷ 101 ∷ 34 ∷ 58 ∷ 53 ∷ 44 ∷ 34 ∷ 110 ∷ 97 ∷ 109 ∷ 101 ∷ 115 ∷ 112 ∷ 97 ∷ 99 ∷ 101 ∷ 34 ∷ 58 ∷ 91 ∷ 34 ∷ 78 ∷ 34 ∷ 93 ∷ 44 ∷ 34 ∷ 97 ∷ 99 ∷ 116 ∷ 105 ∷ 111 ∷ 110 ∷ 34 ∷ 58 ∷ 34 ∷ 97 ∷ 34 ∷ 44 ∷ 34 ∷ 107 ∷ 105 ∷ 110 ∷ 100 ∷ 34 ∷ 58 ∷ 34 ∷ 107 ∷ 34 ∷ 44 ∷ 34 ∷ 108 ∷ 111 ∷ 103 ∷ 103 ∷ 101 ∷ 100 ∷ 34 ∷ 58 ∷ 123 ∷ 34 ∷ 98 ∷ 34 ∷ 58 ∷ 91 ∷ 116 ∷ 114 ∷ 117 ∷ 101 ∷ 44 ∷ 45 ∷ 49 ∷ 93 ∷ 44 ∷ 34 ∷ 97 ∷ 34 ∷ 58 ∷ 34 ∷ 120 ∷ 34 ∷ 125 ∷ 44 ∷ 34 ∷ 99 ∷ 111 ∷ 110 ∷ 116 ∷ 101 ∷ 120 ∷ 116 ∷ 34 ∷ 58 ∷ 123 ∷ 125 ∷ 44 ∷ 34 ∷ 101 ∷ 110 ∷ 116 ∷ 105 ∷ 116 ∷ 105 ∷ 101 ∷ 115 ∷ 34 ∷ 58 ∷ 91 ∷ 91 ∷ 34 ∷ 85 ∷ 34 ∷ 44 ∷ 34 ∷ 50 ∷ 34 ∷ 44 ∷ 123 ∷ 125 ∷ 93 ∷ 44 ∷ 91 ∷ 34 ∷ 84 ∷ 34 ∷ 44 ∷ 34 ∷ 49 ∷ 34 ∷ 44 ∷ 123 ∷ 34 ∷ 99 ∷ 34 ∷ 58 ∷ 110 ∷ 117 ∷ 108 ∷ 108 ∷ 125 ∷ 93 ∷ 93 ∷ 125 ∷ 10 ∷
    123 ∷ 34 ∷ 116 ∷ 105 ∷ 109 ∷ 101 ∷ 34 ∷ 58 ∷ 45 ∷ 49 ∷ 44 ∷ 34 ∷ 110 ∷ 97 ∷ 109 ∷ 101 ∷ 115 ∷ 112 ∷ 97 ∷ 99 ∷ 101 ∷ 34 ∷ 58 ∷ 91 ∷ 93 ∷ 44 ∷ 34 ∷ 97 ∷ 99 ∷ 116 ∷ 105 ∷ 111 ∷ 110 ∷ 34 ∷ 58 ∷ 34 ∷ 97 ∷ 34 ∷ 44 ∷ 34 ∷ 107 ∷ 105 ∷ 110 ∷ 100 ∷ 34 ∷ 58 ∷ 34 ∷ 107 ∷ 34 ∷ 44 ∷ 34 ∷ 108 ∷ 111 ∷ 103 ∷ 103 ∷ 101 ∷ 100 ∷ 34 ∷ 58 ∷ 123 ∷ 125 ∷ 44 ∷ 34 ∷ 99 ∷ 111 ∷ 110 ∷ 116 ∷ 101 ∷ 120 ∷ 116 ∷ 34 ∷ 58 ∷ 123 ∷ 34 ∷ 101 ∷ 34 ∷ 58 ∷ 123 ∷ 34 ∷ 95 ∷ 95 ∷ 101 ∷ 110 ∷ 116 ∷ 105 ∷ 116 ∷ 121 ∷ 34 ∷ 58 ∷ 123 ∷ 34 ∷ 116 ∷ 121 ∷ 112 ∷ 101 ∷ 34 ∷ 58 ∷ 34 ∷ 84 ∷ 34 ∷ 44 ∷ 34 ∷ 105 ∷ 100 ∷ 34 ∷ 58 ∷ 34 ∷ 49 ∷ 34 ∷ 125 ∷ 125 ∷ 125 ∷ 44 ∷ 34 ∷ 112 ∷ 114 ∷ 105 ∷ 110 ∷ 99 ∷ 105 ∷ 112 ∷ 97 ∷ 108 ∷ 34 ∷ 58 ∷ 34 ∷ 112 ∷ 34 ∷ 44 ∷ 34 ∷ 114 ∷ 101 ∷ 115 ∷ 111 ∷ 117 ∷ 114 ∷ 99 ∷ 101 ∷ 34 ∷ 58 ∷ 123 ∷ 34 ∷ 95 ∷ 95 ∷ 101 ∷ 120 ∷ 116 ∷ 110 ∷ 34 ∷ 58 ∷ 123 ∷ 34 ∷ 102 ∷ 110 ∷ 34 ∷ 58 ∷ 34 ∷ 100 ∷ 101 ∷ 99 ∷ 105 ∷ 109 ∷ 97 ∷ 108 ∷ 34 ∷ 44 ∷ 34 ∷ 97 ∷ 114 ∷ 103 ∷ 34 ∷ 58 ∷ 34 ∷ 49 ∷ 46 ∷ 53 ∷ 34 ∷ 125 ∷ 125 ∷ 44 ∷ 34 ∷ 101 ∷ 110 ∷ 116 ∷ 105 ∷ 116 ∷ 105 ∷ 101 ∷ 115 ∷ 34 ∷ 58 ∷ 91 ∷ 93 ∷ 125 ∷ 10 ∷ []

-- the whole definition is computed by
unfoldable pub all : true ≡ true
unfolding ◌and◌ ◌or◌ choose only_if or_else before first follow next ended·Text is_digit same_list places cleared number_of packed flat placed encoded over then is_blank blanks want or_wrong digits some_digits int frac unsigned exp fits signed integer parts magnitude number hex_digit hex_digits utf8_of is_high is_low joined low_unit low_half pair character simple escape is_wrong chars string numeral begins due after_part items unless_empty array before·Names after_name members object member_of item_parts member_parts closes_first form_named form_after form only both entity argument extension spelt braced value_of value bare fields comma closing triple unless_none field_readers is_field field_by with found have whole complete event ended line onto cut with_event lines log insert_part ordered ordered_maybe item_before insert_item ordered_entities arranged empty ◌⊕◌ texts value·Trace members·Trace point lists first·Trace past last_value low high many holding after_run value_adds maybe_adds maybe_number naming entity_adds entities_add event_adds events_add bodies_of tables_of trace trace_marks fault_number import_number cells_for given_events given_log imported workspace_after events_of filled_if import_call
all = refl

-- strings in the order of the fields, each occurrence a record; members and entities sorted
strings : List ℕ
strings = 0 ∷ 1 ∷ 1 ∷ 1 ∷ 2 ∷ 1 ∷ 3 ∷ 1 ∷ 4 ∷ 1 ∷ 5 ∷ 1 ∷ 6 ∷ 1 ∷ 7 ∷ 1 ∷ 8 ∷ 1 ∷ 9 ∷ 1 ∷ 10 ∷ 1 ∷ 11 ∷ 1 ∷ 12 ∷ 1 ∷ 13 ∷ 1 ∷ 14 ∷ 1 ∷ 15 ∷ 1 ∷ 16 ∷ 1 ∷ 17 ∷ 3 ∷ []

values : List ℕ
values =
    4 ∷ 4 ∷ 0 ∷ 0
    ∷ 1 ∷ 1 ∷ 0 ∷ 0
    ∷ 2 ∷ 4294967295 ∷ 4294967295 ∷ 0
    ∷ 6 ∷ 2 ∷ 2 ∷ 0
    ∷ 7 ∷ 0 ∷ 2 ∷ 0
    ∷ 7 ∷ 4 ∷ 0 ∷ 0
    ∷ 0 ∷ 0 ∷ 0 ∷ 0
    ∷ 7 ∷ 4 ∷ 1 ∷ 0
    ∷ 7 ∷ 5 ∷ 0 ∷ 0
    ∷ 7 ∷ 5 ∷ 0 ∷ 0
    ∷ 5 ∷ 14 ∷ 15 ∷ 0
    ∷ 7 ∷ 5 ∷ 1 ∷ 0
    ∷ 4 ∷ 16 ∷ 0 ∷ 0
    ∷ 3 ∷ 17 ∷ 0 ∷ 0 ∷ []

member_words : List ℕ
member_words = 3 ∷ 0 ∷ 5 ∷ 3 ∷ 4294967295 ∷ 1 ∷ 4294967295 ∷ 2 ∷ 8 ∷ 6 ∷ 13 ∷ 10 ∷ []

point_words : List ℕ
point_words =
    5 ∷ 0 ∷ 0 ∷ 1 ∷ 1 ∷ 2 ∷ 4 ∷ 5 ∷ 4294967295 ∷ 4294967295 ∷ 1 ∷ 2
    ∷ 4294967295 ∷ 4294967295 ∷ 7 ∷ 0 ∷ 11 ∷ 12 ∷ 9 ∷ 11 ∷ 12 ∷ 13 ∷ 7 ∷ 0 ∷ []

list_words : List ℕ
list_words = 0 ∷ 6 ∷ 7 ∷ 7 ∷ 9 ∷ 10 ∷ 8 ∷ []

-- NakaxbT1cU2akeT1p1.5
bytes : List ℕ
bytes = 78 ∷ 97 ∷ 107 ∷ 97 ∷ 120 ∷ 98 ∷ 84 ∷ 49 ∷ 99 ∷ 85 ∷ 50 ∷ 97 ∷ 107 ∷ 101 ∷ 84 ∷ 49 ∷ 112 ∷ 49 ∷ 46 ∷ 53 ∷ []

traced : trace (events_of (log two_events)) ≡ encoded 0 (map packed (strings ∷ values ∷ member_words ∷ point_words ∷ [] ∷ list_words ∷ []) ++ (bytes ∷ []))
unfolding all strings values member_words point_words list_words bytes
traced = refl

marked : trace_marks (events_of (log two_events)) ≡ 1 ∷ 1 ∷ 1 ∷ 0 ∷ 1 ∷ 1 ∷ 0 ∷ []
unfolding all
marked = refl

-- ---- what the call says

-- so many cells of workspace, bytes for the trace and for the marks
lent : ℕ × ℕ × ℕ → Imported
lent e = imported two_events (replicate e.0 9) (replicate e.1 9) (replicate e.2 9)

lengths : map lent ((86, 624, 7) ∷ (85, 624, 7) ∷ (86, 623, 7) ∷ (86, 624, 6) ∷ (85, 0, 0) ∷ []) ≡ Ok (624, 7) ∷ Err (Refused BadLimits) ∷ Err (Refused OutputTooShort) ∷ Err (Refused OutputTooShort) ∷ Err (Refused BadLimits) ∷ []
unfolding all lent
lengths = refl

-- {}: 10 before the text, the text before 14; the workspace is cleared, the buffers are as they were
faulty : import_call (123 ∷ 125 ∷ []) (9 ∷ 9 ∷ []) (9 ∷ []) [] ≡ record { said = Err (Faulty (record { fault = BadField; at = 1; first = 1 })); workspace = 0 ∷ 9 ∷ []; trace = 9 ∷ []; marks = [] }
unfolding all
faulty = refl

unlent : import_call (123 ∷ 125 ∷ []) [] (9 ∷ []) [] ≡ record { said = Err (Refused BadLimits); workspace = []; trace = 9 ∷ []; marks = [] }
unfolding all
unlent = refl

-- no event: contents alone
no-event : import_call [] [] (replicate 66 9) (9 ∷ []) ≡ record { said = Ok (64, 0); workspace = []; trace = encoded 0 ([] ∷ [] ∷ [] ∷ [] ∷ [] ∷ [] ∷ [] ∷ []) ++ (9 ∷ 9 ∷ []); marks = 9 ∷ [] }
unfolding all
no-event = refl
