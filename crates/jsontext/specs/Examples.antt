-- One text for each refusal, both sides of readings J5, J7, J11 to J15, and a log, computed. A fault is told with the bytes left at its place
use Rattle.std.specs.Prelude.{◌≡◌, refl, true, List, [], ◌∷◌, pos, negsuc}
use Rattle.std.proofs.Math.Option.{none, some}
use Rattle.meaning.specs.Tests.{◌and◌, ◌or◌, choose, only_if, or_else}
use Rattle.meaning.specs.Equal.{is_digit, same_list}
use Rattle.meaning.specs.Text.{first, follow, next, ended as ended·Text}
use Rattle.jsontext.specs.declared.Fault.TheVariants.{NotJson, RepeatedName, BadNumber, BadField, TooDeep}
use Rattle.jsontext.specs.Reading.{Read, got, fault, then, is_blank, blanks, want, or_wrong}
use Rattle.jsontext.specs.Numbers.{digits, some_digits, int, frac, unsigned, exp, fits, signed, integer, parts, magnitude, number}
use Rattle.jsontext.specs.Strings.{hex_digit, hex_digits, utf8_of, is_high, is_low, joined, low_unit, low_half, pair, character, simple, escape, is_wrong, chars, string}
use Rattle.jsontext.specs.Values.{J, Null, Truth, Int, Text, EntityOf, Decimal, Array, Object, end, part, numeral, begins, due, after_part, items, unless_empty, array, before, after_name, members, object, member_of, item_parts, member_parts, closes_first, form_named, form_after, form, only, both, entity, argument, extension, spelt, braced, value_of, value, bare, fields}
use Rattle.jsontext.specs.Events.{Log, events, refused, comma, closing, triple, unless_none, field_readers, is_field, field_by, with, found, have, whole, complete, event, ended, line, onto, cut, with_event, lines, log}

-- each pair is a pair of equals
abbrev Each : {A : Type 0} → List (A × A) → Type 0
Each [] = Unit {0}
Each (p ∷ ps) = (p.0 ≡ p.1) × Each ps

-- ---- values, with so many levels left

abbrev values : List (Read J × Read J)
values =
    -- [1, {"a":[true]}]
    (value 4 (91 ∷ 49 ∷ 44 ∷ 32 ∷ 123 ∷ 34 ∷ 97 ∷ 34 ∷ 58 ∷ 91 ∷ 116 ∷ 114 ∷ 117 ∷ 101 ∷ 93 ∷ 125 ∷ 93 ∷ []), got (Array (part [] (Int (pos 1)) (part [] (Object (part (97 ∷ []) (Array (part [] (Truth true) end)) end)) end))) [])
    ∷
    -- "\uD800x": a half alone, at its backslash
    (value 1 (34 ∷ 92 ∷ 117 ∷ 68 ∷ 56 ∷ 48 ∷ 48 ∷ 120 ∷ 34 ∷ []), fault NotJson 8 8)
    ∷
    -- "\ud83d\ude00\n"
    (value 1 (34 ∷ 92 ∷ 117 ∷ 100 ∷ 56 ∷ 51 ∷ 100 ∷ 92 ∷ 117 ∷ 100 ∷ 101 ∷ 48 ∷ 48 ∷ 92 ∷ 110 ∷ 34 ∷ []), got (Text (240 ∷ 159 ∷ 152 ∷ 128 ∷ 10 ∷ [])) [])
    ∷
    -- an accented letter, then E2 and a bracket: wrong at the bracket
    (value 1 (34 ∷ 195 ∷ 169 ∷ 226 ∷ 40 ∷ 34 ∷ []), fault NotJson 2 2)
    ∷
    -- {"a":1,"\u0061":2}: one name, at the second, with the first
    (value 4 (123 ∷ 34 ∷ 97 ∷ 34 ∷ 58 ∷ 49 ∷ 44 ∷ 34 ∷ 92 ∷ 117 ∷ 48 ∷ 48 ∷ 54 ∷ 49 ∷ 34 ∷ 58 ∷ 50 ∷ 125 ∷ []), fault RepeatedName 11 17)
    ∷
    -- {"a":1,"a":1.5}: told before the value is read (J11)
    (value 4 (123 ∷ 34 ∷ 97 ∷ 34 ∷ 58 ∷ 49 ∷ 44 ∷ 34 ∷ 97 ∷ 34 ∷ 58 ∷ 49 ∷ 46 ∷ 53 ∷ 125 ∷ []), fault RepeatedName 8 14)
    ∷
    -- {"a":1.5,"a":2}
    (value 4 (123 ∷ 34 ∷ 97 ∷ 34 ∷ 58 ∷ 49 ∷ 46 ∷ 53 ∷ 44 ∷ 34 ∷ 97 ∷ 34 ∷ 58 ∷ 50 ∷ 125 ∷ []), fault BadNumber 10 10)
    ∷
    -- 1.5x: the number is whole (J12)
    (value 1 (49 ∷ 46 ∷ 53 ∷ 120 ∷ []), fault BadNumber 4 4)
    ∷
    -- 1.x: no number (J12)
    (value 1 (49 ∷ 46 ∷ 120 ∷ []), fault NotJson 1 1)
    ∷
    -- [01]
    (value 2 (91 ∷ 48 ∷ 49 ∷ 93 ∷ []), fault NotJson 2 2)
    ∷
    -- [-9223372036854775808,-0]
    (value 2 (91 ∷ 45 ∷ 57 ∷ 50 ∷ 50 ∷ 51 ∷ 51 ∷ 55 ∷ 50 ∷ 48 ∷ 51 ∷ 54 ∷ 56 ∷ 53 ∷ 52 ∷ 55 ∷ 55 ∷ 53 ∷ 56 ∷ 48 ∷ 56 ∷ 44 ∷ 45 ∷ 48 ∷ 93 ∷ []), got (Array (part [] (Int (negsuc 9223372036854775807)) (part [] (Int (pos 0)) end))) [])
    ∷
    -- 9223372036854775808
    (value 1 (57 ∷ 50 ∷ 50 ∷ 51 ∷ 51 ∷ 55 ∷ 50 ∷ 48 ∷ 51 ∷ 54 ∷ 56 ∷ 53 ∷ 52 ∷ 55 ∷ 55 ∷ 53 ∷ 56 ∷ 48 ∷ 56 ∷ []), fault BadNumber 19 19)
    ∷
    -- [[1]] with one level
    (value 1 (91 ∷ 91 ∷ 49 ∷ 93 ∷ 93 ∷ []), fault TooDeep 4 4)
    ∷
    -- []] with one level: an array, and a bracket is left
    (value 1 (91 ∷ 93 ∷ 93 ∷ []), got (Array end) (93 ∷ []))
    ∷
    -- [} with one level: no value begins there (J14)
    (value 1 (91 ∷ 125 ∷ []), fault NotJson 1 1)
    ∷
    -- {"__entity":{"id":"i","type":"T"}}: one level
    (value 1 (123 ∷ 34 ∷ 95 ∷ 95 ∷ 101 ∷ 110 ∷ 116 ∷ 105 ∷ 116 ∷ 121 ∷ 34 ∷ 58 ∷ 123 ∷ 34 ∷ 105 ∷ 100 ∷ 34 ∷ 58 ∷ 34 ∷ 105 ∷ 34 ∷ 44 ∷ 34 ∷ 116 ∷ 121 ∷ 112 ∷ 101 ∷ 34 ∷ 58 ∷ 34 ∷ 84 ∷ 34 ∷ 125 ∷ 125 ∷ []), got (EntityOf (84 ∷ []) (105 ∷ [])) [])
    ∷
    -- {"__entity":1}: a form by its only member (J5)
    (value 4 (123 ∷ 34 ∷ 95 ∷ 95 ∷ 101 ∷ 110 ∷ 116 ∷ 105 ∷ 116 ∷ 121 ∷ 34 ∷ 58 ∷ 49 ∷ 125 ∷ []), fault BadField 2 2)
    ∷
    -- {"__entity":1,"a":2}: no form (J15)
    (value 4 (123 ∷ 34 ∷ 95 ∷ 95 ∷ 101 ∷ 110 ∷ 116 ∷ 105 ∷ 116 ∷ 121 ∷ 34 ∷ 58 ∷ 49 ∷ 44 ∷ 34 ∷ 97 ∷ 34 ∷ 58 ∷ 50 ∷ 125 ∷ []), got (Object (part (95 ∷ 95 ∷ 101 ∷ 110 ∷ 116 ∷ 105 ∷ 116 ∷ 121 ∷ []) (Int (pos 1)) (part (97 ∷ []) (Int (pos 2)) end))) [])
    ∷
    -- {"__extn":{"fn":"decimal","arg":"1.5"}}
    (value 1 (123 ∷ 34 ∷ 95 ∷ 95 ∷ 101 ∷ 120 ∷ 116 ∷ 110 ∷ 34 ∷ 58 ∷ 123 ∷ 34 ∷ 102 ∷ 110 ∷ 34 ∷ 58 ∷ 34 ∷ 100 ∷ 101 ∷ 99 ∷ 105 ∷ 109 ∷ 97 ∷ 108 ∷ 34 ∷ 44 ∷ 34 ∷ 97 ∷ 114 ∷ 103 ∷ 34 ∷ 58 ∷ 34 ∷ 49 ∷ 46 ∷ 53 ∷ 34 ∷ 125 ∷ 125 ∷ []), got (Decimal (49 ∷ 46 ∷ 53 ∷ [])) [])
    ∷
    -- {"__extn":{"fn":"ip","arg":""}}
    (value 1 (123 ∷ 34 ∷ 95 ∷ 95 ∷ 101 ∷ 120 ∷ 116 ∷ 110 ∷ 34 ∷ 58 ∷ 123 ∷ 34 ∷ 102 ∷ 110 ∷ 34 ∷ 58 ∷ 34 ∷ 105 ∷ 112 ∷ 34 ∷ 44 ∷ 34 ∷ 97 ∷ 114 ∷ 103 ∷ 34 ∷ 58 ∷ 34 ∷ 34 ∷ 125 ∷ 125 ∷ []), fault BadField 15 15)
    ∷ []

pub values-are : Each values
unfolding then is_blank blanks want or_wrong digits some_digits int frac unsigned exp fits signed integer parts magnitude number hex_digit hex_digits utf8_of is_high is_low joined low_unit low_half pair character simple escape is_wrong chars string numeral begins due after_part items unless_empty array before after_name members object member_of item_parts member_parts closes_first form_named form_after form only both entity argument extension spelt braced value_of value bare fields comma closing triple unless_none field_readers is_field field_by with found have whole complete event ended line onto cut with_event lines log ◌and◌ ◌or◌ choose only_if or_else is_digit same_list first follow next ended·Text
values-are = (refl, (refl, (refl, (refl, (refl, (refl, (refl, (refl, (refl, (refl, (refl, (refl, (refl, (refl, (refl, (refl, (refl, (refl, (refl, (refl, tt))))))))))))))))))))

-- ---- logs, with places from the front

abbrev logs : List (Log × Log)
logs =
    -- {}: a field is missing, at the brace
    (log (123 ∷ 125 ∷ []), refused BadField 1 1)
    ∷
    -- a blank line
    (log (10 ∷ []), refused NotJson 0 0)
    ∷
    -- {"action":1.5}: a string is due (J13)
    (log (123 ∷ 34 ∷ 97 ∷ 99 ∷ 116 ∷ 105 ∷ 111 ∷ 110 ∷ 34 ∷ 58 ∷ 49 ∷ 46 ∷ 53 ∷ 125 ∷ []), refused BadField 10 10)
    ∷
    -- {"actions":1.5}
    (log (123 ∷ 34 ∷ 97 ∷ 99 ∷ 116 ∷ 105 ∷ 111 ∷ 110 ∷ 115 ∷ 34 ∷ 58 ∷ 49 ∷ 46 ∷ 53 ∷ 125 ∷ []), refused BadField 1 1)
    ∷
    -- [: a line is an object
    (log (32 ∷ 91 ∷ []), refused BadField 1 1)
    ∷
    -- {"logged":{"__entity":{}}}: a form is no record (J5)
    (log (123 ∷ 34 ∷ 108 ∷ 111 ∷ 103 ∷ 103 ∷ 101 ∷ 100 ∷ 34 ∷ 58 ∷ 123 ∷ 34 ∷ 95 ∷ 95 ∷ 101 ∷ 110 ∷ 116 ∷ 105 ∷ 116 ∷ 121 ∷ 34 ∷ 58 ∷ 123 ∷ 125 ∷ 125 ∷ 125 ∷ []), refused BadField 10 10)
    ∷
    -- {"entities":[["T","i",{},1]]}: at the comma
    (log (123 ∷ 34 ∷ 101 ∷ 110 ∷ 116 ∷ 105 ∷ 116 ∷ 105 ∷ 101 ∷ 115 ∷ 34 ∷ 58 ∷ 91 ∷ 91 ∷ 34 ∷ 84 ∷ 34 ∷ 44 ∷ 34 ∷ 105 ∷ 34 ∷ 44 ∷ 123 ∷ 125 ∷ 44 ∷ 49 ∷ 93 ∷ 93 ∷ 125 ∷ []), refused BadField 24 24)
    ∷
    -- {"entities":[["T"]]}: at the bracket
    (log (123 ∷ 34 ∷ 101 ∷ 110 ∷ 116 ∷ 105 ∷ 116 ∷ 105 ∷ 101 ∷ 115 ∷ 34 ∷ 58 ∷ 91 ∷ 91 ∷ 34 ∷ 84 ∷ 34 ∷ 93 ∷ 93 ∷ 125 ∷ []), refused BadField 17 17)
    ∷
    -- a line with CRLF: its event; principal null is the value Null, no resource is none
    (log (123 ∷ 34 ∷ 116 ∷ 105 ∷ 109 ∷ 101 ∷ 34 ∷ 58 ∷ 49 ∷ 44 ∷ 34 ∷ 110 ∷ 97 ∷ 109 ∷ 101 ∷ 115 ∷ 112 ∷ 97 ∷ 99 ∷ 101 ∷ 34 ∷ 58 ∷ 91 ∷ 34 ∷ 78 ∷ 34 ∷ 93 ∷ 44 ∷ 34 ∷ 97 ∷ 99 ∷ 116 ∷ 105 ∷ 111 ∷ 110 ∷ 34 ∷ 58 ∷ 34 ∷ 97 ∷ 34 ∷ 44 ∷ 34 ∷ 107 ∷ 105 ∷ 110 ∷ 100 ∷ 34 ∷ 58 ∷ 34 ∷ 107 ∷ 34 ∷ 44 ∷ 34 ∷ 108 ∷ 111 ∷ 103 ∷ 103 ∷ 101 ∷ 100 ∷ 34 ∷ 58 ∷ 123 ∷ 34 ∷ 120 ∷ 34 ∷ 58 ∷ 50 ∷ 125 ∷ 44 ∷ 34 ∷ 99 ∷ 111 ∷ 110 ∷ 116 ∷ 101 ∷ 120 ∷ 116 ∷ 34 ∷ 58 ∷ 123 ∷ 125 ∷ 44 ∷ 34 ∷ 112 ∷ 114 ∷ 105 ∷ 110 ∷ 99 ∷ 105 ∷ 112 ∷ 97 ∷ 108 ∷ 34 ∷ 58 ∷ 110 ∷ 117 ∷ 108 ∷ 108 ∷ 44 ∷ 34 ∷ 101 ∷ 110 ∷ 116 ∷ 105 ∷ 116 ∷ 105 ∷ 101 ∷ 115 ∷ 34 ∷ 58 ∷ 91 ∷ 91 ∷ 34 ∷ 84 ∷ 34 ∷ 44 ∷ 34 ∷ 105 ∷ 34 ∷ 44 ∷ 123 ∷ 125 ∷ 93 ∷ 93 ∷ 125 ∷ 13 ∷ 10 ∷ []), events (record { time = pos 1; namespace = (78 ∷ []) ∷ []; action = (97 ∷ []); kind = (107 ∷ []); logged = part (120 ∷ []) (Int (pos 2)) end; context = end; principal = some Null; resource = none; entities = record { type = (84 ∷ []); id = (105 ∷ []); attributes = end } ∷ [] } ∷ []))
    ∷
    -- an event, then {"time":1,"time":2}: places in the whole text
    (log (123 ∷ 34 ∷ 116 ∷ 105 ∷ 109 ∷ 101 ∷ 34 ∷ 58 ∷ 49 ∷ 44 ∷ 34 ∷ 110 ∷ 97 ∷ 109 ∷ 101 ∷ 115 ∷ 112 ∷ 97 ∷ 99 ∷ 101 ∷ 34 ∷ 58 ∷ 91 ∷ 34 ∷ 78 ∷ 34 ∷ 93 ∷ 44 ∷ 34 ∷ 97 ∷ 99 ∷ 116 ∷ 105 ∷ 111 ∷ 110 ∷ 34 ∷ 58 ∷ 34 ∷ 97 ∷ 34 ∷ 44 ∷ 34 ∷ 107 ∷ 105 ∷ 110 ∷ 100 ∷ 34 ∷ 58 ∷ 34 ∷ 107 ∷ 34 ∷ 44 ∷ 34 ∷ 108 ∷ 111 ∷ 103 ∷ 103 ∷ 101 ∷ 100 ∷ 34 ∷ 58 ∷ 123 ∷ 34 ∷ 120 ∷ 34 ∷ 58 ∷ 50 ∷ 125 ∷ 44 ∷ 34 ∷ 99 ∷ 111 ∷ 110 ∷ 116 ∷ 101 ∷ 120 ∷ 116 ∷ 34 ∷ 58 ∷ 123 ∷ 125 ∷ 44 ∷ 34 ∷ 112 ∷ 114 ∷ 105 ∷ 110 ∷ 99 ∷ 105 ∷ 112 ∷ 97 ∷ 108 ∷ 34 ∷ 58 ∷ 110 ∷ 117 ∷ 108 ∷ 108 ∷ 44 ∷ 34 ∷ 101 ∷ 110 ∷ 116 ∷ 105 ∷ 116 ∷ 105 ∷ 101 ∷ 115 ∷ 34 ∷ 58 ∷ 91 ∷ 91 ∷ 34 ∷ 84 ∷ 34 ∷ 44 ∷ 34 ∷ 105 ∷ 34 ∷ 44 ∷ 123 ∷ 125 ∷ 93 ∷ 93 ∷ 125 ∷ 13 ∷ 10 ∷ 123 ∷ 34 ∷ 116 ∷ 105 ∷ 109 ∷ 101 ∷ 34 ∷ 58 ∷ 49 ∷ 44 ∷ 34 ∷ 116 ∷ 105 ∷ 109 ∷ 101 ∷ 34 ∷ 58 ∷ 50 ∷ 125 ∷ []), refused RepeatedName 137 128)
    ∷ []

pub logs-are : Each logs
unfolding then is_blank blanks want or_wrong digits some_digits int frac unsigned exp fits signed integer parts magnitude number hex_digit hex_digits utf8_of is_high is_low joined low_unit low_half pair character simple escape is_wrong chars string numeral begins due after_part items unless_empty array before after_name members object member_of item_parts member_parts closes_first form_named form_after form only both entity argument extension spelt braced value_of value bare fields comma closing triple unless_none field_readers is_field field_by with found have whole complete event ended line onto cut with_event lines log ◌and◌ ◌or◌ choose only_if or_else is_digit same_list first follow next ended·Text
logs-are = (refl, (refl, (refl, (refl, (refl, (refl, (refl, (refl, (refl, (refl, tt))))))))))
