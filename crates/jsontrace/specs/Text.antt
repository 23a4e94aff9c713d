-- An event as a line of JSON, without blanks (J21)
use Rattle.std.specs.Prelude.{List, [], ◌∷◌, ◌++◌, map, ℕ, zero, suc, ◌+◌, ◌/◌, ◌%◌, ℤ, pos, negsuc, eqb, ltb}
use Rattle.std.proofs.Math.Option.{Option, none, some}
use Rattle.meaning.specs.Tests.{◌or◌, choose}
use Rattle.jsontext.specs.Values.{J, Null, Truth, Int, Text, EntityOf, Decimal, Array, Object, Parts, end, part, __entity, «type», «id», __extn, «fn», «arg», «decimal»}
use Rattle.jsontext.specs.Events.{Item, Event}

-- ---- strings

-- a digit below 16, in lower case
unfoldable pub hex_byte : ℕ → ℕ
hex_byte d = choose (ltb d 10) (48 + d) (87 + d)

-- a quotation mark and a backslash get a backslash; a byte below 32 is \u00 and two digits
unfoldable pub escaped_byte : ℕ → List ℕ
escaped_byte c =
    choose (eqb c 34 or eqb c 92) (92 ∷ c ∷ [])
    (choose (ltb c 32) (92 ∷ 117 ∷ 48 ∷ 48 ∷ hex_byte (c / 16) ∷ hex_byte (c % 16) ∷ []) (c ∷ []))

unfoldable pub escaped : List ℕ → List ℕ
escaped [] = []
escaped (c ∷ t) = escaped_byte c ++ escaped t

unfoldable pub quoted : List ℕ → List ℕ
quoted t = 34 ∷ escaped t ++ (34 ∷ [])

-- ---- integers

-- in decimal; each turn takes a digit, so that more turns than n suffice
unfoldable pub decimal_digits : ℕ → ℕ → List ℕ
decimal_digits zero n = []
decimal_digits (suc turns) n =
    choose (ltb n 10) ((48 + n) ∷ []) (decimal_digits turns (n / 10) ++ ((48 + n % 10) ∷ []))

unfoldable pub natural : ℕ → List ℕ
natural n = decimal_digits (suc n) n

unfoldable pub integer : ℤ → List ℕ
integer (pos n) = natural n
integer (negsuc n) = 45 ∷ natural (suc n)

-- ---- arrays and objects

unfoldable pub after_first : List (List ℕ) → List ℕ
after_first [] = []
after_first (t ∷ ts) = 44 ∷ t ++ after_first ts

-- with commas between
unfoldable pub commas : List (List ℕ) → List ℕ
commas [] = []
commas (t ∷ ts) = t ++ after_first ts

unfoldable pub brackets : List (List ℕ) → List ℕ
brackets ts = 91 ∷ commas ts ++ (93 ∷ [])

unfoldable pub braces : List (List ℕ) → List ℕ
braces ts = 123 ∷ commas ts ++ (125 ∷ [])

-- a name and its value
unfoldable pub pair : List ℕ → List ℕ → List ℕ
pair n t = quoted n ++ 58 ∷ t

-- ---- values

unfoldable mutual
  pub shown : J → List ℕ
  shown Null = 110 ∷ 117 ∷ 108 ∷ 108 ∷ []
  shown (Truth b) = choose b (116 ∷ 114 ∷ 117 ∷ 101 ∷ []) (102 ∷ 97 ∷ 108 ∷ 115 ∷ 101 ∷ [])
  shown (Int z) = integer z
  shown (Text t) = quoted t
  shown (EntityOf t i) = braces (pair __entity (braces (pair «type» (quoted t) ∷ pair «id» (quoted i) ∷ [])) ∷ [])
  shown (Decimal t) = braces (pair __extn (braces (pair «fn» (quoted «decimal») ∷ pair «arg» (quoted t) ∷ [])) ∷ [])
  shown (Array ps) = brackets (shown_items ps)
  shown (Object ps) = braces (shown_members ps)

  pub shown_items : Parts → List (List ℕ)
  shown_items end = []
  shown_items (part n j ps) = shown j ∷ shown_items ps

  pub shown_members : Parts → List (List ℕ)
  shown_members end = []
  shown_members (part n j ps) = pair n (shown j) ∷ shown_members ps

-- ---- events

abbrev pub «time» : List ℕ
«time» = 116 ∷ 105 ∷ 109 ∷ 101 ∷ []

abbrev pub «namespace» : List ℕ
«namespace» = 110 ∷ 97 ∷ 109 ∷ 101 ∷ 115 ∷ 112 ∷ 97 ∷ 99 ∷ 101 ∷ []

abbrev pub «action» : List ℕ
«action» = 97 ∷ 99 ∷ 116 ∷ 105 ∷ 111 ∷ 110 ∷ []

abbrev pub «kind» : List ℕ
«kind» = 107 ∷ 105 ∷ 110 ∷ 100 ∷ []

abbrev pub «logged» : List ℕ
«logged» = 108 ∷ 111 ∷ 103 ∷ 103 ∷ 101 ∷ 100 ∷ []

abbrev pub «context» : List ℕ
«context» = 99 ∷ 111 ∷ 110 ∷ 116 ∷ 101 ∷ 120 ∷ 116 ∷ []

abbrev pub «principal» : List ℕ
«principal» = 112 ∷ 114 ∷ 105 ∷ 110 ∷ 99 ∷ 105 ∷ 112 ∷ 97 ∷ 108 ∷ []

abbrev pub «resource» : List ℕ
«resource» = 114 ∷ 101 ∷ 115 ∷ 111 ∷ 117 ∷ 114 ∷ 99 ∷ 101 ∷ []

abbrev pub «entities» : List ℕ
«entities» = 101 ∷ 110 ∷ 116 ∷ 105 ∷ 116 ∷ 105 ∷ 101 ∷ 115 ∷ []

-- none is left out
unfoldable pub maybe_pair : List ℕ → Option J → List (List ℕ)
maybe_pair n none = []
maybe_pair n (some j) = pair n (shown j) ∷ []

unfoldable pub entity_text : Item → List ℕ
entity_text i = brackets (quoted i.type ∷ quoted i.id ∷ braces (shown_members i.attributes) ∷ [])

-- fields in 01's order
unfoldable pub field_texts : Event → List (List ℕ)
field_texts e =
    pair «time» (integer e.time)
    ∷ pair «namespace» (brackets (map quoted e.namespace))
    ∷ pair «action» (quoted e.action)
    ∷ pair «kind» (quoted e.kind)
    ∷ pair «logged» (braces (shown_members e.logged))
    ∷ pair «context» (braces (shown_members e.context))
    ∷ maybe_pair «principal» e.principal
    ++ maybe_pair «resource» e.resource ++ (pair «entities» (brackets (map entity_text e.entities)) ∷ [])

unfoldable pub event_text : Event → List ℕ
event_text e = braces (field_texts e)

-- each line ended by LF
unfoldable pub log_text : List Event → List ℕ
log_text [] = []
log_text (e ∷ es) = event_text e ++ 10 ∷ log_text es
