-- An entity's parts
use Rattle.std.specs.Prelude.{List, ℕ}
use Rattle.jsontext.specs.Reading.{Read, got, then, blanks}
use Rattle.jsontext.specs.Values.{Parts, text, fields}
use Rattle.jsontext.specs.Events.{Item, comma, closing, unless_none, listed}

-- a string, its comma, and blanks
unfoldable pub name_of : List ℕ → Read (List ℕ)
name_of s = then (text s) λ t rest. then (comma (blanks rest)) λ c rest. got t (blanks rest)

-- attributes and the closing bracket
unfoldable pub attributes_of : List ℕ → Read Parts
attributes_of s = then (fields 31 s) λ attributes rest. then (closing (blanks rest)) λ c rest. got attributes rest

-- an entity, and nothing else
abbrev pub entity_of : List ℕ → Read Item
entity_of s = listed (λ t. unless_none (blanks t)) s
