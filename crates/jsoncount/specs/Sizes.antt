-- What lists of strings, items and members count
use Rattle.std.specs.Prelude.{List, ℕ, length, true}
use Rattle.jsontext.specs.Reading.{Read, blanks}
use Rattle.jsontext.specs.Values.{J, Object, Parts, item_parts, member_parts, object, form, braced, value}
use Rattle.jsontext.specs.Events.{Item, listed, unless_none}
use Rattle.jsontrace.specs.Count.{Count, ◌⊞◌, a_string, a_value, a_member, list_words, counted, counted_items, counted_members, counted_strings}

-- a string of a namespace is a list word too
unfoldable pub text_size : List ℕ → Count
text_size t = a_string t ⊞ list_words 1

abbrev pub texts_size : List (List ℕ) → Count
texts_size ts = counted_strings ts ⊞ list_words (length ts)

unfoldable pub item_size : J → Count
item_size j = a_member ⊞ counted j

abbrev pub array_size : List J → Count
array_size js = counted_items (item_parts js) ⊞ a_value

unfoldable pub member_size : List ℕ × J → Count
member_size m = a_member ⊞ a_string m.0 ⊞ counted m.1

abbrev pub object_size : List (List ℕ × J) → Count
object_size ms = counted_members (member_parts ms) ⊞ a_value

-- members, after the brace; an object or a form, after the brace
unfoldable pub object_read : ℕ → List ℕ → Read (List (List ℕ × J))
object_read levels s = object (λ n. true) (λ n t. value levels t) s

unfoldable pub braced_read : ℕ → List ℕ → Read J
braced_read levels s = braced (value levels) (form s) s

-- an object's members, and an entity with its three list words
abbrev pub fields_size : Parts → Count
fields_size ps = counted (Object ps)

unfoldable pub entity_read : List ℕ → Read Item
entity_read s = listed (λ t. unless_none (blanks t)) s

unfoldable pub entity_size : Item → Count
entity_size i = a_string i.type ⊞ a_string i.id ⊞ counted (Object i.attributes) ⊞ list_words 3
