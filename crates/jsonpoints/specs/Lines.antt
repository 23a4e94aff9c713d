-- A point's line as the code writes it, two parts at a time, and the lines of all points
use Rattle.std.specs.Prelude.{List, [], ◌∷◌, ◌++◌, ℕ, zero, suc, ◌+◌, ◌*◌, eqb}
use Rattle.std.proofs.Common.{to_z}
use Rattle.std.specs.Int.{w64}
use Rattle.meaning.specs.Tests.{choose}
use Rattle.meaning.specs.Case.{nothing, text, list, point_word}
use Rattle.jsontrace.specs.Text.{quoted, integer}
use Rattle.jsonput.specs.Runs.{comma, run_text}
use Rattle.jsonput.specs.Values.{value_text}

-- {"time":
abbrev pub time_piece : List ℕ
time_piece = 123 ∷ 34 ∷ 116 ∷ 105 ∷ 109 ∷ 101 ∷ 34 ∷ 58 ∷ []

-- ,"namespace":[
abbrev pub space_piece : List ℕ
space_piece = 44 ∷ 34 ∷ 110 ∷ 97 ∷ 109 ∷ 101 ∷ 115 ∷ 112 ∷ 97 ∷ 99 ∷ 101 ∷ 34 ∷ 58 ∷ 91 ∷ []

-- ],"action":
abbrev pub action_piece : List ℕ
action_piece = 93 ∷ 44 ∷ 34 ∷ 97 ∷ 99 ∷ 116 ∷ 105 ∷ 111 ∷ 110 ∷ 34 ∷ 58 ∷ []

-- ,"kind":
abbrev pub kind_piece : List ℕ
kind_piece = 44 ∷ 34 ∷ 107 ∷ 105 ∷ 110 ∷ 100 ∷ 34 ∷ 58 ∷ []

-- ,"logged":
abbrev pub logged_piece : List ℕ
logged_piece = 44 ∷ 34 ∷ 108 ∷ 111 ∷ 103 ∷ 103 ∷ 101 ∷ 100 ∷ 34 ∷ 58 ∷ []

-- ,"context":
abbrev pub context_piece : List ℕ
context_piece = 44 ∷ 34 ∷ 99 ∷ 111 ∷ 110 ∷ 116 ∷ 101 ∷ 120 ∷ 116 ∷ 34 ∷ 58 ∷ []

-- ,"principal":
abbrev pub principal_piece : List ℕ
principal_piece = 44 ∷ 34 ∷ 112 ∷ 114 ∷ 105 ∷ 110 ∷ 99 ∷ 105 ∷ 112 ∷ 97 ∷ 108 ∷ 34 ∷ 58 ∷ []

-- ,"resource":
abbrev pub resource_piece : List ℕ
resource_piece = 44 ∷ 34 ∷ 114 ∷ 101 ∷ 115 ∷ 111 ∷ 117 ∷ 114 ∷ 99 ∷ 101 ∷ 34 ∷ 58 ∷ []

-- ,"entities":[
abbrev pub entities_piece : List ℕ
entities_piece = 44 ∷ 34 ∷ 101 ∷ 110 ∷ 116 ∷ 105 ∷ 116 ∷ 105 ∷ 101 ∷ 115 ∷ 34 ∷ 58 ∷ 91 ∷ []

-- ]} and LF
abbrev pub last_piece : List ℕ
last_piece = 93 ∷ 125 ∷ 10 ∷ []

module _ (s : List ℕ) where
  -- a string of the lists
  unfoldable pub word_text : ℕ → List ℕ
  word_text m = quoted (text s (list s m))

  -- an entity's type, id and object
  unfoldable pub type_text : ℕ → List ℕ
  type_text m = (91 ∷ []) ++ quoted (text s (list s m))

  unfoldable pub id_text : ℕ → List ℕ
  id_text m = (44 ∷ []) ++ quoted (text s (list s (m + 1)))

  unfoldable pub object_text : ℕ → List ℕ
  object_text m = ((44 ∷ []) ++ value_text s (list s (m + 2))) ++ (93 ∷ [])

  abbrev pub identity_text : ℕ → ℕ → List ℕ
  identity_text i m = (comma i ++ type_text m) ++ id_text m

  unfoldable pub entity_text : ℕ → List ℕ
  entity_text m = type_text m ++ (id_text m ++ object_text m)

  -- nothing where there is none
  unfoldable pub maybe_text : List ℕ → ℕ → List ℕ
  maybe_text piece v = choose (eqb v nothing) [] (piece ++ value_text s v)

  -- ---- a line

  unfoldable pub time_text : ℕ → List ℕ
  time_text p = time_piece ++ integer (to_z w64 (point_word s p 0 + 4294967296 * point_word s p 1))

  unfoldable pub space_text : ℕ → List ℕ
  space_text p = space_piece ++ run_text word_text (point_word s p 2) 1 (point_word s p 3)

  unfoldable pub head_text : ℕ → List ℕ
  head_text p = time_text p ++ space_text p

  unfoldable pub names_text : ℕ → List ℕ
  names_text p = (action_piece ++ quoted (text s (point_word s p 4))) ++ (kind_piece ++ quoted (text s (point_word s p 5)))

  unfoldable pub first_text : ℕ → List ℕ
  first_text p = head_text p ++ names_text p

  unfoldable pub records_text : ℕ → List ℕ
  records_text p = (logged_piece ++ value_text s (point_word s p 6)) ++ (context_piece ++ value_text s (point_word s p 7))

  unfoldable pub parties_text : ℕ → List ℕ
  parties_text p = maybe_text principal_piece (point_word s p 8) ++ maybe_text resource_piece (point_word s p 9)

  unfoldable pub entities_text : ℕ → List ℕ
  entities_text p = entities_piece ++ run_text entity_text (point_word s p 10) 3 (point_word s p 11)

  unfoldable pub rest_text : ℕ → List ℕ
  rest_text p = parties_text p ++ entities_text p

  unfoldable pub second_text : ℕ → List ℕ
  second_text p = records_text p ++ rest_text p

  unfoldable pub fields_text : ℕ → List ℕ
  fields_text p = first_text p ++ second_text p

  unfoldable pub line_text : ℕ → List ℕ
  line_text p = fields_text p ++ last_piece

  -- so many lines
  unfoldable pub lines_text : ℕ → List ℕ
  lines_text zero = []
  lines_text (suc n) = lines_text n ++ line_text n
