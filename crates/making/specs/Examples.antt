-- Small cases, computed: texts joined, and an unsorted case of three strings with the case that it makes
use Rattle.std.specs.Prelude.{◌≡◌, refl, List, [], ◌∷◌, ℕ}
use Rattle.meaning.specs.Tests.{◌and◌, ◌or◌, choose, pick}
use Rattle.meaning.specs.Text.{before}
use Rattle.meaning.specs.Case.{words, contents, offset, size, body, body_word, string_word, value_word, text, places}
use Rattle.encode.specs.Words.{packed}
use Rattle.encode.specs.Encode.{flat, placed, encoded}
use Rattle.encode.specs.Join.{insert_new, below, joined}
use Rattle.encode.specs.Unsorted.{texts, number, names, value_names, renamed, table, tables, parts, finished}

-- b, a, b, the empty text, ab
pub five-joined : joined (λ k. pick ((98 ∷ []) ∷ (97 ∷ []) ∷ (98 ∷ []) ∷ [] ∷ (97 ∷ 98 ∷ []) ∷ []) k []) 5 ≡ ([] ∷ (97 ∷ []) ∷ (97 ∷ 98 ∷ []) ∷ (98 ∷ []) ∷ [])
unfolding joined insert_new before choose pick ◌or◌ ◌and◌
five-joined = refl

-- strings b, a, b over the text ab; a String that names 2 and one that names 3, which is no string
unfoldable pub unsorted : List ℕ
unsorted = encoded 0 (packed (1 ∷ 1 ∷ 0 ∷ 1 ∷ 1 ∷ 1 ∷ []) ∷ packed (4 ∷ 2 ∷ 0 ∷ 0 ∷ 4 ∷ 3 ∷ 0 ∷ 0 ∷ []) ∷ [] ∷ [] ∷ [] ∷ [] ∷ (97 ∷ 98 ∷ []) ∷ [])

-- 2 becomes 1, 3 stays
pub three-finished : finished unsorted [] ≡ encoded 0 (packed (0 ∷ 1 ∷ 1 ∷ 1 ∷ []) ∷ packed (4 ∷ 1 ∷ 0 ∷ 0 ∷ 4 ∷ 3 ∷ 0 ∷ 0 ∷ []) ∷ [] ∷ [] ∷ [] ∷ [] ∷ (97 ∷ 98 ∷ []) ∷ [])
unfolding unsorted finished parts tables table renamed names value_names number texts joined insert_new below before choose pick ◌or◌ ◌and◌ encoded placed flat packed words contents offset size body body_word string_word value_word text places
three-finished = refl
