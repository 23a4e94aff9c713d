-- A case written in words: its bytes from the records of each body
use Rattle.std.specs.Prelude.{List, [], ◌∷◌, ◌++◌, map, ℕ, ◌+◌, ◌*◌, ◌/◌, ◌%◌, ◌-◌, length, replicate}

-- a word's four bytes, the lowest first
unfoldable pub bytes_of : ℕ → List ℕ
bytes_of w = w % 256 ∷ w / 256 % 256 ∷ w / 65536 % 256 ∷ w / 16777216 ∷ []

unfoldable pub packed : List ℕ → List ℕ
packed [] = []
packed (w ∷ ws) = bytes_of w ++ packed ws

-- records of so many words; those not written are 0
unfoldable pub table : ℕ → List (List ℕ) → List ℕ
table width [] = []
table width (r ∷ rs) = r ++ replicate (width - length r) 0 ++ table width rs

-- offset and length of each body
unfoldable pub placed : ℕ → List ℕ → List ℕ
placed from [] = []
placed from (size ∷ sizes) = from ∷ size ∷ placed (from + size) sizes

unfoldable pub flat : List (List ℕ) → List ℕ
flat [] = []
flat (l ∷ ls) = l ++ flat ls

-- edition 1, V, and the bodies without gaps: six of words, then text
unfoldable pub file : ℕ → List (List ℕ) → List ℕ → List ℕ
file v bodies text =
    packed (1 ∷ v ∷ placed 64 (map (λ b. 4 * length b) bodies ++ (length text ∷ []))) ++ flat (map packed bodies) ++ text
