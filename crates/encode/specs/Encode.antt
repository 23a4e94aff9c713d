-- A case file written: what lies end to end, where each part starts and how long it is, and the file of seven bodies
use Rattle.std.specs.Prelude.{List, [], ◌∷◌, ◌++◌, ℕ, ◌+◌, length}
use Rattle.encode.specs.Words.{packed}

-- parts end to end
unfoldable pub flat : List (List ℕ) → List ℕ
flat [] = []
flat (b ∷ bs) = b ++ flat bs

-- where each starts, from a place on, and how many bytes it has
unfoldable pub placed : ℕ → List (List ℕ) → List ℕ
placed at [] = []
placed at (b ∷ bs) = at ∷ length b ∷ placed (at + length b) bs

-- edition 1: contents, then the bodies as bytes, in their order: strings, values, members, points, nodes, lists, text
unfoldable pub encoded : ℕ → List (List ℕ) → List ℕ
encoded vars bodies = packed (1 ∷ vars ∷ placed 64 bodies) ++ flat bodies
