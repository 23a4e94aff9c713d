-- Words as bytes: four a word, the lowest first
use Rattle.std.specs.Prelude.{List, [], ◌∷◌, ℕ, ◌/◌, ◌%◌}

unfoldable pub packed : List ℕ → List ℕ
packed [] = []
packed (w ∷ ws) = w % 256 ∷ w / 256 % 256 ∷ w / 65536 % 256 ∷ w / 16777216 ∷ packed ws
