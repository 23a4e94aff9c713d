-- Eight bytes as one number, by which texts are compared
use Rattle.std.specs.Prelude.{ℕ, ◌+◌, ◌*◌, ◌<◌, List, ◌≡◌, get_or}

-- the first byte is the highest
abbrev pub eight_of : ℕ → ℕ → ℕ → ℕ → ℕ → ℕ → ℕ → ℕ → ℕ
eight_of a b c d e f g h = h + 256 * (g + 256 * (f + 256 * (e + 256 * (d + 256 * (c + 256 * (b + 256 * a))))))

abbrev pub eight_at : List ℕ → ℕ → ℕ
eight_at s i = eight_of (get_or s i 0) (get_or s (i + 1) 0) (get_or s (i + 2) 0) (get_or s (i + 3) 0) (get_or s (i + 4) 0) (get_or s (i + 5) 0) (get_or s (i + 6) 0) (get_or s (i + 7) 0)

-- the number, and that bytes are bytes
pub record Eight (s : List ℕ) (i r : ℕ) : Type 0 where
  pub is : r ≡ eight_at s i
  pub small : (k : ℕ) → get_or s k 0 < 256
