-- Texts in rising byte order, equal ones joined: one more of them, and how many come before a text
use Rattle.std.specs.Prelude.{List, [], ◌∷◌, ℕ, zero, suc}
use Rattle.meaning.specs.Tests.{choose}
use Rattle.meaning.specs.Text.{before}

-- x among rising texts, unless it is there
unfoldable pub insert_new : List ℕ → List (List ℕ) → List (List ℕ)
insert_new x [] = x ∷ []
insert_new x (y ∷ ys) = choose (before y x) (y ∷ insert_new x ys) (choose (before x y) (x ∷ y ∷ ys) (y ∷ ys))

-- how many at the front are before x
unfoldable pub below : List ℕ → List (List ℕ) → ℕ
below x [] = 0
below x (y ∷ ys) = choose (before y x) (suc (below x ys)) 0

-- the texts of the first k, joined
unfoldable pub joined : (ℕ → List ℕ) → ℕ → List (List ℕ)
joined text zero = []
joined text (suc k) = insert_new (text k) (joined text k)
