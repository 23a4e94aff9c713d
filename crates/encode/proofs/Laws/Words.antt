-- Words packed and read again
use Rattle.std.specs.Prelude.{◌≡◌, refl, List, [], ◌∷◌, ◌++◌, ℕ, ◌*◌, ◌/◌, ◌%◌, length}
use Rattle.std.proofs.Common.{arith}
use Rattle.meaning.specs.Case.{word, words}
use Rattle.encode.specs.Words.{packed}

pub halves : (w : ℕ) → word (w % 256) (w / 256 % 256) (w / 65536 % 256) (w / 16777216) ≡ w
halves w = omega arith

pub words-packed : (ws : List ℕ) → words (packed ws) ≡ ws
unfolding words packed
words-packed [] = refl
words-packed (w ∷ ws) = rw (halves w, words-packed ws) refl

pub packed-long : (ws : List ℕ) → length (packed ws) ≡ 4 * length ws
unfolding packed
packed-long [] = refl
packed-long (w ∷ ws) = omega (arith, packed-long ws)

pub packed-append : (ws vs : List ℕ) → packed (ws ++ vs) ≡ packed ws ++ packed vs
unfolding packed
packed-append [] vs = refl
packed-append (w ∷ ws) vs = rw (packed-append ws vs) refl
