-- Laws of the finished case: how many bytes each part has, its mosts by the unsorted tables, and that rule 1 holds of it
use Rattle.std.specs.Prelude.{◌≡◌, true, List, [], map, leb, get_or}
use Rattle.std.proofs.Math.Path.{refl, ap}
use Rattle.std.proofs.Common.{◌∙◌, lit<}
use Prim.Native.Nat.{ℕ, zero, suc, ◌+◌, ◌*◌, ◌/◌, ◌%◌, ◌<◌}
use native.Mathlib.Omega.{arith}
use Rattle.std.proofs.Math.ListN.{length}
use Rattle.std.proofs.lemmas.List.{length-map}
use Rattle.meaning.specs.Tests.{◌and◌, pick}
use Rattle.meaning.specs.Case.{contents, size, vars, values, points, nodes, places}
use Rattle.meaning.specs.Check.{record_bytes, bodies, mosts}
use Rattle.laws.specs.Bodies.{wholes}
use Rattle.encode.specs.Words.{packed}
use Rattle.encode.specs.Encode.{flat, placed}
use Rattle.encode.specs.Unsorted.{texts, renamed, table, tables, parts, finished}
use Rattle.encode.proofs.Laws.Words.{packed-long}
use Rattle.encode.proofs.Laws.Encode.{placed-long, encoded-long, encoded-size, encoded-word, encoded-bodies}

pub places-long : (first n : ℕ) → length (places first 1 n) ≡ n
unfolding places
places-long first zero = refl
places-long first (suc n) = ap suc (places-long (first + 1) n)

-- so many words of a table
pub words_long : (f : ℕ → ℕ) (i : ℕ) → length (packed (map f (places 0 1 i))) ≡ 4 * i
words_long f i = omega (arith, packed-long (map f (places 0 1 i)), length-map (places 0 1 i) f, places-long 0 i)

module _ (s marks : List ℕ) where
  pub seven : length (parts s marks) ≡ 7
  unfolding parts tables
  seven = refl

  pub finished-long : length (finished s marks) ≡ 64 + length (flat (parts s marks))
  unfolding finished
  finished-long = encoded-long (vars s) (parts s marks) seven

  pub strings-long : length (get_or (parts s marks) 0 []) ≡ 8 * length (texts s)
  unfolding parts
  strings-long = omega (arith, packed-long (placed 0 (texts s)), placed-long 0 (texts s))

  module _ (h : bodies s ≡ true) where
    pub quarter : (k : ℕ) → k < 6 → 4 * (size s k / 4) ≡ size s k
    unfolding pick
    quarter zero lt = omega (arith, wholes s h 0 (lit< tt))
    quarter (suc zero) lt = omega (arith, wholes s h 1 (lit< tt))
    quarter (suc (suc zero)) lt = omega (arith, wholes s h 2 (lit< tt))
    quarter (suc (suc (suc zero))) lt = omega (arith, wholes s h 3 (lit< tt))
    quarter (suc (suc (suc (suc zero)))) lt = omega (arith, wholes s h 4 (lit< tt))
    quarter (suc (suc (suc (suc (suc zero))))) lt = omega (arith, wholes s h 5 (lit< tt))
    quarter (suc (suc (suc (suc (suc (suc k)))))) lt = absurd (omega arith)

    pub table-long : (k : ℕ) → k < 6 → length (table s marks k) ≡ size s k
    unfolding table
    table-long k lt = words_long (renamed s marks k) (size s k / 4) ∙ quarter k lt

    -- all but strings and text keep their size
    pub part-long : (k : ℕ) → k < 7 → (k ≡ 0 → ⊥) → (k ≡ 6 → ⊥) → length (get_or (parts s marks) k []) ≡ size s k
    unfolding parts tables
    part-long zero lt a b = absurd (a refl)
    part-long (suc zero) lt a b = table-long 1 (lit< tt)
    part-long (suc (suc zero)) lt a b = table-long 2 (lit< tt)
    part-long (suc (suc (suc zero))) lt a b = table-long 3 (lit< tt)
    part-long (suc (suc (suc (suc zero)))) lt a b = table-long 4 (lit< tt)
    part-long (suc (suc (suc (suc (suc zero))))) lt a b = table-long 5 (lit< tt)
    part-long (suc (suc (suc (suc (suc (suc zero)))))) lt a b = absurd (b refl)
    part-long (suc (suc (suc (suc (suc (suc (suc k))))))) lt a b = absurd (omega arith)

    pub kept : (k : ℕ) → k < 7 → (k ≡ 0 → ⊥) → (k ≡ 6 → ⊥) → size (finished s marks) k ≡ size s k
    unfolding finished
    kept k lt a b = encoded-size (vars s) (parts s marks) seven k lt ∙ part-long k lt a b

    pub strings-size : size (finished s marks) 0 ≡ 8 * length (texts s)
    unfolding finished
    strings-size = encoded-size (vars s) (parts s marks) seven 0 (lit< tt) ∙ strings-long

    pub vars-kept : contents (finished s marks) 1 ≡ vars s
    unfolding finished
    vars-kept = encoded-word (vars s) (parts s marks) seven 1 (lit< tt)

    -- the mosts, by the unsorted tables and the different texts
    pub mosts-as : mosts (finished s marks) ≡ (leb (length (finished s marks)) 4194304 and leb (length (texts s)) 16384 and leb (values s) 16384 and leb (points s) 16384 and leb (nodes s) 1024 and leb (vars s) 16)
    unfolding mosts
    mosts-as =
        let n : size (finished s marks) 0 / 8 ≡ length (texts s) = omega (arith, strings-size) in
        let one : size (finished s marks) 1 ≡ size s 1 = kept 1 (lit< tt) (λ e. absurd (omega arith)) (λ e. absurd (omega arith)) in
        let three : size (finished s marks) 3 ≡ size s 3 = kept 3 (lit< tt) (λ e. absurd (omega arith)) (λ e. absurd (omega arith)) in
        let four : size (finished s marks) 4 ≡ size s 4 = kept 4 (lit< tt) (λ e. absurd (omega arith)) (λ e. absurd (omega arith)) in
        rw (n, one, three, four, vars-kept) refl

    whole : (k : ℕ) → k < 7 → length (get_or (parts s marks) k []) % record_bytes k ≡ 0
    unfolding pick
    whole zero lt = omega (arith, strings-long)
    whole (suc zero) lt = ap (λ (n : ℕ). n % 16) (part-long 1 lt (λ e. absurd (omega arith)) (λ e. absurd (omega arith))) ∙ wholes s h 1 lt
    whole (suc (suc zero)) lt = ap (λ (n : ℕ). n % 8) (part-long 2 lt (λ e. absurd (omega arith)) (λ e. absurd (omega arith))) ∙ wholes s h 2 lt
    whole (suc (suc (suc zero))) lt = ap (λ (n : ℕ). n % 48) (part-long 3 lt (λ e. absurd (omega arith)) (λ e. absurd (omega arith))) ∙ wholes s h 3 lt
    whole (suc (suc (suc (suc zero)))) lt = ap (λ (n : ℕ). n % 32) (part-long 4 lt (λ e. absurd (omega arith)) (λ e. absurd (omega arith))) ∙ wholes s h 4 lt
    whole (suc (suc (suc (suc (suc zero))))) lt = ap (λ (n : ℕ). n % 4) (part-long 5 lt (λ e. absurd (omega arith)) (λ e. absurd (omega arith))) ∙ wholes s h 5 lt
    whole (suc (suc (suc (suc (suc (suc zero)))))) lt = omega arith
    whole (suc (suc (suc (suc (suc (suc (suc k))))))) lt = absurd (omega arith)

    -- rule 1 holds of what is made
    pub finished-bodies : bodies (finished s marks) ≡ true
    unfolding finished
    finished-bodies = encoded-bodies (vars s) (parts s marks) seven whole
