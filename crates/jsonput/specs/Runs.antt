-- A run of items with commas between, one more at a time
use Rattle.std.specs.Prelude.{◌≡◌, refl, Bool, true, false, List, [], ◌∷◌, ◌++◌, map, ℕ, zero, suc, ◌+◌, ◌*◌, ◌<◌, ◌≤◌, leb, length}
use Rattle.std.proofs.Common.{sym, ap, ◌∙◌, append_assoc, append-nil, arith, mul-zero, mul-suc, length-append, leb-true, leb-false}
use Rattle.std.proofs.lemmas.List.{length-map}
use Rattle.meaning.specs.Case.{places}
use Rattle.jsontrace.specs.Text.{after_first, commas}

-- before item i
unfoldable pub comma : ℕ → List ℕ
comma zero = []
comma (suc i) = 44 ∷ []

-- so many items
unfoldable pub run_text : (ℕ → List ℕ) → ℕ → ℕ → ℕ → List ℕ
run_text f first width zero = []
run_text f first width (suc n) = run_text f first width n ++ (comma n ++ f (first + width * n))

-- ---- it is what stands between the brackets

after_more : (ts : List (List ℕ)) (t : List ℕ) → after_first (ts ++ (t ∷ [])) ≡ after_first ts ++ (44 ∷ t)
unfolding after_first
after_more [] t = ap (λ (l : List ℕ). 44 ∷ l) (append-nil t)
after_more (u ∷ ts) t =
    ap (λ (l : List ℕ). 44 ∷ u ++ l) (after_more ts t) ∙ ap (λ (l : List ℕ). 44 ∷ l) (sym (append_assoc u (after_first ts) (44 ∷ t)))

commas-more : (ts : List (List ℕ)) (t : List ℕ) → commas (ts ++ (t ∷ [])) ≡ commas ts ++ (comma (length ts) ++ t)
unfolding commas after_first comma
commas-more [] t = append-nil t
commas-more (u ∷ ts) t = ap (λ (l : List ℕ). u ++ l) (after_more ts t) ∙ sym (append_assoc u (after_first ts) (44 ∷ t))

places-more : (first width n : ℕ) → places first width (suc n) ≡ places first width n ++ ((first + width * n) ∷ [])
unfolding places
places-more first width zero = let z : first ≡ first + width * 0 = omega (arith, mul-zero width) in ap (λ (k : ℕ). k ∷ []) z
places-more first width (suc n) =
    let z : first + width + width * n ≡ first + width * suc n = omega (arith, mul-suc width n) in
    ap (λ (l : List ℕ). first ∷ l) (places-more (first + width) width n ∙ ap (λ (k : ℕ). places (first + width) width n ++ (k ∷ [])) z)

places-long : (first width n : ℕ) → length (places first width n) ≡ n
unfolding places
places-long first width zero = refl
places-long first width (suc n) = ap suc (places-long (first + width) width n)

map_more : (f : ℕ → List ℕ) (xs : List ℕ) (x : ℕ) → map f (xs ++ (x ∷ [])) ≡ map f xs ++ (f x ∷ [])
map_more f [] x = refl
map_more f (y ∷ xs) x = ap (λ (l : List (List ℕ)). f y ∷ l) (map_more f xs x)

pub commas-run : (f : ℕ → List ℕ) (first width n : ℕ) → commas (map f (places first width n)) ≡ run_text f first width n
unfolding commas run_text places
commas-run f first width zero = refl
commas-run f first width (suc n) =
    ap (λ (l : List ℕ). commas (map f l)) (places-more first width n)
    ∙ ap commas (map_more f (places first width n) (first + width * n))
    ∙ commas-more (map f (places first width n)) (f (first + width * n))
    ∙ ap (λ (k : ℕ). commas (map f (places first width n)) ++ (comma k ++ f (first + width * n))) (length-map (places first width n) f ∙ places-long first width n)
    ∙ ap (λ (l : List ℕ). l ++ (comma n ++ f (first + width * n))) (commas-run f first width n)

-- ---- its length

pub run_long_lem : (f : ℕ → List ℕ) (first width n : ℕ) → length (run_text f first width (suc n)) ≡ length (run_text f first width n) + length (comma n ++ f (first + width * n))
unfolding run_text
run_long_lem f first width n = length-append (run_text f first width n) (comma n ++ f (first + width * n))

pub run-most : (f : ℕ → List ℕ) (first width n m : ℕ) → n ≤ m → length (run_text f first width n) ≤ length (run_text f first width m)
run-most f first width n zero h = let z : n ≡ 0 = omega arith in rw z (omega arith)
run-most f first width n (suc m) h = go (leb n m) refl (λ l. run-most f first width n m l)
  where
    go : (b : Bool) → leb n m ≡ b → (n ≤ m → length (run_text f first width n) ≤ length (run_text f first width m)) → length (run_text f first width n) ≤ length (run_text f first width (suc m))
    go true e ih = omega (arith, ih (leb-true n m e), run_long_lem f first width m)
    go false e ih = let z : n ≡ suc m = omega (arith, leb-false n m e) in rw z (omega arith)

-- item i fits where the run does
pub run_fits : (f : ℕ → List ℕ) (first width i count : ℕ) → i < count → length (run_text f first width i) + length (comma i ++ f (first + width * i)) ≤ length (run_text f first width count)
run_fits f first width i count h = omega (arith, run_long_lem f first width i, run-most f first width (suc i) count (omega arith))
