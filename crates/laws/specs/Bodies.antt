-- What a passed rule 1 says of the bodies: where they lie, and how their words are read from the file
use Rattle.std.specs.Prelude.{◌≡◌, true, get_or, drop}
use Rattle.std.proofs.Math.Path.{refl, ap}
use Rattle.std.proofs.Common.{◌∙◌, lit<, take-take, drop-drop}
use mathlib.Core.List.{List, [], ◌∷◌}
use Prim.Native.Nat.{ℕ, zero, suc, ◌+◌, ◌*◌, ◌/◌, ◌%◌, ◌<◌, ◌≤◌}
use native.Mathlib.Omega.{arith}
use Rattle.std.proofs.Math.ListN.{length, take, length-drop}
use Rattle.std.proofs.Math.Seq.{length-take-le}
use borrow.Author.Tests.{leb-true, eqb-true}
use Rattle.meaning.specs.Tests.{all_below, pick}
use Rattle.meaning.specs.Case.{words, contents, offset, size, body, body_word, string_word, text}
use Rattle.meaning.specs.Check.{record_bytes, start_of, body_rule, bodies, place_rule}
use Rattle.laws.specs.Tests.{both, all-at}
use Rattle.laws.specs.Words.{words-part, words-beyond}

-- a part of a part
pub cut : (l : List ℕ) (n k m : ℕ) → k + n ≤ m → take n (drop k (take m l)) ≡ take n (drop k l)
cut l n zero m h = take-take n m l (omega arith)
cut [] n (suc k) zero h = refl
cut [] n (suc k) (suc m) h = refl
cut (x ∷ l) n (suc k) zero h = absurd (omega arith)
cut (x ∷ l) n (suc k) (suc m) h = cut l n k m (omega arith)

module _ (s : List ℕ) (h : bodies s ≡ true) where
  pub long : 64 ≤ length s
  unfolding bodies
  long = leb-true _ _ (both _ _ h).0

  pub edition : contents s 0 ≡ 1
  unfolding bodies
  edition = eqb-true _ _ (both _ _ (both _ _ h).1).0

  rules : all_below 7 (body_rule s) ≡ true
  unfolding bodies
  rules = (both _ _ (both _ _ (both _ _ h).1).1).0

  filled : start_of s 7 ≡ length s
  unfolding bodies
  filled = eqb-true _ _ (both _ _ (both _ _ (both _ _ h).1).1).1

  starts : (k : ℕ) → k < 7 → offset s k ≡ start_of s k
  unfolding body_rule
  starts k hk = eqb-true _ _ (both _ _ (all-at (body_rule s) 7 k rules hk)).0

  pub wholes : (k : ℕ) → k < 7 → size s k % record_bytes k ≡ 0
  unfolding body_rule
  wholes k hk = eqb-true _ _ (both _ _ (all-at (body_rule s) 7 k rules hk)).1

  -- the bodies up to k end where the rest starts, so inside the file
  ends_by : (more k : ℕ) → k + more ≡ 7 → start_of s k ≤ length s
  unfolding start_of
  ends_by zero k e = let z : k ≡ 7 = omega arith in rw z (omega (arith, filled))
  ends_by (suc more) k e = omega (arith, ends_by more (suc k) (omega arith))

  pub body-ends : (k : ℕ) → k < 7 → offset s k + size s k ≤ length s
  unfolding start_of
  body-ends k hk = go k hk (starts k hk)
    where
      left : (k : ℕ) → k < 7 → start_of s (suc k) ≤ length s
      left zero hk = ends_by 6 1 refl
      left (suc zero) hk = ends_by 5 2 refl
      left (suc (suc zero)) hk = ends_by 4 3 refl
      left (suc (suc (suc zero))) hk = ends_by 3 4 refl
      left (suc (suc (suc (suc zero)))) hk = ends_by 2 5 refl
      left (suc (suc (suc (suc (suc zero))))) hk = ends_by 1 6 refl
      left (suc (suc (suc (suc (suc (suc zero)))))) hk = ends_by 0 7 refl
      left (suc (suc (suc (suc (suc (suc (suc k))))))) hk = absurd (omega arith)

      go : (k : ℕ) → k < 7 → offset s k ≡ start_of s k → offset s k + size s k ≤ length s
      go k hk e = omega (arith, left k hk)

  pub body-length : (k : ℕ) → k < 7 → length (body s k) ≡ size s k
  unfolding body
  body-length k hk = length-take-le (size s k) (drop (offset s k) s) (omega (arith, length-drop (offset s k) s, body-ends k hk))

  -- ---- words: all bodies but text start at a word

  quarter : (k : ℕ) → k < 6 → size s k % 4 ≡ 0
  unfolding pick
  quarter zero hk = omega (arith, wholes 0 (lit< tt))
  quarter (suc zero) hk = omega (arith, wholes 1 (lit< tt))
  quarter (suc (suc zero)) hk = omega (arith, wholes 2 (lit< tt))
  quarter (suc (suc (suc zero))) hk = omega (arith, wholes 3 (lit< tt))
  quarter (suc (suc (suc (suc zero)))) hk = omega (arith, wholes 4 (lit< tt))
  quarter (suc (suc (suc (suc (suc zero))))) hk = omega (arith, wholes 5 (lit< tt))
  quarter (suc (suc (suc (suc (suc (suc k)))))) hk = absurd (omega arith)

  even-start : (k : ℕ) → k < 6 → start_of s k % 4 ≡ 0
  unfolding start_of
  even-start zero hk = refl
  even-start (suc k) hk = omega (arith, even-start k (omega arith), quarter k (omega arith))

  even : (k : ℕ) → k < 6 → offset s k % 4 ≡ 0
  even k hk = ap (λ (n : ℕ). n % 4) (starts k (omega arith)) ∙ even-start k hk

  pub word_fits : (k i : ℕ) → k < 6 → 4 * i + 3 < size s k → 4 * (offset s k / 4 + i) + 3 < length s
  word_fits k i hk hi = omega (arith, even k hk, body-ends k (omega arith))

  pub body-word : (k i : ℕ) → k < 6 → 4 * i + 3 < size s k → body_word s k i ≡ get_or (words s) (offset s k / 4 + i) 0
  unfolding body_word body
  body-word k i hk hi = words-part s (offset s k) (size s k) i (even k hk) hi (body-ends k (omega arith))

  pub body-beyond : (k i : ℕ) → k < 7 → size s k ≤ 4 * i + 3 → body_word s k i ≡ 0
  unfolding body_word
  body-beyond k i hk hi = words-beyond (body s k) i (omega (arith, body-length k hk))

  -- ---- text

  pub text-fits : (k : ℕ) → place_rule s k ≡ true → offset s 6 + (string_word s k 0 + string_word s k 1) ≤ length s
  unfolding place_rule
  text-fits k e =
      let l = leb-true (string_word s k 0 + string_word s k 1) (size s 6) (both _ _ e).1 in
      omega (arith, body-ends 6 (lit< tt))

  pub text-is : (k : ℕ) → place_rule s k ≡ true → text s k ≡ take (string_word s k 1) (drop (offset s 6 + string_word s k 0) s)
  unfolding text body place_rule
  text-is k e =
      let l = leb-true (string_word s k 0 + string_word s k 1) (size s 6) (both _ _ e).1 in
      cut (drop (offset s 6) s) (string_word s k 1) (string_word s k 0) (size s 6) l ∙ ap (λ (b : List ℕ). take (string_word s k 1) b) (drop-drop (string_word s k 0) (offset s 6) s)
