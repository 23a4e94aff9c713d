-- What a passed rule 1, and strings that lie end to end, say of reads beyond a table and of a string's bytes
use Rattle.std.specs.Prelude.{◌≡◌, Bool, true, false, List, ℕ, ◌+◌, ◌*◌, ◌-◌, ◌<◌, ◌≤◌, ltb, length, take, drop}
use Rattle.std.proofs.Math.Path.{refl}
use Rattle.std.proofs.Common.{sym, arith, lit<, ltb-true, ltb-false}
use Rattle.meaning.specs.Tests.{pick}
use Rattle.meaning.specs.Case.{offset, strings, string_word, text}
use Rattle.meaning.specs.Check.{bodies, end_to_end, place_rule}
use Rattle.laws.specs.Tests.{both, all-at}
use Rattle.laws.specs.Bodies.{wholes, body-ends, body-beyond, text-fits, text-is}

module _ (s : List ℕ) (h : bodies s ≡ true) (placed : end_to_end s ≡ true) (n : ℕ) where
  place : n < strings s → place_rule s n ≡ true
  unfolding end_to_end
  place lt = all-at (place_rule s) (strings s) n (both _ _ placed).0 lt

  none-at : (j : ℕ) → strings s ≤ n → string_word s n j ≡ 0
  unfolding string_word pick
  none-at j le = body-beyond s h 0 (2 * n + j) (lit< tt) (omega (arith, wholes s h 0 (lit< tt)))

  -- a string's bytes lie in the file, also where there is no such string: then there are none
  pub string-fits : offset s 6 + string_word s n 0 + string_word s n 1 ≤ length s
  string-fits = go (ltb n (strings s)) refl
    where
      go : (b : Bool) → ltb n (strings s) ≡ b → offset s 6 + string_word s n 0 + string_word s n 1 ≤ length s
      go true e = omega (arith, text-fits s h n (place (ltb-true _ _ e)))
      go false e = omega (arith, none-at 0 (ltb-false _ _ e), none-at 1 (ltb-false _ _ e), body-ends s h 6 (lit< tt))

  text-any : take (string_word s n 1) (drop (offset s 6 + string_word s n 0) s) ≡ text s n
  text-any = go (ltb n (strings s)) refl
    where
      go : (b : Bool) → ltb n (strings s) ≡ b → take (string_word s n 1) (drop (offset s 6 + string_word s n 0) s) ≡ text s n
      go true e = sym (text-is s h n (place (ltb-true _ _ e)))
      go false e = empty (none-at 1 (ltb-false _ _ e))
        where
          empty : string_word s n 1 ≡ 0 → take (string_word s n 1) (drop (offset s 6 + string_word s n 0) s) ≡ text s n
          empty z = unfold text in rw z refl

  pub text-read : (o a b : ℕ) → o ≡ offset s 6 → a ≡ string_word s n 0 → b ≡ string_word s n 1 → take (o + a + b - (o + a)) (drop (o + a) s) ≡ text s n
  text-read o a b e f g = let q : o + a + b - (o + a) ≡ b = omega arith in rw (q, e, f, g) text-any
