-- A decimal's bytes, read from the front: digits, their number, the point, the fraction
use mathlib.Core.Path.{◌≡◌, refl, sym, ◌∙◌, ap₂}
use mathlib.Core.Bool.{Bool, true, false, not, ◌&&◌}
use mathlib.Core.List.{List, [], ◌∷◌}
use Prim.Native.Nat.{ℕ, zero, suc, ◌+◌, ◌*◌, ◌-◌, ◌<◌, ◌≤◌, min}
use native.Mathlib.Omega.{arith}
use lib.Dec.{eqb, ltb, leb}
use lib.ListN.{length, get_or, drop}
use lib.Signed.{mag}
use borrow.Author.Tests.{leb-true, lt-leb, le-leb, ltb-true, ltb-false, eq-eqb, ne_eqb, not-true, not-false}
use Rattle.laws.specs.Tests.{both, stop, after, yes, no}
use Rattle.meaning.specs.Tests.{◌and◌}
use Rattle.meaning.specs.Equal.{is_digit, digits, natural}
use Rattle.std.specs.List.{list_all}
use Rattle.std.specs.Char.{is_ascii_digit}
use Rattle.laws.specs.Lists.{open_at, shut_at}

-- ---- digits

pub digit-fits : (b : ℕ) → is_digit b ≡ true → (48 ≤ b) × (b ≤ 57)
unfolding is_digit
digit-fits b h = let e = both _ _ h in (leb-true _ _ e.0, leb-true _ _ e.1)

and_is : (a b : Bool) → (a && b) ≡ (a and b)
unfolding ◌and◌
and_is true b = refl
and_is false b = refl

pub all_digits : (s : List ℕ) → list_all is_ascii_digit s ≡ digits s
unfolding digits is_digit
all_digits [] = refl
all_digits (b ∷ s) = and_is _ _ ∙ ap₂ (λ (x y : Bool). x and y) (and_is (leb 48 b) (leb b 57)) (all_digits s)

pub digits-at : (s : List ℕ) (i : ℕ) → digits s ≡ true → i < length s → is_digit (get_or s i 0) ≡ true
unfolding digits
digits-at [] i e h = absurd (omega arith)
digits-at (b ∷ s) zero e h = (both _ _ e).0
digits-at (b ∷ s) (suc i) e h = digits-at s i (both _ _ e).1 (omega arith)

-- ---- their number, which never falls

grows : (n : ℕ) (s : List ℕ) → n ≤ natural n s
unfolding natural
grows n [] = omega arith
grows n (b ∷ s) = omega (arith, grows (10 * n + (b - 48)) s)

pub record NaturalFrom (s : List ℕ) (n i : ℕ) : Type 0 where
  pub inside : i ≤ length s
  pub small : n ≤ 1000000000000000
  pub rest : min 1000000000000000 (natural n (drop i s)) ≡ min 1000000000000000 (natural 0 s)

pub natural-start : (s : List ℕ) → NaturalFrom s 0 0
natural-start s = record { inside = omega arith; small = omega arith; rest = refl }

module _ (s : List ℕ) (n i : ℕ) (from : NaturalFrom s n i) where
  pub natural-far : i < length s → 100000000000000 ≤ n → 1000000000000000 ≡ min 1000000000000000 (natural 0 s)
  unfolding natural
  natural-far h l =
      let e : min 1000000000000000 (natural (10 * n + (get_or s i 0 - 48)) (drop (i + 1) s)) ≡ min 1000000000000000 (natural 0 s) = rw (open_at s i h) at from.rest in
      omega (arith, grows (10 * n + (get_or s i 0 - 48)) (drop (i + 1) s))

  pub natural-more : (d : ℕ) → i < length s → n < 100000000000000 → (d ≡ get_or s i 0 - 48) × (d ≤ 9) → NaturalFrom s (10 * n + d) (i + 1)
  unfolding natural
  natural-more d h l e =
      record {
        inside = omega arith;
        small = omega arith;
        rest = rw e.0 (rw (open_at s i h) at from.rest);
      }

  pub natural-end : length s ≤ i → n ≡ min 1000000000000000 (natural 0 s)
  unfolding natural
  natural-end h =
      let e : min 1000000000000000 n ≡ min 1000000000000000 (natural 0 s) = rw (shut_at s i h) at from.rest in
      omega (arith, from.small)
