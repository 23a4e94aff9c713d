-- A character in UTF-8: how many bytes, and the bytes written
use mathlib.Core.Path.{◌≡◌, refl, ap, sym}
use mathlib.Core.List.{List, [], ◌∷◌}
use Prim.Native.Nat.{ℕ, suc, ◌+◌, ◌/◌, ◌%◌, ◌<◌, ◌≤◌}
use native.Mathlib.Omega.{arith}
use lib.ListN.{length, set}
use lib.Seq.{sets-eq}
use borrow.Author.Tests.{lt-ltb, le-ltb}
use Rattle.laws.specs.Tests.{yes, no as otherwise}
use Rattle.laws.specs.Writing.{Writing, write-none, write-more}
use Rattle.jsontext.specs.Strings.{utf8_of}
use Rattle.jsonspelt.specs.Spelt.{Put}

module _ (u : ℕ) where
  utf8-one : u < 128 → utf8_of u ≡ u ∷ []
  unfolding utf8_of
  utf8-one h = yes _ (lt-ltb u 128 h)

  utf8-two : 128 ≤ u → u < 2048 → utf8_of u ≡ (192 + u / 64) ∷ (128 + u % 64) ∷ []
  unfolding utf8_of
  utf8-two a h = otherwise _ (le-ltb u 128 a) (yes _ (lt-ltb u 2048 h))

  utf8-three : 128 ≤ u → 2048 ≤ u → u < 65536 → utf8_of u ≡ (224 + u / 4096) ∷ (128 + u / 64 % 64) ∷ (128 + u % 64) ∷ []
  unfolding utf8_of
  utf8-three a b h = otherwise _ (le-ltb u 128 a) (otherwise _ (le-ltb u 2048 b) (yes _ (lt-ltb u 65536 h)))

  utf8-four : 128 ≤ u → 2048 ≤ u → 65536 ≤ u → utf8_of u ≡ (240 + u / 262144) ∷ (128 + u / 4096 % 64) ∷ (128 + u / 64 % 64) ∷ (128 + u % 64) ∷ []
  unfolding utf8_of
  utf8-four a b h = otherwise _ (le-ltb u 128 a) (otherwise _ (le-ltb u 2048 b) (otherwise _ (le-ltb u 65536 h) refl))

  pub bytes_one : u < 128 → 1 ≡ length (utf8_of u)
  bytes_one h = sym (ap length (utf8-one h))

  pub bytes-two : 128 ≤ u → u < 2048 → 2 ≡ length (utf8_of u)
  bytes-two a h = sym (ap length (utf8-two a h))

  pub bytes-three : 128 ≤ u → 2048 ≤ u → u < 65536 → 3 ≡ length (utf8_of u)
  bytes-three a b h = sym (ap length (utf8-three a b h))

  pub bytes-four : 128 ≤ u → 2048 ≤ u → 65536 ≤ u → 4 ≡ length (utf8_of u)
  bytes-four a b h = sym (ap length (utf8-four a b h))

  -- room for the bytes, by their number
  pub room-one : {at n : ℕ} → at + length (utf8_of u) ≤ n → u < 128 → at < n
  room-one l h = omega (arith, bytes_one h)

  pub room-two : (at : ℕ) {n : ℕ} → at + length (utf8_of u) ≤ n → 128 ≤ u → u < 2048 → at + 2 ≤ n
  room-two at l a h = omega (arith, bytes-two a h)

  pub room-three : (at : ℕ) {n : ℕ} → at + length (utf8_of u) ≤ n → 128 ≤ u → 2048 ≤ u → u < 65536 → at + 3 ≤ n
  room-three at l a b h = omega (arith, bytes-three a b h)

  pub room-four : (at : ℕ) {n : ℕ} → at + length (utf8_of u) ≤ n → 128 ≤ u → 2048 ≤ u → 65536 ≤ u → at + 4 ≤ n
  room-four at l a b h = omega (arith, bytes-four a b h)

  module _ {d : List ℕ} {at : ℕ} where
    pub two-written : 128 ≤ u → u < 2048 → at + 2 ≤ length d → Writing d (set (set d at (192 + u / 64)) (at + 1) (128 + u % 64)) at (utf8_of u)
    two-written a h l =
        let one : at + 1 ≡ suc at = omega arith in
        rw (utf8-two a h, one)
        (write-more ((192 + u / 64) ∷ (128 + u % 64) ∷ []) at (write-none d at) (omega arith) (omega arith)
        (sets-eq ((192 + u / 64) ∷ (128 + u % 64) ∷ []) d at l))

    pub three-written : 2048 ≤ u → u < 65536 → at + 3 ≤ length d → Writing d (set (set (set d at (224 + u / 4096)) (at + 1) (128 + u / 64 % 64)) (at + 2) (128 + u % 64)) at (utf8_of u)
    three-written b h l =
        let a : 128 ≤ u = omega arith in
        let one : at + 1 ≡ suc at = omega arith in
        let two : at + 2 ≡ suc (suc at) = omega arith in
        rw (utf8-three a b h, one, two)
        (write-more ((224 + u / 4096) ∷ (128 + u / 64 % 64) ∷ (128 + u % 64) ∷ []) at (write-none d at) (omega arith) (omega arith)
        (sets-eq ((224 + u / 4096) ∷ (128 + u / 64 % 64) ∷ (128 + u % 64) ∷ []) d at l))

    pub four-written : 65536 ≤ u → at + 4 ≤ length d → Writing d (set (set (set (set d at (240 + u / 262144)) (at + 1) (128 + u / 4096 % 64)) (at + 2) (128 + u / 64 % 64)) (at + 3) (128 + u % 64)) at (utf8_of u)
    four-written h l =
        let a : 128 ≤ u = omega arith in
        let b : 2048 ≤ u = omega arith in
        let one : at + 1 ≡ suc at = omega arith in
        let two : at + 2 ≡ suc (suc at) = omega arith in
        let three : at + 3 ≡ suc (suc (suc at)) = omega arith in
        rw (utf8-four a b h, one, two, three)
        (write-more ((240 + u / 262144) ∷ (128 + u / 4096 % 64) ∷ (128 + u / 64 % 64) ∷ (128 + u % 64) ∷ []) at (write-none d at) (omega arith) (omega arith)
        (sets-eq ((240 + u / 262144) ∷ (128 + u / 4096 % 64) ∷ (128 + u / 64 % 64) ∷ (128 + u % 64) ∷ []) d at l))

    pub put_one : at + length (utf8_of u) ≤ length d → u < 128 → Put d (set d at u) at (utf8_of u) (at + 1)
    put_one l h = record {
      is = rw (utf8-one h) (write-more (u ∷ []) at (write-none d at) (omega arith) (omega arith) (sets-eq (u ∷ []) d at (omega (arith, bytes_one h))));
      end = omega (arith, bytes_one h);
    }

    module _ {w : List ℕ} (g : Writing d w at (utf8_of u)) (a : 128 ≤ u) where
      pub put_two : u < 2048 → Put d w at (utf8_of u) (at + 2)
      put_two h = record { is = g; end = omega (arith, bytes-two a h) }

      module _ (b : 2048 ≤ u) where
        pub put_three : u < 65536 → Put d w at (utf8_of u) (at + 3)
        put_three h = record { is = g; end = omega (arith, bytes-three a b h) }

        pub put_four : 65536 ≤ u → Put d w at (utf8_of u) (at + 4)
        put_four h = record { is = g; end = omega (arith, bytes-four a b h) }
