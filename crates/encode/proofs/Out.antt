-- Bytes written one after another: a word's four, and a piece byte by byte
use Rattle.std.proofs.Common.{List, ◌≡◌, ℕ, ◌+◌, ◌/◌, ◌%◌, ◌≤◌, ◌<◌, ◌^◌, [], ◌∷◌, ◌∙◌, length, take, set, get_or, length-set, refl, ap, sym, subst, arith}
use Rattle.std.specs.Int.{w32, to_le_bytes}
use native.Mathlib.Numerals.{add-one}
use lib.Seq.{take_all, take-suc, length-take-le, sets-eq}
use Rattle.laws.specs.Writing.{Writing, write-none, write-more}
use Rattle.encode.specs.Words.{packed}

pub word-bytes : (w : ℕ) → w < 2 ^ 32 → to_le_bytes w32 w ≡ packed (w ∷ [])
unfolding packed
word-bytes w h =
    let last : w / 16777216 % 256 ≡ w / 16777216 = omega arith in
    rw last refl

-- the first i bytes of a piece are written
pub record Copied (d w : List ℕ) (at : ℕ) (piece : List ℕ) (i : ℕ) : Type 0 where
  pub long : length w ≡ length d
  pub low : i ≤ length piece
  pub is : Writing d w at (take i piece)

pub copied_none : (d : List ℕ) (at : ℕ) (piece : List ℕ) → Copied d d at piece 0
copied_none d at piece = record { long = refl; low = omega arith; is = write-none d at }

pub copied_more : {d w piece : List ℕ} {at i : ℕ} → Copied d w at piece i → at + length piece ≤ length d → i < length piece → Copied d (set w (at + i) (get_or piece i 0)) at piece (i + 1)
copied_more {d} {w} {piece} {at} {i} c h l =
    let x : ℕ = get_or piece i 0 in
    let n : length (take i piece) ≡ i = length-take-le i piece c.low in
    record {
      long = length-set w (at + i) x ∙ c.long;
      low = omega arith;
      is = subst (λ (t : List ℕ). Writing d (set w (at + i) x) at t) (sym (ap (λ (k : ℕ). take k piece) (add-one i) ∙ take-suc piece i 0 l))
          (write-more (x ∷ []) (at + i) c.is (omega arith) (omega arith) (sets-eq (x ∷ []) w (at + i) (omega (arith, c.long))));
    }

pub copied_all : {d w piece : List ℕ} {at i : ℕ} → Copied d w at piece i → length piece ≤ i → Writing d w at piece
copied_all {d} {w} {piece} {at} {i} c h = subst (λ (t : List ℕ). Writing d w at t) (take_all i piece h) c.is
