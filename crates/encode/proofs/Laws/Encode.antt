-- What a file of seven bodies reads as: its contents, its bodies, and that rule 1 holds of it
use Rattle.std.specs.Prelude.{◌≡◌, Bool, true}
use Rattle.std.proofs.Math.Path.{refl, sym, ap}
use Rattle.std.proofs.Common.{◌∙◌, add-one, lit<, take_all, take_at, take-suc, eq-eqb, le-leb}
use mathlib.Core.List.{List, [], ◌∷◌, ◌++◌, append_assoc, append-nil}
use Prim.Native.Nat.{ℕ, zero, suc, ◌+◌, ◌*◌, ◌%◌, ◌<◌, ◌≤◌}
use native.Mathlib.Omega.{arith}
use Rattle.std.proofs.Math.ListN.{length, get_or, take, drop, length-append}
use Rattle.std.proofs.Math.Seq.{drop-append-add}
use Rattle.meaning.specs.Tests.{all_below}
use Rattle.meaning.specs.Case.{contents, offset, size, body}
use Rattle.meaning.specs.Check.{record_bytes, start_of, body_rule, bodies}
use Rattle.laws.specs.Tests.{pass}
use Rattle.laws.specs.Words.{words-first}
use Rattle.encode.specs.Words.{packed}
use Rattle.encode.specs.Encode.{flat, placed, encoded}
use Rattle.encode.proofs.Laws.Words.{words-packed, packed-long}

pub all_true : (test : ℕ → Bool) (n : ℕ) → ((i : ℕ) → i < n → test i ≡ true) → all_below n test ≡ true
unfolding all_below
all_true test zero f = refl
all_true test (suc n) f = pass (all_true test n (λ i h. f i (omega arith))) (f n (omega arith))

-- ---- parts end to end

pub placed-long : (at : ℕ) (bs : List (List ℕ)) → length (placed at bs) ≡ 2 * length bs
unfolding placed
placed-long at [] = refl
placed-long at (b ∷ bs) = omega (arith, placed-long (at + length b) bs)

-- part k starts after those before it
pub placed-start : (at : ℕ) (bs : List (List ℕ)) (k : ℕ) → k < length bs → get_or (placed at bs) (2 * k) 0 ≡ at + length (flat (take k bs))
unfolding placed flat
placed-start at [] k h = absurd (omega arith)
placed-start at (b ∷ bs) zero h = omega arith
placed-start at (b ∷ bs) (suc k) h =
    let z : 2 * suc k ≡ suc (suc (2 * k)) = omega arith in
    rw z (placed-start (at + length b) bs k (omega arith) ∙ more)
  where
    more : at + length b + length (flat (take k bs)) ≡ at + length (b ++ flat (take k bs))
    more = omega (arith, length-append b (flat (take k bs)))

pub placed-size : (at : ℕ) (bs : List (List ℕ)) (k : ℕ) → k < length bs → get_or (placed at bs) (2 * k + 1) 0 ≡ length (get_or bs k [])
unfolding placed
placed-size at [] k h = absurd (omega arith)
placed-size at (b ∷ bs) zero h = refl
placed-size at (b ∷ bs) (suc k) h =
    let z : 2 * suc k + 1 ≡ suc (suc (2 * k + 1)) = omega arith in
    rw z (placed-size (at + length b) bs k (omega arith))

-- one more at the end
pub flat-more : (bs : List (List ℕ)) (b : List ℕ) → flat (bs ++ (b ∷ [])) ≡ flat bs ++ b
unfolding flat
flat-more [] b = append-nil b
flat-more (c ∷ bs) b = ap (λ (t : List ℕ). c ++ t) (flat-more bs b) ∙ sym (append_assoc c (flat bs) b)

pub placed-more : (at : ℕ) (bs : List (List ℕ)) (b : List ℕ) → placed at (bs ++ (b ∷ [])) ≡ placed at bs ++ ((at + length (flat bs)) ∷ length b ∷ [])
unfolding placed flat
placed-more at [] b = let z : at ≡ at + 0 = omega arith in ap (λ (n : ℕ). n ∷ length b ∷ []) z
placed-more at (c ∷ bs) b =
    ap (λ (t : List ℕ). at ∷ length c ∷ t) (placed-more (at + length c) bs b ∙ ap (λ (n : ℕ). placed (at + length c) bs ++ (n ∷ length b ∷ [])) more)
  where
    more : at + length c + length (flat bs) ≡ at + length (c ++ flat bs)
    more = omega (arith, length-append c (flat bs))

pub flat-at : (bs : List (List ℕ)) (k : ℕ) → k < length bs → take (length (get_or bs k [])) (drop (length (flat (take k bs))) (flat bs)) ≡ get_or bs k []
unfolding flat
flat-at [] k h = absurd (omega arith)
flat-at (b ∷ bs) zero h = take_at b (flat bs) (length b) refl
flat-at (b ∷ bs) (suc k) h =
    ap (λ (n : ℕ). take (length (get_or bs k [])) (drop n (b ++ flat bs))) (length-append b (flat (take k bs)))
    ∙ ap (take (length (get_or bs k []))) (drop-append-add b (flat bs) (length (flat (take k bs))))
    ∙ flat-at bs k (omega arith)

-- one part more
pub flat_step : (parts : List (List ℕ)) (i : ℕ) → i < length parts → flat (take (i + 1) parts) ≡ flat (take i parts) ++ get_or parts i []
flat_step parts i h = ap (λ (n : ℕ). flat (take n parts)) (add-one i) ∙ ap flat (take-suc parts i [] h) ∙ flat-more (take i parts) (get_or parts i [])

pub step-long : (parts : List (List ℕ)) (i : ℕ) → i < length parts → length (flat (take (i + 1) parts)) ≡ length (flat (take i parts)) + length (get_or parts i [])
step-long parts i h = ap length (flat_step parts i h) ∙ length-append (flat (take i parts)) (get_or parts i [])

-- never more than all of them
pub flat-most : (parts : List (List ℕ)) (i : ℕ) → length (flat (take i parts)) ≤ length (flat parts)
unfolding flat
flat-most [] zero = omega arith
flat-most [] (suc i) = omega arith
flat-most (b ∷ bs) zero = omega arith
flat-most (b ∷ bs) (suc i) = omega (arith, length-append b (flat (take i bs)), length-append b (flat bs), flat-most bs i)

-- ---- a file

-- edition 1, V and seven bodies
module _ (v : ℕ) (bs : List (List ℕ)) (seven : length bs ≡ 7) where
  head : length (packed (1 ∷ v ∷ placed 64 bs)) ≡ 64
  head = omega (arith, packed-long (1 ∷ v ∷ placed 64 bs), placed-long 64 bs)

  pub encoded-long : length (encoded v bs) ≡ 64 + length (flat bs)
  unfolding encoded
  encoded-long = omega (arith, length-append (packed (1 ∷ v ∷ placed 64 bs)) (flat bs), head)

  pub encoded-word : (i : ℕ) → i < 16 → contents (encoded v bs) i ≡ get_or (1 ∷ v ∷ placed 64 bs) i 0
  unfolding contents encoded
  encoded-word i h =
      words-first (packed (1 ∷ v ∷ placed 64 bs)) (flat bs) i (omega (arith, head))
      ∙ ap (λ (ws : List ℕ). get_or ws i 0) (words-packed (1 ∷ v ∷ placed 64 bs))

  pub encoded-offset : (k : ℕ) → k < 7 → offset (encoded v bs) k ≡ 64 + length (flat (take k bs))
  unfolding offset
  encoded-offset k h =
      let z : 2 + 2 * k ≡ suc (suc (2 * k)) = omega arith in
      encoded-word (2 + 2 * k) (omega arith) ∙ ap (λ (n : ℕ). get_or (1 ∷ v ∷ placed 64 bs) n 0) z ∙ placed-start 64 bs k (omega (arith, seven))

  pub encoded-size : (k : ℕ) → k < 7 → size (encoded v bs) k ≡ length (get_or bs k [])
  unfolding size
  encoded-size k h =
      let z : 3 + 2 * k ≡ suc (suc (2 * k + 1)) = omega arith in
      encoded-word (3 + 2 * k) (omega arith) ∙ ap (λ (n : ℕ). get_or (1 ∷ v ∷ placed 64 bs) n 0) z ∙ placed-size 64 bs k (omega (arith, seven))

  pub encoded-body : (k : ℕ) → k < 7 → body (encoded v bs) k ≡ get_or bs k []
  unfolding body
  encoded-body k h =
      ap (λ (n : ℕ). take n (drop (offset (encoded v bs) k) (encoded v bs))) (encoded-size k h)
      ∙ ap (λ (n : ℕ). take (length (get_or bs k [])) (drop n (encoded v bs))) (encoded-offset k h)
      ∙ ap (take (length (get_or bs k []))) (past k)
      ∙ flat-at bs k (omega (arith, seven))
    where
      past : (k : ℕ) → drop (64 + length (flat (take k bs))) (encoded v bs) ≡ drop (length (flat (take k bs))) (flat bs)
      past k = unfold encoded in
          ap (λ (n : ℕ). drop (n + length (flat (take k bs))) (packed (1 ∷ v ∷ placed 64 bs) ++ flat bs)) (sym head)
          ∙ drop-append-add (packed (1 ∷ v ∷ placed 64 bs)) (flat bs) (length (flat (take k bs)))

  starts : (k : ℕ) → k ≤ 7 → start_of (encoded v bs) k ≡ 64 + length (flat (take k bs))
  unfolding start_of
  starts zero h = unfold flat in refl
  starts (suc k) h =
      let more : length (flat (take (suc k) bs)) ≡ length (flat (take k bs)) + length (get_or bs k []) = ap (λ (n : ℕ). length (flat (take n bs))) (sym (add-one k)) ∙ step-long bs k (omega (arith, seven)) in
      omega (arith, starts k (omega arith), encoded-size k (omega arith))

  -- each body a whole number of records
  module _ (whole : (k : ℕ) → k < 7 → length (get_or bs k []) % record_bytes k ≡ 0) where
    rule : (k : ℕ) → k < 7 → body_rule (encoded v bs) k ≡ true
    unfolding body_rule
    rule k h =
        pass (eq-eqb _ _ (encoded-offset k h ∙ sym (starts k (omega arith))))
        (eq-eqb _ _ (ap (λ (n : ℕ). n % record_bytes k) (encoded-size k h) ∙ whole k h))

    pub encoded-bodies : bodies (encoded v bs) ≡ true
    unfolding bodies
    encoded-bodies =
        pass (le-leb 64 (length (encoded v bs)) (omega (arith, encoded-long)))
        (pass (eq-eqb _ _ (encoded-word 0 (lit< tt)))
        (pass (all_true (body_rule (encoded v bs)) 7 rule) (eq-eqb _ _ (starts 7 (omega arith) ∙ ap (λ (l : List (List ℕ)). 64 + length (flat l)) (take_all 7 bs (omega (arith, seven))) ∙ sym encoded-long))))
