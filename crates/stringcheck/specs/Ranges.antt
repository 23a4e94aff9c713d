-- What `all` asks of the numbers below n
use Rattle.std.specs.Prelude.{◌≡◌, Bool, true, false, ◌&&◌, ℕ, zero, suc, ◌+◌, ◌-◌, ◌||◌, eqb, refl}
use Rattle.std.specs.List.{list_all, range_with_len}
use Rattle.std.proofs.Common.{◌∙◌, sym, ap, arith}
use borrow.Author.Tests.{ne_eqb}
use Rattle.meaning.specs.Tests.{◌and◌, all_below, rises}
use Rattle.laws.specs.Tests.{all-add, all_same}

pub and-is : (a b : Bool) → (a && b) ≡ (a and b)
unfolding ◌and◌
and-is true b = refl
and-is false b = refl

-- the n numbers from a on pass
pub all-from : (test : ℕ → Bool) (a n : ℕ) → list_all test (range_with_len a n) ≡ all_below n (λ j. test (a + j))
unfolding all_below ◌and◌
all-from test a zero = refl
all-from test a (suc n) =
    and-is (test a) (list_all test (range_with_len (a + 1) n))
    ∙ ap (λ (x : Bool). test a and x) (all-from test (a + 1) n ∙ all_same (λ j. test (a + 1 + j)) (λ j. test (a + (1 + j))) n (λ i h. ap test (omega arith)))
    ∙ first
  where
    first : (test a and all_below n (λ j. test (a + (1 + j)))) ≡ all_below (suc n) (λ j. test (a + j))
    first =
        let z : suc n ≡ 1 + n = omega arith in
        let here : a + 0 ≡ a = omega arith in
        sym (ap (λ (k : ℕ). all_below k (λ j. test (a + j))) z
        ∙ all-add (λ j. test (a + j)) 1 n
        ∙ ap (λ (k : ℕ). test k and all_below n (λ j. test (a + (1 + j)))) here)

-- every number below n passes
pub all-range : (test : ℕ → Bool) (n : ℕ) → list_all test (range_with_len 0 n) ≡ all_below n test
all-range test n = all-from test 0 n ∙ all_same (λ j. test (0 + j)) test n (λ i h. ap test (omega arith))

-- number i is the first, or comes after the one before it
pub rises-is : (before : ℕ → ℕ → Bool) (i : ℕ) → rises before i ≡ (eqb i 0 || before (i - 1) i)
unfolding rises
rises-is before zero = refl
rises-is before (suc i) =
    let q : suc i - 1 ≡ i = omega arith in
    let later : eqb (suc i) 0 ≡ false = ne_eqb (suc i) 0 (λ e. omega (arith, e)) in
    rw (q, later) refl
