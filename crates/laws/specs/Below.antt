-- What is made of number k is made from what is made of lower numbers, where `make` looks at no others
use Rattle.std.specs.Prelude.{◌≡◌}
use Prim.Native.Nat.{ℕ, zero, suc, ◌<◌}
use Rattle.std.proofs.Common.{arith}
use Rattle.meaning.specs.Below.{upto, made}

module _ {A : Type 0} (other : A) (make : (ℕ → A) → ℕ → A) (count : ℕ)
    (local : (g h : ℕ → A) (k : ℕ) → k < count → ((j : ℕ) → j < k → g j ≡ h j) → make g k ≡ make h k) where
  upto-same : (m n k : ℕ) → k < m → k < n → k < count → upto other make m k ≡ upto other make n k
  unfolding upto
  upto-same zero n k hm hn hk = absurd (omega arith)
  upto-same (suc m) zero k hm hn hk = absurd (omega arith)
  upto-same (suc m) (suc n) k hm hn hk =
      local (upto other make m) (upto other make n) k hk (λ j hj. upto-same m n j (omega arith) (omega arith) (omega arith))

  pub made-is : (k : ℕ) → k < count → made other make k ≡ make (made other make) k
  unfolding made upto
  made-is k hk =
      local (upto other make k) (made other make) k hk (λ j hj. upto-same k (suc j) j hj (omega arith) (omega arith))
