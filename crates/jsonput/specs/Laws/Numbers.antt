-- A number in decimal: its last digit after the higher ones, a minus before a negative one
use Rattle.std.specs.Prelude.{◌≡◌, refl, Bool, true, false, List, [], ◌∷◌, ◌++◌, ℕ, zero, suc, ◌+◌, ◌/◌, ◌%◌, ◌<◌, ◌≤◌, ltb, length, ℤ, pos, negsuc, ◌<ℤ◌, ◌≤ℤ◌, unsigned_abs}
use Rattle.std.proofs.Common.{sym, ap, ◌∙◌, arith, length-append, lt-ltb, le-ltb, ltb-false}
use Rattle.std.proofs.lemmas.Int.{ints}
use Rattle.meaning.specs.Tests.{choose}
use Rattle.laws.specs.Tests.{yes, no}
use Rattle.jsontrace.specs.Text.{decimal_digits, natural, integer}
use Rattle.jsonput.specs.Put.{Put, put_then, put_as}

-- turns enough are as good as more
same-turns : (m n k : ℕ) → k < m → k < n → decimal_digits m k ≡ decimal_digits n k
unfolding decimal_digits
same-turns zero n k h l = absurd (omega arith)
same-turns (suc m) zero k h l = absurd (omega arith)
same-turns (suc m) (suc n) k h l = go (ltb k 10) refl (λ b. same-turns m n (k / 10) (omega arith) (omega arith))
  where
    go : (b : Bool) → ltb k 10 ≡ b → (10 ≤ k → decimal_digits m (k / 10) ≡ decimal_digits n (k / 10)) → choose (ltb k 10) ((48 + k) ∷ []) (decimal_digits m (k / 10) ++ ((48 + k % 10) ∷ [])) ≡ choose (ltb k 10) ((48 + k) ∷ []) (decimal_digits n (k / 10) ++ ((48 + k % 10) ∷ []))
    go true e f = yes _ e ∙ sym (yes _ e)
    go false e f = no _ e (ap (λ (t : List ℕ). t ++ ((48 + k % 10) ∷ [])) (f (ltb-false k 10 e))) ∙ sym (no _ e refl)

pub natural-low : (n : ℕ) → n < 10 → natural n ≡ (48 + n) ∷ []
unfolding natural decimal_digits
natural-low n h = yes _ (lt-ltb n 10 h)

natural-high : (n : ℕ) → 10 ≤ n → natural n ≡ natural (n / 10) ++ ((48 + n % 10) ∷ [])
unfolding natural decimal_digits
natural-high n h =
    no _ (le-ltb n 10 h) (ap (λ (t : List ℕ). t ++ ((48 + n % 10) ∷ [])) (same-turns n (suc (n / 10)) (n / 10) (omega arith) (omega arith)))

pub high-long : (n : ℕ) → 10 ≤ n → length (natural n) ≡ length (natural (n / 10)) + 1
high-long n h = omega (arith, ap length (natural-high n h), length-append (natural (n / 10)) ((48 + n % 10) ∷ []))

pub tenth_falls : {z : ℕ} (n : ℕ) → 10 ≤ n → n ≡ z → n / 10 < z
tenth_falls n h e = omega arith

pub digit_room : (d : List ℕ) (at n : ℕ) → at + length (natural n) ≤ length d → n < 10 → at < length d
digit_room d at n room h = omega (arith, ap length (natural-low n h))

pub digit-put : {d w : List ℕ} {at b p : ℕ} (n : ℕ) → Put d w at (b ∷ []) p → b ≡ 48 + n → n < 10 → Put d w at (natural n) p
digit-put n f e h = put_as (ap (λ (x : ℕ). x ∷ []) e ∙ sym (natural-low n h)) f

pub higher-room : (d : List ℕ) (at n : ℕ) → at + length (natural n) ≤ length d → 10 ≤ n → at + length (natural (n / 10)) ≤ length d
higher-room d at n room h = omega (arith, high-long n h)

pub last-room : (d : List ℕ) {w : List ℕ} {at p : ℕ} (n : ℕ) → Put d w at (natural (n / 10)) p → at + length (natural n) ≤ length d → 10 ≤ n → p < length w
last-room d n f room h = omega (arith, high-long n h, f.end, f.long)

pub digits-put : {d w w' : List ℕ} {at b p q : ℕ} (n : ℕ) → Put w w' p (b ∷ []) q → Put d w at (natural (n / 10)) p → at + length (natural n) ≤ length d → b ≡ 48 + n % 10 → 10 ≤ n → Put d w' at (natural n) q
digits-put n g f room e h = put_as (ap (λ (x : ℕ). natural (n / 10) ++ (x ∷ [])) e ∙ sym (natural-high n h)) (put_then f g (omega arith))

-- ---- with its sign

pub below_zero : (z : ℤ) → z <ℤ pos 0 → integer z ≡ 45 ∷ natural (unsigned_abs z)
unfolding integer
below_zero (pos n) h = absurd (omega (arith, ints))
below_zero (negsuc n) h = refl

pub above_zero : (z : ℤ) → pos 0 ≤ℤ z → integer z ≡ natural (unsigned_abs z)
unfolding integer
above_zero (pos n) h = refl
above_zero (negsuc n) h = absurd (omega (arith, ints))

pub minus-room : (d : List ℕ) (at : ℕ) (z : ℤ) → at + length (integer z) ≤ length d → z <ℤ pos 0 → at < length d
minus-room d at z room h = omega (arith, ap length (below_zero z h))

pub negative-put : {d w w' : List ℕ} {at p q a : ℕ} (z : ℤ) → Put w w' p (natural a) q → Put d w at (45 ∷ []) p → at + length (integer z) ≤ length d → a ≡ unsigned_abs z → z <ℤ pos 0 → Put d w' at (integer z) q
negative-put z g f room e h = put_as (ap (λ (n : ℕ). 45 ∷ natural n) e ∙ sym (below_zero z h)) (put_then f g (omega (arith, ap length (below_zero z h), e)))
