-- Cells laid over a list, one after the other
use Prim.Native.Nat.{ℕ, zero, suc, ◌+◌, ◌≤◌, ◌<◌}
use mathlib.Core.Path.{◌≡◌, refl, ap, sym, ◌∙◌}
use mathlib.Core.Bool.{true, false}
use mathlib.Core.List.{List, [], ◌∷◌, ◌++◌, append_assoc}
use native.Mathlib.Omega.{arith}
use native.Mathlib.Numerals.{add-one}
use lib.Dec.{leb}
use lib.ListN.{length, drop, set, length-set, length-append}
use lib.Seq.{set_out}
use borrow.Author.Tests.{le-leb, lt-leb}
use Rattle.meaning.specs.declared.Refusal.TheVariants.{ListTooShort}
use Rattle.meaning.specs.Tests.{choose}
use Rattle.meaning.specs.Case.{places}
use Rattle.meaning.specs.Carried.{listed}
use Rattle.std.specs.Prelude.{Ok, Err}
use Rattle.meaning.specs.Walk.{started}
use Rattle.carried.specs.Shows.{as_carried, too_short, laid, PutTwo, Lists}

pub put-beyond : (l : List ℕ) (i a : ℕ) → length l ≤ i → l ≡ set l i a
put-beyond l i a le = sym (set_out l i a le)

pub two-put : {l l₁ l₂ : List ℕ} {at a b : ℕ} → l₁ ≡ set l at a → l₂ ≡ set l₁ (at + 1) b → PutTwo l at a b l₂
two-put {at = at} {b = b} e₁ e₂ = record { is = e₂ ∙ ap (λ (r : List ℕ). set r (at + 1) b) e₁ }

-- ---- laid

pub laid_more : (xs l : List ℕ) (x : ℕ) → set (laid xs l) (length xs) x ≡ laid (xs ++ (x ∷ [])) l
unfolding laid
laid_more [] [] x = refl
laid_more [] (y ∷ l) x = refl
laid_more (z ∷ xs) [] x = refl
laid_more (z ∷ xs) (y ∷ l) x = ap (λ (r : List ℕ). z ∷ r) (laid_more xs l x)

pub laid-two : (xs l : List ℕ) (n x y : ℕ) → n ≡ length xs → set (set (laid xs l) n x) (n + 1) y ≡ laid (xs ++ (x ∷ y ∷ [])) l
laid-two xs l n x y e =
    let z : n + 1 ≡ length (xs ++ (x ∷ [])) = omega (arith, length-append xs (x ∷ [])) in
    ap (λ (k : ℕ). set (set (laid xs l) k x) (n + 1) y) e
    ∙ ap (λ (r : List ℕ). set r (n + 1) y) (laid_more xs l x)
    ∙ ap (λ (k : ℕ). set (laid (xs ++ (x ∷ [])) l) k y) z
    ∙ laid_more (xs ++ (x ∷ [])) l y
    ∙ ap (λ (r : List ℕ). laid r l) (append_assoc xs (x ∷ []) (y ∷ []))

pub laid-fits : (xs l : List ℕ) → length xs ≤ length l → laid xs l ≡ xs ++ drop (length xs) l
unfolding laid
laid-fits [] l le = refl
laid-fits (x ∷ xs) [] le = absurd (omega arith)
laid-fits (x ∷ xs) (y ∷ l) le = ap (λ (r : List ℕ). x ∷ r) (laid-fits xs l (omega arith))

-- ---- points one after the other

pub places-more : (j n : ℕ) → places j 1 n ++ ((j + n) ∷ []) ≡ places j 1 (suc n)
unfolding places
places-more j zero = let z : j + 0 ≡ j = omega arith in ap (λ (k : ℕ). k ∷ []) z
places-more j (suc n) =
    let z : j + suc n ≡ j + 1 + n = omega arith in
    ap (λ (r : List ℕ). j ∷ r) (ap (λ (k : ℕ). places (j + 1) 1 n ++ (k ∷ [])) z ∙ places-more (j + 1) n)

pub places-long : (j n : ℕ) → length (places j 1 n) ≡ n
unfolding places
places-long j zero = refl
places-long j (suc n) = ap suc (places-long (j + 1) n)

-- the first k of them lie in the list
pub record Putting (j n : ℕ) (l₀ : List ℕ) (k : ℕ) (l : List ℕ) : Type 0 where
  pub le : k ≤ n
  pub same : length l ≡ length l₀
  pub is : l ≡ laid (places j 1 k) l₀

pub put-start : {j n : ℕ} {l : List ℕ} → Putting j n l 0 l
unfolding places laid
put-start = record { le = omega arith; same = refl; is = refl }

pub put_next : {j n k : ℕ} {l₀ l l' : List ℕ} → Putting j n l₀ k l → k < n → l' ≡ set l k (j + k) → Putting j n l₀ (k + 1) l'
put_next {j} {n} {k} {l₀} {l} {l'} p lt e = record {
  le = omega arith;
  same = ap length e ∙ length-set l k (j + k) ∙ p.same;
  is =
      e ∙ ap (λ (r : List ℕ). set r k (j + k)) p.is
      ∙ ap (λ (i : ℕ). set (laid (places j 1 k) l₀) i (j + k)) (sym (places-long j k))
      ∙ laid_more (places j 1 k) l₀ (j + k)
      ∙ ap (λ (r : List ℕ). laid r l₀) (places-more j k)
      ∙ ap (λ (i : ℕ). laid (places j 1 i) l₀) (sym (add-one k));
}

pub put_all : {j n k : ℕ} {l₀ l : List ℕ} → Putting j n l₀ k l → n ≤ k → l ≡ laid (places j 1 n) l₀
put_all {j} {n} {k} {l₀} p ge = let z : k ≡ n = omega (arith, p.le) in p.is ∙ ap (λ (i : ℕ). laid (places j 1 i) l₀) z

-- ---- a yes

pub yes-short : {j n : ℕ} {l : List ℕ} → length l < n → Lists j n l l (Err too_short)
unfolding as_carried listed choose started
yes-short {j} {n} {l} lt =
    let z : leb (length (places j 1 n)) (length l) ≡ false = lt-leb (length (places j 1 n)) (length l) (omega (arith, places-long j n)) in
    record { is = rw z refl }

pub yes-listed : {j n : ℕ} {l after : List ℕ} → n ≤ length l → after ≡ laid (places j 1 n) l → Lists j n l after (Ok (record { verdict = true; filled = n }))
unfolding as_carried listed choose
yes-listed {j} {n} {l} {after} le e =
    let fits : length (places j 1 n) ≤ length l = omega (arith, places-long j n) in
    let z : leb (length (places j 1 n)) (length l) ≡ true = le-leb (length (places j 1 n)) (length l) fits in
    let w : after ≡ places j 1 n ++ drop (length (places j 1 n)) l = e ∙ laid-fits (places j 1 n) l fits in
    record { is = rw (z, w, places-long j n) refl }
