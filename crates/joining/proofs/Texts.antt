-- A string's bytes, cut where text ends
use Rattle.std.proofs.Common.{min, ltb-true, ◌≡◌, ℕ, ◌+◌, ◌-◌, ◌<◌, ◌≤◌, Bool, true, false, ltb, List, length, take, drop, sym, refl, ap, ◌∙◌, arith, lit<, length-drop, drop_of_length-le, length-take-le, take_all, drop-drop, ltb-false}
use Rattle.meaning.specs.Tests.{choose}
use Rattle.meaning.specs.Case.{offset, size, body, string_word, text}
use Rattle.meaning.specs.Check.{bodies}
use Rattle.joining.specs.Order.{Least, Cut}
use Rattle.laws.specs.Bodies.{cut, body-ends, body-length}

pub least_of : {a b r : ℕ} → r ≡ min a b → Least a b r
unfolding choose
least_of {a} {b} {r} e = record { is = go (ltb a b) refl; low = omega (arith, e); high = omega (arith, e) }
  where
    go : (t : Bool) → ltb a b ≡ t → r ≡ choose t a b
    go true h = omega (arith, e, ltb-true a b h)
    go false h = omega (arith, e, ltb-false a b h)

-- no more than are there
take-least : (l : List ℕ) (n : ℕ) → take n l ≡ take (choose (ltb n (length l)) n (length l)) l
unfolding choose
take-least l n = go (ltb n (length l)) refl
  where
    go : (t : Bool) → ltb n (length l) ≡ t → take n l ≡ take (choose t n (length l)) l
    go true e = refl
    go false e = take_all n l (ltb-false n (length l) e) ∙ sym (take_all (length l) l (omega arith))

drop-least : (l : List ℕ) (n : ℕ) → drop n l ≡ drop (choose (ltb n (length l)) n (length l)) l
unfolding choose
drop-least l n = go (ltb n (length l)) refl
  where
    go : (t : Bool) → ltb n (length l) ≡ t → drop n l ≡ drop (choose t n (length l)) l
    go true e = refl
    go false e = drop_of_length-le l (ltb-false n (length l) e) ∙ sym (drop_of_length-le l {i = length l} (omega arith))

module _ (s : List ℕ) (h : bodies s ≡ true) {o o' z z' : ℕ} (zz : z ≡ z') (zs : z' ≡ size s 6) (oo : o ≡ o') (os : o' ≡ offset s 6) where
  pub cut-ends : {f m : ℕ} → f ≤ z → m ≤ z - f → o + f + m ≤ length s
  cut-ends l k = omega (arith, body-ends s h 6 (lit< tt))

  cut-is : {a a' b b' f m : ℕ} (n : ℕ) → a ≡ a' → a' ≡ string_word s n 0 → b ≡ b' → b' ≡ string_word s n 1 → Least a z f → Least b (z - f) m → take (o + f + m - (o + f)) (drop (o + f) s) ≡ text s n
  unfolding text body
  cut-is {a} {a'} {b} {b'} {f} {m} n aa ai bb bi fl ml =
      let long : length (body s 6) ≡ z = body-length s h 6 (lit< tt) ∙ sym (zz ∙ zs) in
      let rest : length (drop f (body s 6)) ≡ z - f = length-drop f (body s 6) ∙ ap (λ (k : ℕ). k - f) long in
      let f' : f ≡ choose (ltb a (length (body s 6))) a (length (body s 6)) = fl.is ∙ ap (λ (k : ℕ). choose (ltb a k) a k) (sym long) in
      let m' : m ≡ choose (ltb b (length (drop f (body s 6)))) b (length (drop f (body s 6))) = ml.is ∙ ap (λ (k : ℕ). choose (ltb b k) b k) (sym rest) in
      let many : o + f + m - (o + f) ≡ m = omega arith in
      let at : o + f ≡ offset s 6 + f = omega (arith, oo, os) in
      ap (λ (k : ℕ). take k (drop (o + f) s)) many
      ∙ ap (λ (k : ℕ). take m (drop k s)) at
      ∙ ap (take m) (sym (drop-drop f (offset s 6) s))
      ∙ sym (cut (drop (offset s 6) s) m f (size s 6) (omega (arith, fl.high, ml.high)))
      ∙ ap (λ (k : ℕ). take k (drop f (body s 6))) m'
      ∙ sym (take-least (drop f (body s 6)) b)
      ∙ ap (λ (k : ℕ). take b (drop k (body s 6))) f'
      ∙ ap (take b) (sym (drop-least (body s 6) a))
      ∙ ap (λ (k : ℕ). take b (drop k (body s 6))) (aa ∙ ai)
      ∙ ap (λ (k : ℕ). take k (drop (string_word s n 0) (body s 6))) (bb ∙ bi)

pub cut-read : {s : List ℕ} {o o' z z' a a' b b' f m : ℕ} (n : ℕ) → Least a z f → Least b (z - f) m → a ≡ a' → a' ≡ string_word s n 0 → b ≡ b' → b' ≡ string_word s n 1 → z ≡ z' → z' ≡ size s 6 → o ≡ o' → o' ≡ offset s 6 → z ≤ 4294967295 → bodies s ≡ true → Cut s n (take (o + f + m - (o + f)) (drop (o + f) s))
cut-read {s} {o} {o'} {z} {z'} {a} {a'} {b} {b'} {f} {m} n fl ml aa ai bb bi zz zs oo os h32 h =
    let many : o + f + m - (o + f) ≡ m = omega arith in
    record {
      is = cut-is s h zz zs oo os n aa ai bb bi fl ml;
      few = omega (arith, length-take-le m (drop (o + f) s) (omega (arith, length-drop (o + f) s, cut-ends s h zz zs oo os fl.high ml.high)), ap (λ (k : ℕ). length (take k (drop (o + f) s))) many, ml.high);
    }
