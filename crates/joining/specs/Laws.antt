-- Laws of texts in order: what an entry names, and that one more is put in by moving others up
use Rattle.std.specs.Prelude.{◌≡◌, ℕ, zero, suc, ◌+◌, ◌-◌, ◌<◌, ◌≤◌, Bool, true, false, List, [], ◌∷◌, ◌++◌, map, length, get_or, take, drop, nat_lt, slice_index, slice_index_or, refl}
use Rattle.std.proofs.Common.{sym, ◌∙◌, ap, arith, length-append, length-drop, length-take-le, get_or-take, get_or-drop, get_or-append-add, ext_get_or, ltb-true, ltb-false}
use Rattle.std.proofs.lemmas.List.{length-map}
use Rattle.std.proofs.Math.ListN.{get_or-append}
use Rattle.meaning.specs.Case.{text}
use Rattle.joining.specs.Order.{listed, Put}

map_at : {A B : Type 0} (f : A → B) (l : List A) (i : ℕ) (d : A) (e : B) → i < length l → slice_index_or (map f l) i e ≡ f (slice_index_or l i d)
map_at f [] i d e h = absurd (omega arith)
map_at f (x ∷ xs) zero d e h = refl
map_at f (x ∷ xs) (suc i) d e h = map_at f xs i d e (omega arith)

pub listed-long : (s order : List ℕ) (n : ℕ) → n ≤ length order → length (listed s order n) ≡ n
unfolding listed
listed-long s order n h = length-map (take n order) (text s) ∙ length-take-le n order h

pub listed_at : (s order : List ℕ) (n i : ℕ) → n ≤ length order → i < n → slice_index_or (listed s order n) i [] ≡ text s (slice_index order i)
unfolding listed
listed_at s order n i h l =
    map_at (text s) (take n order) i 0 [] (omega (arith, length-take-le n order h)) ∙ ap (text s) (get_or-take n order i 0 l)

-- the texts of a part
pub listed-part : (s order : List ℕ) (n low w : ℕ) → n ≤ length order → low + w ≤ n → listed s (drop low order) w ≡ take w (drop low (listed s order n))
listed-part s order n low w h k =
    ext_get_or [] (listed s (drop low order) w) (take w (drop low (listed s order n)))
    (omega (arith, many, length-take-le w (drop low (listed s order n)) (omega (arith, length-drop low (listed s order n), listed-long s order n h))))
    (λ i l. each i (omega (arith, many)))
  where
    many : length (listed s (drop low order) w) ≡ w
    many = listed-long s (drop low order) w (omega (arith, length-drop low order))

    each : (i : ℕ) → i < w → slice_index_or (listed s (drop low order) w) i [] ≡ slice_index_or (take w (drop low (listed s order n))) i []
    each i l =
        listed_at s (drop low order) w i (omega (arith, length-drop low order)) l
        ∙ ap (text s) (get_or-drop low order i 0)
        ∙ sym (listed_at s order n (low + i) h (omega arith))
        ∙ sym (get_or-drop low (listed s order n) i [])
        ∙ sym (get_or-take w (drop low (listed s order n)) i [] l)

-- ---- one more among them

-- a list with one more at place p
module _ {A : Type 0} (l : List A) (x d : A) (p : ℕ) (h : p ≤ length l) where
  pub more-long : length (take p l ++ (x ∷ drop p l)) ≡ suc (length l)
  more-long = omega (arith, length-append (take p l) (x ∷ drop p l), length-take-le p l h, length-drop p l)

  head : length (take p l) ≡ p
  head = length-take-le p l h

  pub more-before : (i : ℕ) → i < p → slice_index_or (take p l ++ (x ∷ drop p l)) i d ≡ slice_index_or l i d
  more-before i lt = get_or-append (take p l) (x ∷ drop p l) d i (omega (arith, head)) ∙ get_or-take p l i d lt

  pub more-there : get_or (take p l ++ (x ∷ drop p l)) p d ≡ x
  more-there =
      let q : length (take p l) + 0 ≡ p = omega (arith, head) in
      ap (λ (n : ℕ). get_or (take p l ++ (x ∷ drop p l)) n d) (sym q) ∙ get_or-append-add (take p l) (x ∷ drop p l) 0 d

  pub more-after : (i : ℕ) → p ≤ i → slice_index_or (take p l ++ (x ∷ drop p l)) (suc i) d ≡ slice_index_or l i d
  more-after i le =
      let q : length (take p l) + suc (i - p) ≡ suc i = omega (arith, head) in
      let z : p + (i - p) ≡ i = omega arith in
      ap (λ (n : ℕ). get_or (take p l ++ (x ∷ drop p l)) n d) (sym q)
      ∙ get_or-append-add (take p l) (x ∷ drop p l) (suc (i - p)) d
      ∙ get_or-drop p l (i - p) d
      ∙ ap (λ (n : ℕ). get_or l n d) z

pub listed_more : (s old new : List ℕ) (p n k : ℕ) → Put p n k old new → n < length old → p ≤ n → listed s new (n + 1) ≡ take p (listed s old n) ++ (text s k ∷ drop p (listed s old n))
listed_more s old new p n k m room le =
    ext_get_or [] (listed s new (n + 1)) (take p (listed s old n) ++ (text s k ∷ drop p (listed s old n)))
    (omega (arith, many, more-long l (text s k) [] p inside, lots))
    (λ i h. each i (omega (arith, many)) (nat_lt i p) refl (nat_lt p i) refl)
  where
    l : List (List ℕ)
    l = listed s old n

    lots : length l ≡ n
    lots = listed-long s old n (omega arith)

    inside : p ≤ length l
    inside = omega (arith, lots)

    many : length (listed s new (n + 1)) ≡ n + 1
    many = listed-long s new (n + 1) (omega (arith, m.long))

    entry : (i : ℕ) → i < n + 1 → slice_index_or (listed s new (n + 1)) i [] ≡ text s (slice_index new i)
    entry i h = listed_at s new (n + 1) i (omega (arith, m.long)) h

    after : (i j : ℕ) → i ≡ suc j → p ≤ j → j < n → slice_index_or (listed s new (n + 1)) i [] ≡ slice_index_or (take p l ++ (text s k ∷ drop p l)) i []
    after i j q lo hi =
        let z : i ≡ j + 1 = omega arith in
        entry i (omega arith)
        ∙ ap (text s) (ap (λ (t : ℕ). slice_index new t) z ∙ m.upper j lo hi)
        ∙ sym (listed_at s old n j (omega arith) hi)
        ∙ sym (more-after l (text s k) [] p inside j lo)
        ∙ ap (λ (t : ℕ). get_or (take p l ++ (text s k ∷ drop p l)) t []) (sym q)

    each : (i : ℕ) → i < n + 1 → (a : Bool) → nat_lt i p ≡ a → (b : Bool) → nat_lt p i ≡ b → slice_index_or (listed s new (n + 1)) i [] ≡ slice_index_or (take p l ++ (text s k ∷ drop p l)) i []
    each i h true e b f =
        let lt : i < p = ltb-true i p e in
        entry i h
        ∙ ap (text s) (m.lower i lt)
        ∙ sym (listed_at s old n i (omega arith) (omega arith))
        ∙ sym (more-before l (text s k) [] p inside i lt)
    each i h false e true f = let lt : p < i = ltb-true p i f in after i (i - 1) (omega arith) (omega arith) (omega arith)
    each i h false e false f =
        let q : i ≡ p = omega (arith, ltb-false i p e, ltb-false p i f) in
        entry i h
        ∙ ap (text s) (ap (λ (t : ℕ). slice_index new t) q ∙ m.here)
        ∙ sym (more-there l (text s k) [] p inside)
        ∙ ap (λ (t : ℕ). get_or (take p l ++ (text s k ∷ drop p l)) t []) (sym q)
