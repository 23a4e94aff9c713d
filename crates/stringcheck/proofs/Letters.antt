-- UTF-8 byte by byte, letter by letter, and where all bytes are below 128
use mathlib.Core.Path.{◌≡◌, refl, sym, ◌∙◌, ap}
use mathlib.Core.Bool.{Bool, true, false}
use mathlib.Core.List.{List, [], ◌∷◌}
use Prim.Native.Nat.{ℕ, zero, suc, ◌+◌, ◌<◌, ◌≤◌, max}
use native.Mathlib.Omega.{arith}
use native.Mathlib.Numerals.{add-one}
use lib.Dec.{ltb, leb}
use lib.ListN.{length, drop, get_or, drop_of_length-le}
use lib.Seq.{drop-cons}
use borrow.Author.Tests.{lt-ltb, ltb-true, ltb-false, le-leb, lt-leb}
use Rattle.meaning.specs.declared.Due.{Due}
use Rattle.meaning.specs.declared.Due.TheVariants.{Nothing, One, Two, Three, AfterE0, AfterEd, AfterF0, AfterF4, Wrong}
use Rattle.meaning.specs.Tests.{◌and◌, choose, within, greatest}
use Rattle.meaning.specs.Text.{utf8, first, follow, next, ended}
use Rattle.laws.specs.Tests.{both, and_assoc, yes}
use Rattle.stringcheck.specs.Letters.{lies_at, two_follow, three_follow, size_after, letter_size, LetterAt}

peel : (t : List ℕ) (d : Due) (i : ℕ) {e : Due} → i < length t → e ≡ next d (get_or t i 0) → utf8 d (drop i t) ≡ utf8 e (drop (i + 1) t)
unfolding utf8
peel t d i h f = rw (f, add-one i, drop-cons t i 0 h)

wrong : (t : List ℕ) → utf8 Wrong t ≡ false
unfolding utf8 next ended
wrong [] = refl
wrong (b ∷ t) = wrong t

-- ---- a byte that is due lies from low to high

module _ (d e : Due) (low high : ℕ) (more : ended d ≡ false) (is : (b : ℕ) → next d b ≡ follow low high e b) where
  byte : (b : ℕ) (t : List ℕ) → utf8 (follow low high e b) t ≡ (within low high b and utf8 e t)
  unfolding follow choose ◌and◌
  byte b t = go (ltb b low) refl (leb b high) refl
    where
      go : (x : Bool) → ltb b low ≡ x → (y : Bool) → leb b high ≡ y → utf8 (follow low high e b) t ≡ (within low high b and utf8 e t)
      go true p y q = rw (p, lt-leb low b (ltb-true b low p)) (wrong t)
      go false p true q = rw (p, q, le-leb low b (ltb-false b low p)) refl
      go false p false q = rw (p, q, le-leb low b (ltb-false b low p)) (wrong t)

  follows : (t : List ℕ) (i : ℕ) → utf8 d (drop i t) ≡ (lies_at t i low high and utf8 e (drop (i + 1) t))
  unfolding lies_at ◌and◌ utf8
  follows t i = go (ltb i (length t)) refl
    where
      go : (x : Bool) → ltb i (length t) ≡ x → utf8 d (drop i t) ≡ (lies_at t i low high and utf8 e (drop (i + 1) t))
      go true p = peel t d i (ltb-true i (length t) p) (sym (is (get_or t i 0))) ∙ byte (get_or t i 0) (drop (i + 1) t) ∙ rw p refl
      go false p = rw (p, drop_of_length-le t (ltb-false i (length t) p)) more

module _ (t : List ℕ) (i : ℕ) where
  one : utf8 One (drop i t) ≡ (lies_at t i 128 191 and utf8 Nothing (drop (i + 1) t))
  unfolding next ended
  one = follows One Nothing 128 191 refl (λ b. refl) t i

two : (d : Due) (low high : ℕ) → ended d ≡ false → ((b : ℕ) → next d b ≡ follow low high One b) → (t : List ℕ) (i : ℕ) → utf8 d (drop i t) ≡ (two_follow t i low high and utf8 Nothing (drop (i + 1 + 1) t))
unfolding two_follow
two d low high m is t i =
    follows d One low high m is t i
    ∙ ap (λ (x : Bool). lies_at t i low high and x) (one t (i + 1))
    ∙ sym (and_assoc (lies_at t i low high) (lies_at t (i + 1) 128 191) (utf8 Nothing (drop (i + 1 + 1) t)))

three : (d : Due) (low high : ℕ) → ended d ≡ false → ((b : ℕ) → next d b ≡ follow low high Two b) → (t : List ℕ) (i : ℕ) → utf8 d (drop i t) ≡ (three_follow t i low high and utf8 Nothing (drop (i + 1 + 1 + 1) t))
unfolding three_follow next ended
three d low high m is t i =
    follows d Two low high m is t i
    ∙ ap (λ (x : Bool). lies_at t i low high and x) (two Two 128 191 refl (λ b. refl) t (i + 1))
    ∙ sym (and_assoc (lies_at t i low high) (two_follow t (i + 1) 128 191) (utf8 Nothing (drop (i + 1 + 1 + 1) t)))

lies_in : (t : List ℕ) (i low high : ℕ) → lies_at t i low high ≡ true → i < length t
unfolding lies_at
lies_in t i low high e = ltb-true i (length t) (both _ _ e).0

pub lies-before : (t : List ℕ) (i low high : ℕ) {r : Bool} → r ≡ true → r ≡ lies_at t i low high → i + 1 ≤ length t
lies-before t i low high n e = omega (arith, lies_in t i low high (sym e ∙ n))

two_in : (t : List ℕ) (i low high : ℕ) → two_follow t i low high ≡ true → i + 1 < length t
unfolding two_follow
two_in t i low high e = lies_in t (i + 1) 128 191 (both _ _ e).1

three_in : (t : List ℕ) (i low high : ℕ) → three_follow t i low high ≡ true → i + 1 + 1 < length t
unfolding three_follow
three_in t i low high e = two_in t (i + 1) 128 191 (both _ _ e).1

-- ---- a letter by its size

-- after the first byte, which is at p, the letter's other bytes are due
record Letter (d : Due) (t : List ℕ) (p n : ℕ) : Type 0 where
  none : n ≡ 0 → utf8 d (drop (p + 1) t) ≡ false
  goes : (n ≡ 0 → ⊥) → utf8 d (drop (p + 1) t) ≡ utf8 Nothing (drop (p + n) t)
  fits : p + n ≤ length t

made : {d : Due} {t : List ℕ} {p : ℕ} (m : Bool) (k j : ℕ) → p < length t → 0 < k → utf8 d (drop (p + 1) t) ≡ (m and utf8 Nothing (drop j t)) → j ≡ p + k → (m ≡ true → p + k ≤ length t) → Letter d t p (choose m k 0)
unfolding choose ◌and◌
made {t = t} true k j h l is e f = record { none = λ z. absurd (omega arith); goes = λ z. is ∙ ap (λ (j : ℕ). utf8 Nothing (drop j t)) e; fits = f refl }
made false k j h l is e f = record { none = λ z. is; goes = λ z. absurd (z refl); fits = omega arith }

letter : (d : Due) (t : List ℕ) (p : ℕ) → p < length t → Letter d t p (size_after t d (p + 1))
unfolding size_after next ended ◌and◌
letter Nothing t p h = unfold choose in made true 1 (p + 1) h (omega arith) refl refl (λ z. omega arith)
letter One t p h = made (lies_at t (p + 1) 128 191) 2 (p + 1 + 1) h (omega arith) (one t (p + 1)) (omega arith) (λ z. omega (arith, lies_in t (p + 1) 128 191 z))
letter Two t p h = made (two_follow t (p + 1) 128 191) 3 (p + 1 + 1 + 1) h (omega arith) (two Two 128 191 refl (λ b. refl) t (p + 1)) (omega arith) (λ z. omega (arith, two_in t (p + 1) 128 191 z))
letter Three t p h = made (three_follow t (p + 1) 128 191) 4 (p + 1 + 1 + 1 + 1) h (omega arith) (three Three 128 191 refl (λ b. refl) t (p + 1)) (omega arith) (λ z. omega (arith, three_in t (p + 1) 128 191 z))
letter AfterE0 t p h = made (two_follow t (p + 1) 160 191) 3 (p + 1 + 1 + 1) h (omega arith) (two AfterE0 160 191 refl (λ b. refl) t (p + 1)) (omega arith) (λ z. omega (arith, two_in t (p + 1) 160 191 z))
letter AfterEd t p h = made (two_follow t (p + 1) 128 159) 3 (p + 1 + 1 + 1) h (omega arith) (two AfterEd 128 159 refl (λ b. refl) t (p + 1)) (omega arith) (λ z. omega (arith, two_in t (p + 1) 128 159 z))
letter AfterF0 t p h = made (three_follow t (p + 1) 144 191) 4 (p + 1 + 1 + 1 + 1) h (omega arith) (three AfterF0 144 191 refl (λ b. refl) t (p + 1)) (omega arith) (λ z. omega (arith, three_in t (p + 1) 144 191 z))
letter AfterF4 t p h = made (three_follow t (p + 1) 128 143) 4 (p + 1 + 1 + 1 + 1) h (omega arith) (three AfterF4 128 143 refl (λ b. refl) t (p + 1)) (omega arith) (λ z. omega (arith, three_in t (p + 1) 128 143 z))
letter Wrong t p h = record { none = λ z. wrong (drop (p + 1) t); goes = λ z. absurd (z refl); fits = omega arith }

-- the size that the code gave for what is due
pub letter-sized : (t : List ℕ) (i : ℕ) {d is : Due} {r : ℕ} → d ≡ first (get_or t i 0) → d ≡ is → r ≡ size_after t is (i + 1) → i < length t → LetterAt t i r
unfolding letter_size
letter-sized t i {d} {is} {r} e f g h = record { is = same; fits = rw (sym g) at (letter is t i h).fits }
  where
    same : r ≡ size_after t (first (get_or t i 0)) (i + 1)
    same = g ∙ ap (λ (x : Due). size_after t x (i + 1)) (sym f ∙ e)

pub whole_is : {w x : Bool} (n : ℕ) {k : ℕ} → k ≡ choose w n 0 → w ≡ x → k ≡ choose x n 0
whole_is n e f = e ∙ ap (λ (b : Bool). choose b n 0) f

module _ (t : List ℕ) (i n : ℕ) (l : LetterAt t i n) (is : utf8 Nothing (drop i t) ≡ utf8 Nothing t) (h : i < length t) where
  at_first : utf8 (first (get_or t i 0)) (drop (i + 1) t) ≡ utf8 Nothing t
  unfolding next
  at_first = sym (peel t Nothing i h refl) ∙ is

  here : Letter (first (get_or t i 0)) t i n
  unfolding letter_size
  here = rw (sym l.is) at (letter (first (get_or t i 0)) t i h)

  pub letter-no : n ≡ 0 → false ≡ utf8 Nothing t
  letter-no e = sym (here.none e) ∙ at_first

  pub letter-more : (n ≡ 0 → ⊥) → utf8 Nothing (drop (i + n) t) ≡ utf8 Nothing t
  letter-more e = sym (here.goes e) ∙ at_first

pub letters_end : (t : List ℕ) (i : ℕ) → utf8 Nothing (drop i t) ≡ utf8 Nothing t → length t ≤ i → true ≡ utf8 Nothing t
unfolding utf8 ended
letters_end t i is h = rw (drop_of_length-le t h) at is

-- ---- bytes below 128 are letters

greatest-at : (f : ℕ → ℕ) (n i : ℕ) → i < n → f i ≤ greatest n f
unfolding greatest
greatest-at f zero i h = absurd (omega arith)
greatest-at f (suc n) i h = go (ltb i n) refl (λ l. greatest-at f n i l)
  where
    go : (b : Bool) → ltb i n ≡ b → (i < n → f i ≤ greatest n f) → f i ≤ max (greatest n f) (f n)
    go true e below = omega (arith, below (ltb-true i n e))
    go false e below = let z : i ≡ n = omega (arith, ltb-false i n e) in rw z (omega arith)

single : (b : ℕ) → b < 128 → first b ≡ Nothing
unfolding first
single b h = yes _ (lt-ltb b 128 h)

singles : (t : List ℕ) → ((i : ℕ) → i < length t → get_or t i 0 < 128) → utf8 Nothing t ≡ true
unfolding utf8 next ended
singles [] f = refl
singles (b ∷ t) f = rw (single b (f 0 (omega arith))) (singles t (λ i h. f (suc i) (omega arith)))

pub low-bytes : (t : List ℕ) {top : ℕ} → top ≡ greatest (length t) (λ i. get_or t i 0) → top < 128 → true ≡ utf8 Nothing t
low-bytes t e h = sym (singles t (λ i l. omega (arith, greatest-at (λ i. get_or t i 0) (length t) i l)))
