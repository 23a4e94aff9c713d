-- Members whose names differ are in order whichever is put first
use Rattle.std.specs.Prelude.{◌≡◌, refl, Bool, true, false, List, ℕ}
use Rattle.std.proofs.Common.{sym, ap, ◌∙◌, arith}
use Rattle.meaning.specs.Tests.{choose}
use Rattle.laws.specs.Tests.{yes, no as otherwise}
use Rattle.meaning.specs.Text.{before}
use Rattle.encode.proofs.Laws.Join.{before_trans, before-neither, before-not}
use Rattle.jsontext.specs.Values.{J, Parts, end, part}
use Rattle.jsontrace.specs.Order.{insert_part, ordered, ordered_members}
use Rattle.jsonsort.specs.Sort.{insert_all, Fresh, Apart, Away, Among, here, later, Least, Ascends}

pub false-true : {A : Type 0} → false ≡ true → A
false-true e = absurd (let z : ◌≡◌ {A = ℕ} 0 1 = cc in omega arith)

-- one of the two ways
pub not-both : (x y : List ℕ) → before x y ≡ true → before y x ≡ false
not-both x y h =
    go (before y x) refl
  where
    go : (b : Bool) → before y x ≡ b → before y x ≡ false
    go true e = false-true (sym (before-not x) ∙ before_trans x y x h e)
    go false e = e

either : (x y : List ℕ) → (x ≡ y → ⊥) → before x y ≡ false → before y x ≡ true
either x y n h =
    go (before y x) refl
  where
    go : (b : Bool) → before y x ≡ b → before y x ≡ true
    go true e = e
    go false e = absurd (n (before-neither x y h e))

-- past one that is not after, before one that is
pub between : (m a b : List ℕ) → before m a ≡ false → before m b ≡ true → before a b ≡ true
between m a b p q =
    go (before a m) refl
  where
    go : (x : Bool) → before a m ≡ x → before a b ≡ true
    go true e = before_trans a m b e q
    go false e = let z : m ≡ a = before-neither m a p e in ap (λ (l : List ℕ). before l b) (sym z) ∙ q

pub insert_past : (n : List ℕ) (j : J) (m : List ℕ) (k : J) (ps : Parts) → before m n ≡ true → insert_part n j (part m k ps) ≡ part m k (insert_part n j ps)
unfolding insert_part
insert_past n j m k ps h = yes _ h

pub insert_here : (n : List ℕ) (j : J) (m : List ℕ) (k : J) (ps : Parts) → before m n ≡ false → insert_part n j (part m k ps) ≡ part n j (part m k ps)
unfolding insert_part
insert_here n j m k ps h = otherwise _ h refl

-- before any other, whichever is put first
at_front : (a b : List ℕ) (i j : J) (ps : Parts) → (a ≡ b → ⊥) → insert_part b j ps ≡ part b j ps → insert_part a i ps ≡ part a i ps → insert_part a i (part b j ps) ≡ insert_part b j (part a i ps)
at_front a b i j ps n p q =
    go (before b a) refl
  where
    go : (x : Bool) → before b a ≡ x → insert_part a i (part b j ps) ≡ insert_part b j (part a i ps)
    go true e = insert_past a i b j ps e ∙ ap (part b j) q ∙ sym (insert_here b j a i ps (not-both b a e))
    go false e = insert_here a i b j ps e ∙ sym (insert_past b j a i ps (either b a (λ z. n (sym z)) e) ∙ ap (part a i) p)

pub insert_swap : (a b : List ℕ) (i j : J) (ps : Parts) → (a ≡ b → ⊥) → insert_part a i (insert_part b j ps) ≡ insert_part b j (insert_part a i ps)
unfolding insert_part
insert_swap a b i j end n = at_front a b i j end n refl refl
insert_swap a b i j (part m k ps) n =
    go (insert_swap a b i j ps n) (before m a) (before m b) refl refl
  where
    go : insert_part a i (insert_part b j ps) ≡ insert_part b j (insert_part a i ps) → (x y : Bool) → before m a ≡ x → before m b ≡ y → insert_part a i (insert_part b j (part m k ps)) ≡ insert_part b j (insert_part a i (part m k ps))
    go r true true p q =
        ap (insert_part a i) (insert_past b j m k ps q) ∙ insert_past a i m k (insert_part b j ps) p ∙ ap (part m k) r
        ∙ sym (ap (insert_part b j) (insert_past a i m k ps p) ∙ insert_past b j m k (insert_part a i ps) q)
    go r true false p q =
        ap (insert_part a i) (insert_here b j m k ps q) ∙ insert_past a i b j (part m k ps) (between m b a q p) ∙ ap (part b j) (insert_past a i m k ps p)
        ∙ sym (ap (insert_part b j) (insert_past a i m k ps p) ∙ insert_here b j m k (insert_part a i ps) q)
    go r false true p q =
        ap (insert_part a i) (insert_past b j m k ps q) ∙ insert_here a i m k (insert_part b j ps) p
        ∙ sym (ap (insert_part b j) (insert_here a i m k ps p) ∙ insert_past b j a i (part m k ps) (between m a b p q) ∙ ap (part a i) (insert_past b j m k ps q))
    go r false false p q =
        ap (insert_part a i) (insert_here b j m k ps q) ∙ at_front a b i j (part m k ps) n (insert_here b j m k ps q) (insert_here a i m k ps p) ∙ ap (insert_part b j) (sym (insert_here a i m k ps p))

all_late : (n : List ℕ) (o : J) (ps sorted : Parts) → Fresh n ps → insert_all ps (insert_part n o sorted) ≡ insert_part n o (insert_all ps sorted)
unfolding insert_all Fresh
all_late n o end sorted f = refl
all_late n o (part m j ps) sorted f =
    ap (insert_all ps) (insert_swap m n (ordered j) o sorted f.0) ∙ all_late n o ps (insert_part m (ordered j) sorted) f.1

-- from the front as from the back
pub all-ordered : (ps : Parts) → Apart ps → insert_all ps end ≡ ordered_members ps
unfolding insert_all ordered_members Apart
all-ordered end a = refl
all-ordered (part n j ps) a = all_late n (ordered j) ps end a.0 ∙ ap (insert_part n (ordered j)) (all-ordered ps a.1)

pub fresh_insert : (m n : List ℕ) (o : J) (ps : Parts) → (n ≡ m → ⊥) → Fresh m ps → Fresh m (insert_part n o ps)
unfolding insert_part Fresh choose
fresh_insert m n o end d f = (d, tt)
fresh_insert m n o (part l k ps) d f =
    go (before l n) (fresh_insert m n o ps d f.1)
  where
    go : (x : Bool) → Fresh m (insert_part n o ps) → Fresh m (choose x (part l k (insert_part n o ps)) (part n o (part l k ps)))
    go true r = (f.0, r)
    go false r = (d, f)

pub away_insert : (n : List ℕ) (o : J) (ps qs : Parts) → Fresh n ps → Away ps qs → Away ps (insert_part n o qs)
unfolding Away Fresh
away_insert n o end qs f a = tt
away_insert n o (part m j ps) qs f a = (fresh_insert m n o qs (λ e. f.0 (sym e)) a.0, away_insert n o ps qs f.1 a.1)

pub away-end : (ps : Parts) → Away ps end
unfolding Away Fresh
away-end end = tt
away-end (part n j ps) = (tt, away-end ps)

-- ---- a member put among others

pub data From (n : List ℕ) (o : J) (ps : Parts) (m : List ℕ) (p : J) : Type 0 where
  new : m ≡ n → p ≡ o → From n o ps m p
  old : Among m p ps → From n o ps m p

from_past : {n l m : List ℕ} {o k p : J} {ps : Parts} → From n o ps m p → From n o (part l k ps) m p
from_past (new e f) = new e f
from_past (old a) = old (later a)

among-past : {n l m : List ℕ} {o k p : J} {ps qs : Parts} → (Among m p qs → From n o ps m p) → Among m p (part l k qs) → From n o (part l k ps) m p
among-past f here = old here
among-past f (later a) = from_past (f a)

among-here : {n m : List ℕ} {o p : J} {ps : Parts} → Among m p (part n o ps) → From n o ps m p
among-here here = new refl refl
among-here (later a) = old a

pub among_insert : (n : List ℕ) (o : J) (ps : Parts) {m : List ℕ} {p : J} → Among m p (insert_part n o ps) → From n o ps m p
unfolding insert_part choose
among_insert n o end a = among-here a
among_insert n o (part l k ps) {m} {p} a =
    go (before l n) (λ b. among_insert n o ps b) a
  where
    go : (x : Bool) → (Among m p (insert_part n o ps) → From n o ps m p) → Among m p (choose x (part l k (insert_part n o ps)) (part n o (part l k ps))) → From n o (part l k ps) m p
    go true r b = among-past r b
    go false r b = among-here b

pub insert_new_lem : (n : List ℕ) (o : J) (ps : Parts) → Among n o (insert_part n o ps)
unfolding insert_part choose
insert_new_lem n o end = here
insert_new_lem n o (part l k ps) =
    go (before l n) (insert_new_lem n o ps)
  where
    go : (x : Bool) → Among n o (insert_part n o ps) → Among n o (choose x (part l k (insert_part n o ps)) (part n o (part l k ps)))
    go true r = later r
    go false r = here

later-past : {l m : List ℕ} {k p : J} {ps qs : Parts} → (Among m p ps → Among m p qs) → Among m p (part l k ps) → Among m p (part l k qs)
later-past f here = here
later-past f (later a) = later (f a)

pub insert_old : (n : List ℕ) (o : J) (ps : Parts) {m : List ℕ} {p : J} → Among m p ps → Among m p (insert_part n o ps)
unfolding insert_part choose
insert_old n o end a = later a
insert_old n o (part l k ps) {m} {p} a =
    go (before l n) (λ b. insert_old n o ps b)
  where
    go : (x : Bool) → (Among m p ps → Among m p (insert_part n o ps)) → Among m p (choose x (part l k (insert_part n o ps)) (part n o (part l k ps)))
    go true r = later-past r a
    go false r = later a

pub fresh-among : (n : List ℕ) (ps : Parts) {m : List ℕ} {p : J} → Fresh n ps → Among m p ps → m ≡ n → ⊥
unfolding Fresh
fresh-among n end {m = m} {p = p} f a e = elim a [ ]
fresh-among n (part m o ps) f here e = f.0 e
fresh-among n (part l o ps) f (later a) e = fresh-among n ps f.1 a e

pub least-among : (n : List ℕ) (ps : Parts) {m : List ℕ} {p : J} → Least n ps → Among m p ps → before n m ≡ true
unfolding Least
least-among n end {m = m} {p = p} f a = elim a [ ]
least-among n (part m o ps) f here = f.0
least-among n (part l o ps) f (later a) = least-among n ps f.1 a

least_insert : (m n : List ℕ) (o : J) (ps : Parts) → before m n ≡ true → Least m ps → Least m (insert_part n o ps)
unfolding insert_part Least choose
least_insert m n o end h l = (h, tt)
least_insert m n o (part b k ps) h l =
    go (before b n) (least_insert m n o ps h l.1)
  where
    go : (x : Bool) → Least m (insert_part n o ps) → Least m (choose x (part b k (insert_part n o ps)) (part n o (part b k ps)))
    go true r = (l.0, r)
    go false r = (h, l)

least_on : (m n : List ℕ) (ps : Parts) → before m n ≡ true → Least n ps → Least m ps
unfolding Least
least_on m n end h l = tt
least_on m n (part b k ps) h l = (before_trans m n b h l.0, least_on m n ps h l.1)

pub ascends_insert : (n : List ℕ) (o : J) (ps : Parts) → Fresh n ps → Ascends ps → Ascends (insert_part n o ps)
unfolding insert_part Fresh Least Ascends choose
ascends_insert n o end f a = (tt, tt)
ascends_insert n o (part m k ps) f a =
    go (before m n) refl (ascends_insert n o ps f.1 a.1)
  where
    go : (x : Bool) → before m n ≡ x → Ascends (insert_part n o ps) → Ascends (choose x (part m k (insert_part n o ps)) (part n o (part m k ps)))
    go true e r = (least_insert m n o ps e a.0, r)
    go false e r = let b : before n m ≡ true = either m n f.0 e in ((b, least_on n m ps b a.0), a)
