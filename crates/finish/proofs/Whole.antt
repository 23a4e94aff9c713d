-- The whole file: each part's size, the contents, the tables, and all of it
use mathlib.Core.Path.{◌≡◌, refl, sym, ◌∙◌, ap, subst}
use mathlib.Core.Bool.{true}
use mathlib.Core.List.{List, [], ◌∷◌, ◌++◌, append_assoc}
use Prim.Native.Nat.{ℕ, zero, suc, ◌+◌, ◌*◌, ◌<◌, ◌≤◌}
use native.Mathlib.Omega.{arith}
use lib.ListN.{length, take, get_or, length-append}
use Rattle.meaning.specs.Case.{size, vars}
use Rattle.meaning.specs.Check.{bodies}
use Rattle.laws.specs.Writing.{Writing, write-more}
use Rattle.encode.specs.Words.{packed}
use Rattle.encode.specs.Encode.{flat, placed, encoded}
use Rattle.encode.specs.Unsorted.{texts, table, tables, parts, finished}
use Rattle.encode.proofs.Laws.Words.{packed-long, packed-append}
use Rattle.encode.proofs.Laws.Encode.{flat-more, placed-long}
use Rattle.encode.proofs.Laws.Unsorted.{seven, finished-long, strings-long, table-long, part-long}
use Rattle.finish.specs.Sizes.{BodySize, Table, Sized, PartSize, Fits, Room, Put}
use Rattle.finish.proofs.Parts.{Placing, placing_none, placing_more, placing_all, Filling, filling_none, filling_more, filling_all}

-- ---- sizes

pub part-first : {s : List ℕ} {n total k : ℕ} (marks : List ℕ) → Sized s n total → k ≡ 0 → PartSize (get_or (parts s marks) k []) (8 * n)
part-first {s} {n} marks z e = record { is = rw e (omega (arith, z.many, strings-long s marks)); few = omega (arith, z.few) }

pub part-last : {s : List ℕ} {n total k : ℕ} (marks : List ℕ) → Sized s n total → k ≡ 6 → PartSize (get_or (parts s marks) k []) total
unfolding parts tables
part-last {s} {n} marks z e = record { is = rw e z.bytes; few = z.small }

pub part-middle : {k z : ℕ} (s marks : List ℕ) → bodies s ≡ true → k < 7 → (k ≡ 0 → ⊥) → (k ≡ 6 → ⊥) → BodySize s k z → PartSize (get_or (parts s marks) k []) z
part-middle {k} s marks h lt a b e = record { is = e.is ∙ sym (part-long s marks h k lt a b); few = omega (arith, e.few) }

-- ---- the contents

pub record Contents (s marks d w : List ℕ) (k at : ℕ) : Type 0 where
  pub fits : Fits (finished s marks) d
  pub low : k ≤ 7
  pub few : at ≤ 4194304
  pub long : length w ≡ length d
  pub is : Placing d w 8 64 (parts s marks) k at

pub head-room : {d : List ℕ} (s marks : List ℕ) → Fits (finished s marks) d → 0 + 4 ≤ length d
head-room s marks f = omega (arith, f.held, finished-long s marks)

pub head-rest : {d : List ℕ} (s marks d₁ : List ℕ) → Fits (finished s marks) d → length d₁ ≡ length d → 4 + 4 ≤ length d₁
head-rest s marks d₁ f l = omega (arith, f.held, finished-long s marks)

pub contents-none : {s marks d d₂ : List ℕ} (d₁ : List ℕ) → Fits (finished s marks) d → length d₁ ≡ length d → length d₂ ≡ length d₁ → Contents s marks d₂ d₂ 0 64
contents-none {s} {marks} {d} {d₂} d₁ f l m = record {
  fits = record { most = f.most; held = omega (arith, f.held) };
  low = omega arith;
  few = omega arith;
  long = refl;
  is = placing_none (parts s marks);
}

part-fits : (parts : List (List ℕ)) (k : ℕ) → length (get_or parts k []) ≤ length (flat parts)
unfolding flat
part-fits [] k = omega arith
part-fits (b ∷ bs) zero = omega (arith, length-append b (flat bs))
part-fits (b ∷ bs) (suc k) = omega (arith, length-append b (flat bs), part-fits bs k)

pub size_few : {s marks d w : List ℕ} {k at size : ℕ} → Contents s marks d w k at → PartSize (get_or (parts s marks) k []) size → size ≤ 4294967295
size_few {s} {marks} {d} {w} {k} c e = omega (arith, e.is, part-fits (parts s marks) k, finished-long s marks, c.fits.most)

pub at-few : {s marks d w : List ℕ} {k at : ℕ} → Contents s marks d w k at → at ≤ 4294967295
at-few c = omega (arith, c.few)

pub contents-room : {s marks d w : List ℕ} {k at : ℕ} → Contents s marks d w k at → k < 7 → 8 + 8 * k + 8 ≤ length w
contents-room {s} {marks} {d} c lt = omega (arith, c.long, c.fits.held, finished-long s marks)

pub contents-more : {s marks d w w' : List ℕ} {k at size : ℕ} → Contents s marks d w k at → k < 7 → PartSize (get_or (parts s marks) k []) size → Writing w w' (8 + 8 * k) (packed (at ∷ size ∷ [])) → length w' ≡ length w → Contents s marks d w' (k + 1) (at + size)
contents-more {s} {marks} {d} {w} {w'} {k} {at} {size} c lt e g l =
    let next = placing_more c.is (omega (arith, seven s marks)) refl (omega (arith, seven s marks, c.fits.held, finished-long s marks)) e.is g l in
    record {
      fits = c.fits;
      low = omega arith;
      few = omega (arith, next.most, finished-long s marks, c.fits.most);
      long = l ∙ c.long;
      is = next;
    }

pub contents-all : {s marks d d₁ d₂ w : List ℕ} {k at v : ℕ} → Writing d d₁ 0 (packed (1 ∷ [])) → Writing d₁ d₂ 4 (packed (v ∷ [])) → v ≡ vars s → Contents s marks d₂ w k at → 7 ≤ k → Writing d w 0 (packed (1 ∷ vars s ∷ placed 64 (parts s marks)))
contents-all {s} {marks} {d} {d₁} {d₂} {w} {k} {at} {v} f g e c h =
    let two = write-more (packed (v ∷ [])) 4 f (omega arith) (omega (arith, packed-long (1 ∷ []))) g.is in
    let all = placing_all c.is (omega (arith, seven s marks)) in
    let three = write-more (packed (placed 64 (parts s marks))) 8 two (omega arith) (omega (arith, length-append (packed (1 ∷ [])) (packed (v ∷ [])), packed-long (1 ∷ []), packed-long (v ∷ []))) all.is in
    subst (λ (l : List ℕ). Writing d w 0 l) made three
  where
    made : (packed (1 ∷ []) ++ packed (v ∷ [])) ++ packed (placed 64 (parts s marks)) ≡ packed (1 ∷ vars s ∷ placed 64 (parts s marks))
    made =
        ap (λ (l : List ℕ). l ++ packed (placed 64 (parts s marks))) (sym (packed-append (1 ∷ []) (v ∷ [])))
        ∙ sym (packed-append (1 ∷ v ∷ []) (placed 64 (parts s marks)))
        ∙ ap (λ (x : ℕ). packed (1 ∷ x ∷ placed 64 (parts s marks))) e

-- ---- values to lists

table_at : (s marks : List ℕ) (i : ℕ) → i < 5 → table s marks (i + 1) ≡ get_or (tables s marks) i []
unfolding tables
table_at s marks zero lt = refl
table_at s marks (suc zero) lt = refl
table_at s marks (suc (suc zero)) lt = refl
table_at s marks (suc (suc (suc zero))) lt = refl
table_at s marks (suc (suc (suc (suc zero)))) lt = refl
table_at s marks (suc (suc (suc (suc (suc i))))) lt = absurd (omega arith)

five : (s marks : List ℕ) → length (tables s marks) ≡ 5
unfolding tables
five s marks = refl

pub record Tables (s marks d w : List ℕ) (at i next : ℕ) : Type 0 where
  pub fits : Room at (flat (tables s marks)) d
  pub low : i ≤ 5
  pub long : length w ≡ length d
  pub most : next ≤ 4194304
  pub is : Filling d w at (tables s marks) i next

pub tables-none : {s d : List ℕ} {at : ℕ} (marks : List ℕ) → Room at (flat (tables s marks)) d → Tables s marks d d at 0 at
tables-none {s} marks h = record { fits = h; low = omega arith; long = refl; most = omega (arith, h.few); is = filling_none (tables s marks) }

next-table : {s marks d w w' : List ℕ} {at i next : ℕ} → bodies s ≡ true → Tables s marks d w at i next → i < 5 → Writing w w' next (table s marks (i + 1)) → length w' ≡ length w → Filling d w' at (tables s marks) (i + 1) (next + size s (i + 1))
next-table {s} {marks} {d} {w} {w'} {at} {i} {next} h t lt g l =
    subst (λ (n : ℕ). Filling d w' at (tables s marks) (i + 1) (next + n)) (table-long s marks h (i + 1) (omega arith))
    (filling_more (table s marks (i + 1)) t.is (omega (arith, five s marks)) (table_at s marks i lt) (omega (arith, t.fits.held)) g l)

most_of : (l : List (List ℕ)) (i : ℕ) → length (flat (take i l)) + length (get_or l i []) ≤ length (flat l)
unfolding flat
most_of [] zero = omega arith
most_of [] (suc i) = omega arith
most_of (b ∷ bs) zero = omega (arith, length-append b (flat bs))
most_of (b ∷ bs) (suc i) = omega (arith, length-append b (flat (take i bs)), length-append b (flat bs), most_of bs i)

pub table_of : {n i : ℕ} → n ≤ 16384 → i < 5 → Table n (i + 1)
table_of h l = record { few = h; words = omega arith }

pub table-room : {s marks d w : List ℕ} {at i next : ℕ} → Tables s marks d w at i next → i < 5 → bodies s ≡ true → next + size s (i + 1) ≤ length w
table-room {s} {marks} {d} {w} {at} {i} {next} t lt h =
    omega (arith, t.long, t.fits.held, t.is.place, table-long s marks h (i + 1) (omega arith), ap length (table_at s marks i lt), most_of (tables s marks) i)

pub tables_more : {s marks d w w' : List ℕ} {at i next z : ℕ} → Tables s marks d w at i next → i < 5 → Writing w w' next (table s marks (i + 1)) → length w' ≡ length w → BodySize s (i + 1) z → bodies s ≡ true → Tables s marks d w' at (i + 1) (next + z)
tables_more {s} {marks} {d} {w} {w'} {at} {i} {next} {z} t lt g l e h =
    let q : next + size s (i + 1) ≡ next + z = omega (arith, e.is) in
    let more : Filling d w' at (tables s marks) (i + 1) (next + z) = subst (λ (n : ℕ). Filling d w' at (tables s marks) (i + 1) n) q (next-table h t lt g l) in
    record { fits = t.fits; low = omega arith; long = l ∙ t.long; most = omega (arith, t.fits.few, more.most); is = more }

whole : (s marks : List ℕ) → take 5 (tables s marks) ≡ tables s marks
unfolding tables
whole s marks = refl

pub tables-all : {s marks d w : List ℕ} {at i next : ℕ} → Tables s marks d w at i next → 5 ≤ i → Put d w at (flat (tables s marks)) next
tables-all {s} {marks} {d} {w} {at} {i} {next} t h =
    let q : i ≡ 5 = omega (arith, t.low) in
    record { is = filling_all t.is (omega (arith, five s marks)); end = at-end (rw q at t.is.place) }
  where
    at-end : next ≡ at + length (flat (take 5 (tables s marks))) → next ≡ at + length (flat (tables s marks))
    at-end e = e ∙ ap (λ (l : List (List ℕ)). at + length (flat l)) (whole s marks)

-- ---- all of it

split : (s marks : List ℕ) → flat (parts s marks) ≡ packed (placed 0 (texts s)) ++ (flat (tables s marks) ++ flat (texts s))
unfolding parts flat
split s marks = ap (λ (l : List ℕ). packed (placed 0 (texts s)) ++ l) (flat-more (tables s marks) (flat (texts s)))

module _ {s : List ℕ} {n total : ℕ} (marks : List ℕ) (z : Sized s n total) where
  body-long : length (flat (parts s marks)) ≡ 8 * n + length (flat (tables s marks)) + length (flat (texts s))
  body-long = omega (arith, ap length (split s marks), length-append (packed (placed 0 (texts s))) (flat (tables s marks) ++ flat (texts s)), length-append (flat (tables s marks)) (flat (texts s)), packed-long (placed 0 (texts s)), placed-long 0 (texts s), z.many)

  pub strings-room : {room : List ℕ} (w : List ℕ) → Fits (finished s marks) room → length w ≡ length room → 64 + 8 * n ≤ length w
  strings-room w f l = omega (arith, f.held, finished-long s marks, body-long)

  pub text-few : {room : List ℕ} → Fits (finished s marks) room → length (flat (texts s)) ≤ 4194304
  text-few f = omega (arith, f.most, finished-long s marks, body-long)

  pub tables-room : {room w : List ℕ} (w₁ : List ℕ) → Fits (finished s marks) room → length w₁ ≡ length room → length w ≡ length w₁ → Room (64 + 8 * n) (flat (tables s marks)) w
  tables-room w₁ f l m = record { held = omega (arith, f.held, finished-long s marks, body-long); few = omega (arith, f.most, finished-long s marks, body-long) }

  pub text-room : {room w w' : List ℕ} {at : ℕ} (w₁ : List ℕ) → Fits (finished s marks) room → length w₁ ≡ length room → length w' ≡ length w₁ → length w ≡ length w' → Put w' w (64 + 8 * n) (flat (tables s marks)) at → at + length (flat (texts s)) ≤ length w
  text-room w₁ f l m k p = omega (arith, f.held, finished-long s marks, body-long, p.end)

  pub finished-all : {room r₁ r₂ r₃ r₄ : List ℕ} {at : ℕ} → Fits (finished s marks) room → Writing room r₁ 0 (packed (1 ∷ vars s ∷ placed 64 (parts s marks))) → Writing r₁ r₂ 64 (packed (placed 0 (texts s))) → Put r₂ r₃ (64 + 8 * n) (flat (tables s marks)) at → Writing r₃ r₄ at (flat (texts s)) → Writing room r₄ 0 (finished s marks)
  unfolding finished encoded
  finished-all {room} {r₁} {r₂} {r₃} {r₄} {at} f a b p d =
      let head : length (packed (1 ∷ vars s ∷ placed 64 (parts s marks))) ≡ 64 = omega (arith, packed-long (1 ∷ vars s ∷ placed 64 (parts s marks)), placed-long 64 (parts s marks), seven s marks) in
      let first : length (packed (placed 0 (texts s))) ≡ 8 * n = omega (arith, packed-long (placed 0 (texts s)), placed-long 0 (texts s), z.many) in
      let x = write-more (packed (placed 0 (texts s))) 64 a (omega arith) (omega (arith, head)) b.is in
      let y = write-more (flat (tables s marks)) (64 + 8 * n) x (omega arith) (omega (arith, head, first, length-append (packed (1 ∷ vars s ∷ placed 64 (parts s marks))) (packed (placed 0 (texts s))))) p.is.is in
      let w = write-more (flat (texts s)) at y (omega arith) (omega (arith, p.end, head, first, length-append (packed (1 ∷ vars s ∷ placed 64 (parts s marks))) (packed (placed 0 (texts s))), length-append (packed (1 ∷ vars s ∷ placed 64 (parts s marks)) ++ packed (placed 0 (texts s))) (flat (tables s marks)))) d.is in
      subst (λ (l : List ℕ). Writing room r₄ 0 l) made w
    where
      made : ((packed (1 ∷ vars s ∷ placed 64 (parts s marks)) ++ packed (placed 0 (texts s))) ++ flat (tables s marks)) ++ flat (texts s) ≡ packed (1 ∷ vars s ∷ placed 64 (parts s marks)) ++ flat (parts s marks)
      made =
          append_assoc (packed (1 ∷ vars s ∷ placed 64 (parts s marks)) ++ packed (placed 0 (texts s))) (flat (tables s marks)) (flat (texts s))
          ∙ append_assoc (packed (1 ∷ vars s ∷ placed 64 (parts s marks))) (packed (placed 0 (texts s))) (flat (tables s marks) ++ flat (texts s))
          ∙ ap (λ (l : List ℕ). packed (1 ∷ vars s ∷ placed 64 (parts s marks)) ++ l) (sym (split s marks))
