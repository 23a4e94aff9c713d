-- Parts put one after another: the bytes counted, where each starts, the texts themselves, and a table's words
use mathlib.Core.Path.{◌≡◌, refl, sym, ◌∙◌, ap, subst}
use mathlib.Core.Bool.{Bool, true, false}
use mathlib.Core.List.{List, [], ◌∷◌, ◌++◌, map}
use Prim.Native.Nat.{ℕ, zero, suc, ◌+◌, ◌*◌, ◌/◌, ◌<◌, ◌≤◌}
use native.Mathlib.Omega.{arith}
use native.Mathlib.Numerals.{add-one}
use lib.ListN.{length, take, get_or}
use lib.Seq.{take_all, take-suc, length-take-le}
use Rattle.meaning.specs.Tests.{choose}
use Rattle.meaning.specs.Case.{size, body_word, places}
use Rattle.laws.specs.Writing.{Writing, write-none, write-more}
use Rattle.encode.specs.Words.{packed}
use Rattle.encode.specs.Encode.{flat, placed}
use Rattle.encode.specs.Unsorted.{texts, number, names, renamed, table}
use Rattle.encode.proofs.Laws.Words.{packed-long, packed-append}
use Rattle.encode.proofs.Laws.Encode.{flat_step, step-long, flat-most, placed-more, placed-long}
use Rattle.encode.proofs.Laws.Unsorted.{words_long}
use Rattle.joining.specs.Order.{Cut, Sorted}
use Rattle.joining.specs.Laws.{listed-long, listed_at}
use Rattle.finish.specs.Sizes.{BodySize, TextBytes, Put}

-- ---- the texts by the entries

many-texts : {s order : List ℕ} {n : ℕ} → Sorted s order n → length (texts s) ≡ n
many-texts {s} {order} {n} o = ap length (sym o.is) ∙ listed-long s order n o.fits

text-there : {s order t : List ℕ} {n i : ℕ} → Sorted s order n → i < n → Cut s (get_or order i 0) t → t ≡ get_or (texts s) i []
text-there {s} {order} {t} {n} {i} o lt c =
    c.is ∙ sym (listed_at s order n i o.fits lt) ∙ ap (λ (l : List (List ℕ)). get_or l i []) o.is

-- ---- bytes counted

pub record Counting (s : List ℕ) (n i total : ℕ) : Type 0 where
  pub low : i ≤ n
  pub is : total ≡ length (flat (take i (texts s)))
  pub few : total ≤ 4294967295 * i

pub counting_none : {s : List ℕ} {n : ℕ} → Counting s n 0 0
unfolding flat
counting_none = record { low = omega arith; is = refl; few = omega arith }

pub counting_more : {s order t : List ℕ} {n i total : ℕ} → Counting s n i total → Sorted s order n → i < n → Cut s (get_or order i 0) t → Counting s n (i + 1) (total + length t)
counting_more {s} {order} {t} {n} {i} {total} c o lt cut = record {
  low = omega arith;
  is = omega (arith, c.is, step-long (texts s) i (omega (arith, many-texts o)), ap length (text-there o lt cut));
  few = omega (arith, c.few, cut.few);
}

pub counting_all : {s order : List ℕ} {n i total : ℕ} → Counting s n i total → n ≤ i → Sorted s order n → n ≤ 16384 → TextBytes s total
counting_all {s} {order} {n} {i} {total} c h o few =
    record {
      is = c.is ∙ ap (λ (l : List (List ℕ)). length (flat l)) (take_all i (texts s) (omega (arith, many-texts o)));
      few = omega (arith, c.few, c.low);
    }

-- ---- places: where each part starts and how long it is

pub place-written : {d w w' : List ℕ} {at : ℕ} (a a' b b' : ℕ) → at + 8 ≤ length d → Writing d w at (packed (a ∷ [])) → Writing w w' (at + 4) (packed (b ∷ [])) → a ≡ a' → b ≡ b' → Writing d w' at (packed (a' ∷ b' ∷ []))
place-written {d} {w} {w'} {at} a a' b b' h f g ea eb =
    subst (λ (l : List ℕ). Writing d w' at l) (sym (packed-append (a ∷ []) (b ∷ [])) ∙ ap (λ (x : ℕ). packed (x ∷ b ∷ [])) ea ∙ ap (λ (y : ℕ). packed (a' ∷ y ∷ [])) eb)
    (write-more (packed (b ∷ [])) (at + 4) f (omega arith) (omega (arith, packed-long (a ∷ []))) g.is)

pub record Placing (d w : List ℕ) (at from : ℕ) (parts : List (List ℕ)) (i start : ℕ) : Type 0 where
  pub long : length w ≡ length d
  pub low : i ≤ length parts
  pub place : start ≡ from + length (flat (take i parts))
  pub most : start ≤ from + length (flat parts)
  pub is : Writing d w at (packed (placed from (take i parts)))

pub placing_none : {d : List ℕ} {at from : ℕ} (parts : List (List ℕ)) → Placing d d at from parts 0 from
unfolding placed flat packed
placing_none {d} {at} {from} parts = record {
  long = refl;
  low = omega arith;
  place = omega arith;
  most = omega arith;
  is = write-none d at;
}

pub placing_more : {d w w' : List ℕ} {at from i start size p : ℕ} {parts : List (List ℕ)} → Placing d w at from parts i start → i < length parts → p ≡ at + 8 * i → at + 8 * length parts ≤ length d → size ≡ length (get_or parts i []) → Writing w w' p (packed (start ∷ size ∷ [])) → length w' ≡ length w → Placing d w' at from parts (i + 1) (start + size)
placing_more {d} {w} {w'} {at} {from} {i} {start} {size} {p} {parts} f lt ep room e g l =
    let sum : start + size ≡ from + length (flat (take (i + 1) parts)) = omega (arith, f.place, step-long parts i lt) in
    let made : packed (placed from (take (i + 1) parts)) ≡ packed (placed from (take i parts)) ++ packed (start ∷ size ∷ []) =
    ap (λ (n : ℕ). packed (placed from (take n parts))) (add-one i)
    ∙ ap (λ (l : List (List ℕ)). packed (placed from l)) (take-suc parts i [] lt)
    ∙ ap packed (placed-more from (take i parts) (get_or parts i []))
    ∙ packed-append (placed from (take i parts)) ((from + length (flat (take i parts))) ∷ length (get_or parts i []) ∷ [])
    ∙ ap (λ (x : ℕ). packed (placed from (take i parts)) ++ packed (x ∷ length (get_or parts i []) ∷ [])) (sym f.place)
    ∙ ap (λ (x : ℕ). packed (placed from (take i parts)) ++ packed (start ∷ x ∷ [])) (sym e) in
    let here : p ≡ at + length (packed (placed from (take i parts))) = omega (arith, packed-long (placed from (take i parts)), placed-long from (take i parts), length-take-le i parts f.low) in
    record {
      long = l ∙ f.long;
      low = omega arith;
      place = sum;
      most = omega (arith, sum, flat-most parts (i + 1));
      is = subst (λ (x : List ℕ). Writing d w' at x) (sym made) (write-more (packed (start ∷ size ∷ [])) p f.is (omega arith) here g.is);
    }

pub placing_all : {d w : List ℕ} {at from i start : ℕ} {parts : List (List ℕ)} → Placing d w at from parts i start → length parts ≤ i → Writing d w at (packed (placed from parts))
placing_all {d} {w} {at} {from} {i} {start} {parts} f h = subst (λ (l : List (List ℕ)). Writing d w at (packed (placed from l))) (take_all i parts h) f.is

-- the strings' places
pub strings-more : {s order t d w w' : List ℕ} {n at i start : ℕ} → Placing d w at 0 (texts s) i start → Sorted s order n → i < n → Cut s (get_or order i 0) t → at + 8 * n ≤ length d → Writing w w' (at + 8 * i) (packed (start ∷ length t ∷ [])) → length w' ≡ length w → Placing d w' at 0 (texts s) (i + 1) (start + length t)
strings-more {s} {order} {t} {d} {w} {w'} {n} {at} {i} {start} f o lt cut room g l =
    placing_more f (omega (arith, many-texts o)) refl (omega (arith, many-texts o)) (ap length (text-there o lt cut)) g l

pub strings-all : {s order d w : List ℕ} {n at i start : ℕ} → Placing d w at 0 (texts s) i start → Sorted s order n → n ≤ i → Writing d w at (packed (placed 0 (texts s)))
strings-all f o h = placing_all f (omega (arith, many-texts o))

-- ---- the texts themselves

pub record Filling (d w : List ℕ) (at : ℕ) (parts : List (List ℕ)) (i next : ℕ) : Type 0 where
  pub long : length w ≡ length d
  pub low : i ≤ length parts
  pub place : next ≡ at + length (flat (take i parts))
  pub most : next ≤ at + length (flat parts)
  pub is : Writing d w at (flat (take i parts))

pub filling_none : {d : List ℕ} {at : ℕ} (parts : List (List ℕ)) → Filling d d at parts 0 at
unfolding flat
filling_none {d} {at} parts = record { long = refl; low = omega arith; place = omega arith; most = omega arith; is = write-none d at }

pub filling_more : {d w w' : List ℕ} {at i next : ℕ} {parts : List (List ℕ)} (part : List ℕ) → Filling d w at parts i next → i < length parts → part ≡ get_or parts i [] → at ≤ length d → Writing w w' next part → length w' ≡ length w → Filling d w' at parts (i + 1) (next + length part)
filling_more {d} {w} {w'} {at} {i} {next} {parts} part f lt e room g l =
    let sum : next + length part ≡ at + length (flat (take (i + 1) parts)) = omega (arith, f.place, step-long parts i lt, ap length e) in
    record {
      long = l ∙ f.long;
      low = omega arith;
      place = sum;
      most = omega (arith, sum, flat-most parts (i + 1));
      is = subst (λ (x : List ℕ). Writing d w' at x) (ap (λ (x : List ℕ). flat (take i parts) ++ x) e ∙ sym (flat_step parts i lt)) (write-more part next f.is room f.place g.is);
    }

pub filling_all : {d w : List ℕ} {at i next : ℕ} {parts : List (List ℕ)} → Filling d w at parts i next → length parts ≤ i → Writing d w at (flat parts)
filling_all {d} {w} {at} {i} {next} {parts} f h = subst (λ (l : List (List ℕ)). Writing d w at (flat l)) (take_all i parts h) f.is

-- one text fits
pub text-fits : {s order t d w : List ℕ} {n at i next : ℕ} → Filling d w at (texts s) i next → Sorted s order n → i < n → Cut s (get_or order i 0) t → at + length (flat (texts s)) ≤ length d → next + length t ≤ length w
text-fits {s} {order} {t} {d} {w} {n} {at} {i} {next} f o lt cut room =
    omega (arith, f.long, f.place, step-long (texts s) i (omega (arith, many-texts o)), flat-most (texts s) (i + 1), ap length (text-there o lt cut))

pub text-more : {s order t d w w' : List ℕ} {n at i next next' : ℕ} → Filling d w at (texts s) i next → Sorted s order n → i < n → Cut s (get_or order i 0) t → at + length (flat (texts s)) ≤ length d → Put w w' next t next' → length w' ≡ length w → Filling d w' at (texts s) (i + 1) next'
text-more {s} {order} {t} {d} {w} {w'} {n} {at} {i} f o lt cut room g l =
    subst (λ (k : ℕ). Filling d w' at (texts s) (i + 1) k) (sym g.end) (filling_more t f (omega (arith, many-texts o)) (text-there o lt cut) (omega arith) g.is l)

pub text-all : {s order d w : List ℕ} {n at i next : ℕ} → Filling d w at (texts s) i next → Sorted s order n → n ≤ i → Writing d w at (flat (texts s))
text-all f o h = filling_all f (omega (arith, many-texts o))

-- ---- a table's words

places-more : (first n : ℕ) → places first 1 (suc n) ≡ places first 1 n ++ ((first + n) ∷ [])
unfolding places
places-more first zero = let z : first ≡ first + 0 = omega arith in ap (λ (k : ℕ). k ∷ []) z
places-more first (suc n) =
    let z : first + 1 + n ≡ first + suc n = omega arith in
    ap (λ (l : List ℕ). first ∷ l) (places-more (first + 1) n ∙ ap (λ (k : ℕ). places (first + 1) 1 n ++ (k ∷ [])) z)

map_more : (f : ℕ → ℕ) (l : List ℕ) (x : ℕ) → map f (l ++ (x ∷ [])) ≡ map f l ++ (f x ∷ [])
map_more f [] x = refl
map_more f (y ∷ l) x = ap (λ (t : List ℕ). f y ∷ t) (map_more f l x)

so_far_more : (f : ℕ → ℕ) (i : ℕ) → packed (map f (places 0 1 (i + 1))) ≡ packed (map f (places 0 1 i)) ++ packed (f i ∷ [])
so_far_more f i =
    ap (λ (n : ℕ). packed (map f (places 0 1 n))) (add-one i)
    ∙ ap (λ (l : List ℕ). packed (map f l)) (places-more 0 i)
    ∙ ap packed (map_more f (places 0 1 i) (0 + i))
    ∙ packed-append (map f (places 0 1 i)) (f (0 + i) ∷ [])
    ∙ ap (λ (n : ℕ). packed (map f (places 0 1 i)) ++ packed (f n ∷ [])) (zero-plus i)
  where
    zero-plus : (n : ℕ) → 0 + n ≡ n
    zero-plus n = omega arith

pub record Tabling (s marks : List ℕ) (k : ℕ) (d w : List ℕ) (at many i : ℕ) : Type 0 where
  pub long : length w ≡ length d
  pub low : i ≤ many
  pub fits : at + 4 * many ≤ length d
  pub count : many ≡ size s k / 4
  pub few : many ≤ 1073741824
  pub is : Writing d w at (packed (map (renamed s marks k) (places 0 1 i)))

pub tabling_none : {s d : List ℕ} {k at z : ℕ} (marks : List ℕ) → BodySize s k z → at + size s k ≤ length d → Tabling s marks k d d at (z / 4) 0
unfolding places packed
tabling_none {s} {d} {k} {at} {z} marks e room = record {
  long = refl;
  low = omega arith;
  fits = omega (arith, e.is);
  count = ap (λ (n : ℕ). n / 4) e.is;
  few = omega (arith, e.few);
  is = write-none d at;
}

pub index-few : {s marks d w : List ℕ} {k at many i : ℕ} → Tabling s marks k d w at many i → i < many → i ≤ 4294967295
index-few f lt = omega (arith, f.few)

pub tabling_more : {s marks d w w' : List ℕ} {k at many i x : ℕ} → Tabling s marks k d w at many i → i < many → x ≡ renamed s marks k i → Writing w w' (at + 4 * i) (packed (x ∷ [])) → length w' ≡ length w → Tabling s marks k d w' at many (i + 1)
tabling_more {s} {marks} {d} {w} {w'} {k} {at} {many} {i} {x} f lt e g l = record {
  long = l ∙ f.long;
  low = omega arith;
  fits = f.fits;
  count = f.count;
  few = f.few;
  is = subst (λ (y : List ℕ). Writing d w' at y) (ap (λ (n : ℕ). packed (map (renamed s marks k) (places 0 1 i)) ++ packed (n ∷ [])) e ∙ sym (so_far_more (renamed s marks k) i))
      (write-more (packed (x ∷ [])) (at + 4 * i) f.is (omega (arith, f.fits)) (omega (arith, words_long (renamed s marks k) i)) g.is);
}

pub tabling_all : {s marks d w : List ℕ} {k at many i : ℕ} → Tabling s marks k d w at many i → many ≤ i → Writing d w at (table s marks k)
unfolding table
tabling_all {s} {marks} {d} {w} {k} {at} {many} {i} f h =
    let z : i ≡ size s k / 4 = omega (arith, f.low, f.count) in
    subst (λ (n : ℕ). Writing d w at (packed (map (renamed s marks k) (places 0 1 n)))) z f.is

pub renamed-new : {w r : ℕ} {b : Bool} (s marks : List ℕ) (k i : ℕ) → b ≡ names s marks k i → b ≡ true → w ≡ body_word s k i → r ≡ number s w → r ≡ renamed s marks k i
unfolding renamed choose
renamed-new s marks k i e h f g = rw (sym e ∙ h) (g ∙ ap (number s) f)

pub renamed-kept : {w : ℕ} {b : Bool} (s marks : List ℕ) (k i : ℕ) → b ≡ names s marks k i → b ≡ false → w ≡ body_word s k i → w ≡ renamed s marks k i
unfolding renamed choose
renamed-kept s marks k i e h f = rw (sym e ∙ h) f
