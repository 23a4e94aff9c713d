-- The finished case made: its size, its mosts, and each way out
use mathlib.Core.Path.{◌≡◌, refl, sym, ◌∙◌, ap}
use mathlib.Core.Bool.{Bool, true, false, not}
use mathlib.Core.List.{List, [], ◌++◌}
use mathlib.Core.Option.{none, some}
use Prim.Native.Nat.{ℕ, ◌+◌, ◌*◌, ◌<◌, ◌≤◌}
use native.Mathlib.Omega.{arith}
use lib.Dec.{leb, eqb}
use lib.ListN.{length, take, drop, get_or}
use lib.Seq.{take_all}
use borrow.Author.Tests.{not-true, not-false, leb-true, lt-leb, le-leb}
use Rattle.meaning.specs.declared.Refusal.{Refusal}
use Rattle.meaning.specs.declared.Refusal.TheVariants.{BadContents, TooLarge, BadLimits}
use Rattle.meaning.specs.Tests.{◌and◌}
use Rattle.meaning.specs.Case.{lists, values, points, nodes, vars}
use Rattle.meaning.specs.Check.{bodies, mosts}
use Rattle.laws.specs.Tests.{both, stop, skip, yes, no}
use Rattle.laws.specs.Writing.{Writing}
use Rattle.encode.specs.Encode.{flat}
use Rattle.encode.specs.Unsorted.{texts, parts, finished}
use Rattle.encode.specs.Write.{make_refusal, room_after, over}
use Rattle.encode.proofs.Laws.Encode.{step-long}
use Rattle.encode.proofs.Laws.Unsorted.{seven, finished-long, mosts-as}
use Rattle.joining.specs.Order.{Joins, Sorted}
use Rattle.joining.specs.Laws.{listed-long}
use Rattle.finish.specs.Sizes.{Sized, TextBytes, PartSize, Fits}
use Rattle.std.specs.Prelude.{Option, Some, None, Ok, Err}
use Rattle.making.specs.Made.{FinishedSize, made_as, Makes}

-- ---- tables

pub tables-not : {b t : Bool} (x : Bool) → t ≡ b → t ≡ false → t ≡ (b and x)
tables-not {b} {t} x e h = h ∙ sym (stop x (sym e ∙ h))

pub tables-as : {t : Bool} {m l : ℕ} (s : List ℕ) (n : ℕ) → t ≡ bodies s → t ≡ true → m ≡ l → l ≡ lists s → eqb n m ≡ (bodies s and eqb n (lists s))
unfolding ◌and◌
tables-as {t} s n e h f g = rw (sym e ∙ h) (ap (eqb n) (f ∙ g))

pub told : {t : Bool} (x : Bool) → t ≡ x → not t ≡ false → x ≡ true
told {t} x e h = sym e ∙ not-false t h

pub bodies_in : (s marks : List ℕ) → (bodies s and eqb (length marks) (lists s)) ≡ true → bodies s ≡ true
bodies_in s marks h = (both _ _ h).0

pub bodies-told : {t : Bool} (s marks : List ℕ) → t ≡ (bodies s and eqb (length marks) (lists s)) → not t ≡ false → bodies s ≡ true
bodies-told {t} s marks e h = bodies_in s marks (told _ e h)

-- ---- size

pub record Summing (s marks : List ℕ) (k size : ℕ) : Type 0 where
  pub low : k ≤ 7
  pub is : size ≡ 64 + length (flat (take k (parts s marks)))
  pub few : size ≤ 64 + 70368744177664 * k

pub summing_none : {s marks : List ℕ} → Summing s marks 0 64
unfolding flat
summing_none = record { low = omega arith; is = refl; few = omega arith }

pub summing_more : {s marks : List ℕ} {k size part : ℕ} → Summing s marks k size → k < 7 → PartSize (get_or (parts s marks) k []) part → Summing s marks (k + 1) (size + part)
summing_more {s} {marks} {k} {size} {part} t lt p = record {
  low = omega arith;
  is = omega (arith, t.is, p.is, step-long (parts s marks) k (omega (arith, seven s marks)));
  few = omega (arith, t.few, p.few);
}

pub summing_all : {s marks : List ℕ} {k size : ℕ} → Summing s marks k size → 7 ≤ k → FinishedSize s marks size
summing_all {s} {marks} {k} {size} t h = record {
  is = t.is ∙ ap (λ (l : List (List ℕ)). 64 + length (flat l)) (take_all k (parts s marks) (omega (arith, seven s marks))) ∙ sym (finished-long s marks);
  few = omega (arith, t.few, t.low);
}

-- ---- mosts

pub mosts-kept : {n size : ℕ} (s marks : List ℕ) → bodies s ≡ true → n ≡ length (texts s) → FinishedSize s marks size → mosts (finished s marks) ≡ (leb size 4194304 and leb n 16384 and leb (values s) 16384 and leb (points s) 16384 and leb (nodes s) 1024 and leb (vars s) 16)
mosts-kept s marks h many z = rw (z.is, many) (mosts-as s marks h)

-- ---- the strings in order

pub sorted_of : {s order : List ℕ} {n : ℕ} {r : Option ℕ} → Joins s order (texts s) r → r ≡ Some n → Sorted s order n
sorted_of j e = let h = rw e at j in record { fits = h.is.0; is = h.is.1 }

pub sorted-few : {s order : List ℕ} {n : ℕ} {r : Option ℕ} → Joins s order (texts s) r → r ≡ Some n → length order ≡ 16384 → n ≤ 16384
sorted-few j e l = let h = rw e at j in omega (arith, h.is.0)

many-texts : {s order : List ℕ} {n : ℕ} → Sorted s order n → n ≡ length (texts s)
many-texts {s} {order} {n} o = sym (listed-long s order n o.fits) ∙ ap length o.is

pub sized_of : {s order : List ℕ} {n total : ℕ} → Sorted s order n → n ≤ 16384 → TextBytes s total → Sized s n total
sized_of o h t = record { many = many-texts o; few = h; bytes = t.is; small = t.few }

pub texts_of_lem : {s order : List ℕ} {n : ℕ} → Sorted s order n → n ≡ length (texts s)
texts_of_lem = many-texts

-- ---- ways out

module _ {s marks room : List ℕ} where
  refused : (r : Refusal) → make_refusal s marks room ≡ some r → Makes s marks room room (Err r)
  unfolding made_as room_after
  refused r e = record { is = rw e refl; holds = rw e refl }

  pub makes_none : {t : Bool} → t ≡ (bodies s and eqb (length marks) (lists s)) → not t ≡ true → Makes s marks room room (Err BadContents)
  unfolding make_refusal
  makes_none {t} e h = refused BadContents (no _ (sym e ∙ not-true t h) refl)

  module _ (h : (bodies s and eqb (length marks) (lists s)) ≡ true) where
    too_large : mosts (finished s marks) ≡ false → Makes s marks room room (Err TooLarge)
    unfolding make_refusal
    too_large e = refused TooLarge (yes _ h ∙ no _ e refl)

    pub makes-large : {t : Bool} → t ≡ mosts (finished s marks) → not t ≡ true → Makes s marks room room (Err TooLarge)
    makes-large {t} e g = too_large (sym e ∙ not-true t g)

    pub makes-many : {order : List ℕ} {r : Option ℕ} → Joins s order (texts s) r → r ≡ None → length order ≡ 16384 → Makes s marks room room (Err TooLarge)
    makes-many {order} {r} j e l =
        let k = rw e at j in
        too_large (mosts-as s marks (both _ _ h).0 ∙ skip _ (stop _ (lt-leb (length (texts s)) 16384 (omega (arith, k.is)))))

    module _ {size : ℕ} {t : Bool} (z : FinishedSize s marks size) (m : t ≡ mosts (finished s marks)) (g : not t ≡ false) where
      pub makes-short : length room < size → Makes s marks room room (Err BadLimits)
      unfolding make_refusal
      makes-short l = refused BadLimits (yes _ h ∙ yes _ (sym m ∙ not-false t g) ∙ no _ (lt-leb (length (finished s marks)) (length room) (omega (arith, z.is))) refl)

      pub makes-fits : size ≤ length room → Fits (finished s marks) room
      makes-fits l = record { most = omega (arith, leb-most); held = omega (arith, z.is) }
        where
          leb-most : length (finished s marks) ≤ 4194304
          leb-most = leb-true _ _ (both _ _ (sym (mosts-as s marks (both _ _ h).0) ∙ (sym m ∙ not-false t g))).0

      pub makes-all : {after : List ℕ} → size ≤ length room → Writing room after 0 (finished s marks) → Makes s marks room after (Ok size)
      unfolding make_refusal made_as room_after over
      makes-all {after} l w =
          let none_is : make_refusal s marks room ≡ none = yes _ h ∙ yes _ (sym m ∙ not-false t g) ∙ yes _ (le-leb (length (finished s marks)) (length room) (omega (arith, z.is))) in
          let from : 0 + length (finished s marks) ≡ length (finished s marks) = omega arith in
          record { is = rw none_is (ap Ok z.is); holds = rw none_is (w.is ∙ ap (λ (n : ℕ). finished s marks ++ drop n room) from) }
