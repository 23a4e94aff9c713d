-- Strings that rise or fall from the first on, joined: their numbers up or down
use Rattle.std.proofs.Common.{◌≡◌, ℕ, zero, suc, ◌+◌, ◌-◌, ◌<◌, ◌≤◌, Bool, true, false, not, ltb, List, [], ◌∷◌, ◌++◌, length, get_or, take, drop, set, sym, refl, ap, ◌∙◌, arith, length-set, get_or-set_other, get_or-set_same, ext_get_or, ltb-false, ltb-true}
use borrow.Author.Tests.{not-false}
use Rattle.meaning.specs.Tests.{choose}
use Rattle.meaning.specs.Text.{before}
use Rattle.meaning.specs.Case.{text, strings}
use Rattle.encode.specs.Join.{below, insert_new, joined}
use Rattle.encode.proofs.Laws.Join.{joined-rises, place-above, place-below, place_inside, insert_at}
use Rattle.joining.specs.Order.{listed, Cut}
use Rattle.joining.specs.Fresh.{New}
use Rattle.joining.specs.Run.{onward, Run, Counted, Begun}
use Rattle.joining.specs.Laws.{listed-long, listed_at, more-long, more-before, more-there, more-after}
use Rattle.joining.specs.Insert.{before-after}

-- ---- one string more

pub goes_down : {s x y : List ℕ} {k : ℕ} {d r : Bool} → d ≡ true → Cut s k x → Cut s (k + 1) y → r ≡ before y x → r ≡ onward s d k
unfolding onward choose
goes_down e a b h = rw (e, sym a.is, sym b.is) h

pub goes-up : {s x y : List ℕ} {k : ℕ} {d r : Bool} → d ≡ false → Cut s k x → Cut s (k + 1) y → r ≡ before x y → r ≡ onward s d k
unfolding onward choose
goes-up e a b h = rw (e, sym a.is, sym b.is) h

pub run-one : {s : List ℕ} {many : ℕ} {down : Bool} → 0 < many → Run s many down 1
run-one h = record { some = omega arith; few = omega arith; on = λ k l. absurd (omega arith) }

pub run_more : {s : List ℕ} {many k : ℕ} {down r : Bool} → Run s many down k → k < many → r ≡ onward s down (k - 1) → not r ≡ false → Run s many down (k + 1)
run_more {s} {many} {k} {down} {r} run h e t = record { some = omega arith; few = omega arith; on = λ i l. go i l (ltb (i + 1) k) refl }
  where
    go : (i : ℕ) → i + 1 < k + 1 → (b : Bool) → ltb (i + 1) k ≡ b → onward s down i ≡ true
    go i l true f = run.on i (ltb-true (i + 1) k f)
    go i l false f = let z : i ≡ k - 1 = omega (arith, ltb-false (i + 1) k f, run.some) in rw z (sym e ∙ not-false r t)

-- ---- all of them, joined

record Shape (s : List ℕ) (down : Bool) (i : ℕ) : Type 0 where
  long : length (joined (text s) i) ≡ i
  is : (k : ℕ) → k < i → get_or (joined (text s) i) k [] ≡ text s (choose down (i - 1 - k) k)

module _ (s : List ℕ) (i : ℕ) where
  abbrev l : List (List ℕ)
  l = joined (text s) i

  -- it goes to the front, or to the end
  shape_at : (down : Bool) → Shape s down i → (0 < i → onward s down (i - 1) ≡ true) → (below (text s i) l ≡ choose down 0 i) × New (text s i) l
  unfolding onward choose
  shape_at down h on = go down h on (ltb 0 i) refl
    where
      back : 0 < i → i - 1 + 1 ≡ i
      back h = omega arith

      go : (down : Bool) → Shape s down i → (0 < i → onward s down (i - 1) ≡ true) → (b : Bool) → ltb 0 i ≡ b → (below (text s i) l ≡ choose down 0 i) × New (text s i) l
      go true h on true e =
          let some : 0 < i = ltb-true 0 i e in
          let z : i - 1 - 0 ≡ i - 1 = omega arith in
          let t : before (text s i) (get_or l 0 []) ≡ true = rw (back some, sym (h.is 0 some ∙ ap (text s) z)) at (on some) in
          let p : below (text s i) l ≡ 0 = omega (arith, place-below (text s i) l 0 (omega (arith, h.long)) (before-after (text s i) (get_or l 0 []) t)) in
          (p, λ lt. rw p t)
      go false h on true e =
          let some : 0 < i = ltb-true 0 i e in
          let t : before (get_or l (i - 1) []) (text s i) ≡ true = rw (back some, sym (h.is (i - 1) (omega arith))) at (on some) in
          let p : below (text s i) l ≡ i = omega (arith, place-above (text s i) l (i - 1) (joined-rises (text s) i) (omega (arith, h.long)) t, place_inside (text s i) l, h.long) in
          (p, λ lt. absurd (omega (arith, h.long)))
      go true h on false e = let q : below (text s i) l ≡ 0 = omega (arith, place_inside (text s i) l, h.long, ltb-false 0 i e) in (q, λ lt. absurd (omega (arith, h.long, ltb-false 0 i e)))
      go false h on false e = let q : below (text s i) l ≡ i = omega (arith, place_inside (text s i) l, h.long, ltb-false 0 i e) in (q, λ lt. absurd (omega (arith, h.long, ltb-false 0 i e)))

  shape-more : (down : Bool) → Shape s down i → (0 < i → onward s down (i - 1) ≡ true) → Shape s down (suc i)
  unfolding joined choose
  shape-more down h on = record { long = ap length put ∙ more-long l x [] p inside ∙ ap suc h.long; is = λ k lt. go down h refl k lt (ltb k p) refl (ltb p k) refl }
    where
      x : List ℕ
      x = text s i

      p : ℕ
      p = choose down 0 i

      put : insert_new x l ≡ take p l ++ (x ∷ drop p l)
      put = insert_at x l (shape_at down h on).1 ∙ ap (λ (q : ℕ). take q l ++ (x ∷ drop q l)) (shape_at down h on).0

      inside : p ≤ length l
      inside = omega (arith, (shape_at down h on).0, place_inside x l)

      go : (d : Bool) → Shape s d i → d ≡ down → (k : ℕ) → k < suc i → (a : Bool) → ltb k p ≡ a → (b : Bool) → ltb p k ≡ b → get_or (insert_new x l) k [] ≡ text s (choose d (suc i - 1 - k) k)
      go true h e k lt true f b g = absurd (omega (arith, ltb-true k p f, ap (λ (t : Bool). choose t 0 i) e))
      go true h e k lt false f true g =
          let t : p < k = ltb-true p k g in
          let z : p ≡ 0 = sym (ap (λ (t : Bool). choose t 0 i) e) in
          let q : k ≡ suc (k - 1) = omega arith in
          let w : i - 1 - (k - 1) ≡ suc i - 1 - k = omega arith in
          ap (λ (y : List (List ℕ)). get_or y k []) put
          ∙ ap (λ (t : ℕ). get_or (take p l ++ (x ∷ drop p l)) t []) q
          ∙ more-after l x [] p inside (k - 1) (omega arith)
          ∙ h.is (k - 1) (omega arith)
          ∙ ap (text s) w
      go true h e k lt false f false g =
          let z : p ≡ 0 = sym (ap (λ (t : Bool). choose t 0 i) e) in
          let q : k ≡ p = omega (arith, ltb-false k p f, ltb-false p k g) in
          let w : i ≡ suc i - 1 - k = omega arith in
          ap (λ (y : List (List ℕ)). get_or y k []) put
          ∙ ap (λ (t : ℕ). get_or (take p l ++ (x ∷ drop p l)) t []) q
          ∙ more-there l x [] p inside
          ∙ ap (text s) w
      go false h e k lt true f b g =
          let z : p ≡ i = sym (ap (λ (t : Bool). choose t 0 i) e) in
          let t : k < p = ltb-true k p f in
          ap (λ (y : List (List ℕ)). get_or y k []) put
          ∙ more-before l x [] p inside k t
          ∙ h.is k (omega arith)
      go false h e k lt false f b g =
          let z : p ≡ i = sym (ap (λ (t : Bool). choose t 0 i) e) in
          let q : k ≡ p = omega (arith, ltb-false k p f) in
          let w : i ≡ k = omega arith in
          ap (λ (y : List (List ℕ)). get_or y k []) put
          ∙ ap (λ (t : ℕ). get_or (take p l ++ (x ∷ drop p l)) t []) q
          ∙ more-there l x [] p inside
          ∙ ap (text s) w

shapes : (s : List ℕ) (down : Bool) (i : ℕ) → ((k : ℕ) → k + 1 < i → onward s down k ≡ true) → Shape s down i
shapes s down zero on = record { long = unfold joined in refl; is = λ k h. absurd (omega arith) }
shapes s down (suc i) on = shape-more s i down (shapes s down i (λ k h. on k (omega arith))) (λ h. on (i - 1) (omega arith))

-- ---- their numbers, written

pub nth_down : {down : Bool} (a b : ℕ) → down ≡ true → a ≡ choose down a b
unfolding choose
nth_down a b e = rw e

pub nth_up : {down : Bool} (a b : ℕ) → down ≡ false → b ≡ choose down a b
unfolding choose
nth_up a b e = rw e

pub record Counting (down : Bool) (n i : ℕ) (before order : List ℕ) : Type 0 where
  pub long : length order ≡ length before
  pub is : Counted down n i order

pub counting_none : {down : Bool} {n : ℕ} {order : List ℕ} → n ≤ length order → Counting down n 0 order order
counting_none h = record { long = refl; is = record { low = omega arith; fits = h; is = λ k l. absurd (omega arith) } }

pub counting_more : {down : Bool} {n i v w : ℕ} {before order : List ℕ} → Counting down n i before order → i < n → v ≡ choose down (n - 1 - i) i → w ≡ i → Counting down n (i + 1) before (set order w v)
counting_more {down} {n} {i} {v} {w} {before} {order} g h e z = record {
  long = length-set order w v ∙ g.long;
  is = record {
    low = omega arith;
    fits = omega (arith, length-set order w v, g.is.fits);
    is = λ k l. go k l (ltb k i) refl;
  };
}
  where
    go : (k : ℕ) → k < i + 1 → (b : Bool) → ltb k i ≡ b → get_or (set order w v) k 0 ≡ choose down (n - 1 - k) k
    go k l true f = get_or-set_other order w k v 0 (λ q. absurd (omega (arith, ltb-true k i f))) ∙ g.is.is k (ltb-true k i f)
    go k l false f =
        let q : k ≡ w = omega (arith, ltb-false k i f) in
        let t : i ≡ k = omega arith in
        ap (λ (j : ℕ). get_or (set order w v) j 0) q
        ∙ get_or-set_same order w v 0 (omega (arith, g.is.fits))
        ∙ e
        ∙ ap (λ (j : ℕ). choose down (n - 1 - j) j) t

pub counting_all : {down : Bool} {n i : ℕ} {before order : List ℕ} → Counting down n i before order → n ≤ i → Counted down n n order
counting_all {down} {n} {i} g h = let q : i ≡ n = omega (arith, g.is.low) in rw q at g.is

pub begun-none : {s order : List ℕ} → Begun s order 0
unfolding listed joined
begun-none = record { few = omega arith; upto = record { fits = omega arith; is = refl } }

pub begun-run : {s order : List ℕ} {many n : ℕ} {down : Bool} → many ≡ strings s → Run s many down n → Counted down n n order → Begun s order n
begun-run {s} {order} {many} {n} {down} e run c = record {
  few = omega (arith, run.few);
  upto = record {
    fits = c.fits;
    is = ext_get_or [] (listed s order n) (joined (text s) n) (omega (arith, long, shape.long)) (λ i h. each i (omega (arith, long)));
  };
}
  where
    long : length (listed s order n) ≡ n
    long = listed-long s order n c.fits

    shape : Shape s down n
    shape = shapes s down n run.on

    each : (i : ℕ) → i < n → get_or (listed s order n) i [] ≡ get_or (joined (text s) n) i []
    each i h = listed_at s order n i c.fits h ∙ ap (text s) (c.is i h) ∙ sym (shape.is i h)
