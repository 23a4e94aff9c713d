-- Cells written from a place on: one after another, apart from one another, and inside a part of a longer list
use Rattle.std.specs.Prelude.{◌≡◌, refl, List, [], ◌∷◌, ◌++◌, ℕ, ◌+◌, ◌-◌, ◌≤◌, length, take, drop}
use Rattle.std.proofs.Common.{sym, ap, ap₂, ◌∙◌, append_assoc, append-nil, arith, length-append, length-drop, take-append-drop, take_at, drop_at, length-take-le}
use Rattle.std.proofs.Math.Seq.{drop-append-add}
use Rattle.laws.specs.Writing.{Writing, write-none}

unfoldable pub write : List ℕ → ℕ → List ℕ → List ℕ
write d at new = (take at d ++ new) ++ drop (at + length new) d

pub writing : {d w : List ℕ} {at : ℕ} {new : List ℕ} → Writing d w at new → w ≡ write d at new
unfolding write
writing f = f.is

pub write-nothing : (d : List ℕ) (at : ℕ) → write d at [] ≡ d
unfolding write
write-nothing d at = sym (write-none d at).is

-- so many cells of a list, from a place on, with what stands before and after them
pub record Split (d : List ℕ) (at many : ℕ) : Type 0 where
  pub low : List ℕ
  pub cells : List ℕ
  pub high : List ℕ
  pub is : d ≡ low ++ (cells ++ high)
  pub place : length low ≡ at
  pub long : length cells ≡ many

pub split : (d : List ℕ) (at many : ℕ) → at + many ≤ length d → Split d at many
split d at many h = record {
  low = take at d;
  cells = take many (drop at d);
  high = drop many (drop at d);
  is = sym (ap (λ (l : List ℕ). take at d ++ l) (take-append-drop many (drop at d)) ∙ take-append-drop at d);
  place = length-take-le at d (omega arith);
  long = length-take-le many (drop at d) (omega (arith, length-drop at d));
}

pub write-at : {d : List ℕ} {at : ℕ} (new : List ℕ) (s : Split d at (length new)) → write d at new ≡ s.low ++ (new ++ s.high)
unfolding write
write-at {d} {at} new s =
    ap (λ (x : List ℕ). (take at x ++ new) ++ drop (at + length new) x) s.is
    ∙ ap₂ (λ (x y : List ℕ). (x ++ new) ++ y) (take_at s.low (s.cells ++ s.high) at s.place) after
    ∙ append_assoc s.low new s.high
  where
    after : drop (at + length new) (s.low ++ (s.cells ++ s.high)) ≡ s.high
    after =
        ap (λ (n : ℕ). drop (n + length new) (s.low ++ (s.cells ++ s.high))) (sym s.place)
        ∙ drop-append-add s.low (s.cells ++ s.high) (length new)
        ∙ drop_at s.cells s.high (length new) s.long

-- of a list in five parts
module _ {d : List ℕ} (a o c p e : List ℕ) (is : d ≡ a ++ (o ++ (c ++ (p ++ e)))) where
  abbrev lower : {at many : ℕ} → length a ≡ at → length o ≡ many → Split d at many
  lower q l = record { low = a; cells = o; high = c ++ (p ++ e); is = is; place = q; long = l }

  abbrev upper : {at many : ℕ} → length a + (length o + length c) ≡ at → length p ≡ many → Split d at many
  upper q l = record {
    low = a ++ (o ++ c);
    cells = p;
    high = e;
    is = is ∙ sym (five-parts a o c (p ++ e));
    place = omega (arith, length-append a (o ++ c), length-append o c);
    long = l;
  }
    where
      five-parts : (a o c e : List ℕ) → (a ++ (o ++ c)) ++ e ≡ a ++ (o ++ (c ++ e))
      five-parts a o c e = simp append_assoc

pub record Five (d : List ℕ) (i x j y : ℕ) : Type 0 where
  pub a : List ℕ
  pub o : List ℕ
  pub c : List ℕ
  pub p : List ℕ
  pub e : List ℕ
  pub is : d ≡ a ++ (o ++ (c ++ (p ++ e)))
  pub low : length a ≡ i
  pub one : length o ≡ x
  pub high : length a + (length o + length c) ≡ j
  pub two : length p ≡ y

pub five : (d : List ℕ) (i x j y : ℕ) → i + x ≤ j → j + y ≤ length d → Five d i x j y
five d i x j y h k =
    let s = split d i x (omega arith) in
    let l : length s.high + (i + x) ≡ length d = omega (arith, ap length s.is, length-append s.low (s.cells ++ s.high), length-append s.cells s.high, s.place, s.long) in
    let u = split s.high (j - (i + x)) y (omega arith) in
    record {
      a = s.low;
      o = s.cells;
      c = u.low;
      p = u.cells;
      e = u.high;
      is = s.is ∙ ap (λ (l : List ℕ). s.low ++ (s.cells ++ l)) u.is;
      low = s.place;
      one = s.long;
      high = omega (arith, s.place, s.long, u.place);
      two = u.long;
    }

pub write-long : (d : List ℕ) (at : ℕ) (new : List ℕ) → at + length new ≤ length d → length (write d at new) ≡ length d
write-long d at new h =
    let s = split d at (length new) h in
    omega (arith, ap length (write-at new s), length-append s.low (new ++ s.high), length-append new s.high, ap length s.is, length-append s.low (s.cells ++ s.high), length-append s.cells s.high, s.long)

-- straight after what was written
pub write_then : (d : List ℕ) (at to : ℕ) (new more : List ℕ) → at + (length new + length more) ≤ length d → to ≡ at + length new → write (write d at new) to more ≡ write d at (new ++ more)
write_then d at to new more h e =
    write-at more (upper f.a new f.c f.p f.e once (omega (arith, f.low, f.one, f.high)) f.two)
    ∙ same
    ∙ sym (write-at (new ++ more) (record { low = f.a; cells = f.o ++ (f.c ++ f.p); high = f.e; is = f.is ∙ regroup f.a f.o f.c f.p f.e; place = f.low; long = omega (arith, length-append f.o (f.c ++ f.p), length-append f.c f.p, length-append new more, f.low, f.one, f.high, f.two) }))
  where
    f : Five d at (length new) to (length more)
    f = five d at (length new) to (length more) (omega arith) (omega arith)

    once : write d at new ≡ f.a ++ (new ++ (f.c ++ (f.p ++ f.e)))
    once = write-at new (lower f.a f.o f.c f.p f.e f.is f.low f.one)

    regroup : (a o c p e : List ℕ) → a ++ (o ++ (c ++ (p ++ e))) ≡ a ++ ((o ++ (c ++ p)) ++ e)
    regroup a o c p e = simp append_assoc

    none : (l : List ℕ) → length l ≡ 0 → l ≡ []
    none [] z = refl
    none (x ∷ l) z = absurd (omega arith)

    nothing-between : f.c ≡ []
    nothing-between = none f.c (omega (arith, f.low, f.one, f.high))

    close : (a n m e : List ℕ) → (a ++ (n ++ [])) ++ (m ++ e) ≡ a ++ ((n ++ m) ++ e)
    close a n m e = simp (append_assoc, append-nil)

    same : (f.a ++ (new ++ f.c)) ++ (more ++ f.e) ≡ f.a ++ ((new ++ more) ++ f.e)
    same = ap (λ (l : List ℕ). (f.a ++ (new ++ l)) ++ (more ++ f.e)) nothing-between ∙ close f.a new more f.e

-- two writes that do not meet may change places
pub write-swap : (d : List ℕ) (i j : ℕ) (x y : List ℕ) → i + length x ≤ j → j + length y ≤ length d → write (write d j y) i x ≡ write (write d i x) j y
write-swap d i j x y h k =
    write-at x (lower f.a f.o f.c y f.e above f.low f.one)
    ∙ regroup f.a x f.c (y ++ f.e)
    ∙ sym (write-at y (upper f.a x f.c f.p f.e below (omega (arith, f.one, f.high)) f.two))
  where
    f : Five d i (length x) j (length y)
    f = five d i (length x) j (length y) h k

    regroup : (a o c e : List ℕ) → a ++ (o ++ (c ++ e)) ≡ (a ++ (o ++ c)) ++ e
    regroup a o c e = simp append_assoc

    above : write d j y ≡ f.a ++ (f.o ++ (f.c ++ (y ++ f.e)))
    above = write-at y (upper f.a f.o f.c f.p f.e f.is f.high f.two) ∙ sym (regroup f.a f.o f.c (y ++ f.e))

    below : write d i x ≡ f.a ++ (x ++ (f.c ++ (f.p ++ f.e)))
    below = write-at x (lower f.a f.o f.c f.p f.e f.is f.low f.one)

-- what is written inside a part
pub write-inside : {d : List ℕ} {place : ℕ} (before part after : List ℕ) (i : ℕ) (new : List ℕ) → d ≡ before ++ (part ++ after) → length before ≡ place → i + length new ≤ length part → write d (place + i) new ≡ before ++ (write part i new ++ after)
write-inside {d} {place} before part after i new e p h =
    write-at new (record { low = before ++ s.low; cells = s.cells; high = s.high ++ after; is = e ∙ ap (λ (l : List ℕ). before ++ (l ++ after)) s.is ∙ regroup before s.low s.cells s.high after; place = omega (arith, length-append before s.low, s.place); long = s.long })
    ∙ sym (ap (λ (l : List ℕ). before ++ (l ++ after)) (write-at new s) ∙ regroup before s.low new s.high after)
  where
    s : Split part i (length new)
    s = split part i (length new) h

    regroup : (b l c h a : List ℕ) → b ++ ((l ++ (c ++ h)) ++ a) ≡ (b ++ l) ++ (c ++ (h ++ a))
    regroup b l c h a = simp append_assoc
