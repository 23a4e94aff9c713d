-- Sorting, turn by turn: the search by halves, one string joined, all of them, and a new number
use Rattle.std.proofs.Common.{◌≡◌, ℕ, suc, ◌+◌, ◌-◌, ◌/◌, ◌<◌, ◌≤◌, Bool, true, false, not, ltb, List, [], ◌∷◌, ◌++◌, length, get_or, take, drop, set, sym, refl, ap, ◌∙◌, subst, add-one, arith, length-drop, length-set, drop_of_length-le, take_all, drop-cons, get_or-set_other, get_or-set_same, ext_get_or, ltb-false, ltb-true, le-ltb, lt-ltb}
use borrow.Author.Tests.{not-true, not-false}
use Rattle.meaning.specs.Tests.{◌and◌, choose}
use Rattle.meaning.specs.Text.{before}
use Rattle.meaning.specs.Case.{text, strings}
use Rattle.laws.specs.Lists.{Every}
use Rattle.encode.specs.Join.{below, insert_new, joined}
use Rattle.encode.specs.Unsorted.{number, texts}
use Rattle.encode.proofs.Laws.Join.{Rising, every-at, insert_every, insert_rises, joined-rises, joined-long, joined-most, place-above, place-below, place_inside, insert_there, insert_at}
use Rattle.joining.specs.Order.{Cut, Place, Stands, listed, InOrder, Joins, Sorted, Moved, Put}
use Rattle.std.specs.Prelude.{Option, Some, None}
use Rattle.joining.specs.Fresh.{insert_all, New, Fresh, together, Floor, Roof, Beside, Keeps, Reaches, Ready, Merged, Upto}
use Rattle.joining.specs.Run.{Begun}
use Rattle.joining.specs.Laws.{listed-long, listed_at, listed-part, listed_more, more-long, more-before, more-there, more-after}
use Rattle.joining.specs.Insert.{all-below, all_more, all-at, all-long, below_less, rising-drop, rising-take, rising-at, every_drop, place-before, place-part}

-- ---- the search: the place of x lies from low to high

pub half-under : {low high : ℕ} → low < high → low + (high - low) / 2 < high
half-under h = omega arith

pub record Between (s order : List ℕ) (n : ℕ) (x : List ℕ) (low high : ℕ) : Type 0 where
  pub least : low ≤ below x (listed s order n)
  pub most : below x (listed s order n) ≤ high
  pub inside : high ≤ n

module _ {s order : List ℕ} {n : ℕ} (o : InOrder s order n) where
  many : length (listed s order n) ≡ n
  many = listed-long s order n o.fits

  pub between-all : {x : List ℕ} → Between s order n x 0 n
  between-all {x} = record {
    least = omega arith;
    most = omega (arith, place_inside x (listed s order n), many);
    inside = omega arith;
  }

  module _ {x t : List ℕ} {low high middle : ℕ} {r : Bool} (b : Between s order n x low high) (under : middle < high) (is : Cut s (get_or order middle 0) t) (said : r ≡ before t x) where
    asked : before (get_or (listed s order n) middle []) x ≡ r
    asked = ap (λ (y : List ℕ). before y x) (listed_at s order n middle o.fits (omega (arith, b.inside)) ∙ sym is.is) ∙ sym said

    pub between-up : r ≡ true → Between s order n x (middle + 1) high
    between-up e = record {
      least = omega (arith, place-above x (listed s order n) middle o.rises (omega (arith, many, b.inside)) (asked ∙ e));
      most = b.most;
      inside = b.inside;
    }

    pub between-down : r ≡ false → Between s order n x low middle
    between-down e = record {
      least = b.least;
      most = place-below x (listed s order n) middle (omega (arith, many, b.inside)) (asked ∙ e);
      inside = omega (arith, b.inside);
    }

pub between-one : {s order : List ℕ} {n : ℕ} {x : List ℕ} {low high : ℕ} → Between s order n x low high → high ≤ low → Place x (listed s order n) n low
between-one b h = record { is = omega (arith, b.least, b.most); inside = omega (arith, b.least, b.most, b.inside) }

-- ---- what stands at a place

pub stands-not : {x : List ℕ} {l : List (List ℕ)} {n p : ℕ} → n ≤ p → Stands x l n p false
unfolding ◌and◌
stands-not {x} {l} {n} {p} h = record { is = rw (le-ltb p n h) refl }

pub stands-as : {s order x t : List ℕ} {n p : ℕ} {r : Bool} → InOrder s order n → p < n → Cut s (get_or order p 0) t → r ≡ before x t → Stands x (listed s order n) n p (not r)
unfolding ◌and◌
stands-as {s} {order} {x} {t} {n} {p} {r} o lt is said = record {
  is = rw (lt-ltb p n lt, said, is.is, sym (listed_at s order n p o.fits lt)) refl;
}

-- ---- one string among texts in order

module _ {s order x : List ℕ} {n k p : ℕ} {r : Bool} (o : InOrder s order n) (is : Cut s k x) (at : Place x (listed s order n) n p) (said : Stands x (listed s order n) n p r) where
  lots : length (listed s order n) ≡ n
  lots = listed-long s order n o.fits

  there : r ≡ true → insert_new (text s k) (listed s order n) ≡ listed s order n
  unfolding ◌and◌
  there e = go (ltb p n) refl (sym said.is ∙ e)
    where
      go : (b : Bool) → ltb p n ≡ b → (b and not (before x (get_or (listed s order n) p []))) ≡ true → insert_new (text s k) (listed s order n) ≡ listed s order n
      go true q h =
          let l : below x (listed s order n) < length (listed s order n) = omega (arith, ltb-true p n q, at.is, lots) in
          let f : before x (get_or (listed s order n) (below x (listed s order n)) []) ≡ false = ap (λ (i : ℕ). before x (get_or (listed s order n) i [])) (sym at.is) ∙ not-true _ h in
          ap (λ (y : List ℕ). insert_new y (listed s order n)) (sym is.is) ∙ insert_there x (listed s order n) l f
      go false q h = cc

  next : r ≡ false → p < n → before x (get_or (listed s order n) p []) ≡ true
  unfolding ◌and◌
  next e lt = not-false _ (rw (lt-ltb p n lt) at (sym said.is ∙ e))

  new : r ≡ false → New x (listed s order n)
  new e lt = ap (λ (i : ℕ). before x (get_or (listed s order n) i [])) (sym at.is) ∙ next e (omega (arith, at.is, lots))

  pub put : r ≡ false → insert_new (text s k) (listed s order n) ≡ take p (listed s order n) ++ (text s k ∷ drop p (listed s order n))
  put e =
      ap (λ (y : List ℕ). insert_new y (listed s order n)) (sym is.is)
      ∙ insert_at x (listed s order n) (new e)
      ∙ ap (λ (i : ℕ). take i (listed s order n) ++ (x ∷ drop i (listed s order n))) (sym at.is)
      ∙ ap (λ (y : List ℕ). take p (listed s order n) ++ (y ∷ drop p (listed s order n))) is.is

  put-long : r ≡ false → length (insert_new (text s k) (listed s order n)) ≡ n + 1
  put-long e = omega (arith, ap length (put e), more-long (listed s order n) (text s k) [] p (omega (arith, at.inside, lots)), lots)

-- ---- one string beside fresh ones

module _ {s order fresh places x : List ℕ} {n m k q : ℕ} {r : Bool} (f : Fresh s order n fresh places m) (is : Cut s k x) (at : Place x (listed s fresh m) m q) (said : Stands x (listed s fresh m) m q r) where
  pub keeps-fresh : r ≡ true → Keeps s order n fresh places (insert_new (text s k) (together s order n fresh m)) (Some m)
  keeps-fresh e = record {
    is = (f, ap (λ (l : List (List ℕ)). insert_all l (listed s order n)) (sym (there f.rises is at said e)) ∙ all_more (text s k) (listed s fresh m) (listed s order n));
  }

  pub beside : r ≡ false → Beside s order n places m q x
  beside e = record {
    under = λ i z.
        let h : before (text s (get_or fresh i 0)) x ≡ true = ap (λ (y : List ℕ). before y x) (sym (fresh_at i (omega (arith, at.inside)))) ∙ place-before x (listed s fresh m) i (omega (arith, at.is)) in
        omega (arith, f.placed i (omega (arith, at.inside)), below_less (text s (get_or fresh i 0)) x (listed s order n) h);
    over = λ l.
        let h : before x (text s (get_or fresh q 0)) ≡ true = ap (before x) (sym (fresh_at q l)) ∙ next f.rises is at said e l in
        omega (arith, f.placed q l, below_less x (text s (get_or fresh q 0)) (listed s order n) h);
    inside = λ l. omega (arith, f.placed q l, place_inside (text s (get_or fresh q 0)) (listed s order n), listed-long s order n f.sorted.fits);
  }
    where
      fresh_at : (i : ℕ) → i < m → get_or (listed s fresh m) i [] ≡ text s (get_or fresh i 0)
      fresh_at i l = listed_at s fresh m i f.rises.fits l

  module _ {p : ℕ} {w : Bool} (e : r ≡ false) (here : Place x (listed s order n) n p) (told : Stands x (listed s order n) n p w) where
    pub keeps-ordered : w ≡ true → Keeps s order n fresh places (insert_new (text s k) (together s order n fresh m)) (Some m)
    keeps-ordered g = record {
      is = (f, sym (all-below (text s k) (listed s fresh m) (listed s order n) ∙ ap (insert_all (listed s fresh m)) (there f.sorted is here told g)));
    }

    more-rises : Rising (insert_new (text s k) (listed s fresh m))
    more-rises = insert_rises (text s k) (listed s fresh m) f.rises.rises

    more-new : w ≡ false → Every (λ y. New y (listed s order n)) (insert_new (text s k) (listed s fresh m))
    more-new g = insert_every (λ y. New y (listed s order n)) (text s k) (listed s fresh m) (subst (λ (y : List ℕ). New y (listed s order n)) is.is (new f.sorted is here told g)) f.new

    pub keeps-none : w ≡ false → length order ≤ n + m → Keeps s order n fresh places (insert_new (text s k) (together s order n fresh m)) None
    keeps-none g h = record {
      is = omega (
        arith,
        ap length (all_more (text s k) (listed s fresh m) (listed s order n)),
        all-long (insert_new (text s k) (listed s fresh m)) (listed s order n) more-rises (more-new g),
        put-long f.rises is at said e,
        listed-long s order n f.sorted.fits,
      );
    }

    pub keeps-more : {fresh1 places1 : List ℕ} {v : ℕ} → w ≡ false → n + m < length order → m < length fresh → Put q m k fresh fresh1 → Put q m v places places1 → v ≡ p → Keeps s order n fresh1 places1 (insert_new (text s k) (together s order n fresh m)) (Some (m + 1))
    keeps-more {fresh1} {places1} {v} g h room mf mp vp = record {
      is = (
        record {
          sorted = f.sorted;
          rises = record { fits = omega (arith, mf.long); rises = subst Rising (sym same) more-rises };
          long = mp.long ∙ f.long ∙ sym mf.long;
          room = omega arith;
          new = subst (Every (λ y. New y (listed s order n))) (sym same) (more-new g);
          placed = λ i l. each i l (ltb i q) refl (ltb q i) refl;
        },
        ap (λ (l : List (List ℕ)). insert_all l (listed s order n)) same ∙ all_more (text s k) (listed s fresh m) (listed s order n),
      );
    }
      where
        same : listed s fresh1 (m + 1) ≡ insert_new (text s k) (listed s fresh m)
        same = listed_more s fresh fresh1 q m k mf room at.inside ∙ sym (put f.rises is at said e)

        goes : (i j : ℕ) → j < m → get_or places1 i 0 ≡ get_or places j 0 → get_or fresh1 i 0 ≡ get_or fresh j 0 → get_or places1 i 0 ≡ below (text s (get_or fresh1 i 0)) (listed s order n)
        goes i j l a b = a ∙ f.placed j l ∙ ap (λ (t : ℕ). below (text s t) (listed s order n)) (sym b)

        each : (i : ℕ) → i < m + 1 → (a : Bool) → ltb i q ≡ a → (b : Bool) → ltb q i ≡ b → get_or places1 i 0 ≡ below (text s (get_or fresh1 i 0)) (listed s order n)
        each i l true c b d =
            let lt : i < q = ltb-true i q c in
            goes i i (omega (arith, at.inside)) (mp.lower i lt) (mf.lower i lt)
        each i l false c true d =
            let lt : q < i = ltb-true q i d in
            let z : i ≡ i - 1 + 1 = omega arith in
            goes i (i - 1) (omega arith)
            (ap (λ (t : ℕ). get_or places1 t 0) z ∙ mp.upper (i - 1) (omega arith) (omega arith))
            (ap (λ (t : ℕ). get_or fresh1 t 0) z ∙ mf.upper (i - 1) (omega arith) (omega arith))
        each i l false c false d =
            let z : i ≡ q = omega (arith, ltb-false i q c, ltb-false q i d) in
            rw z (
            mp.here
            ∙ vp
            ∙ here.is
            ∙ ap (λ (y : List ℕ). below y (listed s order n)) is.is
            ∙ ap (λ (t : ℕ). below (text s t) (listed s order n)) (sym mf.here))

pub place-few : {x : List ℕ} {l : List (List ℕ)} {n p : ℕ} → Place x l n p → n ≤ 4294967295 → p ≤ 4294967295
place-few at h = omega (arith, at.inside)

pub places-room : {s order fresh places : List ℕ} {n m : ℕ} → Fresh s order n fresh places m → m < length fresh → m < length places
places-room f h = omega (arith, f.long)

-- the search in a part of the order
pub bounded : {s order places x : List ℕ} {n m q low high : ℕ} → InOrder s order n → Beside s order n places m q x → Floor places q low → Roof places m n q high → Between s order n x low high
bounded {s} {order} {places} {x} {n} {m} {q} {low} {high} o b floor roof = record {
  least = least-is (ltb 0 q) refl;
  most = (most-is (ltb q m) refl).0;
  inside = (most-is (ltb q m) refl).1;
}
  where
    least-is : (t : Bool) → ltb 0 q ≡ t → low ≤ below x (listed s order n)
    least-is true e =
        let l : 0 < q = ltb-true 0 q e in
        omega (arith, floor.some (q - 1) (omega arith), b.under (q - 1) (omega arith))
    least-is false e = omega (arith, floor.none (omega (arith, ltb-false 0 q e)))

    most-is : (t : Bool) → ltb q m ≡ t → (below x (listed s order n) ≤ high) × (high ≤ n)
    most-is true e =
        let l : q < m = ltb-true q m e in
        (omega (arith, roof.some l, b.over l), omega (arith, roof.some l, b.inside l))
    most-is false e =
        let w = roof.none (ltb-false q m e) in
        (omega (arith, place_inside x (listed s order n), listed-long s order n o.fits), omega arith)

pub low-high : {s order x : List ℕ} {n low high : ℕ} → Between s order n x low high → low ≤ high
low-high b = omega (arith, b.least, b.most)

pub low-inside : {s order x : List ℕ} {n low high : ℕ} → InOrder s order n → Between s order n x low high → low ≤ length order
low-inside o b = omega (arith, b.least, b.most, b.inside, o.fits)

whole_part : (order : List ℕ) (low : ℕ) → take (length order - low) (drop low order) ≡ drop low order
whole_part order low = take_all (length order - low) (drop low order) (omega (arith, length-drop low order))

pub part-rises : {s order x : List ℕ} {n low high : ℕ} → InOrder s order n → Between s order n x low high → InOrder s (take (length order - low) (drop low order)) (high - low)
part-rises {s} {order} {x} {n} {low} {high} o b = rw (whole_part order low) (record {
  fits = omega (arith, length-drop low order, o.fits, b.inside, b.least, b.most);
  rises = subst Rising (sym (listed-part s order n low (high - low) o.fits (omega (arith, b.inside, b.least, b.most)))) (rising-take (drop low (listed s order n)) (high - low) (rising-drop (listed s order n) low o.rises));
})

pub part-place : {s order x : List ℕ} {n low high t : ℕ} → InOrder s order n → Between s order n x low high → Place x (listed s (take (length order - low) (drop low order)) (high - low)) (high - low) t → Place x (listed s order n) n (low + t)
part-place {s} {order} {x} {n} {low} {high} {t} o b at =
    let w : low + (high - low) ≡ high = omega (arith, b.least, b.most) in
    let e : t ≡ below x (take (high - low) (drop low (listed s order n))) =
    at.is
    ∙ ap (λ (l : List ℕ). below x (listed s l (high - low))) (whole_part order low)
    ∙ ap (below x) (listed-part s order n low (high - low) o.fits (omega (arith, b.inside))) in
    record {
      is = omega (arith, e, place-part x (listed s order n) low (high - low) o.rises (omega (arith, listed-long s order n o.fits, b.inside)) b.least (omega (arith, b.most)));
      inside = omega (arith, at.inside, b.inside);
    }

pub floor_some : {places : List ℕ} {q r : ℕ} → (q ≡ 0 → ⊥) → r ≡ get_or places (q - 1) 0 → Floor places q r
floor_some {places} {q} {r} d e = record {
  none = λ z. absurd (d z);
  some = λ i z. let w : q - 1 ≡ i = omega arith in e ∙ ap (λ (t : ℕ). get_or places t 0) w;
}

-- ---- strings until the fresh ones are as many as fit

upto-rises : {s order : List ℕ} {n k : ℕ} → Upto s order n k → InOrder s order n
upto-rises {s} {order} {n} {k} u = record { fits = u.fits; rises = subst Rising (sym u.is) (joined-rises (text s) k) }

pub record Filling (s order : List ℕ) (n from many a b : ℕ) (fresh places : List ℕ) (k m : ℕ) : Type 0 where
  pub fresh-long : length fresh ≡ a
  pub places-long : length places ≡ b
  pub low : from ≤ k
  pub high : k ≤ many
  pub count : many ≡ strings s
  pub few : n ≤ from
  pub moved : 0 < m → from < k
  pub is : Fresh s order n fresh places m
  pub same : together s order n fresh m ≡ joined (text s) k

pub filling_none : {s order fresh places : List ℕ} {n from many : ℕ} → Upto s order n from → from < strings s → length places ≡ length fresh → many ≡ strings s → Filling s order n from many (length fresh) (length places) fresh places from 0
unfolding listed insert_all
filling_none {s} {order} {fresh} {places} {n} {from} {many} u h l e = record {
  fresh-long = refl;
  places-long = refl;
  low = omega arith;
  high = omega arith;
  count = e;
  few = omega (arith, listed-long s order n u.fits, ap length u.is, joined-most (text s) from);
  moved = λ z. absurd (omega arith);
  is = record {
    sorted = upto-rises u;
    rises = record { fits = omega arith; rises = tt };
    long = l;
    room = omega (arith, u.fits);
    new = tt;
    placed = λ i z. absurd (omega arith);
  };
  same = u.is;
}

pub filling_few : {s order fresh places : List ℕ} {n from many a b k m : ℕ} → Filling s order n from many a b fresh places k m → from ≤ 4294967295 → n ≤ 4294967295
filling_few f h = omega (arith, f.few)

module _ {s order fresh places : List ℕ} {n from many a b k m : ℕ} (f : Filling s order n from many a b fresh places k m) where
  grown : insert_new (text s k) (together s order n fresh m) ≡ joined (text s) (k + 1)
  unfolding joined
  grown = ap (insert_new (text s k)) f.same ∙ ap (joined (text s)) (sym (add-one k))

  pub filling_more : {fresh1 places1 : List ℕ} {r : Option ℕ} {m1 : ℕ} → k < many → Keeps s order n fresh1 places1 (insert_new (text s k) (together s order n fresh m)) r → r ≡ Some m1 → length fresh1 ≡ length fresh → length places1 ≡ length places → Filling s order n from many a b fresh1 places1 (k + 1) m1
  filling_more {fresh1} {places1} {r} {m1} l j e lf lp =
      let h = rw e at j in
      record {
        fresh-long = lf ∙ f.fresh-long;
        places-long = lp ∙ f.places-long;
        low = omega (arith, f.low);
        high = omega arith;
        count = f.count;
        few = f.few;
        moved = λ z. omega (arith, f.low);
        is = h.is.0;
        same = h.is.1 ∙ grown;
      }

  pub filling_many : {fresh1 places1 : List ℕ} {r : Option ℕ} → k < many → Keeps s order n fresh1 places1 (insert_new (text s k) (together s order n fresh m)) r → r ≡ None → Reaches s order n fresh1 places1 from None
  filling_many l j e =
      let h = rw e at j in
      record { is = omega (arith, h.is, ap length grown, f.count, joined-long (text s) (k + 1) (strings s) (omega (arith, f.count))) }

  pub filling_full : length fresh ≤ m → 0 < a → Reaches s order n fresh places from (Some (k, m))
  filling_full l z = record { is = (f.moved (omega (arith, f.fresh-long)), (omega (arith, f.high, f.count), (f.is, f.same))) }

  pub filling_all : from < strings s → many ≤ k → Reaches s order n fresh places from (Some (many, m))
  filling_all l z =
      let e : k ≡ many = omega (arith, f.high) in
      record { is = (omega (arith, f.count), (omega (arith, f.count), (f.is, f.same ∙ ap (joined (text s)) e))) }

-- ---- the fresh ones go between the others

fresh-ready : {s order fresh places : List ℕ} {n m : ℕ} → Fresh s order n fresh places m → Ready order n fresh places m
fresh-ready {s} {order} {fresh} {places} {n} {m} f = record {
  room = f.room;
  fits = f.rises.fits;
  long = omega (arith, f.long, f.rises.fits);
  rises = λ i j l h. go i j l h (ltb i j) refl;
  inside = λ i h. omega (arith, f.placed i h, place_inside (text s (get_or fresh i 0)) (listed s order n), listed-long s order n f.sorted.fits);
}
  where
    go : (i j : ℕ) → i ≤ j → j < m → (b : Bool) → ltb i j ≡ b → get_or places i 0 ≤ get_or places j 0
    go i j l h true e =
        let t : i < j = ltb-true i j e in
        let c : before (text s (get_or fresh i 0)) (text s (get_or fresh j 0)) ≡ true =
        rw (listed_at s fresh m i f.rises.fits (omega arith), listed_at s fresh m j f.rises.fits h) at (rising-at (listed s fresh m) i j f.rises.rises t (omega (arith, listed-long s fresh m f.rises.fits))) in
        omega (arith, f.placed i (omega arith), f.placed j h, below_less (text s (get_or fresh i 0)) (text s (get_or fresh j 0)) (listed s order n) c)
    go i j l h false e = let z : i ≡ j = omega (arith, ltb-false i j e) in rw z (omega arith)

-- texts from `end` on stand so many entries higher
pub record Spread (s order : List ℕ) (end by : ℕ) (l : List (List ℕ)) : Type 0 where
  pub lower : (i : ℕ) → i < end → get_or l i [] ≡ text s (get_or order i 0)
  pub upper : (i : ℕ) → end ≤ i → i < length l → get_or l i [] ≡ text s (get_or order (i + by) 0)

-- the entries between move, and one more stands there
spread-more : {s old new : List ℕ} {l : List (List ℕ)} {end p : ℕ} (j k : ℕ) → Spread s old end (j + 1) l → p ≤ end → end ≤ length l → Moved p end (j + 1) old new → p + j < length new → Spread s (set new (p + j) k) p j (take p l ++ (text s k ∷ drop p l))
spread-more {s} {old} {new} {l} {end} {p} j k f le inside m room = record {
  lower = λ i h.
      more-before l (text s k) [] p (omega arith) i h
      ∙ f.lower i (omega arith)
      ∙ ap (text s) (sym (get_or-set_other new (p + j) i k 0 (λ d. absurd (omega arith)) ∙ m.lower i (omega arith)));
  upper = λ i h t. go i h (omega (arith, more-long l (text s k) [] p (omega arith))) (ltb p i) refl;
}
  where
    after : (i i1 : ℕ) → i ≡ suc i1 → p ≤ i1 → i1 < length l → (b : Bool) → ltb i1 end ≡ b → get_or (take p l ++ (text s k ∷ drop p l)) i [] ≡ text s (get_or (set new (p + j) k) (i + j) 0)
    after i i1 z h t true e =
        let lt : i1 < end = ltb-true i1 end e in
        let w : i + j ≡ i1 + (j + 1) = omega arith in
        rw z (more-after l (text s k) [] p (omega arith) i1 h)
        ∙ f.lower i1 lt
        ∙ ap (text s) (sym (get_or-set_other new (p + j) (i + j) k 0 (λ d. absurd (omega arith)) ∙ ap (λ (q : ℕ). get_or new q 0) w ∙ m.moved i1 h lt))
    after i i1 z h t false e =
        let ge : end ≤ i1 = ltb-false i1 end e in
        let w : i + j ≡ i1 + (j + 1) = omega arith in
        rw z (more-after l (text s k) [] p (omega arith) i1 h)
        ∙ f.upper i1 ge t
        ∙ ap (text s) (sym (get_or-set_other new (p + j) (i + j) k 0 (λ d. absurd (omega arith)) ∙ ap (λ (q : ℕ). get_or new q 0) w ∙ m.above (i1 + (j + 1)) (omega arith)))

    go : (i : ℕ) → p ≤ i → i < suc (length l) → (b : Bool) → ltb p i ≡ b → get_or (take p l ++ (text s k ∷ drop p l)) i [] ≡ text s (get_or (set new (p + j) k) (i + j) 0)
    go i h t true e = let lt : p < i = ltb-true p i e in after i (i - 1) (omega arith) (omega arith) (omega arith) (ltb (i - 1) end) refl
    go i h t false e =
        let z : i ≡ p = omega (arith, ltb-false p i e) in
        rw z (more-there l (text s k) [] p (omega arith) ∙ ap (text s) (sym (get_or-set_same new (p + j) k 0 room)))

-- the fresh texts from j on are in, whatever the file
pub record Merging (old : List ℕ) (n : ℕ) (fresh places : List ℕ) (m : ℕ) (order : List ℕ) (end j : ℕ) : Type 0 where
  pub few : j ≤ m
  pub inside : end ≤ n
  pub long : length order ≡ length old
  pub most : (i : ℕ) → i < j → get_or places i 0 ≤ end
  pub is : (s : List ℕ) → Fresh s old n fresh places m → Spread s order end j (insert_all (drop j (listed s fresh m)) (listed s old n))

pub merging_none : {order fresh places : List ℕ} {n m : ℕ} → Ready order n fresh places m → Merging order n fresh places m order n m
unfolding insert_all
merging_none {order} {fresh} {places} {n} {m} c = record {
  few = omega arith;
  inside = omega arith;
  long = refl;
  most = c.inside;
  is = λ s f. rw (drop_of_length-le (listed s fresh m) {i = m} (omega (arith, listed-long s fresh m f.rises.fits))) (record {
    lower = λ i h. listed_at s order n i f.sorted.fits h;
    upper = λ i h t. absurd (omega (arith, listed-long s order n f.sorted.fits));
  });
}

pub merging_at : {old fresh places order : List ℕ} {n m end j at : ℕ} → Merging old n fresh places m order end j → 0 < j → at ≡ get_or places (j - 1) 0 → at ≤ end
merging_at {old} {fresh} {places} {order} {n} {m} {end} {j} {at} g h e = omega (arith, g.most (j - 1) (omega arith))

pub merging_more : {old fresh places order new : List ℕ} {n m end j at : ℕ} → Merging old n fresh places m order end j → 0 < j → Ready old n fresh places m → at ≡ get_or places (j - 1) 0 → Moved at end (j - 1 + 1) order new → Merging old n fresh places m (set new (at + (j - 1)) (get_or fresh (j - 1) 0)) at (j - 1)
merging_more {old} {fresh} {places} {order} {new} {n} {m} {end} {j} {at} g h c e mv = record {
  few = omega (arith, g.few);
  inside = omega (arith, c.inside (j - 1) (omega (arith, g.few)));
  long = length-set new (at + (j - 1)) (get_or fresh (j - 1) 0) ∙ mv.long ∙ g.long;
  most = λ i l. omega (arith, c.rises i (j - 1) (omega arith) (omega (arith, g.few)));
  is = λ s f. step s f;
}
  where
    le : at ≤ end
    le = omega (arith, g.most (j - 1) (omega arith))

    back : j - 1 + 1 ≡ j
    back = omega arith

    step : (s : List ℕ) → Fresh s old n fresh places m → Spread s (set new (at + (j - 1)) (get_or fresh (j - 1) 0)) at (j - 1) (insert_all (drop (j - 1) (listed s fresh m)) (listed s old n))
    step s f = subst (Spread s (set new (at + (j - 1)) (get_or fresh (j - 1) 0)) at (j - 1)) (sym put_in) (spread-more (j - 1) (get_or fresh (j - 1) 0) (subst (λ (t : ℕ). Spread s order end t rest) (sym back) (g.is s f)) le under mv (omega (arith, le, c.room, mv.long, g.long, g.few, g.inside)))
      where
        x : List ℕ
        x = text s (get_or fresh (j - 1) 0)

        rest : List (List ℕ)
        rest = insert_all (drop j (listed s fresh m)) (listed s old n)

        cons : drop (j - 1) (listed s fresh m) ≡ x ∷ drop j (listed s fresh m)
        cons =
            let z : suc (j - 1) ≡ j = omega arith in
            drop-cons (listed s fresh m) (j - 1) [] (omega (arith, listed-long s fresh m f.rises.fits, g.few))
            ∙ ap (λ (y : List ℕ). y ∷ drop (suc (j - 1)) (listed s fresh m)) (listed_at s fresh m (j - 1) f.rises.fits (omega (arith, g.few)))
            ∙ ap (λ (i : ℕ). x ∷ drop i (listed s fresh m)) z

        rising : Rising (x ∷ drop j (listed s fresh m))
        rising = subst Rising cons (rising-drop (listed s fresh m) (j - 1) f.rises.rises)

        fit : New x (listed s old n)
        fit = subst (λ (y : List ℕ). New y (listed s old n)) (listed_at s fresh m (j - 1) f.rises.fits (omega (arith, g.few))) (every-at (λ y. New y (listed s old n)) (listed s fresh m) (j - 1) [] f.new (omega (arith, listed-long s fresh m f.rises.fits, g.few)))

        there-at : below x (listed s old n) ≡ at
        there-at = sym (e ∙ f.placed (j - 1) (omega (arith, g.few)))

        put_in : insert_all (drop (j - 1) (listed s fresh m)) (listed s old n) ≡ take at rest ++ (x ∷ drop at rest)
        put_in =
            ap (λ (l : List (List ℕ)). insert_all l (listed s old n)) cons
            ∙ all-at x (drop j (listed s fresh m)) (listed s old n) rising fit
            ∙ ap (λ (i : ℕ). take i rest ++ (x ∷ drop i rest)) there-at

        under : end ≤ length rest
        under = omega (arith, g.inside, long_rest)
          where
            long_rest : n ≤ length rest
            long_rest = omega (arith, all-long (drop j (listed s fresh m)) (listed s old n) rising.1 (every_drop (λ y. New y (listed s old n)) (listed s fresh m) j f.new), listed-long s old n f.sorted.fits)

pub merging_all : {old fresh places order : List ℕ} {n m end j : ℕ} → Merging old n fresh places m order end j → j ≤ 0 → Ready old n fresh places m → Merged old n fresh places m order
merging_all {old} {fresh} {places} {order} {n} {m} {end} {j} g h c = record { room = omega (arith, c.room, g.long); is = λ s f. done s f }
  where
    zero_left : j ≡ 0
    zero_left = omega arith

    done : (s : List ℕ) → Fresh s old n fresh places m → listed s order (n + m) ≡ together s old n fresh m
    done s f =
        ext_get_or [] (listed s order (n + m)) (together s old n fresh m)
        (omega (arith, many, whole))
        (λ i t. each i (omega (arith, many)) (ltb i end) refl)
      where
        spread : Spread s order end 0 (together s old n fresh m)
        spread = rw zero_left at (g.is s f)

        many : length (listed s order (n + m)) ≡ n + m
        many = listed-long s order (n + m) (omega (arith, c.room, g.long))

        whole : length (together s old n fresh m) ≡ n + m
        whole = omega (arith, all-long (listed s fresh m) (listed s old n) f.rises.rises f.new, listed-long s fresh m f.rises.fits, listed-long s old n f.sorted.fits)

        each : (i : ℕ) → i < n + m → (b : Bool) → ltb i end ≡ b → get_or (listed s order (n + m)) i [] ≡ get_or (together s old n fresh m) i []
        each i t true e = listed_at s order (n + m) i (omega (arith, c.room, g.long)) t ∙ sym (spread.lower i (ltb-true i end e))
        each i t false e =
            let z : i + 0 ≡ i = omega arith in
            listed_at s order (n + m) i (omega (arith, c.room, g.long)) t
            ∙ ap (λ (q : ℕ). text s (get_or order q 0)) (sym z)
            ∙ sym (spread.upper i (ltb-false i end e) (omega (arith, whole)))

-- ---- all strings

-- a turn of the loop over all strings
pub record Turn (s before : List ℕ) (many : ℕ) (order fresh places : List ℕ) (n k : ℕ) : Type 0 where
  pub fresh-long : length fresh ≡ 256
  pub places-long : length places ≡ 256
  pub low : k ≤ many
  pub count : many ≡ strings s
  pub long : length order ≡ length before
  pub upto : Upto s order n k

pub turn-none : {s before order fresh places : List ℕ} {many n k : ℕ} → many ≡ strings s → Begun s order k → n ≡ k → length order ≡ length before → length fresh ≡ 256 → length places ≡ 256 → Turn s before many order fresh places n k
turn-none {s} {before} {order} {fresh} {places} {many} {n} {k} e g z l a b = record {
  fresh-long = a;
  places-long = b;
  low = omega (arith, g.few);
  count = e;
  long = l;
  upto = rw z g.upto;
}

pub turn_on : {s before order fresh places : List ℕ} {many n k : ℕ} → Turn s before many order fresh places n k → k < many → k < strings s
turn_on t h = omega (arith, t.count)

module _ {s before order fresh0 places0 fresh places : List ℕ} {many n k next m : ℕ} {r : Option (ℕ × ℕ)} (t : Turn s before many order fresh0 places0 n k) (g : Reaches s order n fresh places k r) (e : r ≡ Some (next, m)) where
  reached : Reaches s order n fresh places k (Some (next, m))
  reached = rw e at g

  turn-fresh : Fresh s order n fresh places m
  turn-fresh = reached.is.1.1.0

  pub turn-ready : Ready order n fresh places m
  turn-ready = fresh-ready turn-fresh

  pub turn-less : many - next < many - k
  turn-less = omega (arith, reached.is.0, reached.is.1.0, t.count)

  pub turn_more : {new : List ℕ} → Merged order n fresh places m new → length new ≡ length order → length fresh ≡ 256 → length places ≡ 256 → Turn s before many new fresh places (n + m) next
  turn_more {new} h l a b = record {
    fresh-long = a;
    places-long = b;
    low = omega (arith, reached.is.1.0, t.count);
    count = t.count;
    long = l ∙ t.long;
    upto = record { fits = omega (arith, turn-fresh.room, l); is = h.is s turn-fresh ∙ reached.is.1.1.1 };
  }

pub turn_many : {s before order fresh0 places0 fresh places : List ℕ} {many n k : ℕ} {r : Option (ℕ × ℕ)} → Turn s before many order fresh0 places0 n k → Reaches s order n fresh places k r → r ≡ None → Joins s order (texts s) None
unfolding texts
turn_many t g e = let h = rw e at g in record { is = h.is }

pub turn-all : {s before order fresh places : List ℕ} {many n k : ℕ} → Turn s before many order fresh places n k → many ≤ k → Joins s order (texts s) (Some n)
unfolding texts
turn-all {s} {before} {order} {fresh} {places} {many} {n} {k} t h =
    let z : k ≡ strings s = omega (arith, t.low, t.count) in
    record { is = (t.upto.fits, t.upto.is ∙ ap (joined (text s)) z) }

-- ---- a new number

pub sorted_rises : {s order : List ℕ} {n : ℕ} → Sorted s order n → InOrder s order n
unfolding texts
sorted_rises {s} {order} {n} o = record { fits = o.fits; rises = subst Rising (sym o.is) (joined-rises (text s) (strings s)) }

pub number-kept : {w m : ℕ} (s : List ℕ) → m ≡ strings s → m ≤ w → w ≡ number s w
unfolding number choose
number-kept {w} {m} s e h = rw (le-ltb w (strings s) (omega arith))

pub number-new : {s order x : List ℕ} {n w m p r : ℕ} → Sorted s order n → m ≡ strings s → w < m → Cut s w x → Place x (listed s order n) n p → r ≡ p → r ≡ number s w
unfolding number choose
number-new {s} {order} {x} {n} {w} {m} {p} {r} o e h is at f =
    rw (lt-ltb w (strings s) (omega arith)) (f ∙ at.is ∙ ap (λ (y : List ℕ). below y (listed s order n)) is.is ∙ ap (below (text s w)) o.is)
