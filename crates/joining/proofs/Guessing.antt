-- A guessed order: its places, one string more behind those in order, and that nothing is missing
use Rattle.std.proofs.Common.{◌≡◌, ℕ, zero, suc, ◌+◌, ◌-◌, ◌<◌, ◌≤◌, Bool, true, false, not, eqb, ltb, List, [], ◌∷◌, length, get_or, set, replicate, sym, refl, ap, ◌∙◌, subst, add-one, arith, length-set, get_or-set_other, get_or-set_same, ltb-false, ltb-true, eqb-true}
use lib.ListN.{length-replicate}
use borrow.Author.Tests.{eqb-false, not-false}
use Rattle.meaning.specs.Tests.{choose}
use Rattle.meaning.specs.Text.{before}
use Rattle.meaning.specs.Case.{text, strings}
use Rattle.encode.specs.Join.{insert_new, joined}
use Rattle.encode.specs.Unsorted.{texts}
use Rattle.encode.proofs.Laws.Join.{Rising, every-at, before-neither, before-not, insert_rises, place-above, place_inside}
use Rattle.stringcheck.specs.Tables.{replicate-same}
use Rattle.joining.specs.Order.{Cut, listed, InOrder, Joins, Put}
use Rattle.joining.specs.Fresh.{insert_all}
use Rattle.joining.specs.Run.{Begun}
use Rattle.joining.specs.Laws.{listed-long, listed_at, listed_more}
use Rattle.joining.specs.Insert.{before-after, commute, again, all-below, all_more}
use Rattle.joining.specs.Guess.{Beyond, picked, IsKept, PutNext, PutsNext, KeptOne, KeepsOne, Sifts, Few, Follows, Repeats, Grows, Seen, Takes}
use Rattle.std.specs.Prelude.{Option, Some, None}
use Rattle.joining.specs.declared.Taken.{Taken}
use Rattle.joining.specs.declared.Taken.TheVariants as takes
use Rattle.joining.proofs.Rules.{put, stands-not}
use Rattle.joining.proofs.Runs.{begun-none}

never : {P : Type 0} → ◌≡◌ {A = Bool} false true → P
never e = let w : ◌≡◌ {A = ℕ} 0 1 = cc in absurd (omega arith)

pub beyond : {low high many : ℕ} → low < high → high ≤ many → many ≤ 16384 → Beyond low high
beyond a b c = record { some = a; inside = omega arith }

-- ---- one string behind those in order

pub follows-none : {s order x : List ℕ} {n : ℕ} → InOrder s order n → n ≡ 0 → Follows x (listed s order n) n true
follows-none {s} {order} {x} {n} o z = record {
  is = λ e. record { is = omega (arith, place_inside x (listed s order n), listed-long s order n o.fits); inside = omega arith };
}

last-at : {s order t : List ℕ} {n : ℕ} → InOrder s order n → (n ≡ 0 → ⊥) → Cut s (get_or order (n - 1) 0) t → get_or (listed s order n) (n - 1) [] ≡ t
last-at {s} {order} {t} {n} o z is = listed_at s order n (n - 1) o.fits (omega (arith, z)) ∙ sym is.is

pub follows-last : {s order x t : List ℕ} {n : ℕ} {r : Bool} → InOrder s order n → (n ≡ 0 → ⊥) → Cut s (get_or order (n - 1) 0) t → r ≡ before t x → Follows x (listed s order n) n r
follows-last {s} {order} {x} {t} {n} {r} o z is said = record {
  is = λ e.
      let many : length (listed s order n) ≡ n = listed-long s order n o.fits in
      let h : before (get_or (listed s order n) (n - 1) []) x ≡ true = ap (λ (y : List ℕ). before y x) (last-at o z is) ∙ sym said ∙ e in
      record {
        is = omega (arith, z, place-above x (listed s order n) (n - 1) o.rises (omega (arith, z, many)) h, place_inside x (listed s order n), many);
        inside = omega arith;
      };
}

-- what stands among rising texts is there
there-at : (l : List (List ℕ)) (i : ℕ) → Rising l → i < length l → insert_new (get_or l i []) l ≡ l
unfolding insert_new choose
there-at [] i r h = absurd (omega arith)
there-at (y ∷ ys) zero r h = rw (before-not y) refl
there-at (y ∷ ys) (suc i) r h = rw (every-at (λ z. before y z ≡ true) ys i [] r.0 (omega arith)) (ap (λ (l : List (List ℕ)). y ∷ l) (there-at ys i r.1 (omega arith)))

pub repeats-not : {x : List ℕ} {l : List (List ℕ)} → Repeats x l false
repeats-not = record { is = λ e. never e }

pub repeats-as : {s order x t : List ℕ} {n : ℕ} {r : Bool} → InOrder s order n → (n ≡ 0 → ⊥) → Cut s (get_or order (n - 1) 0) t → (r ≡ true → x ≡ t) → Repeats x (listed s order n) r
repeats-as {s} {order} {x} {t} {n} {r} o z is told = record {
  is = λ e.
      let same : x ≡ t = told e in
      let there : insert_new (get_or (listed s order n) (n - 1) []) (listed s order n) ≡ listed s order n = there-at (listed s order n) (n - 1) o.rises (omega (arith, z, listed-long s order n o.fits)) in
      ap (λ (y : List ℕ). insert_new y (listed s order n)) (same ∙ sym (last-at o z is)) ∙ there;
}

put_last : {old : List ℕ} (n k : ℕ) → n < length old → Put n n k old (set old n k)
put_last {old} n k h = record {
  long = length-set old n k;
  lower = λ i l. get_or-set_other old n i k 0 (λ d. absurd (omega arith));
  here = get_or-set_same old n k 0 h;
  upper = λ i l m. absurd (omega arith);
}

pub grows-more : {s old x : List ℕ} {n k : ℕ} {r : Bool} → InOrder s old n → n < length old → Cut s k x → Follows x (listed s old n) n r → r ≡ true → Grows s old n k (set old n k) (Some (n + 1))
grows-more {s} {old} {x} {n} {k} {r} o room is f e = record {
  is = (omega arith, (record { fits = omega (arith, length-set old n k); rises = subst Rising (sym same) (insert_rises (text s k) (listed s old n) o.rises) }, same));
}
  where
    same : listed s (set old n k) (n + 1) ≡ insert_new (text s k) (listed s old n)
    same = listed_more s old (set old n k) n n k (put_last n k room) room (omega arith) ∙ sym (put o is (f.is e) (stands-not (omega arith)) refl)

pub grows_same : {s old x : List ℕ} {n k : ℕ} {r : Bool} → InOrder s old n → Cut s k x → Repeats x (listed s old n) r → r ≡ true → Grows s old n k old (Some n)
grows_same {s} {old} {x} {n} {k} {r} o is f e = record {
  is = (omega arith, (o, sym (ap (λ (y : List ℕ). insert_new y (listed s old n)) (sym is.is) ∙ f.is e)));
}

pub grows-not : {s old order : List ℕ} {n k : ℕ} → Grows s old n k order None
grows-not = record { is = tt }

-- ---- which strings were seen

pub record Seeing (seen : List Bool) (n i : ℕ) : Type 0 where
  pub low : i ≤ n
  pub is : (k : ℕ) → k < i → get_or seen k false ≡ true

pub seeing_none : {seen : List Bool} {n : ℕ} → Seeing seen n 0
seeing_none = record { low = omega arith; is = λ k h. absurd (omega arith) }

pub seeing_more : {seen : List Bool} {n i : ℕ} → Seeing seen n i → i < n → not (get_or seen i false) ≡ false → Seeing seen n (i + 1)
seeing_more {seen} {n} {i} g h e = record { low = omega arith; is = λ k l. go k l (ltb k i) refl }
  where
    go : (k : ℕ) → k < i + 1 → (b : Bool) → ltb k i ≡ b → get_or seen k false ≡ true
    go k l true q = g.is k (ltb-true k i q)
    go k l false q = let z : k ≡ i = omega (arith, ltb-false k i q) in rw z (not-false _ e)

pub seen-not : {seen : List Bool} {n : ℕ} → Seen seen n false
seen-not = record { is = λ e. never e }

pub seen_all : {seen : List Bool} {n i : ℕ} → Seeing seen n i → n ≤ i → Seen seen n true
seen_all g h = record { is = λ e k l. g.is k (omega arith) }

-- ---- rising texts that are all of them

-- rising texts put together are themselves
alone : (l : List (List ℕ)) → Rising l → insert_all l [] ≡ l
unfolding insert_all insert_new choose
alone [] r = refl
alone (x ∷ []) r = refl
alone (x ∷ (y ∷ ys)) r =
    ap (insert_new x) (alone (y ∷ ys) r.1)
    ∙ rw (before-after x y r.0.0, r.0.0) refl

-- string k is among the first n
joined-there : (f : ℕ → List ℕ) (k n : ℕ) → k < n → insert_new (f k) (joined f n) ≡ joined f n
unfolding joined
joined-there f k zero h = absurd (omega arith)
joined-there f k (suc n) h = go (ltb k n) refl (joined-there f k n)
  where
    go : (b : Bool) → ltb k n ≡ b → (k < n → insert_new (f k) (joined f n) ≡ joined f n) → insert_new (f k) (insert_new (f n) (joined f n)) ≡ insert_new (f n) (joined f n)
    go true e rest = commute (f k) (f n) (joined f n) ∙ ap (insert_new (f n)) (rest (ltb-true k n e))
    go false e rest = let z : k ≡ n = omega (arith, ltb-false k n e) in rw z (again (f n) (joined f n))

-- where each of the first k stands in l, l is what they make with it
with_all : (f : ℕ → List ℕ) (l : List (List ℕ)) (n k : ℕ) → Rising l → ((i : ℕ) → i < n → insert_new (f i) l ≡ l) → k ≤ n → insert_all l (joined f k) ≡ l
unfolding joined
with_all f l n zero r h le = alone l r
with_all f l n (suc k) r h le =
    sym (all-below (f k) l (joined f k))
    ∙ ap (insert_new (f k)) (with_all f l n k r h (omega arith))
    ∙ h k (omega arith)

-- ---- those kept

pub kept-not : {s kept : List ℕ} {m k : ℕ} → IsKept s kept m k false
kept-not = record { is = λ e. never e }

pub kept-as : {s kept x y : List ℕ} {m j k : ℕ} {r : Bool} → j < m → Cut s (get_or kept j 0) x → Cut s k y → (r ≡ true → x ≡ y) → IsKept s kept m k r
kept-as {s} {kept} {x} {y} {m} {j} {k} {r} h one other same = record {
  is = λ e.
      ap (λ (t : List ℕ). insert_new t (joined (picked s kept) m)) (sym other.is ∙ sym (same e) ∙ one.is)
      ∙ joined-there (picked s kept) j m h;
}

-- what is joined says nothing of what is behind it
joined_same : (f g : ℕ → List ℕ) (n : ℕ) → ((i : ℕ) → i < n → f i ≡ g i) → joined f n ≡ joined g n
unfolding joined
joined_same f g zero h = refl
joined_same f g (suc n) h = ap (λ (t : List ℕ). insert_new t (joined f n)) (h n (omega arith)) ∙ ap (insert_new (g n)) (joined_same f g n (λ i l. h i (omega arith)))

joined-next : (f : ℕ → List ℕ) (n : ℕ) → joined f (n + 1) ≡ insert_new (f n) (joined f n)
unfolding joined
joined-next f n = ap (joined f) (add-one n)

pub keeps-old : {s kept : List ℕ} {m k : ℕ} {r : Bool} → m ≤ length kept → IsKept s kept m k r → r ≡ true → KeepsOne s kept m k kept (Some m)
keeps-old h is e = record { is = (h, sym (is.is e)) }

pub keeps-last : {s kept x y : List ℕ} {m k : ℕ} {a b : Bool} → m ≤ length kept → (m ≡ 0 → ⊥) → Cut s (get_or kept (m - 1) 0) y → Cut s k x → a ≡ before y x → a ≡ false → b ≡ before x y → b ≡ false → KeepsOne s kept m k kept (Some m)
keeps-last {s} {kept} {x} {y} {m} {k} {a} {b} fits some one other said away told off = record { is = (fits, sym (ap (λ (t : List ℕ). insert_new t (joined (picked s kept) m)) same ∙ joined-there (picked s kept) (m - 1) m (omega (arith, some)))) }
  where
    same : text s k ≡ text s (get_or kept (m - 1) 0)
    same = sym other.is ∙ before-neither x y (sym told ∙ off) (sym said ∙ away) ∙ one.is

pub keeps-not : {s kept : List ℕ} {m k : ℕ} → KeepsOne s kept m k kept None
keeps-not = record { is = refl }

pub puts_not : {kept : List ℕ} {m k : ℕ} → PutsNext kept m k kept None
puts_not = record { is = refl }

pub puts_more : {kept : List ℕ} {m k : ℕ} → m < length kept → PutsNext kept m k (set kept m k) (Some (m + 1))
puts_more h = record { is = (refl, (h, refl)) }

-- one more behind those kept
next-joined : (s kept : List ℕ) (m k : ℕ) → m < length kept → joined (picked s (set kept m k)) (m + 1) ≡ insert_new (text s k) (joined (picked s kept) m)
next-joined s kept m k h =
    joined-next (picked s (set kept m k)) m
    ∙ ap (λ (i : ℕ). insert_new (text s i) (joined (picked s (set kept m k)) m)) (get_or-set_same kept m k 0 h)
    ∙ ap (insert_new (text s k)) (joined_same (picked s (set kept m k)) (picked s kept) m (λ i l. ap (text s) (get_or-set_other kept m i k 0 (λ d. absurd (omega arith)))))

kept_new : (s old kept : List ℕ) (m k : ℕ) (r : Option ℕ) → PutNext old m k kept r → KeptOne s old m k kept r
kept_new s old kept m k (Some n) p = rw (p.1.1, p.0) (omega (arith, length-set old m k, p.1.0), next-joined s old m k p.1.0)
kept_new s old kept m k None p = p

pub keeps-new : {s old kept : List ℕ} {m k : ℕ} {r : Option ℕ} → PutsNext old m k kept r → KeepsOne s old m k kept r
keeps-new {s} {old} {kept} {m} {k} {r} p = record { is = kept_new s old kept m k r p.is }

-- the texts of the first k, on the way
pub record Sifting (s first kept : List ℕ) (all m k : ℕ) : Type 0 where
  pub sifts : Sifts s kept all m k
  pub long : length kept ≡ length first

pub sifting-none : {s kept : List ℕ} {all : ℕ} → Sifting s kept kept all 0 0
unfolding joined
sifting-none = record { sifts = record { is = refl; fits = omega arith; upto = omega arith }; long = refl }

pub sifting_from : {s kept : List ℕ} {all m k : ℕ} → Sifts s kept all m k → Sifting s kept kept all m k
sifting_from a = record { sifts = a; long = refl }

module _ {s first old : List ℕ} {all m k : ℕ} (g : Sifting s first old all m k) where
  pub sifting_fits : m ≤ length old
  sifting_fits = g.sifts.fits

  pub sifting_more : {kept : List ℕ} {n : ℕ} {r : Option ℕ} → k < all → KeepsOne s old m k kept r → r ≡ Some n → length kept ≡ length old → Sifting s first kept all n (k + 1)
  sifting_more {kept} {n} {r} h one e l = record {
    sifts = record {
      is = kept-is.1 ∙ ap (insert_new (text s k)) g.sifts.is ∙ sym (joined-next (text s) k);
      fits = kept-is.0;
      upto = omega arith;
    };
    long = l ∙ g.long;
  }
    where
      kept-is : (n ≤ length kept) × (joined (picked s kept) n ≡ insert_new (text s k) (joined (picked s old) m))
      kept-is = (rw e at one).is

  pub sifting_not : {kept : List ℕ} {r : Option ℕ} → KeepsOne s old m k kept r → r ≡ None → Sifts s kept all m k
  sifting_not {kept} {r} one e = subst (λ (t : List ℕ). Sifts s t all m k) (sym (rw e at one).is) g.sifts

pub few-all : {s kept order : List ℕ} {all m k : ℕ} → Sifts s kept all m k → all ≡ strings s → all ≤ k → m ≤ length order → m ≤ 16384 → Few s kept m order
unfolding texts
few-all {s} {kept} {order} {all} {m} {k} a e upto room few = record {
  all = a.is ∙ ap (joined (text s)) (omega (arith, a.upto, upto, e));
  fits = a.fits;
  few = few;
  room = room;
}

-- ---- the check

-- what was gathered of the first i entries of a table: rising texts of those kept, and all that were seen
pub record Gathering (s kept first : List ℕ) (many : ℕ) (order : List ℕ) (seen : List Bool) (n i : ℕ) : Type 0 where
  pub low : i ≤ many
  pub few : n ≤ i
  pub long : length order ≡ length first
  pub wide : length seen ≡ 16384
  pub sorted : InOrder s order n
  pub own : insert_all (listed s order n) (joined (picked s kept) many) ≡ joined (picked s kept) many
  pub has : (j : ℕ) → get_or seen j false ≡ true → insert_new (picked s kept j) (listed s order n) ≡ listed s order n

pub gathering_none : {s kept order : List ℕ} {many : ℕ} → Gathering s kept order many order (replicate 16384 false) 0 0
unfolding listed insert_all
gathering_none {s} {kept} {order} {many} = record {
  low = omega arith;
  few = omega arith;
  long = refl;
  wide = length-replicate 16384 false;
  sorted = record { fits = omega arith; rises = tt };
  own = refl;
  has = λ k e. never (sym (replicate-same 16384 k false) ∙ e);
}

module _ {s kept first order : List ℕ} {seen : List Bool} {many n i : ℕ} (g : Gathering s kept first many order seen n i) where
  pub gathering_sorted : InOrder s order n
  gathering_sorted = g.sorted

  pub gathering-room : i < many → Few s kept many first → n < length order
  gathering-room h f = omega (arith, g.few, g.long, f.room)

  pub gathering_more : {new : List ℕ} {r : Option ℕ} {m at : ℕ} → i < many → at < many → Grows s order n (get_or kept at 0) new r → r ≡ Some m → length new ≡ length order → Gathering s kept first many new (set seen at true) m (i + 1)
  gathering_more {new} {r} {m} {at} h lt grows e l = record {
    low = omega arith;
    few = omega (arith, grown.0, g.few);
    long = l ∙ g.long;
    wide = length-set seen at true ∙ g.wide;
    sorted = grown.1.0;
    own =
        ap (λ (t : List (List ℕ)). insert_all t (joined (picked s kept) many)) grown.1.1
        ∙ all_more (picked s kept at) (listed s order n) (joined (picked s kept) many)
        ∙ ap (insert_new (picked s kept at)) g.own
        ∙ joined-there (picked s kept) at many lt;
    has = λ j q. go j q (eqb j at) refl;
  }
    where
      grown : (m ≤ n + 1) × (InOrder s new m × (listed s new m ≡ insert_new (picked s kept at) (listed s order n)))
      grown = (rw e at grows).is

      go : (j : ℕ) → get_or (set seen at true) j false ≡ true → (b : Bool) → eqb j at ≡ b → insert_new (picked s kept j) (listed s new m) ≡ listed s new m
      go j q true t =
          let w : j ≡ at = eqb-true j at t in
          ap (insert_new (picked s kept j)) grown.1.1
          ∙ ap (λ (i : ℕ). insert_new (picked s kept i) (insert_new (picked s kept at) (listed s order n))) w
          ∙ again (picked s kept at) (listed s order n)
          ∙ sym grown.1.1
      go j q false t =
          let apart : j ≡ at → ⊥ = eqb-false j at t in
          let old : get_or seen j false ≡ true = sym (get_or-set_other seen at j true false (λ d. absurd (omega (arith, apart)))) ∙ q in
          ap (insert_new (picked s kept j)) grown.1.1
          ∙ commute (picked s kept j) (picked s kept at) (listed s order n)
          ∙ ap (insert_new (picked s kept at)) (g.has j old)
          ∙ sym grown.1.1

  pub gathering_all : {r : Bool} → Few s kept many first → Seen seen many r → r ≡ true → Takes s order (takes.All n)
  gathering_all {r} f seen-is e = record {
    is = (
      g.sorted.fits,
      sym (with_all (picked s kept) (listed s order n) many many g.sorted.rises (λ j h. g.has j (seen-is.is e j (omega arith))) (omega arith)) ∙ g.own ∙ f.all,
    );
  }

pub takes_none : {s order : List ℕ} → Takes s order (takes.First 0)
takes_none = record { is = begun-none }

pub took_all : {s order : List ℕ} {r : Taken} {n : ℕ} → Takes s order r → r ≡ takes.All n → Joins s order (texts s) (Some n)
took_all t e = record { is = (rw e at t).is }

pub took_first : {s order : List ℕ} {r : Taken} {k : ℕ} → Takes s order r → r ≡ takes.First k → Begun s order k
took_first t e = (rw e at t).is
