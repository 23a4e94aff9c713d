-- A form's members, one after another
use Rattle.std.specs.Prelude.{Result, Ok, Err}
use mathlib.Core.Path.{◌≡◌, refl, sym, ap, subst, ◌∙◌}
use mathlib.Core.Bool.{Bool, true, false, not}
use mathlib.Core.List.{List, [], ◌∷◌}
use mathlib.Core.Option.{Option, none, some}
use Prim.Native.Nat.{ℕ, zero, suc, ◌+◌, ◌-◌, ◌<◌, ◌≤◌}
use native.Mathlib.Omega.{arith}
use lib.Dec.{eqb}
use lib.ListN.{length, drop, get_or, length-drop, drop_of_length-le}
use borrow.Author.Tests.{eq-eqb, ne_eqb, eqb-true, lt-ltb, le-ltb}
use Rattle.meaning.specs.Tests.{◌and◌, ◌or◌, choose, or_else}
use Rattle.laws.specs.Tests.{both as each, yes, no as otherwise}
use Rattle.meaning.specs.Equal.{same_list}
use Rattle.jsontext.specs.declared.Fault.{Fault}
use Rattle.jsontext.specs.declared.Fault.TheVariants.{NotJson, RepeatedName, BadField}
use Rattle.jsontext.specs.declared.Bad.{Bad}
use Rattle.jsontext.specs.Reading.{Read, got, fault, then, no, blanks, want, wrong}
use Rattle.jsontext.specs.Strings.{string}
use Rattle.jsontext.specs.Values.{Name, J, text, before, after_part, members, unless_empty, object, member_of, «decimal», both, argument}
use Rattle.jsonread.specs.Told.{Told, Blanks}
use Rattle.jsonread.proofs.Places.{byte_at, told_at, told_bad, wrong-here, told_of, then_is}
use Rattle.jsonpairs.specs.declared.Which.{Which}
use Rattle.jsonpairs.specs.declared.Which.TheVariants.{First, Second, Neither}
use Rattle.jsonpairs.specs.declared.Two.{Two}
use Rattle.jsonpairs.specs.declared.Turn.{Turn}
use Rattle.jsonpairs.specs.declared.Turn.TheVariants.{On, Done}
use Rattle.jsonpairs.specs.Pairs.{first_of, second_of, which_of, WhichTold, is_one, value_by, form_of, two_of, item_of, member_after, rest_of, next_of, Noted, Taken, Onward, ended, TurnTold, Further, NextTold}
use Rattle.jsonread.proofs.Then.{then_same, then-got, then-fault, then_bad}
use Rattle.jsonpairs.proofs.Members.{named, members-unread, members-again, members-unknown, members-new, after_none, after-byte}

-- ---- equal names

same-equal : (s t : List ℕ) → same_list s t ≡ true → s ≡ t
unfolding same_list
same-equal [] [] e = refl
same-equal [] (b ∷ t) e = cc
same-equal (a ∷ s) [] e = cc
same-equal (a ∷ s) (b ∷ t) e =
    let h = each (eqb a b) (same_list s t) e in
    let x : a ≡ b = eqb-true a b h.0 in
    let y : s ≡ t = same-equal s t h.1 in
    cc

-- the two names differ
one-two : (x : Bool) → same_list (first_of x) (second_of x) ≡ false
unfolding same_list first_of second_of ◌and◌
one-two false = refl
one-two true = refl

two-one : (x : Bool) → same_list (second_of x) (first_of x) ≡ false
unfolding same_list first_of second_of ◌and◌
two-one false = refl
two-one true = refl

-- what is known of a name by which of the two it is
module _ (x : Bool) (n : List ℕ) where
  is_one_lem : which_of x n ≡ First → same_list n (first_of x) ≡ true
  unfolding which_of choose
  is_one_lem e =
      by (same_list n (first_of x)) (same_list n (second_of x)) e
    where
      by : (y z : Bool) → choose y First (choose z Second Neither) ≡ First → y ≡ true
      by true z e = refl
      by false true e = cc
      by false false e = cc

  is-two : which_of x n ≡ Second → same_list n (second_of x) ≡ true
  unfolding which_of choose
  is-two e =
      by (same_list n (first_of x)) (same_list n (second_of x)) e
    where
      by : (y z : Bool) → choose y First (choose z Second Neither) ≡ Second → z ≡ true
      by true z e = cc
      by false true e = refl
      by false false e = cc

  not-one : which_of x n ≡ Neither → same_list n (first_of x) ≡ false
  unfolding which_of choose
  not-one e =
      by (same_list n (first_of x)) (same_list n (second_of x)) e
    where
      by : (y z : Bool) → choose y First (choose z Second Neither) ≡ Neither → y ≡ false
      by true z e = cc
      by false z e = refl

  not-two : which_of x n ≡ Neither → same_list n (second_of x) ≡ false
  unfolding which_of choose
  not-two e =
      by (same_list n (first_of x)) (same_list n (second_of x)) e
    where
      by : (y z : Bool) → choose y First (choose z Second Neither) ≡ Neither → z ≡ false
      by true z e = cc
      by false true e = cc
      by false false e = refl

  known-one : same_list n (first_of x) ≡ true → is_one x n ≡ true
  unfolding is_one ◌or◌
  known-one e = rw e

  known_two : same_list n (second_of x) ≡ true → is_one x n ≡ true
  unfolding is_one ◌or◌
  known_two e =
      rw e (or_true (same_list n (first_of x)))
    where
      or_true : (y : Bool) → (y or true) ≡ true
      or_true true = refl
      or_true false = refl

  unknown : which_of x n ≡ Neither → is_one x n ≡ false
  unfolding is_one ◌or◌
  unknown e = rw (not-one e, not-two e)

-- ---- a member's value, by its name

argued : {y z : Bool} (s : List ℕ) → y ≡ z → then (text s) (λ t rest. choose (y and not (same_list t «decimal»)) (no BadField s) (got t rest)) ≡ then (text s) (λ t rest. choose (z and not (same_list t «decimal»)) (no BadField s) (got t rest))
argued s e = ap (λ (y : Bool). then (text s) (λ t rest. choose (y and not (same_list t «decimal»)) (no BadField s) (got t rest))) e

value-one : (x : Bool) (n s : List ℕ) → same_list n (first_of x) ≡ true → value_by x n s ≡ item_of x s
unfolding value_by item_of argument first_of ◌and◌ choose
value-one false n s e = sym (then-got (text s))
value-one true n s e = argued s e

value-two : (x : Bool) (n s : List ℕ) → same_list n (first_of x) ≡ false → value_by x n s ≡ item_of false s
unfolding value_by item_of argument first_of ◌and◌ choose
value-two false n s e = sym (then-got (text s))
value-two true n s e = argued s e

-- ---- what is noted of the two names

old-name : (n m : List ℕ) (left : ℕ) (seen : List Name) → same_list n m ≡ false → before m (record { name = n; left = left } ∷ seen) ≡ before m seen
unfolding before
old-name n m left seen e = otherwise _ e refl

new-name : (n m : List ℕ) (left : ℕ) (seen : List Name) → same_list n m ≡ true → before m (record { name = n; left = left } ∷ seen) ≡ some left
unfolding before
new-name n m left seen e = yes _ e

module _ {line : List ℕ} (at : ℕ) {n m : List ℕ} {seen : List Name} where
  note_mine : (v : List ℕ) → 0 < at → at ≤ length line → same_list n m ≡ true → Noted line at m (named n (drop at line) ∷ seen) (some v)
  note_mine v z h e =
      record {
        place = h;
        unseen = λ k. absurd (omega (arith, k));
        lacks = λ k. absurd (omega (arith, k));
        found = λ k. record { what = v; is = refl; known = new-name n m (length (drop at line)) seen e ∙ ap some (length-drop at line) };
      }

  note_other : {p : ℕ} {a : Option (List ℕ)} → same_list n m ≡ false → Noted line p m seen a → Noted line p m (named n (drop at line) ∷ seen) a
  note_other e o =
      record {
        place = o.place;
        unseen = λ k. old-name n m (length (drop at line)) seen e ∙ o.unseen k;
        lacks = o.lacks;
        found = λ k. let f = o.found k in record { what = f.what; is = f.is; known = old-name n m (length (drop at line)) seen e ∙ f.known };
      }

-- a name that is one of the two is none of the others
apart : (x : Bool) (n m : List ℕ) (w : Which) → (w ≡ Neither → ⊥) → which_of x n ≡ w → which_of x m ≡ Neither → same_list n m ≡ false
apart x n m w d e f =
    by (same_list n m) refl
  where
    by : (y : Bool) → same_list n m ≡ y → same_list n m ≡ false
    by true q = absurd (d (sym e ∙ ap (which_of x) (same-equal n m q) ∙ f))
    by false q = q

first-not : First ≡ Neither → ⊥
first-not e = let z : ◌≡◌ {A = ℕ} 0 1 = cc in omega arith

second-not : Second ≡ Neither → ⊥
second-not e = let z : ◌≡◌ {A = ℕ} 0 1 = cc in omega arith

module _ {line : List ℕ} {x : Bool} {at first second : ℕ} {n : List ℕ} {seen : List Name} {a b : Option (List ℕ)} (v : List ℕ) (z : 0 < at) (h : at ≤ length line) (t : Taken line x first second a b seen) where
  take-one : which_of x n ≡ First → Taken line x at second (some v) b (named n (drop at line) ∷ seen)
  take-one e =
      record {
        one = note_mine at v z h (is_one_lem x n e);
        two = note_other at (ap (λ (n : List ℕ). same_list n (second_of x)) (same-equal n (first_of x) (is_one_lem x n e)) ∙ one-two x) t.two;
        others = λ m k. old-name n m (length (drop at line)) seen (apart x n m First first-not e k) ∙ t.others m k;
      }

  take-two : which_of x n ≡ Second → Taken line x first at a (some v) (named n (drop at line) ∷ seen)
  take-two e =
      record {
        one = note_other at (ap (λ (n : List ℕ). same_list n (first_of x)) (same-equal n (second_of x) (is-two x n e)) ∙ two-one x) t.one;
        two = note_mine at v z h (is-two x n e);
        others = λ m k. old-name n m (length (drop at line)) seen (apart x n m Second second-not e k) ∙ t.others m k;
      }

-- ---- after a member

abbrev made : Bool → Option (List ℕ) → Option (List ℕ) → List (List ℕ × List ℕ) → List ℕ → Read J
made x a b ms rest = both (form_of x) (or_else a (member_of (first_of x) ms)) (or_else b (member_of (second_of x) ms)) rest

rest-is : (x : Bool) (a b : Option (List ℕ)) (turns : ℕ) (seen : List Name) (s : List ℕ) → rest_of x a b turns seen s ≡ then (members (is_one x) (value_by x) turns seen s) (λ ms rest. made x a b ms rest)
unfolding rest_of
rest-is x a b turns seen s = refl

or_none : (a : Option (List ℕ)) → or_else a none ≡ a
unfolding or_else
or_none none = refl
or_none (some v) = refl

choose-same : {A : Type 0} (c : Bool) {m n p q : A} → m ≡ n → p ≡ q → choose c m p ≡ choose c n q
unfolding choose
choose-same true e f = e
choose-same false e f = f

mine-is : (m n v : List ℕ) (a : Option (List ℕ)) (ms : List (List ℕ × List ℕ)) → a ≡ none → same_list n m ≡ true → or_else a (member_of m ((n, v) ∷ ms)) ≡ or_else (some v) (member_of m ms)
unfolding or_else member_of
mine-is m n v a ms q e = rw q (yes _ e)

other-is : (m n v : List ℕ) (a : Option (List ℕ)) (ms : List (List ℕ × List ℕ)) → same_list n m ≡ false → or_else a (member_of m ((n, v) ∷ ms)) ≡ or_else a (member_of m ms)
unfolding member_of
other-is m n v a ms e = ap (or_else a) (otherwise _ e refl)

-- a member's value goes to one of the two
module _ (x : Bool) (n v : List ℕ) (a b c d : Option (List ℕ)) (turns : ℕ) (names : List Name) where
  abbrev Goes : List ℕ → Option (List ℕ) → Option (List ℕ) → Type 0
  Goes m o p = (ms : List (List ℕ × List ℕ)) → or_else o (member_of m ((n, v) ∷ ms)) ≡ or_else p (member_of m ms)

  module _ (one : Goes (first_of x) a c) (two : Goes (second_of x) b d) where
    made-is : (ms : List (List ℕ × List ℕ)) (rest : List ℕ) → made x a b ((n, v) ∷ ms) rest ≡ made x c d ms rest
    made-is ms rest = ap (λ (o : Option (List ℕ)). both (form_of x) o (or_else b (member_of (second_of x) ((n, v) ∷ ms))) rest) (one ms) ∙ ap (λ (o : Option (List ℕ)). both (form_of x) (or_else c (member_of (first_of x) ms)) o rest) (two ms)

    made-last : (rest : List ℕ) → made x c d [] rest ≡ both (form_of x) c d rest
    unfolding member_of
    made-last rest = ap (λ (o : Option (List ℕ)). both (form_of x) o (or_else d none) rest) (or_none c) ∙ ap (λ (o : Option (List ℕ)). both (form_of x) c o rest) (or_none d)

    next-is : (s : List ℕ) → then (after_part 125 (n, v) (λ u. members (is_one x) (value_by x) turns names u) s) (λ ms rest. made x a b ms rest) ≡ next_of x c d turns names s
    unfolding next_of rest_of
    next-is [] = after_none (n, v) (λ u. members (is_one x) (value_by x) turns names u) (λ ms rest. made x a b ms rest) 125
    next-is (k ∷ s) =
        after-byte (n, v) (λ u. members (is_one x) (value_by x) turns names u) (λ ms rest. made x a b ms rest) 125 k s
        ∙ choose-same (eqb k 125) (made-is [] s ∙ made-last s) (choose-same (eqb k 44) (then_same (members (is_one x) (value_by x) turns names (blanks s)) made-is) refl)

-- ---- a member

after-again : (line : List ℕ) (name first : ℕ) (d : Bool) (s : List ℕ) → 0 < first → member_after line name first d s ≡ fault RepeatedName (length line - name) (length line - first)
unfolding member_after
after-again line name first d s h = yes _ (lt-ltb 0 first h)

after-new : (line : List ℕ) (name first : ℕ) (d : Bool) (s : List ℕ) → first ≡ 0 → member_after line name first d s ≡ then (want 58 (blanks s)) (λ colon rest. item_of d (blanks rest))
unfolding member_after
after-new line name first d s e = otherwise _ (le-ltb 0 first (omega (arith, e))) refl

module _ (line : List ℕ) (x : Bool) (at after : ℕ) {n : List ℕ} (seen : List Name) (a b : Option (List ℕ)) (e : string (drop at line) ≡ got n (drop after line)) (turns : ℕ) where
  abbrev names : List Name
  names = named n (drop at line) ∷ seen

  abbrev followed : (List ℕ → Option (List ℕ)) → (List ℕ → Option (List ℕ)) → List ℕ → List ℕ → Read J
  followed c d v t = next_of x (c v) (d v) turns names (blanks t)

  module _ (mine : List ℕ) (p : ℕ) (o : Option (List ℕ)) (dec : Bool) (c d : List ℕ → Option (List ℕ)) (m : same_list n mine ≡ true) (k : is_one x n ≡ true) (w : (s : List ℕ) → value_by x n s ≡ item_of dec s) (t : Noted line p mine seen o) where
    before-is : before n seen ≡ before mine seen
    before-is = ap (λ (n : List ℕ). before n seen) (same-equal n mine m)

    rest-again : 0 < p → rest_of x a b (suc turns) seen (drop at line) ≡ then (member_after line at p dec (drop after line)) (λ v t. followed c d v t)
    rest-again h =
        (rw (length-drop at line) at (rest-is x a b (suc turns) seen (drop at line) ∙ members-again (is_one x) (value_by x) turns seen (drop at line) (λ ms rest. made x a b ms rest) e (before-is ∙ (t.found h).known)))
        ∙ sym (then-fault (λ v t. followed c d v t) (after-again line at p dec (drop after line) h))

    rest-new : p ≡ 0 → ((v : List ℕ) → Goes x n v a b (c v) (d v) turns names (first_of x) a (c v)) → ((v : List ℕ) → Goes x n v a b (c v) (d v) turns names (second_of x) b (d v)) → rest_of x a b (suc turns) seen (drop at line) ≡ then (member_after line at p dec (drop after line)) (λ v t. followed c d v t)
    rest-new h f g =
        rest-is x a b (suc turns) seen (drop at line) ∙ members-new (is_one x) (value_by x) turns seen (drop at line) (λ ms rest. made x a b ms rest) e (before-is ∙ t.unseen h) k
        ∙ then_same (then (want 58 (blanks (drop after line))) (λ colon t. value_by x n (blanks t))) (λ v t. next-is x n v a b (c v) (d v) turns names (f v) (g v) (blanks t))
        ∙ ap (λ (r : Read (List ℕ)). then r (λ v t. followed c d v t)) (then_same (want 58 (blanks (drop after line))) (λ colon t. w (blanks t)) ∙ sym (after-new line at p dec (drop after line) h))

    rest-by : (p ≡ 0 → (v : List ℕ) → Goes x n v a b (c v) (d v) turns names (first_of x) a (c v)) → (p ≡ 0 → (v : List ℕ) → Goes x n v a b (c v) (d v) turns names (second_of x) b (d v)) → rest_of x a b (suc turns) seen (drop at line) ≡ then (member_after line at p dec (drop after line)) (λ v t. followed c d v t)
    rest-by f g =
        by p refl
      where
        by : (j : ℕ) → p ≡ j → rest_of x a b (suc turns) seen (drop at line) ≡ then (member_after line at p dec (drop after line)) (λ v t. followed c d v t)
        by zero q = rest-new q (f q) (g q)
        by (suc j) q = rest-again (omega (arith, q))

  module _ {first second : ℕ} (t : Taken line x first second a b seen) where
    rest-one : which_of x n ≡ First → rest_of x a b (suc turns) seen (drop at line) ≡ then (member_after line at first x (drop after line)) (λ v t. next_of x (some v) b turns names (blanks t))
    rest-one f =
        let m : same_list n (first_of x) ≡ true = is_one_lem x n f in
        let k : same_list n (second_of x) ≡ false = ap (λ (n : List ℕ). same_list n (second_of x)) (same-equal n (first_of x) m) ∙ one-two x in
        rest-by (first_of x) first a x (λ v. some v) (λ v. b) m (known-one x n m) (λ s. value-one x n s m) t.one
        (λ q v ms. mine-is (first_of x) n v a ms (t.one.lacks q) m)
        (λ q v ms. other-is (second_of x) n v b ms k)

    rest-two : which_of x n ≡ Second → rest_of x a b (suc turns) seen (drop at line) ≡ then (member_after line at second false (drop after line)) (λ v t. next_of x a (some v) turns names (blanks t))
    rest-two f =
        let m : same_list n (second_of x) ≡ true = is-two x n f in
        let k : same_list n (first_of x) ≡ false = ap (λ (n : List ℕ). same_list n (first_of x)) (same-equal n (second_of x) m) ∙ two-one x in
        rest-by (second_of x) second b false (λ v. a) (λ v. some v) m (known_two x n m) (λ s. value-two x n s k) t.two
        (λ q v ms. other-is (first_of x) n v a ms k)
        (λ q v ms. mine-is (second_of x) n v b ms (t.two.lacks q) m)

-- ---- a turn

ended-is : (s r : Result ℕ Bad) → ended s ≡ ended r → s ≡ r
ended-is (Ok e) (Ok f) q = let z : e ≡ f = cc in ap Ok z
ended-is (Ok e) (Err b) q = absurd (let z : ◌≡◌ {A = ℕ} 0 1 = cc in omega arith)
ended-is (Err b) (Ok e) q = absurd (let z : ◌≡◌ {A = ℕ} 0 1 = cc in omega arith)
ended-is (Err b) (Err d) q = let z : b ≡ d = cc in ap Err z

not-on : (s : Result ℕ Bad) (n : Two) → ended s ≡ Ok (On n) → ⊥
not-on (Ok e) n q = let z : ◌≡◌ {A = ℕ} 0 1 = cc in omega arith
not-on (Err b) n q = let z : ◌≡◌ {A = ℕ} 0 1 = cc in omega arith

module _ {line : List ℕ} {first second end : ℕ} where
  turn-done : {s : Result ℕ Bad} → ((x : Bool) (a b : Option (List ℕ)) (turns : ℕ) (seen : List Name) → Taken line x first second a b seen → Told line end s (next_of x a b turns seen (blanks (drop end line)))) → TurnTold line first second end (ended s)
  turn-done {s} g =
      record {
        done = λ r q x a b turns seen t. let z : s ≡ r = ended-is s r q in subst (λ (r : Result ℕ Bad). Told line end r (next_of x a b turns seen (blanks (drop end line)))) z (g x a b turns seen t);
        on = λ n q. absurd (not-on s n q);
      }

  turn_on : {n : Two} → Onward line first second end n → TurnTold line first second end (Ok (On n))
  turn_on {n} o =
      record {
        done = λ r q. absurd (not-on r n (sym q));
        on = λ m q. let z : n ≡ m = cc in subst (λ (m : Two). Onward line first second end m) z o;
      }

both_first : (x : Bool) (a b : Option (List ℕ)) (s : List ℕ) → a ≡ none → both (form_of x) a b s ≡ fault BadField (suc (length s)) (suc (length s))
unfolding both
both_first x a b s e = rw e

both-second : (x : Bool) (a b : Option (List ℕ)) (s : List ℕ) → b ≡ none → both (form_of x) a b s ≡ fault BadField (suc (length s)) (suc (length s))
unfolding both
both-second x none b s e = refl
both-second x (some v) b s e = rw e

both-there : (x : Bool) (a b : Option (List ℕ)) (s v w : List ℕ) → a ≡ some v → b ≡ some w → both (form_of x) a b s ≡ got (form_of x v w) s
unfolding both
both-there x a b s v w e f = rw (e, f)

above : (k : ℕ) → (k ≡ 0 → ⊥) → 0 < k
above zero d = absurd (d refl)
above (suc k) d = omega arith

-- wrong at the byte before what is left
wrong-before : {A : Type 0} {line : List ℕ} {at k : ℕ} {w : Fault} {m : Read A} → at < length line → m ≡ fault w (suc (length (drop (at + 1) line))) (suc (length (drop (at + 1) line))) → Told line k (Err (wrong w at)) m
wrong-before {A} {line} {at} {w = w} h e =
    let z : suc (length (drop (at + 1) line)) ≡ length line - at = omega (arith, length-drop (at + 1) line) in
    told_bad (record { place = omega arith; first = omega arith; is = rw z at e })

module _ {line : List ℕ} {end at : ℕ} (b : Blanks line end at) where
  here : (x : Bool) (a c : Option (List ℕ)) (turns : ℕ) (seen : List Name) → next_of x a c turns seen (blanks (drop end line)) ≡ next_of x a c turns seen (drop at line)
  here x a c turns seen = ap (next_of x a c turns seen) (sym b.is)

  pub turn-cut : {first second : ℕ} → length line ≤ at → TurnTold line first second end (Err (wrong NotJson at))
  unfolding next_of
  turn-cut h = turn-done {s = Err (wrong NotJson at)} (λ x a c turns seen t. wrong-here b.within (here x a c turns seen ∙ rw (drop_of_length-le line h)))

  module _ (h : at < length line) where
    here-byte : (x : Bool) (a c : Option (List ℕ)) (turns : ℕ) (seen : List Name) → next_of x a c turns seen (blanks (drop end line)) ≡ choose (eqb (get_or line at 0) 125) (both (form_of x) a c (drop (at + 1) line)) (choose (eqb (get_or line at 0) 44) (rest_of x a c turns seen (blanks (drop (at + 1) line))) (no NotJson (drop at line)))
    unfolding next_of
    here-byte x a c turns seen = here x a c turns seen ∙ rw (byte_at line at h)

    pub turn-comma : {first second next : ℕ} → get_or line at 0 ≡ 44 → Blanks line (at + 1) next → TurnTold line first second end (Ok (On (record { first = first; second = second; at = next })))
    turn-comma e d =
        turn_on
        (record {
          one = refl;
          two = refl;
          from = omega (arith, b.from, d.from);
          within = d.within;
          is = λ x a c turns seen. here-byte x a c turns seen ∙ otherwise _ (ne_eqb (get_or line at 0) 125 (λ z. omega (arith, z, e))) (yes _ (eq-eqb _ _ e)) ∙ ap (rest_of x a c turns seen) (sym d.is);
        })

    module _ (n : get_or line at 0 ≡ 44 → ⊥) where
      pub turn-other : {first second : ℕ} → (get_or line at 0 ≡ 125 → ⊥) → TurnTold line first second end (Err (wrong NotJson at))
      turn-other m = turn-done {s = Err (wrong NotJson at)} (λ x a c turns seen t. wrong-here b.within (here-byte x a c turns seen ∙ otherwise _ (ne_eqb _ _ m) (otherwise _ (ne_eqb _ _ n) refl)))

      module _ (e : get_or line at 0 ≡ 125) where
        closed : (x : Bool) (a c : Option (List ℕ)) (turns : ℕ) (seen : List Name) → next_of x a c turns seen (blanks (drop end line)) ≡ both (form_of x) a c (drop (at + 1) line)
        closed x a c turns seen = here-byte x a c turns seen ∙ yes _ (eq-eqb _ _ e)

        pub turn-no-first : {first second : ℕ} → first ≡ 0 → TurnTold line first second end (Err (wrong BadField at))
        turn-no-first z = turn-done {s = Err (wrong BadField at)} (λ x a c turns seen t. wrong-before h (closed x a c turns seen ∙ both_first x a c (drop (at + 1) line) (t.one.lacks z)))

        module _ {first second : ℕ} (f : first ≡ 0 → ⊥) where
          pub turn-no-second : second ≡ 0 → TurnTold line first second end (Err (wrong BadField at))
          turn-no-second z = turn-done {s = Err (wrong BadField at)} (λ x a c turns seen t. wrong-before h (closed x a c turns seen ∙ both-second x a c (drop (at + 1) line) (t.two.lacks z)))

          pub turn-both : (second ≡ 0 → ⊥) → TurnTold line first second end (Ok (Done (at + 1)))
          turn-both g =
              turn-done {s = Ok (at + 1)}
              (λ x a c turns seen t.
              let v = t.one.found (above first f) in
              let w = t.two.found (above second g) in
              told_at (record { what = form_of x v.what w.what; from = omega (arith, b.from); within = omega arith; is = closed x a c turns seen ∙ both-there x a c (drop (at + 1) line) v.what w.what v.is w.is }))

-- ---- a member and what follows it

moved : {line : List ℕ} {x : Bool} {p q r s : ℕ} {a b : Option (List ℕ)} {seen : List Name} → p ≡ r → q ≡ s → Taken line x r s a b seen → Taken line x p q a b seen
moved {line} {x} {p} {q} {r} {s} {a} {b} {seen} e f t = subst (λ (p : ℕ). Taken line x p q a b seen) (sym e) (subst (λ (q : ℕ). Taken line x r q a b seen) (sym f) t)

module _ (line : List ℕ) (t : Two) (x : Bool) where
  next-done : {s : Result ℕ Bad} → ((a b : Option (List ℕ)) (turns : ℕ) (seen : List Name) → Taken line x t.first t.second a b seen → Told line t.at s (rest_of x a b (suc turns) seen (drop t.at line))) → NextTold line t x (ended s)
  next-done {s} g =
      record {
        done = λ r q a b turns seen k. let z : s ≡ r = ended-is s r q in subst (λ (r : Result ℕ Bad). Told line t.at r (rest_of x a b (suc turns) seen (drop t.at line))) z (g a b turns seen k);
        on = λ n q. absurd (not-on s n q);
      }

  module _ {y : Result ℕ Bad} (s : Told line t.at y (string (drop t.at line))) where
    pub next-unread : {b : Bad} → y ≡ Err b → NextTold line t x (Err b)
    next-unread {b} e =
        let f = s.faulty _ e in
        next-done {s = Err b} (λ a b turns seen k. told_bad (record { place = f.place; first = f.first; is = rest-is x a b (suc turns) seen (drop t.at line) ∙ members-unread (is_one x) (value_by x) turns seen (drop t.at line) (λ ms rest. made x a b ms rest) f.is }))

    module _ {after : ℕ} {h : Which} (e : y ≡ Ok after) (k : WhichTold line t.at x h) where
      abbrev name : List ℕ
      name = (s.stands after e).what

      name-is : string (drop t.at line) ≡ got name (drop after line)
      name-is = (s.stands after e).is

      which-is : h ≡ which_of x name
      which-is = k name (drop after line) name-is

      pub next-neither : t.at ≤ length line → h ≡ Neither → NextTold line t x (Err (wrong BadField t.at))
      next-neither l f =
          let n : which_of x name ≡ Neither = sym which-is ∙ f in
          next-done {s = Err (wrong BadField t.at)} (λ a b turns seen k. wrong-here l (rest-is x a b (suc turns) seen (drop t.at line) ∙ members-unknown (is_one x) (value_by x) turns seen (drop t.at line) (λ ms rest. made x a b ms rest) name-is (k.others name n) (unknown x name n)))

      module _ {z : Result ℕ Bad} (f : h ≡ First) (m : Told line after z (member_after line t.at t.first x (drop after line))) where
        pub next-one_bad : {b : Bad} → z ≡ Err b → NextTold line t x (Err b)
        next-one_bad {b = v} g = next-done {s = Err v} (λ a b turns seen k. told_of {i = t.at} (omega arith) (rest-one line x t.at after seen a b name-is turns k (sym which-is ∙ f)) (then_bad (λ v u. next_of x (some v) b turns (named name (drop t.at line) ∷ seen) (blanks u)) m g))

        module _ {end : ℕ} {r : Result Turn Bad} (g : z ≡ Ok end) (u : TurnTold line t.at t.second end r) (l : t.at ≤ length line) (p : 0 < t.at) where
          abbrev one : List ℕ
          one = (m.stands end g).what

          one-is : (a b : Option (List ℕ)) (turns : ℕ) (seen : List Name) → Taken line x t.first t.second a b seen → rest_of x a b (suc turns) seen (drop t.at line) ≡ next_of x (some one) b turns (named name (drop t.at line) ∷ seen) (blanks (drop end line))
          one-is a b turns seen k = rest-one line x t.at after seen a b name-is turns k (sym which-is ∙ f) ∙ then_is (λ v u. next_of x (some v) b turns (named name (drop t.at line) ∷ seen) (blanks u)) (m.stands end g).is

          pub next_one : NextTold line t x r
          next_one =
              record {
                done = λ r q a b turns seen k. told_of (omega (arith, (s.stands after e).from, (m.stands end g).from)) (one-is a b turns seen k) (u.done r q x (some one) b turns (named name (drop t.at line) ∷ seen) (take-one one p l k (sym which-is ∙ f)));
                on =
                    λ n q a b seen k.
                    let o = u.on n q in
                    record {
                      one = some one;
                      two = b;
                      names = named name (drop t.at line) ∷ seen;
                      taken = moved o.one o.two (take-one one p l k (sym which-is ∙ f));
                      from = omega (arith, o.from, (s.stands after e).from, (m.stands end g).from);
                      within = o.within;
                      is = λ turns. one-is a b turns seen k ∙ o.is x (some one) b turns (named name (drop t.at line) ∷ seen);
                    };
              }

      module _ {z : Result ℕ Bad} (f : h ≡ Second) (m : Told line after z (member_after line t.at t.second false (drop after line))) where
        pub next-two_bad : {b : Bad} → z ≡ Err b → NextTold line t x (Err b)
        next-two_bad {b = v} g = next-done {s = Err v} (λ a b turns seen k. told_of {i = t.at} (omega arith) (rest-two line x t.at after seen a b name-is turns k (sym which-is ∙ f)) (then_bad (λ v u. next_of x a (some v) turns (named name (drop t.at line) ∷ seen) (blanks u)) m g))

        module _ {end : ℕ} {r : Result Turn Bad} (g : z ≡ Ok end) (u : TurnTold line t.first t.at end r) (l : t.at ≤ length line) (p : 0 < t.at) where
          abbrev two : List ℕ
          two = (m.stands end g).what

          two_is : (a b : Option (List ℕ)) (turns : ℕ) (seen : List Name) → Taken line x t.first t.second a b seen → rest_of x a b (suc turns) seen (drop t.at line) ≡ next_of x a (some two) turns (named name (drop t.at line) ∷ seen) (blanks (drop end line))
          two_is a b turns seen k = rest-two line x t.at after seen a b name-is turns k (sym which-is ∙ f) ∙ then_is (λ v u. next_of x a (some v) turns (named name (drop t.at line) ∷ seen) (blanks u)) (m.stands end g).is

          pub next-two : NextTold line t x r
          next-two =
              record {
                done = λ r q a b turns seen k. told_of (omega (arith, (s.stands after e).from, (m.stands end g).from)) (two_is a b turns seen k) (u.done r q x a (some two) turns (named name (drop t.at line) ∷ seen) (take-two two p l k (sym which-is ∙ f)));
                on =
                    λ n q a b seen k.
                    let o = u.on n q in
                    record {
                      one = a;
                      two = some two;
                      names = named name (drop t.at line) ∷ seen;
                      taken = moved o.one o.two (take-two two p l k (sym which-is ∙ f));
                      from = omega (arith, o.from, (s.stands after e).from, (m.stands end g).from);
                      within = o.within;
                      is = λ turns. two_is a b turns seen k ∙ o.is x a (some two) turns (named name (drop t.at line) ∷ seen);
                    };
              }

-- ---- all members

pub record Pairing (line : List ℕ) (at : ℕ) (x : Bool) (t : Two) : Type 0 where
  pub from : at ≤ t.at
  pub within : t.at ≤ length line
  pub turns : ℕ
  pub enough : length line - t.at < turns
  pub one : Option (List ℕ)
  pub two : Option (List ℕ)
  pub names : List Name
  pub taken : Taken line x t.first t.second one two names
  pub is : two_of x (drop at line) ≡ rest_of x one two turns names (drop t.at line)

after-brace : (x : Bool) (s t : List ℕ) → t ≡ blanks s → two_of x s ≡ then (unless_empty 125 (λ t. members (is_one x) (value_by x) (suc (length t)) [] t) t) (λ ms rest. both (form_of x) (member_of (first_of x) ms) (member_of (second_of x) ms) rest)
unfolding two_of object
after-brace x s t e = ap (λ (t : List ℕ). then (unless_empty 125 (λ t. members (is_one x) (value_by x) (suc (length t)) [] t) t) (λ ms rest. both (form_of x) (member_of (first_of x) ms) (member_of (second_of x) ms) rest)) (sym e)

none-taken : (line : List ℕ) (x : Bool) → Taken line x 0 0 none none []
unfolding before
none-taken line x = record { one = record { place = omega arith; unseen = λ k. refl; lacks = λ k. refl; found = λ k. absurd (omega arith) }; two = record { place = omega arith; unseen = λ k. refl; lacks = λ k. refl; found = λ k. absurd (omega arith) }; others = λ n k. refl }

module _ (x : Bool) {line : List ℕ} {at i : ℕ} (b : Blanks line at i) where
  pub two-cut : length line ≤ i → Told line at (Err (wrong NotJson i)) (two_of x (drop at line))
  unfolding unless_empty then
  two-cut h = wrong-here b.within (after-brace x (drop at line) (drop i line) b.is ∙ rw (drop_of_length-le line h))

  module _ (h : i < length line) where
    two-byte : two_of x (drop at line) ≡ then (choose (eqb (get_or line i 0) 125) (got [] (drop (i + 1) line)) (members (is_one x) (value_by x) (suc (length (drop i line))) [] (drop i line))) (λ ms rest. both (form_of x) (member_of (first_of x) ms) (member_of (second_of x) ms) rest)
    unfolding unless_empty
    two-byte = after-brace x (drop at line) (drop i line) b.is ∙ rw (byte_at line i h)

    pub two-empty : get_or line i 0 ≡ 125 → Told line at (Err (wrong BadField i)) (two_of x (drop at line))
    unfolding then member_of both
    two-empty e = wrong-before h (two-byte ∙ ap (λ (m : Read (List (List ℕ × List ℕ))). then m (λ ms rest. both (form_of x) (member_of (first_of x) ms) (member_of (second_of x) ms) rest)) (yes _ (eq-eqb _ _ e)))

    pub two-start : (get_or line i 0 ≡ 125 → ⊥) → Pairing line at x (record { first = 0; second = 0; at = i })
    unfolding rest_of or_else
    two-start n =
        record {
          from = b.from;
          within = b.within;
          turns = suc (length (drop i line));
          enough = omega (arith, length-drop i line);
          one = none;
          two = none;
          names = [];
          taken = none-taken line x;
          is = two-byte ∙ ap (λ (m : Read (List (List ℕ × List ℕ))). then m (λ ms rest. both (form_of x) (member_of (first_of x) ms) (member_of (second_of x) ms) rest)) (otherwise _ (ne_eqb _ _ n) refl);
        }

module _ {line : List ℕ} {at : ℕ} {x : Bool} {t : Two} (g : Pairing line at x t) where
  pub pair-within : t.at ≤ length line
  pair-within = g.within

  pub pair-first : t.first ≤ length line
  pair-first = g.taken.one.place

  pub pair-second : t.second ≤ length line
  pair-second = g.taken.two.place

  pub pair-above : 0 < at → 0 < t.at
  pair-above h = omega (arith, g.from)

  module _ {y : Result Turn Bad} (k : NextTold line t x y) where
    turned : two_of x (drop at line) ≡ rest_of x g.one g.two (suc (g.turns - 1)) g.names (drop t.at line)
    turned = let z : g.turns ≡ suc (g.turns - 1) = omega (arith, g.enough) in g.is ∙ ap (λ (n : ℕ). rest_of x g.one g.two n g.names (drop t.at line)) z

    pub two-done : {s : Turn} {e : ℕ} → y ≡ Ok s → s ≡ Done e → Told line at (Ok e) (two_of x (drop at line))
    two-done {e = e} p q = told_of g.from turned (k.done (Ok e) (p ∙ ap Ok q) g.one g.two (g.turns - 1) g.names g.taken)

    pub two_bad : {b : Bad} → y ≡ Err b → Told line at (Err b) (two_of x (drop at line))
    two_bad {b} p = told_of g.from turned (k.done (Err b) p g.one g.two (g.turns - 1) g.names g.taken)

    module _ {s : Turn} {n : Two} (p : y ≡ Ok s) (q : s ≡ On n) where
      abbrev far : Further line x t n g.one g.two g.names
      far = k.on n (p ∙ ap Ok q) g.one g.two g.names g.taken

      pub two-less : length line - n.at < length line - t.at
      two-less = omega (arith, far.from, far.within)

      pub two-more : Pairing line at x n
      two-more =
          record {
            from = omega (arith, g.from, far.from);
            within = far.within;
            turns = g.turns - 1;
            enough = omega (arith, g.enough, far.from, far.within);
            one = far.one;
            two = far.two;
            names = far.names;
            taken = far.taken;
            is = turned ∙ far.is (g.turns - 1);
          }
