-- The two names of a form, a member's value, and the form's only member
use Rattle.std.specs.Prelude.{Result, Ok, Err}
use mathlib.Core.Path.{◌≡◌, refl, sym, ap, ◌∙◌}
use mathlib.Core.Bool.{Bool, true, false, not}
use mathlib.Core.List.{List, [], ◌∷◌}
use Prim.Native.Nat.{ℕ, ◌+◌, ◌<◌, ◌≤◌}
use native.Mathlib.Omega.{arith}
use lib.Dec.{eqb}
use lib.ListN.{length, drop, get_or}
use borrow.Author.Tests.{eq-eqb, lt-ltb, le-ltb, not-true, not-false}
use Rattle.meaning.specs.Tests.{◌and◌, choose}
use Rattle.laws.specs.Tests.{yes, no as otherwise}
use Rattle.meaning.specs.Equal.{same_list}
use Rattle.jsontext.specs.declared.Fault.{Fault}
use Rattle.jsontext.specs.declared.Fault.TheVariants.{NotJson, RepeatedName, BadField}
use Rattle.jsontext.specs.declared.Bad.{Bad}
use Rattle.jsontext.specs.Reading.{Read, got, then, no, blanks, want, wrong}
use Rattle.jsontext.specs.Strings.{string}
use Rattle.jsontext.specs.Values.{J, begins, due, text, «type», «id», «fn», «arg», «decimal», entity, extension, only}
use Rattle.jsonread.specs.Told.{Told, Blanks}
use Rattle.jsonread.specs.Spelling.{WordTold}
use Rattle.jsonread.proofs.Places.{byte_at, told_at, told_bad, wrong-here, told_of, then_is}
use Rattle.jsonread.proofs.Chars.{told_more}
use Rattle.jsonread.proofs.Firsts.{due-end, due-there, due-not}
use Rattle.jsonpairs.specs.declared.Which.TheVariants.{First, Second, Neither}
use Rattle.jsonpairs.specs.Pairs.{only_of, first_of, second_of, which_of, WhichTold, is_one, value_by, form_of, two_of, inside_of, item_of, member_after}
use Rattle.jsonread.proofs.Then.{then_bad, then-on, after-blanks}

-- ---- which of the two names

module _ (x : Bool) (n : List ℕ) where
  which-first : same_list n (first_of x) ≡ true → First ≡ which_of x n
  unfolding which_of
  which-first e = sym (yes _ e)

  module _ (f : same_list n (first_of x) ≡ false) where
    which-second : same_list n (second_of x) ≡ true → Second ≡ which_of x n
    unfolding which_of
    which-second e = sym (otherwise _ f (yes _ e))

    which-neither : same_list n (second_of x) ≡ false → Neither ≡ which_of x n
    unfolding which_of
    which-neither e = sym (otherwise _ f (otherwise _ e refl))

first_fn : {x : Bool} (n : List ℕ) → x ≡ true → same_list n (first_of x) ≡ same_list n «fn»
unfolding first_of
first_fn n e = rw e

second_arg : {x : Bool} (n : List ℕ) → x ≡ true → same_list n (second_of x) ≡ same_list n «arg»
unfolding second_of
second_arg n e = rw e

first-type : {x : Bool} (n : List ℕ) → x ≡ false → same_list n (first_of x) ≡ same_list n «type»
unfolding first_of
first-type n e = rw e

second-id : {x : Bool} (n : List ℕ) → x ≡ false → same_list n (second_of x) ≡ same_list n «id»
unfolding second_of
second-id n e = rw e

module _ (line : List ℕ) (at : ℕ) {x y : Bool} (e : x ≡ true) (t : WordTold line at «fn» y) where
  pub is_fn : y ≡ true → WhichTold line at x First
  is_fn h n rest q = which-first x n (first_fn n e ∙ sym (t n rest q) ∙ h)

  module _ (h : y ≡ false) {z : Bool} (u : WordTold line at «arg» z) where
    pub is_arg : z ≡ true → WhichTold line at x Second
    is_arg k n rest q = which-second x n (first_fn n e ∙ sym (t n rest q) ∙ h) (second_arg n e ∙ sym (u n rest q) ∙ k)

    pub no_fn_arg : z ≡ false → WhichTold line at x Neither
    no_fn_arg k n rest q = which-neither x n (first_fn n e ∙ sym (t n rest q) ∙ h) (second_arg n e ∙ sym (u n rest q) ∙ k)

module _ (line : List ℕ) (at : ℕ) {x y : Bool} (e : x ≡ false) (t : WordTold line at «type» y) where
  pub is-type : y ≡ true → WhichTold line at x First
  is-type h n rest q = which-first x n (first-type n e ∙ sym (t n rest q) ∙ h)

  module _ (h : y ≡ false) {z : Bool} (u : WordTold line at «id» z) where
    pub is-id : z ≡ true → WhichTold line at x Second
    is-id k n rest q = which-second x n (first-type n e ∙ sym (t n rest q) ∙ h) (second-id n e ∙ sym (u n rest q) ∙ k)

    pub no-type-id : z ≡ false → WhichTold line at x Neither
    no-type-id k n rest q = which-neither x n (first-type n e ∙ sym (t n rest q) ∙ h) (second-id n e ∙ sym (u n rest q) ∙ k)

-- ---- a member's value

text-string : (s t rest : List ℕ) → text s ≡ got t rest → string s ≡ got t rest
unfolding due choose
text-string [] t rest e = cc
text-string (c ∷ s) t rest e =
    go (eqb c 34) (begins c) e
  where
    go : (x y : Bool) → choose x (string (c ∷ s)) (choose y (no BadField (c ∷ s)) (no NotJson (c ∷ s))) ≡ got t rest → string (c ∷ s) ≡ got t rest
    go true y e = e
    go false true e = cc
    go false false e = cc

abbrev kept : Bool → List ℕ → List ℕ → List ℕ → Read (List ℕ)
kept d s t rest = choose (d and not (same_list t «decimal»)) (no BadField s) (got t rest)

item-is : (d : Bool) (s : List ℕ) → item_of d s ≡ then (text s) (λ t rest. kept d s t rest)
unfolding item_of
item-is d s = refl

module _ (d : Bool) {line : List ℕ} {at : ℕ} {x : Result ℕ Bad} (t : Told line at x (text (drop at line))) where
  pub item-unread : {b : Bad} → x ≡ Err b → Told line at (Err b) (item_of d (drop at line))
  item-unread e = told_of {i = at} (omega arith) (item-is d (drop at line)) (then_bad (λ t rest. kept d (drop at line) t rest) t e)

  module _ {e : ℕ} (q : x ≡ Ok e) where
    abbrev what : List ℕ
    what = (t.stands e q).what

    value : item_of d (drop at line) ≡ kept d (drop at line) what (drop e line)
    value = item-is d (drop at line) ∙ then_is (λ t rest. kept d (drop at line) t rest) (t.stands e q).is

    taken : (d and not (same_list what «decimal»)) ≡ false → Told line at (Ok e) (item_of d (drop at line))
    taken k = told_at (record { what = what; from = (t.stands e q).from; within = (t.stands e q).within; is = value ∙ otherwise _ k refl })

    pub item-any : not d ≡ true → Told line at (Ok e) (item_of d (drop at line))
    unfolding ◌and◌
    item-any n = taken (ap (λ (d : Bool). d and not (same_list what «decimal»)) (not-true d n))

    module _ {y : Bool} (n : not d ≡ false) (w : WordTold line at «decimal» y) where
      tested : (d and not (same_list what «decimal»)) ≡ not y
      unfolding ◌and◌
      tested = ap (λ (d : Bool). d and not (same_list what «decimal»)) (not-false d n) ∙ ap not (sym (w what (drop e line) (text-string (drop at line) what (drop e line) (t.stands e q).is)))

      pub item-decimal : y ≡ true → Told line at (Ok e) (item_of d (drop at line))
      item-decimal k = taken (tested ∙ ap not k)

      pub item_another : at ≤ length line → y ≡ false → Told line at (Err (wrong BadField at)) (item_of d (drop at line))
      item_another h k = wrong-here h (value ∙ yes _ (tested ∙ ap not k))

-- ---- a member after its name

module _ (line : List ℕ) (name after first : ℕ) (d : Bool) where
  pub member-again : name ≤ length line → first ≤ length line → 0 < first → Told line after (Err (record { fault = RepeatedName; at = name; first = first })) (member_after line name first d (drop after line))
  unfolding member_after
  member-again n f h = told_bad (record { place = n; first = f; is = yes _ (lt-ltb 0 first h) })

  module _ (h : first ≤ 0) {k : ℕ} {x : Result ℕ Bad} (b : Blanks line after k) (t : Told line k x (want 58 (drop k line))) where
    new_is : member_after line name first d (drop after line) ≡ then (want 58 (blanks (drop after line))) (λ colon rest. item_of d (blanks rest))
    unfolding member_after
    new_is = otherwise _ (le-ltb 0 first h) refl

    abbrev reads : List ℕ → Read (List ℕ)
    reads s = then (want 58 s) (λ colon rest. item_of d (blanks rest))

    pub member-colon : {b : Bad} → x ≡ Err b → Told line after (Err b) (member_after line name first d (drop after line))
    member-colon e = told_of (omega arith) new_is (after-blanks reads b (then_bad (λ colon rest. item_of d (blanks rest)) t e))

    pub member-value : {c v : ℕ} {r : Result ℕ Bad} → x ≡ Ok c → Blanks line c v → Told line v r (item_of d (drop v line)) → Told line after r (member_after line name first d (drop after line))
    member-value e l u = told_of (omega arith) new_is (after-blanks reads b (then-on (λ colon rest. item_of d (blanks rest)) t e (after-blanks (item_of d) l u)))

-- ---- the object of the two, and the only member

brace-is : (x : Bool) (line : List ℕ) (at : ℕ) → at < length line → get_or line at 0 ≡ 123 → inside_of x (drop at line) ≡ two_of x (drop (at + 1) line)
unfolding inside_of want then
brace-is x line at h e = rw (byte_at line at h) (ap (λ (m : Read ℕ). then m (λ brace rest. two_of x rest)) (yes _ (eq-eqb _ _ e)))

module _ (line : List ℕ) (at : ℕ) (x : Bool) where
  pub inside-end : at ≤ length line → length line ≤ at → Told line at (Err (wrong NotJson at)) (due BadField (λ c. eqb c 123) (inside_of x) (drop at line))
  inside-end h l = due-end BadField (λ c. eqb c 123) (inside_of x) line at h l

  module _ (h : at < length line) where
    pub inside-not : {f : Fault} → (get_or line at 0 ≡ 123 → ⊥) → f ≡ choose (begins (get_or line at 0)) BadField NotJson → Told line at (Err (wrong f at)) (due BadField (λ c. eqb c 123) (inside_of x) (drop at line))
    inside-not n q = due-not BadField 123 (inside_of x) line at h n q

    pub inside-there : {r : Result ℕ Bad} → get_or line at 0 ≡ 123 → Told line (at + 1) r (two_of x (drop (at + 1) line)) → Told line at r (due BadField (λ c. eqb c 123) (inside_of x) (drop at line))
    inside-there e t = due-there BadField 123 (inside_of x) line at h e (told_of (omega arith) (brace-is x line at h e) t)

abbrev lastly : J → List ℕ → Read J
lastly j rest = then (want 125 (blanks rest)) (λ brace rest. got j rest)

abbrev inner : Bool → List ℕ → Read J
inner x s = then (due BadField (λ c. eqb c 123) (inside_of x) s) (λ j rest. lastly j rest)

abbrev coloned : Bool → List ℕ → Read J
coloned x s = then (want 58 s) (λ colon rest. inner x (blanks rest))

abbrev name_of : Bool → List ℕ → Read J
name_of x s = then (string s) (λ n rest. coloned x (blanks rest))

only-is : (x : Bool) (s : List ℕ) → only_of x s ≡ name_of x (blanks s)
unfolding only_of only entity extension inside_of two_of is_one value_by form_of first_of second_of
only-is false s = refl
only-is true s = refl

module _ (x : Bool) {line : List ℕ} {at name : ℕ} {y : Result ℕ Bad} (b : Blanks line at name) (t : Told line name y (string (drop name line))) where
  from-name : {r : Result ℕ Bad} → Told line name r (name_of x (drop name line)) → Told line at r (only_of x (drop at line))
  from-name u = told_of {i = at} (omega arith) (only-is x (drop at line)) (after-blanks (name_of x) b u)

  pub only-unread : {b : Bad} → y ≡ Err b → Told line at (Err b) (only_of x (drop at line))
  only-unread e = from-name (then_bad (λ n rest. coloned x (blanks rest)) t e)

  module _ {after c : ℕ} {z : Result ℕ Bad} (e : y ≡ Ok after) (k : Blanks line after c) (u : Told line c z (want 58 (drop c line))) where
    from-colon : {r : Result ℕ Bad} → Told line c r (coloned x (drop c line)) → Told line at r (only_of x (drop at line))
    from-colon v = from-name (then-on (λ n rest. coloned x (blanks rest)) t e (after-blanks (coloned x) k v))

    pub only-colon : {b : Bad} → z ≡ Err b → Told line at (Err b) (only_of x (drop at line))
    only-colon f = from-colon (then_bad (λ colon rest. inner x (blanks rest)) u f)

    module _ {d v : ℕ} {i : Result ℕ Bad} (f : z ≡ Ok d) (l : Blanks line d v) (m : Told line v i (due BadField (λ c. eqb c 123) (inside_of x) (drop v line))) where
      from-value : {r : Result ℕ Bad} → Told line v r (inner x (drop v line)) → Told line at r (only_of x (drop at line))
      from-value g = from-colon (then-on (λ colon rest. inner x (blanks rest)) u f (after-blanks (inner x) l g))

      pub only-inside : {b : Bad} → i ≡ Err b → Told line at (Err b) (only_of x (drop at line))
      only-inside g = from-value (then_bad (λ j rest. lastly j rest) m g)

      pub only-last : {a o : ℕ} {r : Result ℕ Bad} → i ≡ Ok a → Blanks line a o → Told line o r (want 125 (drop o line)) → Told line at r (only_of x (drop at line))
      only-last {a} g h w = from-value (then-on (λ j rest. lastly j rest) m g (after-blanks (λ s. then (want 125 s) (λ brace rest. got (m.stands a g).what rest)) h (told_more (λ brace. (m.stands a g).what) w)))
