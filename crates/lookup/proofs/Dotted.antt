-- Names with dots: a text that joins names, the string behind a name, and the search from member to member
use mathlib.Core.Path.{◌≡◌, refl, sym, ◌∙◌, ap, ap₂}
use mathlib.Core.Bool.{Bool, true, false, not}
use mathlib.Core.List.{List, [], ◌∷◌, ◌++◌, map}
use Prim.Native.Nat.{ℕ, zero, suc, ◌+◌, ◌-◌, ◌<◌, ◌≤◌}
use native.Mathlib.Omega.{arith}
use lib.Dec.{eqb}
use lib.ListN.{length, length-append, get_or, drop, length-drop}
use lib.Seq.{drop-drop}
use borrow.Author.Tests.{eqb-true, eq-eqb, ne_eqb, not-true, not-false}
use Rattle.meaning.specs.declared.Run.{Run}
use Rattle.meaning.specs.Tests.{◌and◌}
use Rattle.meaning.specs.Case.{list, text, places, case_of}
use Rattle.meaning.specs.Meaning.{names}
use Rattle.laws.specs.Tests.{both, stop, skip, after, yes, no}
use Rattle.laws.specs.Lists.{open_at, shut_at}
use Rattle.lookup.specs.declared.After.{After}
use Rattle.lookup.specs.declared.After.TheVariants.{End, Dot, Other}
use Rattle.lookup.specs.Dotted.{rest, begins, more, ahead, behind_name, from_name, joins, counted, Behind}
use Rattle.lookup.proofs.Reach.{names-are}
use Rattle.equality.specs.Places.{open_place, shut-place}

-- ---- the names that are left

module _ (s : List ℕ) (path : Run) where
  pub rest_open : (from : ℕ) → from < path.count → rest s path from ≡ list s (path.first + from) ∷ rest s path (from + 1)
  rest_open from h =
      let x : path.first + (from + 1) ≡ path.first + from + 1 = omega arith in
      ap (map (list s)) (open_place (path.first + from) 1 path.count from (path.first + (from + 1)) h x)

  pub rest-shut : (from : ℕ) → path.count ≤ from → rest s path from ≡ []
  rest-shut from h = ap (map (list s)) (shut-place (path.first + from) 1 path.count from h)

  drop-places : (k a n : ℕ) → drop k (map (list s) (places a 1 n)) ≡ map (list s) (places (a + k) 1 (n - k))
  unfolding places
  drop-places zero a n =
      let x : a + 0 ≡ a = omega arith in
      let y : n - 0 ≡ n = omega arith in
      rw (x, y) refl
  drop-places (suc k) a zero = let y : 0 - suc k ≡ 0 = omega arith in rw y refl
  drop-places (suc k) a (suc n) =
      let x : a + suc k ≡ a + 1 + k = omega arith in
      let y : suc n - suc k ≡ n - k = omega arith in
      rw (x, y) (drop-places k (a + 1) n)

  pub rest-drop : (k from : ℕ) → drop k (rest s path from) ≡ rest s path (from + k)
  rest-drop k from =
      let x : path.first + (from + k) ≡ path.first + from + k = omega arith in
      let y : path.count - (from + k) ≡ path.count - from - k = omega arith in
      rw (x, y) (drop-places k (path.first + from) (path.count - from))

  pub rest_all : rest s path 0 ≡ names (case_of s) path
  rest_all =
      let x : path.first + 0 ≡ path.first = omega arith in
      let y : path.count - 0 ≡ path.count = omega arith in
      rw (x, y) (sym (names-are s path path.first path.count refl refl))

-- ---- whether a name stands in a text

-- the name's bytes from i on, held against those of t from i on
pub record StandsFrom (t : List ℕ) (at : ℕ) (name : List ℕ) (i : ℕ) : Type 0 where
  pub inside : i ≤ length name
  pub room : length name ≤ length t - at
  pub start : at ≤ length t
  pub same : begins (drop i name) (drop (at + i) t) ≡ begins name (drop at t)

longer : (name t : List ℕ) → length t < length name → begins name t ≡ false
unfolding begins
longer [] t h = absurd (omega arith)
longer (x ∷ name) [] h = refl
longer (x ∷ name) (y ∷ t) h = skip (eqb y x) (longer name t (omega arith))

module _ (t : List ℕ) (at : ℕ) (name : List ℕ) where
  pub stands-short : length t - at < length name → false ≡ begins name (drop at t)
  stands-short h = sym (longer name (drop at t) (omega (arith, length-drop at t)))

  pub stands-start : at ≤ length t → length name ≤ length t - at → StandsFrom t at name 0
  stands-start h l =
      let z : at + 0 ≡ at = omega arith in
      record { inside = omega arith; room = l; start = h; same = rw z refl }

  module _ {i : ℕ} (g : StandsFrom t at name i) where
    byte : i < length name → begins (drop i name) (drop (at + i) t) ≡ (eqb (get_or t (at + i) 0) (get_or name i 0) and begins (drop (i + 1) name) (drop (at + (i + 1)) t))
    unfolding begins
    byte h =
        let z : at + (i + 1) ≡ at + i + 1 = omega arith in
        rw (open_at name i h, open_at t (at + i) (omega (arith, g.room, g.start)), z) refl

    pub stands-no : i < length name → (get_or t (at + i) 0 ≡ get_or name i 0 → ⊥) → false ≡ begins name (drop at t)
    stands-no h ne = sym (sym g.same ∙ byte h ∙ stop _ (ne_eqb _ _ ne))

    pub stands-yes : i < length name → get_or t (at + i) 0 ≡ get_or name i 0 → StandsFrom t at name (i + 1)
    stands-yes h e = record { inside = omega arith; room = g.room; start = g.start; same = sym (sym g.same ∙ byte h ∙ after (eq-eqb _ _ e)) }

    pub stands-end : length name ≤ i → true ≡ begins name (drop at t)
    unfolding begins
    stands-end h = (rw (shut_at name i h) at g.same)

-- ---- what is behind it

pub begun : (name t : List ℕ) → begins name t ≡ true → t ≡ name ++ drop (length name) t
unfolding begins
begun [] t e = refl
begun (x ∷ name) [] e = cc
begun (x ∷ name) (y ∷ t) e =
    let h = both (eqb y x) (begins name t) e in
    ap₂ (λ (a : ℕ) (l : List ℕ). a ∷ l) (eqb-true y x h.0) (begun name t h.1)

fits : (name t : List ℕ) → begins name t ≡ true → length name ≤ length t
fits name t e = omega (arith, ap length (begun name t e) ∙ length-append name (drop (length name) t))

module _ (t : List ℕ) (at : ℕ) (name : List ℕ) (h : at ≤ length t) (r : Bool) (er : r ≡ begins name (drop at t)) where
  pub behind-room : not r ≡ false → at + length name ≤ length t
  behind-room e = omega (arith, h, fits name (drop at t) (sym er ∙ not-false r e), length-drop at t)

  by_name : (of : List ℕ → ℕ) (l : List ℕ) → begins name (drop at t) ≡ true → drop (at + length name) t ≡ l → from_name of name (drop at t) ≡ behind_name of l
  unfolding from_name
  by_name of l e d = yes 0 e ∙ ap (behind_name of) (drop-drop (length name) at t ∙ d)

  pub behind-no : not r ≡ true → Behind t at name Other
  unfolding from_name counted
  behind-no e = record { is = λ of. no _ (sym er ∙ not-true r e) refl; inside = λ next q. absurd (other q) }
    where
      other : {next : ℕ} → Other ≡ Dot next → ⊥
      other q = let z : ◌≡◌ {A = ℕ} 0 1 = cc q in omega arith

  module _ (e : not r ≡ false) where
    there : begins name (drop at t) ≡ true
    there = sym er ∙ not-false r e

    pub behind-end : at + length name ≡ length t → Behind t at name End
    unfolding behind_name counted
    behind-end q = record { is = λ of. by_name of [] there (shut_at t (at + length name) (omega arith)); inside = λ next z. absurd (other z) }
      where
        other : {next : ℕ} → End ≡ Dot next → ⊥
        other q = let z : ◌≡◌ {A = ℕ} 0 1 = cc q in omega arith

    module _ (ne : at + length name ≡ length t → ⊥) where
      open_end : drop (at + length name) t ≡ get_or t (at + length name) 0 ∷ drop (at + length name + 1) t
      open_end = open_at t (at + length name) (omega (arith, behind-room e))

      pub behind-byte : at + length name < length t
      behind-byte = omega (arith, behind-room e)

      pub behind-other : (get_or t (at + length name) 0 ≡ 46 → ⊥) → Behind t at name Other
      unfolding behind_name counted
      behind-other nd = record { is = λ of. by_name of _ there open_end ∙ no _ (ne_eqb _ _ nd) refl; inside = λ next q. absurd (other q) }
        where
          other : {next : ℕ} → Other ≡ Dot next → ⊥
          other q = let z : ◌≡◌ {A = ℕ} 0 1 = cc q in omega arith

      pub behind-dot : get_or t (at + length name) 0 ≡ 46 → Behind t at name (Dot (at + length name + 1))
      unfolding behind_name counted
      behind-dot ed = record { is = λ of. by_name of _ there open_end ∙ yes 0 (eq-eqb _ _ ed); inside = λ next q. same next q }
        where
          same : (next : ℕ) → Dot (at + length name + 1) ≡ Dot next → next ≤ length t
          same next q = let z : at + length name + 1 ≡ next = cc q in omega (arith, behind-room e)

-- ---- how many names a string joins

-- the names of a run of the lists
abbrev run : List ℕ → ℕ → ℕ → List ℕ
run s first left = map (list s) (places first 1 left)

pub record JoinsFrom (s t : List ℕ) (first left at k : ℕ) : Type 0 where
  pub inside : k ≤ left
  pub start : at ≤ length t
  pub sum : joins (case_of s) t (run s first left) ≡ ahead k (joins (case_of s) (drop at t) (run s (first + k) (left - k)))

ahead_none : (j : ℕ) → ahead 0 j ≡ j
unfolding ahead
ahead_none zero = refl
ahead_none (suc j) = omega arith

ahead_more : (k j : ℕ) → ahead k (more j) ≡ ahead (k + 1) j
unfolding ahead more
ahead_more k zero = refl
ahead_more k (suc j) = omega arith

pub joins-start : (s t : List ℕ) (first left : ℕ) → JoinsFrom s t first left 0 0
joins-start s t first left =
    let y : first + 0 ≡ first = omega arith in
    let z : left - 0 ≡ left = omega arith in
    record { inside = omega arith; start = omega arith; sum = rw (y, z) (sym (ahead_none _)) }

pub joins-inside : (s t x : List ℕ) (first left at k : ℕ) → JoinsFrom s t first left at k → x ≡ t → at ≤ length x
joins-inside s t x first left at k g e = rw e g.start

-- the run is the path's, from one of its names on
module _ (s t : List ℕ) (path : Run) (from f w at k : ℕ) (ef : f ≡ path.first) (ew : w ≡ path.count) (g : JoinsFrom s t (f + from) (w - from) at k) where
  is-rest : joins (case_of s) t (run s (f + from) (w - from)) ≡ joins (case_of s) t (rest s path from)
  is-rest = rw (ef, ew) refl

  pub joins-end : w - from ≤ k → 0 ≡ joins (case_of s) t (rest s path from)
  unfolding joins ahead
  joins-end h = sym (sym is-rest ∙ g.sum ∙ ap (λ (l : List ℕ). ahead k (joins (case_of s) (drop at t) (map (list s) l))) (shut-place (f + from + k) 1 (w - from) k h))

module _ (s t : List ℕ) (first left at k : ℕ) (g : JoinsFrom s t first left at k) (name : ℕ) (h : k < left) (en : name ≡ list s (first + k)) (r : After) (x y : List ℕ) (ex : x ≡ t) (ey : y ≡ text s name) (by : Behind x at y r) where
  b : Behind t at (text s name) r
  b = rw (← ex, ← ey) by

  next-names : joins (case_of s) (drop at t) (run s (first + k) (left - k)) ≡ counted (λ l. joins (case_of s) l (run s (first + (k + 1)) (left - (k + 1)))) t r
  unfolding joins case_of
  next-names =
      let z : first + (k + 1) ≡ first + k + 1 = omega arith in
      ap (λ (l : List ℕ). joins (case_of s) (drop at t) (map (list s) l)) (open_place (first + k) 1 left k (first + (k + 1)) h z)
      ∙ rw (← en) (b.is (λ l. joins (case_of s) l (run s (first + (k + 1)) (left - (k + 1)))))

  so_far : joins (case_of s) t (run s first left) ≡ ahead k (counted (λ l. joins (case_of s) l (run s (first + (k + 1)) (left - (k + 1)))) t r)
  so_far = g.sum ∙ ap (ahead k) next-names

  joins-here : r ≡ End → joins (case_of s) t (run s first left) ≡ k + 1
  unfolding counted ahead
  joins-here e = so_far ∙ rw e refl

  joins-other : r ≡ Other → joins (case_of s) t (run s first left) ≡ 0
  unfolding counted ahead
  joins-other e = so_far ∙ rw e refl

  pub joins-on : (next : ℕ) → r ≡ Dot next → JoinsFrom s t first left next (k + 1)
  unfolding counted
  joins-on next e = record { inside = omega arith; start = b.inside next e; sum = so_far ∙ rw e (ahead_more k (joins (case_of s) (drop next t) (run s (first + (k + 1)) (left - (k + 1))))) }

module _ (s t : List ℕ) (path : Run) (from f w at k : ℕ) (ef : f ≡ path.first) (ew : w ≡ path.count) (g : JoinsFrom s t (f + from) (w - from) at k) (name : ℕ) (h : k < w - from) (en : name ≡ list s (f + from + k)) (r : After) (x y : List ℕ) (ex : x ≡ t) (ey : y ≡ text s name) (by : Behind x at y r) where
  pub joined-so-many : r ≡ End → k + 1 ≡ joins (case_of s) t (rest s path from)
  joined-so-many e = sym (sym (is-rest s t path from f w at k ef ew g) ∙ joins-here s t (f + from) (w - from) at k g name h en r x y ex ey by e)

  pub joined-none : r ≡ Other → 0 ≡ joins (case_of s) t (rest s path from)
  joined-none e = sym (sym (is-rest s t path from f w at k ef ew g) ∙ joins-other s t (f + from) (w - from) at k g name h en r x y ex ey by e)
