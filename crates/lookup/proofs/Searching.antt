-- The search from member to member, the last first; plain steps where no string joins a name with the next; and the table of what led nowhere
use mathlib.Core.Path.{◌≡◌, refl, sym, ◌∙◌, ap}
use mathlib.Core.Bool.{Bool, true, false, not}
use mathlib.Core.List.{List, [], ◌∷◌, ◌++◌, map, append-nil}
use mathlib.Core.Option.{Option, none, some}
use Prim.Native.Nat.{ℕ, zero, suc, ◌+◌, ◌*◌, ◌-◌, ◌/◌, ◌%◌, ◌<◌, ◌≤◌}
use native.Mathlib.Omega.{arith}
use lib.Dec.{eqb, ltb, leb}
use lib.ListN.{length, length-append, get_or, set, replicate, take, drop, length-set, length-replicate}
use lib.Seq.{drop-append_seam, get_or-set_same, get_or-set_other}
use borrow.Author.Tests.{eqb-true, eqb-false, eq-eqb, ltb-true, ltb-false, leb-false, lt-ltb, le-leb, lt-leb, le-ltb, not-true}
use Rattle.meaning.specs.declared.Run.{Run}
use Rattle.meaning.specs.declared.ValNo.{ValNo}
use Rattle.meaning.specs.Tests.{◌and◌, ◌or◌, choose, pick, or_else}
use Rattle.meaning.specs.Text.{before}
use Rattle.meaning.specs.Case.{Case, Part, size as body_size, strings, list, text, places, value_word, member_word, value_at, part_at, case_of}
use Rattle.meaning.specs.Check.{Checked, path_run}
use Rattle.meaning.specs.Equal.{same_list, bound_of}
use Rattle.meaning.specs.Look.{named, members, descend, dotted, lookup, bound_at}
use Rattle.meaning.specs.Rows.{in_cells}
use Rattle.meaning.specs.Meaning.{names}
use Rattle.laws.specs.Tests.{both, stop, skip, pass, after, and_assoc, all-at}
use Rattle.laws.specs.Lists.{Every, every_map}
use Rattle.laws.specs.Text.{same-list, not_equal, not-before}
use Rattle.laws.specs.Search.{Rising, joined, onward, longest, search_by, search, taken, taken_none, longest-none, one_more}
use Rattle.laws.specs.Searched.{strings-rise, members-rise, lookup-is, search_is, called-number, called-nowhere, names_of, path-plain}
use Rattle.equality.specs.Places.{open_place}
use Rattle.std.specs.Prelude.{Option as Maybe, Some, None}
use Rattle.lookup.specs.declared.Span.{Span}
use Rattle.lookup.specs.Paths.{found_at}
use Rattle.lookup.specs.Dotted.{rest, begins, more, behind_name, from_name, joins, goes_on, may_join, plain_names, key_of, Failed, Ready, Spans, Sought, Missed}
use Rattle.lookup.proofs.Members.{part, no-members, members-are}
use Rattle.lookup.proofs.Reach.{descend-by, names-are}
use Rattle.lookup.proofs.Dotted.{begun, rest_open, rest-shut, rest-drop, rest_all}

-- ---- a text joins names just if the code counts them

module _ (c : Case) where
  dotted-behind : (i : ℕ) (ns : List ℕ) → i < length ns → dotted c (take (suc i) ns) ≡ 46 ∷ joined c (take (suc i) ns)
  unfolding dotted joined
  dotted-behind i [] h = absurd (omega arith)
  dotted-behind i (m ∷ ms) h = refl

  self_begins : (name r : List ℕ) → begins name (name ++ r) ≡ true
  unfolding begins
  self_begins [] r = refl
  self_begins (x ∷ name) r = pass (eq-eqb x x refl) (self_begins name r)

  pub joins-all : (path : List ℕ) (i : ℕ) (t : List ℕ) → i < length path → t ≡ joined c (take (suc i) path) → joins c t path ≡ suc i
  unfolding joins joined from_name dotted behind_name more choose
  joins-all [] i t h e = absurd (omega arith)
  joins-all (n ∷ ns) zero t h e = rw (e, self_begins (c.text n) [], drop-append_seam (c.text n) [], choose, behind_name) refl
  joins-all (n ∷ ns) (suc i) t h e =
      let d = dotted-behind i ns (omega arith) in
      rw (e, self_begins (c.text n) (dotted c (take (suc i) ns)), drop-append_seam (c.text n) (dotted c (take (suc i) ns)), d, joins-all ns i (joined c (take (suc i) ns)) (omega arith) refl, choose, behind_name, more) refl

  more-is : (k j : ℕ) → more k ≡ suc j → (i : ℕ) × (k ≡ suc i) × (j ≡ suc i)
  unfolding more
  more-is zero j e = absurd (omega (arith, e))
  more-is (suc k) j e = (k, refl, omega (arith, e))

  pub joins-some : (path t : List ℕ) (j : ℕ) → joins c t path ≡ suc j → (j < length path) × (t ≡ joined c (take (suc j) path))
  unfolding joins joined from_name behind_name dotted choose
  joins-some [] t j e = absurd (omega (arith, e))
  joins-some (n ∷ ns) t j e = go (begins (c.text n) t) refl e (joins-some ns)
    where
      tail : (r : List ℕ) → t ≡ c.text n ++ r → behind_name (λ l. joins c l ns) r ≡ suc j → ((t : List ℕ) (j : ℕ) → joins c t ns ≡ suc j → (j < length ns) × (t ≡ joined c (take (suc j) ns))) → (j < suc (length ns)) × (t ≡ joined c (take (suc j) (n ∷ ns)))
      tail [] et e more-some = let z : j ≡ 0 = omega (arith, e) in (omega arith, rw z et)
      tail (b ∷ r) et e more-some = dot (eqb b 46) refl e
        where
          dot : (x : Bool) → eqb b 46 ≡ x → choose x (more (joins c r ns)) 0 ≡ suc j → (j < suc (length ns)) × (t ≡ joined c (take (suc j) (n ∷ ns)))
          dot false q e = absurd (omega (arith, e))
          dot true q e =
              let m = more-is (joins c r ns) j e in
              let o = more-some r m.0 m.1 in
              let d : 46 ∷ r ≡ dotted c (take (suc m.0) ns) = ap (λ (l : List ℕ). 46 ∷ l) o.1 ∙ sym (dotted-behind m.0 ns o.0) in
              (omega (arith, o.0, m.2), et ∙ ap (λ (l : List ℕ). c.text n ++ l) (ap (λ (a : ℕ). a ∷ r) (eqb-true b 46 q) ∙ d) ∙ ap (λ (i : ℕ). joined c (take (suc i) (n ∷ ns))) (sym m.2))

      go : (x : Bool) → begins (c.text n) t ≡ x → choose x (behind_name (λ l. joins c l ns) (drop (length (c.text n)) t)) 0 ≡ suc j → ((t : List ℕ) (j : ℕ) → joins c t ns ≡ suc j → (j < length ns) × (t ≡ joined c (take (suc j) ns))) → (j < suc (length ns)) × (t ≡ joined c (take (suc j) (n ∷ ns)))
      go false q e more-some = absurd (omega (arith, e))
      go true q e more-some = tail (drop (length (c.text n)) t) (begun (c.text n) t q) e more-some

  -- what a member gives that joins so many names
  unfoldable pub given : (ℕ → List ℕ → Option ℕ) → ℕ → List ℕ → ℕ → Option ℕ
  given of u path zero = none
  given of u path (suc j) = of u (drop (suc j) path)

  module _ (of : ℕ → List ℕ → Option ℕ) (n : ℕ) (ns : List ℕ) (p : Part) where
    taken-some : (j : ℕ) → joins c (c.text p.name) (n ∷ ns) ≡ suc j → (k : ℕ) → j < k → k ≤ suc (length ns) → taken c of n ns p k ≡ of p.value (drop (suc j) (n ∷ ns))
    unfolding taken
    taken-some j e zero h l = absurd (omega arith)
    taken-some j e (suc k) h l = go (same_list (c.text p.name) (joined c (take (suc k) (n ∷ ns)))) refl (taken-some j e k)
      where
        here : joined c (take (suc j) (n ∷ ns)) ≡ c.text p.name
        here = sym (joins-some (n ∷ ns) (c.text p.name) j e).1

        go : (b : Bool) → same_list (c.text p.name) (joined c (take (suc k) (n ∷ ns))) ≡ b → (j < k → k ≤ suc (length ns) → taken c of n ns p k ≡ of p.value (drop (suc j) (n ∷ ns))) → elim b as (λ b. Option ℕ) [ true ↦ of p.value (drop (suc k) (n ∷ ns)) | false ↦ taken c of n ns p k ] ≡ of p.value (drop (suc j) (n ∷ ns))
        go true q ih =
            let z : suc k ≡ suc j = sym (joins-all (n ∷ ns) k (c.text p.name) (omega arith) (same-list _ _ q)) ∙ e in
            ap (λ (i : ℕ). of p.value (drop i (n ∷ ns))) z
        go false q ih = ih (less (eqb j k) refl) (omega arith)
          where
            less : (b : Bool) → eqb j k ≡ b → j < k
            less true z = absurd (not_equal (c.text p.name) (joined c (take (suc k) (n ∷ ns))) q (sym here ∙ ap (λ (i : ℕ). joined c (take (suc i) (n ∷ ns))) (eqb-true j k z)))
            less false z = omega (arith, eqb-false j k z)

    pub taken_is : taken c of n ns p (suc (length ns)) ≡ given of p.value (n ∷ ns) (joins c (c.text p.name) (n ∷ ns))
    unfolding given
    taken_is = go (joins c (c.text p.name) (n ∷ ns)) refl
      where
        go : (k : ℕ) → joins c (c.text p.name) (n ∷ ns) ≡ k → taken c of n ns p (suc (length ns)) ≡ given of p.value (n ∷ ns) k
        go zero e = taken_none c of n ns p (suc (length ns)) (λ i h q. omega (arith, e, joins-all (n ∷ ns) i (c.text p.name) h q))
        go (suc j) e = taken-some j e (suc (length ns)) (omega (arith, (joins-some (n ∷ ns) (c.text p.name) j e).0)) (omega arith)

-- ---- from member to member

module _ (s : List ℕ) where
  -- by all the names that are left, in some members
  abbrev pub seek : List ℕ → List Part → Option ℕ
  seek path ps = longest (case_of s) (search (case_of s)) ps path (length path)

  pub seek-member : (path : List ℕ) → 0 < length path → (p : Part) (ps : List Part) → Rising (case_of s) (p ∷ ps) → seek path (p ∷ ps) ≡ or_else (seek path ps) (given (case_of s) (search (case_of s)) p.value path (joins (case_of s) (text s p.name) path))
  unfolding case_of
  seek-member [] h p ps up = absurd (omega arith)
  seek-member (n ∷ ns) h p ps up =
      one_more (case_of s) (search (case_of s)) n ns p ps up.0 (suc (length ns)) (omega arith)
      ∙ ap (or_else (seek (n ∷ ns) ps)) (taken_is (case_of s) (search (case_of s)) n ns p)

  seek-empty : (path : List ℕ) → seek path [] ≡ none
  unfolding longest
  seek-empty [] = refl
  seek-empty (n ∷ ns) = longest-none (case_of s) (search (case_of s)) n ns [] (suc (length ns)) (λ i h. tt)

  pub search_seeks : Checked s → (v : ℕ) (path : List ℕ) → 0 < length path → search (case_of s) v path ≡ seek path (members (value_at s v))
  unfolding search_by case_of
  search_seeks c v [] h = absurd (omega arith)
  search_seeks c v (n ∷ ns) h = search_is c v (n ∷ ns)

  pub search-ends : Checked s → (v : ℕ) → search (case_of s) v [] ≡ some v
  unfolding search_by
  search-ends c v = search_is c v []

  -- of a run that rises, its later part
  later : (d a l : ℕ) → Rising (case_of s) (part s a (d + l)) → Rising (case_of s) (part s (a + d) l)
  unfolding places
  later zero a l up =
      let x : a + 0 ≡ a = omega arith in
      let y : 0 + l ≡ l = omega arith in
      rw x (rw y at up)
  later (suc d) a l up =
      let x : a + suc d ≡ a + 1 + d = omega arith in
      let y : suc d + l ≡ suc (d + l) = omega arith in
      rw x (later d (a + 1) l (rw y at up).1)

  -- members before it change nothing of what is found
  stays : (path : List ℕ) → 0 < length path → (w d a l : ℕ) → Rising (case_of s) (part s a (d + l)) → seek path (part s (a + d) l) ≡ some w → seek path (part s a (d + l)) ≡ some w
  unfolding places or_else
  stays path h w zero a l up e =
      let x : a + 0 ≡ a = omega arith in
      let y : 0 + l ≡ l = omega arith in
      rw y (rw x at e)
  stays path h w (suc d) a l up e =
      let x : a + suc d ≡ a + 1 + d = omega arith in
      let y : suc d + l ≡ suc (d + l) = omega arith in
      let u = rw y at up in
      rw y (seek-member path h (part_at s a) (part s (a + 1) (d + l)) u ∙ rw (stays path h w d (a + 1) l u.1 (rw x at e)) refl)

-- ---- the search of one object: its members from m on lead nowhere

pub record Seeking (s : List ℕ) (path : Run) (t : List ℕ) (from first end m : ℕ) : Type 0 where
  pub checked : Checked s
  pub kept : Failed s path t
  pub left : from < path.count
  pub low : first ≤ m
  pub high : m ≤ end
  pub rises : Rising (case_of s) (part s first (end - first))
  pub nowhere : seek s (rest s path from) (part s m (end - m)) ≡ none

some_left : (s : List ℕ) (path : Run) (from : ℕ) → from < path.count → 0 < length (rest s path from)
some_left s path from h = omega (arith, ap length (rest_open s path from h))

-- at the path's end
pub sought_end : {s t : List ℕ} {path : Run} {from w : ℕ} {v : ValNo} → Checked s → Failed s path t → from ≡ w → w ≡ path.count → Sought s path t v.0 from (Some v)
unfolding found_at
sought_end {s} {t} {path} {from} {w} {v} c k e f =
    record { kept = k; found = sym (ap (search (case_of s) v.0) (rest-shut s path from (omega arith)) ∙ search-ends s c v.0) }

-- what is known to lead nowhere
pub sought_known : {s t : List ℕ} {path : Run} (v from key : ℕ) (r : Bool) → Failed s path t → r ≡ eqb (get_or t (key % 3989) 0) key → r ≡ true → key ≡ key_of v from → from < 4294967295 → Sought s path t v from None
unfolding found_at
sought_known v from key r k er e ek small =
    record { kept = k; found = sym (k.nowhere (key % 3989) v from (omega arith) (eqb-true _ _ (sym er ∙ e) ∙ ek)) }

-- what was found, and what was not
pub sought_same : {s t : List ℕ} {path : Run} {v from : ℕ} {found : Maybe ValNo} (u : ValNo) → Sought s path t v from found → found ≡ Some u → Sought s path t v from (Some u)
sought_same u o e = rw (← e) o

pub sought_none : {s t : List ℕ} {path : Run} {v from : ℕ} {found : Maybe ValNo} → found ≡ None → Sought s path t v from found → Missed s path t v from
sought_none e o = rw (← e) o

-- how far there is to go
pub look_in_falls : (count from z : ℕ) → 2 * (count - from) + 1 ≡ z → 2 * (count - from) < z
look_in_falls count from z e = omega (arith, e)

pub look-falls : (count from k z : ℕ) → 2 * (count - from) ≡ z → from < count → (k ≡ 0 → ⊥) → from + k ≤ count → 2 * (count - (from + k)) + 1 < z
look-falls count from k z e h ne l = omega (arith, e, h, ne, l)

pub ready : {s t : List ℕ} {path : Run} {from w : ℕ} → Checked s → Failed s path t → from ≤ path.count → (from ≡ w → ⊥) → w ≡ path.count → Ready s path t from
ready {path = path} {from = from} c k l ne ew =
    let other : from ≡ path.count → ⊥ = λ e. ne (e ∙ sym ew) in
    record { checked = c; kept = k; left = omega (arith, other) }

pub seeking_start : {s t : List ℕ} {path : Run} {from : ℕ} (v : ℕ) (r : Span) → Ready s path t from → Spans s v r → Seeking s path t from r.first r.end r.end
unfolding places
seeking_start {s} {t} {path} {from} v r o p =
    let n : r.end - r.end ≡ 0 = omega arith in
    record {
      checked = o.checked;
      kept = o.kept;
      left = o.left;
      low = p.low;
      high = omega arith;
      rises = rw p.all at (rises-all v);
      nowhere = rw n (seek-empty s (rest s path from));
    }
  where
    rises-all : (v : ℕ) → Rising (case_of s) (members (value_at s v))
    rises-all v = members-rise o.checked v

-- an object's members by its words
pub no_span : {s : List ℕ} (v kind : ℕ) → kind ≡ value_word s v 0 → (kind ≡ 7 → ⊥) → Spans s v (record { first = 0; end = 0 })
unfolding places value_at
no_span {s} v kind ek other = record { low = omega arith; all = no-members (part_at s) (value_word s v 0) (value_word s v 1) (value_word s v 2) (λ e. other (ek ∙ e)) }

pub span : {s : List ℕ} (v kind x y first z : ℕ) → kind ≡ value_word s v 0 → kind ≡ 7 → x ≡ value_word s v 1 → first ≡ x → y ≡ value_word s v 2 → z ≡ y → Spans s v (record { first = first; end = first + z })
span {s} v kind x y first z ek e7 ex ef ey ez =
    let n : first + z - first ≡ z = omega arith in
    record { low = omega arith; all = rw n (members-are s v kind x y first z ef ex ez ey ek e7) }

module _ {s t : List ℕ} {path : Run} {from first end m : ℕ} (g : Seeking s path t from first end m) where
  some-names : 0 < length (rest s path from)
  some-names = some_left s path from g.left

  over : m ≤ first → seek s (rest s path from) (part s first (end - first)) ≡ none
  over h = let z : m ≡ first = omega (arith, g.low) in rw z at g.nowhere

  -- member m - 1
  module _ (h : first < m) {name k : ℕ} (en : name ≡ member_word s (m - 1) 0) (ek : k ≡ joins (case_of s) (text s name) (rest s path from)) where
    here : part s (m - 1) (end - (m - 1)) ≡ part_at s (m - 1) ∷ part s m (end - m)
    unfolding places
    here =
        let x : end - (m - 1) ≡ suc (end - m) = omega (arith, g.high) in
        let y : m - 1 + 1 ≡ m = omega arith in
        rw (x, y) refl

    rises-here : Rising (case_of s) (part s (m - 1) (end - (m - 1)))
    rises-here =
        let x : first + (m - 1 - first) ≡ m - 1 = omega arith in
        let y : m - 1 - first + (end - (m - 1)) ≡ end - first = omega (arith, g.high) in
        rw (← x) (later s (m - 1 - first) first (end - (first + (m - 1 - first))) (rw (x, y) g.rises))

    gives : seek s (rest s path from) (part s (m - 1) (end - (m - 1))) ≡ given (case_of s) (search (case_of s)) (member_word s (m - 1) 1) (rest s path from) k
    unfolding or_else part_at
    gives =
        ap (seek s (rest s path from)) here
        ∙ seek-member s (rest s path from) some-names (part_at s (m - 1)) (part s m (end - m)) (rw here at rises-here)
        ∙ rw (g.nowhere, ← en, ← ek) refl

    pub seeking_skip : k ≡ 0 → Seeking s path t from first end (m - 1)
    unfolding given
    seeking_skip e = record { checked = g.checked; kept = g.kept; left = g.left; low = omega arith; high = omega (arith, g.high); rises = g.rises; nowhere = gives ∙ rw e refl }

    module _ {w : List ℕ} {u : ℕ} {found : Maybe ValNo} (ne : k ≡ 0 → ⊥) (eu : u ≡ member_word s (m - 1) 1) (o : Sought s path w u (from + k) found) where
      below : seek s (rest s path from) (part s (m - 1) (end - (m - 1))) ≡ found_at found
      unfolding given
      below = gives ∙ go k refl
        where
          go : (j : ℕ) → k ≡ j → given (case_of s) (search (case_of s)) (member_word s (m - 1) 1) (rest s path from) j ≡ found_at found
          go zero e = absurd (ne e)
          go (suc j) e = ap (search (case_of s) (member_word s (m - 1) 1)) (rest-drop s path (suc j) from) ∙ rw (← eu, ← e) (sym o.found)

      pub seeking_nothing : found ≡ None → Seeking s path w from first end (m - 1)
      unfolding found_at
      seeking_nothing e = record { checked = g.checked; kept = o.kept; left = g.left; low = omega arith; high = omega (arith, g.high); rises = g.rises; nowhere = below ∙ ap found_at e }

      reached : (x : ValNo) → found ≡ Some x → seek s (rest s path from) (part s first (end - first)) ≡ some x.0
      unfolding found_at
      reached x e =
          let a : first + (m - 1 - first) ≡ m - 1 = omega arith in
          let b : m - 1 - first + (end - (m - 1)) ≡ end - first = omega (arith, g.high) in
          rw b at (stays s (rest s path from) some-names x.0 (m - 1 - first) first (end - (m - 1)) (rw b g.rises) (rw a (below ∙ ap found_at e)))

-- what was found in value v
module _ {s t : List ℕ} {path : Run} {from m : ℕ} (v : ℕ) (r : Span) (g : Seeking s path t from r.first r.end m) (p : Spans s v r) where
  sought_so : (o : Option ℕ) → seek s (rest s path from) (part s r.first (r.end - r.first)) ≡ o → o ≡ search (case_of s) v (rest s path from)
  sought_so o e = sym (search_seeks s g.checked v (rest s path from) (some-names g) ∙ ap (seek s (rest s path from)) p.all ∙ e)

  pub seeking_over : m ≤ r.first → Sought s path t v from None
  unfolding found_at
  seeking_over h = record { kept = g.kept; found = sought_so none (over g h) }

  pub seeking_found : r.first < m → {name k : ℕ} → name ≡ member_word s (m - 1) 0 → k ≡ joins (case_of s) (text s name) (rest s path from) → (k ≡ 0 → ⊥) → {w : List ℕ} {u : ℕ} {found : Maybe ValNo} → u ≡ member_word s (m - 1) 1 → Sought s path w u (from + k) found → (x : ValNo) → found ≡ Some x → Sought s path w v from (Some x)
  unfolding found_at
  seeking_found h en ek ne eu o x e = record { kept = o.kept; found = sought_so (some x.0) (reached g h en ek ne eu o x e) }

-- ---- the table

nothing-kept : (n j : ℕ) → get_or (replicate {A = ℕ} n 0) j 0 ≡ 0
nothing-kept zero j = refl
nothing-kept (suc n) zero = refl
nothing-kept (suc n) (suc j) = nothing-kept n j

pub failed-none : {s : List ℕ} {path : Run} → Failed s path (replicate {A = ℕ} 3989 0)
failed-none = record { size = length-replicate {A = ℕ} 3989 0; nowhere = λ j v i h e. absurd (omega (arith, nothing-kept 3989 j, e)) }

missed : {s t : List ℕ} {path : Run} {v from : ℕ} → Missed s path t v from → search (case_of s) v (rest s path from) ≡ none
unfolding found_at
missed o = sym o.found

pub noted : (s t : List ℕ) (path : Run) (v from key at : ℕ) → Missed s path t v from → from < 4294967295 → key ≡ key_of v from → at ≡ key % 3989 → Missed s path (set t at key) v from
noted s t path v from key at o small ek ea =
    record { kept = record { size = length-set t at key ∙ o.kept.size; nowhere = λ j u i h q. go j u i h q (eqb j at) refl }; found = o.found }
  where
    go : (j u i : ℕ) → i < 4294967296 → get_or (set t at key) j 0 ≡ key_of u i → (b : Bool) → eqb j at ≡ b → search (case_of s) u (rest s path i) ≡ none
    go j u i h q true ej =
        let z : j ≡ at = eqb-true j at ej in
        let same : key ≡ key_of u i = sym (get_or-set_same t at key 0 (omega (arith, o.kept.size))) ∙ ap (λ (x : ℕ). get_or (set t at key) x 0) (sym z) ∙ q in
        let eu : u ≡ v = omega (arith, same, ek) in
        let ei : i ≡ from = omega (arith, same, ek) in
        rw (eu, ei) (missed o)
    go j u i h q false ej = o.kept.nowhere j u i h (sym (get_or-set_other t at j key 0 (eqb-false j at ej)) ∙ q)

-- ---- where no string joins a name with the next, one member a name

-- what stands between a name and what begins with it and a dot
between : (name y r : List ℕ) → before name y ≡ true → before y (name ++ (46 ∷ r)) ≡ true → goes_on name y ≡ true
unfolding before goes_on ◌or◌ ◌and◌
between [] [] r p q = p
between [] (b ∷ y) r p q = go (ltb b 46) (eqb b 46) refl refl q
  where
    go : (x z : Bool) → ltb b 46 ≡ x → eqb b 46 ≡ z → (x or (z and before y r)) ≡ true → leb b 46 ≡ true
    go true z ex ez q = le-leb b 46 (omega (arith, ltb-true b 46 ex))
    go false true ex ez q = le-leb b 46 (omega (arith, eqb-true b 46 ez))
    go false false ex ez q = cc
between (x ∷ name) [] r p q = p
between (x ∷ name) (b ∷ y) r p q = go (ltb x b) (ltb b x) refl refl p q (between name y r)
  where
    go : (m n : Bool) → ltb x b ≡ m → ltb b x ≡ n → (m or (eqb x b and before name y)) ≡ true → (n or (eqb b x and before y (name ++ (46 ∷ r)))) ≡ true → (before name y ≡ true → before y (name ++ (46 ∷ r)) ≡ true → goes_on name y ≡ true) → (eqb b x and goes_on name y) ≡ true
    go true true em en p q on = absurd (omega (arith, ltb-true x b em, ltb-true b x en))
    go true false em en p q on = absurd (omega (arith, ltb-true x b em, eqb-true b x (both (eqb b x) (before y (name ++ (46 ∷ r))) q).0))
    go false true em en p q on = absurd (omega (arith, ltb-true b x en, eqb-true x b (both (eqb x b) (before name y) p).0))
    go false false em en p q on =
        let a = both (eqb x b) (before name y) p in
        let d = both (eqb b x) (before y (name ++ (46 ∷ r))) q in
        pass d.0 (on a.1 d.1)

itself-goes-on : (name r : List ℕ) → goes_on name (name ++ (46 ∷ r)) ≡ true
unfolding goes_on
itself-goes-on [] r = le-leb 46 46 (omega arith)
itself-goes-on (x ∷ name) r = pass (eq-eqb x x refl) (itself-goes-on name r)

module _ {s : List ℕ} (c : Checked s) (n : ℕ) (hn : n < strings s) where
  no_join : may_join s n ≡ false → (x : ℕ) → x < strings s → (r : List ℕ) → text s x ≡ text s n ++ (46 ∷ r) → ⊥
  unfolding may_join
  no_join e x hx r q = go (ltb n x) refl (ltb x n) refl (ltb (n + 1) x) refl
    where
      clash : {a : Bool} → a ≡ true → a ≡ false → ⊥
      clash p f = let z : ◌≡◌ {A = ℕ} 0 1 = cc (p, f) in omega arith

      off : n + 1 < strings s → goes_on (text s n) (text s (n + 1)) ≡ true → ⊥
      off h p = clash (pass (lt-ltb (n + 1) (strings s) h) p) e

      go : (a : Bool) → ltb n x ≡ a → (b : Bool) → ltb x n ≡ b → (d : Bool) → ltb (n + 1) x ≡ d → ⊥
      go true ea b eb true ed =
          let l = ltb-true (n + 1) x ed in
          off (omega (arith, l, hx)) (between (text s n) (text s (n + 1)) r (strings-rise c n (n + 1) (omega arith) (omega (arith, l, hx))) (rw (← q) (strings-rise c (n + 1) x l hx)))
      go true ea b eb false ed =
          let z : n + 1 ≡ x = omega (arith, ltb-true n x ea, ltb-false (n + 1) x ed) in
          off (omega (arith, z, hx)) (rw (z, q) (itself-goes-on (text s n) r))
      go false ea true eb d ed =
          clash (rw q at (strings-rise c x n (ltb-true x n eb) hn)) (not-before (text s n) (46 ∷ r))
      go false ea false eb d ed =
          let z : x ≡ n = omega (arith, ltb-false n x ea, ltb-false x n eb) in
          let l : length (text s n) ≡ length (text s n) + suc (length r) = ap length (rw z at q) ∙ length-append (text s n) (46 ∷ r) in
          omega (arith, l)

  module _ (v : ℕ) where
    one : joined (case_of s) (n ∷ []) ≡ text s n
    unfolding joined dotted case_of
    one = append-nil (text s n)

    -- by one name
    first-name : (ns : List ℕ) → longest (case_of s) (search (case_of s)) (members (value_at s v)) (n ∷ ns) 1 ≡ onward (search (case_of s)) (named n (members (value_at s v))) ns
    unfolding longest
    first-name ns = rw (one, called-number c n hn v) (last (onward (search (case_of s)) (named n (members (value_at s v))) ns))
      where
        last : (o : Option ℕ) → or_else o none ≡ o
        last none = unfold or_else in refl
        last (some w) = unfold or_else in refl

    -- more names join to no string
    fewer : may_join s n ≡ false → (ns : List ℕ) (k : ℕ) → k ≤ length ns → longest (case_of s) (search (case_of s)) (members (value_at s v)) (n ∷ ns) (suc k) ≡ longest (case_of s) (search (case_of s)) (members (value_at s v)) (n ∷ ns) 1
    unfolding longest onward or_else
    fewer e ns zero h = refl
    fewer e [] (suc k) h = absurd (omega arith)
    fewer e (m ∷ ms) (suc k) h =
        rw (called-nowhere c (joined (case_of s) (n ∷ m ∷ take k ms)) (λ x hx q. no_join e x hx (text s m ++ dotted (case_of s) (take k ms)) (unfold joined in unfold dotted in unfold case_of in q)) v)
        (fewer e (m ∷ ms) k (omega arith))

    plain_step : may_join s n ≡ false → (ns : List ℕ) → search (case_of s) v (n ∷ ns) ≡ onward (search (case_of s)) (named n (members (value_at s v))) ns
    plain_step e ns = search_seeks s c v (n ∷ ns) (omega arith) ∙ fewer e ns (length ns) (omega arith) ∙ first-name ns

    last_step : search (case_of s) v (n ∷ []) ≡ named n (members (value_at s v))
    last_step = search_seeks s c v (n ∷ []) (omega arith) ∙ first-name [] ∙ ends (named n (members (value_at s v)))
      where
        ends : (o : Option ℕ) → onward (search (case_of s)) o [] ≡ o
        ends none = unfold onward in refl
        ends (some u) = unfold onward in search-ends s c u

-- a path's own name is a string
path-name : {s : List ℕ} → Checked s → (path : Run) → path_run s path.first path.count ≡ true → (i : ℕ) → i < path.count → list s (path.first + i) < strings s
unfolding path_run
path-name c path h i l = ltb-true _ _ (both _ _ (all-at _ _ i (both _ _ h).1 l)).0

module _ (s : List ℕ) (path : Run) (v : ValNo) (from w : ℕ) (c : Checked s) where
  pub from_end : (tag bits : ℕ) → from ≡ w → w ≡ path.count → in_cells tag bits ≡ some (bound_of v.0 (value_at s v.0)) → in_cells tag bits ≡ bound_at (case_of s) (search (case_of s) v.0 (rest s path from))
  from_end tag bits e ew h = h ∙ sym (ap (bound_at (case_of s)) (ap (search (case_of s) v.0) (rest-shut s path from (omega arith)) ∙ search-ends s c v.0) ∙ cells)
    where
      cells : bound_at (case_of s) (some v.0) ≡ some (bound_of v.0 (value_at s v.0))
      cells = unfold bound_at case_of in refl

  module _ (h : path_run s path.first path.count ≡ true) (l : from ≤ path.count) (ne : from ≡ w → ⊥) (ew : w ≡ path.count) (name f : ℕ) (ef : f ≡ path.first) (en : name ≡ list s (f + from)) where
    less : from < path.count
    less = let other : from ≡ path.count → ⊥ = λ e. ne (e ∙ sym ew) in omega (arith, other)

    is_name : list s (path.first + from) ≡ name
    is_name = rw (← ef) (sym en)

    pub from-string : name < strings s
    from-string = rw is_name at (path-name c path h from less)

    module _ (join : Bool) (ej : join ≡ may_join s name) (off : join ≡ false) (found : Maybe ValNo) (e : found_at found ≡ named name (members (value_at s v.0))) where
      stepped : search (case_of s) v.0 (rest s path from) ≡ onward (search (case_of s)) (found_at found) (rest s path (from + 1))
      stepped =
          ap (search (case_of s) v.0) (rest_open s path from less ∙ ap (λ (n : ℕ). n ∷ rest s path (from + 1)) is_name)
          ∙ plain_step c name from-string v.0 (sym ej ∙ off) (rest s path (from + 1))
          ∙ ap (λ (o : Option ℕ). onward (search (case_of s)) o (rest s path (from + 1))) (sym e)

      pub from_found : (u : ValNo) → found ≡ Some u → (tag bits : ℕ) → in_cells tag bits ≡ bound_at (case_of s) (search (case_of s) u.0 (rest s path (from + 1))) → in_cells tag bits ≡ bound_at (case_of s) (search (case_of s) v.0 (rest s path from))
      unfolding found_at onward
      from_found u q tag bits h = h ∙ ap (bound_at (case_of s)) (sym (stepped ∙ rw q refl))

      pub from-none : found ≡ None → in_cells 0 0 ≡ bound_at (case_of s) (search (case_of s) v.0 (rest s path from))
      unfolding found_at onward bound_at in_cells pick
      from-none q = let z : search (case_of s) v.0 (rest s path from) ≡ none = stepped ∙ rw q refl in rw z refl

-- ---- a path of which no string joins a name with the next

-- the names that are not looked at yet
pub record PlainFrom (s : List ℕ) (first count at left : ℕ) : Type 0 where
  pub inside : at + left ≡ first + count
  pub known : Every (λ n. n < strings s) (map (list s) (places at 1 left))
  pub same : plain_names s (map (list s) (places at 1 left)) ≡ plain_names s (map (list s) (places first 1 count))

strings_of_lem : {s : List ℕ} → Checked s → (path : Run) → path_run s path.first path.count ≡ true → Every (λ n. n < strings s) (names (case_of s) path)
strings_of_lem {s} c path h = every_map (names (case_of s) path) (λ n e. e.0) (names_of c path h)

plain-start : (s : List ℕ) (path : Run) (first count : ℕ) → Checked s → path_run s path.first path.count ≡ true → first ≡ path.first → count ≡ path.count → PlainFrom s first count first count
plain-start s path first count c h ef ec =
    record { inside = refl; known = rw (names-are s path first count ef ec) at (strings_of_lem c path h); same = refl }

module _ (s : List ℕ) (first count at left : ℕ) (g : PlainFrom s first count at left) where
  whole : (path : Run) → first ≡ path.first → count ≡ path.count → plain_names s (map (list s) (places at 1 left)) ≡ plain_names s (names (case_of s) path)
  whole path ef ec = g.same ∙ ap (plain_names s) (sym (names-are s path first count ef ec))

  module _ (h : 1 < left) (name : ℕ) (en : name ≡ list s at) where
    cut : map (list s) (places at 1 left) ≡ name ∷ map (list s) (places (at + 1) 1 (left - 1))
    cut =
        let x : left - 0 ≡ left = omega arith in
        rw en (rw x at (ap (map (list s)) (open_place at 1 left 0 (at + 1) (omega arith) refl)))

    first_of : plain_names s (map (list s) (places at 1 left)) ≡ (not (may_join s name) and plain_names s (map (list s) (places (at + 1) 1 (left - 1))))
    first_of = rw en (go left h)
      where
        go : (left : ℕ) → 1 < left → plain_names s (map (list s) (places at 1 left)) ≡ (not (may_join s (list s at)) and plain_names s (map (list s) (places (at + 1) 1 (left - 1))))
        go zero h = absurd (omega arith)
        go (suc zero) h = absurd (omega arith)
        go (suc (suc k)) h = let z : suc (suc k) - 1 ≡ suc k = omega arith in rw z (unfold plain_names places in refl)

    pub plain-string : name < strings s
    plain-string = (rw cut at g.known).0

    module _ (join : Bool) (ej : join ≡ may_join s name) where
      plain-next : join ≡ false → PlainFrom s first count (at + 1) (left - 1)
      plain-next e =
          let apart : not (may_join s name) ≡ true = rw (← ej, e) refl in
          record { inside = omega (arith, g.inside); known = (rw cut at g.known).1; same = sym (sym g.same ∙ first_of ∙ after apart) }

      pub plain-no : (path : Run) → first ≡ path.first → count ≡ path.count → join ≡ true → false ≡ plain_names s (names (case_of s) path)
      plain-no path ef ec e =
          let joined : not (may_join s name) ≡ false = rw (← ej, e) refl in
          sym (sym (whole path ef ec) ∙ first_of ∙ stop _ joined)

  pub plain-yes : (path : Run) → first ≡ path.first → count ≡ path.count → left ≤ 1 → true ≡ plain_names s (names (case_of s) path)
  plain-yes path ef ec h = sym (sym (whole path ef ec) ∙ go left h)
    where
      go : (left : ℕ) → left ≤ 1 → plain_names s (map (list s) (places at 1 left)) ≡ true
      go zero h = unfold plain_names places in refl
      go (suc zero) h = unfold plain_names places in refl
      go (suc (suc k)) h = absurd (omega arith)

-- the same, by the number of the name that is asked next, counted from 1
abbrev pub PlainAt : List ℕ → ℕ → ℕ → ℕ → Type 0
PlainAt s first count i = PlainFrom s first count (first + i - 1) (count + 1 - i)

pub plain_begins : (s : List ℕ) (path : Run) (first count : ℕ) → Checked s → path_run s path.first path.count ≡ true → first ≡ path.first → count ≡ path.count → PlainAt s first count 1
plain_begins s path first count c h ef ec =
    let x : first + 1 - 1 ≡ first = omega arith in
    let y : count + 1 - 1 ≡ count = omega arith in
    rw (x, y) (plain-start s path first count c h ef ec)

pub plain_on : (s : List ℕ) (first count i : ℕ) → PlainAt s first count i → 1 ≤ i → i < count → (name : ℕ) → name ≡ list s (first + i - 1) → (join : Bool) → join ≡ may_join s name → join ≡ false → PlainAt s first count (i + 1)
plain_on s first count i g l h name en join ej e =
    let x : first + (i + 1) - 1 ≡ first + i - 1 + 1 = omega arith in
    let y : count + 1 - (i + 1) ≡ count + 1 - i - 1 = omega arith in
    rw (x, y) (plain-next s first count (first + i - 1) (count + 1 - i) g (omega arith) name en join ej e)

-- it is descended
plain_descends : {s : List ℕ} → Checked s → (ns : List ℕ) → Every (λ n. n < strings s) ns → plain_names s ns ≡ true → (v : ℕ) → search (case_of s) v ns ≡ descend (case_of s) v ns
plain_descends {s} c [] every e v = search-ends s c v ∙ (unfold descend in refl)
plain_descends {s} c (n ∷ []) every e v = last_step c n every.0 v ∙ sym (descend-by s v n [] (named n (members (value_at s v))) refl ∙ ends (named n (members (value_at s v))))
  where
    ends : (o : Option ℕ) → elim o as (λ o. Option ℕ) [ none ↦ none | some u ↦ descend (case_of s) u [] ] ≡ o
    ends none = refl
    ends (some u) = unfold descend in refl
plain_descends {s} c (n ∷ m ∷ ns) every e v =
    let h = both (not (may_join s n)) (plain_names s (m ∷ ns)) (unfold plain_names in e) in
    plain_step c n every.0 v (not-true (may_join s n) h.0) (m ∷ ns)
    ∙ below (named n (members (value_at s v))) (plain_descends c (m ∷ ns) every.1 h.1)
    ∙ sym (descend-by s v n (m ∷ ns) (named n (members (value_at s v))) refl)
  where
    below : (o : Option ℕ) → ((u : ℕ) → search (case_of s) u (m ∷ ns) ≡ descend (case_of s) u (m ∷ ns)) → onward (search (case_of s)) o (m ∷ ns) ≡ elim o as (λ o. Option ℕ) [ none ↦ none | some u ↦ descend (case_of s) u (m ∷ ns) ]
    below none f = unfold onward in refl
    below (some u) f = unfold onward in f u

-- ---- the whole path

module _ (s : List ℕ) (path : Run) (tag bits v : ℕ) (c : Checked s) (h : path_run s path.first path.count ≡ true) where
  searched : lookup (case_of s) v (names (case_of s) path) ≡ search (case_of s) v (names (case_of s) path)
  searched = lookup-is c v (names (case_of s) path) (path-plain c path h)

  pub looked_up : in_cells tag bits ≡ bound_at (case_of s) (search (case_of s) v (rest s path 0)) → in_cells tag bits ≡ bound_at (case_of s) (lookup (case_of s) v (names (case_of s) path))
  looked_up e = e ∙ ap (bound_at (case_of s)) (ap (search (case_of s) v) (rest_all s path) ∙ sym searched)

  pub plain-is : (r : Bool) → r ≡ plain_names s (names (case_of s) path) → r ≡ true → in_cells tag bits ≡ bound_at (case_of s) (descend (case_of s) v (names (case_of s) path)) → in_cells tag bits ≡ bound_at (case_of s) (lookup (case_of s) v (names (case_of s) path))
  plain-is r er e q = q ∙ ap (bound_at (case_of s)) (sym (searched ∙ plain_descends c (names (case_of s) path) (strings_of_lem c path h) (sym er ∙ e) v))

-- ---- the string behind a name

goes-is : (name t : List ℕ) → length name < length t → goes_on name t ≡ (begins name t and leb (get_or t (length name) 0) 46)
unfolding goes_on begins
goes-is [] [] h = absurd (omega arith)
goes-is [] (b ∷ t) h = sym (after refl)
goes-is (x ∷ name) [] h = absurd (omega arith)
goes-is (x ∷ name) (y ∷ t) h = ap (λ (b : Bool). eqb y x and b) (goes-is name t (omega arith)) ∙ sym (and_assoc (eqb y x) (begins name t) (leb (get_or t (length name) 0) 46))

goes-not : (name t : List ℕ) → length t ≤ length name → goes_on name t ≡ false
unfolding goes_on
goes-not [] [] h = refl
goes-not [] (b ∷ t) h = absurd (omega arith)
goes-not (x ∷ name) [] h = refl
goes-not (x ∷ name) (y ∷ t) h = skip (eqb y x) (goes-not name t (omega arith))

pub goes-short : (name t : List ℕ) (end : ℕ) → end ≡ length name → length t ≤ end → false ≡ goes_on name t
goes-short name t end e h = sym (goes-not name t (omega arith))

pub goes-high : (name t : List ℕ) (end : ℕ) (r : Bool) → end ≡ length name → end < length t → r ≡ leb (get_or t end 0) 46 → r ≡ false → false ≡ goes_on name t
goes-high name t end r e h er f = let l = leb-false (get_or t end 0) 46 (sym er ∙ f) in sym (goes-is name t (omega arith) ∙ skip (begins name t) (lt-leb _ _ (rw e at l)))

pub goes_so : (name t : List ℕ) (end : ℕ) (r : Bool) → end ≡ length name → end < length t → get_or t end 0 ≤ 46 → r ≡ begins name (drop 0 t) → r ≡ goes_on name t
goes_so name t end r e h l er = er ∙ sym (goes-is name t (omega arith) ∙ and-pass (begins name t) (le-leb _ _ (rw e at l)))
  where
    and-pass : (a : Bool) {b : Bool} → b ≡ true → (a and b) ≡ a
    and-pass true p = unfold ◌and◌ in p
    and-pass false p = unfold ◌and◌ in refl

pub last-string : (s : List ℕ) (n size : ℕ) → size / 8 ≡ n + 1 → size ≡ body_size s 0 → false ≡ may_join s n
unfolding may_join
last-string s n size e q = sym (stop _ (le-ltb (n + 1) (strings s) (omega (arith, q))))

pub string-behind : (s : List ℕ) (n size : ℕ) (r : Bool) (x y : List ℕ) → (size / 8 ≡ n + 1 → ⊥) → size ≡ body_size s 0 → n < strings s → x ≡ text s n → y ≡ text s (n + 1) → r ≡ goes_on x y → r ≡ may_join s n
unfolding may_join
string-behind s n size r x y ne q h ex ey er = er ∙ rw (ex, ey) refl ∙ sym (after (lt-ltb (n + 1) (strings s) (omega (arith, q))))

pub known_is : (t : List ℕ) (at key : ℕ) → at ≡ key % 3989 → eqb (get_or t at 0) key ≡ eqb (get_or t (key % 3989) 0) key
known_is t at key e = ap (λ (i : ℕ). eqb (get_or t i 0) key) e
