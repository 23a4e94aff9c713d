-- In a checked case: names of members rise by their bytes, so what was written last is searched for; the search from value to lower value, and names by their numbers
use Rattle.std.proofs.Math.Path.{◌≡◌, refl, sym, ap, ap₂, fun_ext}
use Rattle.std.proofs.Common.{◌∙◌, lit<}
use Rattle.std.specs.Prelude.{Bool, length, take, drop}
use Rattle.std.proofs.Math.Bool.{true, false}
use mathlib.Core.List.{List, [], ◌∷◌, ◌++◌, map, append-nil}
use Rattle.std.proofs.Math.Option.{Option, none, some}
use Prim.Native.Nat.{ℕ, zero, suc, ◌+◌, ◌*◌, ◌<◌}
use native.Mathlib.Omega.{arith}
use Rattle.std.proofs.Math.Dec.{eqb, ltb}
use borrow.Author.Tests.{eqb-true, eqb-false, ltb-true, ltb-false}
use Rattle.meaning.specs.declared.Node.{Node}
use Rattle.meaning.specs.declared.Node.TheVariants.{Context, Scope, Broken}
use Rattle.meaning.specs.declared.Root.{Root}
use Rattle.meaning.specs.declared.Run.{Run}
use Rattle.meaning.specs.Tests.{◌and◌, or_else, all_below, pick}
use Rattle.meaning.specs.Text.{before, free}
use Rattle.meaning.specs.Case.{Part, places, run_of, strings, values, nodes, value_word, member_word, list, text, value_from, part_at, value_at, node_at, case_of}
use Rattle.meaning.specs.Check.{Checked, string_rules, order_rule, object_item, object_rule, value_rule, path_run, rule_of, node_rule}
use Rattle.meaning.specs.Equal.{same_list}
use Rattle.meaning.specs.Look.{named, members, lookup}
use Rattle.meaning.specs.Meaning.{names}
use Rattle.laws.specs.Tests.{both, all-at}
use Rattle.laws.specs.Lists.{Every, every_map, every_of, every-place}
use Rattle.laws.specs.Text.{self_same, not_same, before-onward, not-before, rising, numbers-rise}
use Rattle.laws.specs.Below.{made-is}
use Rattle.laws.specs.Bodies.{wholes, body-beyond}
use Rattle.laws.specs.Nodes.{node-beyond}
use Rattle.laws.specs.Checked.{rules, checked-bodies, checked-values, checked-nodes}
use Rattle.laws.specs.Search.{Rising, Plain, joined, called, onward, longest, search_by, search, written-is-searched}

module _ {s : List ℕ} (c : Checked s) where
  -- ---- strings rise by their bytes

  pub strings-rise : (i j : ℕ) → i < j → j < strings s → before (text s i) (text s j) ≡ true
  strings-rise =
      rising (λ i j. before (text s i) (text s j)) (λ i j k. before-onward (text s i) (text s j) (text s k)) (strings s)
      (λ i h. unfold order_rule in all-at (order_rule s) (strings s) i order h)
    where
      order : all_below (strings s) (order_rule s) ≡ true
      order = unfold string_rules in (both _ _ (both _ _ (rules s c).strings).1).1

  -- so equal bytes are one string
  pub one-string : (i j : ℕ) → i < strings s → j < strings s → text s i ≡ text s j → i ≡ j
  one-string i j hi hj e = go (ltb i j) (ltb j i) refl refl
    where
      apart : (i j : ℕ) → i < j → j < strings s → text s i ≡ text s j → ⊥
      apart i j h l e =
          let a : before (text s i ++ []) (text s i) ≡ true = rw (append-nil (text s i)) (rw (← e) at (strings-rise i j h l)) in
          let z : ◌≡◌ {A = ℕ} 0 1 = cc (a, not-before (text s i) []) in
          omega arith

      go : (a b : Bool) → ltb i j ≡ a → ltb j i ≡ b → i ≡ j
      go true b ea eb = absurd (apart i j (ltb-true i j ea) hj e)
      go false true ea eb = absurd (apart j i (ltb-true j i eb) hi (sym e))
      go false false ea eb = omega (arith, ltb-false i j ea, ltb-false j i eb)

  -- ---- members

  -- of an object's members: those of a run, or none
  by_kind : (P : List Part → Type 0) (k a b : ℕ) → P [] → (k ≡ 7 → P (map (part_at s) (places a 1 b))) → P (members (value_from (part_at s) k a b))
  unfolding members value_from pick
  by_kind P zero a b e f = e
  by_kind P (suc zero) a b e f = e
  by_kind P (suc (suc zero)) a b e f = e
  by_kind P (suc (suc (suc zero))) a b e f = e
  by_kind P (suc (suc (suc (suc zero)))) a b e f = e
  by_kind P (suc (suc (suc (suc (suc zero))))) a b e f = e
  by_kind P (suc (suc (suc (suc (suc (suc zero)))))) a b e f = e
  by_kind P (suc (suc (suc (suc (suc (suc (suc zero))))))) a b e f = f refl
  by_kind P (suc (suc (suc (suc (suc (suc (suc (suc k)))))))) a b e f = e

  -- item i of object v keeps its rule
  item : (v : ℕ) → value_word s v 0 ≡ 7 → (i : ℕ) → i < value_word s v 2 → object_item s v (value_word s v 1) i ≡ true
  unfolding value_word pick
  item v e i hi =
      go (ltb v (values s)) refl
    where
      go : (b : Bool) → ltb v (values s) ≡ b → object_item s v (value_word s v 1) i ≡ true
      go true q =
          let rule = all-at (value_rule s) (values s) v (checked-values c) (ltb-true _ _ q) in
          let object : object_rule s v ≡ true = unfold value_rule in (rw e at rule) in
          all-at (object_item s v (value_word s v 1)) (value_word s v 2) i (both _ _ (both _ _ object).1).1 hi
      go false q =
          let l = ltb-false v (values s) q in
          let z : value_word s v 0 ≡ 0 = body-beyond s (checked-bodies c) 1 (4 * v + 0) (lit< tt) (omega (arith, l, wholes s (checked-bodies c) 1 (lit< tt))) in
          absurd (omega (arith, z, e))

  -- a member of object v: its name is a string, its value has a lower number
  pub record Member (v : ℕ) (p : Part) : Type 0 where
    pub name : p.name < strings s
    pub lower : p.value < v

  -- what holds of each item of an object holds of every member; other values have none
  pub every-member : (P : Part → Type 0) (v : ℕ) → (value_word s v 0 ≡ 7 → (i : ℕ) → i < value_word s v 2 → P (part_at s (value_word s v 1 + i))) → Every P (members (value_at s v))
  unfolding value_at
  every-member P v f =
      by_kind (Every P) (value_word s v 0) (value_word s v 1) (value_word s v 2) tt
      (λ e. every_of P (part_at s) (places (value_word s v 1) 1 (value_word s v 2)) (every-place (λ m. P (part_at s m)) (value_word s v 1) 1 (value_word s v 2) (λ i hi. let z : value_word s v 1 + 1 * i ≡ value_word s v 1 + i = omega arith in rw z (f e i hi))))

  pub item-is : (v : ℕ) → value_word s v 0 ≡ 7 → (i : ℕ) → i < value_word s v 2 → Member v (part_at s (value_word s v 1 + i))
  unfolding object_item part_at
  item-is v e i hi =
      let h = both _ _ (both _ _ (item v e i hi)).0 in
      record { name = ltb-true _ _ h.0; lower = ltb-true _ _ h.1 }

  pub members-are : (v : ℕ) → Every (Member v) (members (value_at s v))
  members-are v = every-member (Member v) v (item-is v)

  -- a run whose names are strings that rise by number
  run-rises : (first count : ℕ) → ((i : ℕ) → i < count → member_word s (first + i) 0 < strings s) → ((i j : ℕ) → i < j → j < count → member_word s (first + i) 0 < member_word s (first + j) 0) → Rising (case_of s) (map (part_at s) (places first 1 count))
  unfolding places part_at case_of
  run-rises first zero there up = tt
  run-rises first (suc count) there up = (
    every_of (λ q. before (text s (member_word s first 0)) (text s q.name) ≡ true) (part_at s) (places (first + 1) 1 count) (every-place (λ m. before (text s (member_word s first 0)) (text s (member_word s m 0)) ≡ true) (first + 1) 1 count (λ i hi. above i hi)),
    run-rises (first + 1) count (λ i hi. rw (next i) (there (suc i) (omega arith))) (λ i j h l. rw (next i, next j) (up (suc i) (suc j) (omega arith) (omega arith))),
  )
    where
      next : (i : ℕ) → first + 1 + i ≡ first + suc i
      next i = omega arith

      above : (i : ℕ) → i < count → before (text s (member_word s first 0)) (text s (member_word s (first + 1 + 1 * i) 0)) ≡ true
      above i hi =
          let z : first + 1 + 1 * i ≡ first + suc i = omega arith in
          let o : first + 0 ≡ first = omega arith in
          rw z (strings-rise (member_word s first 0) (member_word s (first + suc i) 0) (rw o at (up 0 (suc i) (omega arith) (omega arith))) (there (suc i) (omega arith)))

  pub members-rise : (v : ℕ) → Rising (case_of s) (members (value_at s v))
  unfolding value_at
  members-rise v =
      by_kind (Rising (case_of s)) (value_word s v 0) (value_word s v 1) (value_word s v 2) tt
      (λ e. run-rises (value_word s v 1) (value_word s v 2) (λ i hi. unfold object_item in ltb-true _ _ (both _ _ (both _ _ (item v e i hi)).0).0)
      (numbers-rise (λ i. member_word s (value_word s v 1 + i) 0) (value_word s v 2) (λ i hi. unfold object_item in (both _ _ (item v e i hi)).1)))

  -- ---- the law for code

  pub lookup-is : (v : ℕ) (path : List ℕ) → Plain (case_of s) path → lookup (case_of s) v path ≡ search (case_of s) v path
  lookup-is v path h = written-is-searched (case_of s) (λ v. unfold case_of in members-rise v) v path h

  -- the search goes on below lower values
  module _ (g h : ℕ → List ℕ → Option ℕ) (v : ℕ) (same : (j : ℕ) → j < v → g j ≡ h j) where
    below-same : (bytes rest : List ℕ) (ps : List Part) → Every (Member v) ps → onward g (called (case_of s) bytes ps) rest ≡ onward h (called (case_of s) bytes ps) rest
    unfolding called onward
    below-same bytes rest [] e = refl
    below-same bytes rest (p ∷ ps) e =
        go (same_list ((case_of s).text p.name) bytes) (below-same bytes rest ps e.1)
      where
        go : (b : Bool) → onward g (called (case_of s) bytes ps) rest ≡ onward h (called (case_of s) bytes ps) rest → onward g (elim b as (λ b. Option ℕ) [ true ↦ some p.value | false ↦ called (case_of s) bytes ps ]) rest ≡ onward h (elim b as (λ b. Option ℕ) [ true ↦ some p.value | false ↦ called (case_of s) bytes ps ]) rest
        go true more = ap (λ (f : List ℕ → Option ℕ). f rest) (same p.value e.0.lower)
        go false more = more

    longest-same : (ps : List Part) (path : List ℕ) → Every (Member v) ps → (k : ℕ) → longest (case_of s) g ps path k ≡ longest (case_of s) h ps path k
    unfolding longest
    longest-same ps path e zero = refl
    longest-same ps path e (suc k) =
        ap₂ or_else (below-same (joined (case_of s) (take (suc k) path)) (drop (suc k) path) ps e) (longest-same ps path e k)

    search-same : (path : List ℕ) → search_by (case_of s) g v path ≡ search_by (case_of s) h v path
    unfolding search_by
    search-same [] = refl
    search-same (n ∷ ns) = longest-same (members ((case_of s).value v)) (n ∷ ns) (unfold case_of in members-are v) (length (n ∷ ns))

  pub search_is : (v : ℕ) (path : List ℕ) → search (case_of s) v path ≡ search_by (case_of s) (search (case_of s)) v path
  unfolding search
  search_is v path =
      ap (λ (f : List ℕ → Option ℕ). f path) (made-is (λ path. none) (search_by (case_of s)) (suc v) (λ g h k hk same. fun_ext (search-same g h k same)) v (omega arith))

  -- ---- names by their numbers

  -- the member whose name has the bytes of string n is the one under n
  called-by : (n : ℕ) → n < strings s → (v : ℕ) (ps : List Part) → Every (Member v) ps → called (case_of s) (text s n) ps ≡ named n ps
  unfolding called named case_of
  called-by n hn v [] e = refl
  called-by n hn v (p ∷ ps) e =
      ap₂ (λ (b : Bool) (o : Option ℕ). elim b as (λ b. Option ℕ) [ true ↦ some p.value | false ↦ o ]) (go (eqb n p.name) refl) (called-by n hn v ps e.1)
    where
      go : (b : Bool) → eqb n p.name ≡ b → same_list (text s p.name) (text s n) ≡ eqb n p.name
      go true q = ap (λ (k : ℕ). same_list (text s k) (text s n)) (sym (eqb-true n p.name q)) ∙ self_same (text s n) ∙ sym q
      go false q = not_same (text s p.name) (text s n) (λ t. eqb-false n p.name q (sym (one-string p.name n e.0.name hn t))) ∙ sym q

  pub called-number : (n : ℕ) → n < strings s → (v : ℕ) → called (case_of s) (text s n) (members (value_at s v)) ≡ named n (members (value_at s v))
  called-number n hn v = called-by n hn v (members (value_at s v)) (members-are v)

  -- bytes that no string has name no member
  called-no : (bytes : List ℕ) → ((n : ℕ) → n < strings s → text s n ≡ bytes → ⊥) → (v : ℕ) (ps : List Part) → Every (Member v) ps → called (case_of s) bytes ps ≡ none
  unfolding called case_of
  called-no bytes other v [] e = refl
  called-no bytes other v (p ∷ ps) e = rw (not_same (text s p.name) bytes (other p.name e.0.name), called) (called-no bytes other v ps e.1)

  pub called-nowhere : (bytes : List ℕ) → ((n : ℕ) → n < strings s → text s n ≡ bytes → ⊥) → (v : ℕ) → called (case_of s) bytes (members (value_at s v)) ≡ none
  called-nowhere bytes other v = called-no bytes other v (members (value_at s v)) (members-are v)

  -- ---- paths

  -- a path of the lists that keeps rule 6: its names are strings without a dot
  pub names_of : (path : Run) → path_run s path.first path.count ≡ true → Every (λ n. (n < strings s) × (free 46 (text s n) ≡ true)) (names (case_of s) path)
  unfolding names run_of case_of path_run
  names_of path h =
      every_of (λ n. (n < strings s) × (free 46 (text s n) ≡ true)) (list s) (places path.first 1 path.count)
      (every-place (λ i. (list s i < strings s) × (free 46 (text s (list s i)) ≡ true)) path.first 1 path.count (λ i hi. at i (all-at _ _ i (both _ _ h).1 hi)))
    where
      at : (i : ℕ) → (ltb (list s (path.first + i)) (strings s) and free 46 (text s (list s (path.first + i)))) ≡ true → (list s (path.first + 1 * i) < strings s) × (free 46 (text s (list s (path.first + 1 * i))) ≡ true)
      at i e =
          let z : path.first + 1 * i ≡ path.first + i = omega arith in
          rw z (ltb-true _ _ (both _ _ e).0, (both _ _ e).1)

  pub path-plain : (path : Run) → path_run s path.first path.count ≡ true → Plain (case_of s) (names (case_of s) path)
  unfolding case_of
  path-plain path h = every_map (names (case_of s) path) (λ n e. e.1) (names_of path h)

  -- each node's own path does; beyond the table there is none
  node-rule : (n : ℕ) (nd : Node) → node_at s n ≡ nd → (nd ≡ Broken → ⊥) → rule_of s n nd ≡ true
  node-rule n nd e other = go (ltb n (nodes s)) refl
    where
      go : (b : Bool) → ltb n (nodes s) ≡ b → rule_of s n nd ≡ true
      go true q = unfold node_rule in rw e at (all-at (node_rule s) (nodes s) n (checked-nodes c) (ltb-true _ _ q))
      go false q = absurd (other (sym e ∙ node-beyond s (checked-bodies c) n (ltb-false _ _ q)))

  pub context-path : (n : ℕ) (path : Run) → node_at s n ≡ Context path → path_run s path.first path.count ≡ true
  unfolding rule_of
  context-path n path e = (both _ _ (both _ _ (node-rule n (Context path) e (λ q. let z : ◌≡◌ {A = ℕ} 0 1 = cc q in omega arith))).1).0

  pub scope_path : (n : ℕ) (root : Root) (path : Run) → node_at s n ≡ Scope root path → path_run s path.first path.count ≡ true
  unfolding rule_of
  scope_path n root path e = (both _ _ (both _ _ (node-rule n (Scope root path) e (λ q. let z : ◌≡◌ {A = ℕ} 0 1 = cc q in omega arith))).1).0
