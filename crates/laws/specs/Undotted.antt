-- Cases without dots keep their answers: of a file that document 01's own check passes, each call gives what it gave with plain descent
use Rattle.std.proofs.Math.Path.{◌≡◌, refl, sym, ap}
use Rattle.std.proofs.Common.{◌∙◌}
use Rattle.std.specs.Prelude.{Bool, not, length, take, drop}
use Rattle.std.proofs.Math.Bool.{true, false}
use mathlib.Core.List.{List, [], ◌∷◌, ◌++◌, append-nil}
use Rattle.std.proofs.Math.Option.{Option, none, some}
use Prim.Native.Nat.{ℕ, zero, suc, ◌+◌, ◌*◌, ◌<◌, ◌≤◌}
use native.Mathlib.Omega.{arith}
use Rattle.std.proofs.Math.Dec.{eqb}
use borrow.Author.Tests.{ne_eqb, ltb-true, leb-true}
use Rattle.meaning.specs.declared.Node.{Node}
use Rattle.meaning.specs.declared.Node.TheVariants.{And, Or, Not, Formerly, Previous, Since, Predicate, Comparison, Exists, Tp, Literal, Context, Scope, Variable, Wildcard, Aggregate, Arithmetic, Sum, Count, Broken}
use Rattle.meaning.specs.declared.NodeNo.{NodeNo}
use Rattle.meaning.specs.Tests.{◌and◌, ◌or◌, choose, or_else, all_below}
use Rattle.meaning.specs.Text.{free}
use Rattle.meaning.specs.Walk.{give}
use Rattle.meaning.specs.Case.{Case, Part, Attributes, nothing, places, strings, values, points, value_word, member_word, point_word, list, text, part_at, value_at, entity_at, point_at, node_at, case_of}
use Rattle.meaning.specs.Check.{check, Checked, bodies, mosts, string_rules, value_rules, entity_rule, entity_item, entity_run, point_rule, point_rules, node_rules, part_count, part_value}
use Rattle.meaning.specs.Undotted.{plain_names, plain, plain_object, plain_entity, plain_item, plain_run, plain_point, plain_points, check01, Undotted}
use Rattle.meaning.specs.Equal.{Bound}
use Rattle.meaning.specs.Look.{named, members, descend, dotted, lookup, bound_at, attributes_of, own_part, supplied, entity_of, attribute, from_root, root_of, scope_at, context_at}
use Rattle.meaning.specs.Meaning.{Meaning, resolved, names, meaning_of, meaning}
use Rattle.meaning.specs.Calls.{Call, check_call, ask_call, rows_call}
use Rattle.meaning.specs.Carried.{carried_call}
use Rattle.meaning.specs.Readings.{standing}
use Rattle.meaning.specs.Calls01.{context_at01, supplied01, attribute01, from_root01, scope_at01, meaning_of01, meaning01, first, check_call01, ask_call01, rows_call01, carried_call01}
use Rattle.laws.specs.Tests.{both, pass, skip, unbroken, all-at, throughout-is}
use Rattle.laws.specs.Lists.{Every, every_map, every_of, every-place}
use Rattle.laws.specs.Text.{not_same}
use Rattle.laws.specs.Values.{runs, holder}
use Rattle.laws.specs.Checked.{rules, checked-values}
use Rattle.laws.specs.Search.{or_none, joined, called, onward, longest, search_by, search}
use Rattle.laws.specs.Searched.{every-member, item-is, lookup-is, search_is, called-number, names_of, context-path, scope_path}
use Rattle.laws.specs.Asked.{about, fixed, term-same, meaning-same, made-agree}
use Rattle.laws.specs.Readings.{Agree, check-stands, ask_stands, rows-stands, carried-stands, check_agrees, ask_agrees, rows_agree, carried_agrees}

-- ---- names without a dot: the search takes one name at a time

dot_in : (a b : List ℕ) → free 46 (a ++ (46 ∷ b)) ≡ false
unfolding free ◌and◌
dot_in [] b = refl
dot_in (x ∷ a) b = skip (not (eqb x 46)) (dot_in a b)

module _ (c : Case) where
  -- no member is named by more than one name
  called-plain : (bytes : List ℕ) (ps : List Part) → free 46 bytes ≡ false → Every (λ p. free 46 (c.text p.name) ≡ true) ps → called c bytes ps ≡ none
  unfolding called
  called-plain bytes [] h e = refl
  called-plain bytes (p ∷ ps) h e =
      rw (not_same (c.text p.name) bytes (λ q. apart q), called) (called-plain bytes ps h e.1)
    where
      apart : c.text p.name ≡ bytes → ⊥
      apart q = let z : ◌≡◌ {A = ℕ} 0 1 = cc (q, h, e.0) in omega arith

  longest-plain : (of : ℕ → List ℕ → Option ℕ) (ps : List Part) → Every (λ p. free 46 (c.text p.name) ≡ true) ps → (n : ℕ) (ns : List ℕ) (k : ℕ) → k ≤ length ns → longest c of ps (n ∷ ns) (suc k) ≡ onward of (called c (c.text n) ps) ns
  unfolding longest joined dotted or_else onward
  longest-plain of ps e n ns zero h = or_none (onward of (called c (c.text n ++ []) ps) ns) ∙ ap (λ (l : List ℕ). onward of (called c l ps) ns) (append-nil (c.text n))
  longest-plain of ps e n [] (suc k) h = absurd (omega arith)
  longest-plain of ps e n (m ∷ ns) (suc k) h =
      ap (λ (o : Option ℕ). or_else (onward of o (drop (suc k) (m ∷ ns))) (longest c of ps (n ∷ m ∷ ns) (suc k))) (called-plain (c.text n ++ (46 ∷ c.text m ++ dotted c (take k ns))) ps (dot_in (c.text n) (c.text m ++ dotted c (take k ns))) e)
      ∙ longest-plain of ps e n (m ∷ ns) k (omega arith)

module _ {s : List ℕ} (c : Checked s) where
  strings-most : strings s ≤ 16384
  unfolding mosts
  strings-most = leb-true _ _ (both _ _ (both _ _ (rules s c).mosts).1).0

  -- ---- a value whose names hold no dot, at any depth

  plain-is : (k : ℕ) → k < values s → plain s k ≡ (plain_names s k and all_below (part_count s k) (λ i. plain s (part_value s k i)))
  unfolding plain
  plain-is k hk = throughout-is (part_count s) (part_value s) (values s) (λ m hm i hi. (runs s m hm (all-at _ _ m (checked-values c) hm)).lower i hi) (plain_names s) k hk

  record PlainMember (p : Part) : Type 0 where
    free : free 46 (text s p.name) ≡ true
    there : p.value < values s
    inside : plain s p.value ≡ true

  plain-members : (v : ℕ) → v < values s → plain s v ≡ true → Every PlainMember (members (value_at s v))
  unfolding ◌or◌ plain_names part_at part_value
  plain-members v hv h = every-member c PlainMember v at
    where
      parts : (plain_names s v ≡ true) × (all_below (part_count s v) (λ i. plain s (part_value s v i)) ≡ true)
      parts = both _ _ (sym (plain-is v hv) ∙ h)

      no_none : (k : ℕ) (b : Bool) → k < strings s → (eqb k nothing or b) ≡ true → b ≡ true
      no_none k b l e =
          let z : eqb k nothing ≡ false = ne_eqb k nothing (λ q. omega (arith, q, strings-most)) in
          rw z at e

      at : value_word s v 0 ≡ 7 → (i : ℕ) → i < value_word s v 2 → PlainMember (part_at s (value_word s v 1 + i))
      at e i hi =
          let m = item-is c v e i hi in
          let l : i < part_count s v = omega (arith, holder s v (omega (arith, e)) (omega (arith, e))) in
          let dotless : free 46 (text s (member_word s (value_word s v 1 + i) 0)) ≡ true = no_none (member_word s (value_word s v 1 + i) 0) (free 46 (text s (member_word s (value_word s v 1 + i) 0))) m.name (all-at _ _ i parts.0 l) in
          let below : plain s (member_word s (value_word s v 1 + i) 1) ≡ true = all-at _ _ i parts.1 l in
          record { free = dotless; there = omega (arith, m.lower); inside = below }

  -- one name: the member under it
  module _ (n : ℕ) (ns : List ℕ) (below : (u : ℕ) → u < values s → plain s u ≡ true → search (case_of s) u ns ≡ descend (case_of s) u ns) where
    below_plain : (ps : List Part) → Every PlainMember ps → onward (search (case_of s)) (named n ps) ns ≡ elim (named n ps) as (λ o. Option ℕ) [ none ↦ none | some u ↦ descend (case_of s) u ns ]
    unfolding named onward
    below_plain [] e = refl
    below_plain (p ∷ ps) e =
        go (eqb n p.name) (below_plain ps e.1)
      where
        go : (b : Bool) → onward (search (case_of s)) (named n ps) ns ≡ elim (named n ps) as (λ o. Option ℕ) [ none ↦ none | some u ↦ descend (case_of s) u ns ] → onward (search (case_of s)) (elim b as (λ b. Option ℕ) [ true ↦ some p.value | false ↦ named n ps ]) ns ≡ elim (elim b as (λ b. Option ℕ) [ true ↦ some p.value | false ↦ named n ps ]) as (λ o. Option ℕ) [ none ↦ none | some u ↦ descend (case_of s) u ns ]
        go true more = below p.value e.0.there e.0.inside
        go false more = more

  search-plain : (path : List ℕ) → Every (λ n. (n < strings s) × (free 46 (text s n) ≡ true)) path → (v : ℕ) → v < values s → plain s v ≡ true → search (case_of s) v path ≡ descend (case_of s) v path
  unfolding descend search_by case_of
  search-plain [] h v hv pl = search_is c v []
  search-plain (n ∷ ns) h v hv pl =
      let ps = members (value_at s v) in
      let plains = plain-members v hv pl in
      search_is c v (n ∷ ns)
      ∙ longest-plain (case_of s) (search (case_of s)) ps (every_map ps (λ p m. m.free) plains) n ns (length ns) (omega arith)
      ∙ ap (λ (o : Option ℕ). onward (search (case_of s)) o ns) (called-number c n h.0.0 v)
      ∙ below_plain n ns (search-plain ns h.1) ps plains

  -- what was written last is what plain descent reaches
  lookup-plain : (path : List ℕ) → Every (λ n. (n < strings s) × (free 46 (text s n) ≡ true)) path → (v : ℕ) → v < values s → plain s v ≡ true → lookup (case_of s) v path ≡ descend (case_of s) v path
  lookup-plain path h v hv pl = lookup-is c v path (unfold case_of in every_map path (λ n e. e.1) h) ∙ search-plain path h v hv pl

-- ---- what document 01's check says more than the check

all_weaken : (f g : ℕ → Bool) (n : ℕ) → ((i : ℕ) → f i ≡ true → g i ≡ true) → all_below n f ≡ true → all_below n g ≡ true
unfolding all_below
all_weaken f g zero w h = refl
all_weaken f g (suc n) w h = pass (all_weaken f g n w (both _ _ h).0) (w n (both _ _ h).1)

-- a value whose names hold no dot, at any depth
abbrev PlainValue : List ℕ → ℕ → Type 0
PlainValue s v = (v < values s) × (plain s v ≡ true)

module _ (s : List ℕ) where
  entity_weaken : (first i : ℕ) → plain_item s first i ≡ true → entity_item s first i ≡ true
  unfolding plain_item entity_item plain_entity entity_rule
  entity_weaken first i h =
      let e = both _ _ (both _ _ h).0 in
      pass (pass e.0 (pass (both _ _ e.1).0 (both _ _ (both _ _ e.1).1).0)) (both _ _ h).1

  run_weaken : (first items : ℕ) → plain_run s first items ≡ true → entity_run s first items ≡ true
  unfolding plain_run entity_run
  run_weaken first items h = pass (both _ _ h).0 (all_weaken (plain_item s first) (entity_item s first) items (entity_weaken first) (both _ _ h).1)

  -- the parts of a point's rule: those of the rule that stands, the context's names and the entities
  point-parts : (p : ℕ) → plain_point s p ≡ true → (point_rule s p ≡ true) × (plain_object s (point_word s p 7) ≡ true) × (plain_run s (point_word s p 10) (point_word s p 11) ≡ true)
  unfolding plain_point point_rule
  point-parts p h =
      let h2 = both _ _ h in
      let h4 = both _ _ h2.1 in
      let h5 = both _ _ h4.1 in
      let h6 = both _ _ h5.1 in
      let h7 = both _ _ h6.1 in
      let h8 = both _ _ h7.1 in
      let h9 = both _ _ h8.1 in (
        pass h2.0 (pass h4.0 (pass h5.0 (pass h6.0 (pass (both _ _ h7.0).0 (pass h8.0 (pass h9.0 (run_weaken _ _ h9.1))))))),
        h7.0,
        h9.1,
      )

module _ {s : List ℕ} (u : Undotted s) where
  plain-points : plain_points s ≡ true
  unfolding check01
  plain-points = (unbroken _ _ _ (unbroken _ _ _ (unbroken _ _ _ (unbroken _ _ _ (unbroken _ _ _ u.passes).1).1).1).1).0

  -- such a case passes the check that stands
  pub still-passes : Checked s
  unfolding check01
  still-passes =
      let h1 = unbroken (bodies s) _ _ u.passes in
      let h2 = unbroken (mosts s) _ _ h1.1 in
      let h3 = unbroken (string_rules s) _ _ h2.1 in
      let h4 = unbroken (value_rules s) _ _ h3.1 in
      let h5 = unbroken (plain_points s) _ _ h4.1 in
      let h6 = unbroken (node_rules s) _ _ h5.1 in
      record { passes = all h1.0 h2.0 h3.0 h4.0 (points-pass h5.0) h6.0 }
    where
      points-pass : plain_points s ≡ true → point_rules s ≡ true
      points-pass e = unfold plain_points point_rules in all_weaken (plain_point s) (point_rule s) (points s) (λ i p. (point-parts s i p).0) e

      all : bodies s ≡ true → mosts s ≡ true → string_rules s ≡ true → value_rules s ≡ true → point_rules s ≡ true → node_rules s ≡ true → check s ≡ none
      all e1 e2 e3 e4 e5 e6 = unfold check choose in rw (e1, e2, e3, e4, e5, e6) refl

  -- ---- a point of it

  plain-object : (v : ℕ) → plain_object s v ≡ true → PlainValue s v
  plain-object v e = (ltb-true _ _ (both _ _ (both _ _ e).0).0, (both _ _ e).1)

  module _ (i : ℕ) (hi : i < points s) where
    parts : (point_rule s i ≡ true) × (plain_object s (point_word s i 7) ≡ true) × (plain_run s (point_word s i 10) (point_word s i 11) ≡ true)
    parts = point-parts s i (unfold plain_points in all-at (plain_point s) (points s) i plain-points hi)

    context-plain : PlainValue s (point_at s i).context
    unfolding point_at
    context-plain = plain-object (point_word s i 7) parts.1

    entities-plain : Every (λ a. PlainValue s a.object) (point_at s i).entities
    unfolding point_at
    entities-plain =
        every_of (λ a. PlainValue s a.object) (entity_at s) (places (point_word s i 10) 3 (point_word s i 11))
        (every-place (λ k. PlainValue s (entity_at s k).object) (point_word s i 10) 3 (point_word s i 11) at)
      where
        at : (j : ℕ) → j < point_word s i 11 → PlainValue s (entity_at s (point_word s i 10 + 3 * j)).object
        at j hj = unfold entity_at plain_run plain_item plain_entity in plain-object _ (both _ _ (both _ _ (both _ _ (all-at _ _ j (both _ _ parts.2).1 hj)).0).1).1

    -- ---- what its context and its entities' attributes give

    module _ (path : List ℕ) (dotless : Every (λ n. (n < strings s) × (free 46 (text s n) ≡ true)) path) where
      reaches : (v : ℕ) → PlainValue s v → bound_at (case_of s) (lookup (case_of s) v path) ≡ bound_at (case_of s) (descend (case_of s) v path)
      reaches v h = ap (bound_at (case_of s)) (lookup-plain still-passes path dotless v h.0 h.1)

      context-same : context_at (case_of s) (point_at s i) path ≡ context_at01 (case_of s) (point_at s i) path
      unfolding context_at context_at01
      context-same = reaches (point_at s i).context context-plain

      supplied-same : (t id : ℕ) (es : List Attributes) → Every (λ a. PlainValue s a.object) es → supplied (case_of s) (attributes_of t id es) path ≡ supplied01 (case_of s) (attributes_of t id es) path
      unfolding attributes_of supplied supplied01
      supplied-same t id [] h = refl
      supplied-same t id (e ∷ es) h =
          go (eqb t e.type and eqb id e.id) (supplied-same t id es h.1)
        where
          go : (b : Bool) → supplied (case_of s) (attributes_of t id es) path ≡ supplied01 (case_of s) (attributes_of t id es) path → supplied (case_of s) (elim b as (λ b. Option ℕ) [ true ↦ some e.object | false ↦ attributes_of t id es ]) path ≡ supplied01 (case_of s) (elim b as (λ b. Option ℕ) [ true ↦ some e.object | false ↦ attributes_of t id es ]) path
          go true more = reaches e.object h.0
          go false more = more

      attribute-same : (v : ℕ) → attribute (case_of s) (point_at s i) v path ≡ attribute01 (case_of s) (point_at s i) v path
      unfolding attribute attribute01
      attribute-same v =
          go (entity_of ((case_of s).value v))
        where
          go : (o : Option (ℕ × ℕ)) → ◌≡◌ {A = Option Bound} (elim o as (λ o. Option Bound) [ none ↦ none | some e ↦ or_else (supplied (case_of s) (attributes_of e.0 e.1 (point_at s i).entities) path) (own_part (case_of s) e.0 e.1 path) ]) (elim o as (λ o. Option Bound) [ none ↦ none | some e ↦ or_else (supplied01 (case_of s) (attributes_of e.0 e.1 (point_at s i).entities) path) (own_part (case_of s) e.0 e.1 path) ])
          go none = refl
          go (some e) = ap (λ (o : Option Bound). or_else o (own_part (case_of s) e.0 e.1 path)) (supplied-same e.0 e.1 (point_at s i).entities entities-plain)

    root_same : (o : Option ℕ) (path : List ℕ) → Every (λ n. (n < strings s) × (free 46 (text s n) ≡ true)) path → from_root (case_of s) (point_at s i) o path ≡ from_root01 (case_of s) (point_at s i) o path
    unfolding from_root from_root01
    root_same none path h = refl
    root_same (some v) [] h = refl
    root_same (some v) (n ∷ ns) h = attribute-same (n ∷ ns) h v

    -- ---- so every node means the same in every question about the point

    leaf-same : (k : ℕ) (of : NodeNo → Meaning) (nd : Node) → node_at s k ≡ nd → fixed (point_at s i) (meaning_of (case_of s) of nd) ≡ fixed (point_at s i) (meaning_of01 (case_of s) of nd)
    unfolding meaning_of01
    leaf-same k of (And l r) e = refl
    leaf-same k of (Or l r) e = refl
    leaf-same k of (Not n) e = refl
    leaf-same k of (Formerly within n) e = refl
    leaf-same k of (Previous within n) e = refl
    leaf-same k of (Since l r within) e = refl
    leaf-same k of (Predicate namespace action kind args) e = refl
    leaf-same k of (Comparison op l r) e = refl
    leaf-same k of (Exists x n) e = refl
    leaf-same k of (Tp x) e = refl
    leaf-same k of (Literal v) e = refl
    leaf-same k of (Context path) e = unfold meaning_of about in term-same (point_at s i) resolved (λ q. give (context_at (case_of s) q.asked (names (case_of s) path))) (λ q. give (context_at01 (case_of s) q.asked (names (case_of s) path))) (λ q. ap give (context-same (names (case_of s) path) (names_of still-passes path (context-path still-passes k path e))))
    leaf-same k of (Scope root path) e = unfold meaning_of about scope_at scope_at01 in term-same (point_at s i) resolved (λ q. give (scope_at (case_of s) q.asked root (names (case_of s) path))) (λ q. give (scope_at01 (case_of s) q.asked root (names (case_of s) path))) (λ q. ap give (root_same (root_of (point_at s i) root) (names (case_of s) path) (names_of still-passes path (scope_path still-passes k root path e))))
    leaf-same k of (Variable x) e = refl
    leaf-same k of Wildcard e = refl
    leaf-same k of (Aggregate n) e = refl
    leaf-same k of (Arithmetic op l r) e = refl
    leaf-same k of (Sum x binders n) e = refl
    leaf-same k of (Count binders n) e = refl
    leaf-same k of Broken e = refl

    means-same : (n : ℕ) → fixed (point_at s i) (meaning (case_of s) n) ≡ fixed (point_at s i) (meaning01 (case_of s) n)
    unfolding meaning meaning01 case_of
    means-same n =
        made-agree (point_at s i) (λ of k. meaning_of (case_of s) (λ n. of n.0) (node_at s k)) (λ of k. meaning_of01 (case_of s) (λ n. of n.0) (node_at s k))
        (λ g h e k. meaning-same (point_at s i) (case_of s) (λ n. g n.0) (λ n. h n.0) (node_at s k) (λ n. e n.0) ∙ leaf-same k (λ n. h n.0) (node_at s k) refl) n

-- ---- the calls

module _ (c : Call) (u : Undotted c.file) where
  readings_agree : Agree standing first c
  unfolding standing first
  readings_agree = record {
    check = (still-passes u).passes ∙ sym u.passes;
    means = means-same u c.point;
  }

  pub check-kept : check_call c.file ≡ check_call01 c.file
  unfolding check_call01
  check-kept = sym (check-stands c.file) ∙ check_agrees standing first c readings_agree

  pub ask_kept : ask_call c ≡ ask_call01 c
  unfolding ask_call01
  ask_kept = sym (ask_stands c) ∙ ask_agrees standing first c readings_agree

  pub rows-kept : (binders output : List ℕ) → rows_call binders output c ≡ rows_call01 binders output c
  unfolding rows_call01
  rows-kept binders output = sym (rows-stands binders output c) ∙ rows_agree standing first c readings_agree binders output

  pub carried-kept : (list : List ℕ) → carried_call list c ≡ carried_call01 list c
  unfolding carried_call01
  carried-kept list = sym (carried-stands list c) ∙ carried_agrees standing first c readings_agree list
