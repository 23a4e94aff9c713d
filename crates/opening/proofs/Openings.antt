-- What is against a call, test by test
use mathlib.Core.Path.{◌≡◌, refl, ap, sym, subst, ◌∙◌}
use mathlib.Core.Bool.{Bool, true, false, not}
use mathlib.Core.List.{List, [], ◌∷◌}
use mathlib.Core.Option.{Option, none, some}
use Prim.Native.Nat.{ℕ, ◌*◌, ◌≤◌, ◌<◌}
use mathlib.Core.Logic.{inl, inr}
use native.Mathlib.Omega.{arith}
use native.Mathlib.Nat.{mul_comm, mul-le-mul, mul-le-mul_left}
use lib.Seq.{length-take-le}
use Rattle.rows.specs.Slots.{Sized}
use lib.Dec.{leb, ltb}
use lib.ListN.{length}
use mir.Val.{Fits}
use mir.Syntax.{w64}
use types.Run.{OneOf}
use denote.Enum.Declared.{tag_of}
use borrow.Author.Tests.{leb-true, le-leb, lt-leb, lt-ltb, le-ltb, ltb-true, ltb-false, not-true, not-false}
use Rattle.meaning.specs.contracts.Node.{the_type}
use Rattle.meaning.specs.declared.Env.{Env}
use Rattle.meaning.specs.declared.Limits.{Limits}
use Rattle.meaning.specs.declared.Node.{Node}
use Rattle.meaning.specs.declared.Node.TheVariants.{And, Or, Not, Formerly, Previous, Since, Predicate, Comparison, Exists, Tp, Literal, Context, Scope, Variable, Wildcard, Aggregate, Arithmetic, Sum, Count, Broken}
use Rattle.meaning.specs.declared.Refusal.{Refusal}
use Rattle.meaning.specs.declared.Refusal.TheVariants.{NoSuchPoint, NoSuchNode, BadStart, BadLimits}
use Rattle.meaning.specs.Tests.{◌and◌, ◌or◌, first_broken, only_if, is_some, pick}
use Rattle.meaning.specs.Case.{Sort, conditions, terms, aggregates, broken, is_sort, sort_of, points, nodes, vars, node_at}
use Rattle.meaning.specs.Walk.{started}
use Rattle.meaning.specs.Check.{Checked, bodies}
use Rattle.meaning.specs.Rows.{row_of}
use Rattle.meaning.specs.Calls.{Call, is_condition, is_aggregate, answerable, against, start_row, start_or}
use Rattle.laws.specs.Tests.{both, yes, no}
use Rattle.laws.specs.Checked.{checked-bodies, points-most}
use Rattle.laws.specs.Nodes.{node-beyond}
use Rattle.meaning.specs.Carried.{looks_back, look_of}
use Rattle.opening.specs.declared.Wanted.{Wanted}
use Rattle.opening.specs.declared.Wanted.TheVariants.{Answerable, Condition, LooksBack}
use Rattle.opening.specs.declared.Opening.{Opening}
use Rattle.std.specs.Prelude.{Ok, Err, Option as Answer, Some, None}
use Rattle.opening.specs.Start.{Reads, StartsBy, Starts}
use Rattle.opening.specs.Opening.{wanted_for, in_limits, refusal_in, Opens}

-- ---- sorts, by the number of a node's variant

sorts : List Sort
sorts =
    conditions ∷ conditions ∷ conditions ∷ conditions ∷ conditions ∷ conditions ∷ conditions ∷ conditions ∷ conditions ∷ conditions
    ∷ terms ∷ terms ∷ terms ∷ terms ∷ terms ∷ terms ∷ terms ∷ aggregates ∷ aggregates ∷ broken ∷ []

sort_is : (nd : Node) → sort_of nd ≡ pick sorts (tag_of the_type nd) broken
unfolding sort_of sorts pick
sort_is (And l r) = refl
sort_is (Or l r) = refl
sort_is (Not n) = refl
sort_is (Formerly span n) = refl
sort_is (Previous span n) = refl
sort_is (Since l r span) = refl
sort_is (Predicate namespace action kind arguments) = refl
sort_is (Comparison op l r) = refl
sort_is (Exists x n) = refl
sort_is (Tp x) = refl
sort_is (Literal v) = refl
sort_is (Context path) = refl
sort_is (Scope root path) = refl
sort_is (Variable x) = refl
sort_is Wildcard = refl
sort_is (Aggregate n) = refl
sort_is (Arithmetic op l r) = refl
sort_is (Sum x binders n) = refl
sort_is (Count binders n) = refl
sort_is Broken = refl

-- what a test says of each number it says of one of them
all_of : (ℕ → Bool) → List ℕ → Bool
all_of test [] = true
all_of test (k ∷ ks) = test k and all_of test ks

one_of_lem : (test : ℕ → Bool) (ks : List ℕ) (n : ℕ) → all_of test ks ≡ true → OneOf ks n → test n ≡ true
unfolding all_of
one_of_lem test [] n all h = absurd h
one_of_lem test (k ∷ []) n all h = rw h (both _ _ all).0
one_of_lem test (k ∷ j ∷ ks) n all (inl h) = rw h (both _ _ all).0
one_of_lem test (k ∷ j ∷ ks) n all (inr h) = one_of_lem test (j ∷ ks) n (both _ _ all).1 h

module _ (sort : Sort) (ks : List ℕ) (nd : Node) (h : OneOf ks (tag_of the_type nd)) where
  is_of : all_of (λ k. is_sort sort (pick sorts k broken)) ks ≡ true → true ≡ is_sort sort (sort_of nd)
  is_of all = sym (rw (sort_is nd) (one_of_lem (λ k. is_sort sort (pick sorts k broken)) ks (tag_of the_type nd) all h))

  is-not_of : all_of (λ k. not (is_sort sort (pick sorts k broken))) ks ≡ true → false ≡ is_sort sort (sort_of nd)
  is-not_of all = sym (rw (sort_is nd) (not-true _ (one_of_lem (λ k. not (is_sort sort (pick sorts k broken))) ks (tag_of the_type nd) all h)))

module _ (nd : Node) where
  pub condition : OneOf (0 ∷ 1 ∷ 2 ∷ 3 ∷ 4 ∷ 5 ∷ 6 ∷ 7 ∷ 8 ∷ 9 ∷ []) (tag_of the_type nd) → true ≡ is_condition nd
  unfolding is_condition all_of is_sort pick sorts ◌and◌
  condition h = is_of conditions (0 ∷ 1 ∷ 2 ∷ 3 ∷ 4 ∷ 5 ∷ 6 ∷ 7 ∷ 8 ∷ 9 ∷ []) nd h refl

  pub no-condition : OneOf (10 ∷ 11 ∷ 12 ∷ 13 ∷ 14 ∷ 15 ∷ 16 ∷ 17 ∷ 18 ∷ 19 ∷ []) (tag_of the_type nd) → false ≡ is_condition nd
  unfolding is_condition all_of is_sort pick sorts ◌and◌
  no-condition h = is-not_of conditions (10 ∷ 11 ∷ 12 ∷ 13 ∷ 14 ∷ 15 ∷ 16 ∷ 17 ∷ 18 ∷ 19 ∷ []) nd h refl

  pub aggregate : OneOf (17 ∷ 18 ∷ []) (tag_of the_type nd) → true ≡ is_aggregate nd
  unfolding is_aggregate all_of is_sort pick sorts ◌and◌
  aggregate h = is_of aggregates (17 ∷ 18 ∷ []) nd h refl

  pub no-aggregate : OneOf (0 ∷ 1 ∷ 2 ∷ 3 ∷ 4 ∷ 5 ∷ 6 ∷ 7 ∷ 8 ∷ 9 ∷ 10 ∷ 11 ∷ 12 ∷ 13 ∷ 14 ∷ 15 ∷ 16 ∷ 19 ∷ []) (tag_of the_type nd) → false ≡ is_aggregate nd
  unfolding is_aggregate all_of is_sort pick sorts ◌and◌
  no-aggregate h = is-not_of aggregates (0 ∷ 1 ∷ 2 ∷ 3 ∷ 4 ∷ 5 ∷ 6 ∷ 7 ∷ 8 ∷ 9 ∷ 10 ∷ 11 ∷ 12 ∷ 13 ∷ 14 ∷ 15 ∷ 16 ∷ 19 ∷ []) nd h refl

module _ (nd : Node) {r : Bool} (is : r ≡ is_condition nd) where
  pub answerable-first : r ≡ true → true ≡ answerable nd
  unfolding answerable ◌or◌
  answerable-first e = rw (← is, e) refl

  pub answerable-second : {r' : Bool} → r ≡ false → r' ≡ is_aggregate nd → r' ≡ answerable nd
  unfolding answerable ◌or◌
  answerable-second e is' = rw (← is, e) is'

module _ (wanted : Wanted) (nd : Node) {r : Bool} where
  pub wants-answerable : wanted ≡ Answerable → r ≡ answerable nd → r ≡ wanted_for wanted nd
  unfolding wanted_for
  wants-answerable e is = rw e is

  pub wants-condition : wanted ≡ Condition → r ≡ is_condition nd → r ≡ wanted_for wanted nd
  unfolding wanted_for
  wants-condition e is = rw e is

  pub wants_scan : wanted ≡ LooksBack → r ≡ looks_back nd → r ≡ wanted_for wanted nd
  unfolding wanted_for
  wants_scan e is = rw e is

-- beyond the table stands no node that a call is about
broken-none : (wanted : Wanted) → wanted_for wanted Broken ≡ false
unfolding wanted_for answerable is_condition is_aggregate is_sort sort_of looks_back look_of is_some ◌or◌
broken-none Answerable = refl
broken-none Condition = refl
broken-none LooksBack = refl

none-beyond : (wanted : Wanted) (s : List ℕ) (n : ℕ) → bodies s ≡ true → (ltb n (nodes s) and wanted_for wanted (node_at s n)) ≡ wanted_for wanted (node_at s n)
unfolding ◌and◌
none-beyond wanted s n h =
    go (ltb n (nodes s)) refl
  where
    go : (b : Bool) → ltb n (nodes s) ≡ b → (b and wanted_for wanted (node_at s n)) ≡ wanted_for wanted (node_at s n)
    go true e = refl
    go false e = sym (rw (node-beyond s h n (ltb-false n (nodes s) e)) (broken-none wanted))

-- ---- limits

above-not : (a b : ℕ) → ltb a b ≡ not (leb b a)
above-not a b = go (ltb a b) refl
  where
    go : (t : Bool) → ltb a b ≡ t → t ≡ not (leb b a)
    go true e = rw (lt-leb b a (ltb-true a b e)) refl
    go false e = rw (le-leb b a (ltb-false a b e)) refl

module _ (vars : ℕ) (limits : Limits) (cells : ℕ) where
  pub steps-beyond : 1000000000 < limits.steps → true ≡ not (in_limits vars limits cells)
  unfolding ◌and◌
  steps-beyond h = rw (lt-leb limits.steps 1000000000 h) refl

  module _ (few : limits.steps ≤ 1000000000) where
    pub room-beyond : 16384 < limits.room → true ≡ not (in_limits vars limits cells)
    unfolding ◌and◌
    room-beyond h = rw (le-leb limits.steps 1000000000 few, lt-leb limits.room 16384 h) refl

    pub cells-beyond : limits.room ≤ 16384 → ltb cells (2 * vars * limits.room) ≡ not (in_limits vars limits cells)
    unfolding ◌and◌
    cells-beyond h = rw (le-leb limits.steps 1000000000 few, le-leb limits.room 16384 h) (above-not cells (2 * vars * limits.room))

  limits-are : in_limits vars limits cells ≡ true → (limits.room ≤ 16384) × (2 * vars * limits.room ≤ cells)
  limits-are e =
      let later = both _ _ (both _ _ e).1 in
      (leb-true limits.room 16384 later.0, leb-true (2 * vars * limits.room) cells later.1)

pub room_fits : {v n : ℕ} → v ≤ 16 → n ≤ 16384 → Fits w64 (2 * v * n)
room_fits {v} {n} few small = record { fits = omega (arith, mul-le-mul (mul-le-mul_left 2 few) small) }

-- what starting bindings are read into
pub start-some : {s start : List ℕ} {u : Answer Env} {env : Env} → Starts s start u → u ≡ Some env → Reads s start env
start-some {s} {start} h q = subst (StartsBy s start) q h.says

start-none : {s start : List ℕ} {u : Answer Env} → Starts s start u → u ≡ None → none ≡ start_row s (vars s) start
start-none {s} {start} h q = subst (StartsBy s start) q h.says

module _ {s start : List ℕ} {u : Answer Env} {env : Env} (h : Starts s start u) (q : u ≡ Some env) where
  pub few-vars : env.count ≤ 16
  few-vars = (start-some h q).sized.few

  pub two-vars : Fits w64 (2 * env.count)
  two-vars = record { fits = omega (arith, few-vars) }

  -- where nothing is beyond its limit, the cells of the rows can be counted
  pub many-cells : (limits : Limits) (cells : ℕ) {over : Bool} → over ≡ not (in_limits env.count limits cells) → over ≡ false → Fits w64 (2 * env.count * limits.room)
  many-cells limits cells over-is fits = room_fits few-vars (limits-are env.count limits cells (not-false _ (sym over-is ∙ fits))).0

-- ---- a call, refused or opened

module _ (wanted : Wanted) (c : Call) where
  abbrev limits-last : List (Bool × Refusal)
  limits-last = (in_limits (vars c.file) c.limits (length c.workspace), BadLimits) ∷ []

  abbrev start-next : List (Bool × Refusal)
  start-next = (is_some (start_row c.file (vars c.file) c.start), BadStart) ∷ limits-last

  abbrev node-next : List (Bool × Refusal)
  node-next = (ltb c.node (nodes c.file) and wanted_for wanted (node_at c.file c.node), NoSuchNode) ∷ start-next

  refused-with : (n : Refusal) → against (wanted_for wanted) c ≡ some n → Opens (wanted_for wanted) c (Err n)
  unfolding refusal_in
  refused-with n e = record { is = sym e; opened = tt }

  module _ (many : ℕ) (points-are : many ≡ points c.file) where
    pub no_such_point : many ≤ c.point → Opens (wanted_for wanted) c (Err NoSuchPoint)
    unfolding against
    no_such_point le = refused-with NoSuchPoint (no _ (le-ltb c.point (points c.file) (omega arith)) refl)

    module _ (there : c.point < many) (passed : Checked c.file) (nd : Node) (node-is : nd ≡ node_at c.file c.node) (right : Bool) (sorted : right ≡ wanted_for wanted nd) where
      past-point : {x : Option Refusal} → first_broken node-next ≡ x → against (wanted_for wanted) c ≡ x
      unfolding against
      past-point e = yes _ (lt-ltb c.point (points c.file) (omega arith)) ∙ e

      node_test : (ltb c.node (nodes c.file) and wanted_for wanted (node_at c.file c.node)) ≡ right
      node_test =
          none-beyond wanted c.file c.node (checked-bodies passed)
          ∙ sym (sorted ∙ ap (wanted_for wanted) node-is)

      pub no_such_node : not right ≡ true → Opens (wanted_for wanted) c (Err NoSuchNode)
      no_such_node wrong = refused-with NoSuchNode (past-point (no _ (node_test ∙ not-true right wrong) refl))

      module _ (fine : not right ≡ false) {u : Answer Env} (starts : Starts c.file c.start u) where
        past-node : {x : Option Refusal} → first_broken start-next ≡ x → against (wanted_for wanted) c ≡ x
        past-node e = past-point (yes _ (node_test ∙ not-false right fine) ∙ e)

        pub bad_start : u ≡ None → Opens (wanted_for wanted) c (Err BadStart)
        unfolding is_some
        bad_start q = refused-with BadStart (past-node (no _ (sym (ap is_some (start-none starts q))) refl))

        module _ {env : Env} (q : u ≡ Some env) (over : Bool) (over-is : over ≡ not (in_limits env.count c.limits (length c.workspace))) where
          reads : Reads c.file c.start env
          reads = start-some starts q

          past-start : {x : Option Refusal} → first_broken limits-last ≡ x → against (wanted_for wanted) c ≡ x
          unfolding is_some
          past-start e = past-node (yes _ (sym (ap is_some reads.is)) ∙ e)

          limits_test : not (in_limits (vars c.file) c.limits (length c.workspace)) ≡ over
          limits_test = rw (← reads.count) (sym over-is)

          pub bad_limits : over ≡ true → Opens (wanted_for wanted) c (Err BadLimits)
          bad_limits wrong = refused-with BadLimits (past-start (no _ (not-true _ (limits_test ∙ wrong)) refl))

          pub opened : over ≡ false → Opens (wanted_for wanted) c (Ok (record { env = env; call = record { limits = c.limits; vars = env.count; asked = c.point }; cells = 2 * env.count * c.limits.room }))
          unfolding refusal_in start_or started
          opened fits =
              let limits = limits-are env.count c.limits (length c.workspace) (not-false _ (sym over-is ∙ fits)) in
              let long = length-take-le (2 * env.count * c.limits.room) c.workspace limits.1 in
              record {
                is = sym (past-start (yes _ (not-false _ (limits_test ∙ fits))));
                opened = record {
                  bindings = ap start_or reads.is;
                  call = ap (λ (v : ℕ). record { limits = c.limits; vars = v; asked = c.point }) reads.count;
                  point = omega (arith, points-most passed);
                  cells = ap (λ (v : ℕ). 2 * v * c.limits.room) reads.count;
                  fits = limits.1;
                  ready = record {
                    checked = passed;
                    vars = reads.count;
                    sized = reads.sized;
                    count = refl;
                    fit = record {
                      vars = reads.sized.few;
                      room = limits.0;
                      wide = omega (arith, long, mul_comm c.limits.room (2 * env.count));
                    };
                    held = omega arith;
                  };
                };
              }
