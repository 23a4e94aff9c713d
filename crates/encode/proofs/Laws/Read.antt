-- Laws of the marks that reading gives: nothing is used against them where no place is used both ways; and where one is, something is used against any marks
use Rattle.std.specs.Prelude.{◌≡◌, Bool, List, ℕ, zero, suc, ◌+◌, ◌*◌, ◌<◌, ◌≤◌, leb, ltb, length}
use Rattle.std.proofs.Math.Path.{refl, ap}
use Rattle.std.proofs.Common.{sym, ◌∙◌, arith}
use Rattle.std.proofs.Math.Bool.{true, false, not}
use Rattle.std.proofs.Math.Dec.{eqb}
use Rattle.std.proofs.Math.ListN.{length-map, get_or-eq_default}
use borrow.Author.Tests.{ltb-true, ltb-false, leb-true, eqb-true, eq-eqb, not-true}
use Rattle.meaning.specs.declared.Node.{Node}
use Rattle.meaning.specs.declared.Node.TheVariants.{And, Or, Not, Formerly, Previous, Since, Predicate, Comparison, Exists, Tp, Literal, Context, Scope, Variable, Wildcard, Aggregate, Arithmetic, Sum, Count, Broken}
use Rattle.meaning.specs.Tests.{◌and◌, ◌or◌, choose, all_below}
use Rattle.meaning.specs.Case.{points, nodes, lists, point_word, list, node_at, places}
use Rattle.meaning.specs.Check.{Checked, string_run, entity_run, path_run, argument_rule, argument_run, point_rule, point_rules, rule_of, node_rule}
use Rattle.laws.specs.Tests.{both, pass, all-at}
use Rattle.laws.specs.Checked.{rules, checked-nodes}
use Rattle.encode.specs.Unsorted.{marked}
use Rattle.encode.specs.Write.{all_marked, none_marked, entity_marks, point_marks, argument_marks, marks_of, node_marks}
use Rattle.encode.specs.Read.{some_below, one_of, point_strings, strings_of, used_as_string, point_others, others_of, used_otherwise, read_marks, one_way}
use Rattle.encode.proofs.Laws.Encode.{all_true}
use Rattle.encode.proofs.Laws.Unsorted.{places-long}
use Rattle.encode.proofs.Laws.ReadBack.{place_at}

-- ---- some of several

pub or_left : {a : Bool} (b : Bool) → a ≡ true → (a or b) ≡ true
unfolding ◌or◌
or_left b e = rw e

pub or_right : {b : Bool} (a : Bool) → b ≡ true → (a or b) ≡ true
unfolding ◌or◌
or_right true e = refl
or_right false e = e

or_either : {P : Type 0} (a b : Bool) → (a or b) ≡ true → (a ≡ true → P) → (b ≡ true → P) → P
unfolding ◌or◌
or_either true b e f g = f refl
or_either false b e f g = g e

pub never : {P : Type 0} → false ≡ true → P
never e = let z : ◌≡◌ {A = ℕ} 0 1 = cc in absurd (omega arith)

pub some_at : (test : ℕ → Bool) (n k : ℕ) → k < n → test k ≡ true → some_below n test ≡ true
unfolding some_below
some_at test zero k h e = absurd (omega arith)
some_at test (suc n) k h e = go (ltb k n) refl (λ l. some_at test n k l e)
  where
    go : (b : Bool) → ltb k n ≡ b → (k < n → some_below n test ≡ true) → (some_below n test or test n) ≡ true
    go true q rest = or_left (test n) (rest (ltb-true k n q))
    go false q rest = let last : k ≡ n = omega (arith, ltb-false k n q) in or_right (some_below n test) (rw last at e)

some_of : {P : Type 0} (test : ℕ → Bool) (n : ℕ) → some_below n test ≡ true → ((k : ℕ) → k < n → test k ≡ true → P) → P
unfolding some_below
some_of test zero e f = never e
some_of test (suc n) e f = or_either (some_below n test) (test n) e (λ a. some_of test n a (λ k h t. f k (omega arith) t)) (λ a. f n (omega arith) a)

pub one_at : (first items k : ℕ) → k < items → one_of first items (first + k) ≡ true
one_at first items k h = some_at (λ j. eqb (first + k) (first + j)) items k h (eq-eqb (first + k) (first + k) refl)

one_of_lem : {P : Type 0} (first items i : ℕ) → one_of first items i ≡ true → ((k : ℕ) → k < items → i ≡ first + k → P) → P
one_of_lem first items i e f = some_of (λ k. eqb i (first + k)) items e (λ k h t. f k h (eqb-true i (first + k) t))

-- ---- marks that fit

module _ (marks : List ℕ) where
  all-marked : (first items : ℕ) → ((i : ℕ) → one_of first items i ≡ true → marked marks i ≡ true) → all_marked marks first items ≡ true
  unfolding all_marked
  all-marked first items f = all_true _ items (λ k h. f (first + k) (one_at first items k h))

  none-marked : (first items : ℕ) → ((i : ℕ) → one_of first items i ≡ true → marked marks i ≡ false) → none_marked marks first items ≡ true
  unfolding none_marked
  none-marked first items f = all_true _ items (λ k h. ap not (f (first + k) (one_at first items k h)))

  marked_of : (first items i : ℕ) → all_marked marks first items ≡ true → one_of first items i ≡ true → marked marks i ≡ true
  unfolding all_marked
  marked_of first items i e o = one_of_lem first items i o (λ k h q. rw q (all-at (λ k. marked marks (first + k)) items k e h))

  unmarked_of : (first items i : ℕ) → none_marked marks first items ≡ true → one_of first items i ≡ true → marked marks i ≡ false
  unfolding none_marked
  unmarked_of first items i e o = one_of_lem first items i o (λ k h q. rw q (not-true (marked marks (first + k)) (all-at (λ k. not (marked marks (first + k))) items k e h)))

module _ (s marks : List ℕ) where
  -- marks fit a point where its strings are marked and nothing else of it is
  point-fits : (p : ℕ) → ((i : ℕ) → point_strings s p i ≡ true → marked marks i ≡ true) → ((i : ℕ) → point_others s p i ≡ true → marked marks i ≡ false) → point_marks s marks p ≡ true
  unfolding point_marks point_strings point_others entity_marks
  point-fits p strings others =
      pass (all-marked marks (point_word s p 2) (point_word s p 3) (λ i e. strings i (or_left _ e)))
      (all_true _ (point_word s p 11) (λ e h. pass (all-marked marks (point_word s p 10 + 3 * e) 2 (λ i o. strings i (or_right _ (some_at (λ e. one_of (point_word s p 10 + 3 * e) 2 i) (point_word s p 11) e h o)))) (ap not (others (point_word s p 10 + 3 * e + 2) (some_at (λ j. eqb (point_word s p 10 + 3 * e + 2) (point_word s p 10 + 3 * j + 2)) (point_word s p 11) e h (eq-eqb _ _ (refl {a = point_word s p 10 + 3 * e + 2})))))))

  pub point-says : (p i : ℕ) → point_marks s marks p ≡ true → point_strings s p i ≡ true → marked marks i ≡ true
  unfolding point_marks point_strings entity_marks
  point-says p i h o =
      or_either _ _ o (λ e. marked_of marks (point_word s p 2) (point_word s p 3) i (both _ _ h).0 e)
      (λ e. some_of _ (point_word s p 11) e (λ k l q. marked_of marks (point_word s p 10 + 3 * k) 2 i (both _ _ (all-at _ (point_word s p 11) k (both _ _ h).1 l)).0 q))

  pub point_denies : (p i : ℕ) → point_marks s marks p ≡ true → point_others s p i ≡ true → marked marks i ≡ false
  unfolding point_marks point_others entity_marks
  point_denies p i h o =
      some_of _ (point_word s p 11) o (λ k l q. let z : i ≡ point_word s p 10 + 3 * k + 2 = eqb-true i (point_word s p 10 + 3 * k + 2) q in rw z (not-true _ (both _ _ (all-at _ (point_word s p 11) k (both _ _ h).1 l)).1))

  -- and so for a node
  node-fits : (n : Node) → ((i : ℕ) → strings_of s n i ≡ true → marked marks i ≡ true) → ((i : ℕ) → others_of s n i ≡ true → marked marks i ≡ false) → marks_of s marks n ≡ true
  unfolding marks_of strings_of others_of argument_marks
  node-fits (And l r) strings others = refl
  node-fits (Or l r) strings others = refl
  node-fits (Not x) strings others = refl
  node-fits (Formerly span x) strings others = refl
  node-fits (Previous span x) strings others = refl
  node-fits (Since l r span) strings others = refl
  node-fits (Predicate namespace action kind arguments) strings others =
      pass (all-marked marks namespace.first namespace.count (λ i e. strings i (or_left _ e)))
      (all_true _ arguments.count (λ a h. pass (none-marked marks (arguments.first + 3 * a) 3 (λ i o. others i (some_at (λ a. one_of (arguments.first + 3 * a) 3 i) arguments.count a h o))) (all-marked marks (list s (arguments.first + 3 * a)) (list s (arguments.first + 3 * a + 1)) (λ i o. strings i (or_right _ (some_at (λ a. one_of (list s (arguments.first + 3 * a)) (list s (arguments.first + 3 * a + 1)) i) arguments.count a h o))))))
  node-fits (Comparison op l r) strings others = refl
  node-fits (Exists x b) strings others = refl
  node-fits (Tp x) strings others = refl
  node-fits (Literal v) strings others = refl
  node-fits (Context path) strings others = all-marked marks path.first path.count strings
  node-fits (Scope root path) strings others = all-marked marks path.first path.count strings
  node-fits (Variable x) strings others = refl
  node-fits Wildcard strings others = refl
  node-fits (Aggregate a) strings others = refl
  node-fits (Arithmetic op l r) strings others = refl
  node-fits (Sum x binders b) strings others = none-marked marks binders.first binders.count others
  node-fits (Count binders b) strings others = none-marked marks binders.first binders.count others
  node-fits Broken strings others = refl

  pub node-says : (n : Node) (i : ℕ) → marks_of s marks n ≡ true → strings_of s n i ≡ true → marked marks i ≡ true
  unfolding marks_of strings_of argument_marks
  node-says (And l r) i h o = never o
  node-says (Or l r) i h o = never o
  node-says (Not x) i h o = never o
  node-says (Formerly span x) i h o = never o
  node-says (Previous span x) i h o = never o
  node-says (Since l r span) i h o = never o
  node-says (Predicate namespace action kind arguments) i h o =
      or_either _ _ o (λ e. marked_of marks namespace.first namespace.count i (both _ _ h).0 e)
      (λ e. some_of _ arguments.count e (λ a l q. marked_of marks (list s (arguments.first + 3 * a)) (list s (arguments.first + 3 * a + 1)) i (both _ _ (all-at _ arguments.count a (both _ _ h).1 l)).1 q))
  node-says (Comparison op l r) i h o = never o
  node-says (Exists x b) i h o = never o
  node-says (Tp x) i h o = never o
  node-says (Literal v) i h o = never o
  node-says (Context path) i h o = marked_of marks path.first path.count i h o
  node-says (Scope root path) i h o = marked_of marks path.first path.count i h o
  node-says (Variable x) i h o = never o
  node-says Wildcard i h o = never o
  node-says (Aggregate a) i h o = never o
  node-says (Arithmetic op l r) i h o = never o
  node-says (Sum x binders b) i h o = never o
  node-says (Count binders b) i h o = never o
  node-says Broken i h o = never o

  pub node_denies : (n : Node) (i : ℕ) → marks_of s marks n ≡ true → others_of s n i ≡ true → marked marks i ≡ false
  unfolding marks_of others_of argument_marks
  node_denies (And l r) i h o = never o
  node_denies (Or l r) i h o = never o
  node_denies (Not x) i h o = never o
  node_denies (Formerly span x) i h o = never o
  node_denies (Previous span x) i h o = never o
  node_denies (Since l r span) i h o = never o
  node_denies (Predicate namespace action kind arguments) i h o = some_of _ arguments.count o (λ a l q. unmarked_of marks (arguments.first + 3 * a) 3 i (both _ _ (all-at _ arguments.count a (both _ _ h).1 l)).0 q)
  node_denies (Comparison op l r) i h o = never o
  node_denies (Exists x b) i h o = never o
  node_denies (Tp x) i h o = never o
  node_denies (Literal v) i h o = never o
  node_denies (Context path) i h o = never o
  node_denies (Scope root path) i h o = never o
  node_denies (Variable x) i h o = never o
  node_denies Wildcard i h o = never o
  node_denies (Aggregate a) i h o = never o
  node_denies (Arithmetic op l r) i h o = never o
  node_denies (Sum x binders b) i h o = unmarked_of marks binders.first binders.count i h o
  node_denies (Count binders b) i h o = unmarked_of marks binders.first binders.count i h o
  node_denies Broken i h o = never o

-- what fits every point and node tells of every place
module _ (s marks : List ℕ) (by-points : all_below (points s) (point_marks s marks) ≡ true) (by-nodes : all_below (nodes s) (node_marks s marks) ≡ true) where
  used_marked : (i : ℕ) → used_as_string s i ≡ true → marked marks i ≡ true
  unfolding used_as_string node_marks
  used_marked i u =
      or_either _ _ u (λ e. some_of _ (points s) e (λ p h o. point-says s marks p i (all-at _ (points s) p by-points h) o))
      (λ e. some_of _ (nodes s) e (λ n h o. node-says s marks (node_at s n) i (all-at _ (nodes s) n by-nodes h) o))

  used_unmarked : (i : ℕ) → used_otherwise s i ≡ true → marked marks i ≡ false
  unfolding used_otherwise node_marks
  used_unmarked i u =
      or_either _ _ u (λ e. some_of _ (points s) e (λ p h o. point_denies s marks p i (all-at _ (points s) p by-points h) o))
      (λ e. some_of _ (nodes s) e (λ n h o. node_denies s marks (node_at s n) i (all-at _ (nodes s) n by-nodes h) o))

  -- so none is used both ways
  pub used_one_way : one_way s ≡ true
  unfolding one_way ◌and◌
  used_one_way = all_true _ (lists s) (λ i h. go i (used_as_string s i) (used_otherwise s i) refl refl)
    where
      go : (i : ℕ) (a b : Bool) → used_as_string s i ≡ a → used_otherwise s i ≡ b → not (a and b) ≡ true
      go i true true p q = never (sym (used_unmarked i q) ∙ used_marked i p)
      go i true false p q = refl
      go i false b p q = refl

-- ---- the marks of a checked case

run_in : (first items i most : ℕ) → one_of first items i ≡ true → leb (first + 1 * items) most ≡ true → i < most
run_in first items i most o l = one_of_lem first items i o (λ k h q. omega (arith, leb-true (first + 1 * items) most l))

module _ (s : List ℕ) where
  pub point_in_lem : (p i : ℕ) → point_rule s p ≡ true → point_strings s p i ≡ true → i < lists s
  unfolding point_rule point_strings string_run entity_run
  point_in_lem p i h o =
      or_either _ _ o (λ e. run_in (point_word s p 2) (point_word s p 3) i (lists s) e (both _ _ (both _ _ h).0).0) (λ e. some_of _ (point_word s p 11) e (λ k l q. one_of_lem (point_word s p 10 + 3 * k) 2 i q (λ j m z. omega (arith, entities))))
    where
      entities : point_word s p 10 + 3 * point_word s p 11 ≤ lists s
      entities = leb-true _ _ (both _ _ (both _ _ (both _ _ (both _ _ (both _ _ (both _ _ (both _ _ (both _ _ h).1).1).1).1).1).1).1).0

  pub node_in : (nd : Node) (n i : ℕ) → rule_of s n nd ≡ true → strings_of s nd i ≡ true → i < lists s
  unfolding rule_of strings_of string_run path_run argument_run argument_rule
  node_in (And l r) n i h o = never o
  node_in (Or l r) n i h o = never o
  node_in (Not x) n i h o = never o
  node_in (Formerly span x) n i h o = never o
  node_in (Previous span x) n i h o = never o
  node_in (Since l r span) n i h o = never o
  node_in (Predicate namespace action kind arguments) n i h o =
      or_either _ _ o (λ e. run_in namespace.first namespace.count i (lists s) e (both _ _ (both _ _ h).0).0)
      (λ e. some_of _ arguments.count e (λ a l q. run_in (list s (arguments.first + 3 * a)) (list s (arguments.first + 3 * a + 1)) i (lists s) q (both _ _ (both _ _ (both _ _ (all-at _ arguments.count a (both _ _ (both _ _ (both _ _ (both _ _ (both _ _ h).1).1).1).0).1 l)).0).1).0))
  node_in (Comparison op l r) n i h o = never o
  node_in (Exists x b) n i h o = never o
  node_in (Tp x) n i h o = never o
  node_in (Literal v) n i h o = never o
  node_in (Context path) n i h o = run_in path.first path.count i (lists s) o (both _ _ (both _ _ (both _ _ h).1).0).0
  node_in (Scope root path) n i h o = run_in path.first path.count i (lists s) o (both _ _ (both _ _ (both _ _ h).1).0).0
  node_in (Variable x) n i h o = never o
  node_in Wildcard n i h o = never o
  node_in (Aggregate a) n i h o = never o
  node_in (Arithmetic op l r) n i h o = never o
  node_in (Sum x binders b) n i h o = never o
  node_in (Count binders b) n i h o = never o
  node_in Broken n i h o = never o

  pub read-long : length (read_marks s) ≡ lists s
  unfolding read_marks
  read-long = length-map (places 0 1 (lists s)) (λ i. choose (used_as_string s i) 1 0) ∙ places-long 0 (lists s)

  read-marked : (i : ℕ) → i < lists s → marked (read_marks s) i ≡ used_as_string s i
  unfolding marked read_marks choose
  read-marked i h =
      ap (λ (n : ℕ). not (eqb n 0)) (place_at (λ i. choose (used_as_string s i) 1 0) 0 (lists s) i h ∙ ap (λ (n : ℕ). choose (used_as_string s n) 1 0) (omega arith)) ∙ go (used_as_string s i)
    where
      go : (b : Bool) → not (eqb (choose b 1 0) 0) ≡ b
      go true = refl
      go false = refl

  read-beyond : (i : ℕ) → lists s ≤ i → marked (read_marks s) i ≡ false
  unfolding marked
  read-beyond i h = rw (get_or-eq_default (read_marks s) 0 {n = i} (omega (arith, read-long)))

module _ {s : List ℕ} (c : Checked s) (one : one_way s ≡ true) where
  others-unmarked : (i : ℕ) → used_otherwise s i ≡ true → marked (read_marks s) i ≡ false
  unfolding one_way ◌and◌
  others-unmarked i u = go (ltb i (lists s)) refl
    where
      apart : (a b : Bool) → not (a and b) ≡ true → b ≡ true → a ≡ false
      apart true true h e = not-true true h
      apart true false h e = never e
      apart false b h e = refl

      go : (b : Bool) → ltb i (lists s) ≡ b → marked (read_marks s) i ≡ false
      go true e = read-marked s i (ltb-true i (lists s) e) ∙ apart (used_as_string s i) (used_otherwise s i) (all-at _ (lists s) i one (ltb-true i (lists s) e)) u
      go false e = read-beyond s i (ltb-false i (lists s) e)

  pub points-fit : all_below (points s) (point_marks s (read_marks s)) ≡ true
  unfolding point_rules used_as_string used_otherwise
  points-fit =
      all_true _ (points s) (λ p h.
      point-fits s (read_marks s) p
      (λ i o. read-marked s i (point_in_lem s p i (all-at _ (points s) p (rules s c).points h) o) ∙ or_left _ (some_at (λ p. point_strings s p i) (points s) p h o))
      (λ i o. others-unmarked i (or_left _ (some_at (λ p. point_others s p i) (points s) p h o))))

  pub nodes-fit : all_below (nodes s) (node_marks s (read_marks s)) ≡ true
  unfolding node_marks node_rule used_as_string used_otherwise
  nodes-fit =
      all_true _ (nodes s) (λ n h.
      node-fits s (read_marks s) (node_at s n)
      (λ i o. read-marked s i (node_in s (node_at s n) n i (all-at _ (nodes s) n (checked-nodes c) h) o) ∙ or_right _ (some_at (λ n. strings_of s (node_at s n) i) (nodes s) n h o))
      (λ i o. others-unmarked i (or_right _ (some_at (λ n. others_of s (node_at s n) i) (nodes s) n h o))))
