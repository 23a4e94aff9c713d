-- The marks that reading a case gives: which list places its points and nodes use as strings, and which otherwise
use Rattle.std.specs.Prelude.{Bool, false, not, List, map, ℕ, zero, suc, ◌+◌, ◌*◌, eqb}
use Rattle.meaning.specs.declared.Node.{Node}
use Rattle.meaning.specs.declared.Node.TheVariants.{And, Or, Not, Formerly, Previous, Since, Predicate, Comparison, Exists, Tp, Literal, Context, Scope, Variable, Wildcard, Aggregate, Arithmetic, Sum, Count, Broken}
use Rattle.meaning.specs.Tests.{◌and◌, ◌or◌, choose, all_below}
use Rattle.meaning.specs.Case.{points, nodes, lists, point_word, list, node_at, places}

-- some number below n passes
unfoldable pub some_below : ℕ → (ℕ → Bool) → Bool
some_below zero test = false
some_below (suc n) test = some_below n test or test n

-- place i is one of so many from the first on
abbrev pub one_of : ℕ → ℕ → ℕ → Bool
one_of first items i = some_below items (λ k. eqb i (first + k))

module _ (s : List ℕ) where
  -- ---- used as a string

  -- namespace, types and ids of entities
  unfoldable pub point_strings : ℕ → ℕ → Bool
  point_strings p i =
      one_of (point_word s p 2) (point_word s p 3) i
      or some_below (point_word s p 11) (λ e. one_of (point_word s p 10 + 3 * e) 2 i)

  -- namespace and paths
  unfoldable pub strings_of : Node → ℕ → Bool
  strings_of (And l r) i = false
  strings_of (Or l r) i = false
  strings_of (Not x) i = false
  strings_of (Formerly span x) i = false
  strings_of (Previous span x) i = false
  strings_of (Since l r span) i = false
  strings_of (Predicate namespace action kind arguments) i =
      one_of namespace.first namespace.count i
      or some_below arguments.count (λ a. one_of (list s (arguments.first + 3 * a)) (list s (arguments.first + 3 * a + 1)) i)
  strings_of (Comparison op l r) i = false
  strings_of (Exists x b) i = false
  strings_of (Tp x) i = false
  strings_of (Literal v) i = false
  strings_of (Context path) i = one_of path.first path.count i
  strings_of (Scope root path) i = one_of path.first path.count i
  strings_of (Variable x) i = false
  strings_of Wildcard i = false
  strings_of (Aggregate a) i = false
  strings_of (Arithmetic op l r) i = false
  strings_of (Sum x binders b) i = false
  strings_of (Count binders b) i = false
  strings_of Broken i = false

  unfoldable pub used_as_string : ℕ → Bool
  used_as_string i = some_below (points s) (λ p. point_strings p i) or some_below (nodes s) (λ n. strings_of (node_at s n) i)

  -- ---- used otherwise

  -- attribute objects of entities
  unfoldable pub point_others : ℕ → ℕ → Bool
  point_others p i = some_below (point_word s p 11) (λ e. eqb i (point_word s p 10 + 3 * e + 2))

  -- arguments and binders
  unfoldable pub others_of : Node → ℕ → Bool
  others_of (And l r) i = false
  others_of (Or l r) i = false
  others_of (Not x) i = false
  others_of (Formerly span x) i = false
  others_of (Previous span x) i = false
  others_of (Since l r span) i = false
  others_of (Predicate namespace action kind arguments) i =
      some_below arguments.count (λ a. one_of (arguments.first + 3 * a) 3 i)
  others_of (Comparison op l r) i = false
  others_of (Exists x b) i = false
  others_of (Tp x) i = false
  others_of (Literal v) i = false
  others_of (Context path) i = false
  others_of (Scope root path) i = false
  others_of (Variable x) i = false
  others_of Wildcard i = false
  others_of (Aggregate a) i = false
  others_of (Arithmetic op l r) i = false
  others_of (Sum x binders b) i = one_of binders.first binders.count i
  others_of (Count binders b) i = one_of binders.first binders.count i
  others_of Broken i = false

  unfoldable pub used_otherwise : ℕ → Bool
  used_otherwise i = some_below (points s) (λ p. point_others p i) or some_below (nodes s) (λ n. others_of (node_at s n) i)

  -- ---- marks

  -- 1 for a place that is used as a string, else 0
  unfoldable pub read_marks : List ℕ
  read_marks = map (λ i. choose (used_as_string i) 1 0) (places 0 1 (lists s))

  -- no place is used both ways
  unfoldable pub one_way : Bool
  one_way = all_below (lists s) (λ i. not (used_as_string i and used_otherwise i))
