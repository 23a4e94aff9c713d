-- Refusal 6: nodes, and height; Terms has those with values and paths. Each file with the check's refusal, 0 where it passes
use Rattle.std.specs.Prelude.{◌≡◌, refl, List, [], ◌∷◌, map, ℕ, replicate}
use Rattle.meaning.specs.Case.{places}
use Rattle.meaning.specs.Check.{height}
use Rattle.meaning.specs.Written.{table, file}
use Rattle.rule_examples.specs.Asked.{all, wanted, got, checked}

-- variables at 4; at 3 no variable
lists : List ℕ
lists = 0 ∷ 2 ∷ 1 ∷ 3 ∷ 1 ∷ 0 ∷ replicate 37 0

-- a file with two variables and these nodes after six: a condition, a term, an aggregate, its number, arithmetic, a wildcard
nodes_of : List (List ℕ) → List ℕ
unfolding lists
nodes_of nodes =
    file 2 (
    [] ∷ [] ∷ [] ∷ []
    ∷ table 8 ((10 ∷ []) ∷ (23 ∷ []) ∷ (31 ∷ []) ∷ (25 ∷ 2 ∷ []) ∷ (26 ∷ 0 ∷ 1 ∷ 1 ∷ []) ∷ (24 ∷ []) ∷ nodes)
    ∷ lists ∷ []
    ) []

-- node 6 and those after it
nodes : List (ℕ × List (List ℕ))
nodes =
    (0, ((1 ∷ 0 ∷ 0 ∷ []) ∷ [])) ∷  -- And
    (6, ((1 ∷ 6 ∷ 0 ∷ []) ∷ [])) ∷  -- And, child 0: itself
    (6, ((1 ∷ 7 ∷ 0 ∷ []) ∷ (10 ∷ []) ∷ [])) ∷  -- And, child 0: a later node
    (6, ((1 ∷ 1 ∷ 0 ∷ []) ∷ [])) ∷  -- And, child 0: a term
    (6, ((1 ∷ 2 ∷ 0 ∷ []) ∷ [])) ∷  -- And, child 0: an aggregate
    (6, ((1 ∷ 3 ∷ 0 ∷ []) ∷ [])) ∷  -- And, child 0: an aggregate's number
    (6, ((1 ∷ 0 ∷ 6 ∷ []) ∷ [])) ∷  -- And, child 1: itself
    (6, ((1 ∷ 0 ∷ 7 ∷ []) ∷ (10 ∷ []) ∷ [])) ∷  -- And, child 1: a later node
    (6, ((1 ∷ 0 ∷ 1 ∷ []) ∷ [])) ∷  -- And, child 1: a term
    (6, ((1 ∷ 0 ∷ 2 ∷ []) ∷ [])) ∷  -- And, child 1: an aggregate
    (6, ((1 ∷ 0 ∷ 3 ∷ []) ∷ [])) ∷  -- And, child 1: an aggregate's number
    (6, ((1 ∷ 0 ∷ 0 ∷ 1 ∷ []) ∷ [])) ∷  -- And: word 3
    (6, ((1 ∷ 0 ∷ 0 ∷ 0 ∷ 0 ∷ 0 ∷ 0 ∷ 1 ∷ []) ∷ [])) ∷  -- And: word 7
    (0, ((1 ∷ 0 ∷ 0 ∷ []) ∷ (1 ∷ 6 ∷ 0 ∷ []) ∷ (1 ∷ 0 ∷ 6 ∷ []) ∷ [])) ∷  -- And over And
    (0, ((2 ∷ 0 ∷ 0 ∷ []) ∷ [])) ∷  -- Or
    (6, ((2 ∷ 6 ∷ 0 ∷ []) ∷ [])) ∷  -- Or, child 0: itself
    (6, ((2 ∷ 7 ∷ 0 ∷ []) ∷ (10 ∷ []) ∷ [])) ∷  -- Or, child 0: a later node
    (6, ((2 ∷ 1 ∷ 0 ∷ []) ∷ [])) ∷  -- Or, child 0: a term
    (6, ((2 ∷ 2 ∷ 0 ∷ []) ∷ [])) ∷  -- Or, child 0: an aggregate
    (6, ((2 ∷ 3 ∷ 0 ∷ []) ∷ [])) ∷  -- Or, child 0: an aggregate's number
    (6, ((2 ∷ 0 ∷ 6 ∷ []) ∷ [])) ∷  -- Or, child 1: itself
    (6, ((2 ∷ 0 ∷ 7 ∷ []) ∷ (10 ∷ []) ∷ [])) ∷  -- Or, child 1: a later node
    (6, ((2 ∷ 0 ∷ 1 ∷ []) ∷ [])) ∷  -- Or, child 1: a term
    (6, ((2 ∷ 0 ∷ 2 ∷ []) ∷ [])) ∷  -- Or, child 1: an aggregate
    (6, ((2 ∷ 0 ∷ 3 ∷ []) ∷ [])) ∷  -- Or, child 1: an aggregate's number
    (6, ((2 ∷ 0 ∷ 0 ∷ 1 ∷ []) ∷ [])) ∷  -- Or: word 3
    (6, ((2 ∷ 0 ∷ 0 ∷ 0 ∷ 0 ∷ 0 ∷ 0 ∷ 1 ∷ []) ∷ [])) ∷  -- Or: word 7
    (0, ((2 ∷ 0 ∷ 0 ∷ []) ∷ (2 ∷ 6 ∷ 0 ∷ []) ∷ (2 ∷ 0 ∷ 6 ∷ []) ∷ [])) ∷  -- Or over Or
    (0, ((3 ∷ 0 ∷ []) ∷ [])) ∷  -- Not
    (6, ((3 ∷ 6 ∷ []) ∷ [])) ∷  -- Not, child 0: itself
    (6, ((3 ∷ 7 ∷ []) ∷ (10 ∷ []) ∷ [])) ∷  -- Not, child 0: a later node
    (6, ((3 ∷ 1 ∷ []) ∷ [])) ∷  -- Not, child 0: a term
    (6, ((3 ∷ 2 ∷ []) ∷ [])) ∷  -- Not, child 0: an aggregate
    (6, ((3 ∷ 3 ∷ []) ∷ [])) ∷  -- Not, child 0: an aggregate's number
    (6, ((3 ∷ 0 ∷ 1 ∷ []) ∷ [])) ∷  -- Not: word 2
    (6, ((3 ∷ 0 ∷ 0 ∷ 0 ∷ 0 ∷ 0 ∷ 0 ∷ 1 ∷ []) ∷ [])) ∷  -- Not: word 7
    (0, ((4 ∷ 4294967295 ∷ 4294967295 ∷ 3 ∷ 0 ∷ []) ∷ [])) ∷  -- Formerly
    (6, ((4 ∷ 0 ∷ 0 ∷ 4 ∷ 0 ∷ []) ∷ [])) ∷  -- Formerly: no unit
    (6, ((4 ∷ 0 ∷ 0 ∷ 0 ∷ 6 ∷ []) ∷ [])) ∷  -- Formerly, child 0: itself
    (6, ((4 ∷ 0 ∷ 0 ∷ 0 ∷ 7 ∷ []) ∷ (10 ∷ []) ∷ [])) ∷  -- Formerly, child 0: a later node
    (6, ((4 ∷ 0 ∷ 0 ∷ 0 ∷ 1 ∷ []) ∷ [])) ∷  -- Formerly, child 0: a term
    (6, ((4 ∷ 0 ∷ 0 ∷ 0 ∷ 2 ∷ []) ∷ [])) ∷  -- Formerly, child 0: an aggregate
    (6, ((4 ∷ 0 ∷ 0 ∷ 0 ∷ 3 ∷ []) ∷ [])) ∷  -- Formerly, child 0: an aggregate's number
    (6, ((4 ∷ 0 ∷ 0 ∷ 0 ∷ 0 ∷ 1 ∷ []) ∷ [])) ∷  -- Formerly: word 5
    (6, ((4 ∷ 0 ∷ 0 ∷ 0 ∷ 0 ∷ 0 ∷ 0 ∷ 1 ∷ []) ∷ [])) ∷  -- Formerly: word 7
    (0, ((5 ∷ 4294967295 ∷ 4294967295 ∷ 3 ∷ 0 ∷ []) ∷ [])) ∷  -- Previous
    (6, ((5 ∷ 0 ∷ 0 ∷ 4 ∷ 0 ∷ []) ∷ [])) ∷  -- Previous: no unit
    (6, ((5 ∷ 0 ∷ 0 ∷ 0 ∷ 6 ∷ []) ∷ [])) ∷  -- Previous, child 0: itself
    (6, ((5 ∷ 0 ∷ 0 ∷ 0 ∷ 7 ∷ []) ∷ (10 ∷ []) ∷ [])) ∷  -- Previous, child 0: a later node
    (6, ((5 ∷ 0 ∷ 0 ∷ 0 ∷ 1 ∷ []) ∷ [])) ∷  -- Previous, child 0: a term
    (6, ((5 ∷ 0 ∷ 0 ∷ 0 ∷ 2 ∷ []) ∷ [])) ∷  -- Previous, child 0: an aggregate
    (6, ((5 ∷ 0 ∷ 0 ∷ 0 ∷ 3 ∷ []) ∷ [])) ∷  -- Previous, child 0: an aggregate's number
    (6, ((5 ∷ 0 ∷ 0 ∷ 0 ∷ 0 ∷ 1 ∷ []) ∷ [])) ∷  -- Previous: word 5
    (6, ((5 ∷ 0 ∷ 0 ∷ 0 ∷ 0 ∷ 0 ∷ 0 ∷ 1 ∷ []) ∷ [])) ∷  -- Previous: word 7
    (0, ((6 ∷ 0 ∷ 0 ∷ 4294967295 ∷ 4294967295 ∷ 3 ∷ []) ∷ [])) ∷  -- Since
    (6, ((6 ∷ 0 ∷ 0 ∷ 0 ∷ 0 ∷ 4 ∷ []) ∷ [])) ∷  -- Since: no unit
    (6, ((6 ∷ 6 ∷ 0 ∷ []) ∷ [])) ∷  -- Since, child 0: itself
    (6, ((6 ∷ 7 ∷ 0 ∷ []) ∷ (10 ∷ []) ∷ [])) ∷  -- Since, child 0: a later node
    (6, ((6 ∷ 1 ∷ 0 ∷ []) ∷ [])) ∷  -- Since, child 0: a term
    (6, ((6 ∷ 2 ∷ 0 ∷ []) ∷ [])) ∷  -- Since, child 0: an aggregate
    (6, ((6 ∷ 3 ∷ 0 ∷ []) ∷ [])) ∷  -- Since, child 0: an aggregate's number
    (6, ((6 ∷ 0 ∷ 6 ∷ []) ∷ [])) ∷  -- Since, child 1: itself
    (6, ((6 ∷ 0 ∷ 7 ∷ []) ∷ (10 ∷ []) ∷ [])) ∷  -- Since, child 1: a later node
    (6, ((6 ∷ 0 ∷ 1 ∷ []) ∷ [])) ∷  -- Since, child 1: a term
    (6, ((6 ∷ 0 ∷ 2 ∷ []) ∷ [])) ∷  -- Since, child 1: an aggregate
    (6, ((6 ∷ 0 ∷ 3 ∷ []) ∷ [])) ∷  -- Since, child 1: an aggregate's number
    (6, ((6 ∷ 0 ∷ 0 ∷ 0 ∷ 0 ∷ 0 ∷ 1 ∷ []) ∷ [])) ∷  -- Since: word 6
    (6, ((6 ∷ 0 ∷ 0 ∷ 0 ∷ 0 ∷ 0 ∷ 0 ∷ 1 ∷ []) ∷ [])) ∷  -- Since: word 7
    (0, ((8 ∷ 5 ∷ 1 ∷ 4 ∷ []) ∷ [])) ∷  -- Comparison: the last op
    (6, ((8 ∷ 6 ∷ 1 ∷ 1 ∷ []) ∷ [])) ∷  -- Comparison: no op
    (0, ((8 ∷ 0 ∷ 3 ∷ 5 ∷ []) ∷ [])) ∷  -- Comparison of an aggregate's number
    (0, ((8 ∷ 0 ∷ 4 ∷ 3 ∷ []) ∷ [])) ∷  -- Comparison of arithmetic
    (6, ((8 ∷ 0 ∷ 0 ∷ 1 ∷ []) ∷ [])) ∷  -- Comparison, side 0: a condition
    (6, ((8 ∷ 0 ∷ 2 ∷ 1 ∷ []) ∷ [])) ∷  -- Comparison, side 0: an aggregate
    (6, ((8 ∷ 0 ∷ 6 ∷ 1 ∷ []) ∷ [])) ∷  -- Comparison, side 0: itself
    (6, ((8 ∷ 0 ∷ 7 ∷ 1 ∷ []) ∷ (23 ∷ 0 ∷ []) ∷ [])) ∷  -- Comparison, side 0: a later node
    (6, ((8 ∷ 0 ∷ 1 ∷ 0 ∷ []) ∷ [])) ∷  -- Comparison, side 1: a condition
    (6, ((8 ∷ 0 ∷ 1 ∷ 2 ∷ []) ∷ [])) ∷  -- Comparison, side 1: an aggregate
    (6, ((8 ∷ 0 ∷ 1 ∷ 6 ∷ []) ∷ [])) ∷  -- Comparison, side 1: itself
    (6, ((8 ∷ 0 ∷ 1 ∷ 7 ∷ []) ∷ (23 ∷ 0 ∷ []) ∷ [])) ∷  -- Comparison, side 1: a later node
    (6, ((8 ∷ 0 ∷ 1 ∷ 1 ∷ 1 ∷ []) ∷ [])) ∷  -- Comparison: word 4
    (6, ((8 ∷ 0 ∷ 1 ∷ 1 ∷ 0 ∷ 0 ∷ 0 ∷ 1 ∷ []) ∷ [])) ∷  -- Comparison: word 7
    (0, ((26 ∷ 2 ∷ 1 ∷ 4 ∷ []) ∷ [])) ∷  -- Arithmetic: the last op
    (6, ((26 ∷ 3 ∷ 1 ∷ 1 ∷ []) ∷ [])) ∷  -- Arithmetic: no op
    (0, ((26 ∷ 0 ∷ 3 ∷ 5 ∷ []) ∷ [])) ∷  -- Arithmetic of an aggregate's number
    (0, ((26 ∷ 0 ∷ 4 ∷ 3 ∷ []) ∷ [])) ∷  -- Arithmetic of arithmetic
    (6, ((26 ∷ 0 ∷ 0 ∷ 1 ∷ []) ∷ [])) ∷  -- Arithmetic, side 0: a condition
    (6, ((26 ∷ 0 ∷ 2 ∷ 1 ∷ []) ∷ [])) ∷  -- Arithmetic, side 0: an aggregate
    (6, ((26 ∷ 0 ∷ 6 ∷ 1 ∷ []) ∷ [])) ∷  -- Arithmetic, side 0: itself
    (6, ((26 ∷ 0 ∷ 7 ∷ 1 ∷ []) ∷ (23 ∷ 0 ∷ []) ∷ [])) ∷  -- Arithmetic, side 0: a later node
    (6, ((26 ∷ 0 ∷ 1 ∷ 0 ∷ []) ∷ [])) ∷  -- Arithmetic, side 1: a condition
    (6, ((26 ∷ 0 ∷ 1 ∷ 2 ∷ []) ∷ [])) ∷  -- Arithmetic, side 1: an aggregate
    (6, ((26 ∷ 0 ∷ 1 ∷ 6 ∷ []) ∷ [])) ∷  -- Arithmetic, side 1: itself
    (6, ((26 ∷ 0 ∷ 1 ∷ 7 ∷ []) ∷ (23 ∷ 0 ∷ []) ∷ [])) ∷  -- Arithmetic, side 1: a later node
    (6, ((26 ∷ 0 ∷ 1 ∷ 1 ∷ 1 ∷ []) ∷ [])) ∷  -- Arithmetic: word 4
    (6, ((26 ∷ 0 ∷ 1 ∷ 1 ∷ 0 ∷ 0 ∷ 0 ∷ 1 ∷ []) ∷ [])) ∷  -- Arithmetic: word 7
    (0, ((9 ∷ 1 ∷ 0 ∷ []) ∷ [])) ∷  -- Exists
    (6, ((9 ∷ 2 ∷ 0 ∷ []) ∷ [])) ∷  -- Exists: no variable
    (6, ((9 ∷ 0 ∷ 6 ∷ []) ∷ [])) ∷  -- Exists, child 0: itself
    (6, ((9 ∷ 0 ∷ 7 ∷ []) ∷ (10 ∷ []) ∷ [])) ∷  -- Exists, child 0: a later node
    (6, ((9 ∷ 0 ∷ 1 ∷ []) ∷ [])) ∷  -- Exists, child 0: a term
    (6, ((9 ∷ 0 ∷ 2 ∷ []) ∷ [])) ∷  -- Exists, child 0: an aggregate
    (6, ((9 ∷ 0 ∷ 3 ∷ []) ∷ [])) ∷  -- Exists, child 0: an aggregate's number
    (6, ((9 ∷ 0 ∷ 0 ∷ 1 ∷ []) ∷ [])) ∷  -- Exists: word 3
    (6, ((9 ∷ 0 ∷ 0 ∷ 0 ∷ 0 ∷ 0 ∷ 0 ∷ 1 ∷ []) ∷ [])) ∷  -- Exists: word 7
    (0, ((10 ∷ 1 ∷ []) ∷ [])) ∷  -- Tp
    (6, ((10 ∷ 2 ∷ []) ∷ [])) ∷  -- Tp: no variable
    (6, ((10 ∷ 0 ∷ 1 ∷ []) ∷ [])) ∷  -- Tp: word 2
    (6, ((10 ∷ 0 ∷ 0 ∷ 0 ∷ 0 ∷ 0 ∷ 0 ∷ 1 ∷ []) ∷ [])) ∷  -- Tp: word 7
    (0, ((23 ∷ 1 ∷ []) ∷ [])) ∷  -- Variable
    (6, ((23 ∷ 2 ∷ []) ∷ [])) ∷  -- Variable: none
    (6, ((23 ∷ 0 ∷ 1 ∷ []) ∷ [])) ∷  -- Variable: word 2
    (6, ((23 ∷ 0 ∷ 0 ∷ 0 ∷ 0 ∷ 0 ∷ 0 ∷ 1 ∷ []) ∷ [])) ∷  -- Variable: word 7
    (6, ((24 ∷ 1 ∷ []) ∷ [])) ∷  -- Wildcard: word 1
    (6, ((24 ∷ 0 ∷ 0 ∷ 0 ∷ 0 ∷ 0 ∷ 0 ∷ 1 ∷ []) ∷ [])) ∷  -- Wildcard: word 7
    (0, ((30 ∷ 0 ∷ 0 ∷ 0 ∷ 0 ∷ []) ∷ (25 ∷ 6 ∷ []) ∷ [])) ∷  -- a sum's number
    (6, ((25 ∷ 0 ∷ []) ∷ [])) ∷  -- Aggregate of a condition
    (6, ((25 ∷ 1 ∷ []) ∷ [])) ∷  -- Aggregate of a term
    (6, ((25 ∷ 3 ∷ []) ∷ [])) ∷  -- Aggregate of an aggregate's number
    (6, ((25 ∷ 6 ∷ []) ∷ [])) ∷  -- Aggregate of itself
    (6, ((25 ∷ 7 ∷ []) ∷ (31 ∷ 0 ∷ 0 ∷ 0 ∷ []) ∷ [])) ∷  -- Aggregate of a later node
    (6, ((25 ∷ 2 ∷ 1 ∷ []) ∷ [])) ∷  -- Aggregate: word 2
    (6, ((25 ∷ 2 ∷ 0 ∷ 0 ∷ 0 ∷ 0 ∷ 0 ∷ 1 ∷ []) ∷ [])) ∷  -- Aggregate: word 7
    (0, ((30 ∷ 1 ∷ 4 ∷ 2 ∷ 0 ∷ []) ∷ [])) ∷  -- Sum
    (6, ((30 ∷ 2 ∷ 4 ∷ 2 ∷ 0 ∷ []) ∷ [])) ∷  -- Sum: no variable
    (6, ((30 ∷ 0 ∷ 3 ∷ 1 ∷ 0 ∷ []) ∷ [])) ∷  -- Sum: a binder that is no variable
    (6, ((30 ∷ 0 ∷ 4 ∷ 3 ∷ 1 ∷ []) ∷ [])) ∷  -- Sum of a term
    (6, ((30 ∷ 0 ∷ 3 ∷ 2 ∷ 0 ∷ []) ∷ [])) ∷  -- Sum: the first binder wrong
    (6, ((30 ∷ 0 ∷ 42 ∷ 2 ∷ 0 ∷ []) ∷ [])) ∷  -- Sum: binders past the lists
    (0, ((30 ∷ 0 ∷ 43 ∷ 0 ∷ 0 ∷ []) ∷ [])) ∷  -- Sum: no binders, at the end
    (6, ((30 ∷ 0 ∷ 0 ∷ 0 ∷ 6 ∷ []) ∷ [])) ∷  -- Sum, child 0: itself
    (6, ((30 ∷ 0 ∷ 0 ∷ 0 ∷ 7 ∷ []) ∷ (10 ∷ []) ∷ [])) ∷  -- Sum, child 0: a later node
    (6, ((30 ∷ 0 ∷ 0 ∷ 0 ∷ 1 ∷ []) ∷ [])) ∷  -- Sum, child 0: a term
    (6, ((30 ∷ 0 ∷ 0 ∷ 0 ∷ 2 ∷ []) ∷ [])) ∷  -- Sum, child 0: an aggregate
    (6, ((30 ∷ 0 ∷ 0 ∷ 0 ∷ 3 ∷ []) ∷ [])) ∷  -- Sum, child 0: an aggregate's number
    (6, ((30 ∷ 0 ∷ 0 ∷ 0 ∷ 0 ∷ 1 ∷ []) ∷ [])) ∷  -- Sum: word 5
    (6, ((30 ∷ 0 ∷ 0 ∷ 0 ∷ 0 ∷ 0 ∷ 0 ∷ 1 ∷ []) ∷ [])) ∷  -- Sum: word 7
    (0, ((31 ∷ 4 ∷ 2 ∷ 0 ∷ []) ∷ [])) ∷  -- Count
    (6, ((31 ∷ 3 ∷ 1 ∷ 0 ∷ []) ∷ [])) ∷  -- Count: a binder that is no variable
    (6, ((31 ∷ 0 ∷ 2 ∷ 0 ∷ []) ∷ [])) ∷  -- Count: the second binder wrong
    (6, ((31 ∷ 42 ∷ 2 ∷ 0 ∷ []) ∷ [])) ∷  -- Count: binders past the lists
    (0, ((31 ∷ 43 ∷ 0 ∷ 0 ∷ []) ∷ [])) ∷  -- Count: no binders, at the end
    (6, ((31 ∷ 44 ∷ 0 ∷ 0 ∷ []) ∷ [])) ∷  -- Count: no binders, past the lists
    (6, ((31 ∷ 0 ∷ 0 ∷ 6 ∷ []) ∷ [])) ∷  -- Count, child 0: itself
    (6, ((31 ∷ 0 ∷ 0 ∷ 7 ∷ []) ∷ (10 ∷ []) ∷ [])) ∷  -- Count, child 0: a later node
    (6, ((31 ∷ 0 ∷ 0 ∷ 1 ∷ []) ∷ [])) ∷  -- Count, child 0: a term
    (6, ((31 ∷ 0 ∷ 0 ∷ 2 ∷ []) ∷ [])) ∷  -- Count, child 0: an aggregate
    (6, ((31 ∷ 0 ∷ 0 ∷ 3 ∷ []) ∷ [])) ∷  -- Count, child 0: an aggregate's number
    (6, ((31 ∷ 0 ∷ 0 ∷ 0 ∷ 1 ∷ []) ∷ [])) ∷  -- Count: word 4
    (6, ((31 ∷ 0 ∷ 0 ∷ 0 ∷ 0 ∷ 0 ∷ 0 ∷ 1 ∷ []) ∷ [])) ∷  -- Count: word 7
    (6, ((0 ∷ []) ∷ [])) ∷  -- no kind
    (6, ((11 ∷ []) ∷ [])) ∷  -- no kind
    (6, ((19 ∷ []) ∷ [])) ∷  -- no kind
    (6, ((27 ∷ []) ∷ [])) ∷  -- no kind
    (6, ((29 ∷ []) ∷ [])) ∷  -- no kind
    (6, ((32 ∷ []) ∷ [])) ∷  -- no kind
    (6, ((24 ∷ 1 ∷ []) ∷ (24 ∷ []) ∷ [])) ∷  -- the first of two wrong
    []

nodes-are : got (λ ns. checked (nodes_of ns)) nodes ≡ wanted nodes
unfolding all nodes nodes_of
nodes-are = refl

-- the higher of two children counts, the first or the second; of an argument its term
heights :
    map (height (nodes_of (
    (3 ∷ 0 ∷ []) ∷ (1 ∷ 6 ∷ 0 ∷ []) ∷ (1 ∷ 0 ∷ 6 ∷ []) ∷ (2 ∷ 7 ∷ 0 ∷ []) ∷ (2 ∷ 0 ∷ 7 ∷ [])
    ∷ (4 ∷ 0 ∷ 0 ∷ 0 ∷ 7 ∷ []) ∷ (5 ∷ 0 ∷ 0 ∷ 0 ∷ 7 ∷ []) ∷ (6 ∷ 7 ∷ 0 ∷ []) ∷ (6 ∷ 0 ∷ 7 ∷ [])
    ∷ (7 ∷ 0 ∷ 0 ∷ 0 ∷ 0 ∷ 6 ∷ 2 ∷ []) ∷ (7 ∷ 0 ∷ 0 ∷ 0 ∷ 0 ∷ 6 ∷ 0 ∷ []) ∷ (9 ∷ 0 ∷ 7 ∷ []) ∷ (8 ∷ 0 ∷ 3 ∷ 1 ∷ []) ∷ (8 ∷ 0 ∷ 1 ∷ 4 ∷ [])
    ∷ (26 ∷ 0 ∷ 3 ∷ 1 ∷ []) ∷ (26 ∷ 0 ∷ 1 ∷ 3 ∷ []) ∷ (30 ∷ 0 ∷ 0 ∷ 0 ∷ 7 ∷ []) ∷ (31 ∷ 0 ∷ 0 ∷ 7 ∷ []) ∷ (20 ∷ 2 ∷ []) ∷ (21 ∷ 0 ∷ 1 ∷ []) ∷ (22 ∷ []) ∷ []
    ))) (places 0 1 27)
    ≡ (1 ∷ 1 ∷ 2 ∷ 3 ∷ 2 ∷ 1 ∷ 2 ∷ 3 ∷ 3 ∷ 4 ∷ 4 ∷ 4 ∷ 4 ∷ 4 ∷ 4 ∷ 2 ∷ 1 ∷ 4 ∷ 4 ∷ 3 ∷ 4 ∷ 4 ∷ 4 ∷ 4 ∷ 1 ∷ 1 ∷ 1 ∷ [])
unfolding all nodes_of
heights = refl

-- an argument's term counts, the first's or the second's
argument_heights :
    map (λ ls. height (file 1 ([] ∷ [] ∷ [] ∷ [] ∷ table 8 ((23 ∷ []) ∷ (26 ∷ 0 ∷ 0 ∷ 0 ∷ []) ∷ (7 ∷ 0 ∷ 0 ∷ 0 ∷ 0 ∷ 1 ∷ 2 ∷ []) ∷ []) ∷ ls ∷ []) []) 2) (
    (9 ∷ 9 ∷ 9 ∷ 1 ∷ 9 ∷ 9 ∷ 0 ∷ []) ∷ (9 ∷ 9 ∷ 9 ∷ 0 ∷ 9 ∷ 9 ∷ 1 ∷ []) ∷ (9 ∷ 9 ∷ 9 ∷ 0 ∷ 9 ∷ 9 ∷ 0 ∷ 1 ∷ 1 ∷ 1 ∷ []) ∷ []
    ) ≡ (3 ∷ 3 ∷ 2 ∷ [])
unfolding all
argument_heights = refl
