-- Refusal 6: Predicates, and terms that hold values or paths. Each file with the check's refusal, 0 where it passes
use Rattle.std.specs.Prelude.{◌≡◌, refl, List, [], ◌∷◌, map, ℕ}
use Rattle.meaning.specs.Written.{table, file}
use Rattle.rule_examples.specs.Asked.{all, wanted, got, checked}

-- a, a.b, b
text : List ℕ
text = 97 ∷ 97 ∷ 46 ∷ 98 ∷ 98 ∷ []

strings : List (List ℕ)
strings = (0 ∷ 1 ∷ []) ∷ (1 ∷ 3 ∷ []) ∷ (4 ∷ 1 ∷ []) ∷ []

values : List (List ℕ)
values =
    (0 ∷ []) ∷  -- 0: Null
    (1 ∷ 1 ∷ []) ∷  -- 1: true
    (2 ∷ 3 ∷ []) ∷  -- 2: 3
    (3 ∷ 0 ∷ []) ∷  -- 3: decimal "a"
    (4 ∷ 0 ∷ []) ∷  -- 4: "a"
    (5 ∷ 0 ∷ 1 ∷ []) ∷  -- 5: a::"a.b"
    (6 ∷ 0 ∷ 0 ∷ []) ∷  -- 6: []
    (7 ∷ 0 ∷ 0 ∷ []) ∷  -- 7: {}
    (6 ∷ 0 ∷ 1 ∷ []) ∷  -- 8: [Null]
    (6 ∷ 1 ∷ 2 ∷ []) ∷  -- 9: [3, [Null]]
    (6 ∷ 3 ∷ 1 ∷ []) ∷  -- 10: [{}]
    (6 ∷ 4 ∷ 1 ∷ []) ∷  -- 11: ["a"]
    []

members : List (List ℕ)
members = map (λ v. 4294967295 ∷ v ∷ []) (0 ∷ 2 ∷ 8 ∷ 7 ∷ 4 ∷ [])

lists : List ℕ
lists =
    0 ∷ 2 ∷  -- 0: path a, b
    1 ∷  -- 2: a name with a dot
    3 ∷  -- 3: no string, and no variable
    1 ∷ 0 ∷  -- 4: variables 1, 0
    0 ∷ 2 ∷ 1 ∷  -- 6: argument a.b: term 1
    0 ∷ 1 ∷ 5 ∷  -- 9: argument a: term 5
    0 ∷ 0 ∷ 1 ∷  -- 12: no name
    2 ∷ 1 ∷ 1 ∷  -- 15: a name with a dot
    3 ∷ 1 ∷ 1 ∷  -- 18: a name that is no string
    0 ∷ 1 ∷ 0 ∷  -- 21: a condition as term
    0 ∷ 1 ∷ 2 ∷  -- 24: an aggregate as term
    0 ∷ 1 ∷ 3 ∷  -- 27: node 3, an aggregate's number
    0 ∷ 1 ∷ 4 ∷  -- 30: node 4, arithmetic
    0 ∷ 1 ∷ 6 ∷  -- 33: node 6, a literal or the node itself
    0 ∷ 1 ∷ 7 ∷  -- 36: node 7
    43 ∷ 1 ∷ 1 ∷  -- 39: path past the lists
    0 ∷  -- 42
    []

-- a file with two variables and these nodes after six: a condition, a term, an aggregate, its number, arithmetic, a wildcard
nodes_of : List (List ℕ) → List ℕ
unfolding text strings values members lists
nodes_of nodes =
    file 2 (
    table 2 strings ∷ table 4 values ∷ table 2 members ∷ []
    ∷ table 8 ((10 ∷ []) ∷ (23 ∷ []) ∷ (31 ∷ []) ∷ (25 ∷ 2 ∷ []) ∷ (26 ∷ 0 ∷ 1 ∷ 1 ∷ []) ∷ (24 ∷ []) ∷ nodes)
    ∷ lists ∷ []
    ) text

-- node 6 and those after it
nodes : List (ℕ × List (List ℕ))
nodes =
    (0, ((7 ∷ 0 ∷ 3 ∷ 2 ∷ 2 ∷ 6 ∷ 2 ∷ []) ∷ [])) ∷  -- Predicate, two arguments
    (0, ((7 ∷ 43 ∷ 0 ∷ 0 ∷ 0 ∷ 43 ∷ 0 ∷ []) ∷ [])) ∷  -- Predicate: empty runs at the end
    (6, ((7 ∷ 44 ∷ 0 ∷ 0 ∷ 0 ∷ 0 ∷ 0 ∷ []) ∷ [])) ∷  -- Predicate: an empty namespace past the lists
    (6, ((7 ∷ 42 ∷ 2 ∷ 0 ∷ 0 ∷ 0 ∷ 0 ∷ []) ∷ [])) ∷  -- Predicate: a namespace past the lists
    (6, ((7 ∷ 2 ∷ 2 ∷ 0 ∷ 0 ∷ 0 ∷ 0 ∷ []) ∷ [])) ∷  -- Predicate: a namespace name that is no string
    (6, ((7 ∷ 0 ∷ 0 ∷ 3 ∷ 0 ∷ 0 ∷ 0 ∷ []) ∷ [])) ∷  -- Predicate: an action that is no string
    (6, ((7 ∷ 0 ∷ 0 ∷ 0 ∷ 3 ∷ 0 ∷ 0 ∷ []) ∷ [])) ∷  -- Predicate: a kind that is no string
    (6, ((7 ∷ 0 ∷ 0 ∷ 0 ∷ 0 ∷ 44 ∷ 0 ∷ []) ∷ [])) ∷  -- Predicate: no arguments past the lists
    (6, ((7 ∷ 0 ∷ 0 ∷ 0 ∷ 0 ∷ 41 ∷ 1 ∷ []) ∷ [])) ∷  -- Predicate: an argument past the lists
    (6, ((7 ∷ 0 ∷ 0 ∷ 0 ∷ 0 ∷ 12 ∷ 1 ∷ []) ∷ [])) ∷  -- Predicate: a path of no names
    (6, ((7 ∷ 0 ∷ 0 ∷ 0 ∷ 0 ∷ 15 ∷ 1 ∷ []) ∷ [])) ∷  -- Predicate: a path name with a dot
    (6, ((7 ∷ 0 ∷ 0 ∷ 0 ∷ 0 ∷ 18 ∷ 1 ∷ []) ∷ [])) ∷  -- Predicate: a path name that is no string
    (6, ((7 ∷ 0 ∷ 0 ∷ 0 ∷ 0 ∷ 21 ∷ 1 ∷ []) ∷ [])) ∷  -- Predicate: a condition as term
    (6, ((7 ∷ 0 ∷ 0 ∷ 0 ∷ 0 ∷ 24 ∷ 1 ∷ []) ∷ [])) ∷  -- Predicate: an aggregate as term
    (6, ((7 ∷ 0 ∷ 0 ∷ 0 ∷ 0 ∷ 27 ∷ 1 ∷ []) ∷ [])) ∷  -- Predicate: an aggregate's number as term
    (6, ((7 ∷ 0 ∷ 0 ∷ 0 ∷ 0 ∷ 30 ∷ 1 ∷ []) ∷ [])) ∷  -- Predicate: arithmetic as term
    (6, ((7 ∷ 0 ∷ 0 ∷ 0 ∷ 0 ∷ 33 ∷ 1 ∷ []) ∷ [])) ∷  -- Predicate: itself as term
    (6, ((7 ∷ 0 ∷ 0 ∷ 0 ∷ 0 ∷ 36 ∷ 1 ∷ []) ∷ [])) ∷  -- Predicate: no such node
    (6, ((7 ∷ 0 ∷ 0 ∷ 0 ∷ 0 ∷ 39 ∷ 1 ∷ []) ∷ [])) ∷  -- Predicate: a path past the lists
    (0, ((7 ∷ 0 ∷ 0 ∷ 0 ∷ 0 ∷ 9 ∷ 1 ∷ []) ∷ [])) ∷  -- Predicate: a wildcard
    (6, ((7 ∷ 0 ∷ 0 ∷ 0 ∷ 0 ∷ 9 ∷ 2 ∷ []) ∷ [])) ∷  -- Predicate: the second argument wrong
    (6, ((7 ∷ 0 ∷ 0 ∷ 0 ∷ 0 ∷ 12 ∷ 1 ∷ []) ∷ [])) ∷  -- Predicate: the only argument wrong
    (0, ((20 ∷ 2 ∷ []) ∷ (7 ∷ 0 ∷ 0 ∷ 0 ∷ 0 ∷ 33 ∷ 1 ∷ []) ∷ [])) ∷  -- Predicate: a literal as term
    (6, ((7 ∷ 0 ∷ 0 ∷ 0 ∷ 0 ∷ 36 ∷ 1 ∷ []) ∷ (20 ∷ 2 ∷ []) ∷ [])) ∷  -- Predicate: a later literal as term
    (6, ((7 ∷ 0 ∷ 0 ∷ 0 ∷ 0 ∷ 0 ∷ 0 ∷ 1 ∷ []) ∷ [])) ∷  -- Predicate: word 7
    (0, ((20 ∷ 2 ∷ []) ∷ (8 ∷ 0 ∷ 6 ∷ 6 ∷ []) ∷ [])) ∷  -- Comparison of a literal
    (0, ((20 ∷ 2 ∷ []) ∷ (26 ∷ 0 ∷ 6 ∷ 6 ∷ []) ∷ [])) ∷  -- Arithmetic of a literal
    (6, ((20 ∷ 0 ∷ []) ∷ [])) ∷  -- Literal: Null
    (0, ((20 ∷ 1 ∷ []) ∷ [])) ∷  -- Literal: Bool
    (0, ((20 ∷ 2 ∷ []) ∷ [])) ∷  -- Literal: Int
    (0, ((20 ∷ 3 ∷ []) ∷ [])) ∷  -- Literal: Decimal
    (0, ((20 ∷ 4 ∷ []) ∷ [])) ∷  -- Literal: String
    (0, ((20 ∷ 5 ∷ []) ∷ [])) ∷  -- Literal: Entity
    (0, ((20 ∷ 6 ∷ []) ∷ [])) ∷  -- Literal: an empty Array
    (6, ((20 ∷ 7 ∷ []) ∷ [])) ∷  -- Literal: Object
    (6, ((20 ∷ 8 ∷ []) ∷ [])) ∷  -- Literal: Array of Null
    (6, ((20 ∷ 9 ∷ []) ∷ [])) ∷  -- Literal: Array of Array of Null
    (6, ((20 ∷ 10 ∷ []) ∷ [])) ∷  -- Literal: Array of Object
    (0, ((20 ∷ 11 ∷ []) ∷ [])) ∷  -- Literal: Array of String
    (6, ((20 ∷ 12 ∷ []) ∷ [])) ∷  -- Literal: no value
    (6, ((20 ∷ 2 ∷ 1 ∷ []) ∷ [])) ∷  -- Literal: word 2
    (6, ((20 ∷ 2 ∷ 0 ∷ 0 ∷ 0 ∷ 0 ∷ 0 ∷ 1 ∷ []) ∷ [])) ∷  -- Literal: word 7
    (0, ((21 ∷ 0 ∷ 2 ∷ []) ∷ [])) ∷  -- Context
    (6, ((21 ∷ 0 ∷ 0 ∷ []) ∷ [])) ∷  -- Context: no names
    (6, ((21 ∷ 1 ∷ 2 ∷ []) ∷ [])) ∷  -- Context: a name with a dot
    (6, ((21 ∷ 3 ∷ 1 ∷ []) ∷ [])) ∷  -- Context: no string
    (6, ((21 ∷ 42 ∷ 2 ∷ []) ∷ [])) ∷  -- Context: past the lists
    (6, ((21 ∷ 0 ∷ 1 ∷ 1 ∷ []) ∷ [])) ∷  -- Context: word 3
    (6, ((21 ∷ 0 ∷ 1 ∷ 0 ∷ 0 ∷ 0 ∷ 0 ∷ 1 ∷ []) ∷ [])) ∷  -- Context: word 7
    (0, ((22 ∷ 1 ∷ 0 ∷ 2 ∷ []) ∷ [])) ∷  -- Scope
    (6, ((22 ∷ 2 ∷ 0 ∷ 1 ∷ []) ∷ [])) ∷  -- Scope: no root
    (0, ((22 ∷ 0 ∷ 43 ∷ 0 ∷ []) ∷ [])) ∷  -- Scope: no names, at the end
    (6, ((22 ∷ 0 ∷ 44 ∷ 0 ∷ []) ∷ [])) ∷  -- Scope: no names, past the lists
    (6, ((22 ∷ 0 ∷ 1 ∷ 2 ∷ []) ∷ [])) ∷  -- Scope: a name with a dot
    (6, ((22 ∷ 0 ∷ 0 ∷ 1 ∷ 1 ∷ []) ∷ [])) ∷  -- Scope: word 4
    (6, ((22 ∷ 0 ∷ 0 ∷ 1 ∷ 0 ∷ 0 ∷ 0 ∷ 1 ∷ []) ∷ [])) ∷  -- Scope: word 7
    []

nodes-are : got (λ ns. checked (nodes_of ns)) nodes ≡ wanted nodes
unfolding all nodes nodes_of
nodes-are = refl

-- an argument's third word past the lists, which would read as node 0, a term
past_the_lists :
    checked (file 1 ((0 ∷ 1 ∷ []) ∷ [] ∷ [] ∷ [] ∷ table 8 ((23 ∷ []) ∷ (7 ∷ 0 ∷ 0 ∷ 0 ∷ 0 ∷ 0 ∷ 1 ∷ []) ∷ []) ∷ (0 ∷ 1 ∷ []) ∷ []) (97 ∷ [])) ≡ 6
unfolding all
past_the_lists = refl
