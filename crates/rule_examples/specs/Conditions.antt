-- The conditions in verdict manner: each answer with its steps and the greatest number of rows held
use Rattle.std.specs.Prelude.{◌≡◌, refl, true, false, List, [], ◌∷◌, ◌++◌, ℕ, ◌+◌, ◌-◌, length}
use Rattle.meaning.specs.Calls.{Said, gives, refuses, Answer, verdict}
use Rattle.meaning.specs.Written.{table, file}
use Rattle.rule_examples.specs.Asked.{all, wanted, got, answer}

-- every variable unbound
free : List ℕ
free = (0 ∷ 0 ∷ 0 ∷ 0 ∷ [])

-- strings, end to end
text : List ℕ
text =
    65 ∷  -- A
    66 ∷  -- B
    97 ∷  -- a
    110 ∷  -- n
    114 ∷  -- r
    []

-- start and length in text
strings : List (List ℕ)
strings =
    (0 ∷ 1 ∷ []) ∷  -- 0: A
    (1 ∷ 1 ∷ []) ∷  -- 1: B
    (2 ∷ 1 ∷ []) ∷  -- 2: a
    (3 ∷ 1 ∷ []) ∷  -- 3: n
    (4 ∷ 1 ∷ []) ∷  -- 4: r
    []

-- kind, a, b
values : List (List ℕ)
values =
    (2 ∷ 1 ∷ []) ∷  -- 0: 1
    (7 ∷ 0 ∷ 1 ∷ []) ∷  -- 1: {n: 1}
    (7 ∷ 1 ∷ 1 ∷ []) ∷  -- 2: {a: 1}
    (2 ∷ 4 ∷ []) ∷  -- 3: 4
    (7 ∷ 2 ∷ 1 ∷ []) ∷  -- 4: {n: 4}
    (2 ∷ 2 ∷ []) ∷  -- 5: 2
    (7 ∷ 3 ∷ 1 ∷ []) ∷  -- 6: {a: 2}
    (7 ∷ 4 ∷ 1 ∷ []) ∷  -- 7: {n: 2}
    (2 ∷ 7 ∷ []) ∷  -- 8: 7
    (7 ∷ 5 ∷ 1 ∷ []) ∷  -- 9: {n: 7}
    (2 ∷ 5 ∷ []) ∷  -- 10: 5
    []

-- name and value
members : List (List ℕ)
members =
    (3 ∷ []) ∷  -- 0: n: 1
    (2 ∷ []) ∷  -- 1: a: 1
    (3 ∷ 3 ∷ []) ∷  -- 2: n: 4
    (2 ∷ 5 ∷ []) ∷  -- 3: a: 2
    (3 ∷ 5 ∷ []) ∷  -- 4: n: 2
    (3 ∷ 8 ∷ []) ∷  -- 5: n: 7
    []

-- time low, high, namespace run, action, kind, logged, context, principal, resource, entities run
points : List (List ℕ)
points =
    (100 ∷ 0 ∷ 0 ∷ 0 ∷ 0 ∷ 4 ∷ 1 ∷ 2 ∷ 4294967295 ∷ 4294967295 ∷ []) ∷  -- 0: A {n: 1} at 100, context {a: 1}
    (110 ∷ 0 ∷ 0 ∷ 0 ∷ 1 ∷ 4 ∷ 4 ∷ 6 ∷ 4294967295 ∷ 4294967295 ∷ []) ∷  -- 1: B {n: 4} at 110, context {a: 2}
    (105 ∷ 0 ∷ 0 ∷ 0 ∷ 0 ∷ 4 ∷ 7 ∷ 2 ∷ 4294967295 ∷ 4294967295 ∷ []) ∷  -- 2: A {n: 2} at 105, context {a: 1}
    (120 ∷ 0 ∷ 0 ∷ 0 ∷ 1 ∷ 4 ∷ 9 ∷ 6 ∷ 4294967295 ∷ 4294967295 ∷ []) ∷  -- 3: B {n: 7} at 120, context {a: 2}
    []

-- nodes that stand in arguments: kind and operands
leaves : List (List ℕ)
leaves =
    (23 ∷ []) ∷  -- 0: x
    (20 ∷ []) ∷  -- 1: 1
    (20 ∷ 5 ∷ []) ∷  -- 2: 2
    (20 ∷ 3 ∷ []) ∷  -- 3: 4
    (23 ∷ 1 ∷ []) ∷  -- 4: y
    []

lists : List ℕ
lists =
    3 ∷  -- 0: path n
    0 ∷ 1 ∷ 0 ∷  -- 1: arguments (n: x)
    0 ∷ 1 ∷ 1 ∷  -- 4: arguments (n: 1)
    0 ∷ 1 ∷ 2 ∷  -- 7: arguments (n: 2)
    0 ∷ 1 ∷ 3 ∷  -- 10: arguments (n: 4)
    0 ∷ 1 ∷ 4 ∷  -- 13: arguments (n: y)
    2 ∷  -- 16: path a
    []

-- the case with these nodes after the leaves; what is asked is the last of them
with_nodes : List (List ℕ) → List ℕ
unfolding text strings values members points leaves lists
with_nodes nodes =
    file 2 (table 2 strings ∷ table 4 values ∷ table 2 members ∷ table 12 points ∷ table 8 (leaves ++ nodes) ∷ lists ∷ []) text

-- nodes, point, starting bindings
answers : List (Said Answer × (List (List ℕ) × ℕ × List ℕ))
answers =
    (gives (verdict true) 3 0, (((7 ∷ 0 ∷ 0 ∷ 0 ∷ 4 ∷ []) ∷ (1 ∷ 5 ∷ 5 ∷ []) ∷ []), 0, free)) ∷  -- (A() and A())
    (gives (verdict false) 2 0, (((7 ∷ 0 ∷ 0 ∷ 1 ∷ 4 ∷ []) ∷ (7 ∷ 0 ∷ 0 ∷ 0 ∷ 4 ∷ []) ∷ (1 ∷ 5 ∷ 6 ∷ []) ∷ []), 0, free)) ∷  -- (B() and A())
    (gives (verdict false) 3 0, (((7 ∷ 0 ∷ 0 ∷ 0 ∷ 4 ∷ []) ∷ (7 ∷ 0 ∷ 0 ∷ 1 ∷ 4 ∷ []) ∷ (1 ∷ 5 ∷ 6 ∷ []) ∷ []), 0, free)) ∷  -- (A() and B())
    (gives (verdict true) 3 0, (((7 ∷ 0 ∷ 0 ∷ 0 ∷ 4 ∷ 1 ∷ 1 ∷ []) ∷ (8 ∷ 4 ∷ 0 ∷ 1 ∷ []) ∷ (1 ∷ 5 ∷ 6 ∷ []) ∷ []), 0, free)) ∷  -- (A(n: x) and x == 1)
    (gives (verdict false) 3 0, (((7 ∷ 0 ∷ 0 ∷ 0 ∷ 4 ∷ 1 ∷ 1 ∷ []) ∷ (8 ∷ 4 ∷ 0 ∷ 2 ∷ []) ∷ (1 ∷ 5 ∷ 6 ∷ []) ∷ []), 0, free)) ∷  -- (A(n: x) and x == 2)
    (gives (verdict false) 4 0, (((7 ∷ 0 ∷ 0 ∷ 0 ∷ 4 ∷ 1 ∷ 1 ∷ []) ∷ (4 ∷ 1 ∷ 0 ∷ 3 ∷ 5 ∷ []) ∷ (8 ∷ 4 ∷ 0 ∷ 1 ∷ []) ∷ (1 ∷ 6 ∷ 7 ∷ []) ∷ []), 0, free)) ∷  -- (formerly within 1d A(n: x) and x == 1)
    (gives (verdict false) 5 0, (((7 ∷ 0 ∷ 0 ∷ 0 ∷ 4 ∷ 1 ∷ 1 ∷ []) ∷ (7 ∷ 0 ∷ 0 ∷ 0 ∷ 4 ∷ []) ∷ (1 ∷ 5 ∷ 6 ∷ []) ∷ (8 ∷ 4 ∷ 0 ∷ 1 ∷ []) ∷ (1 ∷ 7 ∷ 8 ∷ []) ∷ []), 0, free)) ∷  -- ((A(n: x) and A()) and x == 1)
    (gives (verdict true) 3 0, (((7 ∷ 0 ∷ 0 ∷ 0 ∷ 4 ∷ 1 ∷ 1 ∷ []) ∷ (20 ∷ 10 ∷ []) ∷ (8 ∷ 4 ∷ 4 ∷ 6 ∷ []) ∷ (1 ∷ 5 ∷ 7 ∷ []) ∷ []), 0, (0 ∷ 0 ∷ 1 ∷ 5 ∷ []))) ∷  -- (A(n: x) and y == 5)
    (gives (verdict true) 3 0, (((7 ∷ 0 ∷ 0 ∷ 0 ∷ 4 ∷ []) ∷ (20 ∷ 10 ∷ []) ∷ (8 ∷ 4 ∷ 4 ∷ 6 ∷ []) ∷ (1 ∷ 5 ∷ 7 ∷ []) ∷ []), 0, (0 ∷ 0 ∷ 1 ∷ 5 ∷ []))) ∷  -- (A() and y == 5)
    (gives (verdict true) 3 0, (((7 ∷ 0 ∷ 0 ∷ 0 ∷ 4 ∷ 1 ∷ 1 ∷ []) ∷ (8 ∷ 4 ∷ 0 ∷ 1 ∷ []) ∷ (1 ∷ 5 ∷ 6 ∷ []) ∷ []), 0, (1 ∷ 1 ∷ 0 ∷ 0 ∷ []))) ∷  -- (A(n: x) and x == 1)
    (gives (verdict false) 2 0, (((7 ∷ 0 ∷ 0 ∷ 0 ∷ 4 ∷ 1 ∷ 1 ∷ []) ∷ (8 ∷ 4 ∷ 0 ∷ 1 ∷ []) ∷ (1 ∷ 5 ∷ 6 ∷ []) ∷ []), 0, (1 ∷ 2 ∷ 0 ∷ 0 ∷ []))) ∷  -- (A(n: x) and x == 1)
    (gives (verdict true) 2 0, (((7 ∷ 0 ∷ 0 ∷ 0 ∷ 4 ∷ []) ∷ (7 ∷ 0 ∷ 0 ∷ 1 ∷ 4 ∷ []) ∷ (2 ∷ 5 ∷ 6 ∷ []) ∷ []), 0, free)) ∷  -- (A() or B())
    (gives (verdict true) 3 0, (((7 ∷ 0 ∷ 0 ∷ 1 ∷ 4 ∷ []) ∷ (7 ∷ 0 ∷ 0 ∷ 0 ∷ 4 ∷ []) ∷ (2 ∷ 5 ∷ 6 ∷ []) ∷ []), 0, free)) ∷  -- (B() or A())
    (gives (verdict false) 3 0, (((7 ∷ 0 ∷ 0 ∷ 1 ∷ 4 ∷ []) ∷ (2 ∷ 5 ∷ 5 ∷ []) ∷ []), 0, free)) ∷  -- (B() or B())
    (gives (verdict false) 2 0, (((7 ∷ 0 ∷ 0 ∷ 0 ∷ 4 ∷ []) ∷ (3 ∷ 5 ∷ []) ∷ []), 0, free)) ∷  -- not A()
    (gives (verdict true) 2 0, (((7 ∷ 0 ∷ 0 ∷ 1 ∷ 4 ∷ []) ∷ (3 ∷ 5 ∷ []) ∷ []), 0, free)) ∷  -- not B()
    (gives (verdict true) 3 0, (((7 ∷ 0 ∷ 0 ∷ 0 ∷ 4 ∷ []) ∷ (4 ∷ 15 ∷ 0 ∷ 0 ∷ 5 ∷ []) ∷ []), 3, free)) ∷  -- formerly within 15s A()
    (gives (verdict false) 3 0, (((7 ∷ 0 ∷ 0 ∷ 0 ∷ 4 ∷ []) ∷ (4 ∷ 14 ∷ 0 ∷ 0 ∷ 5 ∷ []) ∷ []), 3, free)) ∷  -- formerly within 14s A()
    (gives (verdict true) 5 0, (((7 ∷ 0 ∷ 0 ∷ 0 ∷ 4 ∷ 4 ∷ 1 ∷ []) ∷ (4 ∷ 20 ∷ 0 ∷ 0 ∷ 5 ∷ []) ∷ []), 3, free)) ∷  -- formerly within 20s A(n: 1)
    (gives (verdict false) 4 0, (((7 ∷ 0 ∷ 0 ∷ 0 ∷ 4 ∷ 4 ∷ 1 ∷ []) ∷ (4 ∷ 19 ∷ 0 ∷ 0 ∷ 5 ∷ []) ∷ []), 3, free)) ∷  -- formerly within 19s A(n: 1)
    (gives (verdict false) 3 0, (((7 ∷ 0 ∷ 0 ∷ 1 ∷ 4 ∷ []) ∷ (4 ∷ 5 ∷ 0 ∷ 0 ∷ 5 ∷ []) ∷ []), 2, free)) ∷  -- formerly within 5s B()
    (gives (verdict true) 2 0, (((7 ∷ 0 ∷ 0 ∷ 0 ∷ 4 ∷ []) ∷ (4 ∷ 0 ∷ 0 ∷ 0 ∷ 5 ∷ []) ∷ []), 0, free)) ∷  -- formerly within 0s A()
    (gives (verdict false) 1 0, (((7 ∷ 0 ∷ 0 ∷ 0 ∷ 4 ∷ []) ∷ (4 ∷ 4294967295 ∷ 4294967295 ∷ 0 ∷ 5 ∷ []) ∷ []), 0, free)) ∷  -- formerly within -1s A()
    (gives (verdict true) 3 0, (((7 ∷ 0 ∷ 0 ∷ 0 ∷ 4 ∷ 4 ∷ 1 ∷ []) ∷ (4 ∷ 5 ∷ 0 ∷ 0 ∷ 5 ∷ []) ∷ []), 2, free)) ∷  -- formerly within 5s A(n: 1)
    (gives (verdict false) 1 0, (((7 ∷ 0 ∷ 0 ∷ 0 ∷ 4 ∷ []) ∷ (5 ∷ 1 ∷ 0 ∷ 3 ∷ 5 ∷ []) ∷ []), 0, free)) ∷  -- previous within 1d A()
    (gives (verdict true) 2 0, (((7 ∷ 0 ∷ 0 ∷ 0 ∷ 4 ∷ []) ∷ (5 ∷ 10 ∷ 0 ∷ 0 ∷ 5 ∷ []) ∷ []), 1, free)) ∷  -- previous within 10s A()
    (gives (verdict false) 1 0, (((7 ∷ 0 ∷ 0 ∷ 0 ∷ 4 ∷ []) ∷ (5 ∷ 9 ∷ 0 ∷ 0 ∷ 5 ∷ []) ∷ []), 1, free)) ∷  -- previous within 9s A()
    (gives (verdict false) 1 0, (((7 ∷ 0 ∷ 0 ∷ 1 ∷ 4 ∷ []) ∷ (5 ∷ 1 ∷ 0 ∷ 3 ∷ 5 ∷ []) ∷ []), 2, free)) ∷  -- previous within 1d B()
    (gives (verdict true) 2 0, (((7 ∷ 0 ∷ 0 ∷ 0 ∷ 4 ∷ 7 ∷ 1 ∷ []) ∷ (5 ∷ 15 ∷ 0 ∷ 0 ∷ 5 ∷ []) ∷ []), 3, free)) ∷  -- previous within 15s A(n: 2)
    (gives (verdict false) 2 0, (((7 ∷ 0 ∷ 0 ∷ 0 ∷ 4 ∷ 4 ∷ 1 ∷ []) ∷ (5 ∷ 1 ∷ 0 ∷ 3 ∷ 5 ∷ []) ∷ (5 ∷ 1 ∷ 0 ∷ 3 ∷ 6 ∷ []) ∷ []), 1, free)) ∷  -- previous within 1d previous within 1d A(n: 1)
    (gives (verdict false) 2 0, (((7 ∷ 0 ∷ 0 ∷ 0 ∷ 4 ∷ []) ∷ (5 ∷ 1 ∷ 0 ∷ 3 ∷ 5 ∷ []) ∷ (5 ∷ 1 ∷ 0 ∷ 3 ∷ 6 ∷ []) ∷ []), 3, free)) ∷  -- previous within 1d previous within 1d A()
    (gives (verdict true) 4 0, (((7 ∷ 0 ∷ 0 ∷ 1 ∷ 4 ∷ []) ∷ (7 ∷ 0 ∷ 0 ∷ 0 ∷ 4 ∷ 7 ∷ 1 ∷ []) ∷ (6 ∷ 5 ∷ 6 ∷ 15 ∷ []) ∷ []), 3, free)) ∷  -- (B() since within 15s A(n: 2))
    (gives (verdict false) 3 0, (((7 ∷ 0 ∷ 0 ∷ 1 ∷ 4 ∷ []) ∷ (7 ∷ 0 ∷ 0 ∷ 0 ∷ 4 ∷ 7 ∷ 1 ∷ []) ∷ (6 ∷ 5 ∷ 6 ∷ 14 ∷ []) ∷ []), 3, free)) ∷  -- (B() since within 14s A(n: 2))
    (gives (verdict true) 2 0, (((7 ∷ 0 ∷ 0 ∷ 0 ∷ 4 ∷ []) ∷ (7 ∷ 0 ∷ 0 ∷ 1 ∷ 4 ∷ []) ∷ (6 ∷ 5 ∷ 6 ∷ []) ∷ []), 3, free)) ∷  -- (A() since within 0s B())
    (gives (verdict false) 8 0, (((7 ∷ 0 ∷ 0 ∷ 1 ∷ 4 ∷ 10 ∷ 1 ∷ []) ∷ (7 ∷ 0 ∷ 0 ∷ 0 ∷ 4 ∷ []) ∷ (6 ∷ 5 ∷ 6 ∷ 20 ∷ []) ∷ []), 3, free)) ∷  -- (B(n: 4) since within 20s A())
    (gives (verdict false) 9 0, (((7 ∷ 0 ∷ 0 ∷ 0 ∷ 4 ∷ []) ∷ (3 ∷ 5 ∷ []) ∷ (7 ∷ 0 ∷ 0 ∷ 0 ∷ 4 ∷ 4 ∷ 1 ∷ []) ∷ (6 ∷ 6 ∷ 7 ∷ 20 ∷ []) ∷ []), 3, free)) ∷  -- (not A() since within 20s A(n: 1))
    (gives (verdict true) 11 0, (((7 ∷ 0 ∷ 0 ∷ 0 ∷ 4 ∷ 4 ∷ 1 ∷ []) ∷ (3 ∷ 5 ∷ []) ∷ (6 ∷ 6 ∷ 5 ∷ 20 ∷ []) ∷ []), 3, free)) ∷  -- (not A(n: 1) since within 20s A(n: 1))
    (gives (verdict true) 4 0, (((7 ∷ 0 ∷ 0 ∷ 1 ∷ 4 ∷ []) ∷ (7 ∷ 0 ∷ 0 ∷ 0 ∷ 4 ∷ []) ∷ (6 ∷ 5 ∷ 6 ∷ 20 ∷ []) ∷ []), 1, free)) ∷  -- (B() since within 20s A())
    (gives (verdict false) 2 0, (((7 ∷ 0 ∷ 0 ∷ 1 ∷ 4 ∷ []) ∷ (6 ∷ 5 ∷ 5 ∷ 1 ∷ 0 ∷ 3 ∷ []) ∷ []), 0, free)) ∷  -- (B() since within 1d B())
    (gives (verdict true) 1 0, (((10 ∷ []) ∷ []), 0, free)) ∷  -- tp x
    (gives (verdict true) 1 0, (((10 ∷ []) ∷ []), 0, (1 ∷ 0 ∷ 0 ∷ 0 ∷ []))) ∷  -- tp x
    (gives (verdict false) 1 0, (((10 ∷ []) ∷ []), 0, (1 ∷ 1 ∷ 0 ∷ 0 ∷ []))) ∷  -- tp x
    (gives (verdict true) 1 0, (((10 ∷ []) ∷ []), 3, (1 ∷ 3 ∷ 0 ∷ 0 ∷ []))) ∷  -- tp x
    (gives (verdict true) 1 0, (((10 ∷ 1 ∷ []) ∷ []), 3, (1 ∷ 2 ∷ 0 ∷ 0 ∷ []))) ∷  -- tp y
    (gives (verdict false) 1 0, (((10 ∷ []) ∷ []), 2, (3 ∷ 0 ∷ 0 ∷ 0 ∷ []))) ∷  -- tp x
    (gives (verdict true) 3 0, (((10 ∷ []) ∷ (4 ∷ 1 ∷ 0 ∷ 3 ∷ 5 ∷ []) ∷ []), 3, (1 ∷ 2 ∷ 0 ∷ 0 ∷ []))) ∷  -- formerly within 1d tp x
    (gives (verdict true) 2 1, (((7 ∷ 0 ∷ 0 ∷ 0 ∷ 4 ∷ 1 ∷ 1 ∷ []) ∷ (9 ∷ 0 ∷ 5 ∷ []) ∷ []), 0, (1 ∷ 9 ∷ 0 ∷ 0 ∷ []))) ∷  -- exists x A(n: x)
    (gives (verdict false) 2 0, (((7 ∷ 0 ∷ 0 ∷ 1 ∷ 4 ∷ 1 ∷ 1 ∷ []) ∷ (9 ∷ 0 ∷ 5 ∷ []) ∷ []), 0, free)) ∷  -- exists x B(n: x)
    (gives (verdict true) 5 2, (((7 ∷ 0 ∷ 0 ∷ 0 ∷ 4 ∷ 13 ∷ 1 ∷ []) ∷ (8 ∷ 4 ∷ 4 ∷ 1 ∷ []) ∷ (1 ∷ 5 ∷ 6 ∷ []) ∷ (9 ∷ 1 ∷ 7 ∷ []) ∷ []), 0, free)) ∷  -- exists y (A(n: y) and y == 1)
    (gives (verdict false) 2 0, (((7 ∷ 0 ∷ 0 ∷ 0 ∷ 4 ∷ 1 ∷ 1 ∷ []) ∷ (9 ∷ 1 ∷ 5 ∷ []) ∷ []), 0, (1 ∷ 9 ∷ 0 ∷ 0 ∷ []))) ∷  -- exists y A(n: x)
    (gives (verdict true) 6 2, (((7 ∷ 0 ∷ 0 ∷ 0 ∷ 4 ∷ 1 ∷ 1 ∷ []) ∷ (4 ∷ 1 ∷ 0 ∷ 3 ∷ 5 ∷ []) ∷ (9 ∷ 0 ∷ 6 ∷ []) ∷ []), 3, free)) ∷  -- exists x formerly within 1d A(n: x)
    (gives (verdict false) 5 0, (((21 ∷ 16 ∷ 1 ∷ []) ∷ (8 ∷ 4 ∷ 5 ∷ 1 ∷ []) ∷ (4 ∷ 1 ∷ 0 ∷ 3 ∷ 6 ∷ []) ∷ []), 3, free)) ∷  -- formerly within 1d context.a == 1
    (gives (verdict true) 6 0, (((7 ∷ 0 ∷ 0 ∷ 0 ∷ 4 ∷ 7 ∷ 1 ∷ []) ∷ (21 ∷ 16 ∷ 1 ∷ []) ∷ (8 ∷ 4 ∷ 6 ∷ 2 ∷ []) ∷ (1 ∷ 5 ∷ 7 ∷ []) ∷ (4 ∷ 1 ∷ 0 ∷ 3 ∷ 8 ∷ []) ∷ []), 3, free)) ∷  -- formerly within 1d (A(n: 2) and context.a == 2)
    (gives (verdict true) 2 0, (((21 ∷ 16 ∷ 1 ∷ []) ∷ (8 ∷ 4 ∷ 5 ∷ 2 ∷ []) ∷ (4 ∷ 1 ∷ 0 ∷ 3 ∷ 6 ∷ []) ∷ []), 3, free)) ∷  -- formerly within 1d context.a == 2
    (gives (verdict true) 7 0, (((7 ∷ 0 ∷ 0 ∷ 0 ∷ 4 ∷ 1 ∷ 1 ∷ []) ∷ (8 ∷ 4 ∷ 0 ∷ 1 ∷ []) ∷ (1 ∷ 5 ∷ 6 ∷ []) ∷ (4 ∷ 1 ∷ 0 ∷ 3 ∷ 7 ∷ []) ∷ []), 2, free)) ∷  -- formerly within 1d (A(n: x) and x == 1)
    (gives (verdict true) 2 0, (((21 ∷ 16 ∷ 1 ∷ []) ∷ (8 ∷ 4 ∷ 5 ∷ 1 ∷ []) ∷ (7 ∷ 0 ∷ 0 ∷ 0 ∷ 4 ∷ []) ∷ (6 ∷ 6 ∷ 7 ∷ 1 ∷ 0 ∷ 3 ∷ []) ∷ []), 2, free)) ∷  -- (context.a == 1 since within 1d A())
    (gives (verdict false) 7 0, (((21 ∷ 16 ∷ 1 ∷ []) ∷ (8 ∷ 4 ∷ 5 ∷ 1 ∷ []) ∷ (7 ∷ 0 ∷ 0 ∷ 0 ∷ 4 ∷ []) ∷ (6 ∷ 6 ∷ 7 ∷ 1 ∷ 0 ∷ 3 ∷ []) ∷ []), 3, free)) ∷  -- (context.a == 1 since within 1d A())
    (gives (verdict true) 2 0, (((21 ∷ 16 ∷ 1 ∷ []) ∷ (8 ∷ 4 ∷ 5 ∷ 2 ∷ []) ∷ (5 ∷ 1 ∷ 0 ∷ 3 ∷ 6 ∷ []) ∷ []), 1, free)) ∷  -- previous within 1d context.a == 2
    (gives (verdict true) 13 2, (((7 ∷ 0 ∷ 0 ∷ 0 ∷ 4 ∷ 1 ∷ 1 ∷ []) ∷ (4 ∷ 1 ∷ 0 ∷ 3 ∷ 5 ∷ []) ∷ (9 ∷ 0 ∷ 6 ∷ []) ∷ (7 ∷ 0 ∷ 0 ∷ 1 ∷ 4 ∷ 1 ∷ 1 ∷ []) ∷ (4 ∷ 1 ∷ 0 ∷ 3 ∷ 8 ∷ []) ∷ (9 ∷ 0 ∷ 9 ∷ []) ∷ (1 ∷ 7 ∷ 10 ∷ []) ∷ []), 3, free)) ∷  -- (exists x formerly within 1d A(n: x) and exists x formerly within 1d B(n: x))
    (refuses 8 0 0, (((23 ∷ []) ∷ []), 0, free)) ∷  -- a term: refused 8
    []

answers-are : got (λ e. answer (with_nodes e.0) (5 + length e.0 - 1) e.1 e.2) answers ≡ wanted answers
unfolding all with_nodes answers free
answers-are = refl
