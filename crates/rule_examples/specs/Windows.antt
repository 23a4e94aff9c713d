-- Windows: the units, and where a difference and a span saturate
use Rattle.std.specs.Prelude.{◌≡◌, refl, true, false, List, [], ◌∷◌, ◌++◌, ℕ, ◌+◌, ◌-◌, length}
use Rattle.meaning.specs.Calls.{Said, gives, Answer, verdict}
use Rattle.meaning.specs.Written.{table, file}
use Rattle.rule_examples.specs.Asked.{all, wanted, got, answer}

-- every variable unbound
free : List ℕ
free = []

-- strings, end to end
text : List ℕ
text =
    65 ∷  -- A
    66 ∷  -- B
    114 ∷  -- r
    []

-- start and length in text
strings : List (List ℕ)
strings =
    (0 ∷ 1 ∷ []) ∷  -- 0: A
    (1 ∷ 1 ∷ []) ∷  -- 1: B
    (2 ∷ 1 ∷ []) ∷  -- 2: r
    []

-- kind, a, b
values : List (List ℕ)
values =
    (7 ∷ []) ∷  -- 0: {}
    []

-- name and value
members : List (List ℕ)
members = []

-- time low, high, namespace run, action, kind, logged, context, principal, resource, entities run
points : List (List ℕ)
points =
    (0 ∷ 0 ∷ 0 ∷ 0 ∷ 0 ∷ 2 ∷ 0 ∷ 0 ∷ 4294967295 ∷ 4294967295 ∷ []) ∷  -- 0: A {} at 0
    (60 ∷ 0 ∷ 0 ∷ 0 ∷ 1 ∷ 2 ∷ 0 ∷ 0 ∷ 4294967295 ∷ 4294967295 ∷ []) ∷  -- 1: B {} at 60
    (61 ∷ 0 ∷ 0 ∷ 0 ∷ 1 ∷ 2 ∷ 0 ∷ 0 ∷ 4294967295 ∷ 4294967295 ∷ []) ∷  -- 2: B {} at 61
    (3600 ∷ 0 ∷ 0 ∷ 0 ∷ 1 ∷ 2 ∷ 0 ∷ 0 ∷ 4294967295 ∷ 4294967295 ∷ []) ∷  -- 3: B {} at 3600
    (3601 ∷ 0 ∷ 0 ∷ 0 ∷ 1 ∷ 2 ∷ 0 ∷ 0 ∷ 4294967295 ∷ 4294967295 ∷ []) ∷  -- 4: B {} at 3601
    (86400 ∷ 0 ∷ 0 ∷ 0 ∷ 1 ∷ 2 ∷ 0 ∷ 0 ∷ 4294967295 ∷ 4294967295 ∷ []) ∷  -- 5: B {} at 86400
    (86401 ∷ 0 ∷ 0 ∷ 0 ∷ 1 ∷ 2 ∷ 0 ∷ 0 ∷ 4294967295 ∷ 4294967295 ∷ []) ∷  -- 6: B {} at 86401
    []

-- nodes that stand in arguments: kind and operands
leaves : List (List ℕ)
leaves = []

lists : List ℕ
lists = []

-- the case with these nodes after the leaves; what is asked is the last of them
with_nodes : List (List ℕ) → List ℕ
unfolding text strings values members points leaves lists
with_nodes nodes =
    file 0 (table 2 strings ∷ table 4 values ∷ table 2 members ∷ table 12 points ∷ table 8 (leaves ++ nodes) ∷ lists ∷ []) text

-- nodes, point, starting bindings
answers : List (Said Answer × (List (List ℕ) × ℕ × List ℕ))
answers =
    (gives (verdict true) 3 0, (((7 ∷ 0 ∷ 0 ∷ 0 ∷ 2 ∷ []) ∷ (4 ∷ 1 ∷ 0 ∷ 1 ∷ []) ∷ []), 1, free)) ∷  -- formerly within 1m A()
    (gives (verdict false) 3 0, (((7 ∷ 0 ∷ 0 ∷ 0 ∷ 2 ∷ []) ∷ (4 ∷ 1 ∷ 0 ∷ 1 ∷ []) ∷ []), 2, free)) ∷  -- formerly within 1m A()
    (gives (verdict true) 5 0, (((7 ∷ 0 ∷ 0 ∷ 0 ∷ 2 ∷ []) ∷ (4 ∷ 1 ∷ 0 ∷ 2 ∷ []) ∷ []), 3, free)) ∷  -- formerly within 1h A()
    (gives (verdict false) 5 0, (((7 ∷ 0 ∷ 0 ∷ 0 ∷ 2 ∷ []) ∷ (4 ∷ 1 ∷ 0 ∷ 2 ∷ []) ∷ []), 4, free)) ∷  -- formerly within 1h A()
    (gives (verdict true) 7 0, (((7 ∷ 0 ∷ 0 ∷ 0 ∷ 2 ∷ []) ∷ (4 ∷ 1 ∷ 0 ∷ 3 ∷ []) ∷ []), 5, free)) ∷  -- formerly within 1d A()
    (gives (verdict false) 7 0, (((7 ∷ 0 ∷ 0 ∷ 0 ∷ 2 ∷ []) ∷ (4 ∷ 1 ∷ 0 ∷ 3 ∷ []) ∷ []), 6, free)) ∷  -- formerly within 1d A()
    (gives (verdict true) 3 0, (((7 ∷ 0 ∷ 0 ∷ 0 ∷ 2 ∷ []) ∷ (4 ∷ 60 ∷ []) ∷ []), 1, free)) ∷  -- formerly within 60s A()
    (gives (verdict false) 2 0, (((7 ∷ 0 ∷ 0 ∷ 0 ∷ 2 ∷ []) ∷ (4 ∷ 59 ∷ []) ∷ []), 1, free)) ∷  -- formerly within 59s A()
    (gives (verdict false) 3 0, (((7 ∷ 0 ∷ 0 ∷ 0 ∷ 2 ∷ []) ∷ (4 ∷ 60 ∷ []) ∷ []), 2, free)) ∷  -- formerly within 60s A()
    []

answers-are : got (λ e. answer (with_nodes e.0) (0 + length e.0 - 1) e.1 e.2) answers ≡ wanted answers
unfolding all with_nodes answers free
answers-are = refl

-- strings, end to end
far-text : List ℕ
far-text =
    65 ∷  -- A
    66 ∷  -- B
    114 ∷  -- r
    []

-- start and length in text
far-strings : List (List ℕ)
far-strings =
    (0 ∷ 1 ∷ []) ∷  -- 0: A
    (1 ∷ 1 ∷ []) ∷  -- 1: B
    (2 ∷ 1 ∷ []) ∷  -- 2: r
    []

-- kind, a, b
far-values : List (List ℕ)
far-values =
    (7 ∷ []) ∷  -- 0: {}
    []

-- name and value
far-members : List (List ℕ)
far-members = []

-- time low, high, namespace run, action, kind, logged, context, principal, resource, entities run
far-points : List (List ℕ)
far-points =
    (0 ∷ 2147483648 ∷ 0 ∷ 0 ∷ 0 ∷ 2 ∷ 0 ∷ 0 ∷ 4294967295 ∷ 4294967295 ∷ []) ∷  -- 0: A {} at -9223372036854775808
    (4294967295 ∷ 2147483647 ∷ 0 ∷ 0 ∷ 1 ∷ 2 ∷ 0 ∷ 0 ∷ 4294967295 ∷ 4294967295 ∷ []) ∷  -- 1: B {} at 9223372036854775807
    (0 ∷ 2147483648 ∷ 0 ∷ 0 ∷ 1 ∷ 2 ∷ 0 ∷ 0 ∷ 4294967295 ∷ 4294967295 ∷ []) ∷  -- 2: B {} at -9223372036854775808
    []

-- nodes that stand in arguments: kind and operands
far-leaves : List (List ℕ)
far-leaves = []

far-lists : List ℕ
far-lists = []

-- the case with these nodes after the leaves; what is asked is the last of them
far-with_nodes : List (List ℕ) → List ℕ
unfolding far-text far-strings far-values far-members far-points far-leaves far-lists
far-with_nodes nodes =
    file 0 (table 2 far-strings ∷ table 4 far-values ∷ table 2 far-members ∷ table 12 far-points ∷ table 8 (far-leaves ++ nodes) ∷ far-lists ∷ []) far-text

-- nodes, point, starting bindings
far-answers : List (Said Answer × (List (List ℕ) × ℕ × List ℕ))
far-answers =
    (gives (verdict true) 3 0, (((7 ∷ 0 ∷ 0 ∷ 0 ∷ 2 ∷ []) ∷ (4 ∷ 4294967295 ∷ 2147483647 ∷ []) ∷ []), 1, free)) ∷  -- formerly within 9223372036854775807s A()
    (gives (verdict false) 2 0, (((7 ∷ 0 ∷ 0 ∷ 0 ∷ 2 ∷ []) ∷ (4 ∷ 4294967294 ∷ 2147483647 ∷ []) ∷ []), 1, free)) ∷  -- formerly within 9223372036854775806s A()
    (gives (verdict true) 3 0, (((7 ∷ 0 ∷ 0 ∷ 0 ∷ 2 ∷ []) ∷ (4 ∷ 579025221 ∷ 24855 ∷ 3 ∷ []) ∷ []), 1, free)) ∷  -- formerly within 106751991167301d A()
    (gives (verdict false) 2 0, (((7 ∷ 0 ∷ 0 ∷ 0 ∷ 2 ∷ []) ∷ (4 ∷ 579025220 ∷ 24855 ∷ 3 ∷ []) ∷ []), 1, free)) ∷  -- formerly within 106751991167300d A()
    (gives (verdict true) 3 0, (((7 ∷ 0 ∷ 0 ∷ 0 ∷ 2 ∷ []) ∷ (4 ∷ []) ∷ []), 2, free)) ∷  -- formerly within 0s A()
    (gives (verdict false) 1 0, (((7 ∷ 0 ∷ 0 ∷ 1 ∷ 2 ∷ []) ∷ (5 ∷ 4294967295 ∷ 2147483647 ∷ []) ∷ []), 2, free)) ∷  -- previous within 9223372036854775807s B()
    (gives (verdict false) 1 0, (((7 ∷ 0 ∷ 0 ∷ 0 ∷ 2 ∷ []) ∷ (4 ∷ 3715942074 ∷ 4294942440 ∷ 3 ∷ []) ∷ []), 0, free)) ∷  -- formerly within -106751991167302d A()
    (gives (verdict true) 4 0, (((7 ∷ 0 ∷ 0 ∷ 1 ∷ 2 ∷ []) ∷ (7 ∷ 0 ∷ 0 ∷ 0 ∷ 2 ∷ []) ∷ (6 ∷ 0 ∷ 1 ∷ 579025221 ∷ 24855 ∷ 3 ∷ []) ∷ []), 1, free)) ∷  -- (B() since within 106751991167301d A())
    []

far-answers-are : got (λ e. answer (far-with_nodes e.0) (0 + length e.0 - 1) e.1 e.2) far-answers ≡ wanted far-answers
unfolding all far-with_nodes far-answers free
far-answers-are = refl
