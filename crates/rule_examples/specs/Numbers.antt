-- Comparison, arithmetic and aggregates over numbers
use Rattle.std.specs.Prelude.{◌≡◌, refl, true, false, List, [], ◌∷◌, ◌++◌, ℕ, ◌+◌, ◌-◌, length}
use Rattle.meaning.specs.Calls.{Said, gives, refuses, Answer, verdict, number}
use Rattle.meaning.specs.Written.{table, file}
use Rattle.rule_examples.specs.Asked.{all, wanted, got, answer}

-- every variable unbound
free : List ℕ
free = (0 ∷ 0 ∷ [])

-- strings, end to end
text : List ℕ
text =
    65 ∷  -- A
    114 ∷  -- r
    115 ∷  -- s
    []

-- start and length in text
strings : List (List ℕ)
strings =
    (0 ∷ 1 ∷ []) ∷  -- 0: A
    (1 ∷ 1 ∷ []) ∷  -- 1: r
    (2 ∷ 1 ∷ []) ∷  -- 2: s
    []

-- kind, a, b
values : List (List ℕ)
values =
    (7 ∷ []) ∷  -- 0: {}
    (4 ∷ 2 ∷ []) ∷  -- 1: "s"
    (7 ∷ 0 ∷ 1 ∷ []) ∷  -- 2: {s: "s"}
    (2 ∷ 1 ∷ []) ∷  -- 3: 1
    (2 ∷ 2 ∷ []) ∷  -- 4: 2
    (2 ∷ 4294967295 ∷ 4294967295 ∷ []) ∷  -- 5: -1
    (2 ∷ 0 ∷ 2147483648 ∷ []) ∷  -- 6: -9223372036854775808
    (2 ∷ 4294967295 ∷ 2147483647 ∷ []) ∷  -- 7: 9223372036854775807
    (2 ∷ 3 ∷ []) ∷  -- 8: 3
    (2 ∷ 5 ∷ []) ∷  -- 9: 5
    (2 ∷ 6 ∷ []) ∷  -- 10: 6
    (2 ∷ 4294967294 ∷ 2147483647 ∷ []) ∷  -- 11: 9223372036854775806
    (2 ∷ 4294967291 ∷ 4294967295 ∷ []) ∷  -- 12: -5
    []

-- name and value
members : List (List ℕ)
members =
    (2 ∷ 1 ∷ []) ∷  -- 0: s: "s"
    []

-- time low, high, namespace run, action, kind, logged, context, principal, resource, entities run
points : List (List ℕ)
points =
    (0 ∷ 0 ∷ 0 ∷ 0 ∷ 0 ∷ 1 ∷ 0 ∷ 2 ∷ 4294967295 ∷ 4294967295 ∷ []) ∷  -- 0: A {} at 0, context {s: "s"}
    []

-- nodes that stand in arguments: kind and operands
leaves : List (List ℕ)
leaves = []

lists : List ℕ
lists =
    0 ∷  -- 0: binders x
    []

-- the case with these nodes after the leaves; what is asked is the last of them
with_nodes : List (List ℕ) → List ℕ
unfolding text strings values members points leaves lists
with_nodes nodes =
    file 1 (table 2 strings ∷ table 4 values ∷ table 2 members ∷ table 12 points ∷ table 8 (leaves ++ nodes) ∷ lists ∷ []) text

-- nodes, point, starting bindings
answers : List (Said Answer × (List (List ℕ) × ℕ × List ℕ))
answers =
    (gives (verdict true) 1 0, (((20 ∷ 3 ∷ []) ∷ (20 ∷ 4 ∷ []) ∷ (8 ∷ 0 ∷ 0 ∷ 1 ∷ []) ∷ []), 0, free)) ∷  -- 1 <= 2
    (gives (verdict true) 1 0, (((20 ∷ 4 ∷ []) ∷ (8 ∷ []) ∷ []), 0, free)) ∷  -- 2 <= 2
    (gives (verdict false) 1 0, (((20 ∷ 4 ∷ []) ∷ (20 ∷ 3 ∷ []) ∷ (8 ∷ 0 ∷ 0 ∷ 1 ∷ []) ∷ []), 0, free)) ∷  -- 2 <= 1
    (gives (verdict true) 1 0, (((20 ∷ 3 ∷ []) ∷ (20 ∷ 4 ∷ []) ∷ (8 ∷ 1 ∷ 0 ∷ 1 ∷ []) ∷ []), 0, free)) ∷  -- 1 < 2
    (gives (verdict false) 1 0, (((20 ∷ 4 ∷ []) ∷ (8 ∷ 1 ∷ []) ∷ []), 0, free)) ∷  -- 2 < 2
    (gives (verdict false) 1 0, (((20 ∷ 4 ∷ []) ∷ (20 ∷ 3 ∷ []) ∷ (8 ∷ 1 ∷ 0 ∷ 1 ∷ []) ∷ []), 0, free)) ∷  -- 2 < 1
    (gives (verdict false) 1 0, (((20 ∷ 3 ∷ []) ∷ (20 ∷ 4 ∷ []) ∷ (8 ∷ 2 ∷ 0 ∷ 1 ∷ []) ∷ []), 0, free)) ∷  -- 1 >= 2
    (gives (verdict true) 1 0, (((20 ∷ 4 ∷ []) ∷ (8 ∷ 2 ∷ []) ∷ []), 0, free)) ∷  -- 2 >= 2
    (gives (verdict true) 1 0, (((20 ∷ 4 ∷ []) ∷ (20 ∷ 3 ∷ []) ∷ (8 ∷ 2 ∷ 0 ∷ 1 ∷ []) ∷ []), 0, free)) ∷  -- 2 >= 1
    (gives (verdict false) 1 0, (((20 ∷ 3 ∷ []) ∷ (20 ∷ 4 ∷ []) ∷ (8 ∷ 3 ∷ 0 ∷ 1 ∷ []) ∷ []), 0, free)) ∷  -- 1 > 2
    (gives (verdict false) 1 0, (((20 ∷ 4 ∷ []) ∷ (8 ∷ 3 ∷ []) ∷ []), 0, free)) ∷  -- 2 > 2
    (gives (verdict true) 1 0, (((20 ∷ 4 ∷ []) ∷ (20 ∷ 3 ∷ []) ∷ (8 ∷ 3 ∷ 0 ∷ 1 ∷ []) ∷ []), 0, free)) ∷  -- 2 > 1
    (gives (verdict false) 1 0, (((20 ∷ 3 ∷ []) ∷ (20 ∷ 4 ∷ []) ∷ (8 ∷ 4 ∷ 0 ∷ 1 ∷ []) ∷ []), 0, free)) ∷  -- 1 == 2
    (gives (verdict true) 1 0, (((20 ∷ 4 ∷ []) ∷ (8 ∷ 4 ∷ []) ∷ []), 0, free)) ∷  -- 2 == 2
    (gives (verdict false) 1 0, (((20 ∷ 4 ∷ []) ∷ (20 ∷ 3 ∷ []) ∷ (8 ∷ 4 ∷ 0 ∷ 1 ∷ []) ∷ []), 0, free)) ∷  -- 2 == 1
    (gives (verdict true) 1 0, (((20 ∷ 3 ∷ []) ∷ (20 ∷ 4 ∷ []) ∷ (8 ∷ 5 ∷ 0 ∷ 1 ∷ []) ∷ []), 0, free)) ∷  -- 1 != 2
    (gives (verdict false) 1 0, (((20 ∷ 4 ∷ []) ∷ (8 ∷ 5 ∷ []) ∷ []), 0, free)) ∷  -- 2 != 2
    (gives (verdict true) 1 0, (((20 ∷ 4 ∷ []) ∷ (20 ∷ 3 ∷ []) ∷ (8 ∷ 5 ∷ 0 ∷ 1 ∷ []) ∷ []), 0, free)) ∷  -- 2 != 1
    (gives (verdict false) 1 0, (((20 ∷ 1 ∷ []) ∷ (20 ∷ 3 ∷ []) ∷ (8 ∷ 0 ∷ 0 ∷ 1 ∷ []) ∷ []), 0, free)) ∷  -- "s" <= 1
    (gives (verdict false) 1 0, (((20 ∷ 3 ∷ []) ∷ (20 ∷ 1 ∷ []) ∷ (8 ∷ 0 ∷ 0 ∷ 1 ∷ []) ∷ []), 0, free)) ∷  -- 1 <= "s"
    (gives (verdict false) 1 0, (((20 ∷ 1 ∷ []) ∷ (20 ∷ 3 ∷ []) ∷ (8 ∷ 1 ∷ 0 ∷ 1 ∷ []) ∷ []), 0, free)) ∷  -- "s" < 1
    (gives (verdict false) 1 0, (((20 ∷ 3 ∷ []) ∷ (20 ∷ 1 ∷ []) ∷ (8 ∷ 1 ∷ 0 ∷ 1 ∷ []) ∷ []), 0, free)) ∷  -- 1 < "s"
    (gives (verdict false) 1 0, (((20 ∷ 1 ∷ []) ∷ (20 ∷ 3 ∷ []) ∷ (8 ∷ 2 ∷ 0 ∷ 1 ∷ []) ∷ []), 0, free)) ∷  -- "s" >= 1
    (gives (verdict false) 1 0, (((20 ∷ 3 ∷ []) ∷ (20 ∷ 1 ∷ []) ∷ (8 ∷ 2 ∷ 0 ∷ 1 ∷ []) ∷ []), 0, free)) ∷  -- 1 >= "s"
    (gives (verdict false) 1 0, (((20 ∷ 1 ∷ []) ∷ (20 ∷ 3 ∷ []) ∷ (8 ∷ 3 ∷ 0 ∷ 1 ∷ []) ∷ []), 0, free)) ∷  -- "s" > 1
    (gives (verdict false) 1 0, (((20 ∷ 3 ∷ []) ∷ (20 ∷ 1 ∷ []) ∷ (8 ∷ 3 ∷ 0 ∷ 1 ∷ []) ∷ []), 0, free)) ∷  -- 1 > "s"
    (gives (verdict false) 1 0, (((20 ∷ 1 ∷ []) ∷ (8 ∷ []) ∷ []), 0, free)) ∷  -- "s" <= "s"
    (gives (verdict false) 1 0, (((20 ∷ 1 ∷ []) ∷ (8 ∷ 2 ∷ []) ∷ []), 0, free)) ∷  -- "s" >= "s"
    (gives (verdict true) 1 0, (((20 ∷ 5 ∷ []) ∷ (20 ∷ 3 ∷ []) ∷ (8 ∷ 1 ∷ 0 ∷ 1 ∷ []) ∷ []), 0, free)) ∷  -- -1 < 1
    (gives (verdict false) 1 0, (((20 ∷ 5 ∷ []) ∷ (20 ∷ 3 ∷ []) ∷ (8 ∷ 3 ∷ 0 ∷ 1 ∷ []) ∷ []), 0, free)) ∷  -- -1 > 1
    (gives (verdict true) 1 0, (((20 ∷ 6 ∷ []) ∷ (20 ∷ 7 ∷ []) ∷ (8 ∷ 0 ∷ 0 ∷ 1 ∷ []) ∷ []), 0, free)) ∷  -- -9223372036854775808 <= 9223372036854775807
    (gives (verdict false) 1 0, (((23 ∷ []) ∷ (20 ∷ 3 ∷ []) ∷ (8 ∷ 4 ∷ 0 ∷ 1 ∷ []) ∷ []), 0, free)) ∷  -- x == 1
    (gives (verdict false) 1 0, (((20 ∷ 3 ∷ []) ∷ (23 ∷ []) ∷ (8 ∷ 4 ∷ 0 ∷ 1 ∷ []) ∷ []), 0, free)) ∷  -- 1 == x
    (gives (verdict false) 1 0, (((23 ∷ []) ∷ (20 ∷ 3 ∷ []) ∷ (8 ∷ 5 ∷ 0 ∷ 1 ∷ []) ∷ []), 0, free)) ∷  -- x != 1
    (gives (verdict false) 1 0, (((20 ∷ 3 ∷ []) ∷ (23 ∷ []) ∷ (8 ∷ 5 ∷ 0 ∷ 1 ∷ []) ∷ []), 0, free)) ∷  -- 1 != x
    (gives (verdict false) 1 0, (((23 ∷ []) ∷ (20 ∷ 3 ∷ []) ∷ (8 ∷ 0 ∷ 0 ∷ 1 ∷ []) ∷ []), 0, free)) ∷  -- x <= 1
    (gives (verdict false) 1 0, (((20 ∷ 3 ∷ []) ∷ (23 ∷ []) ∷ (8 ∷ 0 ∷ 0 ∷ 1 ∷ []) ∷ []), 0, free)) ∷  -- 1 <= x
    (gives (verdict false) 1 0, (((23 ∷ []) ∷ (20 ∷ 3 ∷ []) ∷ (8 ∷ 3 ∷ 0 ∷ 1 ∷ []) ∷ []), 0, free)) ∷  -- x > 1
    (gives (verdict false) 1 0, (((20 ∷ 3 ∷ []) ∷ (23 ∷ []) ∷ (8 ∷ 3 ∷ 0 ∷ 1 ∷ []) ∷ []), 0, free)) ∷  -- 1 > x
    (gives (verdict true) 1 0, (((23 ∷ []) ∷ (20 ∷ 3 ∷ []) ∷ (8 ∷ 4 ∷ 0 ∷ 1 ∷ []) ∷ []), 0, (1 ∷ 1 ∷ []))) ∷  -- x == 1
    (gives (verdict true) 1 0, (((23 ∷ []) ∷ (20 ∷ 3 ∷ []) ∷ (8 ∷ 5 ∷ 0 ∷ 1 ∷ []) ∷ []), 0, (1 ∷ 2 ∷ []))) ∷  -- x != 1
    (gives (verdict true) 1 0, (((23 ∷ []) ∷ (20 ∷ 4 ∷ []) ∷ (8 ∷ 2 ∷ 0 ∷ 1 ∷ []) ∷ []), 0, (1 ∷ 3 ∷ []))) ∷  -- x >= 2
    (gives (verdict false) 1 0, (((23 ∷ []) ∷ (8 ∷ 4 ∷ []) ∷ []), 0, free)) ∷  -- x == x
    (gives (verdict true) 1 0, (((20 ∷ 8 ∷ []) ∷ (20 ∷ 4 ∷ []) ∷ (26 ∷ 0 ∷ 0 ∷ 1 ∷ []) ∷ (20 ∷ 9 ∷ []) ∷ (8 ∷ 4 ∷ 2 ∷ 3 ∷ []) ∷ []), 0, free)) ∷  -- (3 + 2) == 5
    (gives (verdict true) 1 0, (((20 ∷ 8 ∷ []) ∷ (20 ∷ 4 ∷ []) ∷ (26 ∷ 1 ∷ 0 ∷ 1 ∷ []) ∷ (20 ∷ 3 ∷ []) ∷ (8 ∷ 4 ∷ 2 ∷ 3 ∷ []) ∷ []), 0, free)) ∷  -- (3 - 2) == 1
    (gives (verdict true) 1 0, (((20 ∷ 8 ∷ []) ∷ (20 ∷ 4 ∷ []) ∷ (26 ∷ 2 ∷ 0 ∷ 1 ∷ []) ∷ (20 ∷ 10 ∷ []) ∷ (8 ∷ 4 ∷ 2 ∷ 3 ∷ []) ∷ []), 0, free)) ∷  -- (3 * 2) == 6
    (gives (verdict true) 1 0, (((20 ∷ 4 ∷ []) ∷ (20 ∷ 8 ∷ []) ∷ (26 ∷ 1 ∷ 0 ∷ 1 ∷ []) ∷ (20 ∷ 5 ∷ []) ∷ (8 ∷ 4 ∷ 2 ∷ 3 ∷ []) ∷ []), 0, free)) ∷  -- (2 - 3) == -1
    (gives (verdict true) 1 0, (((20 ∷ 7 ∷ []) ∷ (20 ∷ 3 ∷ []) ∷ (26 ∷ 0 ∷ 0 ∷ 1 ∷ []) ∷ (8 ∷ 4 ∷ 2 ∷ []) ∷ []), 0, free)) ∷  -- (9223372036854775807 + 1) == 9223372036854775807
    (gives (verdict true) 1 0, (((20 ∷ 6 ∷ []) ∷ (20 ∷ 3 ∷ []) ∷ (26 ∷ 1 ∷ 0 ∷ 1 ∷ []) ∷ (8 ∷ 4 ∷ 2 ∷ []) ∷ []), 0, free)) ∷  -- (-9223372036854775808 - 1) == -9223372036854775808
    (gives (verdict true) 1 0, (((20 ∷ 6 ∷ []) ∷ (20 ∷ 5 ∷ []) ∷ (26 ∷ 2 ∷ 0 ∷ 1 ∷ []) ∷ (20 ∷ 7 ∷ []) ∷ (8 ∷ 4 ∷ 2 ∷ 3 ∷ []) ∷ []), 0, free)) ∷  -- (-9223372036854775808 * -1) == 9223372036854775807
    (gives (verdict true) 1 0, (((20 ∷ 7 ∷ []) ∷ (20 ∷ 4 ∷ []) ∷ (26 ∷ 2 ∷ 0 ∷ 1 ∷ []) ∷ (8 ∷ 4 ∷ 2 ∷ []) ∷ []), 0, free)) ∷  -- (9223372036854775807 * 2) == 9223372036854775807
    (gives (verdict true) 1 0, (((20 ∷ 6 ∷ []) ∷ (20 ∷ 4 ∷ []) ∷ (26 ∷ 2 ∷ 0 ∷ 1 ∷ []) ∷ (8 ∷ 4 ∷ 2 ∷ []) ∷ []), 0, free)) ∷  -- (-9223372036854775808 * 2) == -9223372036854775808
    (gives (verdict true) 1 0, (((20 ∷ 7 ∷ []) ∷ (20 ∷ 3 ∷ []) ∷ (26 ∷ 0 ∷ 0 ∷ 1 ∷ []) ∷ (26 ∷ 1 ∷ 2 ∷ 1 ∷ []) ∷ (26 ∷ 0 ∷ 3 ∷ 1 ∷ []) ∷ (8 ∷ 4 ∷ 4 ∷ []) ∷ []), 0, free)) ∷  -- (((9223372036854775807 + 1) - 1) + 1) == 9223372036854775807
    (gives (verdict true) 1 0, (((20 ∷ 7 ∷ []) ∷ (20 ∷ 3 ∷ []) ∷ (26 ∷ 0 ∷ 0 ∷ 1 ∷ []) ∷ (26 ∷ 1 ∷ 2 ∷ 1 ∷ []) ∷ (20 ∷ 11 ∷ []) ∷ (8 ∷ 4 ∷ 3 ∷ 4 ∷ []) ∷ []), 0, free)) ∷  -- ((9223372036854775807 + 1) - 1) == 9223372036854775806
    (gives (verdict false) 1 0, (((20 ∷ 1 ∷ []) ∷ (20 ∷ 3 ∷ []) ∷ (8 ∷ 4 ∷ 1 ∷ 1 ∷ []) ∷ (31 ∷ 0 ∷ 0 ∷ 2 ∷ []) ∷ (25 ∷ 3 ∷ []) ∷ (26 ∷ 0 ∷ 0 ∷ 4 ∷ []) ∷ (8 ∷ 4 ∷ 5 ∷ 1 ∷ []) ∷ []), 0, free)) ∷  -- ("s" + (count for none where 1 == 1)) == 1
    (gives (verdict false) 4 1, (((20 ∷ 3 ∷ []) ∷ (8 ∷ 4 ∷ []) ∷ (31 ∷ 0 ∷ 0 ∷ 1 ∷ []) ∷ (25 ∷ 2 ∷ []) ∷ (20 ∷ 1 ∷ []) ∷ (26 ∷ 0 ∷ 3 ∷ 4 ∷ []) ∷ (8 ∷ 4 ∷ 5 ∷ []) ∷ []), 0, free)) ∷  -- ((count for none where 1 == 1) + "s") == 1
    (gives (verdict false) 1 0, (((23 ∷ []) ∷ (20 ∷ 3 ∷ []) ∷ (8 ∷ 4 ∷ 1 ∷ 1 ∷ []) ∷ (31 ∷ 0 ∷ 0 ∷ 2 ∷ []) ∷ (25 ∷ 3 ∷ []) ∷ (26 ∷ 0 ∷ 0 ∷ 4 ∷ []) ∷ (8 ∷ 4 ∷ 5 ∷ 1 ∷ []) ∷ []), 0, free)) ∷  -- (x + (count for none where 1 == 1)) == 1
    (gives (verdict true) 4 1, (((20 ∷ 3 ∷ []) ∷ (8 ∷ 4 ∷ []) ∷ (31 ∷ 0 ∷ 0 ∷ 1 ∷ []) ∷ (25 ∷ 2 ∷ []) ∷ (8 ∷ 4 ∷ 3 ∷ []) ∷ []), 0, free)) ∷  -- (count for none where 1 == 1) == 1
    (gives (verdict true) 7 1, (((20 ∷ 4 ∷ []) ∷ (20 ∷ 3 ∷ []) ∷ (8 ∷ 4 ∷ 1 ∷ 1 ∷ []) ∷ (31 ∷ 0 ∷ 0 ∷ 2 ∷ []) ∷ (25 ∷ 3 ∷ []) ∷ (26 ∷ 0 ∷ 4 ∷ 4 ∷ []) ∷ (8 ∷ 4 ∷ 0 ∷ 5 ∷ []) ∷ []), 0, free)) ∷  -- 2 == ((count for none where 1 == 1) + (count for none where 1 == 1))
    (gives (verdict false) 4 1, (((20 ∷ 3 ∷ []) ∷ (8 ∷ 4 ∷ []) ∷ (31 ∷ 0 ∷ 0 ∷ 1 ∷ []) ∷ (25 ∷ 2 ∷ []) ∷ (23 ∷ []) ∷ (8 ∷ 5 ∷ 3 ∷ 4 ∷ []) ∷ []), 0, free)) ∷  -- (count for none where 1 == 1) != x
    (gives (verdict false) 4 1, (((23 ∷ []) ∷ (20 ∷ 3 ∷ []) ∷ (8 ∷ 4 ∷ 1 ∷ 1 ∷ []) ∷ (31 ∷ 0 ∷ 0 ∷ 2 ∷ []) ∷ (25 ∷ 3 ∷ []) ∷ (8 ∷ 5 ∷ 0 ∷ 4 ∷ []) ∷ []), 0, free)) ∷  -- x != (count for none where 1 == 1)
    (gives (number 1) 3 1, (((20 ∷ 3 ∷ []) ∷ (8 ∷ 4 ∷ []) ∷ (31 ∷ 0 ∷ 0 ∷ 1 ∷ []) ∷ []), 0, free)) ∷  -- count for none where 1 == 1
    (refuses 8 0 0, (((20 ∷ 3 ∷ []) ∷ (8 ∷ 4 ∷ []) ∷ (31 ∷ 0 ∷ 0 ∷ 1 ∷ []) ∷ (25 ∷ 2 ∷ []) ∷ []), 0, free)) ∷  -- a count as a term: refused 8
    (gives (number 9223372036854775807) 4 2, (((23 ∷ []) ∷ (20 ∷ 7 ∷ []) ∷ (8 ∷ 4 ∷ 0 ∷ 1 ∷ []) ∷ (20 ∷ 3 ∷ []) ∷ (8 ∷ 4 ∷ 0 ∷ 3 ∷ []) ∷ (2 ∷ 2 ∷ 4 ∷ []) ∷ (30 ∷ 0 ∷ 0 ∷ 1 ∷ 5 ∷ []) ∷ []), 0, free)) ∷  -- sum x for x where (x == 9223372036854775807 or x == 1)
    (gives (number 9223372036854775808) 4 2, (((23 ∷ []) ∷ (20 ∷ 6 ∷ []) ∷ (8 ∷ 4 ∷ 0 ∷ 1 ∷ []) ∷ (20 ∷ 5 ∷ []) ∷ (8 ∷ 4 ∷ 0 ∷ 3 ∷ []) ∷ (2 ∷ 2 ∷ 4 ∷ []) ∷ (30 ∷ 0 ∷ 0 ∷ 1 ∷ 5 ∷ []) ∷ []), 0, free)) ∷  -- sum x for x where (x == -9223372036854775808 or x == -1)
    (gives (number 9223372036854775803) 6 3, (((23 ∷ []) ∷ (20 ∷ 7 ∷ []) ∷ (8 ∷ 4 ∷ 0 ∷ 1 ∷ []) ∷ (20 ∷ 3 ∷ []) ∷ (8 ∷ 4 ∷ 0 ∷ 3 ∷ []) ∷ (2 ∷ 2 ∷ 4 ∷ []) ∷ (20 ∷ 12 ∷ []) ∷ (8 ∷ 4 ∷ 0 ∷ 6 ∷ []) ∷ (2 ∷ 5 ∷ 7 ∷ []) ∷ (30 ∷ 0 ∷ 0 ∷ 1 ∷ 8 ∷ []) ∷ []), 0, free)) ∷  -- sum x for x where ((x == 9223372036854775807 or x == 1) or x == -5)
    (gives (number 4) 6 3, (((23 ∷ []) ∷ (20 ∷ 3 ∷ []) ∷ (8 ∷ 4 ∷ 0 ∷ 1 ∷ []) ∷ (20 ∷ 1 ∷ []) ∷ (8 ∷ 4 ∷ 0 ∷ 3 ∷ []) ∷ (2 ∷ 2 ∷ 4 ∷ []) ∷ (20 ∷ 8 ∷ []) ∷ (8 ∷ 4 ∷ 0 ∷ 6 ∷ []) ∷ (2 ∷ 5 ∷ 7 ∷ []) ∷ (30 ∷ 0 ∷ 0 ∷ 1 ∷ 8 ∷ []) ∷ []), 0, free)) ∷  -- sum x for x where ((x == 1 or x == "s") or x == 3)
    (gives (number 4) 6 2, (((23 ∷ []) ∷ (20 ∷ 3 ∷ []) ∷ (8 ∷ 4 ∷ 0 ∷ 1 ∷ []) ∷ (2 ∷ 2 ∷ 2 ∷ []) ∷ (20 ∷ 8 ∷ []) ∷ (8 ∷ 4 ∷ 0 ∷ 4 ∷ []) ∷ (2 ∷ 3 ∷ 5 ∷ []) ∷ (30 ∷ 0 ∷ 0 ∷ 1 ∷ 6 ∷ []) ∷ []), 0, free)) ∷  -- sum x for x where ((x == 1 or x == 1) or x == 3)
    (gives (number 0) 4 2, (((23 ∷ []) ∷ (20 ∷ 3 ∷ []) ∷ (8 ∷ 4 ∷ 0 ∷ 1 ∷ []) ∷ (20 ∷ 8 ∷ []) ∷ (8 ∷ 4 ∷ 0 ∷ 3 ∷ []) ∷ (2 ∷ 2 ∷ 4 ∷ []) ∷ (30 ∷ 0 ∷ 0 ∷ 0 ∷ 5 ∷ []) ∷ []), 0, free)) ∷  -- sum x for none where (x == 1 or x == 3)
    (gives (number 2) 6 2, (((23 ∷ []) ∷ (20 ∷ 3 ∷ []) ∷ (8 ∷ 4 ∷ 0 ∷ 1 ∷ []) ∷ (2 ∷ 2 ∷ 2 ∷ []) ∷ (20 ∷ 8 ∷ []) ∷ (8 ∷ 4 ∷ 0 ∷ 4 ∷ []) ∷ (2 ∷ 3 ∷ 5 ∷ []) ∷ (31 ∷ 0 ∷ 1 ∷ 6 ∷ []) ∷ []), 0, free)) ∷  -- count for x where ((x == 1 or x == 1) or x == 3)
    (gives (number 0) 3 0, (((20 ∷ 3 ∷ []) ∷ (20 ∷ 4 ∷ []) ∷ (8 ∷ 4 ∷ 0 ∷ 1 ∷ []) ∷ (30 ∷ 0 ∷ 0 ∷ 1 ∷ 2 ∷ []) ∷ []), 0, free)) ∷  -- sum x for x where 1 == 2
    []

answers-are : got (λ e. answer (with_nodes e.0) (0 + length e.0 - 1) e.1 e.2) answers ≡ wanted answers
unfolding all with_nodes answers free
answers-are = refl
