-- Context, scope, attributes and own parts
use Rattle.std.specs.Prelude.{◌≡◌, refl, true, false, List, [], ◌∷◌, ◌++◌, ℕ, ◌+◌, ◌-◌, length}
use Rattle.meaning.specs.Calls.{Said, gives, Answer, verdict}
use Rattle.meaning.specs.Written.{table, file}
use Rattle.rule_examples.specs.Asked.{all, wanted, got, answer, rows}

-- every variable unbound
free : List ℕ
free = (0 ∷ 0 ∷ [])

-- strings, end to end
text : List ℕ
text =
    49 ∷ 46 ∷ 48 ∷  -- 1.0
    65 ∷  -- A
    71 ∷  -- G
    77 ∷  -- M
    78 ∷  -- N
    85 ∷  -- U
    97 ∷  -- a
    98 ∷  -- b
    99 ∷  -- c
    100 ∷  -- d
    101 ∷  -- e
    103 ∷  -- g
    105 ∷ 100 ∷  -- id
    107 ∷  -- k
    111 ∷ 119 ∷ 110 ∷  -- own
    114 ∷  -- r
    115 ∷  -- s
    116 ∷  -- t
    116 ∷ 121 ∷ 112 ∷ 101 ∷  -- type
    117 ∷  -- u
    118 ∷  -- v
    120 ∷  -- x
    122 ∷  -- z
    []

-- start and length in text
strings : List (List ℕ)
strings =
    (0 ∷ 3 ∷ []) ∷  -- 0: 1.0
    (3 ∷ 1 ∷ []) ∷  -- 1: A
    (4 ∷ 1 ∷ []) ∷  -- 2: G
    (5 ∷ 1 ∷ []) ∷  -- 3: M
    (6 ∷ 1 ∷ []) ∷  -- 4: N
    (7 ∷ 1 ∷ []) ∷  -- 5: U
    (8 ∷ 1 ∷ []) ∷  -- 6: a
    (9 ∷ 1 ∷ []) ∷  -- 7: b
    (10 ∷ 1 ∷ []) ∷  -- 8: c
    (11 ∷ 1 ∷ []) ∷  -- 9: d
    (12 ∷ 1 ∷ []) ∷  -- 10: e
    (13 ∷ 1 ∷ []) ∷  -- 11: g
    (14 ∷ 2 ∷ []) ∷  -- 12: id
    (16 ∷ 1 ∷ []) ∷  -- 13: k
    (17 ∷ 3 ∷ []) ∷  -- 14: own
    (20 ∷ 1 ∷ []) ∷  -- 15: r
    (21 ∷ 1 ∷ []) ∷  -- 16: s
    (22 ∷ 1 ∷ []) ∷  -- 17: t
    (23 ∷ 4 ∷ []) ∷  -- 18: type
    (27 ∷ 1 ∷ []) ∷  -- 19: u
    (28 ∷ 1 ∷ []) ∷  -- 20: v
    (29 ∷ 1 ∷ []) ∷  -- 21: x
    (30 ∷ 1 ∷ []) ∷  -- 22: z
    []

-- kind, a, b
values : List (List ℕ)
values =
    (4 ∷ 14 ∷ []) ∷  -- 0: "own"
    (2 ∷ 1 ∷ []) ∷  -- 1: 1
    (7 ∷ 0 ∷ 2 ∷ []) ∷  -- 2: {id: "own", v: 1}
    (2 ∷ 2 ∷ []) ∷  -- 3: 2
    (7 ∷ 2 ∷ 1 ∷ []) ∷  -- 4: {v: 2}
    (2 ∷ 3 ∷ []) ∷  -- 5: 3
    (7 ∷ 3 ∷ 1 ∷ []) ∷  -- 6: {v: 3}
    (2 ∷ 5 ∷ []) ∷  -- 7: 5
    (7 ∷ 4 ∷ 1 ∷ []) ∷  -- 8: {e: 5}
    (4 ∷ 17 ∷ []) ∷  -- 9: "t"
    (2 ∷ 4 ∷ []) ∷  -- 10: 4
    (7 ∷ 5 ∷ 3 ∷ []) ∷  -- 11: {d: {e: 5}, type: "t", v: 4}
    (5 ∷ 5 ∷ 19 ∷ []) ∷  -- 12: U::"u"
    (5 ∷ 2 ∷ 11 ∷ []) ∷  -- 13: G::"g"
    (4 ∷ 19 ∷ []) ∷  -- 14: "u"
    (7 ∷ 8 ∷ 2 ∷ []) ∷  -- 15: {b: 1, c: "u"}
    (3 ∷ []) ∷  -- 16: decimal "1.0"
    (7 ∷ 10 ∷ 2 ∷ []) ∷  -- 17: {a: {b: 1, c: "u"}, d: decimal "1.0"}
    (7 ∷ 12 ∷ 1 ∷ []) ∷  -- 18: {b: 2}
    (4 ∷ 16 ∷ []) ∷  -- 19: "s"
    (7 ∷ 13 ∷ 2 ∷ []) ∷  -- 20: {a: {b: 2}, s: "s"}
    (7 ∷ 15 ∷ 1 ∷ []) ∷  -- 21: {s: "s"}
    (7 ∷ []) ∷  -- 22: {}
    (5 ∷ 2 ∷ 22 ∷ []) ∷  -- 23: G::"z"
    (5 ∷ 2 ∷ 19 ∷ []) ∷  -- 24: G::"u"
    (4 ∷ 2 ∷ []) ∷  -- 25: "G"
    (4 ∷ 11 ∷ []) ∷  -- 26: "g"
    (4 ∷ 5 ∷ []) ∷  -- 27: "U"
    (4 ∷ 22 ∷ []) ∷  -- 28: "z"
    []

-- name and value
members : List (List ℕ)
members =
    (12 ∷ []) ∷  -- 0: id: "own"
    (20 ∷ 1 ∷ []) ∷  -- 1: v: 1
    (20 ∷ 3 ∷ []) ∷  -- 2: v: 2
    (20 ∷ 5 ∷ []) ∷  -- 3: v: 3
    (10 ∷ 7 ∷ []) ∷  -- 4: e: 5
    (9 ∷ 8 ∷ []) ∷  -- 5: d: {e: 5}
    (18 ∷ 9 ∷ []) ∷  -- 6: type: "t"
    (20 ∷ 10 ∷ []) ∷  -- 7: v: 4
    (7 ∷ 1 ∷ []) ∷  -- 8: b: 1
    (8 ∷ 14 ∷ []) ∷  -- 9: c: "u"
    (6 ∷ 15 ∷ []) ∷  -- 10: a: {b: 1, c: "u"}
    (9 ∷ 16 ∷ []) ∷  -- 11: d: decimal "1.0"
    (7 ∷ 3 ∷ []) ∷  -- 12: b: 2
    (6 ∷ 18 ∷ []) ∷  -- 13: a: {b: 2}
    (16 ∷ 19 ∷ []) ∷  -- 14: s: "s"
    (16 ∷ 19 ∷ []) ∷  -- 15: s: "s"
    []

-- time low, high, namespace run, action, kind, logged, context, principal, resource, entities run
points : List (List ℕ)
points =
    (0 ∷ 0 ∷ 0 ∷ 2 ∷ 1 ∷ 15 ∷ 17 ∷ 20 ∷ 12 ∷ 13 ∷ 2 ∷ 4 ∷ []) ∷  -- 0: N::M::A {a: {b: 1, c: "u"}, d: decimal "1.0"} at 0, context {a: {b: 2}, s: "s"}, principal U::"u", resource G::"g"
    (1 ∷ 0 ∷ 0 ∷ 0 ∷ 1 ∷ 15 ∷ 21 ∷ 22 ∷ 14 ∷ 4294967295 ∷ []) ∷  -- 1: A {s: "s"} at 1, principal "u"
    (2 ∷ 0 ∷ 0 ∷ 0 ∷ 1 ∷ 13 ∷ 22 ∷ 22 ∷ 23 ∷ 12 ∷ 14 ∷ 1 ∷ []) ∷  -- 2: A/k {} at 2, principal G::"z", resource U::"u"
    []

-- nodes that stand in arguments: kind and operands
leaves : List (List ℕ)
leaves = []

lists : List ℕ
lists =
    4 ∷ 3 ∷  -- 0: namespace N::M
    2 ∷ 11 ∷ 2 ∷ 2 ∷ 19 ∷ 4 ∷ 5 ∷ 11 ∷ 6 ∷ 5 ∷ 19 ∷ 11 ∷  -- 2: entities G::"g" {id: "own", v: 1}, G::"u" {v: 2}, U::"g" {v: 3}, U::"u" {d: {e: 5}, type: "t", v: 4}
    2 ∷ 11 ∷ 2 ∷  -- 14: entities G::"g" {id: "own", v: 1}
    6 ∷ 7 ∷  -- 17: path a.b
    6 ∷  -- 19: path a
    7 ∷  -- 20: path b
    6 ∷ 8 ∷  -- 21: path a.c
    16 ∷ 7 ∷  -- 23: path s.b
    16 ∷  -- 25: path s
    20 ∷  -- 26: path v
    9 ∷ 10 ∷  -- 27: path d.e
    9 ∷ 21 ∷  -- 29: path d.x
    21 ∷  -- 31: path x
    12 ∷  -- 32: path id
    18 ∷  -- 33: path type
    12 ∷ 21 ∷  -- 34: path id.x
    18 ∷ 21 ∷  -- 36: path type.x
    []

-- the case with these nodes after the leaves; what is asked is the last of them
with_nodes : List (List ℕ) → List ℕ
unfolding text strings values members points leaves lists
with_nodes nodes =
    file 1 (table 2 strings ∷ table 4 values ∷ table 2 members ∷ table 12 points ∷ table 8 (leaves ++ nodes) ∷ lists ∷ []) text

-- nodes, point, starting bindings
answers : List (Said Answer × (List (List ℕ) × ℕ × List ℕ))
answers =
    (gives (verdict true) 1 0, (((21 ∷ 17 ∷ 2 ∷ []) ∷ (20 ∷ 3 ∷ []) ∷ (8 ∷ 4 ∷ 0 ∷ 1 ∷ []) ∷ []), 0, free)) ∷  -- context.a.b == 2
    (gives (verdict true) 1 0, (((21 ∷ 19 ∷ 1 ∷ []) ∷ (8 ∷ 4 ∷ []) ∷ []), 0, free)) ∷  -- context.a == context.a
    (gives (verdict false) 1 0, (((21 ∷ 20 ∷ 1 ∷ []) ∷ (8 ∷ 4 ∷ []) ∷ []), 0, free)) ∷  -- context.b == context.b
    (gives (verdict false) 1 0, (((21 ∷ 21 ∷ 2 ∷ []) ∷ (8 ∷ 4 ∷ []) ∷ []), 0, free)) ∷  -- context.a.c == context.a.c
    (gives (verdict false) 1 0, (((21 ∷ 23 ∷ 2 ∷ []) ∷ (8 ∷ 4 ∷ []) ∷ []), 0, free)) ∷  -- context.s.b == context.s.b
    (gives (verdict true) 1 0, (((21 ∷ 25 ∷ 1 ∷ []) ∷ (20 ∷ 19 ∷ []) ∷ (8 ∷ 4 ∷ 0 ∷ 1 ∷ []) ∷ []), 0, free)) ∷  -- context.s == "s"
    (gives (verdict true) 1 0, (((22 ∷ []) ∷ (20 ∷ 12 ∷ []) ∷ (8 ∷ 4 ∷ 0 ∷ 1 ∷ []) ∷ []), 0, free)) ∷  -- principal == U::"u"
    (gives (verdict true) 1 0, (((22 ∷ 1 ∷ []) ∷ (20 ∷ 13 ∷ []) ∷ (8 ∷ 4 ∷ 0 ∷ 1 ∷ []) ∷ []), 0, free)) ∷  -- resource == G::"g"
    (gives (verdict false) 1 0, (((22 ∷ []) ∷ (20 ∷ 24 ∷ []) ∷ (8 ∷ 4 ∷ 0 ∷ 1 ∷ []) ∷ []), 0, free)) ∷  -- principal == G::"u"
    (gives (verdict true) 1 0, (((22 ∷ 0 ∷ 26 ∷ 1 ∷ []) ∷ (20 ∷ 10 ∷ []) ∷ (8 ∷ 4 ∷ 0 ∷ 1 ∷ []) ∷ []), 0, free)) ∷  -- principal.v == 4
    (gives (verdict true) 1 0, (((22 ∷ 1 ∷ 26 ∷ 1 ∷ []) ∷ (20 ∷ 1 ∷ []) ∷ (8 ∷ 4 ∷ 0 ∷ 1 ∷ []) ∷ []), 0, free)) ∷  -- resource.v == 1
    (gives (verdict true) 1 0, (((22 ∷ 0 ∷ 27 ∷ 2 ∷ []) ∷ (20 ∷ 7 ∷ []) ∷ (8 ∷ 4 ∷ 0 ∷ 1 ∷ []) ∷ []), 0, free)) ∷  -- principal.d.e == 5
    (gives (verdict false) 1 0, (((22 ∷ 0 ∷ 29 ∷ 2 ∷ []) ∷ (8 ∷ 4 ∷ []) ∷ []), 0, free)) ∷  -- principal.d.x == principal.d.x
    (gives (verdict false) 1 0, (((22 ∷ 0 ∷ 31 ∷ 1 ∷ []) ∷ (8 ∷ 4 ∷ []) ∷ []), 0, free)) ∷  -- principal.x == principal.x
    (gives (verdict true) 1 0, (((22 ∷ 0 ∷ 32 ∷ 1 ∷ []) ∷ (20 ∷ 14 ∷ []) ∷ (8 ∷ 4 ∷ 0 ∷ 1 ∷ []) ∷ []), 0, free)) ∷  -- principal.id == "u"
    (gives (verdict true) 1 0, (((22 ∷ 0 ∷ 33 ∷ 1 ∷ []) ∷ (20 ∷ 9 ∷ []) ∷ (8 ∷ 4 ∷ 0 ∷ 1 ∷ []) ∷ []), 0, free)) ∷  -- principal.type == "t"
    (gives (verdict true) 1 0, (((22 ∷ 1 ∷ 32 ∷ 1 ∷ []) ∷ (20 ∷ []) ∷ (8 ∷ 4 ∷ 0 ∷ 1 ∷ []) ∷ []), 0, free)) ∷  -- resource.id == "own"
    (gives (verdict true) 1 0, (((22 ∷ 1 ∷ 33 ∷ 1 ∷ []) ∷ (20 ∷ 25 ∷ []) ∷ (8 ∷ 4 ∷ 0 ∷ 1 ∷ []) ∷ []), 0, free)) ∷  -- resource.type == "G"
    (gives (verdict false) 1 0, (((22 ∷ 1 ∷ 32 ∷ 1 ∷ []) ∷ (20 ∷ 26 ∷ []) ∷ (8 ∷ 4 ∷ 0 ∷ 1 ∷ []) ∷ []), 0, free)) ∷  -- resource.id == "g"
    (gives (verdict false) 1 0, (((22 ∷ 0 ∷ 33 ∷ 1 ∷ []) ∷ (20 ∷ 27 ∷ []) ∷ (8 ∷ 4 ∷ 0 ∷ 1 ∷ []) ∷ []), 0, free)) ∷  -- principal.type == "U"
    (gives (verdict false) 1 0, (((22 ∷ 0 ∷ 34 ∷ 2 ∷ []) ∷ (8 ∷ 4 ∷ []) ∷ []), 0, free)) ∷  -- principal.id.x == principal.id.x
    (gives (verdict false) 1 0, (((22 ∷ 1 ∷ 36 ∷ 2 ∷ []) ∷ (8 ∷ 4 ∷ []) ∷ []), 0, free)) ∷  -- resource.type.x == resource.type.x
    (gives (verdict true) 1 0, (((22 ∷ []) ∷ (20 ∷ 14 ∷ []) ∷ (8 ∷ 4 ∷ 0 ∷ 1 ∷ []) ∷ []), 1, free)) ∷  -- principal == "u"
    (gives (verdict false) 1 0, (((22 ∷ 0 ∷ 32 ∷ 1 ∷ []) ∷ (8 ∷ 4 ∷ []) ∷ []), 1, free)) ∷  -- principal.id == principal.id
    (gives (verdict false) 1 0, (((22 ∷ 1 ∷ []) ∷ (8 ∷ 4 ∷ []) ∷ []), 1, free)) ∷  -- resource == resource
    (gives (verdict false) 1 0, (((22 ∷ 1 ∷ 32 ∷ 1 ∷ []) ∷ (8 ∷ 4 ∷ []) ∷ []), 1, free)) ∷  -- resource.id == resource.id
    (gives (verdict false) 1 0, (((22 ∷ 0 ∷ 26 ∷ 1 ∷ []) ∷ (8 ∷ 4 ∷ []) ∷ []), 1, free)) ∷  -- principal.v == principal.v
    (gives (verdict true) 1 0, (((22 ∷ 0 ∷ 32 ∷ 1 ∷ []) ∷ (20 ∷ 28 ∷ []) ∷ (8 ∷ 4 ∷ 0 ∷ 1 ∷ []) ∷ []), 2, free)) ∷  -- principal.id == "z"
    (gives (verdict true) 1 0, (((22 ∷ 0 ∷ 33 ∷ 1 ∷ []) ∷ (20 ∷ 25 ∷ []) ∷ (8 ∷ 4 ∷ 0 ∷ 1 ∷ []) ∷ []), 2, free)) ∷  -- principal.type == "G"
    (gives (verdict false) 1 0, (((22 ∷ 0 ∷ 26 ∷ 1 ∷ []) ∷ (8 ∷ 4 ∷ []) ∷ []), 2, free)) ∷  -- principal.v == principal.v
    (gives (verdict true) 1 0, (((22 ∷ 1 ∷ 32 ∷ 1 ∷ []) ∷ (20 ∷ 14 ∷ []) ∷ (8 ∷ 4 ∷ 0 ∷ 1 ∷ []) ∷ []), 2, free)) ∷  -- resource.id == "u"
    (gives (verdict false) 1 0, (((22 ∷ 1 ∷ 26 ∷ 1 ∷ []) ∷ (8 ∷ 4 ∷ []) ∷ []), 2, free)) ∷  -- resource.v == resource.v
    (gives (verdict true) 2 0, (((22 ∷ 0 ∷ 32 ∷ 1 ∷ []) ∷ (20 ∷ 28 ∷ []) ∷ (8 ∷ 4 ∷ 0 ∷ 1 ∷ []) ∷ (4 ∷ 1 ∷ 0 ∷ 3 ∷ 2 ∷ []) ∷ []), 2, free)) ∷  -- formerly within 1d principal.id == "z"
    (gives (verdict false) 4 0, (((22 ∷ 0 ∷ 32 ∷ 1 ∷ []) ∷ (20 ∷ 14 ∷ []) ∷ (8 ∷ 4 ∷ 0 ∷ 1 ∷ []) ∷ (4 ∷ 1 ∷ 0 ∷ 3 ∷ 2 ∷ []) ∷ []), 2, free)) ∷  -- formerly within 1d principal.id == "u"
    []

answers-are : got (λ e. answer (with_nodes e.0) (0 + length e.0 - 1) e.1 e.2) answers ≡ wanted answers
unfolding all with_nodes answers free
answers-are = refl

-- nodes, point, starting bindings, binders, cells of output
relations : List ((Said ℕ × List ℕ) × (List (List ℕ) × ℕ × List ℕ × List ℕ × ℕ))
relations =
    ((gives 1 1 1, (3 ∷ 19 ∷ [])), (((23 ∷ []) ∷ (22 ∷ 0 ∷ 32 ∷ 1 ∷ []) ∷ (8 ∷ 4 ∷ 0 ∷ 1 ∷ []) ∷ []), 0, free, (0 ∷ []), 2)) ∷  -- x == principal.id
    ((gives 1 1 1, (1 ∷ 4 ∷ [])), (((23 ∷ []) ∷ (22 ∷ 0 ∷ 26 ∷ 1 ∷ []) ∷ (8 ∷ 4 ∷ 0 ∷ 1 ∷ []) ∷ []), 0, free, (0 ∷ []), 2)) ∷  -- x == principal.v
    ((gives 1 1 1, (2 ∷ 13 ∷ [])), (((23 ∷ []) ∷ (22 ∷ 1 ∷ []) ∷ (8 ∷ 4 ∷ 0 ∷ 1 ∷ []) ∷ []), 0, free, (0 ∷ []), 2)) ∷  -- x == resource
    ((gives 1 1 1, (3 ∷ 2 ∷ [])), (((22 ∷ 0 ∷ 33 ∷ 1 ∷ []) ∷ (23 ∷ []) ∷ (8 ∷ 4 ∷ 0 ∷ 1 ∷ []) ∷ []), 2, free, (0 ∷ []), 2)) ∷  -- principal.type == x
    ((gives 1 1 1, (2 ∷ 19 ∷ [])), (((23 ∷ []) ∷ (21 ∷ 25 ∷ 1 ∷ []) ∷ (8 ∷ 4 ∷ 0 ∷ 1 ∷ []) ∷ []), 0, free, (0 ∷ []), 2)) ∷  -- x == context.s
    ((gives 0 2 0, (9 ∷ 9 ∷ [])), (((23 ∷ []) ∷ (21 ∷ 31 ∷ 1 ∷ []) ∷ (8 ∷ 4 ∷ 0 ∷ 1 ∷ []) ∷ []), 0, free, (0 ∷ []), 2)) ∷  -- x == context.x
    []

relations-are : got (λ e. rows (with_nodes e.0) (0 + length e.0 - 1) e.1 e.2 e.3 e.4) relations ≡ wanted relations
unfolding all with_nodes relations free
relations-are = refl
