-- Names with dots (#103): what a path gives in context and attributes; logged fields
use Rattle.std.specs.Prelude.{◌≡◌, refl, true, false, List, [], ◌∷◌, ℕ, ◌+◌, ◌-◌, length}
use Rattle.meaning.specs.Calls.{Said, gives, Answer, verdict}
use Rattle.meaning.specs.Written.{table, file}
use Rattle.rule_examples.specs.Asked.{all, wanted, got, checked, answer, rows}

-- every variable unbound
free : List ℕ
free = (0 ∷ 0 ∷ [])

-- strings, end to end
text : List ℕ
text =
    46 ∷ 113 ∷  -- .q
    65 ∷  -- A
    85 ∷  -- U
    97 ∷  -- a
    97 ∷ 46 ∷ 98 ∷  -- a.b
    97 ∷ 46 ∷ 98 ∷ 46 ∷ 100 ∷  -- a.b.d
    98 ∷  -- b
    98 ∷ 46 ∷ 99 ∷  -- b.c
    99 ∷  -- c
    100 ∷  -- d
    101 ∷  -- e
    101 ∷ 46 ∷  -- e.
    105 ∷ 100 ∷  -- id
    105 ∷ 100 ∷ 46 ∷ 97 ∷  -- id.a
    113 ∷  -- q
    114 ∷  -- r
    116 ∷ 121 ∷ 112 ∷ 101 ∷  -- type
    117 ∷  -- u
    119 ∷  -- w
    []

-- start and length in text
strings : List (List ℕ)
strings =
    (0 ∷ 0 ∷ []) ∷  -- 0: ""
    (0 ∷ 2 ∷ []) ∷  -- 1: .q
    (2 ∷ 1 ∷ []) ∷  -- 2: A
    (3 ∷ 1 ∷ []) ∷  -- 3: U
    (4 ∷ 1 ∷ []) ∷  -- 4: a
    (5 ∷ 3 ∷ []) ∷  -- 5: a.b
    (8 ∷ 5 ∷ []) ∷  -- 6: a.b.d
    (13 ∷ 1 ∷ []) ∷  -- 7: b
    (14 ∷ 3 ∷ []) ∷  -- 8: b.c
    (17 ∷ 1 ∷ []) ∷  -- 9: c
    (18 ∷ 1 ∷ []) ∷  -- 10: d
    (19 ∷ 1 ∷ []) ∷  -- 11: e
    (20 ∷ 2 ∷ []) ∷  -- 12: e.
    (22 ∷ 2 ∷ []) ∷  -- 13: id
    (24 ∷ 4 ∷ []) ∷  -- 14: id.a
    (28 ∷ 1 ∷ []) ∷  -- 15: q
    (29 ∷ 1 ∷ []) ∷  -- 16: r
    (30 ∷ 4 ∷ []) ∷  -- 17: type
    (34 ∷ 1 ∷ []) ∷  -- 18: u
    (35 ∷ 1 ∷ []) ∷  -- 19: w
    []

-- kind, a, b
values : List (List ℕ)
values =
    (2 ∷ 2 ∷ []) ∷  -- 0: 2
    (2 ∷ 7 ∷ []) ∷  -- 1: 7
    (7 ∷ 0 ∷ 1 ∷ []) ∷  -- 2: {"a.b": 7}
    (2 ∷ 1 ∷ []) ∷  -- 3: 1
    (7 ∷ 1 ∷ 1 ∷ []) ∷  -- 4: {b: 1}
    (7 ∷ 2 ∷ 2 ∷ []) ∷  -- 5: {a: {b: 1}, "a.b": 2}
    (5 ∷ 3 ∷ 18 ∷ []) ∷  -- 6: U::"u"
    (5 ∷ 3 ∷ 19 ∷ []) ∷  -- 7: U::"w"
    (2 ∷ 4 ∷ []) ∷  -- 8: 4
    (7 ∷ 4 ∷ 1 ∷ []) ∷  -- 9: {"id.a": 4}
    (7 ∷ 5 ∷ 1 ∷ []) ∷  -- 10: {a: 1}
    (7 ∷ 6 ∷ 2 ∷ []) ∷  -- 11: {id: {a: 1}, "id.a": 2}
    (7 ∷ 8 ∷ 1 ∷ []) ∷  -- 12: {b: 7}
    (7 ∷ 9 ∷ 1 ∷ []) ∷  -- 13: {a: {b: 7}}
    (7 ∷ 10 ∷ 1 ∷ []) ∷  -- 14: {d: 2}
    (7 ∷ 11 ∷ 1 ∷ []) ∷  -- 15: {b: {d: 2}}
    (7 ∷ 12 ∷ 1 ∷ []) ∷  -- 16: {c: 1}
    (7 ∷ 13 ∷ 2 ∷ []) ∷  -- 17: {a: {b: {d: 2}}, "a.b": {c: 1}}
    (2 ∷ 3 ∷ []) ∷  -- 18: 3
    (7 ∷ 15 ∷ 1 ∷ []) ∷  -- 19: {a: 3}
    (7 ∷ 16 ∷ 3 ∷ []) ∷  -- 20: {a: {b: {d: 2}}, "a.b": {c: 1}, type: {a: 3}}
    [] ∷  -- 21: Null
    (7 ∷ 19 ∷ 1 ∷ []) ∷  -- 22: {id: Null}
    (7 ∷ 20 ∷ []) ∷  -- 23: {}
    (7 ∷ 20 ∷ 1 ∷ []) ∷  -- 24: {c: 3}
    (6 ∷ 21 ∷ 1 ∷ []) ∷  -- 25: [{c: 3}]
    (7 ∷ 22 ∷ 1 ∷ []) ∷  -- 26: {a: 4}
    (7 ∷ 23 ∷ 4 ∷ []) ∷  -- 27: {a: 1, "a.b": 2, b: [{c: 3}], c: {a: 4}}
    (2 ∷ 5 ∷ []) ∷  -- 28: 5
    (7 ∷ 27 ∷ 1 ∷ []) ∷  -- 29: {q: 5}
    (2 ∷ 6 ∷ []) ∷  -- 30: 6
    (7 ∷ 28 ∷ 1 ∷ []) ∷  -- 31: {"": 7}
    (2 ∷ 8 ∷ []) ∷  -- 32: 8
    (7 ∷ 29 ∷ 4 ∷ []) ∷  -- 33: {"": {q: 5}, ".q": 6, e: {"": 7}, "e.": 8}
    (7 ∷ 33 ∷ 3 ∷ []) ∷  -- 34: {"": {q: 5}, e: {"": 7}, q: 1}
    (7 ∷ 36 ∷ 2 ∷ []) ∷  -- 35: {b: {c: 1}, "b.c": 2}
    (7 ∷ 38 ∷ 2 ∷ []) ∷  -- 36: {a: {b: {c: 1}, "b.c": 2}, "a.b": {c: 3}}
    (7 ∷ 40 ∷ 1 ∷ []) ∷  -- 37: {d: 4}
    (7 ∷ 41 ∷ 3 ∷ []) ∷  -- 38: {a: {b: {c: 1}, "b.c": 2}, "a.b": {d: 4}, "a.b.d": 5}
    []

-- name and value
members : List (List ℕ)
members =
    (5 ∷ 1 ∷ []) ∷  -- 0: "a.b": 7
    (7 ∷ 3 ∷ []) ∷  -- 1: b: 1
    (4 ∷ 4 ∷ []) ∷  -- 2: a: {b: 1}
    (5 ∷ []) ∷  -- 3: "a.b": 2
    (14 ∷ 8 ∷ []) ∷  -- 4: "id.a": 4
    (4 ∷ 3 ∷ []) ∷  -- 5: a: 1
    (13 ∷ 10 ∷ []) ∷  -- 6: id: {a: 1}
    (14 ∷ []) ∷  -- 7: "id.a": 2
    (7 ∷ 1 ∷ []) ∷  -- 8: b: 7
    (4 ∷ 12 ∷ []) ∷  -- 9: a: {b: 7}
    (10 ∷ []) ∷  -- 10: d: 2
    (7 ∷ 14 ∷ []) ∷  -- 11: b: {d: 2}
    (9 ∷ 3 ∷ []) ∷  -- 12: c: 1
    (4 ∷ 15 ∷ []) ∷  -- 13: a: {b: {d: 2}}
    (5 ∷ 16 ∷ []) ∷  -- 14: "a.b": {c: 1}
    (4 ∷ 18 ∷ []) ∷  -- 15: a: 3
    (4 ∷ 15 ∷ []) ∷  -- 16: a: {b: {d: 2}}
    (5 ∷ 16 ∷ []) ∷  -- 17: "a.b": {c: 1}
    (17 ∷ 19 ∷ []) ∷  -- 18: type: {a: 3}
    (13 ∷ 21 ∷ []) ∷  -- 19: id: Null
    (9 ∷ 18 ∷ []) ∷  -- 20: c: 3
    (4294967295 ∷ 24 ∷ []) ∷  -- 21: {c: 3}
    (4 ∷ 8 ∷ []) ∷  -- 22: a: 4
    (4 ∷ 3 ∷ []) ∷  -- 23: a: 1
    (5 ∷ []) ∷  -- 24: "a.b": 2
    (7 ∷ 25 ∷ []) ∷  -- 25: b: [{c: 3}]
    (9 ∷ 26 ∷ []) ∷  -- 26: c: {a: 4}
    (15 ∷ 28 ∷ []) ∷  -- 27: q: 5
    (0 ∷ 1 ∷ []) ∷  -- 28: "": 7
    (0 ∷ 29 ∷ []) ∷  -- 29: "": {q: 5}
    (1 ∷ 30 ∷ []) ∷  -- 30: ".q": 6
    (11 ∷ 31 ∷ []) ∷  -- 31: e: {"": 7}
    (12 ∷ 32 ∷ []) ∷  -- 32: "e.": 8
    (0 ∷ 29 ∷ []) ∷  -- 33: "": {q: 5}
    (11 ∷ 31 ∷ []) ∷  -- 34: e: {"": 7}
    (15 ∷ 3 ∷ []) ∷  -- 35: q: 1
    (7 ∷ 16 ∷ []) ∷  -- 36: b: {c: 1}
    (8 ∷ []) ∷  -- 37: "b.c": 2
    (4 ∷ 35 ∷ []) ∷  -- 38: a: {b: {c: 1}, "b.c": 2}
    (5 ∷ 24 ∷ []) ∷  -- 39: "a.b": {c: 3}
    (10 ∷ 8 ∷ []) ∷  -- 40: d: 4
    (4 ∷ 35 ∷ []) ∷  -- 41: a: {b: {c: 1}, "b.c": 2}
    (5 ∷ 37 ∷ []) ∷  -- 42: "a.b": {d: 4}
    (6 ∷ 28 ∷ []) ∷  -- 43: "a.b.d": 5
    []

-- time low, high, namespace run, action, kind, logged, context, principal, resource, entities run
points : List (List ℕ)
points =
    (0 ∷ 0 ∷ 0 ∷ 0 ∷ 2 ∷ 16 ∷ 2 ∷ 5 ∷ 6 ∷ 7 ∷ 0 ∷ 2 ∷ []) ∷  -- 0: A {"a.b": 7}, context {a: {b: 1}, "a.b": 2}
    (0 ∷ 0 ∷ 0 ∷ 0 ∷ 2 ∷ 16 ∷ 13 ∷ 17 ∷ 6 ∷ 7 ∷ 6 ∷ 2 ∷ []) ∷  -- 1: A {a: {b: 7}}, context {a: {b: {d: 2}}, "a.b": {c: 1}}
    (0 ∷ 0 ∷ 0 ∷ 0 ∷ 2 ∷ 16 ∷ 23 ∷ 27 ∷ 6 ∷ 4294967295 ∷ []) ∷  -- 2: A {}, context {a: 1, "a.b": 2, b: [{c: 3}], c: {a: 4}}
    (0 ∷ 0 ∷ 0 ∷ 0 ∷ 2 ∷ 16 ∷ 23 ∷ 33 ∷ 4294967295 ∷ 4294967295 ∷ []) ∷  -- 3: A {}, context {"": {q: 5}, ".q": 6, e: {"": 7}, "e.": 8}
    (0 ∷ 0 ∷ 0 ∷ 0 ∷ 2 ∷ 16 ∷ 23 ∷ 34 ∷ 4294967295 ∷ 4294967295 ∷ []) ∷  -- 4: A {}, context {"": {q: 5}, e: {"": 7}, q: 1}
    (0 ∷ 0 ∷ 0 ∷ 0 ∷ 2 ∷ 16 ∷ 23 ∷ 36 ∷ 4294967295 ∷ 4294967295 ∷ []) ∷  -- 5: A {}, context {a: {b: {c: 1}, "b.c": 2}, "a.b": {c: 3}}
    (0 ∷ 0 ∷ 0 ∷ 0 ∷ 2 ∷ 16 ∷ 23 ∷ 38 ∷ 4294967295 ∷ 4294967295 ∷ []) ∷  -- 6: A {}, context {a: {b: {c: 1}, "b.c": 2}, "a.b": {d: 4}, "a.b.d": 5}
    []

lists : List ℕ
lists =
    3 ∷ 18 ∷ 9 ∷ 3 ∷ 19 ∷ 11 ∷  -- 0: entities U::"u" {"id.a": 4}, U::"w" {id: {a: 1}, "id.a": 2}
    3 ∷ 18 ∷ 20 ∷ 3 ∷ 19 ∷ 22 ∷  -- 6: entities U::"u" {a: {b: {d: 2}}, "a.b": {c: 1}, type: {a: 3}}, U::"w" {id: Null}
    4 ∷ 7 ∷  -- 12: path a . b
    4 ∷  -- 14: path a
    7 ∷  -- 15: path b
    13 ∷  -- 16: path id
    13 ∷ 4 ∷  -- 17: path id . a
    17 ∷  -- 19: path type
    4 ∷ 7 ∷ 10 ∷  -- 20: path a . b . d
    4 ∷ 7 ∷ 9 ∷  -- 23: path a . b . c
    4 ∷ 7 ∷ 11 ∷  -- 26: path a . b . e
    17 ∷ 4 ∷  -- 29: path type . a
    7 ∷ 9 ∷  -- 31: path b . c
    7 ∷ 0 ∷  -- 33: path b . ""
    9 ∷ 4 ∷  -- 35: path c . a
    0 ∷ 15 ∷  -- 37: path "" . q
    11 ∷ 0 ∷  -- 39: path e . ""
    0 ∷  -- 41: path ""
    15 ∷  -- 42: path q
    0 ∷ 0 ∷  -- 43: path "" . ""
    12 ∷ 2 ∷ 0 ∷  -- 45: argument a.b: node 0
    5 ∷  -- 48: path of the one name a.b
    []

-- the case with these nodes; what is asked is the last of them
with_nodes : List (List ℕ) → List ℕ
unfolding text strings values members points lists
with_nodes nodes =
    file 1 (table 2 strings ∷ table 4 values ∷ table 2 members ∷ table 12 points ∷ table 8 nodes ∷ lists ∷ []) text

-- the rows of x == a path: the cell that the path gives, or none
given : List ((Said ℕ × List ℕ) × (List ℕ × ℕ))
given =
    ((gives 1 1 1, (1 ∷ 2 ∷ [])), ((21 ∷ 12 ∷ 2 ∷ []), 0)) ∷  -- 0: context a.b
    ((gives 1 1 1, (2 ∷ 4 ∷ [])), ((21 ∷ 14 ∷ 1 ∷ []), 0)) ∷  -- 0: context a
    ((gives 0 2 0, (9 ∷ 9 ∷ [])), ((21 ∷ 15 ∷ 1 ∷ []), 0)) ∷  -- 0: context b
    ((gives 1 1 1, (3 ∷ 18 ∷ [])), ((22 ∷ 0 ∷ 16 ∷ 1 ∷ []), 0)) ∷  -- 0: principal id
    ((gives 1 1 1, (1 ∷ 4 ∷ [])), ((22 ∷ 0 ∷ 17 ∷ 2 ∷ []), 0)) ∷  -- 0: principal id.a
    ((gives 1 1 1, (2 ∷ 10 ∷ [])), ((22 ∷ 1 ∷ 16 ∷ 1 ∷ []), 0)) ∷  -- 0: resource id
    ((gives 1 1 1, (1 ∷ 2 ∷ [])), ((22 ∷ 1 ∷ 17 ∷ 2 ∷ []), 0)) ∷  -- 0: resource id.a
    ((gives 1 1 1, (3 ∷ 3 ∷ [])), ((22 ∷ 0 ∷ 19 ∷ 1 ∷ []), 0)) ∷  -- 0: principal type
    ((gives 1 1 1, (1 ∷ 2 ∷ [])), ((21 ∷ 20 ∷ 3 ∷ []), 1)) ∷  -- 1: context a.b.d
    ((gives 1 1 1, (1 ∷ 1 ∷ [])), ((21 ∷ 23 ∷ 3 ∷ []), 1)) ∷  -- 1: context a.b.c
    ((gives 1 1 1, (2 ∷ 16 ∷ [])), ((21 ∷ 12 ∷ 2 ∷ []), 1)) ∷  -- 1: context a.b
    ((gives 0 2 0, (9 ∷ 9 ∷ [])), ((21 ∷ 26 ∷ 3 ∷ []), 1)) ∷  -- 1: context a.b.e
    ((gives 1 1 1, (1 ∷ 2 ∷ [])), ((22 ∷ 0 ∷ 20 ∷ 3 ∷ []), 1)) ∷  -- 1: principal a.b.d
    ((gives 1 1 1, (1 ∷ 1 ∷ [])), ((22 ∷ 0 ∷ 23 ∷ 3 ∷ []), 1)) ∷  -- 1: principal a.b.c
    ((gives 1 1 1, (2 ∷ 16 ∷ [])), ((22 ∷ 0 ∷ 12 ∷ 2 ∷ []), 1)) ∷  -- 1: principal a.b
    ((gives 1 1 1, (2 ∷ 19 ∷ [])), ((22 ∷ 0 ∷ 19 ∷ 1 ∷ []), 1)) ∷  -- 1: principal type
    ((gives 1 1 1, (1 ∷ 3 ∷ [])), ((22 ∷ 0 ∷ 29 ∷ 2 ∷ []), 1)) ∷  -- 1: principal type.a
    ((gives 1 1 1, (3 ∷ 18 ∷ [])), ((22 ∷ 0 ∷ 16 ∷ 1 ∷ []), 1)) ∷  -- 1: principal id
    ((gives 1 1 1, (2 ∷ 21 ∷ [])), ((22 ∷ 1 ∷ 16 ∷ 1 ∷ []), 1)) ∷  -- 1: resource id
    ((gives 0 2 0, (9 ∷ 9 ∷ [])), ((22 ∷ 1 ∷ 17 ∷ 2 ∷ []), 1)) ∷  -- 1: resource id.a
    ((gives 1 1 1, (1 ∷ 1 ∷ [])), ((21 ∷ 14 ∷ 1 ∷ []), 2)) ∷  -- 2: context a
    ((gives 1 1 1, (1 ∷ 2 ∷ [])), ((21 ∷ 12 ∷ 2 ∷ []), 2)) ∷  -- 2: context a.b
    ((gives 0 2 0, (9 ∷ 9 ∷ [])), ((21 ∷ 31 ∷ 2 ∷ []), 2)) ∷  -- 2: context b.c
    ((gives 0 2 0, (9 ∷ 9 ∷ [])), ((21 ∷ 33 ∷ 2 ∷ []), 2)) ∷  -- 2: context b . ""
    ((gives 1 1 1, (2 ∷ 25 ∷ [])), ((21 ∷ 15 ∷ 1 ∷ []), 2)) ∷  -- 2: context b
    ((gives 1 1 1, (1 ∷ 4 ∷ [])), ((21 ∷ 35 ∷ 2 ∷ []), 2)) ∷  -- 2: context c.a
    ((gives 0 2 0, (9 ∷ 9 ∷ [])), ((21 ∷ 23 ∷ 3 ∷ []), 2)) ∷  -- 2: context a.b.c
    ((gives 1 1 1, (3 ∷ 18 ∷ [])), ((22 ∷ 0 ∷ 16 ∷ 1 ∷ []), 2)) ∷  -- 2: principal id
    ((gives 1 1 1, (1 ∷ 6 ∷ [])), ((21 ∷ 37 ∷ 2 ∷ []), 3)) ∷  -- 3: context "" . q
    ((gives 1 1 1, (1 ∷ 8 ∷ [])), ((21 ∷ 39 ∷ 2 ∷ []), 3)) ∷  -- 3: context e . ""
    ((gives 1 1 1, (2 ∷ 29 ∷ [])), ((21 ∷ 41 ∷ 1 ∷ []), 3)) ∷  -- 3: context ""
    ((gives 0 2 0, (9 ∷ 9 ∷ [])), ((21 ∷ 42 ∷ 1 ∷ []), 3)) ∷  -- 3: context q
    ((gives 0 2 0, (9 ∷ 9 ∷ [])), ((21 ∷ 43 ∷ 2 ∷ []), 3)) ∷  -- 3: context "" . ""
    ((gives 1 1 1, (1 ∷ 5 ∷ [])), ((21 ∷ 37 ∷ 2 ∷ []), 4)) ∷  -- 4: context "" . q
    ((gives 1 1 1, (1 ∷ 7 ∷ [])), ((21 ∷ 39 ∷ 2 ∷ []), 4)) ∷  -- 4: context e . ""
    ((gives 1 1 1, (2 ∷ 29 ∷ [])), ((21 ∷ 41 ∷ 1 ∷ []), 4)) ∷  -- 4: context ""
    ((gives 1 1 1, (1 ∷ 1 ∷ [])), ((21 ∷ 42 ∷ 1 ∷ []), 4)) ∷  -- 4: context q
    ((gives 1 1 1, (1 ∷ 3 ∷ [])), ((21 ∷ 23 ∷ 3 ∷ []), 5)) ∷  -- 5: context a.b.c
    ((gives 1 1 1, (2 ∷ 24 ∷ [])), ((21 ∷ 12 ∷ 2 ∷ []), 5)) ∷  -- 5: context a.b
    ((gives 1 1 1, (1 ∷ 2 ∷ [])), ((21 ∷ 23 ∷ 3 ∷ []), 6)) ∷  -- 6: context a.b.c
    ((gives 1 1 1, (1 ∷ 5 ∷ [])), ((21 ∷ 20 ∷ 3 ∷ []), 6)) ∷  -- 6: context a.b.d
    ((gives 1 1 1, (2 ∷ 37 ∷ [])), ((21 ∷ 12 ∷ 2 ∷ []), 6)) ∷  -- 6: context a.b
    []

given-are : got (λ e. rows (with_nodes ((23 ∷ []) ∷ e.0 ∷ (8 ∷ 4 ∷ 0 ∷ 1 ∷ []) ∷ [])) 2 e.1 free (0 ∷ []) 2) given ≡ wanted given
unfolding all with_nodes given free
given-are = refl

-- E13: context.a.b == 2; and logged fields by plain descent: A(a.b: _) where {"a.b": 7} was logged, and where {a: {b: 7}} was
answers : List (Said Answer × (List (List ℕ) × ℕ))
answers =
    (gives (verdict true) 1 0, (((21 ∷ 12 ∷ 2 ∷ []) ∷ (20 ∷ 0 ∷ []) ∷ (8 ∷ 4 ∷ 0 ∷ 1 ∷ []) ∷ []), 0)) ∷
    (gives (verdict false) 1 0, (((24 ∷ []) ∷ (7 ∷ 0 ∷ 0 ∷ 2 ∷ 16 ∷ 45 ∷ 1 ∷ []) ∷ []), 0)) ∷
    (gives (verdict true) 1 0, (((24 ∷ []) ∷ (7 ∷ 0 ∷ 0 ∷ 2 ∷ 16 ∷ 45 ∷ 1 ∷ []) ∷ []), 1)) ∷
    []

answers-are : got (λ e. answer (with_nodes e.0) (0 + length e.0 - 1) e.1 free) answers ≡ wanted answers
unfolding all with_nodes answers free
answers-are = refl

-- a path's own name with a dot is refused still (6), and the dots in context and attributes before it are not
path-name : (checked (with_nodes ((21 ∷ 48 ∷ 1 ∷ []) ∷ [])) ≡ 6) × (checked (with_nodes ((21 ∷ 12 ∷ 2 ∷ []) ∷ [])) ≡ 0)
unfolding all with_nodes
path-name = (refl, refl)
