-- Refusal 5: points and entities; names with dots pass. Each file with the check's refusal, 0 where it passes
use Rattle.std.specs.Prelude.{◌≡◌, refl, List, [], ◌∷◌, ℕ}
use Rattle.meaning.specs.Written.{table, file}
use Rattle.rule_examples.specs.Asked.{all, wanted, got, checked}

-- a, a.b, b, q"
text : List ℕ
text = 97 ∷ 97 ∷ 46 ∷ 98 ∷ 98 ∷ 113 ∷ 34 ∷ []

strings : List (List ℕ)
strings = (0 ∷ 1 ∷ []) ∷ (1 ∷ 3 ∷ []) ∷ (4 ∷ 1 ∷ []) ∷ (5 ∷ 2 ∷ []) ∷ []

values : List (List ℕ)
values =
    (0 ∷ []) ∷  -- 0: Null
    (7 ∷ 0 ∷ 0 ∷ []) ∷  -- 1: {}
    (7 ∷ 0 ∷ 2 ∷ []) ∷  -- 2: {a: Null, b: {}}
    (7 ∷ 2 ∷ 1 ∷ []) ∷  -- 3: {"a.b": Null}
    (7 ∷ 4 ∷ 2 ∷ []) ∷  -- 4: {a: Null, "a.b": Null}
    (7 ∷ 6 ∷ 1 ∷ []) ∷  -- 5: {a: {"a.b": Null}}
    (6 ∷ 3 ∷ 1 ∷ []) ∷  -- 6: [{"a.b": Null}]
    (7 ∷ 7 ∷ 2 ∷ []) ∷  -- 7: {a: Null, b: [{"a.b": Null}]}
    (6 ∷ 0 ∷ 0 ∷ []) ∷  -- 8: []
    (6 ∷ 9 ∷ 4 ∷ []) ∷  -- 9: [Null, Null, Null, {"a.b": Null}]
    (7 ∷ 13 ∷ 1 ∷ []) ∷  -- 10: {a: [Null, Null, Null, {"a.b": Null}]}
    []

-- name and value
members : List (List ℕ)
members =
    (0 ∷ 0 ∷ []) ∷ (2 ∷ 1 ∷ []) ∷ (1 ∷ 0 ∷ []) ∷ (4294967295 ∷ 3 ∷ []) ∷ (0 ∷ 0 ∷ []) ∷ (1 ∷ 0 ∷ []) ∷ (0 ∷ 3 ∷ [])
    ∷ (0 ∷ 0 ∷ []) ∷ (2 ∷ 6 ∷ []) ∷ (4294967295 ∷ 0 ∷ []) ∷ (4294967295 ∷ 0 ∷ []) ∷ (4294967295 ∷ 0 ∷ []) ∷ (4294967295 ∷ 3 ∷ []) ∷ (0 ∷ 9 ∷ []) ∷ []

-- a file with these points and lists
points_of : List (List ℕ) × List ℕ → List ℕ
unfolding text strings values members
points_of e = file 0 (table 2 strings ∷ table 4 values ∷ table 2 members ∷ table 12 e.0 ∷ [] ∷ e.1 ∷ []) text

-- lists: a namespace of two names, then entities a::"b" {} and b::"a" {a: Null, b: {}}
lists : List ℕ
lists = 1 ∷ 3 ∷ 0 ∷ 2 ∷ 1 ∷ 2 ∷ 0 ∷ 2 ∷ []

-- points: time low, high, namespace run, action, kind, logged, context, principal, resource, entities run
points : List (ℕ × List ℕ)
points =
    (0, (4294967295 ∷ 4294967295 ∷ 0 ∷ 2 ∷ 1 ∷ 3 ∷ 3 ∷ 2 ∷ 4 ∷ 4294967295 ∷ 2 ∷ 2 ∷ [])) ∷  -- a point
    (5, (4294967295 ∷ 4294967295 ∷ 7 ∷ 2 ∷ 1 ∷ 3 ∷ 3 ∷ 2 ∷ 4 ∷ 4294967295 ∷ 2 ∷ 2 ∷ [])) ∷  -- a namespace past the lists
    (0, (4294967295 ∷ 4294967295 ∷ 8 ∷ 0 ∷ 1 ∷ 3 ∷ 3 ∷ 2 ∷ 4 ∷ 4294967295 ∷ 2 ∷ 2 ∷ [])) ∷  -- an empty namespace at the end
    (5, (4294967295 ∷ 4294967295 ∷ 9 ∷ 0 ∷ 1 ∷ 3 ∷ 3 ∷ 2 ∷ 4 ∷ 4294967295 ∷ 2 ∷ 2 ∷ [])) ∷  -- an empty namespace past the lists
    (5, (4294967295 ∷ 4294967295 ∷ 0 ∷ 2 ∷ 4 ∷ 3 ∷ 3 ∷ 2 ∷ 4 ∷ 4294967295 ∷ 2 ∷ 2 ∷ [])) ∷  -- an action that is no string
    (0, (4294967295 ∷ 4294967295 ∷ 0 ∷ 2 ∷ 3 ∷ 3 ∷ 3 ∷ 2 ∷ 4 ∷ 4294967295 ∷ 2 ∷ 2 ∷ [])) ∷  -- an action of the last string
    (5, (4294967295 ∷ 4294967295 ∷ 0 ∷ 2 ∷ 1 ∷ 4 ∷ 3 ∷ 2 ∷ 4 ∷ 4294967295 ∷ 2 ∷ 2 ∷ [])) ∷  -- a kind that is no string
    (0, (4294967295 ∷ 4294967295 ∷ 0 ∷ 2 ∷ 1 ∷ 3 ∷ 1 ∷ 2 ∷ 4 ∷ 4294967295 ∷ 2 ∷ 2 ∷ [])) ∷  -- logged empty
    (0, (4294967295 ∷ 4294967295 ∷ 0 ∷ 2 ∷ 1 ∷ 3 ∷ 7 ∷ 2 ∷ 4 ∷ 4294967295 ∷ 2 ∷ 2 ∷ [])) ∷  -- logged with a dot inside
    (5, (4294967295 ∷ 4294967295 ∷ 0 ∷ 2 ∷ 1 ∷ 3 ∷ 11 ∷ 2 ∷ 4 ∷ 4294967295 ∷ 2 ∷ 2 ∷ [])) ∷  -- logged that is no value
    (5, (4294967295 ∷ 4294967295 ∷ 0 ∷ 2 ∷ 1 ∷ 3 ∷ 0 ∷ 2 ∷ 4 ∷ 4294967295 ∷ 2 ∷ 2 ∷ [])) ∷  -- logged Null
    (5, (4294967295 ∷ 4294967295 ∷ 0 ∷ 2 ∷ 1 ∷ 3 ∷ 8 ∷ 2 ∷ 4 ∷ 4294967295 ∷ 2 ∷ 2 ∷ [])) ∷  -- logged an Array
    (5, (4294967295 ∷ 4294967295 ∷ 0 ∷ 2 ∷ 1 ∷ 3 ∷ 4294967295 ∷ 2 ∷ 4 ∷ 4294967295 ∷ 2 ∷ 2 ∷ [])) ∷  -- logged none
    (0, (4294967295 ∷ 4294967295 ∷ 0 ∷ 2 ∷ 1 ∷ 3 ∷ 3 ∷ 1 ∷ 4 ∷ 4294967295 ∷ 2 ∷ 2 ∷ [])) ∷  -- context empty
    (5, (4294967295 ∷ 4294967295 ∷ 0 ∷ 2 ∷ 1 ∷ 3 ∷ 3 ∷ 11 ∷ 4 ∷ 4294967295 ∷ 2 ∷ 2 ∷ [])) ∷  -- context that is no value
    (5, (4294967295 ∷ 4294967295 ∷ 0 ∷ 2 ∷ 1 ∷ 3 ∷ 3 ∷ 0 ∷ 4 ∷ 4294967295 ∷ 2 ∷ 2 ∷ [])) ∷  -- context Null
    (5, (4294967295 ∷ 4294967295 ∷ 0 ∷ 2 ∷ 1 ∷ 3 ∷ 3 ∷ 8 ∷ 4 ∷ 4294967295 ∷ 2 ∷ 2 ∷ [])) ∷  -- context an Array
    (0, (4294967295 ∷ 4294967295 ∷ 0 ∷ 2 ∷ 1 ∷ 3 ∷ 3 ∷ 3 ∷ 4 ∷ 4294967295 ∷ 2 ∷ 2 ∷ [])) ∷  -- context with a dot
    (0, (4294967295 ∷ 4294967295 ∷ 0 ∷ 2 ∷ 1 ∷ 3 ∷ 3 ∷ 4 ∷ 4 ∷ 4294967295 ∷ 2 ∷ 2 ∷ [])) ∷  -- context with a dot in its second name
    (0, (4294967295 ∷ 4294967295 ∷ 0 ∷ 2 ∷ 1 ∷ 3 ∷ 3 ∷ 5 ∷ 4 ∷ 4294967295 ∷ 2 ∷ 2 ∷ [])) ∷  -- context with a dot one below
    (0, (4294967295 ∷ 4294967295 ∷ 0 ∷ 2 ∷ 1 ∷ 3 ∷ 3 ∷ 7 ∷ 4 ∷ 4294967295 ∷ 2 ∷ 2 ∷ [])) ∷  -- context with a dot under an Array
    (0, (4294967295 ∷ 4294967295 ∷ 0 ∷ 2 ∷ 1 ∷ 3 ∷ 3 ∷ 10 ∷ 4 ∷ 4294967295 ∷ 2 ∷ 2 ∷ [])) ∷  -- context with a dot in the last of four items
    (0, (4294967295 ∷ 4294967295 ∷ 0 ∷ 2 ∷ 1 ∷ 3 ∷ 3 ∷ 2 ∷ 10 ∷ 4294967295 ∷ 2 ∷ 2 ∷ [])) ∷  -- a principal of the last value
    (5, (4294967295 ∷ 4294967295 ∷ 0 ∷ 2 ∷ 1 ∷ 3 ∷ 3 ∷ 2 ∷ 11 ∷ 4294967295 ∷ 2 ∷ 2 ∷ [])) ∷  -- a principal that is no value
    (0, (4294967295 ∷ 4294967295 ∷ 0 ∷ 2 ∷ 1 ∷ 3 ∷ 3 ∷ 2 ∷ 4294967295 ∷ 4294967295 ∷ 2 ∷ 2 ∷ [])) ∷  -- no principal
    (5, (4294967295 ∷ 4294967295 ∷ 0 ∷ 2 ∷ 1 ∷ 3 ∷ 3 ∷ 2 ∷ 4294967294 ∷ 4294967295 ∷ 2 ∷ 2 ∷ [])) ∷  -- a principal one below none
    (0, (4294967295 ∷ 4294967295 ∷ 0 ∷ 2 ∷ 1 ∷ 3 ∷ 3 ∷ 2 ∷ 4 ∷ 10 ∷ 2 ∷ 2 ∷ [])) ∷  -- a resource of the last value
    (5, (4294967295 ∷ 4294967295 ∷ 0 ∷ 2 ∷ 1 ∷ 3 ∷ 3 ∷ 2 ∷ 4 ∷ 11 ∷ 2 ∷ 2 ∷ [])) ∷  -- a resource that is no value
    (0, (4294967295 ∷ 4294967295 ∷ 0 ∷ 2 ∷ 1 ∷ 3 ∷ 3 ∷ 2 ∷ 4 ∷ 4294967295 ∷ 2 ∷ 2 ∷ [])) ∷  -- no resource
    (5, (4294967295 ∷ 4294967295 ∷ 0 ∷ 2 ∷ 1 ∷ 3 ∷ 3 ∷ 2 ∷ 4 ∷ 4294967294 ∷ 2 ∷ 2 ∷ [])) ∷  -- a resource one below none
    (0, (4294967295 ∷ 4294967295 ∷ 0 ∷ 2 ∷ 1 ∷ 3 ∷ 3 ∷ 2 ∷ 4 ∷ 4294967295 ∷ 8 ∷ 0 ∷ [])) ∷  -- no entities at the end
    (5, (4294967295 ∷ 4294967295 ∷ 0 ∷ 2 ∷ 1 ∷ 3 ∷ 3 ∷ 2 ∷ 4 ∷ 4294967295 ∷ 9 ∷ 0 ∷ [])) ∷  -- no entities past the lists
    (5, (4294967295 ∷ 4294967295 ∷ 0 ∷ 2 ∷ 1 ∷ 3 ∷ 3 ∷ 2 ∷ 4 ∷ 4294967295 ∷ 6 ∷ 1 ∷ [])) ∷  -- an entity past the lists
    (5, (4294967295 ∷ 4294967295 ∷ 0 ∷ 2 ∷ 1 ∷ 3 ∷ 3 ∷ 2 ∷ 4 ∷ 4294967295 ∷ 2 ∷ 3 ∷ [])) ∷  -- entities past the lists
    []

points-are : got (λ p. checked (points_of (p ∷ [], lists))) points ≡ wanted points
unfolding all points points_of lists
points-are = refl

-- two points, the first or the second wrong
both : List (ℕ × List (List ℕ))
both =
    (0, ((4294967295 ∷ 4294967295 ∷ 0 ∷ 2 ∷ 1 ∷ 3 ∷ 3 ∷ 2 ∷ 4 ∷ 4294967295 ∷ 2 ∷ 2 ∷ []) ∷ (4294967295 ∷ 4294967295 ∷ 0 ∷ 2 ∷ 1 ∷ 3 ∷ 3 ∷ 2 ∷ 4 ∷ 4294967295 ∷ 2 ∷ 2 ∷ []) ∷ [])) ∷  -- both right
    (5, ((4294967295 ∷ 4294967295 ∷ 0 ∷ 2 ∷ 4 ∷ 3 ∷ 3 ∷ 2 ∷ 4 ∷ 4294967295 ∷ 2 ∷ 2 ∷ []) ∷ (4294967295 ∷ 4294967295 ∷ 0 ∷ 2 ∷ 1 ∷ 3 ∷ 3 ∷ 2 ∷ 4 ∷ 4294967295 ∷ 2 ∷ 2 ∷ []) ∷ [])) ∷  -- the first wrong
    (5, ((4294967295 ∷ 4294967295 ∷ 0 ∷ 2 ∷ 1 ∷ 3 ∷ 3 ∷ 2 ∷ 4 ∷ 4294967295 ∷ 2 ∷ 2 ∷ []) ∷ (4294967295 ∷ 4294967295 ∷ 0 ∷ 2 ∷ 4 ∷ 3 ∷ 3 ∷ 2 ∷ 4 ∷ 4294967295 ∷ 2 ∷ 2 ∷ []) ∷ [])) ∷  -- the second wrong
    []

both-are : got (λ ps. checked (points_of (ps, lists))) both ≡ wanted both
unfolding all both points_of lists
both-are = refl

-- lists under the first of these points
listed : List (ℕ × List ℕ)
listed =
    (5, (4 ∷ 3 ∷ 0 ∷ 2 ∷ 1 ∷ 2 ∷ 0 ∷ 2 ∷ [])) ∷  -- a namespace name that is no string
    (5, (1 ∷ 4 ∷ 0 ∷ 2 ∷ 1 ∷ 2 ∷ 0 ∷ 2 ∷ [])) ∷  -- a second namespace name that is no string
    (5, (1 ∷ 3 ∷ 4 ∷ 2 ∷ 1 ∷ 2 ∷ 0 ∷ 2 ∷ [])) ∷  -- a type that is no string
    (5, (1 ∷ 3 ∷ 0 ∷ 2 ∷ 1 ∷ 4 ∷ 0 ∷ 2 ∷ [])) ∷  -- a second type that is no string
    (5, (1 ∷ 3 ∷ 0 ∷ 4 ∷ 1 ∷ 2 ∷ 0 ∷ 2 ∷ [])) ∷  -- an id that is no string
    (5, (1 ∷ 3 ∷ 0 ∷ 2 ∷ 1 ∷ 2 ∷ 4 ∷ 2 ∷ [])) ∷  -- a second id that is no string
    (5, (1 ∷ 3 ∷ 0 ∷ 2 ∷ 1 ∷ 3 ∷ 0 ∷ 2 ∷ [])) ∷  -- a type with a quotation mark
    (0, (1 ∷ 3 ∷ 0 ∷ 2 ∷ 1 ∷ 2 ∷ 3 ∷ 2 ∷ [])) ∷  -- an id with a quotation mark
    (0, (1 ∷ 3 ∷ 1 ∷ 2 ∷ 1 ∷ 2 ∷ 0 ∷ 2 ∷ [])) ∷  -- a type with a dot
    (5, (1 ∷ 3 ∷ 0 ∷ 2 ∷ 11 ∷ 2 ∷ 0 ∷ 2 ∷ [])) ∷  -- attributes that are no value
    (5, (1 ∷ 3 ∷ 0 ∷ 2 ∷ 0 ∷ 2 ∷ 0 ∷ 2 ∷ [])) ∷  -- attributes Null
    (5, (1 ∷ 3 ∷ 0 ∷ 2 ∷ 8 ∷ 2 ∷ 0 ∷ 2 ∷ [])) ∷  -- attributes an Array
    (0, (1 ∷ 3 ∷ 0 ∷ 2 ∷ 3 ∷ 2 ∷ 0 ∷ 2 ∷ [])) ∷  -- attributes with a dot
    (0, (1 ∷ 3 ∷ 0 ∷ 2 ∷ 1 ∷ 2 ∷ 0 ∷ 5 ∷ [])) ∷  -- attributes with a dot one below
    (5, (1 ∷ 3 ∷ 0 ∷ 2 ∷ 1 ∷ 0 ∷ 2 ∷ 2 ∷ [])) ∷  -- the same entity twice
    (5, (1 ∷ 3 ∷ 0 ∷ 2 ∷ 1 ∷ 0 ∷ 0 ∷ 2 ∷ [])) ∷  -- ids fall
    (0, (1 ∷ 3 ∷ 0 ∷ 2 ∷ 1 ∷ 0 ∷ 3 ∷ 2 ∷ [])) ∷  -- ids rise under one type
    (5, (1 ∷ 3 ∷ 2 ∷ 2 ∷ 1 ∷ 0 ∷ 0 ∷ 2 ∷ [])) ∷  -- types fall
    (5, (1 ∷ 3 ∷ 2 ∷ 0 ∷ 1 ∷ 0 ∷ 3 ∷ 2 ∷ [])) ∷  -- types fall while ids rise
    (0, (1 ∷ 3 ∷ 0 ∷ 3 ∷ 1 ∷ 2 ∷ 0 ∷ 2 ∷ [])) ∷  -- types rise while ids fall
    []

listed-are : got (λ ls. checked (points_of ((4294967295 ∷ 4294967295 ∷ 0 ∷ 2 ∷ 1 ∷ 3 ∷ 3 ∷ 2 ∷ 4 ∷ 4294967295 ∷ 2 ∷ 2 ∷ []) ∷ [], ls))) listed ≡ wanted listed
unfolding all listed points_of
listed-are = refl

-- an entity's third word past the lists, which would read as value 0, an Object
past_the_lists :
    checked (file 0 (
    (0 ∷ 1 ∷ []) ∷ table 4 ((7 ∷ []) ∷ []) ∷ [] ∷ table 12 ((0 ∷ 0 ∷ 0 ∷ 0 ∷ 0 ∷ 0 ∷ 0 ∷ 0 ∷ 4294967295 ∷ 4294967295 ∷ 0 ∷ 1 ∷ []) ∷ []) ∷ [] ∷ (0 ∷ 0 ∷ []) ∷ []
    ) (97 ∷ [])) ≡ 5
unfolding all
past_the_lists = refl
