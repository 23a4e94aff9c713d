-- Refusal 4: values, members and depth. Each file with the check's refusal, 0 where it passes
use Rattle.std.specs.Prelude.{◌≡◌, refl, List, [], ◌∷◌, ℕ}
use Rattle.meaning.specs.Check.{depth}
use Rattle.meaning.specs.Written.{table, file}
use Rattle.rule_examples.specs.Asked.{all, wanted, got, checked}

-- a file with strings "a" and "b", these values (kind, a, b, c) and members (name, value)
values_of : List (List ℕ) × List (List ℕ) → List ℕ
values_of e = file 0 ((0 ∷ 1 ∷ 1 ∷ 1 ∷ []) ∷ table 4 e.0 ∷ table 2 e.1 ∷ [] ∷ [] ∷ [] ∷ []) (97 ∷ 98 ∷ [])

values : List (ℕ × (List (List ℕ) × List (List ℕ)))
values =
    (0, (((0 ∷ []) ∷ []), [])) ∷  -- Null
    (4, (((0 ∷ 1 ∷ []) ∷ []), [])) ∷  -- Null with a word used
    (4, (((0 ∷ 0 ∷ 1 ∷ []) ∷ []), [])) ∷  -- Null with a word used
    (4, (((0 ∷ 0 ∷ 0 ∷ 1 ∷ []) ∷ []), [])) ∷  -- Null with a word used
    (0, (((1 ∷ 0 ∷ []) ∷ []), [])) ∷  -- false
    (0, (((1 ∷ 1 ∷ []) ∷ []), [])) ∷  -- true
    (4, (((1 ∷ 2 ∷ []) ∷ []), [])) ∷  -- a Bool of 2
    (4, (((1 ∷ 1 ∷ 1 ∷ []) ∷ []), [])) ∷  -- a Bool with a word used
    (4, (((1 ∷ 1 ∷ 0 ∷ 1 ∷ []) ∷ []), [])) ∷  -- a Bool with a word used
    (0, (((2 ∷ 4294967295 ∷ 4294967295 ∷ []) ∷ []), [])) ∷  -- an Int of all bits
    (4, (((2 ∷ 0 ∷ 0 ∷ 1 ∷ []) ∷ []), [])) ∷  -- an Int with a word used
    (0, (((3 ∷ 1 ∷ []) ∷ []), [])) ∷  -- a Decimal of the last string
    (4, (((3 ∷ 2 ∷ []) ∷ []), [])) ∷  -- a Decimal of no string
    (4, (((3 ∷ 0 ∷ 1 ∷ []) ∷ []), [])) ∷  -- a Decimal with a word used
    (4, (((3 ∷ 0 ∷ 0 ∷ 1 ∷ []) ∷ []), [])) ∷  -- a Decimal with a word used
    (0, (((4 ∷ 1 ∷ []) ∷ []), [])) ∷  -- a String of the last string
    (4, (((4 ∷ 2 ∷ []) ∷ []), [])) ∷  -- a String of no string
    (4, (((4 ∷ 0 ∷ 1 ∷ []) ∷ []), [])) ∷  -- a String with a word used
    (4, (((4 ∷ 0 ∷ 0 ∷ 1 ∷ []) ∷ []), [])) ∷  -- a String with a word used
    (0, (((5 ∷ 1 ∷ 1 ∷ []) ∷ []), [])) ∷  -- an Entity
    (4, (((5 ∷ 2 ∷ 0 ∷ []) ∷ []), [])) ∷  -- an Entity whose type is no string
    (4, (((5 ∷ 0 ∷ 2 ∷ []) ∷ []), [])) ∷  -- an Entity whose id is no string
    (4, (((5 ∷ 0 ∷ 0 ∷ 1 ∷ []) ∷ []), [])) ∷  -- an Entity with a word used
    (4, (((8 ∷ []) ∷ []), [])) ∷  -- no kind
    (4, (((0 ∷ []) ∷ (8 ∷ []) ∷ []), [])) ∷  -- the last of no kind
    (4, (((8 ∷ []) ∷ (0 ∷ []) ∷ []), [])) ∷  -- the first of no kind
    (0, (((0 ∷ []) ∷ (6 ∷ 0 ∷ 1 ∷ []) ∷ []), ((4294967295 ∷ 0 ∷ []) ∷ []))) ∷  -- an Array
    (0, (((0 ∷ []) ∷ (6 ∷ 0 ∷ 2 ∷ []) ∷ []), ((4294967295 ∷ 0 ∷ []) ∷ (4294967295 ∷ 0 ∷ []) ∷ []))) ∷  -- an Array of the same twice
    (4, (((0 ∷ []) ∷ (6 ∷ 0 ∷ 1 ∷ 1 ∷ []) ∷ []), ((4294967295 ∷ 0 ∷ []) ∷ []))) ∷  -- an Array with a word used
    (4, (((0 ∷ []) ∷ (6 ∷ 1 ∷ 1 ∷ []) ∷ []), ((4294967295 ∷ 0 ∷ []) ∷ []))) ∷  -- an Array past the members
    (0, (((0 ∷ []) ∷ (6 ∷ 1 ∷ 0 ∷ []) ∷ []), ((4294967295 ∷ 0 ∷ []) ∷ []))) ∷  -- an empty Array at the end
    (4, (((0 ∷ []) ∷ (6 ∷ 2 ∷ 0 ∷ []) ∷ []), ((4294967295 ∷ 0 ∷ []) ∷ []))) ∷  -- an empty Array past the members
    (4, (((0 ∷ []) ∷ (6 ∷ 0 ∷ 1 ∷ []) ∷ []), ((0 ∷ 0 ∷ []) ∷ []))) ∷  -- an Array item with a name
    (4, (((0 ∷ []) ∷ (6 ∷ 0 ∷ 2 ∷ []) ∷ []), ((4294967295 ∷ 0 ∷ []) ∷ (0 ∷ 0 ∷ []) ∷ []))) ∷  -- the second item with a name
    (4, (((0 ∷ []) ∷ (6 ∷ 0 ∷ 2 ∷ []) ∷ []), ((0 ∷ 0 ∷ []) ∷ (4294967295 ∷ 0 ∷ []) ∷ []))) ∷  -- the first item with a name
    (4, (((6 ∷ 0 ∷ 1 ∷ []) ∷ []), ((4294967295 ∷ 0 ∷ []) ∷ []))) ∷  -- an Array in itself
    (4, (((6 ∷ 0 ∷ 1 ∷ []) ∷ (0 ∷ []) ∷ []), ((4294967295 ∷ 1 ∷ []) ∷ []))) ∷  -- an Array of a later value
    (4, (((0 ∷ []) ∷ (6 ∷ 0 ∷ 2 ∷ []) ∷ []), ((4294967295 ∷ 0 ∷ []) ∷ (4294967295 ∷ 1 ∷ []) ∷ []))) ∷  -- the second item is itself
    (0, (((0 ∷ []) ∷ (7 ∷ 0 ∷ 2 ∷ []) ∷ []), ((0 ∷ 0 ∷ []) ∷ (1 ∷ 0 ∷ []) ∷ []))) ∷  -- an Object
    (4, (((0 ∷ []) ∷ (7 ∷ 0 ∷ 2 ∷ 1 ∷ []) ∷ []), ((0 ∷ 0 ∷ []) ∷ (1 ∷ 0 ∷ []) ∷ []))) ∷  -- an Object with a word used
    (4, (((0 ∷ []) ∷ (7 ∷ 1 ∷ 2 ∷ []) ∷ []), ((0 ∷ 0 ∷ []) ∷ (1 ∷ 0 ∷ []) ∷ []))) ∷  -- an Object past the members
    (0, (((0 ∷ []) ∷ (7 ∷ 2 ∷ 0 ∷ []) ∷ []), ((0 ∷ 0 ∷ []) ∷ (1 ∷ 0 ∷ []) ∷ []))) ∷  -- an empty Object at the end
    (4, (((0 ∷ []) ∷ (7 ∷ 3 ∷ 0 ∷ []) ∷ []), ((0 ∷ 0 ∷ []) ∷ (1 ∷ 0 ∷ []) ∷ []))) ∷  -- an empty Object past the members
    (4, (((0 ∷ []) ∷ (7 ∷ 0 ∷ 1 ∷ []) ∷ []), ((4294967295 ∷ 0 ∷ []) ∷ []))) ∷  -- an Object member without a name
    (4, (((0 ∷ []) ∷ (7 ∷ 0 ∷ 2 ∷ []) ∷ []), ((0 ∷ 0 ∷ []) ∷ (0 ∷ 0 ∷ []) ∷ []))) ∷  -- names repeat
    (4, (((0 ∷ []) ∷ (7 ∷ 0 ∷ 2 ∷ []) ∷ []), ((1 ∷ 0 ∷ []) ∷ (0 ∷ 0 ∷ []) ∷ []))) ∷  -- names fall
    (0, (((0 ∷ []) ∷ (7 ∷ 1 ∷ 2 ∷ []) ∷ []), ((1 ∷ 0 ∷ []) ∷ (0 ∷ 0 ∷ []) ∷ (1 ∷ 0 ∷ []) ∷ []))) ∷  -- an Object from the second member on
    (0, (((0 ∷ []) ∷ (7 ∷ 2 ∷ 1 ∷ []) ∷ (7 ∷ 0 ∷ 1 ∷ []) ∷ []), ((1 ∷ 1 ∷ []) ∷ (0 ∷ 0 ∷ []) ∷ (0 ∷ 0 ∷ []) ∷ []))) ∷  -- values fall while names rise
    (0, (((0 ∷ []) ∷ (0 ∷ []) ∷ (7 ∷ 0 ∷ 2 ∷ []) ∷ []), ((0 ∷ 1 ∷ []) ∷ (1 ∷ 0 ∷ []) ∷ []))) ∷  -- names rise while values fall
    (4, (((7 ∷ 0 ∷ 1 ∷ []) ∷ []), ((0 ∷ 0 ∷ []) ∷ []))) ∷  -- an Object in itself
    (4, (((7 ∷ 0 ∷ 1 ∷ []) ∷ (0 ∷ []) ∷ []), ((0 ∷ 1 ∷ []) ∷ []))) ∷  -- an Object of a later value
    (4, (((0 ∷ []) ∷ (7 ∷ 0 ∷ 2 ∷ []) ∷ []), ((0 ∷ 0 ∷ []) ∷ (1 ∷ 1 ∷ []) ∷ []))) ∷  -- the second member is itself
    (0, (((0 ∷ []) ∷ []), ((1 ∷ 0 ∷ []) ∷ []))) ∷  -- a member nobody uses
    (4, (((0 ∷ []) ∷ []), ((2 ∷ 0 ∷ []) ∷ []))) ∷  -- a member nobody uses, of no string
    (0, (((0 ∷ []) ∷ []), ((4294967295 ∷ 0 ∷ []) ∷ []))) ∷  -- a member nobody uses, without a name
    (0, (((0 ∷ []) ∷ (0 ∷ []) ∷ []), ((4294967295 ∷ 1 ∷ []) ∷ []))) ∷  -- a member nobody uses, of the last value
    (4, (((0 ∷ []) ∷ (0 ∷ []) ∷ []), ((4294967295 ∷ 2 ∷ []) ∷ []))) ∷  -- a member nobody uses, of no value
    (4, (((0 ∷ []) ∷ []), ((4294967295 ∷ 0 ∷ []) ∷ (2 ∷ 0 ∷ []) ∷ []))) ∷  -- the last member of no string
    (4, (((0 ∷ []) ∷ []), ((2 ∷ 0 ∷ []) ∷ (4294967295 ∷ 0 ∷ []) ∷ []))) ∷  -- the first member of no string
    (4, (((0 ∷ []) ∷ []), ((4294967294 ∷ 0 ∷ []) ∷ []))) ∷  -- one below none
    (0, (((0 ∷ []) ∷ (7 ∷ 0 ∷ 1 ∷ []) ∷ (6 ∷ 1 ∷ 2 ∷ []) ∷ (6 ∷ 0 ∷ 0 ∷ []) ∷ []), ((0 ∷ 0 ∷ []) ∷ (4294967295 ∷ 1 ∷ []) ∷ (4294967295 ∷ 0 ∷ []) ∷ []))) ∷  -- an Array of an Object and Null
    []

values-are : got (λ e. checked (values_of e)) values ≡ wanted values
unfolding all values values_of
values-are = refl

-- the deeper of two parts counts, the first or the second; an Entity has none
depths :
    (depth (values_of (((0 ∷ []) ∷ (6 ∷ 0 ∷ 1 ∷ []) ∷ (6 ∷ 1 ∷ 2 ∷ []) ∷ []), ((4294967295 ∷ 0 ∷ []) ∷ (4294967295 ∷ 1 ∷ []) ∷ (4294967295 ∷ 0 ∷ []) ∷ []))) 2 ∷
    depth (values_of (((0 ∷ []) ∷ (6 ∷ 0 ∷ 1 ∷ []) ∷ (6 ∷ 1 ∷ 2 ∷ []) ∷ []), ((4294967295 ∷ 0 ∷ []) ∷ (4294967295 ∷ 0 ∷ []) ∷ (4294967295 ∷ 1 ∷ []) ∷ []))) 2 ∷
    depth (values_of (((0 ∷ []) ∷ (5 ∷ 0 ∷ 1 ∷ []) ∷ []), ((4294967295 ∷ 0 ∷ []) ∷ []))) 1 ∷
    []) ≡ (3 ∷ 3 ∷ 1 ∷ [])
unfolding all values_of
depths = refl
