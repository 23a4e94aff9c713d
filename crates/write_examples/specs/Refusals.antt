-- What is refused of small unsorted cases, 0 where nothing is; in which order; and the marks that reading gives
use Rattle.std.specs.Prelude.{◌≡◌, refl, true, false, List, [], ◌∷◌, ℕ, ◌/◌, length}
use Rattle.std.proofs.Math.Option.{none}
use Rattle.meaning.specs.Case.{nothing}
use Rattle.meaning.specs.Check.{check}
use Rattle.meaning.specs.Written.{table}
use Rattle.encode.specs.Read.{read_marks, one_way}
use Rattle.write_examples.specs.Asked.{all, wanted, got, unsorted, wrote}

of_lists : List ℕ → List ℕ
of_lists words = unsorted 0 ([] ∷ [] ∷ [] ∷ [] ∷ [] ∷ words ∷ []) []

of_strings : List ℕ → List ℕ → List ℕ
of_strings strings text = unsorted 0 (strings ∷ [] ∷ [] ∷ [] ∷ [] ∷ [] ∷ []) text

-- strings b, a, b; Null, and an Object of these members
of_object : List ℕ → List ℕ
of_object members =
    unsorted 0 ((0 ∷ 1 ∷ 1 ∷ 1 ∷ 0 ∷ 1 ∷ []) ∷ (0 ∷ 0 ∷ 0 ∷ 0 ∷ 7 ∷ 0 ∷ length members / 2 ∷ 0 ∷ []) ∷ members ∷ [] ∷ [] ∷ [] ∷ []) (98 ∷ 97 ∷ [])

-- a point with these runs for namespace and entities, over one string and one empty Object
point : ℕ → ℕ → ℕ → ℕ → List ℕ
point n names e entities = 0 ∷ 0 ∷ n ∷ names ∷ 0 ∷ 0 ∷ 0 ∷ 0 ∷ nothing ∷ nothing ∷ e ∷ entities ∷ []

-- V is 1
over : List ℕ → List (List ℕ) → List ℕ → List ℕ
over points nodes lists = unsorted 1 ((0 ∷ 1 ∷ []) ∷ (7 ∷ 0 ∷ 0 ∷ 0 ∷ []) ∷ [] ∷ points ∷ table 8 nodes ∷ lists ∷ []) (97 ∷ [])

of_point : ℕ → ℕ → ℕ → ℕ → List ℕ → List ℕ
of_point n names e entities lists = over (point n names e entities) [] lists

of_nodes : List (List ℕ) → List ℕ → List ℕ
of_nodes nodes lists = over [] nodes lists

-- list word 0 is a point's namespace and a Count's binder
both_ways : List ℕ
both_ways = over (point 0 1 0 0) ((10 ∷ []) ∷ (31 ∷ 0 ∷ 1 ∷ []) ∷ []) (0 ∷ [])

-- an unsorted case and its marks, with room and output enough
cases : List (ℕ × (List ℕ × List ℕ))
cases =
    (1, ([], [])) ∷  -- nothing at all
    (1, (of_lists (0 ∷ []), [])) ∷  -- a list word without a mark
    (0, (of_lists (0 ∷ []), (0 ∷ []))) ∷  -- a mark for it
    (1, (of_lists (0 ∷ []), (0 ∷ 0 ∷ []))) ∷  -- a mark too many
    (1, (unsorted 0 ([] ∷ (1 ∷ []) ∷ [] ∷ [] ∷ [] ∷ [] ∷ []) [], [])) ∷  -- part of a record
    (2, (unsorted 17 ([] ∷ [] ∷ [] ∷ [] ∷ [] ∷ [] ∷ []) [], [])) ∷  -- V above 16
    (3, (of_strings (0 ∷ 1 ∷ 1 ∷ 2 ∷ []) (97 ∷ 98 ∷ []), [])) ∷  -- a string leaves text
    (0, (of_strings (1 ∷ 1 ∷ 0 ∷ 1 ∷ []) (97 ∷ 98 ∷ []), [])) ∷  -- strings in falling order
    (0, (of_strings (0 ∷ 1 ∷ 0 ∷ 1 ∷ []) (97 ∷ 98 ∷ []), [])) ∷  -- equal ones, and text that none covers
    (3, (of_strings (0 ∷ 1 ∷ []) (255 ∷ []), [])) ∷  -- no UTF-8
    (4, (of_object (3 ∷ 0 ∷ []), [])) ∷  -- a name that is no string's
    (0, (of_object (2 ∷ 0 ∷ []), [])) ∷  -- one that is
    (4, (of_object (0 ∷ 0 ∷ 1 ∷ 0 ∷ []), [])) ∷  -- names b, a: members are not sorted
    (0, (of_object (1 ∷ 0 ∷ 0 ∷ 0 ∷ []), [])) ∷  -- names a, b, under falling numbers
    (4, (of_object (0 ∷ 0 ∷ 2 ∷ 0 ∷ []), [])) ∷  -- two records of one name
    (0, (of_point 0 1 0 0 (0 ∷ []), (1 ∷ []))) ∷  -- a namespace, marked
    (5, (of_point 0 1 0 0 (0 ∷ []), (0 ∷ []))) ∷  -- not marked
    (0, (of_point 0 0 0 1 (0 ∷ 0 ∷ 0 ∷ []), (1 ∷ 1 ∷ 0 ∷ []))) ∷  -- an entity: type, id, attribute object
    (5, (of_point 0 0 0 1 (0 ∷ 0 ∷ 0 ∷ []), (0 ∷ 1 ∷ 0 ∷ []))) ∷  -- type not marked
    (5, (of_point 0 0 0 1 (0 ∷ 0 ∷ 0 ∷ []), (1 ∷ 0 ∷ 0 ∷ []))) ∷  -- id not marked
    (5, (of_point 0 0 0 1 (0 ∷ 0 ∷ 0 ∷ []), (1 ∷ 1 ∷ 1 ∷ []))) ∷  -- attribute object marked
    (0, (of_point 0 0 0 0 (0 ∷ 9 ∷ []), (1 ∷ 0 ∷ []))) ∷  -- places that nothing uses, marked either way
    (0, (of_nodes ((10 ∷ []) ∷ (31 ∷ 0 ∷ 1 ∷ []) ∷ []) (0 ∷ []), (0 ∷ []))) ∷  -- a binder
    (6, (of_nodes ((10 ∷ []) ∷ (31 ∷ 0 ∷ 1 ∷ []) ∷ []) (0 ∷ []), (1 ∷ []))) ∷  -- marked
    (6, (of_nodes ((10 ∷ []) ∷ (30 ∷ 0 ∷ 0 ∷ 1 ∷ []) ∷ []) (0 ∷ []), (1 ∷ []))) ∷  -- of a Sum, marked
    (0, (of_nodes ((21 ∷ 0 ∷ 1 ∷ []) ∷ []) (0 ∷ []), (1 ∷ []))) ∷  -- a context path
    (6, (of_nodes ((21 ∷ 0 ∷ 1 ∷ []) ∷ []) (0 ∷ []), (0 ∷ []))) ∷  -- not marked
    (6, (of_nodes ((22 ∷ 0 ∷ 0 ∷ 1 ∷ []) ∷ []) (0 ∷ []), (0 ∷ []))) ∷  -- a scope path, not marked
    (0, (of_nodes ((24 ∷ []) ∷ (7 ∷ 0 ∷ 1 ∷ 0 ∷ 0 ∷ 1 ∷ 1 ∷ []) ∷ []) (0 ∷ 0 ∷ 1 ∷ 0 ∷ []), (1 ∷ 0 ∷ 0 ∷ 0 ∷ []))) ∷  -- namespace and path of a Predicate, its argument
    (6, (of_nodes ((24 ∷ []) ∷ (7 ∷ 0 ∷ 0 ∷ 0 ∷ 0 ∷ 1 ∷ 1 ∷ []) ∷ []) (0 ∷ 0 ∷ 1 ∷ 0 ∷ []), (0 ∷ 0 ∷ 0 ∷ 0 ∷ []))) ∷  -- the path not marked
    (6, (of_nodes ((24 ∷ []) ∷ (7 ∷ 4 ∷ 1 ∷ 0 ∷ 0 ∷ 1 ∷ 1 ∷ []) ∷ []) (0 ∷ 0 ∷ 1 ∷ 0 ∷ 0 ∷ []), (1 ∷ 0 ∷ 0 ∷ 0 ∷ 0 ∷ []))) ∷  -- the namespace not marked
    (6, (of_nodes ((24 ∷ []) ∷ (7 ∷ 0 ∷ 1 ∷ 0 ∷ 0 ∷ 1 ∷ 1 ∷ []) ∷ []) (0 ∷ 0 ∷ 1 ∷ 0 ∷ []), (1 ∷ 1 ∷ 0 ∷ 0 ∷ []))) ∷  -- the argument's path marked
    (6, (of_nodes ((24 ∷ []) ∷ (7 ∷ 0 ∷ 1 ∷ 0 ∷ 0 ∷ 1 ∷ 1 ∷ []) ∷ []) (0 ∷ 0 ∷ 1 ∷ 0 ∷ []), (1 ∷ 0 ∷ 1 ∷ 0 ∷ []))) ∷  -- its count
    (6, (of_nodes ((24 ∷ []) ∷ (7 ∷ 0 ∷ 1 ∷ 0 ∷ 0 ∷ 1 ∷ 1 ∷ []) ∷ []) (0 ∷ 0 ∷ 1 ∷ 0 ∷ []), (1 ∷ 0 ∷ 0 ∷ 1 ∷ []))) ∷  -- its term
    (5, (both_ways, (0 ∷ []))) ∷  -- a namespace word that is a binder, not marked
    (6, (both_ways, (1 ∷ []))) ∷  -- marked
    []

refused : got (wrote 999 999) cases ≡ wanted cases
unfolding all table of_lists of_strings of_object point over of_point of_nodes both_ways cases
refused = refl

-- one string a, 73 bytes when finished: by the bytes of room and of output
lengths : List (ℕ × (ℕ × ℕ))
lengths =
    (0, (73, 73)) ∷  -- both of equal length
    (10, (72, 73)) ∷  -- room too short
    (14, (73, 72)) ∷  -- output too short
    (10, (72, 72)) ∷  -- both
    []

lengths-told : got (λ e. wrote e.0 e.1 (of_strings (0 ∷ 1 ∷ []) (97 ∷ []), [])) lengths ≡ wanted lengths
unfolding all of_strings lengths
lengths-told = refl

-- a broken node, one string of so many bytes in a text of one: by the bytes of room and of output
broken : ℕ → List ℕ
broken bytes = unsorted 0 ((0 ∷ bytes ∷ []) ∷ [] ∷ [] ∷ [] ∷ table 8 ((20 ∷ []) ∷ []) ∷ [] ∷ []) (97 ∷ [])

orders : List (ℕ × (ℕ × ℕ × ℕ))
orders =
    (10, (2, 72, 72)) ∷  -- the room before the string that leaves text
    (3, (2, 999, 72)) ∷  -- the string before the node
    (6, (1, 999, 72)) ∷  -- the node before the output
    []

orders-told : got (λ e. wrote e.1 e.2 (broken e.0, [])) orders ≡ wanted orders
unfolding all table broken orders
orders-told = refl

-- ---- the marks that reading gives

-- namespace, type, id and path; no attribute object, argument or binder, and no place that nothing uses
marks-read : read_marks (over (point 0 1 1 1) ((10 ∷ []) ∷ (31 ∷ 8 ∷ 1 ∷ []) ∷ (24 ∷ []) ∷ (7 ∷ 0 ∷ 1 ∷ 0 ∷ 0 ∷ 5 ∷ 1 ∷ []) ∷ []) (0 ∷ 0 ∷ 0 ∷ 0 ∷ 0 ∷ 4 ∷ 1 ∷ 2 ∷ 0 ∷ 0 ∷ [])) ≡ (1 ∷ 1 ∷ 1 ∷ 0 ∷ 1 ∷ 0 ∷ 0 ∷ 0 ∷ 0 ∷ 0 ∷ [])
unfolding all table point over
marks-read = refl

used_one_way : one_way (over (point 0 1 0 0) ((10 ∷ []) ∷ (31 ∷ 1 ∷ 1 ∷ []) ∷ []) (0 ∷ 0 ∷ [])) ≡ true
unfolding all table point over
used_one_way = refl

-- it passes the check all the same
checked-both_ways : check both_ways ≡ none
unfolding all table point over both_ways
checked-both_ways = refl

used_both_ways : one_way both_ways ≡ false
unfolding all table point over both_ways
used_both_ways = refl
