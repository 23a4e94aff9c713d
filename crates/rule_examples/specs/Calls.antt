-- The calls with all that is lent to them: answers, refusals 7 to 13, the workspace and the output after each
use Rattle.std.specs.Prelude.{◌≡◌, refl, true, false, List, [], ◌∷◌, ◌++◌, ℕ, replicate}
use Rattle.meaning.specs.Calls.{Call, Said, gives, refuses, Answer, verdict, number, check_call, ask_call, rows_call}
use Rattle.meaning.specs.Written.{table, file}
use Rattle.rule_examples.specs.Asked.{all, wanted, got}

-- strings, end to end
text : List ℕ
text =
    65 ∷  -- A
    114 ∷  -- r
    115 ∷  -- s
    []

-- start and length in text
strings : List (List ℕ)
strings =
    (0 ∷ 1 ∷ []) ∷  -- 0: A
    (1 ∷ 1 ∷ []) ∷  -- 1: r
    (2 ∷ 1 ∷ []) ∷  -- 2: s
    []

-- kind, a, b
values : List (List ℕ)
values =
    (7 ∷ []) ∷  -- 0: {}
    (2 ∷ 3 ∷ []) ∷  -- 1: 3
    (4 ∷ 2 ∷ []) ∷  -- 2: "s"
    []

-- name and value
members : List (List ℕ)
members = []

-- time low, high, namespace run, action, kind, logged, context, principal, resource, entities run
points : List (List ℕ)
points =
    (0 ∷ 0 ∷ 0 ∷ 0 ∷ 0 ∷ 1 ∷ 0 ∷ 0 ∷ 4294967295 ∷ 4294967295 ∷ []) ∷  -- 0: A {} at 0
    (1 ∷ 0 ∷ 0 ∷ 0 ∷ 0 ∷ 1 ∷ 0 ∷ 0 ∷ 4294967295 ∷ 4294967295 ∷ []) ∷  -- 1: A {} at 1
    []

-- nodes that stand in arguments: kind and operands
leaves : List (List ℕ)
leaves = []

lists : List ℕ
lists = []

-- the case with these nodes
with_nodes : List (List ℕ) → List ℕ
unfolding text strings values members points leaves lists
with_nodes nodes =
    file 2 (table 2 strings ∷ table 4 values ∷ table 2 members ∷ table 12 points ∷ table 8 (leaves ++ nodes) ∷ lists ∷ []) text

-- nodes, and what is lent: node, point, starting bindings, steps, room, workspace
call : List (List ℕ) → ℕ → ℕ → List ℕ → ℕ → ℕ → ℕ → Call
call nodes node point start steps room cells = record {
  file = with_nodes nodes;
  point = point;
  node = node;
  start = start;
  limits = record { steps = steps; room = room };
  workspace = replicate cells 7;
}

answers : List ((Said Answer × List ℕ) × Call)
unfolding call
answers =
    ((gives (verdict true) 1 0, (0 ∷ 0 ∷ 0 ∷ 0 ∷ [])), call ((10 ∷ []) ∷ []) 0 0 (0 ∷ 0 ∷ 0 ∷ 0 ∷ []) 100 1 4) ∷  -- answered: the workspace for one row cleared
    ((gives (verdict true) 1 0, (0 ∷ 0 ∷ 0 ∷ 0 ∷ 7 ∷ [])), call ((10 ∷ []) ∷ []) 0 0 (0 ∷ 0 ∷ 0 ∷ 0 ∷ []) 100 1 5) ∷  -- and no more of it
    ((gives (verdict true) 1 0, (7 ∷ 7 ∷ [])), call ((10 ∷ []) ∷ []) 0 0 (0 ∷ 0 ∷ 0 ∷ 0 ∷ []) 100 0 2) ∷  -- no room, none cleared
    ((gives (verdict true) 1 0, (0 ∷ 0 ∷ 0 ∷ 0 ∷ 0 ∷ 0 ∷ 0 ∷ 0 ∷ [])), call ((10 ∷ []) ∷ []) 0 0 (0 ∷ 0 ∷ 0 ∷ 0 ∷ []) 100 2 8) ∷  -- two rows
    ((gives (verdict true) 1 0, (0 ∷ 0 ∷ 0 ∷ 0 ∷ [])), call ((10 ∷ []) ∷ []) 0 1 (0 ∷ 0 ∷ 0 ∷ 0 ∷ []) 100 1 4) ∷  -- tp x
    ((refuses 7 0 0, (7 ∷ 7 ∷ 7 ∷ 7 ∷ [])), call ((10 ∷ []) ∷ []) 0 2 (0 ∷ 0 ∷ 0 ∷ 0 ∷ []) 100 1 4) ∷  -- no such point
    ((refuses 8 0 0, (7 ∷ 7 ∷ 7 ∷ 7 ∷ [])), call ((10 ∷ []) ∷ []) 1 0 (0 ∷ 0 ∷ 0 ∷ 0 ∷ []) 100 1 4) ∷  -- no such node
    ((refuses 8 0 0, (7 ∷ 7 ∷ 7 ∷ 7 ∷ [])), call ((23 ∷ []) ∷ []) 0 0 (0 ∷ 0 ∷ 0 ∷ 0 ∷ []) 100 1 4) ∷  -- a term
    ((gives (number 1) 2 1, (0 ∷ 0 ∷ 0 ∷ 0 ∷ [])), call ((10 ∷ []) ∷ (31 ∷ []) ∷ []) 1 0 (0 ∷ 0 ∷ 0 ∷ 0 ∷ []) 100 1 4) ∷  -- an aggregate: its number
    ((refuses 8 0 0, (7 ∷ 7 ∷ 7 ∷ 7 ∷ [])), call ((10 ∷ []) ∷ (31 ∷ []) ∷ (25 ∷ 1 ∷ []) ∷ []) 2 0 (0 ∷ 0 ∷ 0 ∷ 0 ∷ []) 100 1 4) ∷  -- an aggregate as a term
    ((refuses 9 0 0, (7 ∷ 7 ∷ 7 ∷ 7 ∷ [])), call ((10 ∷ []) ∷ []) 0 0 [] 100 1 4) ∷  -- no starting bindings
    ((refuses 9 0 0, (7 ∷ 7 ∷ 7 ∷ 7 ∷ [])), call ((10 ∷ []) ∷ []) 0 0 (0 ∷ 0 ∷ 0 ∷ []) 100 1 4) ∷  -- three cells
    ((refuses 9 0 0, (7 ∷ 7 ∷ 7 ∷ 7 ∷ [])), call ((10 ∷ []) ∷ []) 0 0 (0 ∷ 0 ∷ []) 100 1 4) ∷  -- two cells
    ((refuses 9 0 0, (7 ∷ 7 ∷ 7 ∷ 7 ∷ [])), call ((10 ∷ []) ∷ []) 0 0 (0 ∷ 0 ∷ 0 ∷ 0 ∷ 0 ∷ []) 100 1 4) ∷  -- five cells
    ((refuses 9 0 0, (7 ∷ 7 ∷ 7 ∷ 7 ∷ [])), call ((10 ∷ []) ∷ []) 0 0 (0 ∷ 0 ∷ 0 ∷ 0 ∷ 0 ∷ 0 ∷ []) 100 1 4) ∷  -- six cells
    ((refuses 9 0 0, (7 ∷ 7 ∷ 7 ∷ 7 ∷ [])), call ((10 ∷ []) ∷ []) 0 0 (0 ∷ 1 ∷ 0 ∷ 0 ∷ []) 100 1 4) ∷  -- unbound with a number
    ((refuses 9 0 0, (7 ∷ 7 ∷ 7 ∷ 7 ∷ [])), call ((10 ∷ []) ∷ []) 0 0 (0 ∷ 0 ∷ 0 ∷ 1 ∷ []) 100 1 4) ∷  -- the second
    ((gives (verdict false) 1 0, (0 ∷ 0 ∷ 0 ∷ 0 ∷ [])), call ((10 ∷ []) ∷ []) 0 0 (1 ∷ 18446744073709551615 ∷ 0 ∷ 0 ∷ []) 100 1 4) ∷  -- an integer
    ((gives (verdict false) 1 0, (0 ∷ 0 ∷ 0 ∷ 0 ∷ [])), call ((10 ∷ []) ∷ []) 0 0 (2 ∷ 0 ∷ 0 ∷ 0 ∷ []) 100 1 4) ∷  -- a value
    ((refuses 9 0 0, (7 ∷ 7 ∷ 7 ∷ 7 ∷ [])), call ((10 ∷ []) ∷ []) 0 0 (2 ∷ 1 ∷ 0 ∷ 0 ∷ []) 100 1 4) ∷  -- a value that is an Int
    ((gives (verdict false) 1 0, (0 ∷ 0 ∷ 0 ∷ 0 ∷ [])), call ((10 ∷ []) ∷ []) 0 0 (2 ∷ 2 ∷ 0 ∷ 0 ∷ []) 100 1 4) ∷  -- the last value
    ((refuses 9 0 0, (7 ∷ 7 ∷ 7 ∷ 7 ∷ [])), call ((10 ∷ []) ∷ []) 0 0 (2 ∷ 3 ∷ 0 ∷ 0 ∷ []) 100 1 4) ∷  -- no value
    ((gives (verdict false) 1 0, (0 ∷ 0 ∷ 0 ∷ 0 ∷ [])), call ((10 ∷ []) ∷ []) 0 0 (3 ∷ 2 ∷ 0 ∷ 0 ∷ []) 100 1 4) ∷  -- the last string
    ((refuses 9 0 0, (7 ∷ 7 ∷ 7 ∷ 7 ∷ [])), call ((10 ∷ []) ∷ []) 0 0 (3 ∷ 3 ∷ 0 ∷ 0 ∷ []) 100 1 4) ∷  -- no string
    ((refuses 9 0 0, (7 ∷ 7 ∷ 7 ∷ 7 ∷ [])), call ((10 ∷ []) ∷ []) 0 0 (4 ∷ 0 ∷ 0 ∷ 0 ∷ []) 100 1 4) ∷  -- no tag
    ((refuses 9 0 0, (7 ∷ 7 ∷ 7 ∷ 7 ∷ [])), call ((10 ∷ []) ∷ []) 0 0 (0 ∷ 0 ∷ 4 ∷ 0 ∷ []) 100 1 4) ∷  -- the second has no tag
    ((refuses 9 0 0, (7 ∷ 7 ∷ 7 ∷ 7 ∷ [])), call ((10 ∷ []) ∷ []) 0 0 (0 ∷ 0 ∷ 2 ∷ 1 ∷ []) 100 1 4) ∷  -- the second is an Int by its value
    ((gives (verdict true) 1 0, (0 ∷ 0 ∷ 0 ∷ 0 ∷ [])), call ((10 ∷ []) ∷ []) 0 0 (0 ∷ 0 ∷ 0 ∷ 0 ∷ []) 1000000000 1 4) ∷  -- the most steps
    ((refuses 10 0 0, (7 ∷ 7 ∷ 7 ∷ 7 ∷ [])), call ((10 ∷ []) ∷ []) 0 0 (0 ∷ 0 ∷ 0 ∷ 0 ∷ []) 1000000001 1 4) ∷  -- one more
    ((refuses 10 0 0, (7 ∷ 7 ∷ 7 ∷ [])), call ((10 ∷ []) ∷ []) 0 0 (0 ∷ 0 ∷ 0 ∷ 0 ∷ []) 100 1 3) ∷  -- a cell of workspace too few
    ((refuses 10 0 0, (7 ∷ 7 ∷ 7 ∷ 7 ∷ 7 ∷ 7 ∷ 7 ∷ [])), call ((10 ∷ []) ∷ []) 0 0 (0 ∷ 0 ∷ 0 ∷ 0 ∷ []) 100 2 7) ∷  -- likewise for two rows
    ((refuses 7 0 0, (7 ∷ 7 ∷ 7 ∷ 7 ∷ [])), call ((10 ∷ []) ∷ []) 1 2 (0 ∷ 0 ∷ 0 ∷ 0 ∷ []) 100 1 4) ∷  -- 7 before 8
    ((refuses 8 0 0, (7 ∷ 7 ∷ 7 ∷ 7 ∷ [])), call ((10 ∷ []) ∷ []) 1 0 [] 100 1 4) ∷  -- 8 before 9
    ((refuses 9 0 0, (7 ∷ 7 ∷ 7 ∷ [])), call ((10 ∷ []) ∷ []) 0 0 [] 100 1 3) ∷  -- 9 before 10
    ((gives (verdict false) 3 0, (0 ∷ 0 ∷ 0 ∷ 0 ∷ [])), call ((10 ∷ []) ∷ (4 ∷ 1 ∷ 0 ∷ 3 ∷ []) ∷ []) 1 1 (1 ∷ 9 ∷ 0 ∷ 0 ∷ []) 3 1 4) ∷  -- just the steps
    ((refuses 11 2 0, (0 ∷ 0 ∷ 0 ∷ 0 ∷ [])), call ((10 ∷ []) ∷ (4 ∷ 1 ∷ 0 ∷ 3 ∷ []) ∷ []) 1 1 (1 ∷ 9 ∷ 0 ∷ 0 ∷ []) 2 1 4) ∷  -- steps exhausted
    ((refuses 11 0 0, (0 ∷ 0 ∷ 0 ∷ 0 ∷ [])), call ((10 ∷ []) ∷ (4 ∷ 1 ∷ 0 ∷ 3 ∷ []) ∷ []) 1 0 (0 ∷ 0 ∷ 0 ∷ 0 ∷ []) 0 1 4) ∷  -- no steps
    ((refuses 12 2 0, (7 ∷ 7 ∷ [])), call ((10 ∷ []) ∷ (9 ∷ []) ∷ []) 1 0 (0 ∷ 0 ∷ 0 ∷ 0 ∷ []) 100 0 2) ∷  -- room exhausted
    ((refuses 11 1 0, []), call ((10 ∷ []) ∷ (9 ∷ []) ∷ []) 1 0 (0 ∷ 0 ∷ 0 ∷ 0 ∷ []) 1 0 0) ∷  -- steps before room
    ((gives (verdict true) 2 1, (0 ∷ 0 ∷ 0 ∷ 0 ∷ [])), call ((10 ∷ []) ∷ (9 ∷ []) ∷ []) 1 0 (0 ∷ 0 ∷ 0 ∷ 0 ∷ []) 2 1 4) ∷  -- exists x tp x
    ((gives (number 1) 2 1, (0 ∷ 0 ∷ 0 ∷ 0 ∷ [])), call ((10 ∷ []) ∷ (31 ∷ []) ∷ []) 1 0 (0 ∷ 0 ∷ 0 ∷ 0 ∷ []) 100 1 4) ∷  -- count for none where tp x
    ((refuses 8 0 0, (7 ∷ 7 ∷ 7 ∷ 7 ∷ [])), call ((10 ∷ []) ∷ (31 ∷ []) ∷ []) 3 0 (0 ∷ 0 ∷ 0 ∷ 0 ∷ []) 100 1 4) ∷  -- no such node
    ((refuses 7 0 0, (7 ∷ 7 ∷ 7 ∷ 7 ∷ [])), call ((10 ∷ []) ∷ (31 ∷ []) ∷ []) 1 2 (0 ∷ 0 ∷ 0 ∷ 0 ∷ []) 100 1 4) ∷  -- no such point
    ((refuses 12 2 0, (7 ∷ [])), call ((10 ∷ []) ∷ (31 ∷ []) ∷ []) 1 0 (0 ∷ 0 ∷ 0 ∷ 0 ∷ []) 100 0 1) ∷  -- room exhausted
    ((refuses 11 1 0, (0 ∷ 0 ∷ 0 ∷ 0 ∷ [])), call ((10 ∷ []) ∷ (31 ∷ []) ∷ []) 1 0 (0 ∷ 0 ∷ 0 ∷ 0 ∷ []) 1 1 4) ∷  -- steps exhausted
    []

answers-are : got (λ c. let r = ask_call c in (r.said, r.workspace)) answers ≡ wanted answers
unfolding all with_nodes call answers
answers-are = refl

-- with binders, and cells of output
relations : List ((Said ℕ × List ℕ × List ℕ) × (List ℕ × ℕ × Call))
unfolding call
relations =
    ((gives 1 1 1, (0 ∷ 0 ∷ 0 ∷ 0 ∷ []), (1 ∷ 0 ∷ [])), ((0 ∷ []), 2, call ((10 ∷ []) ∷ []) 0 0 (0 ∷ 0 ∷ 0 ∷ 0 ∷ []) 100 1 4)) ∷  -- just the output
    ((gives 1 1 1, (0 ∷ 0 ∷ 0 ∷ 0 ∷ []), (1 ∷ 0 ∷ 9 ∷ [])), ((0 ∷ []), 3, call ((10 ∷ []) ∷ []) 0 0 (0 ∷ 0 ∷ 0 ∷ 0 ∷ []) 100 1 4)) ∷  -- more output, unchanged
    ((refuses 13 1 1, (0 ∷ 0 ∷ 0 ∷ 0 ∷ []), (9 ∷ [])), ((0 ∷ []), 1, call ((10 ∷ []) ∷ []) 0 0 (0 ∷ 0 ∷ 0 ∷ 0 ∷ []) 100 1 4)) ∷  -- an output too short
    ((refuses 13 1 1, (0 ∷ 0 ∷ 0 ∷ 0 ∷ []), (9 ∷ 9 ∷ [])), ((2 ∷ []), 2, call ((10 ∷ []) ∷ []) 0 0 (0 ∷ 0 ∷ 0 ∷ 0 ∷ []) 100 1 4)) ∷  -- no such binder
    ((refuses 13 1 1, (0 ∷ 0 ∷ 0 ∷ 0 ∷ []), (9 ∷ 9 ∷ 9 ∷ 9 ∷ 9 ∷ 9 ∷ 9 ∷ 9 ∷ 9 ∷ [])), ((0 ∷ 2 ∷ []), 9, call ((10 ∷ []) ∷ []) 0 0 (0 ∷ 0 ∷ 0 ∷ 0 ∷ []) 100 1 4)) ∷  -- no such second binder
    ((refuses 13 1 1, (0 ∷ 0 ∷ 0 ∷ 0 ∷ []), (9 ∷ 9 ∷ 9 ∷ 9 ∷ 9 ∷ 9 ∷ 9 ∷ 9 ∷ 9 ∷ [])), ((2 ∷ 0 ∷ []), 9, call ((10 ∷ []) ∷ []) 0 0 (0 ∷ 0 ∷ 0 ∷ 0 ∷ []) 100 1 4)) ∷  -- no such first binder
    ((gives 1 1 1, (0 ∷ 0 ∷ 0 ∷ 0 ∷ []), (0 ∷ 0 ∷ 1 ∷ 0 ∷ 9 ∷ [])), ((1 ∷ 0 ∷ []), 5, call ((10 ∷ []) ∷ []) 0 0 (0 ∷ 0 ∷ 0 ∷ 0 ∷ []) 100 1 4)) ∷  -- two binders
    ((gives 1 1 1, (0 ∷ 0 ∷ 0 ∷ 0 ∷ []), (9 ∷ [])), ([], 1, call ((10 ∷ []) ∷ []) 0 0 (0 ∷ 0 ∷ 0 ∷ 0 ∷ []) 100 1 4)) ∷  -- no binders
    ((gives 2 3 2, (0 ∷ 0 ∷ 0 ∷ 0 ∷ 0 ∷ 0 ∷ 0 ∷ 0 ∷ []), (1 ∷ 0 ∷ 1 ∷ 1 ∷ 9 ∷ [])), ((0 ∷ []), 5, call ((10 ∷ []) ∷ (4 ∷ 1 ∷ 0 ∷ 3 ∷ []) ∷ []) 1 1 (0 ∷ 0 ∷ 0 ∷ 0 ∷ []) 100 2 8)) ∷  -- two rows
    ((refuses 13 3 2, (0 ∷ 0 ∷ 0 ∷ 0 ∷ 0 ∷ 0 ∷ 0 ∷ 0 ∷ 7 ∷ []), (9 ∷ 9 ∷ 9 ∷ [])), ((0 ∷ []), 3, call ((10 ∷ []) ∷ (4 ∷ 1 ∷ 0 ∷ 3 ∷ []) ∷ []) 1 1 (0 ∷ 0 ∷ 0 ∷ 0 ∷ []) 100 2 9)) ∷  -- an output too short for two
    ((refuses 12 3 1, (0 ∷ 0 ∷ 0 ∷ 0 ∷ []), (9 ∷ 9 ∷ 9 ∷ 9 ∷ [])), ((0 ∷ []), 4, call ((10 ∷ []) ∷ (4 ∷ 1 ∷ 0 ∷ 3 ∷ []) ∷ []) 1 1 (0 ∷ 0 ∷ 0 ∷ 0 ∷ []) 100 1 4)) ∷  -- room exhausted at the second row
    ((refuses 11 2 1, (0 ∷ 0 ∷ 0 ∷ 0 ∷ 0 ∷ 0 ∷ 0 ∷ 0 ∷ []), (9 ∷ 9 ∷ 9 ∷ 9 ∷ [])), ((0 ∷ []), 4, call ((10 ∷ []) ∷ (4 ∷ 1 ∷ 0 ∷ 3 ∷ []) ∷ []) 1 1 (0 ∷ 0 ∷ 0 ∷ 0 ∷ []) 2 2 8)) ∷  -- steps exhausted
    ((refuses 8 0 0, (7 ∷ 7 ∷ 7 ∷ 7 ∷ []), (9 ∷ 9 ∷ [])), ((0 ∷ []), 2, call ((10 ∷ []) ∷ (31 ∷ []) ∷ []) 1 0 (0 ∷ 0 ∷ 0 ∷ 0 ∷ []) 100 1 4)) ∷  -- an aggregate
    ((refuses 8 0 0, (7 ∷ 7 ∷ 7 ∷ 7 ∷ []), (9 ∷ 9 ∷ [])), ((0 ∷ []), 2, call ((23 ∷ []) ∷ []) 0 0 (0 ∷ 0 ∷ 0 ∷ 0 ∷ []) 100 1 4)) ∷  -- a term
    ((refuses 7 0 0, (7 ∷ 7 ∷ 7 ∷ 7 ∷ []), (9 ∷ 9 ∷ [])), ((2 ∷ []), 2, call ((10 ∷ []) ∷ []) 0 2 (0 ∷ 0 ∷ 0 ∷ 0 ∷ []) 100 1 4)) ∷  -- 7 before 13
    ((refuses 12 3 1, (0 ∷ 0 ∷ 0 ∷ 0 ∷ []), (9 ∷ 9 ∷ [])), ((2 ∷ []), 2, call ((10 ∷ []) ∷ (4 ∷ 1 ∷ 0 ∷ 3 ∷ []) ∷ []) 1 1 (0 ∷ 0 ∷ 0 ∷ 0 ∷ []) 100 1 4)) ∷  -- 12 before 13
    ((refuses 13 1 0, (0 ∷ 0 ∷ 0 ∷ 0 ∷ []), (9 ∷ 9 ∷ [])), ((2 ∷ []), 2, call ((10 ∷ []) ∷ []) 0 0 (1 ∷ 5 ∷ 0 ∷ 0 ∷ []) 100 1 4)) ∷  -- no row, no such binder
    ((gives 0 1 0, (0 ∷ 0 ∷ 0 ∷ 0 ∷ []), []), ((0 ∷ []), 0, call ((10 ∷ []) ∷ []) 0 0 (1 ∷ 5 ∷ 0 ∷ 0 ∷ []) 100 1 4)) ∷  -- no row
    []

relations-are : got (λ e. let r = rows_call e.0 (replicate e.1 9) e.2 in (r.said, r.workspace, r.output)) relations ≡ wanted relations
unfolding all with_nodes call relations
relations-are = refl

-- the check's answer: V and the numbers of strings, values, points and nodes
counted : check_call (with_nodes ((10 ∷ []) ∷ (10 ∷ []) ∷ (10 ∷ []) ∷ (10 ∷ []) ∷ (10 ∷ []) ∷ [])) ≡ gives (2 ∷ 3 ∷ 3 ∷ 2 ∷ 5 ∷ []) 0 0
unfolding all with_nodes
counted = refl

-- a file that fails the check, asked for no such point: 1 to 6 come before 7, with the workspace as it was
unchecked : List ((Said Answer × List ℕ) × Call)
unfolding call
unchecked = ((refuses 6 0 0, 7 ∷ 7 ∷ []), call ((10 ∷ []) ∷ (11 ∷ []) ∷ []) 0 9 [] 0 0 2) ∷ []

unchecked-are : got (λ c. let r = ask_call c in (r.said, r.workspace)) unchecked ≡ wanted unchecked
unfolding all with_nodes call unchecked
unchecked-are = refl

-- V of 0 and no workspace: the most room, and one more
no_variables : List ℕ
no_variables =
    file 0 (
    (0 ∷ 1 ∷ []) ∷ table 4 ((7 ∷ []) ∷ (2 ∷ 3 ∷ []) ∷ []) ∷ [] ∷ table 12 ((0 ∷ 0 ∷ 0 ∷ 0 ∷ 0 ∷ 0 ∷ 0 ∷ 0 ∷ 4294967295 ∷ 4294967295 ∷ []) ∷ [])
    ∷ table 8 ((20 ∷ 1 ∷ []) ∷ (8 ∷ 4 ∷ []) ∷ []) ∷ [] ∷ []
    ) (65 ∷ [])

roomy : ℕ → Said Answer
roomy room =
    (ask_call (record { file = no_variables; point = 0; node = 1; start = []; limits = record { steps = 1; room = room }; workspace = [] })).said

rooms : (roomy 16384 ∷ roomy 16385 ∷ []) ≡ (gives (verdict true) 1 0 ∷ refuses 10 0 0 ∷ [])
unfolding all no_variables roomy
rooms = refl
