-- The three calls, for every input: what is said, and the workspace and the output after it
use Rattle.std.specs.Prelude.{Bool, true, false, not, List, [], ◌∷◌, ◌++◌, map, ℕ, zero, suc, ◌*◌, leb, ltb, eqb, length, drop, replicate}
use Rattle.std.proofs.Math.Option.{Option, none, some}
use Rattle.std.proofs.Common.{of_z}
use Rattle.std.specs.Int.{w64}
use Rattle.meaning.specs.declared.Limits.{Limits}
use Rattle.meaning.specs.declared.Node.{Node}
use Rattle.meaning.specs.declared.Refusal.{Refusal}
use Rattle.meaning.specs.declared.Refusal.TheVariants.{BadContents, TooLarge, BadStrings, BadValues, BadPoints, BadNodes, NoSuchPoint, NoSuchNode, BadStart, BadLimits, StepsExhausted, RoomExhausted, BadOutput, OutputTooShort, ListTooShort}
use Rattle.meaning.specs.Tests.{◌and◌, ◌or◌, choose, only_if, is_some, pick, first_broken}
use Rattle.meaning.specs.Walk.{W, started, Outcome, answered, refused, outcome}
use Rattle.meaning.specs.Case.{Value, conditions, aggregates, is_sort, sort_of, vars, strings, values, points, nodes, value_at, node_at, point_at, case_of}
use Rattle.meaning.specs.Check.{check}
use Rattle.meaning.specs.Equal.{Bound, bound_of, integer}
use Rattle.meaning.specs.Rows.{Row, at, onto, add_new, in_cells, cells}
use Rattle.meaning.specs.Meaning.{Meaning, Question, meaning, question}

-- the number of each refusal: document 01's, then those that document 02 adds
unfoldable pub number_of : Refusal → ℕ
number_of BadContents = 1
number_of TooLarge = 2
number_of BadStrings = 3
number_of BadValues = 4
number_of BadPoints = 5
number_of BadNodes = 6
number_of NoSuchPoint = 7
number_of NoSuchNode = 8
number_of BadStart = 9
number_of BadLimits = 10
number_of StepsExhausted = 11
number_of RoomExhausted = 12
number_of BadOutput = 13
number_of OutputTooShort = 14
number_of ListTooShort = 15

-- ---- what is asked, and what is given

-- an asking call: file, point, node, starting bindings, step limit and room, the lent workspace
pub record Call : Type 0 where
  pub file : List ℕ
  pub point : ℕ
  pub node : ℕ
  pub start : List ℕ
  pub limits : Limits
  pub workspace : List ℕ

-- an answer, or a refusal's number; with steps spent and the greatest number of rows held
pub data Said (A : Type 0) : Type 0 where
  gives : A → ℕ → ℕ → Said A
  refuses : ℕ → ℕ → ℕ → Said A

-- what a call says, and its buffers after it; a call that has no output gives an empty one
pub record Result (A : Type 0) : Type 0 where
  pub said : Said A
  pub workspace : List ℕ
  pub output : List ℕ

-- ---- 9: starting bindings, exactly 2·V cells, numbers in range

unfoldable pub is_int : Value → Bool
is_int v = is_some (integer (bound_of 0 v))

-- a variable's two cells are well formed: tag 2 names a value that is no Int
unfoldable pub well_formed : List ℕ → ℕ → ℕ → Bool
well_formed s tag n =
    pick (eqb n 0 ∷ true ∷ (ltb n (values s) and not (is_int (value_at s n))) ∷ ltb n (strings s) ∷ []) tag false

-- one more variable of a row, if both are well formed
unfoldable pub more_row : Bool → Option Bound → Option Row → Option Row
more_row formed b none = none
more_row formed b (some row) = only_if formed (b ∷ row)

-- the row of so many variables that the cells hold, if they are well formed and just so many
unfoldable pub start_row : List ℕ → ℕ → List ℕ → Option Row
start_row s zero [] = some []
start_row s zero (a ∷ rest) = none
start_row s (suc v) [] = none
start_row s (suc v) (a ∷ []) = none
start_row s (suc v) (a ∷ b ∷ rest) = more_row (well_formed s a b) (in_cells a b) (start_row s v rest)

unfoldable pub start_or : Option Row → Row
start_or none = []
start_or (some row) = row

-- ---- 8: the nodes that a call is about

unfoldable pub is_condition : Node → Bool
is_condition n = is_sort conditions (sort_of n)

unfoldable pub is_aggregate : Node → Bool
is_aggregate n = is_sort aggregates (sort_of n)

-- all but terms
unfoldable pub answerable : Node → Bool
answerable n = is_condition n or is_aggregate n

-- ---- 7 to 10, in a case that passed the check

unfoldable pub against : (Node → Bool) → Call → Option Refusal
against wanted c =
    let s = c.file in
    first_broken (
    (ltb c.point (points s), NoSuchPoint)
    ∷ (ltb c.node (nodes s) and wanted (node_at s c.node), NoSuchNode)
    ∷ (is_some (start_row s (vars s) c.start), BadStart)
    ∷ (leb c.limits.steps 1000000000 and leb c.limits.room 16384 and leb (2 * vars s * c.limits.room) (length c.workspace), BadLimits)
    ∷ []
    )

-- ---- asking

-- the one walk that answers: by file, point, node and starting bindings alone
unfoldable pub walk_of : {A : Type 0} → (Meaning → Question → W A) → List ℕ → ℕ → ℕ → List ℕ → W A
walk_of manner s point node start =
    manner (meaning (case_of s) node) (question (point_at s) point (start_or (start_row s (vars s) start)))

unfoldable pub told : {A : Type 0} → Outcome A → Said A
told (answered a m) = gives a m.steps m.most
told (refused n m) = refuses (number_of n) m.steps m.most

-- refusals 1 to 10 come before the walk, with 0 and 0
unfoldable pub unless_refused : {A : Type 0} → Option Refusal → Said A → Said A
unless_refused (some n) said = refuses (number_of n) 0 0
unless_refused none said = said

unfoldable pub unless_against : {A : Type 0} → (Node → Bool) → Call → Said A → Said A
unless_against wanted c said = unless_refused (check c.file) (unless_refused (against wanted c) said)

unfoldable pub asking : {A : Type 0} → (Node → Bool) → (Meaning → Question → W A) → Call → Said A
asking wanted manner c =
    unless_against wanted c (told (outcome c.limits started (walk_of manner c.file c.point c.node c.start)))

-- the first n cells are 0, later ones unchanged
unfoldable pub cleared : ℕ → List ℕ → List ℕ
cleared n cells = replicate n 0 ++ drop n cells

-- refusals 1 to 10 write nothing; after all else the first 2·V·room cells are 0
unfoldable pub workspace_after : {A : Type 0} → Call → Said A → List ℕ
workspace_after c (gives a steps most) = cleared (2 * vars c.file * c.limits.room) c.workspace
workspace_after c (refuses n steps most) =
    choose (leb n 10) c.workspace (cleared (2 * vars c.file * c.limits.room) c.workspace)

unfoldable pub result : {A : Type 0} → Call → Said A → List ℕ → Result A
result c said output = record { said = said; workspace = workspace_after c said; output = output }

-- ---- the calls

-- refusals 1 to 6 only; a case that passes is told by V and the numbers of its strings, values, points and nodes
unfoldable pub check_call : List ℕ → Said (List ℕ)
check_call s = unless_refused (check s) (gives (vars s ∷ strings s ∷ values s ∷ points s ∷ nodes s ∷ []) 0 0)

-- ---- the ask call

-- of a condition a verdict, of an aggregate a number, said by its 64 bits
pub data Answer : Type 0 where
  verdict : Bool → Answer
  number : ℕ → Answer

unfoldable pub saying : {A B : Type 0} → (A → B) → Said A → Said B
saying f (gives a steps most) = gives (f a) steps most
saying f (refuses n steps most) = refuses n steps most

unfoldable pub ask_call : Call → Result Answer
ask_call c =
    result c
    (choose (is_aggregate (node_at c.file c.node))
    (saying (λ z. number (of_z w64 z)) (asking answerable (λ m q. m.number q) c))
    (saying verdict (asking answerable (λ m q. m.verdict q) c)))
    []

-- ---- the rows call

-- a row on the binders, two cells each
unfoldable pub cells_of : List ℕ → Row → List ℕ
cells_of [] r = []
cells_of (x ∷ xs) r = cells (at r x) ++ cells_of xs r

unfoldable pub filled : List ℕ → List Row → List ℕ
filled binders [] = []
filled binders (r ∷ rs) = cells_of binders r ++ filled binders rs

unfoldable pub all_under : ℕ → List ℕ → Bool
all_under v [] = true
all_under v (x ∷ xs) = ltb x v and all_under v xs

-- the rows that a call gives: projected as aggregates do
unfoldable pub projected : List ℕ → List ℕ → List Row → List Row
projected s binders rows = add_new (case_of s) [] (map (onto binders) rows)

-- 13: a binder not below V, or an output too short
unfoldable pub output_fits : List ℕ → List ℕ → List ℕ → List Row → Bool
output_fits s binders output kept = all_under (vars s) binders and leb (length (filled binders kept)) (length output)

-- the output changes only on an answer, only in the cells filled
unfoldable pub rows_given : Call → List ℕ → List ℕ → Said (List Row) → Result ℕ
rows_given c binders output (refuses n steps most) = result c (refuses n steps most) output
rows_given c binders output (gives rows steps most) =
    let kept = projected c.file binders rows in
    choose (output_fits c.file binders output kept)
    (result c (gives (length kept) steps most) (filled binders kept ++ drop (length (filled binders kept)) output))
    (result c (refuses (number_of BadOutput) steps most) output)

unfoldable pub rows_call : List ℕ → List ℕ → Call → Result ℕ
rows_call binders output c = rows_given c binders output (asking is_condition (λ m q. m.rows q) c)
