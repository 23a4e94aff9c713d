-- The calls by any way to read a file: its check, and what each of its nodes means. Laws say that the calls are those of the reading that stands
use Rattle.std.specs.Prelude.{Bool, false, List, [], ◌∷◌, ℕ, suc, ◌-◌}
use Rattle.std.proofs.Math.Option.{Option, none, some}
use Rattle.std.proofs.Common.{of_z}
use Rattle.std.specs.Int.{w64}
use Rattle.meaning.specs.declared.Limits.{Limits}
use Rattle.meaning.specs.declared.Node.{Node}
use Rattle.meaning.specs.declared.Refusal.{Refusal}
use Rattle.meaning.specs.Tests.{choose}
use Rattle.meaning.specs.Walk.{W, started, Outcome, outcome}
use Rattle.meaning.specs.Case.{Point, vars, strings, values, points, nodes, point_at, node_at, case_of}
use Rattle.meaning.specs.Check.{check}
use Rattle.meaning.specs.Number.{seconds, in_window}
use Rattle.meaning.specs.Rows.{Row}
use Rattle.meaning.specs.Meaning.{Question, earlier, Meaning, meaning, firsts, question}
use Rattle.meaning.specs.Calls.{Call, Said, gives, Result, start_row, start_or, is_condition, is_aggregate, answerable, against, told, unless_refused, result, Answer, verdict, number, saying, rows_given}
use Rattle.meaning.specs.Carried.{Look, formerly, previous, since, look_of, looks_back, Scan, down, before, Turn, body_turn, anchor_turn, left_from, Shown, shown, Carried, listed}

pub record Reading : Type 0 where
  pub check : List ℕ → Option Refusal
  pub means : List ℕ → ℕ → Meaning

unfoldable pub standing : Reading
standing = record { check = check; means = λ s. meaning (case_of s) }

-- ---- a scan of a node that looks back, by what the nodes mean

module _ (means : ℕ → Meaning) (log : ℕ → Point) (i : ℕ) (row : Row) (l : Limits) where
  unfoldable pub asked_by : ℕ → ℕ → Outcome Bool
  asked_by n j = outcome l started ((means n).verdict (earlier (question log i row) (firsts log (suc j))))

  unfoldable pub turn_by : Look → ℕ → Turn
  turn_by (formerly within n) j = body_turn (asked_by n j)
  turn_by (previous within n) j = body_turn (asked_by n j)
  turn_by (since left right within) j = anchor_turn (asked_by right j) (left_from (asked_by left) (suc j) (i - j))

  unfoldable pub scan_by : Look → Scan
  scan_by (formerly within n) = down (λ j. in_window (seconds within) (log i).time (log j).time) (turn_by (formerly within n)) (suc i)
  scan_by (previous within n) = before (λ j. in_window (seconds within) (log i).time (log j).time) (turn_by (previous within n)) i
  scan_by (since left right within) = down (λ j. in_window (seconds within) (log i).time (log j).time) (turn_by (since left right within)) (suc i)

  unfoldable pub shown_by : Option Look → Said Shown
  shown_by none = gives (record { verdict = false; points = [] }) 0 0
  shown_by (some look) = shown look i (scan_by look)

-- ---- the calls

module _ (r : Reading) where
  unfoldable pub check_by : List ℕ → Said (List ℕ)
  check_by s = unless_refused (r.check s) (gives (vars s ∷ strings s ∷ values s ∷ points s ∷ nodes s ∷ []) 0 0)

  unfoldable pub unless_against_by : {A : Type 0} → (Node → Bool) → Call → Said A → Said A
  unless_against_by wanted c said = unless_refused (r.check c.file) (unless_refused (against wanted c) said)

  -- the question that a call asks of its node
  unfoldable pub asking_by : {A : Type 0} → (Node → Bool) → (Meaning → Question → W A) → Call → Said A
  asking_by wanted manner c =
      let s = c.file in
      let q = question (point_at s) c.point (start_or (start_row s (vars s) c.start)) in
      unless_against_by wanted c (told (outcome c.limits started (manner (r.means s c.node) q)))

  unfoldable pub ask_by : Call → Result Answer
  ask_by c =
      result c
      (choose (is_aggregate (node_at c.file c.node))
      (saying (λ z. number (of_z w64 z)) (asking_by answerable (λ m q. m.number q) c))
      (saying verdict (asking_by answerable (λ m q. m.verdict q) c)))
      []

  unfoldable pub rows_by : List ℕ → List ℕ → Call → Result ℕ
  rows_by binders output c = rows_given c binders output (asking_by is_condition (λ m q. m.rows q) c)

  unfoldable pub carried_by : List ℕ → Call → Result Carried
  carried_by list c =
      let s = c.file in
      let row = start_or (start_row s (vars s) c.start) in
      let x = listed list (unless_against_by looks_back c (shown_by (r.means s) (point_at s) c.point row c.limits (look_of (node_at s c.node)))) in
      result c x.said x.list
