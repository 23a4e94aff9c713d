-- Which event carried the yes: the points that made the verdict of a Formerly, a Previous or a Since asked by itself, and the call that lists them
use Rattle.std.specs.Prelude.{Bool, true, false, List, [], ◌∷◌, ◌++◌, ℕ, zero, suc, ◌-◌, leb, length, drop}
use Rattle.std.proofs.Math.Option.{Option, none, some}
use Rattle.meaning.specs.declared.Limits.{Limits}
use Rattle.meaning.specs.declared.Meter.{Meter}
use Rattle.meaning.specs.declared.Interval.{Interval}
use Rattle.meaning.specs.declared.Node.{Node}
use Rattle.meaning.specs.declared.Node.TheVariants.{And, Or, Not, Formerly, Previous, Since, Predicate, Comparison, Exists, Tp, Literal, Context, Scope, Variable, Wildcard, Aggregate, Arithmetic, Sum, Count, Broken}
use Rattle.meaning.specs.declared.Refusal.{Refusal}
use Rattle.meaning.specs.declared.Refusal.TheVariants.{ListTooShort}
use Rattle.meaning.specs.Tests.{choose, is_some}
use Rattle.meaning.specs.Walk.{started, Outcome, answered, refused, outcome}
use Rattle.meaning.specs.Case.{Case, Point, places, vars, point_at, node_at, case_of}
use Rattle.meaning.specs.Number.{seconds, in_window}
use Rattle.meaning.specs.Rows.{Row}
use Rattle.meaning.specs.Meaning.{earlier, meaning, firsts, question}
use Rattle.meaning.specs.Calls.{number_of, Call, Said, gives, refuses, Result, start_row, start_or, unless_against, result}

-- ---- 8: the nodes that look back over the log

pub data Look : Type 0 where
  formerly : Interval → ℕ → Look
  previous : Interval → ℕ → Look
  since : ℕ → ℕ → Interval → Look

unfoldable pub look_of : Node → Option Look
look_of (And l r) = none
look_of (Or l r) = none
look_of (Not n) = none
look_of (Formerly within n) = some (formerly within n.0)
look_of (Previous within n) = some (previous within n.0)
look_of (Since l r within) = some (since l.0 r.0 within)
look_of (Predicate namespace action kind args) = none
look_of (Comparison op l r) = none
look_of (Exists x n) = none
look_of (Tp x) = none
look_of (Literal v) = none
look_of (Context path) = none
look_of (Scope root path) = none
look_of (Variable x) = none
look_of Wildcard = none
look_of (Aggregate n) = none
look_of (Arithmetic op l r) = none
look_of (Sum x binders n) = none
look_of (Count binders n) = none
look_of Broken = none

unfoldable pub looks_back : Node → Bool
looks_back n = is_some (look_of n)

-- ---- a scan

-- how it ends: at the point that carries the yes, nowhere, or at a question that is refused
pub data End : Type 0 where
  at : ℕ → End
  nowhere : End
  stopped : Refusal → Meter → End

-- and the anchors that failed on the way, each followed by the first point after it at which left failed
pub record Scan : Type 0 where
  pub end : End
  pub failed : List ℕ

abbrev pub ending : End → Scan
ending e = record { end = e; failed = [] }

-- what a point in the window is to it
pub data Turn : Type 0 where
  passes : Turn
  carries : Turn
  fails : ℕ → Turn
  halts : Refusal → Meter → Turn

-- point j, and then the rest of the scan
unfoldable pub met : ℕ → Turn → Scan → Scan
met j passes rest = rest
met j carries rest = ending (at j)
met j (fails k) rest = record { end = rest.end; failed = j ∷ k ∷ rest.failed }
met j (halts n m) rest = ending (stopped n m)

-- points n - 1 down to 0; those outside the window ask nothing
unfoldable pub down : (ℕ → Bool) → (ℕ → Turn) → ℕ → Scan
down within turn zero = ending nowhere
down within turn (suc j) = choose (within j) (met j (turn j) (down within turn j)) (down within turn j)

-- the point before i, if it is there
unfoldable pub before : (ℕ → Bool) → (ℕ → Turn) → ℕ → Scan
before within turn zero = ending nowhere
before within turn (suc j) = choose (within j) (met j (turn j) (ending nowhere)) (ending nowhere)

-- ---- a turn

-- a yes of the body carries
unfoldable pub body_turn : Outcome Bool → Turn
body_turn (answered holds m) = choose holds carries passes
body_turn (refused n m) = halts n m

-- left at k, and where it holds what comes after
unfoldable pub left_turn : ℕ → Outcome Bool → Turn → Turn
left_turn k (answered holds m) next = choose holds next (fails k)
left_turn k (refused n m) next = halts n m

-- left at k, k + 1, .. , so many points, to the first no
unfoldable pub left_from : (ℕ → Outcome Bool) → ℕ → ℕ → Turn
left_from left k zero = carries
left_from left k (suc n) = left_turn k (left k) (left_from left (suc k) n)

-- right, and where it holds left at the points after it
unfoldable pub anchor_turn : Outcome Bool → Turn → Turn
anchor_turn (answered holds m) lasting = choose holds lasting passes
anchor_turn (refused n m) lasting = halts n m

-- ---- asked at point i of a log, under starting bindings and limits

module _ (c : Case) (log : ℕ → Point) (i : ℕ) (row : Row) (l : Limits) where
  -- each question of a scan is a walk of its own, from 0 steps and 0 rows
  unfoldable pub asked_at : ℕ → ℕ → Outcome Bool
  asked_at n j = outcome l started ((meaning c n).verdict (earlier (question log i row) (firsts log (suc j))))

  unfoldable pub seen_from : Interval → ℕ → Bool
  seen_from within j = in_window (seconds within) (log i).time (log j).time

  -- what point j is to the scan
  unfoldable pub turn_at : Look → ℕ → Turn
  turn_at (formerly within n) j = body_turn (asked_at n j)
  turn_at (previous within n) j = body_turn (asked_at n j)
  turn_at (since left right within) j = anchor_turn (asked_at right j) (left_from (asked_at left) (suc j) (i - j))

  unfoldable pub scan_of : Look → Scan
  scan_of (formerly within n) = down (seen_from within) (turn_at (formerly within n)) (suc i)
  scan_of (previous within n) = before (seen_from within) (turn_at (previous within n)) i
  scan_of (since left right within) = down (seen_from within) (turn_at (since left right within)) (suc i)

-- ---- the list

-- a verdict, and the points that made it
pub record Shown : Type 0 where
  pub verdict : Bool
  pub points : List ℕ

-- the point that carries; for a Since those after it too, up to i
unfoldable pub carried_by : Look → ℕ → ℕ → List ℕ
carried_by (formerly within n) i j = j ∷ []
carried_by (previous within n) i j = j ∷ []
carried_by (since left right within) i j = places j 1 (suc (i - j))

-- steps and rows are counted for no answer
unfoldable pub shown : Look → ℕ → Scan → Said Shown
shown look i scan =
    elim scan.end [
      | at j ↦ gives (record { verdict = true; points = carried_by look i j }) 0 0
      | nowhere ↦ gives (record { verdict = false; points = scan.failed }) 0 0
      | stopped n m ↦ refuses (number_of n) m.steps m.most
    ]

-- what is said: the verdict, and how many cells of the list were filled; and the list after it
pub record Carried : Type 0 where
  pub verdict : Bool
  pub filled : ℕ

pub record Listed : Type 0 where
  pub said : Said Carried
  pub list : List ℕ

-- 15, after all questions: fewer cells than points. The list changes only on an answer, only in the cells filled
unfoldable pub listed : List ℕ → Said Shown → Listed
listed list (refuses n steps most) = record { said = refuses n steps most; list = list }
listed list (gives s steps most) =
    choose (leb (length s.points) (length list))
    (record { said = gives (record { verdict = s.verdict; filled = length s.points }) steps most; list = s.points ++ drop (length s.points) list })
    (record { said = refuses (number_of ListTooShort) 0 0; list = list })

-- ---- the call

-- what is no such node shows nothing; it is refused before
unfoldable pub shown_at : Case → (ℕ → Point) → ℕ → Row → Limits → Option Look → Said Shown
shown_at c log i row l none = gives (record { verdict = false; points = [] }) 0 0
shown_at c log i row l (some look) = shown look i (scan_of c log i row l look)

unfoldable pub carried_call : List ℕ → Call → Result Carried
carried_call list c =
    let s = c.file in
    let row = start_or (start_row s (vars s) c.start) in
    let r = listed list (unless_against looks_back c (shown_at (case_of s) (point_at s) c.point row c.limits (look_of (node_at s c.node)))) in
    result c r.said r.list
