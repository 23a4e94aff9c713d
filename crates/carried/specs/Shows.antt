-- What the code's answers say, and what each function of a scan promises
use Rattle.std.specs.Prelude.{◌≡◌, Bool, true, List, [], ◌∷◌, ℕ, suc, ◌+◌, ◌-◌, ◌≤◌, length, set, Result, Ok, Err, Option as Answer, Some, None}
use Rattle.std.proofs.Math.Option.{Option, none, some}
use Rattle.meaning.specs.declared.Env.{Env}
use Rattle.meaning.specs.declared.Interval.{Interval}
use Rattle.meaning.specs.declared.Refusal.TheVariants.{ListTooShort}
use Rattle.meaning.specs.Walk.{Outcome, started}
use Rattle.meaning.specs.Case.{places, point_at, node_at, case_of}
use Rattle.meaning.specs.Rows.{row_of}
use Rattle.meaning.specs.Calls.{number_of, Said, gives, refuses}
use Rattle.meaning.specs.Carried.{formerly, previous, since, look_of, at, nowhere, stopped, ending, passes, carries, fails, halts, down, body_turn, left_from, anchor_turn, asked_at, seen_from, turn_at, scan_of, carried_by, Listed, listed, shown_at}
use Rattle.meaning.specs.Carried.{Look as LookBack, End as ScanEnd, Scan as ScanOf, Turn as TurnOf, Carried as CarriedOf}
use Rattle.evaluator.specs.declared.Call.{Call}
use Rattle.evaluator.specs.Asks.{Verdict, said_verdict}
use Rattle.rows.specs.declared.Stopped.{Stopped}
use Rattle.carried.specs.declared.Look.{Look}
use Rattle.carried.specs.declared.Look.TheVariants as Loo
use Rattle.carried.specs.declared.Turn.{Turn}
use Rattle.carried.specs.declared.Turn.TheVariants as Tur
use Rattle.carried.specs.declared.Scan.{Scan}
use Rattle.carried.specs.declared.Carried.{Carried}

-- ---- what the code's answers say

unfoldable pub as_look : Look → LookBack
as_look (Loo.Formerly within x) = formerly within x.0
as_look (Loo.Previous within x) = previous within x.0
as_look (Loo.Since l r within) = since l.0 r.0 within

unfoldable pub looking : Answer Look → Option LookBack
looking (Some look) = some (as_look look)
looking None = none

unfoldable pub as_turn : Result Turn Stopped → TurnOf
as_turn (Ok Tur.Passes) = passes
as_turn (Ok Tur.Carries) = carries
as_turn (Ok (Tur.Fails k)) = fails k
as_turn (Err e) = halts e.refusal e.meter

-- a point that carries, or none
unfoldable pub as_point : Answer ℕ → ScanEnd
as_point (Some j) = at j
as_point None = nowhere

unfoldable pub as_end : Result (Answer ℕ) Stopped → ScanEnd
as_end (Ok end) = as_point end
as_end (Err e) = stopped e.refusal e.meter

unfoldable pub end_of : Result Scan Stopped → ScanEnd
end_of (Ok scan) = as_point scan.end
end_of (Err e) = stopped e.refusal e.meter

unfoldable pub as_carried : Result Carried Stopped → Said CarriedOf
as_carried (Ok r) = gives (record { verdict = r.verdict; filled = r.filled }) 0 0
as_carried (Err e) = refuses (number_of e.refusal) e.meter.steps e.meter.most

-- the list has no room for its points, and nothing is told as spent
abbrev pub too_short : Stopped
too_short = record { refusal = ListTooShort; meter = started }

unfoldable pub window_in : LookBack → Interval
window_in (formerly within n) = within
window_in (previous within n) = within
window_in (since left right within) = within

-- ---- the definition's scan, as a call of a file and an environment asks it

module _ (s : List ℕ) (c : Call) (e : Env) where
  abbrev pub asks_at : ℕ → ℕ → Outcome Bool
  asks_at n j = asked_at (case_of s) (point_at s) c.asked (row_of e) c.limits n j

  abbrev pub seen_at : Interval → ℕ → Bool
  seen_at within j = seen_from (case_of s) (point_at s) c.asked (row_of e) c.limits within j

  unfoldable pub turn_in : LookBack → ℕ → TurnOf
  turn_in look j = turn_at (case_of s) (point_at s) c.asked (row_of e) c.limits look j

  -- from the point asked about down, over its window
  abbrev pub down_in : LookBack → ScanOf
  down_in look = down (λ j. seen_at (window_in look) j) (λ j. turn_in look j) (suc c.asked)

  unfoldable pub scan_in : LookBack → ScanOf
  scan_in look = scan_of (case_of s) (point_at s) c.asked (row_of e) c.limits look

-- ---- cells laid over a list from its beginning on, as many as fit

unfoldable pub laid : List ℕ → List ℕ → List ℕ
laid [] list = list
laid (x ∷ xs) [] = []
laid (x ∷ xs) (y ∷ list) = x ∷ laid xs list

-- ---- promises

pub record PutTwo (list : List ℕ) (at first second : ℕ) (after : List ℕ) : Type 0 where
  pub is : after ≡ set (set list at first) (at + 1) second

pub record Asks (s : List ℕ) (c : Call) (e : Env) (n j : ℕ) (v : Verdict) : Type 0 where
  pub is : said_verdict v ≡ asks_at s c e n j

pub record Lasts (s : List ℕ) (c : Call) (e : Env) (l j : ℕ) (t : Result Turn Stopped) : Type 0 where
  pub is : as_turn t ≡ left_from (λ k. asks_at s c e l k) (suc j) (c.asked - j)

pub record Bodies (s : List ℕ) (c : Call) (e : Env) (x j : ℕ) (t : Result Turn Stopped) : Type 0 where
  pub is : as_turn t ≡ body_turn (asks_at s c e x j)

pub record Anchors (s : List ℕ) (c : Call) (e : Env) (l r j : ℕ) (t : Result Turn Stopped) : Type 0 where
  pub is : as_turn t ≡ anchor_turn (asks_at s c e r j) (left_from (λ k. asks_at s c e l k) (suc j) (c.asked - j))

pub record Turns (s : List ℕ) (c : Call) (e : Env) (look : Look) (j : ℕ) (t : Result Turn Stopped) : Type 0 where
  pub is : as_turn t ≡ turn_in s c e (as_look look) j

-- how it ended, and how many cells its failed anchors take
pub record Settled (scan : ScanOf) (r : Result Scan Stopped) : Type 0 where
  pub end : end_of r ≡ scan.end
  pub failed : {k : Scan} → r ≡ Ok k → k.failed ≡ length scan.failed

-- and they lie in the list
pub record Scanned (scan : ScanOf) (list after : List ℕ) (r : Result Scan Stopped) : Type 0 where
  pub settled : Settled scan r
  pub lies : after ≡ laid scan.failed list

-- a scan down, whatever looks back; the scan of a node; and the same with nothing listed
pub record Downed (s : List ℕ) (c : Call) (e : Env) (look : Look) (list after : List ℕ) (r : Result Scan Stopped) : Type 0 where
  pub scanned : Scanned (down_in s c e (as_look look)) list after r

pub record Backed (s : List ℕ) (c : Call) (e : Env) (look : Look) (list after : List ℕ) (r : Result Scan Stopped) : Type 0 where
  pub scanned : Scanned (scan_in s c e (as_look look)) list after r

pub record Known (s : List ℕ) (c : Call) (e : Env) (look : Look) (list after : List ℕ) (r : Result Scan Stopped) : Type 0 where
  pub settled : Settled (scan_in s c e (as_look look)) r
  pub same : after ≡ list

-- no anchor fails on the way
pub record Precedes (s : List ℕ) (c : Call) (e : Env) (x : ℕ) (within : Interval) (r : Result (Answer ℕ) Stopped) : Type 0 where
  pub is : scan_in s c e (previous within x) ≡ ending (as_end r)

pub record Points (look : Look) (i j n : ℕ) : Type 0 where
  pub is : places j 1 n ≡ carried_by (as_look look) i j
  pub few : j + n ≤ 16384

-- a yes that n points from j on make
pub record Lists (j n : ℕ) (list after : List ℕ) (r : Result Carried Stopped) : Type 0 where
  pub is : ◌≡◌ {A = Listed} (record { said = as_carried r; list = after }) (listed list (gives (record { verdict = true; points = places j 1 n }) 0 0))

pub record Carries (s : List ℕ) (c : Call) (e : Env) (n : ℕ) (list after : List ℕ) (r : Result Carried Stopped) : Type 0 where
  pub is : ◌≡◌ {A = Listed} (record { said = as_carried r; list = after }) (listed list (shown_at (case_of s) (point_at s) c.asked (row_of e) c.limits (look_of (node_at s n))))
