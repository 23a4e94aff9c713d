-- What each of the four calls promises: what it says, with document 01's number of a refusal, and its buffers after it, are the defined call's
use Rattle.std.specs.Prelude.{◌≡◌, List, [], ◌∷◌, ℕ, Result as OkOr, Ok, Err}
use Rattle.meaning.specs.declared.Limits.{Limits}
use Rattle.meaning.specs.Calls.{number_of, Call, Said, gives, refuses, Result, Answer, verdict, number, check_call, ask_call, rows_call}
use Rattle.meaning.specs.Carried.{Carried, carried_call}
use Rattle.meaning.specs.declared.Meter.{Meter}
use Rattle.meaning.specs.declared.Refusal.{Refusal}
use Rattle.rows.specs.declared.Stopped.{Stopped}
use Rattle.casecheck.specs.declared.Contents.{Contents}
use Rattle.carried.specs.declared.Carried.{Carried as Listing}
use Rattle.calls.specs.declared.Spent.{Spent}
use Rattle.calls.specs.declared.Refused.{Refused}
use Rattle.calls.specs.declared.Answer.{Answer as Given}
use Rattle.calls.specs.declared.Answer.TheVariants as Ans

-- file, point, node, starting bindings, limits, workspace
abbrev pub call_of : List ℕ → ℕ → ℕ → List ℕ → Limits → List ℕ → Call
call_of s point node start limits work = record {
  file = s;
  point = point;
  node = node;
  start = start;
  limits = limits;
  workspace = work;
}

-- ---- what the code's answers say

abbrev pub Checking : Type 0
Checking = OkOr Contents Refusal

abbrev pub SaidAnswer : Type 0
SaidAnswer = OkOr (Given × Spent) Refused

abbrev pub SaidRows : Type 0
SaidRows = OkOr (ℕ × Spent) Refused

abbrev pub SaidCarried : Type 0
SaidCarried = OkOr (Listing × Spent) Refused

abbrev pub nothing : Spent
nothing = record { steps = 0; most = 0 }

-- refused before a walk, and by one
abbrev pub early : Refusal → Refused
early n = record { refusal = n; spent = nothing }

abbrev pub spent_in : Meter → Spent
spent_in m = record { steps = m.steps; most = m.most }

abbrev pub stopped_as : Stopped → Refused
stopped_as z = record { refusal = z.refusal; spent = spent_in z.meter }

unfoldable pub as_check : Checking → Said (List ℕ)
as_check (Ok k) = gives (k.vars ∷ k.strings ∷ k.values ∷ k.points ∷ k.nodes ∷ []) 0 0
as_check (Err n) = refuses (number_of n) 0 0

unfoldable pub as_answer : SaidAnswer → Said Answer
as_answer (Ok (Ans.Verdict b, s)) = gives (verdict b) s.steps s.most
as_answer (Ok (Ans.Number bits, s)) = gives (number bits) s.steps s.most
as_answer (Err e) = refuses (number_of e.refusal) e.spent.steps e.spent.most

unfoldable pub as_rows : SaidRows → Said ℕ
as_rows (Ok (n, s)) = gives n s.steps s.most
as_rows (Err e) = refuses (number_of e.refusal) e.spent.steps e.spent.most

unfoldable pub as_carried : SaidCarried → Said Carried
as_carried (Ok (r, s)) = gives (record { verdict = r.verdict; filled = r.filled }) s.steps s.most
as_carried (Err e) = refuses (number_of e.refusal) e.spent.steps e.spent.most

-- ---- promises

pub record Checks (s : List ℕ) (r : Checking) : Type 0 where
  pub is : as_check r ≡ check_call s

pub record Answers (c : Call) (after : List ℕ) (r : SaidAnswer) : Type 0 where
  pub is : ◌≡◌ {A = Result Answer} (record { said = as_answer r; workspace = after; output = [] }) (ask_call c)

pub record Rowed (c : Call) (binders output after filled : List ℕ) (r : SaidRows) : Type 0 where
  pub is : ◌≡◌ {A = Result ℕ} (record { said = as_rows r; workspace = after; output = filled }) (rows_call binders output c)

pub record Carrying (c : Call) (list after filled : List ℕ) (r : SaidCarried) : Type 0 where
  pub is : ◌≡◌ {A = Result Carried} (record { said = as_carried r; workspace = after; output = filled }) (carried_call list c)
