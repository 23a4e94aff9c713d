-- After the walk of a call: what is said, and the output
use Rattle.std.specs.Prelude.{◌≡◌, Bool, true, false, List, [], ◌++◌, map, ℕ, leb, ℤ, length, drop}
use Rattle.std.proofs.Common.{of_z}
use Rattle.std.specs.Int.{w64}
use Rattle.meaning.specs.declared.Env.{Env}
use Rattle.meaning.specs.declared.Meter.{Meter}
use Rattle.meaning.specs.declared.Refusal.TheVariants.{BadOutput}
use Rattle.meaning.specs.Tests.{◌and◌, choose}
use Rattle.meaning.specs.Walk.{started, Outcome, answered, refused, outcome}
use Rattle.meaning.specs.Case.{case_of, point_at, node_at}
use Rattle.meaning.specs.Rows.{Row, row_of, onto, add_new}
use Rattle.meaning.specs.Carried.{Listed, look_of, shown_at, listed}
use Rattle.meaning.specs.Calls.{number_of, Said, gives, refuses, told, is_aggregate, Answer, verdict, number, saying, filled, all_under}
use Rattle.calls.specs.Promises.{SaidAnswer, SaidRows, SaidCarried, as_answer, as_rows, as_carried}
use Rattle.evaluator.specs.declared.Call.{Call as WalkCall}
use Rattle.evaluator.specs.Asks.{node, walk_for, number_for}

-- ---- an answer

-- the bits of a number
abbrev pub in_bits : ℤ → Answer
in_bits z = number (of_z w64 z)

-- what the walk for an answer comes to, told: file, call, environment, node
unfoldable pub answer_from : List ℕ → WalkCall → Env → ℕ → Said Answer
answer_from s c e n =
    choose (is_aggregate (node_at s n))
    (saying in_bits (told (outcome c.limits started (number_for s c e n c.asked))))
    (saying verdict (told (outcome c.limits started (walk_for s c e (node n c.asked)))))

pub record TellsAnswer (s : List ℕ) (c : WalkCall) (e : Env) (n : ℕ) (r : SaidAnswer) : Type 0 where
  pub is : as_answer r ≡ answer_from s c e n

-- ---- rows

-- first occurrences of the rows on the binders
abbrev pub kept_of : List ℕ → List ℕ → List Row → List Row
kept_of s binders rows = add_new (case_of s) [] (map (onto binders) rows)

abbrev pub fitting : ℕ → List ℕ → List ℕ → List Row → Bool
fitting v binders output kept = all_under v binders and leb (length (filled binders kept)) (length output)

unfoldable pub said_of : List Row → Meter → Bool → Said ℕ
said_of kept m true = gives (length kept) m.steps m.most
said_of kept m false = refuses (number_of BadOutput) m.steps m.most

unfoldable pub output_of : List ℕ → List ℕ → List Row → Bool → List ℕ
output_of binders output kept true = filled binders kept ++ drop (length (filled binders kept)) output
output_of binders output kept false = output

pub record Given (s : List ℕ) (v : ℕ) (m : Meter) (binders : List ℕ) (rows : List Row) (output after : List ℕ) (r : SaidRows) : Type 0 where
  pub said : as_rows r ≡ said_of (kept_of s binders rows) m (fitting v binders output (kept_of s binders rows))
  pub written : after ≡ output_of binders output (kept_of s binders rows) (fitting v binders output (kept_of s binders rows))

-- what the walk for rows came to, told, and the output after it
unfoldable pub said_from : List ℕ → ℕ → List ℕ → List ℕ → Outcome (List Row) → Said ℕ
said_from s v binders output (answered rows m) =
    said_of (kept_of s binders rows) m (fitting v binders output (kept_of s binders rows))
said_from s v binders output (refused n m) = refuses (number_of n) m.steps m.most

unfoldable pub output_from : List ℕ → ℕ → List ℕ → List ℕ → Outcome (List Row) → List ℕ
output_from s v binders output (answered rows m) =
    output_of binders output (kept_of s binders rows) (fitting v binders output (kept_of s binders rows))
output_from s v binders output (refused n m) = output

pub record TellsRows (s : List ℕ) (v : ℕ) (binders output : List ℕ) (o : Outcome (List Row)) (after : List ℕ) (r : SaidRows) : Type 0 where
  pub said : as_rows r ≡ said_from s v binders output o
  pub written : after ≡ output_from s v binders output o

-- ---- what carried it

-- what a scan shows, listed: file, call, environment, node
pub record TellsCarried (s : List ℕ) (c : WalkCall) (e : Env) (n : ℕ) (list after : List ℕ) (r : SaidCarried) : Type 0 where
  pub is : ◌≡◌ {A = Listed} (record { said = as_carried r; list = after }) (listed list (shown_at (case_of s) (point_at s) c.asked (row_of e) c.limits (look_of (node_at s n))))
