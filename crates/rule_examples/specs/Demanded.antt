-- Demand 3 and later points: what an answer, an exhausted call, a call of another file and files that agree up to a point are
use Rattle.std.specs.Prelude.{◌≡◌, refl, Bool, true, List, [], ◌∷◌, ℕ}
use Rattle.std.proofs.Common.{arith}
use Rattle.meaning.specs.declared.Limits.{Limits}
use Rattle.meaning.specs.Walk.{W, step, add, drop}
use Rattle.meaning.specs.Calls.{Call, gives}
use Rattle.meaning.specs.Demands.{Exhausted, steps-out, room_out, Tells, bytes_up_to, SameUpTo, of_file}
use Rattle.meaning.specs.Written.{table, file}
use Rattle.rule_examples.specs.Asked.{all}

limits : Limits
limits = record { steps = 3; room = 2 }

-- all three steps spent with one row held; both rows held after two steps
exhausted : Exhausted limits 11 3 1 × Exhausted limits 12 2 2
unfolding limits
exhausted = (steps-out refl refl (omega arith), room_out refl refl (omega arith))

-- three steps; two rows held at most, since one was dropped between
walk : W Bool
walk = record { answer = true; walk = step ∷ add ∷ drop 1 ∷ step ∷ add ∷ add ∷ step ∷ [] }

told : Tells limits walk (gives true 3 2)
unfolding all limits walk
told = (refl, refl, refl, omega arith, omega arith)

two-points : bytes_up_to 1 ≡ 96
two-points = refl

call : List ℕ → Call
unfolding limits
call s = record { file = s; point = 4; node = 5; start = 6 ∷ []; limits = limits; workspace = 7 ∷ [] }

of_another : of_file (call (1 ∷ [])) (2 ∷ []) ≡ call (2 ∷ [])
unfolding of_file call
of_another = refl

-- a log of two points beside one of three, alike up to point 1
log : List (List ℕ) → List ℕ
log points = file 2 ((0 ∷ 1 ∷ []) ∷ (7 ∷ 0 ∷ 0 ∷ 0 ∷ []) ∷ (0 ∷ 0 ∷ []) ∷ table 12 points ∷ (10 ∷ 0 ∷ 0 ∷ 0 ∷ 0 ∷ 0 ∷ 0 ∷ 0 ∷ []) ∷ (9 ∷ []) ∷ []) (97 ∷ [])

alike : SameUpTo 1 (log ((1 ∷ []) ∷ (2 ∷ []) ∷ [])) (log ((1 ∷ []) ∷ (2 ∷ []) ∷ (3 ∷ []) ∷ []))
unfolding all log
alike = record {
  others = record { vars = refl; strings = refl; values = refl; members = refl; nodes = refl; lists = refl; text = refl };
  here = omega arith;
  there = omega arith;
  points = refl;
}
