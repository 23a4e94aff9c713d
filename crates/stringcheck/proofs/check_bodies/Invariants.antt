-- The contents and bodies: each body starts where the one before it ends, and holds whole records
use Prim.Native.Nat.{◌*◌, ◌+◌, ◌≤◌, ℕ}
use lib.ListN.{length}
use mathlib.Core.Bool.{true}
use mathlib.Core.List.{List}
use mathlib.Core.Path.{◌≡◌}
use Rattle.meaning.specs.Case.{contents}
use Rattle.meaning.specs.Check.{body_rule, start_of}
use Rattle.meaning.specs.Tests.{all_below}
use Rattle.stringcheck.proofs.check_bodies.Given as goal

-- the first k bodies are right, and the next has to start at `at`
pub record Right (s : List ℕ) (at k : ℕ) : Type 0 where
  pub low : k ≤ 7
  pub long : 64 ≤ length s
  pub edition : contents s 0 ≡ 1
  pub start : at ≡ start_of s k
  pub near : at ≤ 64 + 4294967296 * k
  pub passed : all_below k (body_rule s) ≡ true

abbrev pub invariant-loop-k : goal.invariant-loop-k
invariant-loop-k l = Right l.s l.at l.k
