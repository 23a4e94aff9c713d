use Rattle.std.proofs.Common.{◌≡◌, ℕ, ◌+◌, ◌-◌, ◌/◌, ◌<◌, ◌≤◌, List, length}
use Rattle.check_rules.proofs.check_all.Given as goal

-- the words from `at` on are not read yet
pub record Reading (list : List ℕ) (words : ℕ) (counts : List ℕ) (at : ℕ) : Type 0 where
  pub from : 1 ≤ at
  pub to : at ≤ words + 1
  pub whole : words ≡ length list / 4
  pub some : 0 < words
  pub sixteen : length counts ≡ 16

abbrev pub invariant-loop-at : goal.invariant-loop-at
invariant-loop-at g l = Reading l.list l.words l.counts l.at

abbrev pub decreases-loop-at : goal.decreases-loop-at
decreases-loop-at g l = l.words + 1 - l.at
