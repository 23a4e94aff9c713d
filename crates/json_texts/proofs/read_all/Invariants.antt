use Rattle.std.proofs.Common.{◌≡◌, ◌+◌, ◌-◌, ◌/◌, ◌≤◌, length}
use Rattle.json_texts.proofs.read_all.Given as goal

abbrev pub invariant-loop-at : goal.invariant-loop-at
invariant-loop-at g l = (1 ≤ l.at) × (l.at ≤ l.words + 1) × (l.words ≡ length l.list / 4) × (length l.names ≡ length l.initial.names)

abbrev pub decreases-loop-at : goal.decreases-loop-at
decreases-loop-at g l = l.words + 1 - l.at
