use Rattle.std.proofs.Common.{length, ◌+◌, ◌-◌, ◌*◌}
use Rattle.jsontext.specs.Values.{value}
use Rattle.jsonkeys.proofs.Listed.{Listing}
use Rattle.jsonvalues.proofs.Objects.{Gathering}
use Rattle.jsonvalues.proofs.+array_at_member_at_object_at_value_at.Given as goal

abbrev pub decreases-array_at : goal.decreases-array_at
decreases-array_at l = 4 * l.levels + 1

abbrev pub decreases-member_at : goal.decreases-member_at
decreases-member_at l = 4 * l.levels + 1

abbrev pub decreases-object_at : goal.decreases-object_at
decreases-object_at l = 4 * l.levels + 2

abbrev pub decreases-value_at : goal.decreases-value_at
decreases-value_at l = 4 * l.levels

abbrev pub invariant-array_at-loop-after : goal.invariant-array_at-loop-after
invariant-array_at-loop-after l = Listing (λ t. value l.levels t) l.line l.initial.names l.names l.used l.at l.i

abbrev pub decreases-array_at-loop-after : goal.decreases-array_at-loop-after
decreases-array_at-loop-after l = length l.line - l.i

abbrev pub invariant-object_at-loop-after : goal.invariant-object_at-loop-after
invariant-object_at-loop-after l = Gathering l.levels l.line l.initial.names l.names l.used l.at l.end l.i

abbrev pub decreases-object_at-loop-after : goal.decreases-object_at-loop-after
decreases-object_at-loop-after l = length l.line - l.i
