use Rattle.lookup.proofs.Members.{Among}
use Rattle.lookup.proofs.paths.member_named.Given as goal

abbrev pub invariant-loop-left : goal.invariant-loop-left
invariant-loop-left l = Among l.s l.name l.table l.initial.at l.initial.left l.at l.left

abbrev pub decreases-loop-left : goal.decreases-loop-left
decreases-loop-left l = l.left
