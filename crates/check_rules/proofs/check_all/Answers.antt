use Rattle.std.proofs.Common.{ℕ, ◌+◌, ◌-◌, ◌*◌, ◌/◌, ◌≤◌, List, length, set, ◌∙◌, arith, length-set, rules}
use Rattle.check_rules.proofs.check_all.Invariants.{Reading}
use Rattle.check_rules.proofs.check_all.Goals as goal

-- after a file that lies in the list whole
next : {list counts : List ℕ} {words at size : ℕ} (answer count : ℕ) → Reading list words counts at → at + 2 ≤ words → size ≤ length list - 4 * (at + 2) → Reading list words (set counts answer count) (at + (2 + (size + 3) / 4))
next {counts = counts} answer count o lt le = record { from = omega (arith, o.from); to = omega (arith, o.whole); whole = o.whole; some = o.some; sixteen = length-set counts answer count ∙ o.sixteen }

pub loop-at-preserved : goal.loop-at-preserved
loop-at-preserved c = search (next, rules)
