use Rattle.std.proofs.Common.{rules}
use Rattle.lookup.proofs.Dotted.{behind-no, behind-room, behind-byte, behind-end, behind-other, behind-dot}
use Rattle.lookup.proofs.paths.behind_name.Goals as goal

pub returns-then-not-stands_at : goal.returns-then-not-stands_at
returns-then-not-stands_at c = search (behind-no, rules)

pub overflow_add-end : goal.overflow_add-end
overflow_add-end c = search (behind-room, rules)

pub returns-then-end-t : goal.returns-then-end-t
returns-then-end-t c = search (behind-end, rules)

pub bounds-t-end : goal.bounds-t-end
bounds-t-end c = search (behind-byte, rules)

pub returns-then-t-end-ne46 : goal.returns-then-t-end-ne46
returns-then-t-end-ne46 c = search (behind-other, rules)

pub returns : goal.returns
returns c = search (behind-dot, rules)
