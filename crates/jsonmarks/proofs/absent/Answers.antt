use Rattle.std.proofs.Common.{rules}
use Rattle.jsonmarks.proofs.Keeps.{absent-no, size-cells, absent-due, absent-yes}
use Rattle.jsonmarks.proofs.absent.Goals as goal

pub returns-then-end-first-lt256 : goal.returns-then-end-first-lt256
returns-then-end-first-lt256 c = search (absent-no, rules)

pub size_of-size-requires : goal.size_of-size-requires
size_of-size-requires c = search (size-cells, rules)

pub returns-then-size-eq0 : goal.returns-then-size-eq0
returns-then-size-eq0 c = search (absent-no, rules)

pub is_marked-requires : goal.is_marked-requires
is_marked-requires c = search (absent-due, rules)

pub returns : goal.returns
returns c = search (absent-yes, rules)
