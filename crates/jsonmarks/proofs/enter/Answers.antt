use Rattle.std.proofs.Common.{rules}
use Rattle.jsonread.proofs.Places.{passed}
use Rattle.jsonnames.proofs.Tables.{enter-named}
use Rattle.jsonmarks.proofs.Keeps.{tended_unread, tended_again, tended_kept}
use Rattle.jsonmarks.proofs.enter.Goals as goal

pub hold-requires : goal.hold-requires
hold-requires c = search (enter-named, c.in_ok-after.was, rules)

pub returns-in_err-after : goal.returns-in_err-after
returns-in_err-after c = rw (passed c.from_residual.ensures.1) (search (tended_unread, c.in_err-after.was, rules))

pub returns-in-Some : goal.returns-in-Some
returns-in-Some c = search (tended_again, c.in_ok-after.was, rules)

pub returns-in-None : goal.returns-in-None
returns-in-None c = search (tended_kept, c.in_ok-after.was, rules)
