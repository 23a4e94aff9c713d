use Rattle.std.proofs.Common.{rules}
use Rattle.capi.proofs.Window.{tells-inside, tells-old, tells-later}
use Rattle.capi.proofs.galivodern_window.Goals as goal

pub returns-in-Inside : goal.returns-in-Inside
returns-in-Inside c = search (tells-inside, rules)

pub returns-in-TooOld : goal.returns-in-TooOld
returns-in-TooOld c = search (tells-old, rules)

pub returns-in-Later : goal.returns-in-Later
returns-in-Later c = search (tells-later, rules)
