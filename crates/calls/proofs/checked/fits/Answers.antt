use Rattle.std.proofs.Common.{rules}
use Rattle.calls.proofs.Given.{fits-none, fits-some}
use Rattle.calls.proofs.checked.fits.Goals as goal

pub returns-then-rows-eq0 : goal.returns-then-rows-eq0
returns-then-rows-eq0 c = search (fits-none, rules)

pub returns-else-rows-eq0 : goal.returns-else-rows-eq0
returns-else-rows-eq0 c = search (fits-some, rules)
