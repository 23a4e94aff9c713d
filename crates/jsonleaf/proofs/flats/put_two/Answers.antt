use Rattle.std.proofs.Common.{rules}
use Rattle.jsonadds.proofs.Flats.{first-due, second-due, two-wrote}
use Rattle.jsonleaf.proofs.flats.put_two.Goals as goal

pub put_text-requires : goal.put_text-requires
put_text-requires c = search (first-due, rules)

pub put_text-requires-2 : goal.put_text-requires-2
put_text-requires-2 c = search (second-due, rules)

pub returns : goal.returns
returns c = search (two-wrote, rules)
