use Rattle.std.proofs.Common.{rules}
use Rattle.jsonmarks.proofs.Sets.{slot-told}
use Rattle.jsonmarks.proofs.table.slot_of.Goals as goal

pub returns : goal.returns
returns c = search (slot-told, rules)
