use Rattle.std.proofs.Common.{rules}
use Rattle.lookup.proofs.Searching.{noted}
use Rattle.lookup.proofs.paths.note.Goals as goal

pub returns : goal.returns
returns c = search (noted, rules)
