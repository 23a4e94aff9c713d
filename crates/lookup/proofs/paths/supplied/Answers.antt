use Rattle.std.proofs.Common.{rules}
use Rattle.laws.specs.Checked.{checked-bodies}
use Rattle.lookup.proofs.Attributes.{supplied-none, supplied-found}
use Rattle.lookup.proofs.paths.supplied.Goals as goal

pub attributes_of-requires : goal.attributes_of-requires
attributes_of-requires c = search (checked-bodies, rules)

pub returns-in-Some : goal.returns-in-Some
returns-in-Some c = search (supplied-found, rules)

pub returns-in-None : goal.returns-in-None
returns-in-None c = search (supplied-none, rules)
