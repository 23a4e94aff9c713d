use Rattle.std.proofs.Common.{rules}
use Rattle.lookup.proofs.Searching.{plain-is, looked_up}
use Rattle.lookup.proofs.paths.path_lookup.Goals as goal

pub returns-then-plain_path : goal.returns-then-plain_path
returns-then-plain_path c = search (plain-is, rules)

pub returns : goal.returns
returns c = search (looked_up, rules)
