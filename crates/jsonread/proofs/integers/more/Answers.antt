use Rattle.std.proofs.Common.{rules}
use Rattle.jsonread.proofs.Counts.{more-beyond, more_within}
use Rattle.jsonread.proofs.integers.more.Goals as goal

pub returns-then-n-gt922337203685477580 : goal.returns-then-n-gt922337203685477580
returns-then-n-gt922337203685477580 c = search (more-beyond, rules)

pub returns : goal.returns
returns c = search (more_within, rules)
