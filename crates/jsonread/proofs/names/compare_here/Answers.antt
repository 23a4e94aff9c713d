use Rattle.std.proofs.Common.{rules}
use Rattle.jsonread.proofs.Spelling.{alike_differs}
use Rattle.jsonread.proofs.names.compare_here.Goals as goal

pub returns : goal.returns
returns c = search (alike_differs, rules)
