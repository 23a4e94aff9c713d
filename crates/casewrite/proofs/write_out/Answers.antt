use Rattle.std.proofs.Common.{rules}
use Rattle.casewrite.proofs.Rules.{out-short, out-fits, out_written}
use Rattle.casewrite.proofs.write_out.Goals as goal

pub returns-then-out-f : goal.returns-then-out-f
returns-then-out-f c = search (out-short, rules)

pub write_case-requires : goal.write_case-requires
write_case-requires c = search (out-fits, rules)

pub returns : goal.returns
returns c = search (out_written, rules)
