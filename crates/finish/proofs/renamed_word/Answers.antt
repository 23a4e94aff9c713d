use Rattle.std.proofs.Common.{rules}
use Rattle.finish.proofs.Parts.{renamed-new, renamed-kept}
use Rattle.finish.proofs.renamed_word.Goals as goal

pub returns-then-is_name : goal.returns-then-is_name
returns-then-is_name c = search (renamed-new, rules)

pub returns : goal.returns
returns c = search (renamed-kept, rules)
