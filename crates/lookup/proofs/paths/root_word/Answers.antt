use Rattle.std.proofs.Common.{rules}
use Rattle.lookup.proofs.Attributes.{principal-word, resource-word}
use Rattle.lookup.proofs.paths.root_word.Goals as goal

pub returns-in-Principal : goal.returns-in-Principal
returns-in-Principal c = search (principal-word, rules)

pub returns-in-Resource : goal.returns-in-Resource
returns-in-Resource c = search (resource-word, rules)
