use Rattle.std.proofs.Common.{rules}
use Rattle.jsonparts.proofs.Items.{namespace-end, namespace-not, namespace-there}
use Rattle.jsonparts.proofs.texts.namespace_at.Goals as goal

pub returns-then-line-at : goal.returns-then-line-at
returns-then-line-at c = search (namespace-end, rules)

pub returns-then-c-ne91 : goal.returns-then-c-ne91
returns-then-c-ne91 c = search (namespace-not, rules)

pub returns : goal.returns
returns c = search (namespace-there, rules)
