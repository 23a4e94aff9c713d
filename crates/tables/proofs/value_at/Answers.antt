-- A value is read of its words
use Rattle.std.proofs.Common.{rules}
use Rattle.tables.proofs.Choices.{value-read-at}
use Rattle.tables.proofs.value_at.Goals as goal

pub returns : goal.returns
returns c = search (value-read-at, rules)
