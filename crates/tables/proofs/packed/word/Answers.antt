use Rattle.std.proofs.Common.{rules}
use Rattle.tables.proofs.Beyond.{no_word}
use Rattle.tables.proofs.packed.word.Goals as goal

pub returns-then-list-i : goal.returns-then-list-i
returns-then-list-i c = search (no_word, rules)
