use Rattle.std.proofs.Common.{rules}
use Prim.Native.Nat.{ℕ, ◌<◌}
use mathlib.Core.List.{List}
use mathlib.Core.Path.{◌≡◌}
use Rattle.meaning.specs.Check.{part_count}
use Rattle.meaning.specs.Tests.{greatest}
use Rattle.valuecheck.proofs.Parts.{block_in, block-low, holds, no-parts, deep_none, deep_one, deep-known, deep-found, deep-all, part_in}
use Rattle.meaning.specs.Case.{value_word}
use Rattle.valuecheck.proofs.deepest.Goals as goal

none-held : (s : List ℕ) (v : ℕ) {kind : ℕ} (f : ℕ → ℕ) → kind ≡ value_word s v 0 → kind < 6 → 0 ≡ greatest (part_count s v) f
unfolding greatest
none-held s v f e l = rw (no-parts s v e l)

pub returns-then-value_word-lt6-clause-value : goal.returns-then-value_word-lt6-clause-value
returns-then-value_word-lt6-clause-value c = search (none-held, rules)

pub loop-i-init : goal.loop-i-init
loop-i-init c = deep_none (search (holds, rules)) (search rules)

pub bounds-depths-held : goal.bounds-depths-held
bounds-depths-held c = search (part_in, rules)

pub loop-i-preserved-then-at-ne0 : goal.loop-i-preserved-then-at-ne0
loop-i-preserved-then-at-ne0 c = search (deep_one, rules)

pub bounds-blocks-b : goal.bounds-blocks-b
bounds-blocks-b c = search (block_in, rules)

pub loop-i-preserved-then-known-ne0 : goal.loop-i-preserved-then-known-ne0
loop-i-preserved-then-known-ne0 c = search (deep-known, rules)

pub block_depth-found-requires-clause-lower : goal.block_depth-found-requires-clause-lower
block_depth-found-requires-clause-lower c = search (block-low, rules)

pub bounds-blocks-b-in-loop-i : goal.bounds-blocks-b-in-loop-i
bounds-blocks-b-in-loop-i c = search (block_in, rules)

pub loop-i-preserved : goal.loop-i-preserved
loop-i-preserved c = search (deep-found, rules)

pub returns-clause-value : goal.returns-clause-value
returns-clause-value c = search (deep-all, rules)
