use Rattle.std.proofs.Common.{rules}
use Prim.Native.Nat.{◌<◌, ℕ}
use mathlib.Core.Bool.{Bool, true}
use mathlib.Core.List.{List}
use mathlib.Core.Path.{◌≡◌}
use Rattle.meaning.specs.Case.{value_word}
use Rattle.meaning.specs.Check.{part_count}
use Rattle.laws.specs.Tests.{passing-all}
use Rattle.meaning.specs.Tests.{all_below}
use Rattle.valuecheck.proofs.Parts.{block_in, block-low, holds, no-parts, marks-none, marks-one, marks-no, marks-known, marks-found, marks-not, part_in}
use Rattle.valuecheck.proofs.parts_marked.Goals as goal

none-held : (s : List ℕ) (v : ℕ) {kind : ℕ} (t : ℕ → Bool) → kind ≡ value_word s v 0 → kind < 6 → true ≡ all_below (part_count s v) t
unfolding all_below
none-held s v t e l = rw (no-parts s v e l)

pub returns-then-kind-lt6-clause-fact : goal.returns-then-kind-lt6-clause-fact
returns-then-kind-lt6-clause-fact c = search (none-held, rules)

pub loop-i-init : goal.loop-i-init
loop-i-init c = marks-none (search (holds, rules)) (search rules)

pub bounds-marks-held : goal.bounds-marks-held
bounds-marks-held c = search (part_in, rules)

pub returns-then-not-marks-held-clause-fact : goal.returns-then-not-marks-held-clause-fact
returns-then-not-marks-held-clause-fact c = search (marks-no, rules)

pub loop-i-preserved-then-at-ne0 : goal.loop-i-preserved-then-at-ne0
loop-i-preserved-then-at-ne0 c = search (marks-one, rules)

pub bounds-blocks-b : goal.bounds-blocks-b
bounds-blocks-b c = search (block_in, rules)

pub loop-i-preserved-then-blocks-b : goal.loop-i-preserved-then-blocks-b
loop-i-preserved-then-blocks-b c = search (marks-known, rules)

pub block_marked-requires-clause-lower : goal.block_marked-requires-clause-lower
block_marked-requires-clause-lower c = search (block-low, rules)

pub returns-then-not-block_marked-clause-fact : goal.returns-then-not-block_marked-clause-fact
returns-then-not-block_marked-clause-fact c = search (marks-not, rules)

pub bounds-blocks-b-in-loop-i : goal.bounds-blocks-b-in-loop-i
bounds-blocks-b-in-loop-i c = search (block_in, rules)

pub loop-i-preserved : goal.loop-i-preserved
loop-i-preserved c = search (marks-found, rules)

pub returns-clause-fact : goal.returns-clause-fact
returns-clause-fact c = search (passing-all, rules)
