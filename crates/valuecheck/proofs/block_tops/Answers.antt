use Rattle.std.proofs.Common.{rules}
use Prim.Native.Nat.{◌/◌, ◌≤◌, ℕ}
use mathlib.Core.Bool.{true}
use mathlib.Core.List.{List}
use mathlib.Core.Path.{◌≡◌}
use native.Mathlib.Omega.{arith}
use Rattle.meaning.specs.Case.{members}
use Rattle.meaning.specs.Check.{bodies, mosts}
use Rattle.stringcheck.specs.Mosts.{member-most}
use Rattle.stringcheck.specs.Tables.{filling_none, filling_more, filling_all}
use Rattle.valuecheck.proofs.block_tops.Goals as goal

module _ (s : List ℕ) {m w : ℕ} (f : m ≡ members s) (e : w ≡ m) where
  few : bodies s ≡ true → mosts s ≡ true → w / 512 ≤ 1024
  few b h = omega (arith, member-most s h b)

  blocks-of : w / 512 ≡ members s / 512
  blocks-of = omega arith

pub loop-b-init : goal.loop-b-init
loop-b-init c = search (filling_none, few, rules)

pub loop-b-preserved : goal.loop-b-preserved
loop-b-preserved c = search (filling_more, rules)

pub returns : goal.returns
returns c = search (filling_all, blocks-of, rules)
