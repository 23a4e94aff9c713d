-- A run of items of one word stays in the lists
use Rattle.std.proofs.Common.{rules}
use Prim.Native.Nat.{◌*◌, ◌+◌, ℕ}
use lib.Dec.{leb}
use mathlib.Core.List.{List}
use mathlib.Core.Path.{◌≡◌, refl}
use native.Mathlib.Omega.{arith}
use Rattle.meaning.specs.Case.{lists}
use Rattle.meaning.specs.Check.{in_table}
use Rattle.listruns.proofs.in_lists.Goals as goal

in-as : (s : List ℕ) {first items f j n w : ℕ} → w ≡ n → n ≡ lists s → f ≡ first → j ≡ items → leb (f + j) w ≡ in_table (lists s) 1 first items
in-as s {first} {items} {f} {j} d e a b = let q : first + 1 * items ≡ f + j = omega arith in rw (q, d, e) refl

pub returns : goal.returns
returns c = search (in-as, rules)
