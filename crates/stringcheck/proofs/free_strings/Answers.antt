use Rattle.std.proofs.Common.{rules}
use Prim.Native.Nat.{◌≤◌, ℕ}
use mathlib.Core.Bool.{Bool, true}
use mathlib.Core.Path.{◌∙◌, ◌≡◌, ap}
use native.Mathlib.Omega.{arith}
use Rattle.meaning.specs.Case.{strings, text}
use Rattle.meaning.specs.Text.{free}
use Rattle.stringcheck.specs.Mosts.{string-most}
use Rattle.stringcheck.specs.Tables.{filling_none, filling_more, filling_all}
use mathlib.Core.List.{List}
use Rattle.meaning.specs.Check.{mosts}
use Rattle.stringcheck.proofs.free_strings.Goals as goal

few : (s : List ℕ) {n : ℕ} → mosts s ≡ true → n ≡ strings s → n ≤ 16384
few s m e = omega (arith, string-most s m)

free_of : (s t : List ℕ) (k b : ℕ) {r : Bool} → r ≡ free b t → t ≡ text s k → r ≡ free b (text s k)
free_of s t k b e f = e ∙ ap (free b) f

pub loop-k-init : goal.loop-k-init
loop-k-init c = search (filling_none, few, rules)

pub loop-k-preserved : goal.loop-k-preserved
loop-k-preserved c = search (filling_more, free_of, rules)

pub returns : goal.returns
returns c = search (filling_all, rules)
