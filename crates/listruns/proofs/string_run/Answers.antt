-- A run of strings
use Rattle.std.proofs.Common.{rules}
use mathlib.Core.Path.{◌∙◌, refl, ◌≡◌}
use Rattle.meaning.specs.Check.{string_run, in_table}
use Prim.Native.Nat.{ℕ, ◌+◌}
use mathlib.Core.Bool.{Bool}
use mathlib.Core.List.{List}
use lib.Dec.{ltb}
use Rattle.meaning.specs.Tests.{◌and◌, all_below}
use Rattle.meaning.specs.Case.{strings, lists, list}
use Rattle.listruns.proofs.string_run.Goals as goal

bound-read : (s : List ℕ) (first items : ℕ) {k : ℕ} {r : Bool} → k ≡ strings s → r ≡ (in_table (lists s) 1 first items and all_below items (λ x. ltb (list s (first + x)) k)) → r ≡ string_run s first items
unfolding string_run
bound-read s first items f e = e ∙ rw f refl

pub returns : goal.returns
returns c = search (bound-read, rules)
