use Rattle.std.proofs.Common.{rules}
use Prim.Native.Nat.{ℕ}
use lib.ListN.{get_or}
use mathlib.Core.Bool.{Bool, false}
use mathlib.Core.List.{List}
use mathlib.Core.Path.{◌∙◌, ◌≡◌, ap}
use Rattle.laws.specs.Tests.{passing-none, passing-more, passing-no, passing-all}
use Rattle.valuecheck.proofs.Parts.{held_in}
use Rattle.valuecheck.proofs.block_marked.Goals as goal

mark_of : {h held m : ℕ} (marks : List Bool) → held ≡ m → h ≡ held → get_or marks h false ≡ get_or marks m false
mark_of marks e f = ap (λ (x : ℕ). get_or marks x false) (f ∙ e)

pub loop-i-init : goal.loop-i-init
loop-i-init c = search (passing-none, rules)

pub bounds-marks-held : goal.bounds-marks-held
bounds-marks-held c = search (held_in, rules)

pub returns-then-not-marks-held : goal.returns-then-not-marks-held
returns-then-not-marks-held c = search (passing-no, mark_of, rules)

pub loop-i-preserved : goal.loop-i-preserved
loop-i-preserved c = search (passing-more, mark_of, rules)

pub returns : goal.returns
returns c = search (passing-all, rules)
