-- How many bytes a record of each table has
use Rattle.std.proofs.Common.{rules}
use mathlib.Core.Path.{◌≡◌, sym, ap}
use mathlib.Core.Logic.{◌⊎◌, inl, inr, ⊎_elim}
use lib.Dec.{lit<}
use native.Mathlib.Omega.{arith}
use Prim.Native.Nat.{ℕ, ◌<◌}
use Rattle.meaning.specs.Tests.{pick}
use Rattle.meaning.specs.Check.{record_bytes}
use Rattle.stringcheck.proofs.record_bytes.Goals as goal

last : (k : ℕ) → k < 7 → (((k ≡ 0) ⊎ (k ≡ 2)) → ⊥) → (k ≡ 1 → ⊥) → (k ≡ 3 → ⊥) → (k ≡ 4 → ⊥) → (k ≡ 5 → ⊥) → 1 ≡ record_bytes k
unfolding pick
last k h a b c d e =
    let a0 : k ≡ 0 → ⊥ = λ q. a (inl q) in
    let a2 : k ≡ 2 → ⊥ = λ q. a (inr q) in
    let six : k ≡ 6 = omega arith in
    sym (ap record_bytes six)

pub returns-in-0 : goal.returns-in-0
unfolding pick
returns-in-0 c = ⊎_elim (λ e. (sym (ap record_bytes e), lit< tt)) (λ e. (sym (ap record_bytes e), lit< tt)) c.in-0.is

pub returns-in-1 : goal.returns-in-1
unfolding pick
returns-in-1 c = search rules

pub returns-in-3 : goal.returns-in-3
unfolding pick
returns-in-3 c = search rules

pub returns-in-4 : goal.returns-in-4
unfolding pick
returns-in-4 c = search rules

pub returns-in-5 : goal.returns-in-5
unfolding pick
returns-in-5 c = search rules

pub returns-in_default : goal.returns-in_default
returns-in_default c = search (last, rules)
