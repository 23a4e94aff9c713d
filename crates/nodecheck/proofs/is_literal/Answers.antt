-- A value that a table marks
use Rattle.std.proofs.Common.{rules}
use Prim.Native.Nat.{◌<◌, ◌≤◌, ℕ}
use borrow.Author.Tests.{le-ltb, lt-ltb}
use lib.Dec.{ltb}
use lib.ListN.{get_or}
use mathlib.Core.Bool.{Bool, false, true}
use mathlib.Core.List.{List}
use mathlib.Core.Path.{◌∙◌, ◌≡◌, sym}
use native.Mathlib.Omega.{arith}
use Rattle.meaning.specs.Case.{values}
use Rattle.meaning.specs.Check.{literal, mosts}
use Rattle.laws.specs.Tests.{after, stop}
use Rattle.meaning.specs.Tests.{◌and◌}
use Rattle.listruns.specs.Blocks.{Literals}
use Rattle.stringcheck.specs.Mosts.{value-most}
use Rattle.nodecheck.proofs.is_literal.Goals as goal

few : (s : List ℕ) {k v : ℕ} → v < k → k ≡ values s → mosts s ≡ true → v < 16384
few s l e m = omega (arith, value-most s m)

held : (s : List ℕ) (table : List Bool) {k v : ℕ} → v < k → k ≡ values s → Literals s table → get_or table v false ≡ (ltb v (values s) and literal s v)
held s table {k} {v} l e t = let l' : v < values s = omega arith in t.at v l' ∙ sym (after (lt-ltb _ _ l'))

no_value : (s : List ℕ) {k : ℕ} (v : ℕ) (b : Bool) → k ≤ v → k ≡ values s → false ≡ (ltb v (values s) and b)
no_value s v b l e = sym (stop _ (le-ltb _ _ (rw e at l)))

pub returns-else-v-value_count : goal.returns-else-v-value_count
returns-else-v-value_count c = search (no_value, rules)

pub bounds-literals-v : goal.bounds-literals-v
bounds-literals-v c = search (few, rules)

pub returns-then-v-value_count : goal.returns-then-v-value_count
returns-then-v-value_count c = search (held, rules)
