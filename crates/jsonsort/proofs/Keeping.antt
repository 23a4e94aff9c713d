-- A name that is not among those kept is put into their last run
use mathlib.Core.Path.{◌≡◌, refl, sym, subst}
use mathlib.Core.List.{List}
use Prim.Native.Nat.{ℕ}
use native.Mathlib.Omega.{arith}
use Rattle.std.specs.Prelude.{Option, Some, None}
use Rattle.jsonnames.specs.Sorted.{Spells, edge}
use Rattle.jsonnames.specs.Runs.{PutDue, Grown, Stored}
use Rattle.jsonsort.specs.Sort.{KeepDue}

module _ {line names : List ℕ} {first stop at : ℕ} (d : KeepDue line names first stop at) where
  pub keep-due : PutDue line names first (edge first stop) stop at
  keep-due = record { sorted = d.sorted; last-is = refl; room = d.room; named = d.named; lacks = λ n s k f h u. d.lacks n s k f (omega arith) u }

  -- a name that stands already is not put
  pub keep-grown : {after : List ℕ} {y : Option ℕ} → Stored line names after first stop at y → Grown line names after first stop at
  keep-grown {y = None} s = s.new refl
  keep-grown {y = Some p} s =
      let h = s.there p refl d.named.name d.named.spells in
      absurd (d.lacks d.named.name d.named.spells h.cell h.from h.below (subst (λ (q : ℕ). Spells line q d.named.name) (sym h.is) h.spells))
