-- Cells that stay: the tables of names in them stay
use Rattle.std.specs.Prelude.{Result, Ok}
use mathlib.Core.Path.{◌≡◌, refl, sym, ap, ◌∙◌}
use mathlib.Core.List.{List}
use Prim.Native.Nat.{ℕ, ◌≤◌}
use native.Mathlib.Omega.{arith}
use lib.ListN.{length}
use Rattle.jsontext.specs.declared.Bad.{Bad}
use Rattle.jsontext.specs.Reading.{Read}
use Rattle.jsontext.specs.Values.{Name}
use Rattle.jsonnames.specs.Sorted.{Table}
use Rattle.jsonnames.proofs.Stays.{sorted-kept}
use Rattle.jsonmarks.specs.Marks.{Below}
use Rattle.jsonkeys.specs.declared.Turn.{Turn}
use Rattle.jsonkeys.specs.Keys.{Passed}

pub below_self : {line : List ℕ} {used : ℕ} {names : List ℕ} → Below line used names names
below_self = record { long = refl; same = λ k h. refl; owner = λ f h o. o; marks = λ f h o k l. refl }

pub below_both : {line : List ℕ} {used : ℕ} {a b c : List ℕ} → Below line used a b → Below line used b c → Below line used a c
below_both p q =
    record {
      long = q.long ∙ p.long;
      same = λ k h. q.same k h ∙ p.same k h;
      owner = λ f h o. p.owner f h (q.owner f h o);
      marks = λ f h o k l. q.marks f h o k (omega (arith, p.long)) ∙ p.marks f h (q.owner f h o) k l;
    }

pub below_less : {line : List ℕ} {used more : ℕ} {a b : List ℕ} → used ≤ more → Below line more a b → Below line used a b
below_less l p = record { long = p.long; same = λ k h. p.same k (omega arith); owner = λ f h. p.owner f (omega arith); marks = λ f h. p.marks f (omega arith) }

-- a table is its cells
pub table_kept : {line names after : List ℕ} {first end : ℕ} {seen : List Name} → Below line end names after → Table line names first end seen → Table line after first end seen
table_kept b t =
    record {
      sorted = sorted-kept b.long b.same t.sorted;
      missing = λ n l. t.missing n (λ k f h s. l k f h (rw (b.same k h) s));
      found = λ p n h. t.found p n (record { cell = h.cell; from = h.from; below = h.below; is = sym (b.same h.cell h.below) ∙ h.is; spells = h.spells });
    }

-- what a part that was passed leaves
pub passed-within : {A : Type 0} {line names last : List ℕ} {used at e : ℕ} {r : Result ℕ Bad} {m : Read A} → r ≡ Ok e → Passed line names last used at r m → e ≤ length line
passed-within q p = (p.told.stands _ q).within

pub passed-long : {A : Type 0} {line names last : List ℕ} {used at : ℕ} {r : Result ℕ Bad} {m : Read A} → Passed line names last used at r m → length last ≡ length names
passed-long p = p.below.long

-- what a turn is, where it was told with no fault
pub turn-is : {x : Result Turn Bad} {s t : Turn} → x ≡ Ok s → s ≡ t → x ≡ Ok t
turn-is a b = a ∙ ap Ok b
