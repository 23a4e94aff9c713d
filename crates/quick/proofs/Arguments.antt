-- Arguments without variables: what each term wants, whether its field fits, and all of them in order
use mathlib.Core.Path.{◌≡◌, refl, sym, ap, subst, ◌∙◌}
use mathlib.Core.Bool.{Bool, true, false}
use mathlib.Core.List.{List}
use mathlib.Core.Option.{Option, none, some}
use Prim.Native.Nat.{ℕ, suc, ◌+◌, ◌-◌, ◌*◌, ◌<◌, ◌≤◌}
use native.Mathlib.Omega.{arith}
use Rattle.meaning.specs.declared.Env.{Env}
use Rattle.meaning.specs.declared.Binding.{Binding}
use Rattle.meaning.specs.declared.Node.{Node}
use Rattle.meaning.specs.declared.Node.TheVariants.{Wildcard}
use Rattle.meaning.specs.declared.Run.{Run}
use Rattle.meaning.specs.Tests.{is_some, only_if}
use Rattle.meaning.specs.Check.{Checked}
use Rattle.meaning.specs.Case.{Case, run, list, point_at, node_at, case_of}
use Rattle.meaning.specs.Equal.{Bound}
use Rattle.meaning.specs.Look.{field_at}
use Rattle.meaning.specs.Rows.{Row, in_cells, same_cell}
use Rattle.meaning.specs.Meaning.{names}
use Rattle.std.specs.Prelude.{Option as Answer, Some, None}
use Rattle.matching.specs.Asking.{walks, Arguments, Fixes, argument_row, arguments_row}
use Rattle.matching.specs.Laws.{going_on, no_arguments, first-argument}
use Rattle.scanning.specs.Plans.{meets, Wants}
use Rattle.scanning.proofs.Fitted.{want-any, want-known, want_open}
use Rattle.matching.proofs.Fields.{Resolves, resolves-fixed}
use Rattle.quick.specs.Tells.{Grounds, KeepsOne, OneBy, FitsOne, FitsAll}

-- ---- what a term wants

module _ (s : List ℕ) (asked : ℕ) {nd : Node} where
  pub ground_any : nd ≡ Wildcard → Grounds s asked nd (Some (record { tag = 0; bits = 0 }))
  ground_any is = record { is = λ env. want-any s asked env is }

  pub ground_open : Grounds s asked nd None
  ground_open = record { is = λ env. want_open s asked env }

  pub ground_known : {b : Binding} {p : Bool} → Resolves nd → Fixes s asked nd (in_cells b.tag b.bits) → p ≡ is_some (in_cells b.tag b.bits) → p ≡ true → Grounds s asked nd (Some b)
  ground_known h f e y = record { is = λ env. want-known s asked env (f.is env (resolves-fixed nd h)) e y }

-- ---- one argument

same_meets : (c : Case) {y : Bool} (w f : Option Bound) → is_some f ≡ true → is_some w ≡ true → y ≡ same_cell c w f → y ≡ meets c w f
same_meets c w none h k e = unfold is_some in cc
same_meets c none (some f) h k e = unfold is_some in cc
same_meets c (some w) (some f) h k e = unfold meets same_cell in e

module _ {s : List ℕ} {asked : ℕ} (i a t first count : ℕ) {nd : Node} {b : Binding} {f : Option Bound} {p : Bool} (et : t ≡ list s (a + 2)) (en : nd ≡ node_at s t) (g : Grounds s asked nd (Some b)) (ef : first ≡ list s a) (ec : count ≡ list s (a + 1)) (is : f ≡ field_at (case_of s) (point_at s i) (names (case_of s) (run first count))) (ep : p ≡ is_some f) where
  keeps : (y : Bool) → y ≡ meets (case_of s) (in_cells b.tag b.bits) f → KeepsOne s asked i a y
  keeps y e = record { is = go }
    where
      here : nd ≡ node_at s (list s (a + 2))
      here = en ∙ ap (node_at s) et

      field : f ≡ field_at (case_of s) (point_at s i) (names (case_of s) (run (list s a) (list s (a + 1))))
      field = rw (← ef, ← ec) is

      go : (env : Env) (new : Row) → argument_row s asked env i a new ≡ only_if y new
      go env new = unfold argument_row in rw (← field, ← here, e) ((g.is env).says.is f new)

  pub fit-missing : p ≡ false → FitsOne s asked i a (Some false)
  fit-missing h = record { says = keeps false (go (in_cells b.tag b.bits) f (sym ep ∙ h)) }
    where
      go : (w f : Option Bound) → is_some f ≡ false → false ≡ meets (case_of s) w f
      go none none h = unfold meets in refl
      go (some w) none h = unfold meets in refl
      go w (some f) h = unfold is_some in cc

  module _ {o : Bool} (there : p ≡ true) (eo : o ≡ is_some (in_cells b.tag b.bits)) where
    pub fit-any : o ≡ false → FitsOne s asked i a (Some true)
    fit-any ho = record { says = keeps true (go (in_cells b.tag b.bits) f (sym ep ∙ there) (sym eo ∙ ho)) }
      where
        go : (w f : Option Bound) → is_some f ≡ true → is_some w ≡ false → true ≡ meets (case_of s) w f
        go w none h k = unfold is_some in cc
        go none (some f) h k = unfold meets in refl
        go (some w) (some f) h k = unfold is_some in cc

    module _ {y : Bool} (ho : o ≡ true) (ey : y ≡ same_cell (case_of s) (in_cells b.tag b.bits) f) where
      pub fit-equal : FitsOne s asked i a (Some y)
      fit-equal = record { says = keeps y (same_meets (case_of s) (in_cells b.tag b.bits) f (sym ep ∙ there) (sym eo ∙ ho) ey) }

-- ---- all of them: what comes of those left, whatever is bound, is what was to come

pub record Trying (s : List ℕ) (asked i first count k : ℕ) : Type 0 where
  pub low : k ≤ count
  pub goes : (env : Env) (new : Row) → arguments_row s asked env i (first + 3 * k) (count - k) new ≡ arguments_row s asked env i first count new

pub try_start : (s : List ℕ) (asked i first count : ℕ) → Trying s asked i first count 0
try_start s asked i first count = record { low = omega arith; goes = λ env new. let z : first + 3 * 0 ≡ first = omega arith in let y : count - 0 ≡ count = omega arith in rw (z, y) refl }

module _ {s : List ℕ} {asked i first count k : ℕ} {args : Run} (ef : first ≡ args.first) (ec : count ≡ args.count) (g : Trying s asked i first count k) where
  pub try_all : count ≤ k → FitsAll s asked i args.first args.count (Some true)
  unfolding only_if
  try_all h = rw (← ef, ← ec) (record {
    says = record {
      is = λ env new.
          let z : count - k ≡ 0 = omega arith in
          sym (g.goes env new) ∙ ap (λ (n : ℕ). arguments_row s asked env i (first + 3 * k) n new) z ∙ no_arguments s asked env i (first + 3 * k) new;
    };
  })

  module _ {y : Bool} (checked : Checked s) (leaves : Arguments s args.first args.count) (lt : k < count) (f : FitsOne s asked i (first + 3 * k) (Some y)) where
    leaf-here : walks (node_at s (list s (first + 3 * k + 2))) ≡ false
    leaf-here = rw ef (leaves.leaf k (omega arith))

    one_more : (env : Env) (new : Row) → going_on (only_if y new) (arguments_row s asked env i (first + 3 * (k + 1)) (count - (k + 1))) ≡ arguments_row s asked env i first count new
    one_more env new =
        let z : first + 3 * (k + 1) ≡ first + 3 * k + 3 = omega arith in
        let y : count - k ≡ suc (count - (k + 1)) = omega arith in
        let row = f.says.is env new in
        let first_of = first-argument checked asked env i (first + 3 * k) (count - (k + 1)) new leaf-here in
        rw (z, ← row, ← first_of, ← y) (g.goes env new)

    pub try_next : y ≡ true → Trying s asked i first count (k + 1)
    unfolding going_on only_if
    try_next h = record { low = omega arith; goes = λ env new. rw h at (one_more env new) }

    pub try_stop : y ≡ false → FitsAll s asked i args.first args.count (Some false)
    unfolding going_on only_if
    try_stop h = rw (← ef, ← ec) (record { says = record { is = λ env new. sym (rw h at (one_more env new)) } })
