-- The nodes that look back, and the points that a yes lists, by the variant
use Prim.Native.Nat.{ℕ, ◌+◌, ◌-◌, ◌≤◌, ◌<◌}
use mathlib.Core.Path.{◌≡◌, refl, ap, sym, ◌∙◌}
use mathlib.Core.Bool.{Bool, true, false}
use mathlib.Core.List.{List, [], ◌∷◌}
use native.Mathlib.Omega.{arith}
use native.Mathlib.Numerals.{add-one}
use types.Run.{OneOf, miss}
use denote.Enum.Declared.{tag_of}
use Rattle.meaning.specs.declared.Interval.{Interval}
use Rattle.meaning.specs.declared.NodeNo.{NodeNo}
use Rattle.meaning.specs.contracts.Node.{the_type}
use Rattle.meaning.specs.declared.Node.{Node}
use Rattle.meaning.specs.declared.Node.TheVariants.{And, Or, Not, Formerly, Previous, Since, Predicate, Comparison, Exists, Tp, Literal, Context, Scope, Variable, Wildcard, Aggregate, Arithmetic, Sum, Count, Broken}
use Rattle.meaning.specs.Tests.{is_some}
use Rattle.meaning.specs.Case.{places}
use Rattle.meaning.specs.Carried.{look_of, looks_back, carried_by}
use Rattle.std.specs.Prelude.{Option as Answer, Some, None}
use Rattle.std.specs.Option.{is_some as there}
use Rattle.carried.specs.declared.Look.{Look}
use Rattle.carried.specs.declared.Look.TheVariants as Loo
use Rattle.carried.specs.Shows.{as_look, looking, window_in, Points}

module _ (nd : Node) where
  pub look-formerly : {within : Interval} {x : NodeNo} → nd ≡ Formerly within x → looking (Some (Loo.Formerly within x)) ≡ look_of nd
  unfolding looking as_look look_of
  look-formerly q = sym (ap look_of q)

  pub look-previous : {within : Interval} {x : NodeNo} → nd ≡ Previous within x → looking (Some (Loo.Previous within x)) ≡ look_of nd
  unfolding looking as_look look_of
  look-previous q = sym (ap look_of q)

  pub look-since : {within : Interval} {l r : NodeNo} → nd ≡ Since l r within → looking (Some (Loo.Since l r within)) ≡ look_of nd
  unfolding looking as_look look_of
  look-since q = sym (ap look_of q)

-- what is none of them
abbrev others : List ℕ
others = 0 ∷ 1 ∷ 2 ∷ 6 ∷ 7 ∷ 8 ∷ 9 ∷ 10 ∷ 11 ∷ 12 ∷ 13 ∷ 14 ∷ 15 ∷ 16 ∷ 17 ∷ 18 ∷ 19 ∷ []

pub look-other : (nd : Node) → OneOf (0 ∷ 1 ∷ 2 ∷ 6 ∷ 7 ∷ 8 ∷ 9 ∷ 10 ∷ 11 ∷ 12 ∷ 13 ∷ 14 ∷ 15 ∷ 16 ∷ 17 ∷ 18 ∷ 19 ∷ []) (tag_of the_type nd) → looking None ≡ look_of nd
unfolding looking as_look look_of
look-other (And l r) h = refl
look-other (Or l r) h = refl
look-other (Not n) h = refl
look-other (Formerly within n) h = absurd (miss others 3 tt h)
look-other (Previous within n) h = absurd (miss others 4 tt h)
look-other (Since l r within) h = absurd (miss others 5 tt h)
look-other (Predicate namespace action kind args) h = refl
look-other (Comparison op l r) h = refl
look-other (Exists x n) h = refl
look-other (Tp x) h = refl
look-other (Literal v) h = refl
look-other (Context path) h = refl
look-other (Scope root path) h = refl
look-other (Variable x) h = refl
look-other Wildcard h = refl
look-other (Aggregate n) h = refl
look-other (Arithmetic op l r) h = refl
look-other (Sum x binders n) h = refl
look-other (Count binders n) h = refl
look-other Broken h = refl

-- ---- its window

module _ {look : Look} where
  pub window-formerly : {within : Interval} {x : NodeNo} → look ≡ Loo.Formerly within x → within ≡ window_in (as_look look)
  unfolding as_look window_in
  window-formerly q = sym (ap (λ (k : Look). window_in (as_look k)) q)

  pub window-previous : {within : Interval} {x : NodeNo} → look ≡ Loo.Previous within x → within ≡ window_in (as_look look)
  unfolding as_look window_in
  window-previous q = sym (ap (λ (k : Look). window_in (as_look k)) q)

  pub window-since : {within : Interval} {l r : NodeNo} → look ≡ Loo.Since l r within → within ≡ window_in (as_look look)
  unfolding as_look window_in
  window-since q = sym (ap (λ (k : Look). window_in (as_look k)) q)

-- ---- whether it looks back

pub looks-as : (nd : Node) (look : Answer Look) {y : Bool} → y ≡ there look → looking look ≡ look_of nd → y ≡ looks_back nd
unfolding looks_back looking is_some
looks-as nd (Some look) h is = h ∙ ap is_some is
looks-as nd None h is = h ∙ ap is_some is

-- ---- how many points

module _ {look : Look} {i j : ℕ} (le : j ≤ i) (lt : i < 16384) where
  points-as : {k : Look} (n : ℕ) → look ≡ k → places j 1 n ≡ carried_by (as_look k) i j → j + n ≤ 16384 → Points look i j n
  points-as n q is few = record { is = is ∙ sym (ap (λ (k : Look). carried_by (as_look k) i j) q); few = few }

  pub points-formerly : {within : Interval} {x : NodeNo} → look ≡ Loo.Formerly within x → Points look i j 1
  unfolding as_look carried_by places
  points-formerly q = points-as 1 q refl (omega arith)

  pub points-previous : {within : Interval} {x : NodeNo} → look ≡ Loo.Previous within x → Points look i j 1
  unfolding as_look carried_by places
  points-previous q = points-as 1 q refl (omega arith)

  pub points-since : {within : Interval} {l r : NodeNo} → look ≡ Loo.Since l r within → Points look i j (i - j + 1)
  unfolding as_look carried_by
  points-since q = points-as (i - j + 1) q (ap (places j 1) (add-one (i - j))) (omega arith)
