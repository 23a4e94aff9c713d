-- What a node resolves to, arm by arm, and an unbound variable side
use mathlib.Core.Path.{◌≡◌, refl, sym, ◌∙◌, ap}
use mathlib.Core.Bool.{Bool, true, false, not}
use mathlib.Core.List.{List, [], ◌∷◌}
use mathlib.Core.Option.{Option, none, some}
use Prim.Native.Nat.{ℕ}
use types.Run.{OneOf, miss}
use denote.Enum.Declared.{tag_of}
use Rattle.meaning.specs.contracts.Node.{the_type}
use Rattle.meaning.specs.declared.Env.{Env}
use Rattle.meaning.specs.declared.Node.{Node}
use Rattle.meaning.specs.declared.Node.TheVariants.{And, Or, Not, Formerly, Previous, Since, Predicate, Comparison, Exists, Tp, Literal, Context, Scope, Variable, Wildcard, Aggregate, Arithmetic, Sum, Count, Broken}
use Rattle.meaning.specs.declared.Root.{Root}
use Rattle.meaning.specs.declared.Run.{Run}
use Rattle.meaning.specs.declared.ValNo.{ValNo}
use Rattle.meaning.specs.Tests.{pick, is_some, only_if}
use Rattle.meaning.specs.Check.{Checked, path_run}
use Rattle.meaning.specs.Case.{point_at, value_at, node_at, case_of}
use Rattle.meaning.specs.Equal.{Bound, bound_of}
use Rattle.meaning.specs.Look.{context_at, scope_at}
use Rattle.meaning.specs.Rows.{at, row_of, in_cells}
use Rattle.meaning.specs.Meaning.{Question, Shape, anything, variable, resolved, names, unbound}
use Rattle.std.specs.Prelude.{Some, None}
use Rattle.matching.specs.Asking.{Standing, asking, leaf_value, shape_of, is_variable, Fixes, unbound_at, variable_of}
use Rattle.laws.specs.Searched.{context-path, scope_path}
use Rattle.matching.specs.Laws.{shape_is}

-- a node of a checked case has a path without dots
pub stands : {s : List ℕ} {nd : Node} (n : ℕ) → nd ≡ node_at s n → Standing s nd
stands n e = record { number = n; is = e }

pub path_of_context : {s : List ℕ} {nd : Node} {path : Run} → Checked s → Standing s nd → nd ≡ Context path → path_run s path.first path.count ≡ true
path_of_context {path = path} c o e = context-path c o.number path (sym o.is ∙ e)

pub path_of_scope : {s : List ℕ} {nd : Node} {root : Root} {path : Run} → Checked s → Standing s nd → nd ≡ Scope root path → path_run s path.first path.count ≡ true
path_of_scope {root = root} {path = path} c o e = scope_path c o.number root path (sym o.is ∙ e)

module _ (s : List ℕ) (asked : ℕ) (nd : Node) (b : Option Bound) where
  pub fixed-literal : (v : ValNo) → nd ≡ Literal v → b ≡ some (bound_of v.0 (value_at s v.0)) → Fixes s asked nd b
  fixed-literal v is e = record { is = λ env h. unfold leaf_value in rw is e }

  pub fixed-context : (path : Run) → nd ≡ Context path → b ≡ context_at (case_of s) (point_at s asked) (names (case_of s) path) → Fixes s asked nd b
  fixed-context path is e = record { is = λ env h. unfold leaf_value in rw is e }

  pub fixed_scope : (root : Root) (path : Run) → nd ≡ Scope root path → b ≡ scope_at (case_of s) (point_at s asked) root (names (case_of s) path) → Fixes s asked nd b
  fixed_scope root path is e = record { is = λ env h. unfold leaf_value in rw is e }

-- what is no literal, context or scope; a variable, too
abbrev pub Other : Node → Type 0
Other nd = OneOf (0 ∷ 1 ∷ 2 ∷ 3 ∷ 4 ∷ 5 ∷ 6 ∷ 7 ∷ 8 ∷ 9 ∷ 13 ∷ 14 ∷ 15 ∷ 16 ∷ 17 ∷ 18 ∷ 19 ∷ []) (tag_of the_type nd)

module _ (s : List ℕ) (asked : ℕ) where
  other-fixed : (env : Env) (nd : Node) → Other nd → is_variable (shape_of nd) ≡ false → in_cells 0 0 ≡ leaf_value s asked env nd
  unfolding leaf_value in_cells pick shape_of is_variable
  other-fixed env (And l r) h f = refl
  other-fixed env (Or l r) h f = refl
  other-fixed env (Not n) h f = refl
  other-fixed env (Formerly span n) h f = refl
  other-fixed env (Previous span n) h f = refl
  other-fixed env (Since l r span) h f = refl
  other-fixed env (Predicate namespace action kind args) h f = refl
  other-fixed env (Comparison op l r) h f = refl
  other-fixed env (Exists x n) h f = refl
  other-fixed env (Tp x) h f = refl
  other-fixed env (Literal v) h f = absurd (miss (0 ∷ 1 ∷ 2 ∷ 3 ∷ 4 ∷ 5 ∷ 6 ∷ 7 ∷ 8 ∷ 9 ∷ 13 ∷ 14 ∷ 15 ∷ 16 ∷ 17 ∷ 18 ∷ 19 ∷ []) 10 tt h)
  other-fixed env (Context path) h f = absurd (miss (0 ∷ 1 ∷ 2 ∷ 3 ∷ 4 ∷ 5 ∷ 6 ∷ 7 ∷ 8 ∷ 9 ∷ 13 ∷ 14 ∷ 15 ∷ 16 ∷ 17 ∷ 18 ∷ 19 ∷ []) 11 tt h)
  other-fixed env (Scope root path) h f = absurd (miss (0 ∷ 1 ∷ 2 ∷ 3 ∷ 4 ∷ 5 ∷ 6 ∷ 7 ∷ 8 ∷ 9 ∷ 13 ∷ 14 ∷ 15 ∷ 16 ∷ 17 ∷ 18 ∷ 19 ∷ []) 12 tt h)
  other-fixed env (Variable x) h f = cc
  other-fixed env Wildcard h f = refl
  other-fixed env (Aggregate n) h f = refl
  other-fixed env (Arithmetic op l r) h f = refl
  other-fixed env (Sum x binders n) h f = refl
  other-fixed env (Count binders n) h f = refl
  other-fixed env Broken h f = refl

  pub fixed-other : (nd : Node) → Other nd → Fixes s asked nd (in_cells 0 0)
  fixed-other nd h = record { is = λ env f. other-fixed env nd h f }

-- what is no variable
abbrev pub Constant : Node → Type 0
Constant nd = OneOf (0 ∷ 1 ∷ 2 ∷ 3 ∷ 4 ∷ 5 ∷ 6 ∷ 7 ∷ 8 ∷ 9 ∷ 10 ∷ 11 ∷ 12 ∷ 14 ∷ 15 ∷ 16 ∷ 17 ∷ 18 ∷ 19 ∷ []) (tag_of the_type nd)

constant : (nd : Node) → Constant nd → is_variable (shape_of nd) ≡ false
unfolding shape_of is_variable
constant (And l r) h = refl
constant (Or l r) h = refl
constant (Not n) h = refl
constant (Formerly span n) h = refl
constant (Previous span n) h = refl
constant (Since l r span) h = refl
constant (Predicate namespace action kind args) h = refl
constant (Comparison op l r) h = refl
constant (Exists x n) h = refl
constant (Tp x) h = refl
constant (Literal v) h = refl
constant (Context path) h = refl
constant (Scope root path) h = refl
constant (Variable x) h = absurd (miss (0 ∷ 1 ∷ 2 ∷ 3 ∷ 4 ∷ 5 ∷ 6 ∷ 7 ∷ 8 ∷ 9 ∷ 10 ∷ 11 ∷ 12 ∷ 14 ∷ 15 ∷ 16 ∷ 17 ∷ 18 ∷ 19 ∷ []) 13 tt h)
constant Wildcard h = refl
constant (Aggregate n) h = refl
constant (Arithmetic op l r) h = refl
constant (Sum x binders n) h = refl
constant (Count binders n) h = refl
constant Broken h = refl

module _ (s : List ℕ) (asked : ℕ) (env : Env) (nd : Node) (b : Option Bound) where
  pub leaf-variable : (x w : ℕ) → nd ≡ Variable x → w ≡ x → b ≡ at (row_of env) w → b ≡ leaf_value s asked env nd
  unfolding leaf_value
  leaf-variable x w is q e = rw is (e ∙ ap (at (row_of env)) q)

  pub leaf-fixed : Constant nd → Fixes s asked nd b → b ≡ leaf_value s asked env nd
  leaf-fixed h f = f.is env (constant nd h)

pub leaf-at : (s : List ℕ) (asked : ℕ) (env : Env) (nd : Node) (t : ℕ) (b : Option Bound) → nd ≡ node_at s t → b ≡ leaf_value s asked env nd → b ≡ leaf_value s asked env (node_at s t)
leaf-at s asked env nd t b is e = e ∙ ap (leaf_value s asked env) is

-- ---- an unbound variable side

not-unbound : (q : Question) (sh : Shape) → is_variable sh ≡ false → unbound q sh ≡ none
unfolding unbound is_variable
not-unbound q (variable x) h = cc
not-unbound q anything h = refl
not-unbound q resolved h = refl

module _ {s : List ℕ} (checked : Checked s) (env : Env) (t : ℕ) (nd : Node) (is : nd ≡ node_at s t) where
  by_shape : unbound_at s env t ≡ unbound (asking s 0 env 0) (shape_of nd)
  unfolding unbound_at
  by_shape = ap (unbound (asking s 0 env 0)) (shape_is checked t ∙ ap shape_of (sym is))

  by-variable : (x w : ℕ) (b : Option Bound) (p : Bool) → nd ≡ Variable x → w ≡ x → b ≡ at (row_of env) w → p ≡ is_some b → only_if (not p) x ≡ unbound_at s env t
  unfolding unbound shape_of asking
  by-variable x w b p v q e f =
      let here : p ≡ is_some (at (row_of env) x) = f ∙ ap is_some (e ∙ ap (at (row_of env)) q) in
      ap (λ (p : Bool). only_if (not p) x) here ∙ sym (by_shape ∙ ap (λ (n : Node). unbound (asking s 0 env 0) (shape_of n)) v)

  pub side_bound : (x w : ℕ) (b : Option Bound) (p : Bool) → nd ≡ Variable x → w ≡ x → b ≡ at (row_of env) w → p ≡ is_some b → p ≡ true → variable_of None ≡ unbound_at s env t
  unfolding variable_of only_if
  side_bound x w b p v q e f h = rw h at (by-variable x w b p v q e f)

  pub side_unbound : (x w : ℕ) (b : Option Bound) (p : Bool) → nd ≡ Variable x → w ≡ x → b ≡ at (row_of env) w → p ≡ is_some b → p ≡ false → variable_of (Some x) ≡ unbound_at s env t
  unfolding variable_of only_if
  side_unbound x w b p v q e f h = rw h at (by-variable x w b p v q e f)

  pub side_other : Constant nd → variable_of None ≡ unbound_at s env t
  unfolding variable_of
  side_other h = sym (by_shape ∙ not-unbound (asking s 0 env 0) (shape_of nd) (constant nd h))
