-- Terms that come to no aggregate: leaves, arithmetic over such terms, and the table of Ints
use mathlib.Core.Path.{◌≡◌, refl, sym, subst, ◌∙◌, ap}
use mathlib.Core.Bool.{Bool, true, false}
use mathlib.Core.List.{List}
use mathlib.Core.Option.{Option, none, some}
use Prim.Native.Nat.{ℕ, zero, suc, ◌+◌, ◌*◌, ◌<◌, max}
use native.Mathlib.Omega.{arith}
use lib.Dec.{eqb, lit<}
use lib.IntN.{ℤ}
use lib.ListN.{get_or, set, replicate, length-replicate, length-set}
use lib.Seq.{get_or-set_same, get_or-set_other}
use borrow.Author.Tests.{eqb-true, eqb-false}
use Rattle.meaning.specs.declared.Env.{Env}
use Rattle.meaning.specs.declared.Node.{Node}
use Rattle.meaning.specs.declared.Node.TheVariants.{Arithmetic}
use Rattle.meaning.specs.declared.NodeNo.{NodeNo}
use Rattle.meaning.specs.declared.ArithOp.{ArithOp}
use Rattle.meaning.specs.declared.Binding.{Binding}
use Rattle.meaning.specs.Tests.{is_some, pick}
use Rattle.meaning.specs.Check.{Checked}
use Rattle.meaning.specs.Case.{node_at, case_of, list, arity, child}
use Rattle.meaning.specs.Number.{calculate}
use Rattle.meaning.specs.Equal.{Bound, int, integer}
use Rattle.meaning.specs.Rows.{in_cells}
use Rattle.meaning.specs.Walk.{W, give, ◌>>=◌}
use Rattle.meaning.specs.Meaning.{Meaning, Question, meaning, meaning_of, term as term_meaning, if_int, arithmetic}
use Rattle.laws.specs.Walk.{give_bind}
use Rattle.laws.specs.Meaning.{meaning-is}
use Rattle.laws.specs.Checked.{lower-child}
use Rattle.std.specs.Prelude.{Option as Answer, Some, None}
use Rattle.matching.specs.Asking.{asking, leaf_value, integer_in, combined, nodes_most, Sought, term, sides, sought_in, Free, TellsOf, Tells, Known, Settles}
use Rattle.matching.specs.Laws.{Leaf, leaf-walks, leaf-is, int-no, told}

-- ---- two sides that walk nothing

module _ (op : ArithOp) (R : W (Option Bound)) where
  -- right, after left's Int
  right_of : ℤ → W (Option Bound)
  right_of x = R >>= λ w. if_int w λ y. give (some (int (calculate op x y)))

  last : (x : ℤ) (b : Option Bound) → if_int b (λ y. give (some (int (calculate op x y)))) ≡ give (combined op (some x) (integer_in b))
  unfolding if_int combined integer_in
  last x none = refl
  last x (some b) = go (integer b)
    where
      go : (o : Option ℤ) → elim o as (λ o. W (Option Bound)) [ none ↦ give none | some y ↦ give (some (int (calculate op x y))) ] ≡ give (combined op (some x) o)
      go none = refl
      go (some y) = refl

  right-gives : (b : Option Bound) → R ≡ give b → (x : ℤ) → right_of x ≡ give (combined op (some x) (integer_in b))
  unfolding right_of
  right-gives b e x =
      ap (λ (m : W (Option Bound)). m >>= λ w. if_int w λ y. give (some (int (calculate op x y)))) e
      ∙ give_bind b (λ w. if_int w λ y. give (some (int (calculate op x y)))) ∙ last x b

  then-right : (o : Option ℤ) (b : Option Bound) → R ≡ give b → elim o as (λ o. W (Option Bound)) [ none ↦ give none | some x ↦ right_of x ] ≡ give (combined op o (integer_in b))
  unfolding combined
  then-right none b e = refl
  then-right (some x) b e = right-gives b e x

  then-both : (a b : Option Bound) → R ≡ give b → if_int a right_of ≡ give (combined op (integer_in a) (integer_in b))
  unfolding if_int integer_in combined
  then-both none b e = refl
  then-both (some a) b e = then-right (integer a) b e

  after-left : (L : W (Option Bound)) (a : Option Bound) → L ≡ give a → L >>= (λ v. if_int v right_of) ≡ if_int a right_of
  after-left L a e = ap (λ (m : W (Option Bound)). m >>= λ v. if_int v right_of) e ∙ give_bind a (λ v. if_int v right_of)

-- ---- two sides, and the node above them

module _ {s : List ℕ} {asked : ℕ} {env : Env} {op : ArithOp} {l r : ℕ} {a : Option Bound} (f : Free s asked env (term l) a) where
  sides-none : is_some (integer_in a) ≡ false → Free s asked env (sides op l r) none
  unfolding arithmetic right_of
  sides-none h = record { is = λ i. after-left op _ _ a (f.is i) ∙ int-no a _ h }

  sides-both : {b : Option Bound} → Free s asked env (term r) b → Free s asked env (sides op l r) (combined op (integer_in a) (integer_in b))
  unfolding arithmetic right_of
  sides-both {b} g = record { is = λ i. after-left op _ _ a (f.is i) ∙ then-both op _ a b (g.is i) }

module _ {s : List ℕ} (checked : Checked s) (t : ℕ) {nd : Node} (is : nd ≡ node_at s t) where
  free-leaf : {asked : ℕ} {env : Env} (b : Binding) → Leaf nd → in_cells b.tag b.bits ≡ leaf_value s asked env nd → Free s asked env (term t) (in_cells b.tag b.bits)
  free-leaf {asked} {env} b h k = record { is = λ i. leaf-is checked asked env i t (leaf-walks (node_at s t) (subst Leaf is h)) ∙ ap give (sym (k ∙ ap (leaf_value s asked env) is)) }

  module _ {op : ArithOp} {l r : NodeNo} (kind : nd ≡ Arithmetic op l r) where
    -- sides are lower
    left-lower : l.0 < t
    unfolding arity child pick
    left-lower = subst (λ (x : Node). (0 < arity x → child (list s) x 0 < t)) (sym is ∙ kind) (lower-child checked t 0) (lit< tt)

    right-lower : r.0 < t
    unfolding arity child pick
    right-lower = subst (λ (x : Node). (1 < arity x → child (list s) x 1 < t)) (sym is ∙ kind) (lower-child checked t 1) (lit< tt)

    module _ {x : ℕ} (at : t ≡ x) where
      pub left-falls : l.0 < x
      left-falls = omega (arith, left-lower)

      pub right-falls : r.0 < x
      right-falls = omega (arith, right-lower)

    pub sides_fall : {x : ℕ} → 2 * t ≡ x → 2 * max l.0 r.0 + 1 < x
    sides_fall at = omega (arith, left-lower, right-lower)

    arithmetic-is : (q : Question) → sought_in s (term t) q ≡ sought_in s (sides op l.0 r.0) q
    unfolding meaning_of term_meaning
    arithmetic-is q =
        ap (λ (m : Meaning). m.value q) (meaning-is checked t)
        ∙ ap (λ (n : Node). (meaning_of (case_of s) (λ n. meaning (case_of s) n.0) n).value q) (sym is ∙ kind)

    free-sides : {asked : ℕ} {env : Env} {v : Option Bound} → Free s asked env (sides op l.0 r.0) v → Free s asked env (term t) v
    free-sides {asked} {env} f = record { is = λ i. arithmetic-is (asking s asked env i) ∙ f.is i }

-- a side is below its node
module _ (l r x : ℕ) (at : 2 * max l r + 1 ≡ x) where
  pub left_below : 2 * l < x
  left_below = omega arith

  pub right-below : 2 * r < x
  right-below = omega arith

-- ---- what is told

zeros : (n k : ℕ) → ◌≡◌ {A = ℕ} (get_or (replicate n 0) k 0) 0
zeros zero k = refl
zeros (suc n) zero = refl
zeros (suc n) (suc k) = zeros n k

module _ {s : List ℕ} {asked : ℕ} {env : Env} where
  pub tells_open : {x : Sought} → Checked s → TellsOf s asked env x None
  tells_open checked = record { checked = checked; says = tt }

  pub tells-leaf : {b : Binding} (checked : Checked s) (t : ℕ) {nd : Node} → nd ≡ node_at s t → Leaf nd → in_cells b.tag b.bits ≡ leaf_value s asked env nd → Tells s asked env t (Some b)
  tells-leaf checked t is h k = record { checked = checked; says = free-leaf checked t is _ h k }

  -- of the node what is told of its sides
  pub tells-sides : {t : ℕ} {nd : Node} {op : ArithOp} {l r : NodeNo} (v : Answer Binding) → TellsOf s asked env (sides op l.0 r.0) v → nd ≡ Arithmetic op l r → nd ≡ node_at s t → Tells s asked env t v
  tells-sides {t} (Some b) g kind is = record { checked = g.checked; says = free-sides g.checked t is kind g.says }
  tells-sides None g kind is = tells_open g.checked

  -- left is no Int
  none_told : {op : ArithOp} {l r : ℕ} {a : Binding} {y : Bool} → Tells s asked env l (Some a) → y ≡ is_some (integer_in (in_cells a.tag a.bits)) → y ≡ false → TellsOf s asked env (sides op l r) (Some (record { tag = 0; bits = 0 }))
  unfolding in_cells pick
  none_told g p h = record { checked = g.checked; says = sides-none g.says (sym p ∙ h) }

  both_told : {op : ArithOp} {l r : ℕ} {a b v : Binding} → in_cells v.tag v.bits ≡ combined op (integer_in (in_cells a.tag a.bits)) (integer_in (in_cells b.tag b.bits)) → Tells s asked env r (Some b) → Tells s asked env l (Some a) → TellsOf s asked env (sides op l r) (Some v)
  both_told {op} {l} {r} e d g = record { checked = g.checked; says = subst (Free s asked env (sides op l r)) (sym e) (sides-both g.says d.says) }

  pub tells_none : {t : ℕ} {nd : Node} {op : ArithOp} {l r : NodeNo} {a : Binding} {y : Bool} → nd ≡ node_at s t → nd ≡ Arithmetic op l r → Tells s asked env l.0 (Some a) → y ≡ is_some (integer_in (in_cells a.tag a.bits)) → y ≡ false → Tells s asked env t (Some (record { tag = 0; bits = 0 }))
  tells_none is kind g p h = tells-sides _ (none_told g p h) kind is

  -- the premises as they are found: what was combined, right, left, the node
  pub tells_both : {op : ArithOp} {l r : NodeNo} {a b v : Binding} {nd : Node} {t : ℕ} → in_cells v.tag v.bits ≡ combined op (integer_in (in_cells a.tag a.bits)) (integer_in (in_cells b.tag b.bits)) → Tells s asked env r.0 (Some b) → Tells s asked env l.0 (Some a) → nd ≡ Arithmetic op l r → nd ≡ node_at s t → Tells s asked env t (Some v)
  tells_both e d g kind is = tells-sides _ (both_told e d g) kind is

  -- ---- the table

  pub known-none : Known s asked env (replicate nodes_most 0) (replicate nodes_most 0)
  known-none = record { all = length-replicate {A = ℕ} nodes_most 0; wide = length-replicate {A = ℕ} nodes_most 0; int = λ k h. absurd (let z : ◌≡◌ {A = ℕ} 0 1 = sym (zeros nodes_most k) ∙ h in omega arith) }

  kept : {marks ints : List ℕ} {at : ℕ} (x : ℕ) → Known s asked env marks ints → at < nodes_most → Free s asked env (term at) (in_cells 1 x) → Known s asked env (set marks at 1) (set ints at x)
  kept {marks} {ints} {at} x known lt f = record { all = length-set marks at 1 ∙ known.all; wide = length-set ints at x ∙ known.wide; int = λ k h. go k h (eqb k at) refl }
    where
      go : (k : ℕ) → get_or (set marks at 1) k 0 ≡ 1 → (b : Bool) → eqb k at ≡ b → Free s asked env (term k) (in_cells 1 (get_or (set ints at x) k 0))
      go k h true e = rw (eqb-true k at e, get_or-set_same ints at x 0 (omega (arith, known.wide))) f
      go k h false e =
          let m = get_or-set_other marks at k 1 0 (eqb-false k at e) in
          let i = get_or-set_other ints at k x 0 (eqb-false k at e) in
          rw i (known.int k (sym m ∙ h))

  module _ {marks ints : List ℕ} where
    pub settles_open : {x : Sought} → Checked s → Known s asked env marks ints → Settles s asked env x marks ints None
    settles_open checked known = record { tells = tells_open checked; known = known }

    pub open_after : {x y : Sought} {u : Answer Binding} → Settles s asked env x marks ints u → Settles s asked env y marks ints None
    open_after g = settles_open g.tells.checked g.known

    pub settles_marked : {t at : ℕ} → Checked s → Known s asked env marks ints → at ≡ t → get_or marks at 0 ≡ 1 → Settles s asked env (term t) marks ints (Some (record { tag = 1; bits = get_or ints at 0 }))
    settles_marked {t} {at} checked known e h = record { tells = record { checked = checked; says = subst (λ (t : ℕ). Free s asked env (term t) (in_cells 1 (get_or ints at 0))) e (known.int at h) }; known = known }

    pub settles_leaf : {b : Binding} (checked : Checked s) (t : ℕ) {nd : Node} → nd ≡ node_at s t → Known s asked env marks ints → Leaf nd → in_cells b.tag b.bits ≡ leaf_value s asked env nd → Settles s asked env (term t) marks ints (Some b)
    settles_leaf checked t is known h k = record { tells = tells-leaf checked t is h k; known = known }

    -- ---- two sides

    pub settles_none : {op : ArithOp} {l r : NodeNo} {a : Binding} {y : Bool} → Settles s asked env (term l.0) marks ints (Some a) → y ≡ is_some (integer_in (in_cells a.tag a.bits)) → y ≡ false → Settles s asked env (sides op l.0 r.0) marks ints (Some (record { tag = 0; bits = 0 }))
    settles_none g p h = record { tells = none_told g.tells p h; known = g.known }

    pub settles_both : {op : ArithOp} {l r : NodeNo} {marks₁ ints₁ : List ℕ} {a b v : Binding} → in_cells v.tag v.bits ≡ combined op (integer_in (in_cells a.tag a.bits)) (integer_in (in_cells b.tag b.bits)) → Settles s asked env (term r.0) marks ints (Some b) → Settles s asked env (term l.0) marks₁ ints₁ (Some a) → Settles s asked env (sides op l.0 r.0) marks ints (Some v)
    settles_both e d g = record { tells = both_told e d.tells g.tells; known = d.known }

    -- ---- the node above them

    module _ {op : ArithOp} {l r : NodeNo} {v : Binding} {nd : Node} {t : ℕ} (g : Settles s asked env (sides op l.0 r.0) marks ints (Some v)) (kind : nd ≡ Arithmetic op l r) (is : nd ≡ node_at s t) where
      pub settles_sides : Settles s asked env (term t) marks ints (Some v)
      settles_sides = record { tells = tells-sides (Some v) g.tells kind is; known = g.known }

      -- an Int is kept
      pub settles_kept : {at : ℕ} → at ≡ t → at < nodes_most → v.tag ≡ 1 → Settles s asked env (term t) (set marks at 1) (set ints at v.bits) (Some v)
      settles_kept {at} here lt one =
          let f : Free s asked env (term t) (in_cells v.tag v.bits) = settles_sides.tells.says in
          let h : Free s asked env (term at) (in_cells 1 v.bits) = rw (here, ← one) f in
          record { tells = settles_sides.tells; known = kept v.bits g.known lt h }
