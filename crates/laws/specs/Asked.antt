-- A meaning goes by the point asked about alone where it asks of one point: two ways to make meanings of nodes that agree there agree on every question about it
use Rattle.std.specs.Prelude.{◌≡◌, Bool, pos}
use Rattle.std.proofs.Math.Path.{refl, ap, ap₂, fun_ext}
use Rattle.std.proofs.Common.{sym, ◌∙◌}
use Rattle.std.proofs.Math.Bool.{true, false}
use mathlib.Core.List.{List, [], ◌∷◌}
use Rattle.std.proofs.Math.Option.{Option, none, some}
use Prim.Native.Nat.{ℕ, zero, suc, ◌+◌}
use Rattle.meaning.specs.declared.CmpOp.{CmpOp}
use Rattle.meaning.specs.declared.CmpOp.TheVariants.{Le, Lt, Ge, Gt, Eq, NotEq}
use Rattle.meaning.specs.declared.Run.{Run}
use Rattle.meaning.specs.declared.Node.{Node}
use Rattle.meaning.specs.declared.Node.TheVariants.{And, Or, Not, Formerly, Previous, Since, Predicate, Comparison, Exists, Tp, Literal, Context, Scope, Variable, Wildcard, Aggregate, Arithmetic, Sum, Count, Broken}
use Rattle.meaning.specs.declared.NodeNo.{NodeNo}
use Rattle.meaning.specs.Below.{upto, made}
use Rattle.meaning.specs.Tests.{is_some}
use Rattle.meaning.specs.Walk.{W, give, visit, ◌>>=◌}
use Rattle.meaning.specs.Case.{Case, Point, run_of, run, places}
use Rattle.meaning.specs.Equal.{Bound}
use Rattle.meaning.specs.Look.{field_at}
use Rattle.meaning.specs.Rows.{Row, blank}
use Rattle.meaning.specs.Meaning.{Question, now, Shape, resolved, Meaning, under, unbinding, earlier, lending, condition, term, aggregate, one_row, as_rows, lent_to, and_verdict, and_rows, or_verdict, or_rows, not_verdict, exists_verdict, exists_rows, formerly_verdict, formerly_rows, since_verdict, since_rows, previously, given, match_field, match_arguments, same_event, match, predicate, unbound, compare_verdict, compare_rows, bind_rows, eq_rows, arithmetic, aggregated, relation, names, arguments, meaning_of, no_meaning}

-- a question about point p, and a meaning that asks of p alone
unfoldable pub about : Point → Question → Question
about p q = record { asked = p; past = q.past; bound = q.bound }

unfoldable pub fixed : Point → Meaning → Meaning
fixed p m = record {
  verdict = λ q. m.verdict (about p q);
  lend = λ q. m.lend (about p q);
  rows = λ q. m.rows (about p q);
  value = λ q. m.value (about p q);
  number = λ q. m.number (about p q);
  shape = m.shape;
}

-- ---- each sort of node: where its parts agree on every question about p

module _ (p : Point) where
  condition-same : (v v' : Question → W Bool) (r r' : Question → W (List Row)) → ((q : Question) → v (about p q) ≡ v' (about p q)) → ((q : Question) → r (about p q) ≡ r' (about p q)) → fixed p (condition v r) ≡ fixed p (condition v' r')
  unfolding fixed condition
  condition-same v v' r r' ev er = ap₂ shaped (fun_ext ev) (fun_ext er)
    where
      shaped : (Question → W Bool) → (Question → W (List Row)) → Meaning
      shaped f g = record {
        verdict = λ q. visit (f q);
        lend = λ q. visit (f q) >>= lending (about p q);
        rows = λ q. visit (g q);
        value = λ q. give none;
        number = λ q. visit (give (pos 0));
        shape = resolved;
      }

  pub term-same : (s : Shape) (v v' : Question → W (Option Bound)) → ((q : Question) → v (about p q) ≡ v' (about p q)) → fixed p (term s v) ≡ fixed p (term s v')
  unfolding fixed term
  term-same s v v' ev =
      ap (λ (f : Question → W (Option Bound)). record { verdict = λ q. visit (give false); lend = λ q. visit (give none); rows = λ q. visit (give []); value = f; number = λ q. visit (give (pos 0)); shape = s }) (fun_ext ev)

  predicate-same : (m m' : Question → Option Row) → ((q : Question) → m (about p q) ≡ m' (about p q)) → fixed p (predicate m) ≡ fixed p (predicate m')
  unfolding fixed predicate
  predicate-same m m' e =
      ap (λ (f : Question → Option Row). record { verdict = λ q. visit (give (is_some (f q))); lend = λ q. visit (give (f q)); rows = λ q. visit (one_row (f q)); value = λ q. give none; number = λ q. visit (give (pos 0)); shape = resolved }) (fun_ext e)

  -- ---- parts that ask what they are given of a meaning

  lent_same : (m : Meaning) (q : Question) (row : Option Row) → lent_to m (about p q) row ≡ lent_to (fixed p m) (about p q) row
  unfolding lent_to fixed about under
  lent_same m q none = refl
  lent_same m q (some row) = refl

  and_same : (l r : Meaning) (q : Question) → and_verdict l r (about p q) ≡ and_verdict (fixed p l) (fixed p r) (about p q)
  unfolding and_verdict fixed about
  and_same l r q = ap (λ (f : Option Row → W Bool). l.lend (about p q) >>= f) (fun_ext (lent_same r q))

  eq_same : (c : Case) (l r : Meaning) (q : Question) (x y : Option ℕ) → eq_rows (as_rows (compare_verdict c Eq l r)) l r (about p q) x y ≡ eq_rows (as_rows (compare_verdict c Eq (fixed p l) (fixed p r))) (fixed p l) (fixed p r) (about p q) x y
  unfolding eq_rows bind_rows as_rows compare_verdict fixed about
  eq_same c l r q none none = refl
  eq_same c l r q none (some y) = refl
  eq_same c l r q (some x) none = refl
  eq_same c l r q (some x) (some y) = refl

  compare_same : (c : Case) (op : CmpOp) (l r : Meaning) (q : Question) → compare_rows c op l r (about p q) ≡ compare_rows c op (fixed p l) (fixed p r) (about p q)
  unfolding compare_rows as_rows compare_verdict fixed about
  compare_same c Le l r q = refl
  compare_same c Lt l r q = refl
  compare_same c Ge l r q = refl
  compare_same c Gt l r q = refl
  compare_same c Eq l r q = eq_same c l r q (unbound (about p q) l.shape) (unbound (about p q) r.shape)
  compare_same c NotEq l r q = refl

  module _ (c : Case) (of : NodeNo → Meaning) (q : Question) where
    matched_same : (is : List ℕ) (new : Row) → match_arguments c (about p q) (given c of is) new ≡ match_arguments c (about p q) (given c (λ n. fixed p (of n)) is) new
    unfolding match_arguments given fixed about
    matched_same [] new = refl
    matched_same (i ∷ is) new =
        let m = of (record { 0 = c.list (i + 2) }) in
        let path = run_of c.list (run (c.list i) (c.list (i + 1))) in
        ap (λ (rest : Row → Option Row). elim (field_at c (now (about p q)) path) as (λ o. Option Row) [ none ↦ none | some field ↦ elim (match_field c (about p q) new field m.shape (m.value (about p q)).answer) as (λ o. Option Row) [ none ↦ none | some more ↦ rest more ] ]) (fun_ext (matched_same is))

    match-same : (namespace : List ℕ) (action kind : ℕ) (args : Run) → match c namespace action kind (arguments c of args) (about p q) ≡ match c namespace action kind (arguments c (λ n. fixed p (of n)) args) (about p q)
    unfolding match arguments about
    match-same namespace action kind args =
        ap (λ (o : Option Row). elim (same_event namespace action kind (now (about p q))) as (λ b. Option Row) [ true ↦ o | false ↦ none ]) (matched_same (places args.first 3 args.count) (blank q.bound))

  -- ---- every node: a question about p asks its children about p

  module _ (c : Case) (of : NodeNo → Meaning) where
    keeps : (nd : Node) → fixed p (meaning_of c of nd) ≡ fixed p (meaning_of c (λ n. fixed p (of n)) nd)
    unfolding fixed about meaning_of condition term aggregate under unbinding earlier and_rows or_verdict or_rows not_verdict as_rows exists_verdict exists_rows formerly_verdict formerly_rows since_verdict since_rows previously compare_verdict arithmetic aggregated relation
    keeps (And l r) = condition-same (and_verdict (of l) (of r)) (and_verdict (fixed p (of l)) (fixed p (of r))) (and_rows c (of l) (of r)) (and_rows c (fixed p (of l)) (fixed p (of r))) (and_same (of l) (of r)) (λ q. refl)
    keeps (Or l r) = refl
    keeps (Not n) = refl
    keeps (Formerly within n) = refl
    keeps (Previous within n) = refl
    keeps (Since l r within) = refl
    keeps (Predicate namespace action kind args) = predicate-same _ _ (λ q. match-same c of q (names c namespace) action.0 kind.0 args)
    keeps (Comparison op l r) = condition-same (compare_verdict c op (of l) (of r)) (compare_verdict c op (fixed p (of l)) (fixed p (of r))) (compare_rows c op (of l) (of r)) (compare_rows c op (fixed p (of l)) (fixed p (of r))) (λ q. refl) (compare_same c op (of l) (of r))
    keeps (Exists x n) = refl
    keeps (Tp x) = refl
    keeps (Literal v) = refl
    keeps (Context path) = refl
    keeps (Scope root path) = refl
    keeps (Variable x) = refl
    keeps Wildcard = refl
    keeps (Aggregate n) = refl
    keeps (Arithmetic op l r) = refl
    keeps (Sum x binders n) = refl
    keeps (Count binders n) = refl
    keeps Broken = refl

  -- so of two ways to read its children that agree about p
  pub meaning-same : (c : Case) (g h : NodeNo → Meaning) (nd : Node) → ((n : NodeNo) → fixed p (g n) ≡ fixed p (h n)) → fixed p (meaning_of c g nd) ≡ fixed p (meaning_of c h nd)
  meaning-same c g h nd e = keeps c g nd ∙ ap (λ (f : NodeNo → Meaning). fixed p (meaning_of c f nd)) (fun_ext e) ∙ sym (keeps c h nd)

  -- ---- of all nodes: two ways to make meanings that agree about p wherever those of the lower nodes do

  module _ (make make' : (ℕ → Meaning) → ℕ → Meaning) (agree : (g h : ℕ → Meaning) → ((j : ℕ) → fixed p (g j) ≡ fixed p (h j)) → (k : ℕ) → fixed p (make g k) ≡ fixed p (make' h k)) where
    upto-agree : (b k : ℕ) → fixed p (upto no_meaning make b k) ≡ fixed p (upto no_meaning make' b k)
    unfolding upto
    upto-agree zero k = refl
    upto-agree (suc b) k = agree (upto no_meaning make b) (upto no_meaning make' b) (upto-agree b) k

    pub made-agree : (k : ℕ) → fixed p (made no_meaning make k) ≡ fixed p (made no_meaning make' k)
    unfolding made
    made-agree k = upto-agree (suc k) k
