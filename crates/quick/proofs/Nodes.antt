-- A node by its kind: its walk is its children's, after a step
use mathlib.Core.Path.{◌≡◌, sym, ap, subst, ◌∙◌}
use mathlib.Core.Bool.{Bool, true, false, not}
use mathlib.Core.List.{List}
use mathlib.Core.Option.{Option}
use Prim.Native.Nat.{ℕ, suc, ◌+◌, ◌-◌, ◌<◌, ◌≤◌}
use native.Mathlib.Omega.{arith}
use lib.Dec.{lit<}
use Rattle.meaning.specs.declared.Env.{Env}
use Rattle.meaning.specs.declared.Node.{Node}
use Rattle.meaning.specs.declared.Node.TheVariants.{And, Or, Not, Predicate}
use Rattle.meaning.specs.declared.NodeNo.{NodeNo}
use Rattle.meaning.specs.declared.Run.{Run}
use Rattle.meaning.specs.declared.StrNo.{StrNo}
use Rattle.meaning.specs.Tests.{pick, is_some, only_if}
use Rattle.meaning.specs.Check.{Checked}
use Rattle.meaning.specs.Case.{case_of, node_at, point_at, list, arity, child}
use Rattle.meaning.specs.Rows.{Row, row_of, blank}
use Rattle.meaning.specs.Walk.{W, give, visit, ◌>>=◌}
use Rattle.meaning.specs.Meaning.{Question, Meaning, meaning, meaning_of, condition, predicate, lending, lent_to, if_yes, unless_yes, and_verdict, or_verdict, not_verdict, names, same_event}
use Rattle.laws.specs.Meaning.{meaning-is, lent_nothing}
use Rattle.laws.specs.Checked.{lower-child}
use Rattle.matching.specs.Asking.{Arguments, asking, event_row}
use Rattle.matching.specs.Laws.{predicate-arguments, by-event}
use Rattle.scanning.proofs.Fitted.{some_if}
use Rattle.std.specs.Prelude.{Option as Answer, Some, None}
use Rattle.quick.specs.Tells.{paying, KeepsAll, AllBy, FitsAll, Plain, TellsBy, Tells}
use Rattle.quick.proofs.Paying.{paying_bind, paying-give, paying-more}

module _ {s : List ℕ} (checked : Checked s) (n : ℕ) {nd : Node} (is : nd ≡ node_at s n) where
  -- ---- children are lower

  lower : {nd' : Node} → nd ≡ nd' → (j : ℕ) → j < arity nd' → child (list s) nd' j < n
  lower k j h = subst (λ (x : Node). (j < arity x → child (list s) x j < n)) (sym is ∙ k) (lower-child checked n j) h

  module _ {t : ℕ} (at : n ≡ t) where
    pub left_of_and : {l r : NodeNo} → nd ≡ And l r → l.0 < t
    unfolding arity child pick
    left_of_and k = omega (arith, lower k 0 (lit< tt))

    pub right_of_and : {l r : NodeNo} → nd ≡ And l r → r.0 < t
    unfolding arity child pick
    right_of_and k = omega (arith, lower k 1 (lit< tt))

    pub left_of_or : {l r : NodeNo} → nd ≡ Or l r → l.0 < t
    unfolding arity child pick
    left_of_or k = omega (arith, lower k 0 (lit< tt))

    pub right_of_or : {l r : NodeNo} → nd ≡ Or l r → r.0 < t
    unfolding arity child pick
    right_of_or k = omega (arith, lower k 1 (lit< tt))

    pub under-not : {x : NodeNo} → nd ≡ Not x → x.0 < t
    unfolding arity child
    under-not k = omega (arith, lower k 0 (lit< tt))

  pub arguments_of : {namespace args : Run} {action kind : StrNo} → nd ≡ Predicate namespace action kind args → Arguments s args.first args.count
  arguments_of k = predicate-arguments checked n is k

  -- ---- what it means by its kind

  means : {nd' : Node} → nd ≡ nd' → meaning (case_of s) n ≡ meaning_of (case_of s) (λ n. meaning (case_of s) n.0) nd'
  means k = meaning-is checked n ∙ ap (meaning_of (case_of s) (λ n. meaning (case_of s) n.0)) (sym is ∙ k)

-- ---- what comes after a child's steps

module _ (s : List ℕ) (asked i : ℕ) where
  -- a condition whose verdict is so many steps
  by_condition : {n left rest : ℕ} {y : Bool} (verdict : Question → W Bool) (rows : Question → W (List Row)) (k : ℕ) → meaning (case_of s) n ≡ condition verdict rows → ((env : Env) → verdict (asking s asked env i) ≡ paying k (give y)) → suc k + rest ≡ left → Plain s asked n i left y rest
  unfolding condition paying
  by_condition {y = y} verdict rows k m e all = record {
    steps = suc k;
    all = all;
    verdict = λ env. ap (λ (m : Meaning). m.verdict (asking s asked env i)) m ∙ ap visit (e env);
    lend = λ env.
        ap (λ (m : Meaning). m.lend (asking s asked env i)) m
        ∙ ap (λ (w : W Bool). visit w >>= lending (asking s asked env i)) (e env)
        ∙ paying-give (suc k) y (lending (asking s asked env i));
  }

  module _ (l : ℕ) (right : Meaning) {left rest : ℕ} {y : Bool} (p : Plain s asked l i left y rest) (env : Env) where
    after-lent : and_verdict (meaning (case_of s) l) right (asking s asked env i) ≡ paying p.steps (if_yes (right.verdict (asking s asked env i)) y)
    unfolding and_verdict
    after-lent =
        let q = asking s asked env i in
        ap (λ (w : W (Option Row)). w >>= lent_to right q) (p.lend env)
        ∙ paying_bind p.steps (lending q y) (lent_to right q)
        ∙ ap (paying p.steps) (lent_nothing right q y)

    after-left : or_verdict (meaning (case_of s) l) right (asking s asked env i) ≡ paying p.steps (unless_yes (right.verdict (asking s asked env i)) y)
    unfolding or_verdict
    after-left =
        let next = unless_yes (right.verdict (asking s asked env i)) in
        ap (λ (w : W Bool). w >>= next) (p.verdict env) ∙ paying-give p.steps y next

  turned : (l : ℕ) {left rest : ℕ} {y : Bool} (p : Plain s asked l i left y rest) (env : Env) → not_verdict (meaning (case_of s) l) (asking s asked env i) ≡ paying p.steps (give (not y))
  unfolding not_verdict
  turned l {y = y} p env = ap (λ (w : W Bool). w >>= λ yes. give (not yes)) (p.verdict env) ∙ paying-give p.steps y (λ yes. give (not yes))

-- ---- each way out

module _ {s : List ℕ} {asked : ℕ} (n i left : ℕ) {nd : Node} (checked : Checked s) (is : nd ≡ node_at s n) {under : ℕ} (some : (1 ≤ left) × (under ≡ left - 1)) where
  module _ {l r : NodeNo} {more : ℕ} {t : Bool} (k : nd ≡ And l r) (g : Tells s asked l.0 i under more (Some t)) where
    and-plain : {rest : ℕ} {y : Bool} → t ≡ true → Plain s asked r.0 i more y rest → Plain s asked n i left y rest
    unfolding meaning_of if_yes
    and-plain {y = y} h o =
        let p : Plain s asked l.0 i under true more = rw h at g.says in
        by_condition s asked i _ _ (p.steps + o.steps) (means checked n is k) (λ env. after-lent s asked i l.0 (meaning (case_of s) r.0) p env ∙ ap (paying p.steps) (o.verdict env) ∙ paying-more p.steps o.steps (give y)) (omega (arith, p.all, o.all, some.0, some.1))

    pub and_yes : {rest : ℕ} {v : Answer Bool} → t ≡ true → Tells s asked r.0 i more rest v → Tells s asked n i left rest v
    and_yes {rest} {v} h o = record { says = go v o.says }
      where
        go : (v : Answer Bool) → TellsBy s asked r.0 i more rest v → TellsBy s asked n i left rest v
        go (Some y) o = and-plain h o
        go None o = tt

    pub and_no : t ≡ false → Tells s asked n i left more (Some false)
    unfolding meaning_of if_yes
    and_no h =
        let p : Plain s asked l.0 i under false more = rw h at g.says in
        record { says = by_condition s asked i _ _ p.steps (means checked n is k) (after-lent s asked i l.0 (meaning (case_of s) r.0) p) (omega (arith, p.all, some.0, some.1)) }

  module _ {l r : NodeNo} {more : ℕ} {t : Bool} (k : nd ≡ Or l r) (g : Tells s asked l.0 i under more (Some t)) where
    or_plain : {rest : ℕ} {y : Bool} → t ≡ false → Plain s asked r.0 i more y rest → Plain s asked n i left y rest
    unfolding meaning_of unless_yes
    or_plain {y = y} h o =
        let p : Plain s asked l.0 i under false more = rw h at g.says in
        by_condition s asked i _ _ (p.steps + o.steps) (means checked n is k) (λ env. after-left s asked i l.0 (meaning (case_of s) r.0) p env ∙ ap (paying p.steps) (o.verdict env) ∙ paying-more p.steps o.steps (give y)) (omega (arith, p.all, o.all, some.0, some.1))

    pub or_yes : t ≡ true → Tells s asked n i left more (Some true)
    unfolding meaning_of unless_yes
    or_yes h =
        let p : Plain s asked l.0 i under true more = rw h at g.says in
        record { says = by_condition s asked i _ _ p.steps (means checked n is k) (after-left s asked i l.0 (meaning (case_of s) r.0) p) (omega (arith, p.all, some.0, some.1)) }

    pub or_no : {rest : ℕ} {v : Answer Bool} → t ≡ false → Tells s asked r.0 i more rest v → Tells s asked n i left rest v
    or_no {rest} {v} h o = record { says = go v o.says }
      where
        go : (v : Answer Bool) → TellsBy s asked r.0 i more rest v → TellsBy s asked n i left rest v
        go (Some y) o = or_plain h o
        go None o = tt

  pub turned-over : {x : NodeNo} {more : ℕ} {t : Bool} → nd ≡ Not x → Tells s asked x.0 i under more (Some t) → Tells s asked n i left more (Some (not t))
  unfolding meaning_of
  turned-over {x} k g = let p = g.says in record { says = by_condition s asked i _ _ p.steps (means checked n is k) (turned s asked i x.0 p) (omega (arith, p.all, some.0, some.1)) }

  -- ---- a Predicate

  module _ {namespace args : Run} {action kind : StrNo} (k : nd ≡ Predicate namespace action kind args) where
    by_row : {y : Bool} → ((env : Env) → event_row s asked env i namespace action kind args ≡ only_if y (blank (row_of env))) → Plain s asked n i left y under
    unfolding meaning_of predicate paying lending asking
    by_row {y} e = record {
      steps = 1;
      all = omega (arith, some.0, some.1);
      verdict = λ env. ap (λ (m : Meaning). m.verdict (asking s asked env i)) (means checked n is k) ∙ ap (λ (o : Option Row). visit (give (is_some o))) (e env) ∙ ap (λ (y : Bool). visit (give y)) (some_if y (blank (row_of env)));
      lend = λ env. ap (λ (m : Meaning). m.lend (asking s asked env i)) (means checked n is k) ∙ ap (λ (o : Option Row). visit (give o)) (e env);
    }

    module _ {p : Bool} (same : p ≡ same_event (names (case_of s) namespace) action.0 kind.0 (point_at s i)) where
      here : {y : Bool} → p ≡ true → KeepsAll s asked i args.first args.count y → (env : Env) → event_row s asked env i namespace action kind args ≡ only_if y (blank (row_of env))
      here h f env = (rw h at (by-event s asked env i namespace action kind args same)) ∙ f.is env (blank (row_of env))

      pub predicate-here : {v : Answer Bool} → p ≡ true → FitsAll s asked i args.first args.count v → Tells s asked n i left under v
      predicate-here {v} h f = record { says = go v f.says }
        where
          go : (v : Answer Bool) → AllBy s asked i args.first args.count v → TellsBy s asked n i left under v
          go (Some y) f = by_row (here h f)
          go None f = tt

      pub predicate-elsewhere : p ≡ false → Tells s asked n i left under (Some false)
      unfolding only_if
      predicate-elsewhere h = record { says = by_row (λ env. rw h at (by-event s asked env i namespace action kind args same)) }
