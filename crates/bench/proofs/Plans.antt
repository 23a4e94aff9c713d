-- What the program asks, for each way out of its tests
use mathlib.Core.Path.{◌≡◌, refl, sym, ap, ◌∙◌}
use mathlib.Core.Bool.{Bool, true, false, not}
use mathlib.Core.List.{List, ◌∷◌}
use mathlib.Core.Option.{Option, none, some}
use Prim.Native.Nat.{ℕ, zero, suc, ◌-◌, ◌*◌, ◌<◌, ◌≤◌}
use native.Mathlib.Omega.{arith}
use lib.Dec.{eqb, ltb}
use lib.ListN.{length, take, replicate}
use lib.Seq.{length-take-le}
use borrow.Author.Tests.{eq-eqb, ne_eqb, lt-ltb, le-ltb, not-true, not-false}
use Rattle.meaning.specs.declared.Refusal.{Refusal}
use Rattle.meaning.specs.declared.Refusal.TheVariants.{TooLarge, NoSuchNode}
use Rattle.meaning.specs.Tests.{choose}
use Rattle.laws.specs.Tests.{yes, no}
use Rattle.laws.specs.Checked.{vars-most}
use Rattle.meaning.specs.Case.{nodes, vars, node_at}
use Rattle.meaning.specs.Check.{check, Checked}
use Rattle.meaning.specs.Calls.{answerable, ask_call}
use Rattle.std.specs.Prelude.{Ok, Err}
use Rattle.calls.specs.Promises.{Checking, SaidAnswer, call_of, Answers, Checks}
use Rattle.calls.specs.Theorems.{check-as}
use Rattle.casecheck.specs.declared.Contents.{Contents}
use Rattle.casecheck.specs.Answer.{contents_of, answer, as_checking, passed}
use Rattle.bench.specs.declared.plan.Asking.{Asking}
use Rattle.bench.specs.Table.{Plan, asking_of, plan_checked, plan_after, plan_of, question_at}

module _ (s : List ℕ) (k : Contents) (same : k ≡ contents_of s) where
  pub no_last : k.nodes ≡ 0 → Err NoSuchNode ≡ plan_checked s
  unfolding plan_checked
  no_last h = sym (yes _ (eq-eqb (nodes s) 0 (sym (ap (λ (k : Contents). k.nodes) same) ∙ h)))

  kept : {r b : Bool} → r ≡ answerable (node_at s (k.nodes - 1)) → r ≡ b → answerable (node_at s (nodes s - 1)) ≡ b
  kept e q = ap (λ (k : Contents). answerable (node_at s (k.nodes - 1))) (sym same) ∙ sym e ∙ q

  some-node : (k.nodes ≡ 0 → ⊥) → eqb (nodes s) 0 ≡ false
  some-node h = ne_eqb (nodes s) 0 (λ q. h (ap (λ (k : Contents). k.nodes) same ∙ q))

  pub wrong-last : (r : Bool) → (k.nodes ≡ 0 → ⊥) → r ≡ answerable (node_at s (k.nodes - 1)) → not r ≡ true → Err NoSuchNode ≡ plan_checked s
  unfolding plan_checked
  wrong-last r h e q = sym (no _ (some-node h) (no _ (kept e (not-true r q)) refl))

  pub right-last : (r : Bool) → (k.nodes ≡ 0 → ⊥) → r ≡ answerable (node_at s (k.nodes - 1)) → not r ≡ false → Ok (record { node = record { 0 = k.nodes - 1 }; points = k.points; vars = k.vars }) ≡ plan_checked s
  unfolding plan_checked
  right-last r h e q = sym (no _ (some-node h) (yes _ (kept e (not-false r q)) ∙ ap (λ (k : Contents). Ok (record { node = record { 0 = k.nodes - 1 }; points = k.points; vars = k.vars })) (sym same)))

module _ (s : List ℕ) where
  pub too_long : 65536 < length s → Err TooLarge ≡ plan_of s
  unfolding plan_of
  too_long h = sym (yes _ (lt-ltb 65536 (length s) h))

  after_check : {p : Plan} → length s ≤ 65536 → p ≡ plan_after (check s) s → p ≡ plan_of s
  unfolding plan_of
  after_check h e = e ∙ sym (no _ (le-ltb 65536 (length s) h) refl)

  -- the check's answer and the plan go by the same refusal
  refused-by : (r : Refusal) (o : Option Refusal) → Err r ≡ answer o (contents_of s) → Err r ≡ plan_after o s
  unfolding answer plan_after
  refused-by r none e = let z : ◌≡◌ {A = ℕ} 0 1 = cc in absurd (omega arith)
  refused-by r (some n) e = cc

  unchecked-as : (r : Refusal) → length s ≤ 65536 → Err r ≡ as_checking s → Err r ≡ plan_of s
  unchecked-as r h e = after_check h (refused-by r (check s) (unfold as_checking in e))

  -- what the check said
  module _ {u : Checking} (g : Checks s u) where
    pub unchecked : {r : Refusal} → u ≡ Err r → length s ≤ 65536 → Err r ≡ plan_of s
    unchecked {r} q h = unchecked-as r h (sym q ∙ check-as g)

    module _ {k : Contents} (q : u ≡ Ok k) where
      pub passes : Checked s
      passes = (passed s k (sym q ∙ check-as g)).0

      pub contents : k ≡ contents_of s
      contents = (passed s k (sym q ∙ check-as g)).1

      pub checked : {p : Plan} → length s ≤ 65536 → p ≡ plan_checked s → p ≡ plan_of s
      unfolding plan_after
      checked h e = after_check h (e ∙ ap (λ (o : Option Refusal). plan_after o s) (sym passes.passes))

  -- what is asked is asked of a checked case
  module _ (a : Asking) where
    asked-last : (b d : Bool) → Ok a ≡ choose b (Err NoSuchNode) (choose d (Ok (asking_of s)) (Err NoSuchNode)) → a ≡ asking_of s
    unfolding choose
    asked-last true d e = cc
    asked-last false true e = cc
    asked-last false false e = cc

    asked_by : (b : Bool) (o : Option Refusal) → check s ≡ o → Ok a ≡ choose b (Err TooLarge) (plan_after o s) → Checked s × (a ≡ asking_of s)
    unfolding choose plan_after plan_checked
    asked_by true o q e = cc
    asked_by false (some r) q e = cc
    asked_by false none q e = (record { passes = q }, asked-last (eqb (nodes s) 0) (answerable (node_at s (nodes s - 1))) e)

    asked-as : Ok a ≡ plan_of s → Checked s × (a ≡ asking_of s)
    asked-as e = asked_by (ltb 65536 (length s)) (check s) refl (unfold plan_of in e)

    module _ {p : Plan} (h : p ≡ plan_of s) (q : p ≡ Ok a) where
      pub asked-checked : Checked s
      asked-checked = (asked-as (sym q ∙ h)).0

      pub asked : a ≡ asking_of s
      asked = (asked-as (sym q ∙ h)).1

-- ---- the question at a point

zeros : (k n : ℕ) → k ≤ n → take {A = ℕ} k (replicate n 0) ≡ replicate k 0
zeros zero n h = refl
zeros (suc k) zero h = absurd (omega arith)
zeros (suc k) (suc n) h = ap (λ (l : List ℕ). 0 ∷ l) (zeros k n (omega arith))

module _ (s : List ℕ) (a : Asking) (c : Checked s) (same : a ≡ asking_of s) where
  pub few : a.vars ≤ 16
  few = omega (arith, vars-most c, ap (λ (a : Asking). a.vars) same)

  pub cells-long : length (take {A = ℕ} (2 * a.vars) (replicate 32 0)) ≡ 2 * a.vars
  cells-long = length-take-le (2 * a.vars) (replicate 32 0) (omega (arith, few))

  unbound : take {A = ℕ} (2 * a.vars) (replicate 32 0) ≡ replicate (2 * vars s) 0
  unbound = zeros (2 * a.vars) 32 (omega (arith, few)) ∙ ap (λ (a : Asking). replicate (2 * a.vars) 0) same

  pub asked-at : (point : ℕ) (work after : List ℕ) (r : SaidAnswer) → Answers (call_of s point a.node.0 (take (2 * a.vars) (replicate 32 0)) (record { steps = 1000000; room = 256 }) work) after r → Answers (question_at s point work) after r
  asked-at point work after r v = record {
    is = v.is ∙ ap (λ (l : List ℕ). ask_call (call_of s point a.node.0 l (record { steps = 1000000; room = 256 }) work)) unbound ∙ ap (λ (a : Asking). ask_call (call_of s point a.node.0 (replicate (2 * vars s) 0) (record { steps = 1000000; room = 256 }) work)) same;
  }
