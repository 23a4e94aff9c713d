-- An asking call put together: refused before its walk, or walked and its workspace cleared; then the ask call
use mathlib.Core.Path.{◌≡◌, refl, ap, sym, subst, ◌∙◌}
use mathlib.Core.Bool.{Bool, true, false}
use mathlib.Core.List.{List, [], ◌++◌}
use mathlib.Core.Option.{none, some}
use Prim.Native.Nat.{ℕ, ◌*◌, ◌≤◌, ◌<◌}
use native.Mathlib.Omega.{arith}
use lib.ListN.{length, take, drop, replicate, length-append}
use lib.Seq.{length-take-le, drop_at}
use mir.Val.{Fits}
use mir.Facts.{of_z-to_z}
use mir.Syntax.{w64}
use Rattle.meaning.specs.declared.Env.{Env}
use Rattle.meaning.specs.declared.Meter.{Meter}
use Rattle.meaning.specs.declared.Limits.{Limits}
use Rattle.meaning.specs.declared.Node.{Node}
use Rattle.meaning.specs.declared.Refusal.{Refusal}
use Rattle.meaning.specs.Tests.{choose}
use Rattle.meaning.specs.Walk.{W, started, outcome}
use Rattle.meaning.specs.Case.{case_of, node_at, vars}
use Rattle.meaning.specs.Check.{Checked}
use Rattle.meaning.specs.Meaning.{Meaning, Question, meaning, question}
use Rattle.meaning.specs.Calls.{number_of, Call, Said, refuses, is_aggregate, against, walk_of, unless_refused, unless_against, told, cleared, workspace_after, result, Answer, verdict, saying, gives, number, ask_call}
use Rattle.meaning.specs.Calls.{asking as asking_of}
use Rattle.laws.specs.Calls.{against-early, refused-early, walk_clears, saying_clears}
use Rattle.matching.specs.Asking.{asking}
use Rattle.evaluator.specs.declared.Call.{Call as WalkCall}
use Rattle.std.specs.Prelude.{Result as OkOr, Ok, Err}
use Rattle.rows.specs.declared.Stopped.{Stopped}
use Rattle.evaluator.specs.Asks.{said_verdict as outcome_verdict, said_number as outcome_number}
use Rattle.evaluator.specs.Asks.{Verdict, Number, Ready, Decides, Numbers, node, walk_for, number_for}
use Rattle.opening.specs.declared.Wanted.TheVariants.{Answerable}
use Rattle.opening.specs.declared.Opening.{Opening}
use Rattle.opening.specs.Opening.{wanted_for, refusal_in, Opened, OpenedBy, Opens}
use Rattle.calls.specs.declared.Spent.{Spent}
use Rattle.calls.specs.declared.Answer.TheVariants as Ans
use Rattle.calls.specs.Promises.{call_of, SaidAnswer, early, spent_in, stopped_as, as_answer, Answers}
use Rattle.calls.specs.Given.{in_bits, answer_from, TellsAnswer}

-- ---- the opening and the ending of every asking call

pub opened : {wanted : Node → Bool} {c : Call} {u : OkOr Opening Refusal} {o : Opening} → Opens wanted c u → u ≡ Ok o → Opened c o
opened {c = c} opens is = subst (OpenedBy c) is opens.opened

module _ {s : List ℕ} {point n : ℕ} {start : List ℕ} {limits : Limits} {work : List ℕ} {wanted : Node → Bool} {u : OkOr Opening Refusal} (checked : Checked s) (opens : Opens wanted (call_of s point n start limits work) u) where
  -- refused by what is against it
  pub said-not : {A : Type 0} (said : Said A) (k : Refusal) → u ≡ Err k → unless_against wanted (call_of s point n start limits work) said ≡ refuses (number_of k) 0 0
  unfolding unless_against unless_refused refusal_in
  said-not said k is =
      let e : against wanted (call_of s point n start limits work) ≡ some k = sym opens.is ∙ ap refusal_in is in rw (checked.passes, e) refl

  pub asked-not : {A : Type 0} (manner : Meaning → Question → W A) (k : Refusal) → u ≡ Err k → asking_of wanted manner (call_of s point n start limits work) ≡ refuses (number_of k) 0 0
  unfolding asking_of
  asked-not manner k is = said-not _ k is

  pub unwritten : (A : Type 0) (output : List ℕ) (k : Refusal) → u ≡ Err k → result {A = A} (call_of s point n start limits work) (refuses (number_of k) 0 0) output ≡ record { said = refuses (number_of k) 0 0; workspace = work; output = output }
  unfolding refusal_in
  unwritten A output k is =
      refused-early A (call_of s point n start limits work) k output (against-early wanted (call_of s point n start limits work) k (sym opens.is ∙ ap refusal_in is))

  module _ {o : Opening} (is : u ≡ Ok o) where
    pub few-cells : o.cells ≤ length work
    few-cells = (opened opens is).fits

    pub point_in_lem : o.call.asked < 16384
    point_in_lem = (opened opens is).point

    pub part-long : length (take o.cells work) ≡ o.cells
    part-long = length-take-le o.cells work few-cells

    pub ready : Ready s o.call o.env started (take o.cells work)
    ready = (opened opens is).ready

    pub clear_in : (part : List ℕ) → length part ≡ length (take o.cells work) → o.cells ≤ length (part ++ drop o.cells work)
    clear_in part long = omega (arith, length-append part (drop o.cells work), part-long)

    pub said-as : {A : Type 0} (said : Said A) → unless_against wanted (call_of s point n start limits work) said ≡ said
    unfolding unless_against unless_refused refusal_in
    said-as said =
        let e : against wanted (call_of s point n start limits work) ≡ none = sym opens.is ∙ ap refusal_in is in rw (checked.passes, e) refl

    pub walked_as : {A : Type 0} (manner : Meaning → Question → W A) → asking_of wanted manner (call_of s point n start limits work) ≡ told (outcome o.call.limits started (manner (meaning (case_of s) n) (asking s o.call.asked o.env o.call.asked)))
    unfolding asking_of walk_of question asking
    walked_as manner = said-as _ ∙ rw ((opened opens is).call, (opened opens is).bindings) refl

    -- cleared as the definition has it, whatever the walk left there
    pub workspace-as : (part : List ℕ) {after : List ℕ} → length part ≡ length (take o.cells work) → after ≡ cleared o.cells (part ++ drop o.cells work) → after ≡ cleared (2 * vars s * limits.room) work
    unfolding cleared
    workspace-as part long is' =
        is'
        ∙ ap (λ (l : List ℕ). replicate o.cells 0 ++ l) (drop_at part (drop o.cells work) o.cells (long ∙ part-long))
        ∙ ap (λ (k : ℕ). replicate k 0 ++ drop k work) (opened opens is).cells

-- ---- a walk starts

pub ready-started : {s : List ℕ} {c : WalkCall} {e : Env} {m : Meter} {b : List ℕ} → m ≡ started → Ready s c e started b → Ready s c e m b
ready-started em r = rw em r

-- ---- the walk for an answer

module _ {s : List ℕ} {c : WalkCall} {e : Env} {n : ℕ} {before after : List ℕ} {nd : Node} {b : Bool} {m : Meter} (is : nd ≡ node_at s n) (sort : b ≡ is_aggregate nd) (em : m ≡ started) where
  module _ (one : b ≡ true) {v : Number} (comes : Numbers s c e n c.asked m before after v) where
    number-as : answer_from s c e n ≡ saying in_bits (told (outcome_number v))
    unfolding answer_from choose
    number-as =
        let e : is_aggregate (node_at s n) ≡ true = ap is_aggregate (sym is) ∙ sym sort ∙ one in
        rw e (sym (ap (λ o. saying in_bits (told o)) (rw em at comes).comes.is))

    pub answer-number : {u : ℕ} {m' : Meter} {sp : Spent} → v ≡ Ok (u, m') → Fits w64 u → sp ≡ spent_in m' → TellsAnswer s c e n (Ok (Ans.Number u, sp))
    unfolding as_answer told saying
    answer-number {m' = m'} q fits es = rw es (record { is = ap (λ (k : ℕ). gives (number k) m'.steps m'.most) (sym (of_z-to_z fits)) ∙ sym (number-as ∙ ap (λ (v : Number). saying in_bits (told (outcome_number v))) q) })

    pub number-stopped : {z : Stopped} → v ≡ Err z → TellsAnswer s c e n (Err (stopped_as z))
    unfolding as_answer told saying
    number-stopped q = record { is = sym (number-as ∙ ap (λ (v : Number). saying in_bits (told (outcome_number v))) q) }

  module _ (none : b ≡ false) {v : Verdict} (comes : Decides s c e (node n c.asked) m before after v) where
    verdict-as : answer_from s c e n ≡ saying verdict (told (outcome_verdict v))
    unfolding answer_from choose
    verdict-as =
        let e : is_aggregate (node_at s n) ≡ false = ap is_aggregate (sym is) ∙ sym sort ∙ none in
        rw e (sym (ap (λ o. saying verdict (told o)) (rw em at comes).comes.is))

    pub answer-verdict : {y : Bool} {m' : Meter} {sp : Spent} → v ≡ Ok (y, m') → sp ≡ spent_in m' → TellsAnswer s c e n (Ok (Ans.Verdict y, sp))
    unfolding as_answer told saying
    answer-verdict q es = rw es (record { is = sym (verdict-as ∙ ap (λ (v : Verdict). saying verdict (told (outcome_verdict v))) q) })

    pub verdict-stopped : {z : Stopped} → v ≡ Err z → TellsAnswer s c e n (Err (stopped_as z))
    unfolding as_answer told saying
    verdict-stopped q = record { is = sym (verdict-as ∙ ap (λ (v : Verdict). saying verdict (told (outcome_verdict v))) q) }

-- ---- the ask call

pub saying-refuses : {A B : Type 0} (f : A → B) {said : Said A} {k : ℕ} → said ≡ refuses k 0 0 → saying f said ≡ refuses k 0 0
unfolding saying
saying-refuses f e = rw e refl

pub chosen : {A : Type 0} (b : Bool) {x y z : A} → x ≡ z → y ≡ z → choose b x y ≡ z
unfolding choose
chosen true e e' = e
chosen false e e' = e'

pub ask_refused : {s : List ℕ} {point n : ℕ} {start : List ℕ} {limits : Limits} {work : List ℕ} {u : OkOr Opening Refusal} {k : Refusal} → Checked s → Opens (wanted_for Answerable) (call_of s point n start limits work) u → u ≡ Err k → Answers (call_of s point n start limits work) work (Err (early k))
unfolding ask_call as_answer wanted_for
ask_refused {s} {point} {n} {start} {limits} {work} {k = k} checked opens is =
    let c : Call = call_of s point n start limits work in
    record {
      is = sym (
          ap (λ (said : Said Answer). result c said []) (chosen (is_aggregate (node_at s n)) (saying-refuses _ (asked-not checked opens (λ m q. m.number q) k is)) (saying-refuses _ (asked-not checked opens (λ m q. m.verdict q) k is)))
          ∙ unwritten checked opens Answer [] k is
          );
    }

-- what a walk tells clears the workspace, in either manner
answer_clears : (c : Call) (s : List ℕ) (w : WalkCall) (e : Env) (n : ℕ) → workspace_after c (answer_from s w e n) ≡ cleared (2 * vars c.file * c.limits.room) c.workspace
unfolding answer_from choose
answer_clears c s w e n = go (is_aggregate (node_at s n))
  where
    go : (b : Bool) → workspace_after c (choose b (saying in_bits (told (outcome w.limits started (number_for s w e n w.asked)))) (saying verdict (told (outcome w.limits started (walk_for s w e (node n w.asked)))))) ≡ cleared (2 * vars c.file * c.limits.room) c.workspace
    go true = saying_clears in_bits c _ ∙ walk_clears c w.limits (number_for s w e n w.asked)
    go false = saying_clears verdict c _ ∙ walk_clears c w.limits (walk_for s w e (node n w.asked))

pub ask_told : {s : List ℕ} {point n : ℕ} {start : List ℕ} {limits : Limits} {work : List ℕ} {u : OkOr Opening Refusal} {o : Opening} (part : List ℕ) {after : List ℕ} {r : SaidAnswer} → Checked s → Opens (wanted_for Answerable) (call_of s point n start limits work) u → u ≡ Ok o → TellsAnswer s o.call o.env n r → length part ≡ length (take o.cells work) → after ≡ cleared o.cells (part ++ drop o.cells work) → Answers (call_of s point n start limits work) after r
unfolding ask_call result answer_from walk_for number_for wanted_for choose
ask_told {s} {point} {n} {start} {limits} {work} {o = o} part checked opens is tells long after =
    let c : Call = call_of s point n start limits work in
    let a = walked_as checked opens is (λ m q. m.number q) in
    let b = walked_as checked opens is (λ m q. m.verdict q) in
    let clears = answer_clears c s o.call o.env n in
    record { is = cc (a, b, tells.is, workspace-as checked opens is part long after, clears) }
