-- The public calls: a case that passes the check is a checked one, and one that does not is refused before all else
use mathlib.Core.Path.{◌≡◌, refl, ap, sym, ◌∙◌}
use mathlib.Core.Bool.{Bool}
use mathlib.Core.List.{List, []}
use mathlib.Core.Option.{Option, none, some}
use Prim.Native.Nat.{ℕ}
use native.Mathlib.Omega.{arith}
use Rattle.meaning.specs.declared.Limits.{Limits}
use Rattle.meaning.specs.declared.Node.{Node}
use Rattle.meaning.specs.declared.Refusal.{Refusal}
use Rattle.meaning.specs.Walk.{W}
use Rattle.meaning.specs.Case.{node_at}
use Rattle.meaning.specs.Check.{Checked, check}
use Rattle.meaning.specs.Meaning.{Meaning, Question}
use Rattle.meaning.specs.Calls.{number_of, Said, refuses, unless_refused, is_condition, is_aggregate, answerable, unless_against, asking, result, Answer, ask_call, rows_given, rows_call}
use Rattle.laws.specs.Calls.{check-early, refused-early}
use Rattle.casecheck.specs.declared.Contents.{Contents}
use Rattle.casecheck.specs.Answer.{contents_of, answer, as_checking, passed}
use Rattle.meaning.specs.Carried.{looks_back, Shown, Carried, listed, carried_call}
use Rattle.std.specs.Prelude.{Ok, Err}
use Rattle.calls.specs.Promises.{call_of, Checking, early, as_answer, as_rows, as_carried, Answers, Rowed, Carrying}
use Rattle.calls.proofs.Asked.{saying-refuses, chosen}

pub passes : {s : List ℕ} {r : Checking} {k : Contents} → r ≡ as_checking s → r ≡ Ok k → Checked s
passes {s} {r} {k} is passing = (passed s k (sym passing ∙ is)).0

refused-by : (s : List ℕ) {r : Checking} {k : Refusal} → r ≡ as_checking s → r ≡ Err k → check s ≡ some k
unfolding as_checking answer
refused-by s {r} {k} is refusing = go (check s) refl
  where
    go : (o : Option Refusal) → check s ≡ o → check s ≡ some k
    go none e = let z : ◌≡◌ {A = Checking} (Err k) (Ok (contents_of s)) = cc (is, refusing, e) in let y : ◌≡◌ {A = ℕ} 0 1 = cc in absurd (omega arith)
    go (some n) e = let z : ◌≡◌ {A = Checking} (Err k) (Err n) = cc (is, refusing, e) in let y : k ≡ n = cc in e ∙ ap some (sym y)

module _ (s : List ℕ) {r : Checking} {k : Refusal} (is : r ≡ as_checking s) (refusing : r ≡ Err k) (point n : ℕ) (start : List ℕ) (limits : Limits) (work : List ℕ) where
  pub said-unchecked : {A : Type 0} (wanted : Node → Bool) (said : Said A) → unless_against wanted (call_of s point n start limits work) said ≡ refuses (number_of k) 0 0
  unfolding unless_against unless_refused
  said-unchecked wanted said = rw (refused-by s is refusing) refl

  asked-not : {A : Type 0} (wanted : Node → Bool) (manner : Meaning → Question → W A) → asking wanted manner (call_of s point n start limits work) ≡ refuses (number_of k) 0 0
  unfolding asking
  asked-not wanted manner = said-unchecked wanted _

  pub unwritten : (A : Type 0) (output : List ℕ) → result {A = A} (call_of s point n start limits work) (refuses (number_of k) 0 0) output ≡ record { said = refuses (number_of k) 0 0; workspace = work; output = output }
  unwritten A output = refused-early A (call_of s point n start limits work) k output (check-early s k (refused-by s is refusing))

  pub ask_unchecked : Answers (call_of s point n start limits work) work (Err (early k))
  unfolding ask_call as_answer
  ask_unchecked = record {
    is = sym (
        ap (λ (said : Said Answer). result (call_of s point n start limits work) said []) (chosen (is_aggregate (node_at s n)) (saying-refuses _ (asked-not answerable (λ m q. m.number q))) (saying-refuses _ (asked-not answerable (λ m q. m.verdict q))))
        ∙ unwritten Answer []
        );
  }

  pub carried-unchecked : {list : List ℕ} → Carrying (call_of s point n start limits work) list work list (Err (early k))
  unfolding carried_call listed as_carried
  carried-unchecked {list} = record {
    is = sym (
        ap (λ (said : Said Shown). result (call_of s point n start limits work) (listed list said).said (listed list said).list) (said-unchecked looks_back _)
        ∙ unwritten Carried list
        );
  }

  pub rows-unchecked : {binders output : List ℕ} → Rowed (call_of s point n start limits work) binders output work output (Err (early k))
  unfolding rows_call rows_given as_rows
  rows-unchecked {binders} {output} = record { is = sym (ap (rows_given (call_of s point n start limits work) binders output) (asked-not is_condition (λ m q. m.rows q)) ∙ unwritten ℕ output) }
