-- From what a call of `calls` says to what a caller in C sees
use mathlib.Core.Path.{◌≡◌, sym, ap, ◌∙◌}
use mathlib.Core.List.{List, [], ◌∷◌, ◌++◌}
use Prim.Native.Nat.{ℕ, ◌<◌, ◌≤◌}
use lib.ListN.{length, drop}
use borrow.Author.Tests.{lt-ltb, le-ltb}
use Rattle.meaning.specs.declared.Refusal.{Refusal}
use Rattle.laws.specs.Tests.{yes, no}
use Rattle.meaning.specs.Calls.{number_of, Call, Said, Result, ask_call, rows_call}
use Rattle.casecheck.specs.declared.Contents.{Contents}
use Rattle.meaning.specs.Carried.{carried_call}
use Rattle.std.specs.Prelude.{Ok, Err}
use Rattle.calls.specs.Promises.{Checking, SaidAnswer, SaidRows, SaidCarried, Answers, Rowed, Carrying, as_check, as_answer, as_rows, as_carried}
use Rattle.calls.specs.Promises.{Checks as CheckSays}
use Rattle.telling.specs.declared.Telling.{Telling as Told}
use Rattle.telling.specs.Telling.{cells_of, Telling}
use Rattle.telling.specs.Seen.{too_few, contents_after, check_seen, CheckSeen, Checks, said_number, seen, ask_seen, Tells, answer_cell, sort_cell, count_cell, no_cell, carried_cell, filled_cell}

-- ---- asking, whatever the call

module _ {A : Type 0} (cell fourth : A → ℕ) (r : Result A) (work output lent : List ℕ) where
  pub unasked : length lent < 4 → Tells cell fourth r work output lent (seen too_few work output lent)
  unfolding ask_seen
  unasked h = record { is = sym (yes _ (lt-ltb (length lent) 4 h)) }

  asked : {said : Said A} {t : Told} {work' output' told : List ℕ} {k : ℕ} → 4 ≤ length lent → record { said = said; workspace = work'; output = output' } ≡ r → Telling cell fourth said t → (k ≡ t.number) × (told ≡ cells_of t ++ drop 4 lent) → Tells cell fourth r work output lent (seen k work' output' told)
  unfolding ask_seen
  asked h says tells is = record {
    is = sym (no _ (le-ltb (length lent) 4 h) (sym (rw (← says) (cc (is.0, is.1, tells.number, tells.cells)))));
  }

pub ask_told : {c : Call} {lent work told : List ℕ} {said : SaidAnswer} {t : Told} {k : ℕ} → 4 ≤ length lent → Answers c work said → Telling answer_cell sort_cell (as_answer said) t → (k ≡ t.number) × (told ≡ cells_of t ++ drop 4 lent) → Tells answer_cell sort_cell (ask_call c) c.workspace [] lent (seen k work [] told)
ask_told {c} {lent} h says = asked answer_cell sort_cell (ask_call c) c.workspace [] lent h says.is

pub rows_told : {c : Call} {binders output lent work filled told : List ℕ} {said : SaidRows} {t : Told} {k : ℕ} → 4 ≤ length lent → Rowed c binders output work filled said → Telling count_cell no_cell (as_rows said) t → (k ≡ t.number) × (told ≡ cells_of t ++ drop 4 lent) → Tells count_cell no_cell (rows_call binders output c) c.workspace output lent (seen k work filled told)
rows_told {c} {binders} {output} {lent} h says = asked count_cell no_cell (rows_call binders output c) c.workspace output lent h says.is

pub carried-told : {c : Call} {list lent work filled told : List ℕ} {said : SaidCarried} {t : Told} {k : ℕ} → 4 ≤ length lent → Carrying c list work filled said → Telling carried_cell filled_cell (as_carried said) t → (k ≡ t.number) × (told ≡ cells_of t ++ drop 4 lent) → Tells carried_cell filled_cell (carried_call list c) c.workspace list lent (seen k work filled told)
carried-told {c} {list} {lent} h says = asked carried_cell filled_cell (carried_call list c) c.workspace list lent h says.is

-- ---- the check

pub unchecked : (s lent : List ℕ) → length lent < 5 → Checks s lent lent too_few
unfolding check_seen
unchecked s lent h = record { is = sym (yes _ (lt-ltb (length lent) 5 h)) }

module _ {s lent : List ℕ} {checking : Checking} (long : 5 ≤ length lent) (said : CheckSays s checking) where
  seen_as : {after : List ℕ} {r : ℕ} → ◌≡◌ {A = CheckSeen} (record { number = r; contents = after }) (record { number = said_number (as_check checking); contents = contents_after lent (as_check checking) }) → Checks s lent after r
  unfolding check_seen
  seen_as e = record { is = sym (no _ (le-ltb (length lent) 5 long) (sym (e ∙ ap (λ (x : Said (List ℕ)). record { number = said_number x; contents = contents_after lent x }) said.is))) }

  pub passes : {after : List ℕ} {k : Contents} {r : ℕ} → checking ≡ Ok k → r ≡ 0 → after ≡ (k.vars ∷ k.strings ∷ k.values ∷ k.points ∷ k.nodes ∷ []) ++ drop 5 lent → Checks s lent after r
  unfolding as_check said_number contents_after
  passes e q a = seen_as (rw e (cc (q, a)))

  pub refused : {n : Refusal} {r : ℕ} → checking ≡ Err n → r ≡ number_of n → Checks s lent lent r
  unfolding as_check said_number contents_after
  refused e q = seen_as (rw e (cc q))
