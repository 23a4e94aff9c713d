-- What is told of a call, once it is known which way it was said
use Rattle.std.specs.Prelude.{◌≡◌, refl, Bool, ℕ, Ok, Err}
use Rattle.meaning.specs.declared.Refusal.{Refusal}
use Rattle.meaning.specs.Calls.{number_of}
use Rattle.carried.specs.declared.Carried.{Carried}
use Rattle.calls.specs.declared.Spent.{Spent}
use Rattle.calls.specs.declared.Refused.{Refused}
use Rattle.calls.specs.declared.Answer.{Answer}
use Rattle.calls.specs.declared.Answer.TheVariants as Ans
use Rattle.calls.specs.Promises.{SaidAnswer, SaidRows, SaidCarried, as_answer, as_rows, as_carried}
use Rattle.telling.specs.declared.Telling.{Telling as Told}
use Rattle.telling.specs.Seen.{said_number, told_cells, yes_cell, answer_cell, sort_cell, count_cell, no_cell, carried_cell, filled_cell}
use Rattle.telling.specs.Telling.{refusing, Telling}

pub refused_as : {n steps most : ℕ} (k : Refusal) → n ≡ number_of k → record { number = n; answer = 0; steps = steps; most = most; fourth = 0 } ≡ refusing (number_of k) steps most
refused_as k e = rw e refl

module _ {answer : Answer} {spent : Spent} {t : Told} where
  pub told-verdict : {b : Bool} {a : ℕ} → answer ≡ Ans.Verdict b → a ≡ yes_cell b → t ≡ record { number = 0; answer = a; steps = spent.steps; most = spent.most; fourth = 0 } → Telling answer_cell sort_cell (as_answer (Ok (answer, spent))) t
  unfolding as_answer said_number told_cells answer_cell sort_cell
  told-verdict e a q = rw (q, e, a) (record { number = refl; cells = refl })

  pub told-number : {bits : ℕ} → answer ≡ Ans.Number bits → t ≡ record { number = 0; answer = bits; steps = spent.steps; most = spent.most; fourth = 1 } → Telling answer_cell sort_cell (as_answer (Ok (answer, spent))) t
  unfolding as_answer said_number told_cells answer_cell sort_cell
  told-number e q = rw (q, e) (record { number = refl; cells = refl })

module _ {said : SaidAnswer} {t : Told} where
  pub told-given : {answer : Answer} {spent : Spent} → said ≡ Ok (answer, spent) → Telling answer_cell sort_cell (as_answer (Ok (answer, spent))) t → Telling answer_cell sort_cell (as_answer said) t
  told-given e told = rw e told

  pub told-refused : {r : Refused} → said ≡ Err r → t ≡ refusing (number_of r.refusal) r.spent.steps r.spent.most → Telling answer_cell sort_cell (as_answer said) t
  unfolding as_answer said_number told_cells
  told-refused e is = rw (is, e) (record { number = refl; cells = refl })

module _ {said : SaidRows} {t : Told} where
  pub told-count : {n : ℕ} {spent : Spent} → said ≡ Ok (n, spent) → t ≡ record { number = 0; answer = n; steps = spent.steps; most = spent.most; fourth = 0 } → Telling count_cell no_cell (as_rows said) t
  unfolding as_rows said_number told_cells
  told-count e q = rw (q, e) (record { number = refl; cells = refl })

  pub told-no-rows : {r : Refused} → said ≡ Err r → t ≡ refusing (number_of r.refusal) r.spent.steps r.spent.most → Telling count_cell no_cell (as_rows said) t
  unfolding as_rows said_number told_cells
  told-no-rows e is = rw (is, e) (record { number = refl; cells = refl })

module _ {said : SaidCarried} {t : Told} where
  pub told-carried : {r : Carried} {spent : Spent} {a : ℕ} → said ≡ Ok (r, spent) → a ≡ yes_cell r.verdict → t ≡ record { number = 0; answer = a; steps = spent.steps; most = spent.most; fourth = r.filled } → Telling carried_cell filled_cell (as_carried said) t
  unfolding as_carried said_number told_cells
  told-carried e a q = rw (q, e, a) (record { number = refl; cells = refl })

  pub told-not-carried : {r : Refused} → said ≡ Err r → t ≡ refusing (number_of r.refusal) r.spent.steps r.spent.most → Telling carried_cell filled_cell (as_carried said) t
  unfolding as_carried said_number told_cells
  told-not-carried e is = rw (is, e) (record { number = refl; cells = refl })
