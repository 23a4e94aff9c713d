-- What the promises come to: any two outcomes of a call are equal; demand 3 for each asking call; later points change nothing
use Rattle.std.specs.Prelude.{◌≡◌, refl, Bool, true, List, [], ◌∷◌, ◌++◌, ℕ, ◌≤◌, ℤ, length, drop}
use Rattle.std.proofs.Math.Path.{ap}
use Rattle.std.proofs.Common.{sym, ◌∙◌, arith, of_z}
use Rattle.std.proofs.Math.Option.{Option, none, some}
use Rattle.std.specs.Int.{w64}
use Rattle.meaning.specs.declared.Limits.{Limits}
use Rattle.meaning.specs.declared.Refusal.{Refusal}
use Rattle.meaning.specs.Tests.{choose}
use Rattle.meaning.specs.Walk.{W, spent, most}
use Rattle.meaning.specs.Case.{vars, strings, values, points, nodes}
use Rattle.meaning.specs.Check.{check, Checked}
use Rattle.meaning.specs.Rows.{Row}
use Rattle.meaning.specs.Calls.{number_of, Call, Said, gives, refuses, Result, is_condition, is_aggregate, answerable, walk_of, unless_refused, asking, result, check_call, Answer, verdict, number, saying, filled, projected, output_fits, rows_given, rows_call}
use Rattle.meaning.specs.Demands.{Askable, Exhausted, Tells, SameUpTo, of_file}
use Rattle.laws.specs.Calls.{answers_when, answers-only_when, condition-asked, aggregate-asked, rows_when, one-refusal}
use Rattle.laws.specs.Later.{later-points_change_nothing}
use Rattle.std.specs.Prelude.{Ok, Err}
use Rattle.casecheck.specs.declared.Contents.{Contents}
use Rattle.casecheck.specs.Answer.{contents_of, answer, as_checking}
use Rattle.calls.specs.declared.Spent.{Spent}
use Rattle.calls.specs.declared.Refused.{Refused}
use Rattle.calls.specs.declared.Answer.TheVariants as Ans
use Rattle.calls.specs.Promises.{Checking, SaidAnswer, SaidRows, as_check, as_answer, as_rows, Checks, Answers, Rowed}

-- ---- any two outcomes that a promise allows are equal

pub never : {A : Type 0} {a : A} {n s m s' m' : ℕ} → gives a s m ≡ refuses n s' m' → ⊥
never e = let z : ◌≡◌ {A = ℕ} 0 1 = cc in omega arith

pub same-refusal : {A : Type 0} (n n' : Refusal) {s m s' m' : ℕ} → ◌≡◌ {A = Said A} (refuses (number_of n) s m) (refuses (number_of n') s' m') → n ≡ n'
same-refusal n n' e = one-refusal n n' cc

pub same-spent : (s s' : Spent) → s.steps ≡ s'.steps → s.most ≡ s'.most → s ≡ s'
same-spent s s' a b = let z : ◌≡◌ {A = Spent} (record { steps = s.steps; most = s.most }) (record { steps = s'.steps; most = s'.most }) = cc (a, b) in z

pub same-refused : {A : Type 0} (e e' : Refused) → ◌≡◌ {A = Said A} (refuses (number_of e.refusal) e.spent.steps e.spent.most) (refuses (number_of e'.refusal) e'.spent.steps e'.spent.most) → e ≡ e'
same-refused e e' q =
    let n : e.refusal ≡ e'.refusal = same-refusal e.refusal e'.refusal q in
    let s : e.spent ≡ e'.spent = same-spent e.spent e'.spent (cc) (cc) in
    let z : ◌≡◌ {A = Refused} (record { refusal = e.refusal; spent = e.spent }) (record { refusal = e'.refusal; spent = e'.spent }) = cc (n, s) in
    z

-- ---- the check

-- the check's own answer says what the check call says
answer-says : (s : List ℕ) → as_check (as_checking s) ≡ check_call s
unfolding as_checking answer check_call unless_refused as_check
answer-says s = go (check s)
  where
    go : (o : Option Refusal) → as_check (answer o (contents_of s)) ≡ unless_refused o (gives (vars s ∷ strings s ∷ values s ∷ points s ∷ nodes s ∷ []) 0 0)
    go none = refl
    go (some n) = refl

pub check-said : (s : List ℕ) {r : Checking} → r ≡ as_checking s → Checks s r
check-said s is = record { is = ap as_check is ∙ answer-says s }

same-contents : (k k' : Contents) → k.vars ≡ k'.vars → k.strings ≡ k'.strings → k.values ≡ k'.values → k.points ≡ k'.points → k.nodes ≡ k'.nodes → k ≡ k'
same-contents k k' a b c d e =
    let z : ◌≡◌ {A = Contents} (record { vars = k.vars; strings = k.strings; values = k.values; points = k.points; nodes = k.nodes }) (record { vars = k'.vars; strings = k'.strings; values = k'.values; points = k'.points; nodes = k'.nodes }) = cc (a, b, c, d, e) in
    z

same_check : (r r' : Checking) → as_check r ≡ as_check r' → r ≡ r'
unfolding as_check
same_check (Ok k) (Ok k') e = ap Ok (same-contents k k' (cc) (cc) (cc) (cc) (cc))
same_check (Ok k) (Err n') e = absurd (never e)
same_check (Err n) (Ok k') e = absurd (never (sym e))
same_check (Err n) (Err n') e = ap Err (same-refusal n n' e)

pub one-check : {s : List ℕ} {r r' : Checking} → Checks s r → Checks s r' → r ≡ r'
one-check {r = r} {r'} p q = same_check r r' (p.is ∙ sym q.is)

-- so it is that answer
pub check-as : {s : List ℕ} {r : Checking} → Checks s r → r ≡ as_checking s
check-as {s} {r} p = same_check r (as_checking s) (p.is ∙ sym (answer-says s))

-- ---- asking

not-both : {b : Bool} {n s m s' m' : ℕ} → gives (verdict b) s m ≡ gives (number n) s' m' → ⊥
not-both e = let z : ◌≡◌ {A = ℕ} 0 1 = cc in omega arith

same_answer : (r r' : SaidAnswer) → as_answer r ≡ as_answer r' → r ≡ r'
unfolding as_answer
same_answer (Ok (Ans.Verdict b, s)) (Ok (Ans.Verdict b', s')) e = let z : s ≡ s' = same-spent s s' (cc) (cc) in let y : b ≡ b' = cc in cc
same_answer (Ok (Ans.Verdict b, s)) (Ok (Ans.Number u', s')) e = absurd (not-both e)
same_answer (Ok (Ans.Verdict b, s)) (Err n') e = absurd (never e)
same_answer (Ok (Ans.Number u, s)) (Ok (Ans.Verdict b', s')) e = absurd (not-both (sym e))
same_answer (Ok (Ans.Number u, s)) (Ok (Ans.Number u', s')) e = let z : s ≡ s' = same-spent s s' (cc) (cc) in let y : u ≡ u' = cc in cc
same_answer (Ok (Ans.Number u, s)) (Err n') e = absurd (never e)
same_answer (Err n) (Ok (Ans.Verdict b', s')) e = absurd (never (sym e))
same_answer (Err n) (Ok (Ans.Number u', s')) e = absurd (never (sym e))
same_answer (Err n) (Err n') e = ap Err (same-refused n n' e)

pub one_answer : {c : Call} {after after' : List ℕ} {r r' : SaidAnswer} → Answers c after r → Answers c after' r' → (r ≡ r') × (after ≡ after')
one_answer {r = r} {r'} p q =
    let e = p.is ∙ sym q.is in
    (same_answer r r' (ap (λ (x : Result Answer). x.said) e), ap (λ (x : Result Answer). x.workspace) e)

same_rows : (r r' : SaidRows) → as_rows r ≡ as_rows r' → r ≡ r'
unfolding as_rows
same_rows (Ok (k, s)) (Ok (k', s')) e = let z : s ≡ s' = same-spent s s' (cc) (cc) in let y : k ≡ k' = cc in cc
same_rows (Ok (k, s)) (Err n') e = absurd (never e)
same_rows (Err n) (Ok (k', s')) e = absurd (never (sym e))
same_rows (Err n) (Err n') e = ap Err (same-refused n n' e)

pub one-rows : {c : Call} {binders output after after' out out' : List ℕ} {r r' : SaidRows} → Rowed c binders output after out r → Rowed c binders output after' out' r' → (r ≡ r') × (after ≡ after') × (out ≡ out')
one-rows {r = r} {r'} p q =
    let e = p.is ∙ sym q.is in (
      same_rows r r' (ap (λ (x : Result ℕ). x.said) e),
      ap (λ (x : Result ℕ). x.workspace) e,
      ap (λ (x : Result ℕ). x.output) e,
    )

-- ---- demand 3: an answer exactly when step limit and room reach the definition's numbers, and then that answer and those numbers

-- an answer is what f makes of the walk's; all else is 11 or 12
abbrev pub TellsAs : {A B : Type 0} → (A → B) → Limits → W A → Said B → Type 0
TellsAs f l w (gives b steps held) =
    (b ≡ f w.answer) × (steps ≡ spent w) × (held ≡ most w) × (spent w ≤ l.steps) × (most w ≤ l.room)
TellsAs f l w (refuses n steps held) = Exhausted l n steps held

tells_as : {A B : Type 0} (f : A → B) (l : Limits) (w : W A) (said : Said A) → Tells l w said → TellsAs f l w (saying f said)
unfolding saying
tells_as f l w (gives a steps held) h = (ap f h.0, h.1, h.2, h.3, h.4)
tells_as f l w (refuses n steps held) h = h

-- asked of a condition: the definition's verdict
module _ {c : Call} {after : List ℕ} {r : SaidAnswer} (ok : Askable is_condition c) (p : Answers c after r) where
  abbrev the_verdict : W Bool
  the_verdict = walk_of (λ m q. m.verdict q) c.file c.point c.node c.start

  said-verdict : as_answer r ≡ saying verdict (asking answerable (λ m q. m.verdict q) c)
  said-verdict = ap (λ (x : Result Answer). x.said) p.is ∙ (condition-asked ok).1

  pub verdict_when : spent the_verdict ≤ c.limits.steps → most the_verdict ≤ c.limits.room → as_answer r ≡ gives (verdict the_verdict.answer) (spent the_verdict) (most the_verdict)
  unfolding saying
  verdict_when hs hr = said-verdict ∙ ap (saying verdict) (answers_when answerable (λ m q. m.verdict q) c (condition-asked ok).0 hs hr)

  pub verdict-only_when : TellsAs verdict c.limits the_verdict (as_answer r)
  verdict-only_when = rw said-verdict (tells_as verdict c.limits the_verdict _ (answers-only_when answerable (λ m q. m.verdict q) c (condition-asked ok).0))

-- asked of an aggregate: the definition's number, by its 64 bits
module _ {c : Call} {after : List ℕ} {r : SaidAnswer} (ok : Askable is_aggregate c) (p : Answers c after r) where
  abbrev the_number : W ℤ
  the_number = walk_of (λ m q. m.number q) c.file c.point c.node c.start

  abbrev bits : ℤ → Answer
  bits z = number (of_z w64 z)

  said-number : as_answer r ≡ saying bits (asking answerable (λ m q. m.number q) c)
  said-number = ap (λ (x : Result Answer). x.said) p.is ∙ (aggregate-asked ok).1

  pub number_when : spent the_number ≤ c.limits.steps → most the_number ≤ c.limits.room → as_answer r ≡ gives (number (of_z w64 the_number.answer)) (spent the_number) (most the_number)
  unfolding saying
  number_when hs hr = said-number ∙ ap (saying bits) (answers_when answerable (λ m q. m.number q) c (aggregate-asked ok).0 hs hr)

  pub number-only_when : TellsAs bits c.limits the_number (as_answer r)
  number-only_when = rw said-number (tells_as bits c.limits the_number _ (answers-only_when answerable (λ m q. m.number q) c (aggregate-asked ok).0))

-- the rows call, with binders the case has and an output long enough for its rows
module _ {c : Call} {binders output after out : List ℕ} {r : SaidRows} (ok : Askable is_condition c) (p : Rowed c binders output after out r) where
  abbrev the_rows : W (List Row)
  the_rows = walk_of (λ m q. m.rows q) c.file c.point c.node c.start

  abbrev the_kept : List Row
  the_kept = projected c.file binders the_rows.answer

  module _ (fits : output_fits c.file binders output the_kept ≡ true) where
    pub rows-answer_when : spent the_rows ≤ c.limits.steps → most the_rows ≤ c.limits.room
        → (as_rows r ≡ gives (length the_kept) (spent the_rows) (most the_rows)) × (out ≡ filled binders the_kept ++ drop (length (filled binders the_kept)) output)
    rows-answer_when hs hr =
        let e = p.is ∙ rows_when c binders output ok fits hs hr in
        (ap (λ (x : Result ℕ). x.said) e, ap (λ (x : Result ℕ). x.output) e)

    abbrev pub TellsRows : Said ℕ → Type 0
    TellsRows (gives k steps held) =
        (k ≡ length the_kept) × (steps ≡ spent the_rows) × (held ≡ most the_rows)
        × (spent the_rows ≤ c.limits.steps) × (most the_rows ≤ c.limits.room)
    TellsRows (refuses n steps held) = Exhausted c.limits n steps held

    pub rows-only_when : TellsRows (as_rows r)
    unfolding rows_call rows_given result choose
    rows-only_when =
        rw (ap (λ (x : Result ℕ). x.said) p.is)
        (go (asking is_condition (λ m q. m.rows q) c) (answers-only_when is_condition (λ m q. m.rows q) c ok))
      where
        go : (said : Said (List Row)) → Tells c.limits the_rows said → TellsRows (rows_given c binders output said).said
        go (refuses n steps held) h = h
        go (gives rows steps held) h = rw (h.0, fits) (refl, h.1, h.2, h.3, h.4)

-- ---- points after the one asked about change nothing, refusals 11 and 12 included

module _ (s t : List ℕ) (hs : Checked s) (ht : Checked t) (c : Call) (up : SameUpTo c.point s t) where
  pub answer-later : {after after' : List ℕ} {r r' : SaidAnswer} → Answers (of_file c s) after r → Answers (of_file c t) after' r' → (r ≡ r') × (after ≡ after')
  answer-later p q = one_answer p (record { is = q.is ∙ sym (later-points_change_nothing s t hs ht c up).0 })

  pub rows-later : {binders output after after' out out' : List ℕ} {r r' : SaidRows} → Rowed (of_file c s) binders output after out r → Rowed (of_file c t) binders output after' out' r' → (r ≡ r') × (after ≡ after') × (out ≡ out')
  rows-later {binders} {output} p q = one-rows p (record { is = q.is ∙ sym ((later-points_change_nothing s t hs ht c up).1 binders output) })
