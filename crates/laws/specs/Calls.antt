-- Demand 3: an asking call answers exactly when its limits reach the walk's numbers, and then with that answer and those numbers
use Rattle.std.specs.Prelude.{◌≡◌, Bool, true, false, List, [], ◌∷◌, ◌++◌, ℕ, ◌*◌, ◌≤◌, leb, length, drop}
use Rattle.std.proofs.Math.Path.{refl, ap}
use Rattle.std.proofs.Common.{sym, ◌∙◌, of_z, lt-ltb, le-leb, ltb-true, leb-true}
use Rattle.std.proofs.Math.Option.{none, some}
use Rattle.std.specs.Int.{w64}
use Rattle.meaning.specs.declared.Limits.{Limits}
use Rattle.meaning.specs.declared.Node.{Node}
use Rattle.meaning.specs.declared.Refusal.{Refusal}
use Rattle.meaning.specs.declared.Refusal.TheVariants.{BadContents, TooLarge, BadStrings, BadValues, BadPoints, BadNodes, NoSuchPoint, NoSuchNode, BadStart, BadLimits, StepsExhausted, RoomExhausted, BadOutput, OutputTooShort, ListTooShort}
use Rattle.meaning.specs.Tests.{◌and◌, ◌or◌, choose, pick}
use Rattle.meaning.specs.Walk.{W, started, spent, most, Outcome, answered, refused, outcome}
use Rattle.meaning.specs.Case.{Sort, conditions, terms, aggregates, broken, is_sort, sort_of, vars, node_at}
use Rattle.meaning.specs.Check.{check, Checked, bodies, mosts, string_rules, value_rules, point_rules, node_rules}
use Rattle.meaning.specs.Rows.{Row}
use Rattle.meaning.specs.Meaning.{Meaning, Question}
use Rattle.meaning.specs.Calls.{number_of, Call, Said, gives, refuses, is_condition, is_aggregate, answerable, against, walk_of, told, unless_refused, unless_against, asking, cleared, workspace_after, result, saying, ask_call, verdict, number, filled, projected, output_fits, rows_given, rows_call}
use Rattle.meaning.specs.Demands.{Askable, steps-out, room_out, Tells}
use Rattle.laws.specs.Tests.{both, unbroken, either}
use Rattle.laws.specs.Walk.{answers, tells, Told}

-- ---- 7 to 10: nothing is against a call exactly where document 01's conditions hold

pub nothing-against : {wanted : Node → Bool} {c : Call} → Askable wanted c → against wanted c ≡ none
unfolding against choose ◌and◌
nothing-against ok =
    rw (
      lt-ltb _ _ ok.point,
      lt-ltb _ _ ok.node,
      ok.one,
      ok.start,
      le-leb _ _ ok.steps,
      le-leb _ _ ok.room,
      le-leb _ _ ok.cells,
    ) refl

pub askable : {wanted : Node → Bool} {c : Call} → Checked c.file → against wanted c ≡ none → Askable wanted c
unfolding against
askable checked e =
    let h7 = unbroken _ _ _ e in
    let h8 = unbroken _ _ _ h7.1 in
    let h9 = unbroken _ _ _ h8.1 in
    let limits = both _ _ (unbroken _ _ _ h9.1).0 in
    record {
      checked = checked;
      point = ltb-true _ _ h7.0;
      node = ltb-true _ _ (both _ _ h8.0).0;
      one = (both _ _ h8.0).1;
      start = h9.0;
      steps = leb-true _ _ limits.0;
      room = leb-true _ _ (both _ _ limits.1).0;
      cells = leb-true _ _ (both _ _ limits.1).1;
    }

-- ---- the workspace: as it was after 1 to 10, cleared after a walk

abbrev early : Refusal → Bool
early n = leb (number_of n) 10

pub check-early : (s : List ℕ) (n : Refusal) → check s ≡ some n → leb (number_of n) 10 ≡ true
unfolding check number_of
check-early s n e =
    either early (bodies s) _ _ refl
    (either early (mosts s) _ _ refl
    (either early (string_rules s) _ _ refl
    (either early (value_rules s) _ _ refl
    (either early (point_rules s) _ _ refl
    (either early (node_rules s) _ _ refl
    (λ k none_is. cc)))))) n e

pub against-early : (wanted : Node → Bool) (c : Call) (n : Refusal) → against wanted c ≡ some n → leb (number_of n) 10 ≡ true
unfolding against number_of
against-early wanted c n e =
    either early _ _ _ refl
    (either early _ _ _ refl
    (either early _ _ _ refl
    (either early _ _ _ refl
    (λ k none_is. cc)))) n e

-- refused before the walk: nothing is written
pub refused-early : (A : Type 0) (c : Call) (n : Refusal) (output : List ℕ) → leb (number_of n) 10 ≡ true → result {A = A} c (refuses (number_of n) 0 0) output ≡ record { said = refuses (number_of n) 0 0; workspace = c.workspace; output = output }
unfolding result workspace_after choose
refused-early A c n output e = rw e refl

-- walked: cleared, whatever came of it
module _ {A : Type 0} (c : Call) (l : Limits) (w : W A) where
  abbrev after_walk : List ℕ
  after_walk = cleared (2 * vars c.file * c.limits.room) c.workspace

  pub walk_clears : workspace_after c (told (outcome l started w)) ≡ after_walk
  unfolding workspace_after told choose
  walk_clears = go (outcome l started w) (tells l w)
    where
      go : (o : Outcome A) → Told l w o → workspace_after c (told o) ≡ after_walk
      go (answered a m) h = refl
      go (refused n m) (steps-out e _ _) = rw e refl
      go (refused n m) (room_out e _ _) = rw e refl

pub saying_clears : {A B : Type 0} (f : A → B) (c : Call) (said : Said A) → workspace_after c (saying f said) ≡ workspace_after c said
unfolding workspace_after saying
saying_clears f c (gives a steps most) = refl
saying_clears f c (refuses n steps most) = refl

-- ---- an answer exactly when the limits suffice

module _ {A : Type 0} (wanted : Node → Bool) (manner : Meaning → Question → W A) (c : Call) (ok : Askable wanted c) where
  abbrev the_walk : W A
  the_walk = walk_of manner c.file c.point c.node c.start

  asking-is : asking wanted manner c ≡ told (outcome c.limits started the_walk)
  unfolding asking unless_against unless_refused
  asking-is = rw (ok.checked.passes, nothing-against ok) refl

  -- enough of both: the definition's answer, with its numbers
  pub answers_when : spent the_walk ≤ c.limits.steps → most the_walk ≤ c.limits.room → asking wanted manner c ≡ gives the_walk.answer (spent the_walk) (most the_walk)
  unfolding told spent most
  answers_when hs hr = asking-is ∙ ap told (answers c.limits the_walk hs hr)

  -- and only then; else 11 with all steps spent, or 12 with all room held
  pub answers-only_when : Tells c.limits the_walk (asking wanted manner c)
  unfolding told
  answers-only_when = rw asking-is (go (outcome c.limits started the_walk) (tells c.limits the_walk))
    where
      go : (o : Outcome A) → Told c.limits the_walk o → Tells c.limits the_walk (told o)
      go (answered a m) h = h
      go (refused n m) h = h

-- ---- one ask call: of a condition its verdict, of an aggregate its number

conditions_are : (n : Node) → is_condition n ≡ true → (answerable n ≡ true) × (is_aggregate n ≡ false)
unfolding answerable is_condition is_aggregate is_sort ◌or◌
conditions_are n e = (rw e refl, go (sort_of n) e)
  where
    go : (s : Sort) → is_sort conditions s ≡ true → is_sort aggregates s ≡ false
    go conditions e = refl
    go terms e = cc
    go aggregates e = cc
    go broken e = cc

aggregates_are : (n : Node) → is_aggregate n ≡ true → answerable n ≡ true
unfolding answerable ◌or◌
aggregates_are n e = go (is_condition n)
  where
    go : (b : Bool) → (b or is_aggregate n) ≡ true
    go true = refl
    go false = e

also : {wanted wanted' : Node → Bool} {c : Call} → (wanted' (node_at c.file c.node) ≡ true) → Askable wanted c → Askable wanted' c
also e ok = record { checked = ok.checked; point = ok.point; node = ok.node; one = e; start = ok.start; steps = ok.steps; room = ok.room; cells = ok.cells }

pub condition-asked : {c : Call} → Askable is_condition c → Askable answerable c × ((ask_call c).said ≡ saying verdict (asking answerable (λ m q. m.verdict q) c))
unfolding ask_call result choose
condition-asked ok = let are = conditions_are _ ok.one in (also are.0 ok, rw are.1 refl)

pub aggregate-asked : {c : Call} → Askable is_aggregate c → Askable answerable c × ((ask_call c).said ≡ saying (λ z. number (of_z w64 z)) (asking answerable (λ m q. m.number q) c))
unfolding ask_call result choose
aggregate-asked ok = (also (aggregates_are _ ok.one) ok, rw ok.one refl)

-- the rows call, with binders the case has and an output long enough for its rows
pub rows_when : (c : Call) (binders output : List ℕ) → Askable is_condition c
    → let w : W (List Row) = walk_of (λ m q. m.rows q) c.file c.point c.node c.start in
    let kept : List Row = projected c.file binders w.answer in
    output_fits c.file binders output kept ≡ true
    → spent w ≤ c.limits.steps → most w ≤ c.limits.room
    → rows_call binders output c ≡ record {
      said = gives (length kept) (spent w) (most w);
      workspace = cleared (2 * vars c.file * c.limits.room) c.workspace;
      output = filled binders kept ++ drop (length (filled binders kept)) output;
    }
unfolding rows_call rows_given result workspace_after choose
rows_when c binders output ok fits hs hr =
    ap (rows_given c binders output) (answers_when is_condition (λ m q. m.rows q) c ok hs hr) ∙ rw fits refl

-- ---- no two refusals share a number

refusal_of : ℕ → Refusal
refusal_of k =
    pick (BadContents ∷ BadContents ∷ TooLarge ∷ BadStrings ∷ BadValues ∷ BadPoints ∷ BadNodes ∷ NoSuchPoint ∷ NoSuchNode ∷ BadStart ∷ BadLimits ∷ StepsExhausted ∷ RoomExhausted ∷ BadOutput ∷ OutputTooShort ∷ ListTooShort ∷ []) k BadContents

numbered : (n : Refusal) → refusal_of (number_of n) ≡ n
unfolding refusal_of number_of pick
numbered BadContents = refl
numbered TooLarge = refl
numbered BadStrings = refl
numbered BadValues = refl
numbered BadPoints = refl
numbered BadNodes = refl
numbered NoSuchPoint = refl
numbered NoSuchNode = refl
numbered BadStart = refl
numbered BadLimits = refl
numbered StepsExhausted = refl
numbered RoomExhausted = refl
numbered BadOutput = refl
numbered OutputTooShort = refl
numbered ListTooShort = refl

pub one-refusal : (n n' : Refusal) → number_of n ≡ number_of n' → n ≡ n'
one-refusal n n' e = sym (numbered n) ∙ ap refusal_of e ∙ numbered n'
