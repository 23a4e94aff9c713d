-- Where the verdict's own walk is answered, so is each question of its scan: none is refused, since each is a part of that walk
use Rattle.std.specs.Prelude.{◌≡◌, refl, ltb, leb, length, drop as drop'}
use Rattle.std.proofs.Math.Path.{sym, ap}
use Rattle.std.proofs.Common.{◌∙◌, lt-ltb, ltb-true}
use Rattle.std.proofs.Math.Bool.{Bool, true, false}
use mathlib.Core.List.{List, [], ◌∷◌, ◌++◌}
use Rattle.std.proofs.Math.Option.{none, some}
use Prim.Native.Nat.{ℕ, zero, suc, ◌-◌, ◌≤◌}
use native.Mathlib.Omega.{arith}
use Rattle.meaning.specs.declared.Limits.{Limits}
use Rattle.meaning.specs.declared.Meter.{Meter}
use Rattle.meaning.specs.declared.Interval.{Interval}
use Rattle.meaning.specs.declared.Refusal.TheVariants.{ListTooShort}
use Rattle.meaning.specs.declared.Node.{Node}
use Rattle.meaning.specs.declared.Node.TheVariants.{And, Or, Not, Formerly, Previous, Since, Predicate, Comparison, Exists, Tp, Literal, Context, Scope, Variable, Wildcard, Aggregate, Arithmetic, Sum, Count, Broken}
use Rattle.meaning.specs.Tests.{◌and◌, choose}
use Rattle.meaning.specs.Walk.{Event, step, add, drop, W, give, visit, ◌>>=◌, started, after, End as RunEnd, whole, no_steps, no_room, run, Outcome, answered, refused, ending as outcome_of, outcome}
use Rattle.meaning.specs.Case.{Case, Point, node_at, point_at, case_of}
use Rattle.meaning.specs.Check.{Checked}
use Rattle.meaning.specs.Number.{seconds, in_window}
use Rattle.meaning.specs.Rows.{Row}
use Rattle.meaning.specs.Meaning.{Past, Question, meaning, earlier, firsts, question, if_yes, unless_yes, if_inside, inside, time, downward, every, before, is_there, previously, formerly_verdict, since_verdict, condition, meaning_of}
use Rattle.meaning.specs.Calls.{number_of, Said, gives, refuses}
use Rattle.laws.specs.Walk.{and_then, outcome_bind}
use Rattle.laws.specs.Meaning.{pasts, meaning-is}
use Rattle.meaning.specs.Carried.{Look, formerly, previous, since, look_of, End, at, nowhere, stopped, Scan, ending, Turn, passes, carries, fails, halts, met, down, body_turn, left_turn, left_from, anchor_turn, asked_at, seen_from, turn_at, scan_of, carried_by, Shown, shown, Carried, Listed, listed}
use Rattle.meaning.specs.Carried.{before as before_scan}
use Rattle.meaning.specs.Single.{all_from, holds_at, right_of, left_of, fails_of}
use Rattle.laws.specs.Carried.{OutTells, TurnTells, out-tells, turn-tells}

-- ---- a walk that is whole from some meter is whole from the start

abbrev RunGoes : RunEnd → Type 0
RunGoes (whole m) = Unit {0}
RunGoes (no_steps m) = ⊥
RunGoes (no_room m) = ⊥

abbrev pub Goes : {A : Type 0} → Outcome A → Type 0
Goes (answered a m) = Unit {0}
Goes (refused n m) = ⊥

branch : (b : Bool) (x y : RunEnd) → (RunGoes y → ⊥) → RunGoes (elim b as (λ b. RunEnd) [ true ↦ x | false ↦ y ]) → (b ≡ true) × RunGoes x
branch true x y stops h = (refl, h)
branch false x y stops h = absurd (stops h)

taken : (b : Bool) (x y : RunEnd) → b ≡ true → RunGoes x → RunGoes (elim b as (λ b. RunEnd) [ true ↦ x | false ↦ y ])
taken true x y e h = h
taken false x y e h = let z : ◌≡◌ {A = ℕ} 0 1 = cc in absurd (omega arith)

lower-goes : (l : Limits) (es : List Event) (m n : Meter) → n.steps ≤ m.steps → n.held ≤ m.held → RunGoes (run l m es) → RunGoes (run l n es)
unfolding run after
lower-goes l [] m n hs hh h = tt
lower-goes l (step ∷ es) m n hs hh h =
    let p = branch (ltb m.steps l.steps) (run l (after m step) es) (no_steps m) (λ z. z) h in
    let t : ltb n.steps l.steps ≡ true = lt-ltb n.steps l.steps (omega (arith, ltb-true m.steps l.steps p.0)) in
    taken (ltb n.steps l.steps) (run l (after n step) es) (no_steps n) t (lower-goes l es (after m step) (after n step) (omega arith) hh p.1)
lower-goes l (add ∷ es) m n hs hh h =
    let p = branch (ltb m.held l.room) (run l (after m add) es) (no_room m) (λ z. z) h in
    let t : ltb n.held l.room ≡ true = lt-ltb n.held l.room (omega (arith, ltb-true m.held l.room p.0)) in
    taken (ltb n.held l.room) (run l (after n add) es) (no_room n) t (lower-goes l es (after m add) (after n add) hs (omega arith) p.1)
lower-goes l (drop k ∷ es) m n hs hh h = lower-goes l es (after m (drop k)) (after n (drop k)) hs (omega arith) h

ending-goes : {A : Type 0} (a : A) (e : RunEnd) → Goes (outcome_of a e) → RunGoes e
unfolding outcome_of
ending-goes a (whole m) h = tt
ending-goes a (no_steps m) h = h
ending-goes a (no_room m) h = h

goes-ending : {A : Type 0} (a : A) (e : RunEnd) → RunGoes e → Goes (outcome_of a e)
unfolding outcome_of
goes-ending a (whole m) h = tt
goes-ending a (no_steps m) h = h
goes-ending a (no_room m) h = h

afresh_goes : {A : Type 0} (l : Limits) (m : Meter) (w : W A) → Goes (outcome l m w) → Goes (outcome l started w)
unfolding outcome started
afresh_goes l m w h = goes-ending w.answer _ (lower-goes l w.walk m started (omega arith) (omega arith) (ending-goes w.answer _ h))

-- one walk after another: both go
bind_goes : {A B : Type 0} (l : Limits) (m : Meter) (w : W A) (f : A → W B) → Goes (outcome l m (w >>= f)) → Goes (outcome l m w) × ((m' : Meter) × Goes (outcome l m' (f w.answer)))
unfolding outcome outcome_of and_then
bind_goes {A} {B} l m w f h = go (run l m w.walk) (rw (← outcome_bind l m w f) h)
  where
    go : (e : RunEnd) → Goes (and_then (outcome_of w.answer e) (λ a m'. outcome l m' (f a))) → Goes (outcome_of w.answer e) × ((m' : Meter) × Goes (outcome l m' (f w.answer)))
    go (whole m') h = (tt, (m', h))
    go (no_steps m') h = absurd h
    go (no_room m') h = absurd h

-- ---- turns that are not refused

abbrev TurnGoes : Turn → Type 0
TurnGoes passes = Unit {0}
TurnGoes carries = Unit {0}
TurnGoes (fails k) = Unit {0}
TurnGoes (halts n m) = ⊥

abbrev pub EndGoes : End → Type 0
EndGoes (at j) = Unit {0}
EndGoes nowhere = Unit {0}
EndGoes (stopped n m) = ⊥

body-goes : (o : Outcome Bool) → Goes o → TurnGoes (body_turn o)
unfolding body_turn choose
body-goes (answered true m) h = tt
body-goes (answered false m) h = tt
body-goes (refused n m) h = h

left-goes : (k : ℕ) (o : Outcome Bool) (y : Bool) (next : Turn) → Goes o → OutTells y o → (y ≡ true → TurnGoes next) → TurnGoes (left_turn k o next)
unfolding left_turn choose
left-goes k (answered true m) y next h t hn = hn (sym t)
left-goes k (answered false m) y next h t hn = tt
left-goes k (refused n m) y next h t hn = h

anchor-goes : (o : Outcome Bool) (y : Bool) (next : Turn) → Goes o → OutTells y o → (y ≡ true → TurnGoes next) → TurnGoes (anchor_turn o next)
unfolding anchor_turn choose
anchor-goes (answered true m) y next h t hn = hn (sym t)
anchor-goes (answered false m) y next h t hn = tt
anchor-goes (refused n m) y next h t hn = h

-- what follows a yes goes, if it is a yes
after-yes : (l : Limits) (m : Meter) (y : Bool) (next : W Bool) → Goes (outcome l m (if_yes next y)) → y ≡ true → Goes (outcome l m next)
unfolding if_yes
after-yes l m true next h e = h
after-yes l m false next h e = let z : ◌≡◌ {A = ℕ} 0 1 = cc in absurd (omega arith)

after-no : (l : Limits) (m : Meter) (y : Bool) (next : W Bool) → Goes (outcome l m (unless_yes next y)) → y ≡ false → Goes (outcome l m next)
unfolding unless_yes
after-no l m false next h e = h
after-no l m true next h e = let z : ◌≡◌ {A = ℕ} 0 1 = cc in absurd (omega arith)

every-goes : (log : ℕ → Point) (ask : Past → W Bool) (l : Limits) (k n : ℕ) (m : Meter) → Goes (outcome l m (every ask (pasts log k n))) → TurnGoes (left_from (λ j. outcome l started (ask (firsts log (suc j)))) k n)
unfolding every pasts left_from
every-goes log ask l k zero m h = tt
every-goes log ask l k (suc n) m h =
    let p = bind_goes l m (ask (firsts log (suc k))) (if_yes (every ask (pasts log (suc k) n))) h in
    left-goes k (outcome l started (ask (firsts log (suc k)))) (ask (firsts log (suc k))).answer _ (afresh_goes l m (ask (firsts log (suc k))) p.0) (out-tells l (ask (firsts log (suc k))))
    (λ e. every-goes log ask l (suc k) n p.1.0 (after-yes l p.1.0 (ask (firsts log (suc k))).answer (every ask (pasts log (suc k) n)) p.1.1 e))

-- ---- the scan

-- a turn that goes, and what it tells, leads on only where the verdict's scan went on
met-goes : (j : ℕ) (r a : Bool) (f : ℕ) (t : Turn) (rest : Scan) → TurnTells r a f t → TurnGoes t → ((r and a) ≡ false → EndGoes rest.end) → EndGoes (met j t rest).end
unfolding met ◌and◌
met-goes j r a f passes rest h g hr = hr (rw h refl)
met-goes j r a f carries rest h g hr = tt
met-goes j r a f (fails k) rest h g hr = hr (rw (h.0, h.1) refl)
met-goes j r a f (halts n m) rest h g hr = g

module _ (log : ℕ → Point) (within : Past → Bool) (ask : Past → List Past → W Bool) (l : Limits) (i : ℕ) (view right left : ℕ → Bool) (first : ℕ → ℕ) (turn : ℕ → Turn)
    (seen : (j : ℕ) → within (firsts log (suc j)) ≡ view j)
    (answers : (j : ℕ) → (ask (firsts log (suc j)) (pasts log (suc j) (i - j))).answer ≡ (right j and left j))
    (says : (j : ℕ) → TurnTells (right j) (left j) (first j) (turn j))
    (goes : (j : ℕ) (m : Meter) → Goes (outcome l m (ask (firsts log (suc j)) (pasts log (suc j) (i - j)))) → TurnGoes (turn j)) where
  point-goes : (b : Bool) (j : ℕ) (m : Meter) (rest : W Bool) (lower : Scan) → Goes (outcome l m (if_inside b false (ask (firsts log (suc j)) (pasts log (suc j) (i - j))) >>= unless_yes rest)) → ((m' : Meter) → Goes (outcome l m' rest) → EndGoes lower.end) → EndGoes (choose b (met j (turn j) lower) lower).end
  unfolding if_inside choose give
  point-goes true j m rest lower h hr =
      let w : W Bool = ask (firsts log (suc j)) (pasts log (suc j) (i - j)) in
      let p = bind_goes l m w (unless_yes rest) h in
      met-goes j (right j) (left j) (first j) (turn j) lower (says j) (goes j m p.0)
      (λ e. hr p.1.0 (after-no l p.1.0 w.answer rest p.1.1 (answers j ∙ e)))
  point-goes false j m rest lower h hr =
      let p = bind_goes l m (give false) (unless_yes rest) h in
      hr p.1.0 (after-no l p.1.0 false rest p.1.1 refl)

  down-goes : (n : ℕ) (later : List Past) (m : Meter) → n ≤ suc i → later ≡ pasts log n (suc i - n) → Goes (outcome l m (downward within ask later (firsts log n))) → EndGoes (down view turn n).end
  unfolding downward firsts down pasts
  down-goes zero later m le e h = tt
  down-goes (suc n) later m le e h =
      let z : suc i - suc n ≡ i - n = omega arith in
      let z' : suc i - n ≡ suc (i - n) = omega arith in
      let here : later ≡ pasts log (suc n) (i - n) = e ∙ ap (pasts log (suc n)) z in
      let next : firsts log (suc n) ∷ pasts log (suc n) (i - n) ≡ pasts log n (suc i - n) = sym (ap (pasts log n) z') in
      point-goes (view n) n m (downward within ask (firsts log (suc n) ∷ pasts log (suc n) (i - n)) (firsts log n)) (down view turn n)
      (rw (← seen n) (rw here at h))
      (λ m' g. down-goes n (firsts log (suc n) ∷ pasts log (suc n) (i - n)) m' (omega arith) next g)

-- ---- a node that looks back

step-goes : (l : Limits) (m : Meter) (w : W Bool) → Goes (outcome l m (visit w)) → (m' : Meter) × Goes (outcome l m' w)
unfolding outcome visit run
step-goes l m w h =
    let p = branch (ltb m.steps l.steps) (run l (after m step) w.walk) (no_steps m) (λ z. z) (ending-goes w.answer _ h) in
    (after m step, goes-ending w.answer _ p.1)

and_yes : (b : Bool) → b ≡ (b and true)
unfolding ◌and◌
and_yes true = refl
and_yes false = refl

yes-answer : (a next : W Bool) → (a >>= if_yes next).answer ≡ (a.answer and next.answer)
unfolding ◌>>=◌ if_yes give ◌and◌
yes-answer a next = go a.answer
  where
    go : (y : Bool) → (if_yes next y).answer ≡ (y and next.answer)
    go true = refl
    go false = refl

every-answer : (log : ℕ → Point) (ask : Past → W Bool) (k n : ℕ) → (every ask (pasts log k n)).answer ≡ all_from (λ j. (ask (firsts log (suc j))).answer) k n
unfolding every pasts all_from give
every-answer log ask k zero = refl
every-answer log ask k (suc n) =
    yes-answer (ask (firsts log (suc k))) (every ask (pasts log (suc k) n))
    ∙ ap (λ (b : Bool). (ask (firsts log (suc k))).answer and b) (every-answer log ask (suc k) n)

module _ (c : Case) (log : ℕ → Point) (i : ℕ) (row : Row) (l : Limits) where
  abbrev q : Question
  q = question log i row

  none-later : [] ≡ pasts log (suc i) (suc i - suc i)
  unfolding pasts
  none-later = let z : suc i - suc i ≡ 0 = omega arith in sym (ap (pasts log (suc i)) z)

  formerly-goes : (within : Interval) (n : ℕ) (m : Meter) → Goes (outcome l m (formerly_verdict (seconds within) (meaning c n) q)) → EndGoes (scan_of c log i row l (formerly within n)).end
  unfolding formerly_verdict scan_of seen_from turn_at asked_at right_of left_of fails_of holds_at inside time question firsts
  formerly-goes within n m h =
      down-goes log (inside (seconds within) (firsts log (suc i))) (λ past later. (meaning c n).verdict (earlier q past)) l i
      (seen_from c log i row l within) (right_of c log i row (formerly within n)) (left_of c log i row (formerly within n)) (fails_of c log i row (formerly within n)) (turn_at c log i row l (formerly within n))
      (λ j. refl) (λ j. and_yes (holds_at c log i row n j)) (turn-tells c log i row l (formerly within n))
      (λ j m g. body-goes _ (afresh_goes l m ((meaning c n).verdict (earlier q (firsts log (suc j)))) g))
      (suc i) [] m (omega arith) none-later h

  since-goes : (left right : ℕ) (within : Interval) (m : Meter) → Goes (outcome l m (since_verdict (seconds within) (meaning c left) (meaning c right) q)) → EndGoes (scan_of c log i row l (since left right within)).end
  unfolding since_verdict scan_of seen_from turn_at asked_at right_of left_of fails_of holds_at inside time question firsts
  since-goes left right within m h =
      down-goes log (inside (seconds within) (firsts log (suc i))) (λ past after. (meaning c right).verdict (earlier q past) >>= if_yes (every (λ later. (meaning c left).verdict (earlier q later)) after)) l i
      (seen_from c log i row l within) (right_of c log i row (since left right within)) (left_of c log i row (since left right within)) (fails_of c log i row (since left right within)) (turn_at c log i row l (since left right within))
      (λ j. refl)
      (λ j. yes-answer _ _ ∙ ap (λ (b : Bool). ((meaning c right).verdict (earlier q (firsts log (suc j)))).answer and b) (every-answer log (λ later. (meaning c left).verdict (earlier q later)) (suc j) (i - j)))
      (turn-tells c log i row l (since left right within))
      (λ j m g. anchored j m g)
      (suc i) [] m (omega arith) none-later h
    where
      anchored : (j : ℕ) (m : Meter) → Goes (outcome l m ((meaning c right).verdict (earlier q (firsts log (suc j))) >>= if_yes (every (λ later. (meaning c left).verdict (earlier q later)) (pasts log (suc j) (i - j))))) → TurnGoes (turn_at c log i row l (since left right within) j)
      anchored j m g =
          let w : W Bool = (meaning c right).verdict (earlier q (firsts log (suc j))) in
          let rest : W Bool = every (λ later. (meaning c left).verdict (earlier q later)) (pasts log (suc j) (i - j)) in
          let p = bind_goes l m w (if_yes rest) g in
          anchor-goes (outcome l started w) w.answer _ (afresh_goes l m w p.0) (out-tells l w)
          (λ e. every-goes log (λ later. (meaning c left).verdict (earlier q later)) l (suc j) (i - j) p.1.0 (after-yes l p.1.0 w.answer rest p.1.1 e))

one-goes : (j : ℕ) (t : Turn) → TurnGoes t → EndGoes (met j t (ending nowhere)).end
unfolding met
one-goes j passes g = tt
one-goes j carries g = tt
one-goes j (fails k) g = tt
one-goes j (halts n m) g = g

-- the point before
inside-goes : (b : Bool) (l : Limits) (m : Meter) (w : W Bool) (j : ℕ) → Goes (outcome l m (if_inside b false w)) → EndGoes (choose b (met j (body_turn (outcome l started w)) (ending nowhere)) (ending nowhere)).end
unfolding if_inside choose
inside-goes true l m w j h = one-goes j (body_turn (outcome l started w)) (body-goes _ (afresh_goes l m w h))
inside-goes false l m w j h = tt

previous-goes : (c : Case) (log : ℕ → Point) (i : ℕ) (row : Row) (l : Limits) (within : Interval) (n : ℕ) (m : Meter) → Goes (outcome l m (previously (seconds within) false (meaning c n).verdict (question log i row))) → EndGoes (scan_of c log i row l (previous within n)).end
unfolding previously before is_there scan_of before_scan seen_from turn_at asked_at inside time question firsts ◌and◌
previous-goes c log zero row l within n m h = tt
previous-goes c log (suc j) row l within n m h =
    inside-goes (in_window (seconds within) (log (suc j)).time (log j).time) l m ((meaning c n).verdict (earlier (question log (suc j) row) (firsts log (suc j)))) j h

-- where the verdict of a node that looks back is answered, its scan is not stopped
pub look-goes : {s : List ℕ} → Checked s → (n i : ℕ) (row : Row) (l : Limits) (look : Look) → look_of (node_at s n) ≡ some look → Goes (outcome l started ((meaning (case_of s) n).verdict (question (point_at s) i row))) → EndGoes (scan_of (case_of s) (point_at s) i row l look).end
unfolding meaning_of condition look_of
look-goes {s} checked n i row l look e h =
    go (node_at s n) e (rw (meaning-is checked n) at h)
  where
    never : none ≡ some look → {A : Type 0} → A
    never h = let z : ◌≡◌ {A = ℕ} 0 1 = cc in absurd (omega arith)

    go : (nd : Node) → look_of nd ≡ some look → Goes (outcome l started ((meaning_of (case_of s) (λ n. meaning (case_of s) n.0) nd).verdict (question (point_at s) i row))) → EndGoes (scan_of (case_of s) (point_at s) i row l look).end
    go (Formerly within x) e h =
        let z : formerly within x.0 ≡ look = cc in
        let p = step-goes l started _ h in
        rw (← z) (formerly-goes (case_of s) (point_at s) i row l within x.0 p.0 p.1)
    go (Previous within x) e h =
        let z : previous within x.0 ≡ look = cc in
        let p = step-goes l started _ h in
        rw (← z) (previous-goes (case_of s) (point_at s) i row l within x.0 p.0 p.1)
    go (Since a b within) e h =
        let z : since a.0 b.0 within ≡ look = cc in
        let p = step-goes l started _ h in
        rw (← z) (since-goes (case_of s) (point_at s) i row l a.0 b.0 within p.0 p.1)
    go (And l r) e h = never e
    go (Or l r) e h = never e
    go (Not n) e h = never e
    go (Predicate namespace action kind args) e h = never e
    go (Comparison op l r) e h = never e
    go (Exists x n) e h = never e
    go (Tp x) e h = never e
    go (Literal v) e h = never e
    go (Context path) e h = never e
    go (Scope root path) e h = never e
    go (Variable x) e h = never e
    go Wildcard e h = never e
    go (Aggregate n) e h = never e
    go (Arithmetic op l r) e h = never e
    go (Sum x binders n) e h = never e
    go (Count binders n) e h = never e
    go Broken e h = never e

-- ---- and what is then said

pub answered-goes : {A : Type 0} {o : Outcome A} (a : A) (m : Meter) → o ≡ answered a m → Goes o
answered-goes a m e = rw e tt

pub shown-goes : (look : Look) (i : ℕ) (scan : Scan) → EndGoes scan.end → (sh : Shown) × (shown look i scan ≡ gives sh 0 0)
unfolding shown
shown-goes look i scan h = ends scan.end scan.failed h
  where
    ends : (x : End) (f : List ℕ) → EndGoes x → (sh : Shown) × (shown look i (record { end = x; failed = f }) ≡ gives sh 0 0)
    ends (at j) f h = (record { verdict = true; points = carried_by look i j }, refl)
    ends nowhere f h = (record { verdict = false; points = f }, refl)
    ends (stopped n m) f h = absurd h

-- an answer that is refused a list is 15
pub listed-short : (list filled : List ℕ) (sh : Shown) (k steps most : ℕ) → ◌≡◌ {A = Listed} (record { said = refuses k steps most; list = filled }) (listed list (gives sh 0 0)) → (k ≡ number_of ListTooShort) × (steps ≡ 0) × (most ≡ 0)
unfolding listed choose
listed-short list filled sh k steps most e = go (leb (length sh.points) (length list)) e
  where
    go : (y : Bool) → ◌≡◌ {A = Listed} (record { said = refuses k steps most; list = filled }) (choose y (record { said = gives (record { verdict = sh.verdict; filled = length sh.points }) 0 0; list = sh.points ++ drop' (length sh.points) list }) (record { said = refuses (number_of ListTooShort) 0 0; list = list })) → (k ≡ number_of ListTooShort) × (steps ≡ 0) × (most ≡ 0)
    go true h =
        let z : ◌≡◌ {A = Said Carried} (refuses k steps most) (gives (record { verdict = sh.verdict; filled = length sh.points }) 0 0) = ap (λ (r : Listed). r.said) h in
        let y : ◌≡◌ {A = ℕ} 0 1 = cc in absurd (omega arith)
    go false h =
        let z : ◌≡◌ {A = Said Carried} (refuses k steps most) (refuses (number_of ListTooShort) 0 0) = ap (λ (r : Listed). r.said) h in
        (cc, cc, cc)
