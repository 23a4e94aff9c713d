-- A verdict that looks back is a Boolean expression of single verdicts; a scan that ends shows them
use Rattle.std.specs.Prelude.{◌≡◌, Bool, ltb, leb, length, drop}
use Rattle.std.proofs.Math.Path.{refl, sym, ap}
use Rattle.std.proofs.Common.{◌∙◌, subst, ltb-true, ltb-false}
use Rattle.std.proofs.Math.Bool.{true, false}
use mathlib.Core.List.{List, [], ◌∷◌, ◌++◌}
use Rattle.std.proofs.Math.Option.{Option, none, some}
use Prim.Native.Nat.{ℕ, zero, suc, ◌+◌, ◌-◌, ◌≤◌, ◌<◌}
use native.Mathlib.Omega.{arith}
use Rattle.meaning.specs.declared.Limits.{Limits}
use Rattle.meaning.specs.declared.Interval.{Interval}
use Rattle.meaning.specs.declared.Refusal.TheVariants.{ListTooShort}
use Rattle.meaning.specs.declared.Node.{Node}
use Rattle.meaning.specs.declared.Node.TheVariants.{And, Or, Not, Formerly, Previous, Since, Predicate, Comparison, Exists, Tp, Literal, Context, Scope, Variable, Wildcard, Aggregate, Arithmetic, Sum, Count, Broken}
use Rattle.meaning.specs.Tests.{◌and◌, ◌or◌, choose}
use Rattle.meaning.specs.Walk.{W, give, visit, ◌>>=◌, started, Outcome, answered, refused, outcome}
use Rattle.meaning.specs.Case.{Case, Point, node_at, point_at, case_of}
use Rattle.meaning.specs.Check.{Checked}
use Rattle.meaning.specs.Number.{seconds, in_window}
use Rattle.meaning.specs.Rows.{Row}
use Rattle.meaning.specs.Meaning.{Past, Question, Meaning, meaning, meaning_of, condition, earlier, firsts, question, if_yes, unless_yes, if_inside, inside, time, downward, every, before, is_there, previously, formerly_verdict, since_verdict}
use Rattle.meaning.specs.Calls.{number_of, Said, gives, refuses}
use Rattle.laws.specs.Walk.{Told, tells}
use Rattle.laws.specs.Meaning.{pasts, meaning-is, later-points, firsts_same}
use Rattle.meaning.specs.Carried.{Look, formerly, previous, since, look_of, End, at, nowhere, stopped, Scan, ending, Turn, passes, carries, fails, halts, met, down, body_turn, left_turn, left_from, anchor_turn, asked_at, seen_from, turn_at, scan_of, carried_by, Shown, shown, shown_at, Carried, Listed, listed}
use Rattle.meaning.specs.Carried.{before as before_scan}
use Rattle.meaning.specs.Single.{any_below, all_from, first_not, just_before, holds_at, in_view, right_of, left_of, fails_of, verdict_of, anchors_below, Greatest, Shows, Made}
use Rattle.laws.specs.Tests.{and-true}

-- ---- answers without walks

point-answer : (w : Bool) (a rest : W Bool) → (if_inside w false a >>= unless_yes rest).answer ≡ ((w and a.answer) or rest.answer)
unfolding if_inside ◌>>=◌ unless_yes give ◌and◌ ◌or◌
point-answer false a rest = refl
point-answer true a rest = go a.answer
  where
    go : (y : Bool) → (unless_yes rest y).answer ≡ (y or rest.answer)
    go true = refl
    go false = refl

yes-answer : (a next : W Bool) → (a >>= if_yes next).answer ≡ (a.answer and next.answer)
unfolding ◌>>=◌ if_yes give ◌and◌
yes-answer a next = go a.answer
  where
    go : (y : Bool) → (if_yes next y).answer ≡ (y and next.answer)
    go true = refl
    go false = refl

every-answer : (log : ℕ → Point) (ask : Past → W Bool) (k n : ℕ) → (every ask (pasts log k n)).answer ≡ all_from (λ j. (ask (firsts log (suc j))).answer) k n
unfolding every pasts all_from give
every-answer log ask k zero = refl
every-answer log ask k (suc n) =
    yes-answer (ask (firsts log (suc k))) (every ask (pasts log (suc k) n))
    ∙ ap (λ (b : Bool). (ask (firsts log (suc k))).answer and b) (every-answer log ask (suc k) n)

module _ (log : ℕ → Point) (within : Past → Bool) (ask : Past → List Past → W Bool) (i : ℕ) where
  down-answer : (n : ℕ) (later : List Past) → n ≤ suc i → later ≡ pasts log n (suc i - n) → (downward within ask later (firsts log n)).answer ≡ any_below (λ j. within (firsts log (suc j))) (λ j. (ask (firsts log (suc j)) (pasts log (suc j) (i - j))).answer) n
  unfolding downward firsts any_below give pasts
  down-answer zero later le e = refl
  down-answer (suc n) later le e =
      let z : suc i - suc n ≡ i - n = omega arith in
      let z' : suc i - n ≡ suc (i - n) = omega arith in
      let here : later ≡ pasts log (suc n) (i - n) = e ∙ ap (pasts log (suc n)) z in
      let next : firsts log (suc n) ∷ later ≡ pasts log n (suc i - n) = ap (λ (l : List Past). firsts log (suc n) ∷ l) here ∙ sym (ap (pasts log n) z') in
      point-answer (within (firsts log (suc n))) (ask (firsts log (suc n)) later) (downward within ask (firsts log (suc n) ∷ later) (firsts log n))
      ∙ ap (λ (b : Bool). (within (firsts log (suc n)) and (ask (firsts log (suc n)) later).answer) or b) (down-answer n (firsts log (suc n) ∷ later) (omega arith) next)
      ∙ ap (λ (l : List Past). (within (firsts log (suc n)) and (ask (firsts log (suc n)) l).answer) or any_below (λ j. within (firsts log (suc j))) (λ j. (ask (firsts log (suc j)) (pasts log (suc j) (i - j))).answer) n) here

-- equal tests make equal expressions
any_same : (within p q : ℕ → Bool) → ((j : ℕ) → p j ≡ q j) → (n : ℕ) → any_below within p n ≡ any_below within q n
unfolding any_below
any_same within p q e zero = refl
any_same within p q e (suc j) = cc (e j, any_same within p q e j)

module _ (c : Case) (log : ℕ → Point) (i : ℕ) (row : Row) where
  abbrev q : Question
  q = question log i row

  none-since : [] ≡ pasts log (suc i) (suc i - suc i)
  unfolding pasts
  none-since = let z : suc i - suc i ≡ 0 = omega arith in sym (ap (pasts log (suc i)) z)

  pub formerly-answer : (within : Interval) (n : ℕ) → (formerly_verdict (seconds within) (meaning c n) q).answer ≡ verdict_of c log i row (formerly within n)
  unfolding formerly_verdict verdict_of in_view holds_at inside time question firsts
  formerly-answer within n = down-answer log (inside (seconds within) (firsts log (suc i))) (λ past later. (meaning c n).verdict (earlier q past)) i (suc i) [] (omega arith) none-since

  pub since-answer : (within : Interval) (left right : ℕ) → (since_verdict (seconds within) (meaning c left) (meaning c right) q).answer ≡ verdict_of c log i row (since left right within)
  unfolding since_verdict verdict_of in_view holds_at inside time question firsts
  since-answer within left right =
      down-answer log (inside (seconds within) (firsts log (suc i))) (λ past after. (meaning c right).verdict (earlier q past) >>= if_yes (every (λ later. (meaning c left).verdict (earlier q later)) after)) i (suc i) [] (omega arith) none-since
      ∙ any_same _ _ _ (λ j. yes-answer _ _ ∙ ap (λ (b : Bool). ((meaning c right).verdict (earlier q (firsts log (suc j)))).answer and b) (every-answer log (λ later. (meaning c left).verdict (earlier q later)) (suc j) (i - j))) (suc i)

inside-answer : (w : Bool) (a : W Bool) → (if_inside w false a).answer ≡ (w and a.answer)
unfolding if_inside give ◌and◌
inside-answer true a = refl
inside-answer false a = refl

pub previous-answer : (c : Case) (log : ℕ → Point) (i : ℕ) (row : Row) (within : Interval) (n : ℕ) → (previously (seconds within) false (meaning c n).verdict (question log i row)).answer ≡ verdict_of c log i row (previous within n)
unfolding previously before is_there inside time question firsts if_inside verdict_of just_before in_view holds_at give ◌and◌
previous-answer c log zero row within n = refl
previous-answer c log (suc j) row within n =
    inside-answer (in_window (seconds within) (log (suc j)).time (log j).time) ((meaning c n).verdict (earlier (question log (suc j) row) (firsts log (suc j))))

-- the verdict of a node that looks back, in a checked case
pub look-answer : {s : List ℕ} → Checked s → (n i : ℕ) (row : Row) (look : Look) → look_of (node_at s n) ≡ some look → ((meaning (case_of s) n).verdict (question (point_at s) i row)).answer ≡ verdict_of (case_of s) (point_at s) i row look
unfolding meaning_of condition visit look_of
look-answer {s} checked n i row look e =
    ap (λ (m : Meaning). (m.verdict (question (point_at s) i row)).answer) (meaning-is checked n) ∙ go (node_at s n) e
  where
    never : none ≡ some look → {A : Type 0} → A
    never h = let z : ◌≡◌ {A = ℕ} 0 1 = cc in absurd (omega arith)

    go : (nd : Node) → look_of nd ≡ some look → ((meaning_of (case_of s) (λ n. meaning (case_of s) n.0) nd).verdict (question (point_at s) i row)).answer ≡ verdict_of (case_of s) (point_at s) i row look
    go (Formerly within x) h = let z : formerly within x.0 ≡ look = cc in formerly-answer (case_of s) (point_at s) i row within x.0 ∙ ap (verdict_of (case_of s) (point_at s) i row) z
    go (Previous within x) h = let z : previous within x.0 ≡ look = cc in previous-answer (case_of s) (point_at s) i row within x.0 ∙ ap (verdict_of (case_of s) (point_at s) i row) z
    go (Since l r within) h = let z : since l.0 r.0 within ≡ look = cc in since-answer (case_of s) (point_at s) i row within l.0 r.0 ∙ ap (verdict_of (case_of s) (point_at s) i row) z
    go (And l r) h = never h
    go (Or l r) h = never h
    go (Not n) h = never h
    go (Predicate namespace action kind args) h = never h
    go (Comparison op l r) h = never h
    go (Exists x n) h = never h
    go (Tp x) h = never h
    go (Literal v) h = never h
    go (Context path) h = never h
    go (Scope root path) h = never h
    go (Variable x) h = never h
    go Wildcard h = never h
    go (Aggregate n) h = never h
    go (Arithmetic op l r) h = never h
    go (Sum x binders n) h = never h
    go (Count binders n) h = never h
    go Broken h = never h

-- ---- an answered question is the single verdict

abbrev pub OutTells : Bool → Outcome Bool → Type 0
OutTells y (answered b m) = b ≡ y
OutTells y (refused n m) = Unit {0}

pub out-tells : (l : Limits) (w : W Bool) → OutTells w.answer (outcome l started w)
out-tells l w = go (outcome l started w) (tells l w)
  where
    go : (o : Outcome Bool) → Told l w o → OutTells w.answer o
    go (answered b m) h = h.0
    go (refused n m) h = tt

-- what a turn tells of a point: right held there, left held after it, and else where it failed first
abbrev pub TurnTells : Bool → Bool → ℕ → Turn → Type 0
TurnTells r a f passes = r ≡ false
TurnTells r a f carries = (r ≡ true) × (a ≡ true)
TurnTells r a f (fails k) = (r ≡ true) × (a ≡ false) × (k ≡ f)
TurnTells r a f (halts n m) = Unit {0}

abbrev LeftTells : Bool → ℕ → Turn → Type 0
LeftTells a f passes = ⊥
LeftTells a f carries = a ≡ true
LeftTells a f (fails k) = (a ≡ false) × (k ≡ f)
LeftTells a f (halts n m) = Unit {0}

opposite : {A : Type 0} → true ≡ false → A
opposite e = let z : ◌≡◌ {A = ℕ} 0 1 = cc in absurd (omega arith)

body-tells : (y : Bool) (f : ℕ) (o : Outcome Bool) → OutTells y o → TurnTells y true f (body_turn o)
unfolding body_turn choose
body-tells y f (answered true m) h = (sym h, refl)
body-tells y f (answered false m) h = sym h
body-tells y f (refused n m) h = tt

left_step : (k : ℕ) (y : Bool) (o : Outcome Bool) (a : Bool) (f : ℕ) (next : Turn) → OutTells y o → LeftTells a f next → LeftTells (y and a) (choose y f k) (left_turn k o next)
unfolding left_turn choose ◌and◌
left_step k true (answered true m) a f next h hn = hn
left_step k false (answered true m) a f next h hn = opposite h
left_step k true (answered false m) a f next h hn = opposite (sym h)
left_step k false (answered false m) a f next h hn = (refl, refl)
left_step k y (refused n m) a f next h hn = tt

left-tells : (asks : ℕ → Outcome Bool) (p : ℕ → Bool) → ((k : ℕ) → OutTells (p k) (asks k)) → (k n : ℕ) → LeftTells (all_from p k n) (first_not p k n) (left_from asks k n)
unfolding left_from all_from first_not
left-tells asks p h k zero = refl
left-tells asks p h k (suc n) = left_step k (p k) (asks k) (all_from p (suc k) n) (first_not p (suc k) n) (left_from asks (suc k) n) (h k) (left-tells asks p h (suc k) n)

left-then : (y a : Bool) (f : ℕ) (t : Turn) → true ≡ y → LeftTells a f t → TurnTells y a f t
left-then y a f passes e h = absurd h
left-then y a f carries e h = (sym e, h)
left-then y a f (fails k) e h = (sym e, h.0, h.1)
left-then y a f (halts n m) e h = tt

anchor-tells : (y : Bool) (o : Outcome Bool) (a : Bool) (f : ℕ) (t : Turn) → OutTells y o → LeftTells a f t → TurnTells y a f (anchor_turn o t)
unfolding anchor_turn choose
anchor-tells y (answered true m) a f t h ht = left-then y a f t h ht
anchor-tells y (answered false m) a f t h ht = sym h
anchor-tells y (refused n m) a f t h ht = tt

module _ (c : Case) (log : ℕ → Point) (i : ℕ) (row : Row) (l : Limits) where
  pub asked-tells : (n j : ℕ) → OutTells (holds_at c log i row n j) (asked_at c log i row l n j)
  unfolding holds_at asked_at
  asked-tells n j = out-tells l _

  pub turn-tells : (look : Look) (j : ℕ) → TurnTells (right_of c log i row look j) (left_of c log i row look j) (fails_of c log i row look j) (turn_at c log i row l look j)
  unfolding right_of left_of fails_of turn_at
  turn-tells (formerly within n) j = body-tells _ j _ (asked-tells n j)
  turn-tells (previous within n) j = body-tells _ j _ (asked-tells n j)
  turn-tells (since left right within) j =
      anchor-tells _ _ _ _ _ (asked-tells right j) (left-tells (asked_at c log i row l left) (holds_at c log i row left) (asked-tells left) (suc j) (i - j))

-- ---- a scan that ends: the greatest point that has it, or none has it and the anchors are those that failed

module _ (within right left : ℕ → Bool) (first : ℕ → ℕ) where
  abbrev has : ℕ → Bool
  has k = right k and left k

  abbrev NoneBelow : ℕ → Type 0
  NoneBelow n = (k : ℕ) → k < n → (within k and has k) ≡ false

  abbrev EndTells : ℕ → List ℕ → End → Type 0
  EndTells n failed (at j) = Greatest within has n j
  EndTells n failed nowhere = NoneBelow n × (failed ≡ anchors_below within right first n)
  EndTells n failed (stopped k m) = Unit {0}

  -- one more point that has it not
  none_more : (j : ℕ) → (within j and has j) ≡ false → (k : ℕ) → (k < j → (within k and has k) ≡ false) → k < suc j → (within k and has k) ≡ false
  none_more j e k h lt = go (ltb k j) refl
    where
      go : (b : Bool) → ltb k j ≡ b → (within k and has k) ≡ false
      go true t = h (ltb-true k j t)
      go false t = let z : k ≡ j = omega (arith, ltb-false k j t) in rw z e

  greatest-more : (j k : ℕ) → (within j and has j) ≡ false → Greatest within has j k → Greatest within has (suc j) k
  greatest-more j k e g = record {
    below = omega (arith, g.below);
    seen = g.seen;
    has = g.has;
    none-later = λ i lt lt'. none_more j e i (g.none-later i lt) lt';
  }

  -- a point that is passed, and one whose left failed
  passed-more : (j : ℕ) (failed : List ℕ) (e : End) → (within j and has j) ≡ false → (within j and right j) ≡ false → EndTells j failed e → EndTells (suc j) failed e
  unfolding anchors_below choose
  passed-more j failed (at k) h hr t = greatest-more j k h t
  passed-more j failed nowhere h hr t = (λ k. none_more j h k (t.0 k), rw hr t.1)
  passed-more j failed (stopped n m) h hr t = tt

  failed-more : (j k : ℕ) (failed : List ℕ) (e : End) → (within j and has j) ≡ false → (within j and right j) ≡ true → k ≡ first j → EndTells j failed e → EndTells (suc j) (j ∷ k ∷ failed) e
  unfolding anchors_below choose
  failed-more j k failed (at i) h hr ek t = greatest-more j i h t
  failed-more j k failed nowhere h hr ek t = (λ i. none_more j h i (t.0 i), rw hr (cc (ek, t.1)))
  failed-more j k failed (stopped n m) h hr ek t = tt

  met-tells : (j : ℕ) (t : Turn) (rest : Scan) → within j ≡ true → TurnTells (right j) (left j) (first j) t → EndTells j rest.failed rest.end → EndTells (suc j) (met j t rest).failed (met j t rest).end
  unfolding met ◌and◌
  met-tells j passes rest w h hr = passed-more j rest.failed rest.end (rw (w, h) refl) (rw (w, h) refl) hr
  met-tells j carries rest w h hr = record {
    below = omega arith;
    seen = w;
    has = rw (h.0, h.1) refl;
    none-later = λ k lt lt'. absurd (omega arith);
  }
  met-tells j (fails k) rest w h hr = failed-more j k rest.failed rest.end (rw (w, h.0, h.1) refl) (rw (w, h.0) refl) h.2 hr
  met-tells j (halts n m) rest w h hr = tt

  point-tells : (b : Bool) (j : ℕ) (t : Turn) (rest : Scan) → within j ≡ b → TurnTells (right j) (left j) (first j) t → EndTells j rest.failed rest.end → EndTells (suc j) (choose b (met j t rest) rest).failed (choose b (met j t rest) rest).end
  unfolding choose ◌and◌
  point-tells true j t rest w h hr = met-tells j t rest w h hr
  point-tells false j t rest w h hr = passed-more j rest.failed rest.end (rw w refl) (rw w refl) hr

  pub down-tells : (turn : ℕ → Turn) → ((j : ℕ) → TurnTells (right j) (left j) (first j) (turn j)) → (n : ℕ) → EndTells n (down within turn n).failed (down within turn n).end
  unfolding down anchors_below
  down-tells turn h zero = (λ k lt. absurd (omega arith), refl)
  down-tells turn h (suc j) = point-tells (within j) j (turn j) (down within turn j) refl (h j) (down-tells turn h j)

-- ---- and what the verdict then is

module _ (within p : ℕ → Bool) where
  lowered : (n j : ℕ) → Greatest within p (suc n) j → j < n → Greatest within p n j
  lowered n j g lt = record {
    below = lt;
    seen = g.seen;
    has = g.has;
    none-later = λ k h h'. g.none-later k h (omega arith);
  }

  any_step : (n j : ℕ) → Greatest within p (suc n) j → (j < n → any_below within p n ≡ true) → ((within n and p n) or any_below within p n) ≡ true
  unfolding ◌or◌ ◌and◌
  any_step n j g h = go (ltb j n) refl
    where
      or_true : (a b : Bool) → b ≡ true → (a or b) ≡ true
      or_true true b e = refl
      or_true false b e = e

      go : (b : Bool) → ltb j n ≡ b → ((within n and p n) or any_below within p n) ≡ true
      go true t = or_true (within n and p n) (any_below within p n) (h (ltb-true j n t))
      go false t = let z : n ≡ j = omega (arith, g.below, ltb-false j n t) in rw (z, g.seen, g.has) refl

  any-true : (n j : ℕ) → Greatest within p n j → any_below within p n ≡ true
  unfolding any_below
  any-true zero j g = absurd (omega (arith, g.below))
  any-true (suc n) j g = any_step n j g (λ lt. any-true n j (lowered n j g lt))

  any_false : (n : ℕ) → ((k : ℕ) → k < n → (within k and p k) ≡ false) → any_below within p n ≡ false
  unfolding any_below ◌or◌
  any_false zero h = refl
  any_false (suc n) h = rw (h n (omega arith)) (any_false n (λ k lt. h k (omega arith)))

  no-anchor : (first : ℕ → ℕ) (n : ℕ) → ((k : ℕ) → k < n → (within k and p k) ≡ false) → anchors_below within p first n ≡ []
  unfolding anchors_below choose
  no-anchor first zero h = refl
  no-anchor first (suc n) h = rw (h n (omega arith)) (no-anchor first n (λ k lt. h k (omega arith)))

greatest-same : (within p p' : ℕ → Bool) → ((k : ℕ) → p k ≡ p' k) → (n j : ℕ) → Greatest within p n j → Greatest within p' n j
greatest-same within p p' e n j g = record {
  below = g.below;
  seen = g.seen;
  has = sym (e j) ∙ g.has;
  none-later = λ k lt lt'. ap (λ (b : Bool). within k and b) (sym (e k)) ∙ g.none-later k lt lt';
}

module _ (c : Case) (log : ℕ → Point) (i : ℕ) (row : Row) (l : Limits) where
  formerly-shows : (within : Interval) (n : ℕ) (failed : List ℕ) (e : End) → EndTells (in_view c log i row within) (holds_at c log i row n) (λ j. true) (λ j. j) (suc i) failed e → Shows c log i row (formerly within n) failed e
  unfolding verdict_of
  formerly-shows within n failed (at j) t =
      let g = greatest-same (in_view c log i row within) _ (holds_at c log i row n) (λ k. and-true (holds_at c log i row n k)) (suc i) j t in
      (any-true (in_view c log i row within) (λ j. holds_at c log i row n j) (suc i) j g, g)
  formerly-shows within n failed nowhere t =
      let h : (k : ℕ) → k < suc i → (in_view c log i row within k and holds_at c log i row n k) ≡ false = λ k lt. ap (λ (b : Bool). in_view c log i row within k and b) (sym (and-true (holds_at c log i row n k))) ∙ t.0 k lt in
      (any_false (in_view c log i row within) (λ j. holds_at c log i row n j) (suc i) h, t.1 ∙ no-anchor (in_view c log i row within) (holds_at c log i row n) (λ j. j) (suc i) h)
  formerly-shows within n failed (stopped k m) t = tt

  since-shows : (left right : ℕ) (within : Interval) (failed : List ℕ) (e : End) → EndTells (in_view c log i row within) (holds_at c log i row right) (λ j. all_from (holds_at c log i row left) (suc j) (i - j)) (λ j. first_not (holds_at c log i row left) (suc j) (i - j)) (suc i) failed e → Shows c log i row (since left right within) failed e
  unfolding verdict_of
  since-shows left right within failed (at j) t = (any-true (in_view c log i row within) _ (suc i) j t, t)
  since-shows left right within failed nowhere t = (any_false (in_view c log i row within) _ (suc i) t.0, t.1)
  since-shows left right within failed (stopped k m) t = tt

-- the point before
module _ (within right : ℕ → Bool) where
  abbrev BeforeTells : ℕ → List ℕ → End → Type 0
  BeforeTells i failed (at j) = (just_before within right i ≡ true) × (suc j ≡ i)
  BeforeTells i failed nowhere = (just_before within right i ≡ false) × (failed ≡ [])
  BeforeTells i failed (stopped k m) = Unit {0}

  one-tells : (b : Bool) (j f : ℕ) (t : Turn) → within j ≡ b → TurnTells (right j) true f t → BeforeTells (suc j) (choose b (met j t (ending nowhere)) (ending nowhere)).failed (choose b (met j t (ending nowhere)) (ending nowhere)).end
  unfolding choose met just_before ◌and◌
  one-tells false j f t w h = (rw w refl, refl)
  one-tells true j f passes w h = (rw (w, h) refl, refl)
  one-tells true j f carries w h = (rw (w, h.0) refl, refl)
  one-tells true j f (fails k) w h = opposite h.1
  one-tells true j f (halts n m) w h = tt

  before-tells : (turn : ℕ → Turn) (first : ℕ → ℕ) → ((j : ℕ) → TurnTells (right j) true (first j) (turn j)) → (i : ℕ) → BeforeTells i (before_scan within turn i).failed (before_scan within turn i).end
  unfolding before_scan just_before
  before-tells turn first h zero = (refl, refl)
  before-tells turn first h (suc j) = one-tells (within j) j (first j) (turn j) refl (h j)

before-is : (c : Case) (log : ℕ → Point) (i : ℕ) (row : Row) (l : Limits) (within : Interval) (n : ℕ) → Shows c log i row (previous within n) (before_scan (in_view c log i row within) (turn_at c log i row l (previous within n)) i).failed (before_scan (in_view c log i row within) (turn_at c log i row l (previous within n)) i).end
unfolding verdict_of right_of left_of fails_of
before-is c log i row l within n = go (before_scan (in_view c log i row within) (turn_at c log i row l (previous within n)) i).failed (before_scan (in_view c log i row within) (turn_at c log i row l (previous within n)) i).end (before-tells (in_view c log i row within) (holds_at c log i row n) (turn_at c log i row l (previous within n)) (λ j. j) (turn-tells c log i row l (previous within n)) i)
  where
    go : (failed : List ℕ) (e : End) → BeforeTells (in_view c log i row within) (holds_at c log i row n) i failed e → Shows c log i row (previous within n) failed e
    go failed (at j) t = t
    go failed nowhere t = t
    go failed (stopped k m) t = tt

-- a scan that ends shows what the single verdicts say
pub scan_shows : (c : Case) (log : ℕ → Point) (i : ℕ) (row : Row) (l : Limits) (look : Look) → Shows c log i row look (scan_of c log i row l look).failed (scan_of c log i row l look).end
unfolding scan_of seen_from in_view right_of left_of fails_of verdict_of
scan_shows c log i row l (formerly within n) =
    let scan : Scan = down (in_view c log i row within) (turn_at c log i row l (formerly within n)) (suc i) in
    formerly-shows c log i row l within n scan.failed scan.end (down-tells (in_view c log i row within) (holds_at c log i row n) (λ j. true) (λ j. j) (turn_at c log i row l (formerly within n)) (turn-tells c log i row l (formerly within n)) (suc i))
scan_shows c log i row l (previous within n) = before-is c log i row l within n
scan_shows c log i row l (since left right within) =
    let scan : Scan = down (in_view c log i row within) (turn_at c log i row l (since left right within)) (suc i) in
    since-shows c log i row l left right within scan.failed scan.end (down-tells (in_view c log i row within) (holds_at c log i row right) (λ j. all_from (holds_at c log i row left) (suc j) (i - j)) (λ j. first_not (holds_at c log i row left) (suc j) (i - j)) (turn_at c log i row l (since left right within)) (turn-tells c log i row l (since left right within)) (suc i))

-- ---- points after the one asked about play no part

lefts_same : (f g : ℕ → Outcome Bool) (top : ℕ) → ((j : ℕ) → j ≤ top → f j ≡ g j) → (k n : ℕ) → k + n ≤ suc top → left_from f k n ≡ left_from g k n
unfolding left_from
lefts_same f g top e k zero le = refl
lefts_same f g top e k (suc n) le = cc (e k (omega arith), lefts_same f g top e (suc k) n (omega arith))

down-same : (w w' : ℕ → Bool) (turn turn' : ℕ → Turn) (n : ℕ) → ((j : ℕ) → j < n → w j ≡ w' j) → ((j : ℕ) → j < n → turn j ≡ turn' j) → down w turn n ≡ down w' turn' n
unfolding down
down-same w w' turn turn' zero ew et = refl
down-same w w' turn turn' (suc j) ew et =
    cc (ew j (omega arith), et j (omega arith), down-same w w' turn turn' j (λ k h. ew k (omega arith)) (λ k h. et k (omega arith)))

before_same : (w w' : ℕ → Bool) (turn turn' : ℕ → Turn) (i : ℕ) → ((j : ℕ) → j < i → w j ≡ w' j) → ((j : ℕ) → j < i → turn j ≡ turn' j) → before_scan w turn i ≡ before_scan w' turn' i
unfolding before_scan
before_same w w' turn turn' zero ew et = refl
before_same w w' turn turn' (suc j) ew et = cc (ew j (omega arith), et j (omega arith))

module _ (c : Case) (log more : ℕ → Point) (i : ℕ) (row : Row) (l : Limits) (e : (j : ℕ) → j ≤ i → log j ≡ more j) where
  asked-same : (n j : ℕ) → j ≤ i → asked_at c log i row l n j ≡ asked_at c more i row l n j
  unfolding asked_at
  asked-same n j le = cc (later-points log more i row e, firsts_same log more (suc j) (λ k h. e k (omega arith)))

  seen_same : (within : Interval) (j : ℕ) → j ≤ i → seen_from c log i row l within j ≡ seen_from c more i row l within j
  unfolding seen_from
  seen_same within j le = cc (e i (omega arith), e j le)

  turn-same : (look : Look) (j : ℕ) → j ≤ i → turn_at c log i row l look j ≡ turn_at c more i row l look j
  unfolding turn_at
  turn-same (formerly within n) j le = ap body_turn (asked-same n j le)
  turn-same (previous within n) j le = ap body_turn (asked-same n j le)
  turn-same (since left right within) j le =
      cc (asked-same right j le, lefts_same (asked_at c log i row l left) (asked_at c more i row l left) i (asked-same left) (suc j) (i - j) (omega arith))

  scan_same : (look : Look) → scan_of c log i row l look ≡ scan_of c more i row l look
  unfolding scan_of
  scan_same (formerly within n) = down-same _ _ _ _ (suc i) (λ j h. seen_same within j (omega arith)) (λ j h. turn-same (formerly within n) j (omega arith))
  scan_same (previous within n) = before_same _ _ _ _ i (λ j h. seen_same within j (omega arith)) (λ j h. turn-same (previous within n) j (omega arith))
  scan_same (since left right within) = down-same _ _ _ _ (suc i) (λ j h. seen_same within j (omega arith)) (λ j h. turn-same (since left right within) j (omega arith))

  pub shown-same : (look : Option Look) → shown_at c log i row l look ≡ shown_at c more i row l look
  unfolding shown_at
  shown-same none = refl
  shown-same (some look) = ap (shown look i) (scan_same look)

-- ---- what is said of a scan, and listed

pub shown-made : (c : Case) (log : ℕ → Point) (i : ℕ) (row : Row) (l : Limits) (look : Look) (sh : Shown) (steps most : ℕ) → shown look i (scan_of c log i row l look) ≡ gives sh steps most → Made c log i row look sh.verdict sh.points
unfolding shown
shown-made c log i row l look sh steps most e = ends (scan_of c log i row l look).end (scan_of c log i row l look).failed (scan_shows c log i row l look) e
  where
    ends : (x : End) (f : List ℕ) → Shows c log i row look f x → shown look i (record { end = x; failed = f }) ≡ gives sh steps most → Made c log i row look sh.verdict sh.points
    ends (at j) f h eq =
        let z : ◌≡◌ {A = Shown} (record { verdict = true; points = carried_by look i j }) sh = cc in
        subst (λ (sh : Shown). Made c log i row look sh.verdict sh.points) z (j, f, refl, h)
    ends nowhere f h eq =
        let z : ◌≡◌ {A = Shown} (record { verdict = false; points = f }) sh = cc in
        subst (λ (sh : Shown). Made c log i row look sh.verdict sh.points) z h
    ends (stopped n m) f h eq = let z : ◌≡◌ {A = ℕ} 0 1 = cc in absurd (omega arith)

-- the verdict that is made so is the definition's
pub made-verdict : (c : Case) (log : ℕ → Point) (i : ℕ) (row : Row) (look : Look) (b : Bool) (points : List ℕ) → Made c log i row look b points → verdict_of c log i row look ≡ b
made-verdict c log i row (formerly within n) true points h = h.3.0
made-verdict c log i row (previous within n) true points h = h.3.0
made-verdict c log i row (since left right within) true points h = h.3.0
made-verdict c log i row (formerly within n) false points h = h.0
made-verdict c log i row (previous within n) false points h = h.0
made-verdict c log i row (since left right within) false points h = h.0

-- a list that was filled holds the points shown, and beyond them what it held
pub record Fills (list filled : List ℕ) (sh : Shown) (b : Bool) (k : ℕ) : Type 0 where
  pub verdict : sh.verdict ≡ b
  pub many : length sh.points ≡ k
  pub is : filled ≡ sh.points ++ drop (length sh.points) list

pub listed-fills : (list filled : List ℕ) (said : Said Shown) (b : Bool) (k steps most : ℕ) → ◌≡◌ {A = Listed} (record { said = gives (record { verdict = b; filled = k }) steps most; list = filled }) (listed list said) → (sh : Shown) × (said ≡ gives sh steps most) × Fills list filled sh b k
unfolding listed choose
listed-fills list filled (refuses n s m) b k steps most e =
    let z : ◌≡◌ {A = Said Carried} (gives (record { verdict = b; filled = k }) steps most) (refuses n s m) = ap (λ (r : Listed). r.said) e in
    let y : ◌≡◌ {A = ℕ} 0 1 = cc in absurd (omega arith)
listed-fills list filled (gives sh s m) b k steps most e = go (leb (length sh.points) (length list)) e
  where
    go : (y : Bool) → ◌≡◌ {A = Listed} (record { said = gives (record { verdict = b; filled = k }) steps most; list = filled }) (choose y (record { said = gives (record { verdict = sh.verdict; filled = length sh.points }) s m; list = sh.points ++ drop (length sh.points) list }) (record { said = refuses (number_of ListTooShort) 0 0; list = list })) → (sh₁ : Shown) × (gives sh s m ≡ gives sh₁ steps most) × Fills list filled sh₁ b k
    go true h =
        let said : ◌≡◌ {A = Said Carried} (gives (record { verdict = b; filled = k }) steps most) (gives (record { verdict = sh.verdict; filled = length sh.points }) s m) = ap (λ (r : Listed). r.said) h in
        let z : ◌≡◌ {A = Carried} (record { verdict = b; filled = k }) (record { verdict = sh.verdict; filled = length sh.points }) = cc in
        let es : steps ≡ s = cc in
        let em : most ≡ m = cc in
        (sh, cc (es, em), record { verdict = sym (ap (λ (r : Carried). r.verdict) z); many = sym (ap (λ (r : Carried). r.filled) z); is = ap (λ (r : Listed). r.list) h })
    go false h =
        let z : ◌≡◌ {A = Said Carried} (gives (record { verdict = b; filled = k }) steps most) (refuses (number_of ListTooShort) 0 0) = ap (λ (r : Listed). r.said) h in
        let y : ◌≡◌ {A = ℕ} 0 1 = cc in absurd (omega arith)
