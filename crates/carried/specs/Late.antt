-- A scan is stopped by 11 or 12 alone, so that after every outcome of one the workspace is cleared
use Rattle.std.specs.Prelude.{◌≡◌, refl, Bool, true, false, List, ℕ, zero, suc, ◌-◌, ◌*◌, leb, length}
use Rattle.std.proofs.Math.Option.{Option, none, some}
use Rattle.meaning.specs.declared.Limits.{Limits}
use Rattle.meaning.specs.declared.Refusal.TheVariants.{ListTooShort}
use Rattle.meaning.specs.Tests.{choose}
use Rattle.meaning.specs.Walk.{W, started, Outcome, answered, refused, outcome}
use Rattle.meaning.specs.Case.{Case, Point, vars}
use Rattle.meaning.specs.Rows.{Row}
use Rattle.meaning.specs.Calls.{number_of, Call, Said, gives, refuses, cleared, workspace_after}
use Rattle.meaning.specs.Demands.{steps-out, room_out}
use Rattle.laws.specs.Walk.{Told, tells}
use Rattle.meaning.specs.Carried.{Look, formerly, previous, since, End, at, nowhere, stopped, Scan, ending, Turn, passes, carries, fails, halts, met, down, before, body_turn, left_turn, left_from, anchor_turn, asked_at, turn_at, scan_of, Shown, shown, shown_at, Carried, Listed, listed}

abbrev OutLate : Outcome Bool → Type 0
OutLate (answered b m) = Unit {0}
OutLate (refused n m) = leb (number_of n) 10 ≡ false

abbrev TurnLate : Turn → Type 0
TurnLate passes = Unit {0}
TurnLate carries = Unit {0}
TurnLate (fails k) = Unit {0}
TurnLate (halts n m) = leb (number_of n) 10 ≡ false

abbrev EndLate : End → Type 0
EndLate (at j) = Unit {0}
EndLate nowhere = Unit {0}
EndLate (stopped n m) = leb (number_of n) 10 ≡ false

abbrev SaidLate : {A : Type 0} → Said A → Type 0
SaidLate (gives a steps most) = Unit {0}
SaidLate (refuses n steps most) = leb n 10 ≡ false

out_late : (l : Limits) (w : W Bool) → OutLate (outcome l started w)
out_late l w = go (outcome l started w) (tells l w)
  where
    go : (o : Outcome Bool) → Told l w o → OutLate o
    go (answered b m) h = tt
    go (refused n m) (steps-out e _ _) = rw e refl
    go (refused n m) (room_out e _ _) = rw e refl

choose_late : (b : Bool) (s t : Turn) → TurnLate s → TurnLate t → TurnLate (choose b s t)
unfolding choose
choose_late true s t hs ht = hs
choose_late false s t hs ht = ht

body_late : (o : Outcome Bool) → OutLate o → TurnLate (body_turn o)
unfolding body_turn
body_late (answered b m) h = choose_late b carries passes tt tt
body_late (refused n m) h = h

left_late : (k : ℕ) (o : Outcome Bool) (next : Turn) → OutLate o → TurnLate next → TurnLate (left_turn k o next)
unfolding left_turn
left_late k (answered b m) next h hn = choose_late b next (fails k) hn tt
left_late k (refused n m) next h hn = h

lefts_late : (f : ℕ → Outcome Bool) → ((k : ℕ) → OutLate (f k)) → (k n : ℕ) → TurnLate (left_from f k n)
unfolding left_from
lefts_late f h k zero = tt
lefts_late f h k (suc n) = left_late k (f k) (left_from f (suc k) n) (h k) (lefts_late f h (suc k) n)

anchor_late : (o : Outcome Bool) (lasting : Turn) → OutLate o → TurnLate lasting → TurnLate (anchor_turn o lasting)
unfolding anchor_turn
anchor_late (answered b m) lasting h hl = choose_late b lasting passes hl tt
anchor_late (refused n m) lasting h hl = h

met_late : (j : ℕ) (t : Turn) (rest : Scan) → TurnLate t → EndLate rest.end → EndLate (met j t rest).end
unfolding met
met_late j passes rest h hr = hr
met_late j carries rest h hr = tt
met_late j (fails k) rest h hr = hr
met_late j (halts n m) rest h hr = h

point_late : (b : Bool) (j : ℕ) (t : Turn) (rest : Scan) → TurnLate t → EndLate rest.end → EndLate (choose b (met j t rest) rest).end
unfolding choose
point_late true j t rest h hr = met_late j t rest h hr
point_late false j t rest h hr = hr

down_late : (within : ℕ → Bool) (turn : ℕ → Turn) → ((j : ℕ) → TurnLate (turn j)) → (n : ℕ) → EndLate (down within turn n).end
unfolding down
down_late within turn h zero = tt
down_late within turn h (suc j) = point_late (within j) j (turn j) (down within turn j) (h j) (down_late within turn h j)

before_late : (within : ℕ → Bool) (turn : ℕ → Turn) → ((j : ℕ) → TurnLate (turn j)) → (n : ℕ) → EndLate (before within turn n).end
unfolding before
before_late within turn h zero = tt
before_late within turn h (suc j) = point_late (within j) j (turn j) (ending nowhere) (h j) tt

module _ (c : Case) (log : ℕ → Point) (i : ℕ) (row : Row) (l : Limits) where
  asked_late : (n j : ℕ) → OutLate (asked_at c log i row l n j)
  unfolding asked_at
  asked_late n j = out_late l _

  turn_late : (look : Look) (j : ℕ) → TurnLate (turn_at c log i row l look j)
  unfolding turn_at
  turn_late (formerly within n) j = body_late _ (asked_late n j)
  turn_late (previous within n) j = body_late _ (asked_late n j)
  turn_late (since left right within) j =
      anchor_late _ _ (asked_late right j) (lefts_late (asked_at c log i row l left) (asked_late left) (suc j) (i - j))

  scan_late : (look : Look) → EndLate (scan_of c log i row l look).end
  unfolding scan_of
  scan_late (formerly within n) = down_late _ _ (turn_late (formerly within n)) (suc i)
  scan_late (previous within n) = before_late _ _ (turn_late (previous within n)) i
  scan_late (since left right within) = down_late _ _ (turn_late (since left right within)) (suc i)

  shown_late : (look : Option Look) → SaidLate (shown_at c log i row l look)
  unfolding shown_at shown
  shown_late none = tt
  shown_late (some look) = go (scan_of c log i row l look).end (scan_late look)
    where
      go : (e : End) → EndLate e → SaidLate (shown look i (record { end = e; failed = (scan_of c log i row l look).failed }))
      go (at j) h = tt
      go nowhere h = tt
      go (stopped n m) h = h

either_late : (b : Bool) (x y : Listed) → SaidLate x.said → SaidLate y.said → SaidLate (choose b x y).said
unfolding choose
either_late true x y hx hy = hx
either_late false x y hx hy = hy

short_late : leb (number_of ListTooShort) 10 ≡ false
unfolding number_of
short_late = refl

list_late : (list : List ℕ) (said : Said Shown) → SaidLate said → SaidLate (listed list said).said
unfolding listed
list_late list (refuses n steps most) h = h
list_late list (gives s steps most) h = either_late (leb (length s.points) (length list)) _ _ tt short_late

pub listed_clears : (call : Call) (list : List ℕ) (c : Case) (log : ℕ → Point) (i : ℕ) (row : Row) (l : Limits) (look : Option Look) → workspace_after call (listed list (shown_at c log i row l look)).said ≡ cleared (2 * vars call.file * call.limits.room) call.workspace
unfolding workspace_after choose
listed_clears call list c log i row l look = go (listed list (shown_at c log i row l look)).said (list_late list _ (shown_late c log i row l look))
  where
    go : (said : Said Carried) → SaidLate said → workspace_after call said ≡ cleared (2 * vars call.file * call.limits.room) call.workspace
    go (gives a steps most) h = refl
    go (refuses n steps most) h = rw h refl
