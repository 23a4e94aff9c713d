-- What carried it, computed on document 01's bench: each operator, both edges of a window, limits afresh for each question, and the list
use Rattle.std.specs.Prelude.{◌≡◌, refl, Bool, true, false, List, [], ◌∷◌, map, ℕ, ℤ, pos}
use Rattle.std.proofs.Math.Option.{none, some}
use Rattle.meaning.specs.declared.Node.TheVariants.{Not, Formerly, Previous, Since, Predicate, Exists, Literal, Variable}
use Rattle.meaning.specs.declared.Interval.{Interval}
use Rattle.meaning.specs.declared.TimeUnit.TheVariants.{Seconds, Hours}
use Rattle.meaning.specs.Below.{upto, made}
use Rattle.meaning.specs.Tests.{◌and◌, choose, only_if, is_some, or_else, pick}
use Rattle.meaning.specs.Case.{Case, Point, Value, Int, Text, Object, places, run_of}
use Rattle.meaning.specs.Number.{highest, lowest, clamp, calculate, seconds_of, seconds, in_window}
use Rattle.meaning.specs.Equal.{seen, see, same_list, same_parts, alike, same_value, as_value, same, bound_of, integer}
use Rattle.meaning.specs.Look.{named, members, descend, bound_at, field_at}
use Rattle.meaning.specs.Rows.{at, blank, with, without, without_all, over}
use Rattle.meaning.specs.Walk.{give, visit, adding, dropping, ◌>>=◌, started, after, run as run·Walk, ending, outcome}
use Rattle.meaning.specs.Meaning.{earlier, unbinding, latest, now, lending, condition, term, if_yes, unless_yes, one_row, not_verdict, exists_verdict, given, match_field, match_arguments, same_event, match, predicate, names, arguments, meaning_of, no_meaning, meaning, firsts, question}
use Rattle.meaning.specs.Calls.{number_of, gives, refuses}
use Rattle.meaning.specs.Carried.{Look, formerly, previous, since, look_of, looks_back, met, down, before, body_turn, left_turn, left_from, anchor_turn, asked_at, seen_from, turn_at, scan_of, Listed, carried_by, shown, listed}

-- ---- the bench: strings 3 Flash, 4 Review, 5 b1, 6 b2, 7 board, 8 n, 9 request

object : ℕ → ℕ → Value
object board n = Object (record { name = 7; value = board } ∷ record { name = 8; value = n } ∷ [])

event : ℤ → ℕ → ℕ → Point
event time action logged = record {
  time = time;
  namespace = [];
  action = action;
  kind = 9;
  logged = logged;
  context = 0;
  principal = none;
  resource = none;
  entities = [];
}

log : ℕ → Point
unfolding event
log k =
    pick (
    event (pos 100) 4 5  -- 0: Review(board: "b1", n: 3)
    ∷ event (pos 110) 3 6  -- 1: Flash(board: "b1", n: 4)
    ∷ event (pos 105) 4 7  -- 2: Review(board: "b2", n: 3)
    ∷ event (pos 120) 3 8  -- 3: Flash(board: "b2", n: 7)
    ∷ []
    ) k (event (pos 0) 0 0)

bench : Case
unfolding object
bench = record {
  text = λ k. [];
  value = λ k. pick (Text 5 ∷ Text 6 ∷ Int (pos 3) ∷ Int (pos 4) ∷ Int (pos 7) ∷ object 0 2 ∷ object 0 3 ∷ object 1 2 ∷ object 1 4 ∷ []) k (Int (pos 0));
  node = λ k. pick (
      Literal (record { 0 = 0 })  -- 0: "b1"
      ∷ Variable 0  -- 1
      ∷ Predicate (record { first = 0; count = 0 }) (record { 0 = 4 }) (record { 0 = 9 }) (record { first = 0; count = 0 })  -- 2: Review
      ∷ Predicate (record { first = 0; count = 0 }) (record { 0 = 3 }) (record { 0 = 9 }) (record { first = 0; count = 0 })  -- 3: Flash
      ∷ Predicate (record { first = 0; count = 0 }) (record { 0 = 4 }) (record { 0 = 9 }) (record { first = 1; count = 1 })  -- 4: Review("b1")
      ∷ Not (record { 0 = 4 })  -- 5
      ∷ Predicate (record { first = 0; count = 0 }) (record { 0 = 3 }) (record { 0 = 9 }) (record { first = 5; count = 1 })  -- 6: Flash(n: x)
      ∷ Exists 0 (record { 0 = 6 })  -- 7: exists x Flash(n: x)
      ∷ []
      ) k (Literal (record { 0 = 0 }));
  list = λ k. pick (7 ∷ 0 ∷ 1 ∷ 0 ∷ 8 ∷ 4 ∷ 1 ∷ 1 ∷ []) k 0;
}

-- ---- a question: what looks back, the point asked about, steps and room, the list

record Asked : Type 0 where
  look : Look
  point : ℕ
  steps : ℕ
  room : ℕ
  list : List ℕ

asked : Look → ℕ → ℕ → ℕ → List ℕ → Asked
asked look point steps room list = record { look = look; point = point; steps = steps; room = room; list = list }

hour : Interval
hour = record { amount = 1; unit = Hours }

secs : ℕ → Interval
secs k = record { amount = k; unit = Seconds }

got : Asked → Listed
unfolding bench log
got a = listed a.list (shown a.look a.point (scan_of bench log a.point (none ∷ []) (record { steps = a.steps; room = a.room }) a.look))

gave : Bool → ℕ → List ℕ → Listed
gave b n list = record { said = gives (record { verdict = b; filled = n }) 0 0; list = list }

refused·no : ℕ → ℕ → ℕ → List ℕ → Listed
refused·no n steps most list = record { said = refuses n steps most; list = list }

examples :
    map got (
    asked (formerly hour 2) 3 9 0 (9 ∷ 9 ∷ []) ∷  -- formerly Review
    asked (formerly hour 4) 1 1 0 (9 ∷ 9 ∷ []) ∷  -- formerly Review("b1"): a step for each point
    asked (formerly hour 4) 3 1 0 (9 ∷ []) ∷
    asked (formerly hour 4) 3 0 0 (9 ∷ []) ∷
    asked (formerly hour 4) 3 0 0 [] ∷  -- 11, with a list too short
    asked (formerly hour 7) 3 9 0 (9 ∷ []) ∷  -- formerly exists x Flash(n: x): 12
    asked (formerly hour 7) 3 9 1 [] ∷  -- 15
    asked (previous hour 2) 3 1 0 (9 ∷ []) ∷  -- previous Review
    asked (previous hour 2) 0 0 0 (9 ∷ []) ∷  -- nothing is asked
    asked (previous hour 3) 2 0 0 (9 ∷ []) ∷  -- point 1 is later than 2
    asked (since 5 4 (secs 20)) 3 9 0 (9 ∷ 9 ∷ 9 ∷ 9 ∷ 9 ∷ []) ∷  -- not Review("b1") since Review("b1")
    asked (since 5 4 (secs 20)) 3 9 0 (9 ∷ 9 ∷ 9 ∷ []) ∷
    asked (since 5 4 (secs 19)) 3 9 0 (9 ∷ []) ∷
    asked (since 4 2 hour) 3 9 0 (9 ∷ 9 ∷ 9 ∷ 9 ∷ 9 ∷ []) ∷  -- Review("b1") since Review
    asked (since 4 2 hour) 3 9 0 (9 ∷ 9 ∷ 9 ∷ []) ∷
    asked (since 3 2 hour) 3 9 0 (9 ∷ 9 ∷ 9 ∷ []) ∷  -- Flash since Review
    asked (since 2 3 hour) 3 9 0 (9 ∷ 9 ∷ []) ∷  -- Review since Flash: at 3 itself
    asked (formerly hour 4) 2 9 0 (9 ∷ []) ∷  -- formerly Review("b1") at 2: past point 1, which is later
    asked (since 3 4 hour) 3 9 0 (9 ∷ 9 ∷ 9 ∷ []) ∷  -- Flash since Review("b1"): left holds at 1, fails at 2
    []) ≡ (
    gave true 1 (2 ∷ 9 ∷ []) ∷
    gave true 1 (0 ∷ 9 ∷ []) ∷
    gave true 1 (0 ∷ []) ∷
    refused·no 11 0 0 (9 ∷ []) ∷
    refused·no 11 0 0 [] ∷
    refused·no 12 2 0 (9 ∷ []) ∷
    refused·no 15 0 0 [] ∷
    gave true 1 (2 ∷ []) ∷
    gave false 0 (9 ∷ []) ∷
    gave false 0 (9 ∷ []) ∷
    gave true 4 (0 ∷ 1 ∷ 2 ∷ 3 ∷ 9 ∷ []) ∷
    refused·no 15 0 0 (9 ∷ 9 ∷ 9 ∷ []) ∷
    gave false 0 (9 ∷ []) ∷
    gave false 4 (2 ∷ 3 ∷ 0 ∷ 1 ∷ 9 ∷ []) ∷
    refused·no 15 0 0 (9 ∷ 9 ∷ 9 ∷ []) ∷
    gave true 2 (2 ∷ 3 ∷ 9 ∷ []) ∷
    gave true 1 (3 ∷ 9 ∷ []) ∷
    gave true 1 (0 ∷ []) ∷
    gave false 2 (0 ∷ 2 ∷ 9 ∷ []) ∷
    [])
unfolding got gave refused·no asked hour secs upto made ◌and◌ choose only_if is_some or_else pick places run_of highest lowest clamp calculate seconds_of seconds in_window seen see same_list same_parts alike same_value as_value same bound_of integer named members descend bound_at field_at at blank with without without_all over give visit adding dropping ◌>>=◌ started after run·Walk ending outcome earlier unbinding latest now lending condition term if_yes unless_yes one_row not_verdict exists_verdict given match_field match_arguments same_event match predicate names arguments meaning_of no_meaning meaning firsts question number_of met down before body_turn left_turn left_from anchor_turn asked_at seen_from turn_at scan_of carried_by shown listed
examples = refl

-- 8: the node itself, not one with such a node inside
only_these :
    map looks_back (Formerly hour (record { 0 = 2 }) ∷ Not (record { 0 = 8 }) ∷ Literal (record { 0 = 0 }) ∷ []) ≡ (true ∷ false ∷ false ∷ [])
unfolding looks_back look_of is_some hour
only_these = refl

-- each by its own window and children
which :
    map look_of (Formerly hour (record { 0 = 2 }) ∷ Previous hour (record { 0 = 2 }) ∷ Since (record { 0 = 2 }) (record { 0 = 3 }) hour ∷ [])
    ≡ (some (formerly hour 2) ∷ some (previous hour 2) ∷ some (since 2 3 hour) ∷ [])
unfolding look_of hour
which = refl
