-- What a good line adds to a tally, and what a tally of a good log shows
use Rattle.std.specs.Prelude.{◌≡◌, List, ℕ}
use Rattle.jsontext.specs.Reading.{got}
use Rattle.jsontext.specs.Events.{Event, line as line_of, events, log}
use Rattle.jsontrace.specs.Count.{counted_event, counted_events}
use Rattle.jsoncount.specs.declared.tallies.Tally.{Tally}
use Rattle.jsoncount.specs.Tally.{Shows, Adds}

pub record LineAdds (line : List ℕ) (t r : Tally) : Type 0 where
  pub is : (e : Event) (rest : List ℕ) → line_of line ≡ got e rest → Adds t (counted_event e) r

pub record LogCounted (text : List ℕ) (r : Tally) : Type 0 where
  pub is : (es : List Event) → log text ≡ events es → Shows r (counted_events es)
