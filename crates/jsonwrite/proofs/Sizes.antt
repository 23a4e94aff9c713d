-- From what a tally shows to where the bodies begin and how long the trace is
use mathlib.Core.Path.{◌≡◌, refl}
use mathlib.Core.Bool.{Bool, true, false}
use mathlib.Core.List.{List}
use Prim.Native.Nat.{ℕ, ◌<◌, ◌≤◌}
use native.Mathlib.Omega.{arith}
use lib.Dec.{leb}
use borrow.Author.Tests.{leb-true, leb-false}
use Rattle.meaning.specs.Tests.{choose}
use Rattle.jsontrace.specs.Count.{Count, trace_bytes}
use Rattle.jsonroom.specs.declared.Bodies.{Bodies}
use Rattle.jsoncount.specs.declared.tallies.Tally.{Tally}
use Rattle.jsoncount.specs.Tally.{capped, Shows}
use Rattle.jsonlines.specs.Events.{LogIs}
use Rattle.jsontotal.specs.Totals.{LogCounted}
use Rattle.jsonwrite.specs.Bodies.{Few, count_of, Laid}

-- ---- a number that a tally shows

record Cap (n m : ℕ) : Type 0 where
  most : n ≤ 4294967296
  under : n ≤ m
  low : n ≤ 4294967295 → n ≡ m

cap : (m : ℕ) {n : ℕ} → n ≡ capped m → Cap n m
unfolding capped choose
cap m {n} e = go (leb m 4294967295) refl e
  where
    go : (x : Bool) → leb m 4294967295 ≡ x → n ≡ choose x m 4294967296 → Cap n m
    go true q z = record { most = omega (arith, leb-true m 4294967295 q); under = omega arith; low = λ h. z }
    go false q z = record { most = omega arith; under = omega (arith, leb-false m 4294967295 q); low = λ h. absurd (omega arith) }

pub few : {text : List ℕ} {c : Tally} → LogIs text → LogCounted text c → Few c
few g l =
    let s = l.is g.what g.is in
    record {
      strings = (cap _ s.strings).most;
      bytes = (cap _ s.bytes).most;
      values = (cap _ s.values).most;
      members = (cap _ s.members).most;
      points = (cap _ s.points).most;
      lists = (cap _ s.lists).most;
    }

-- ---- the file's length

module _ {k : Count} {b : Bodies} where
  pub end_is : Laid k b → b.end ≡ trace_bytes k
  unfolding trace_bytes
  end_is l = omega (arith, l.values, l.members, l.points, l.lists, l.text, l.end)

module _ {k : Count} {c : Tally} {b : Bodies} (s : Shows c k) (l : Laid (count_of c) b) where
  -- where a tally's bodies are too long, so is the trace
  pub too_long : 4294967295 < b.end → 4294967295 < trace_bytes k
  unfolding trace_bytes
  too_long h =
      omega (arith, l.values, l.members, l.points, l.lists, l.text, l.end, (cap _ s.strings).under, (cap _ s.bytes).under, (cap _ s.values).under, (cap _ s.members).under, (cap _ s.points).under, (cap _ s.lists).under)

  -- else each number is the count itself
  pub list-words : b.end ≤ 4294967295 → c.lists ≡ k.lists
  list-words h = (cap _ s.lists).low (omega (arith, l.text, l.end))

  pub laid : b.end ≤ 4294967295 → Laid k b
  laid h = record {
    strings = l.strings;
    values = omega (arith, l.values, (cap _ s.strings).low (omega (arith, l.values, l.members, l.points, l.lists, l.text, l.end)));
    members = omega (arith, l.members, (cap _ s.values).low (omega (arith, l.members, l.points, l.lists, l.text, l.end)));
    points = omega (arith, l.points, (cap _ s.members).low (omega (arith, l.points, l.lists, l.text, l.end)));
    lists = omega (arith, l.lists, (cap _ s.points).low (omega (arith, l.lists, l.text, l.end)));
    text = omega (arith, l.text, list-words h);
    end = omega (arith, l.end, (cap _ s.bytes).low (omega (arith, l.end)));
  }
