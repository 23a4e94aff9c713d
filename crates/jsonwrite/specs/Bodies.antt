-- Where the bodies of a trace begin, by how many records each table has
use Rattle.std.specs.Prelude.{◌≡◌, ◌+◌, ◌*◌, ◌≤◌}
use Rattle.jsontrace.specs.Count.{Count}
use Rattle.jsonroom.specs.declared.Bodies.{Bodies}
use Rattle.jsoncount.specs.declared.tallies.Tally.{Tally}

-- what a tally says
abbrev pub count_of : Tally → Count
count_of c = record { strings = c.strings; bytes = c.bytes; values = c.values; members = c.members; points = c.points; lists = c.lists }

-- no number is above the cap of a tally
pub record Few (c : Tally) : Type 0 where
  pub strings : c.strings ≤ 4294967296
  pub bytes : c.bytes ≤ 4294967296
  pub values : c.values ≤ 4294967296
  pub members : c.members ≤ 4294967296
  pub points : c.points ≤ 4294967296
  pub lists : c.lists ≤ 4294967296

-- bodies one after another, past the contents
pub record Laid (k : Count) (b : Bodies) : Type 0 where
  pub strings : b.strings ≡ 64
  pub values : b.values ≡ 64 + 8 * k.strings
  pub members : b.members ≡ b.values + 16 * k.values
  pub points : b.points ≡ b.members + 8 * k.members
  pub lists : b.lists ≡ b.points + 48 * k.points
  pub text : b.text ≡ b.lists + 4 * k.lists
  pub end : b.end ≡ b.text + k.bytes
