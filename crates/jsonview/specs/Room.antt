-- The bodies of the file being written, the tables written into them from given numbers on, and whether they fit
use Rattle.std.specs.Prelude.{◌≡◌, List, ◌++◌, map, ℕ, ◌+◌, ◌*◌, ◌≤◌, length}
use Rattle.encode.specs.Words.{packed}
use Rattle.encode.specs.Encode.{flat, placed}
use Rattle.jsonroom.specs.declared.Bodies.{Bodies}
use Rattle.jsonroom.specs.declared.Next.{Next}
use Rattle.jsontrace.specs.Trace.{Tables, members, Next as Next-as_Trace}
use Rattle.jsonview.specs.Cells.{write}

pub record Room : Type 0 where
  pub strings : List ℕ
  pub values : List ℕ
  pub members : List ℕ
  pub points : List ℕ
  pub lists : List ℕ
  pub text : List ℕ

-- the file is its head, the bodies end to end, each where it should begin, and a tail
pub record Shows (file : List ℕ) (b : Bodies) (r : Room) : Type 0 where
  pub head : List ℕ
  pub tail : List ℕ
  pub is : file ≡ head ++ (r.strings ++ (r.values ++ (r.members ++ (r.points ++ (r.lists ++ (r.text ++ tail))))))
  pub strings : length head ≡ b.strings
  pub values : b.strings + length r.strings ≡ b.values
  pub members : b.values + length r.values ≡ b.members
  pub points : b.members + length r.members ≡ b.points
  pub lists : b.points + length r.points ≡ b.lists
  pub text : b.lists + length r.lists ≡ b.text
  pub end : b.text + length r.text ≡ b.end

-- each list with its table written, where these numbers are the next
unfoldable pub filled : Next → Tables → Room → Room
filled n t r = record {
  strings = write r.strings (8 * n.string) (packed (placed n.byte t.texts));
  values = write r.values (16 * n.value) (packed (flat t.values));
  members = write r.members (8 * n.member) (packed (flat t.members));
  points = write r.points (48 * n.point) (packed (flat t.points));
  lists = write r.lists (4 * n.list) (packed (map (λ w. w.0) t.lists));
  text = write r.text n.byte (flat t.texts);
}

-- the numbers that are next after these tables
unfoldable pub beyond : Next → Tables → Next
beyond n t = record {
  string = n.string + length t.texts;
  byte = n.byte + length (flat t.texts);
  value = n.value + length t.values;
  member = n.member + length t.members;
  list = n.list + length t.lists;
  point = n.point + length t.points;
}

-- the numbers that the definition goes by
unfoldable pub numbers : Next → Next-as_Trace
numbers n = record { string = n.string; value = n.value; member = n.member; list = n.list }

-- the tables fit from these numbers on
pub record Fit (r : Room) (n : Next) (t : Tables) : Type 0 where
  pub strings : 8 * n.string + 8 * length t.texts ≤ length r.strings
  pub values : 16 * n.value + 16 * length t.values ≤ length r.values
  pub members : 8 * n.member + 8 * length t.members ≤ length r.members
  pub points : 48 * n.point + 48 * length t.points ≤ length r.points
  pub lists : 4 * n.list + 4 * length t.lists ≤ length r.lists
  pub text : n.byte + length (flat t.texts) ≤ length r.text

-- the file shows a room with these tables in it, and these numbers are next
pub record Grown (file : List ℕ) (b : Bodies) (r : Room) (n : Next) (t : Tables) (m : Next) : Type 0 where
  pub shows : Shows file b (filled n t r)
  pub next : m ≡ beyond n t

-- tables fit into what the file shows, and its places are words
pub record Ready (file : List ℕ) (b : Bodies) (n : Next) (t : Tables) : Type 0 where
  pub room : Room
  pub shows : Shows file b room
  pub fit : Fit room n t
  pub words : length file ≤ 4294967295

-- wherever they fit, these tables were written
abbrev pub Adds : List ℕ → List ℕ → Bodies → Next → Tables → Next → Type 0
Adds before after b n t m = (r : Room) → Shows before b r → Fit r n t → Grown after b r n t m

-- ---- a run of members, whose children's tables come behind it

-- after a run of so many members
unfoldable pub leaving : Next → ℕ → Next
leaving n count = record { string = n.string; byte = n.byte; value = n.value; member = n.member + count; list = n.list; point = n.point }

-- so far: the run's members, and what its children add
pub record Run (file : List ℕ) (b : Bodies) (r : Room) (n : Next) (count : ℕ) (run : List (List ℕ)) (inside : Tables) (m : Next) : Type 0 where
  pub shows : Shows file b (filled (leaving n count) inside (filled n (members run) r))
  pub next : m ≡ beyond (leaving n count) inside

-- wherever all that the children add fits
abbrev pub Running : List ℕ → List ℕ → Bodies → Next → ℕ → Tables → List (List ℕ) → Tables → Next → Type 0
Running before file b n count all run inside m = (r : Room) → Shows before b r → Fit r (leaving n count) all → Run file b r n count run inside m
