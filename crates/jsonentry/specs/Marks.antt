-- Tables written together with the marks of their list words
use Rattle.std.specs.Prelude.{◌≡◌, List, map, ℕ, ◌+◌, ◌≤◌, length}
use Rattle.jsontrace.specs.Trace.{Tables}
use Rattle.jsonroom.specs.declared.Bodies.{Bodies}
use Rattle.jsonroom.specs.declared.Next.{Next}
use Rattle.jsonview.specs.Cells.{write}
use Rattle.jsonview.specs.Room.{Room, Shows, Fit, Grown, Ready}

unfoldable pub marks_of : Tables → List ℕ
marks_of t = map (λ w. w.1) t.lists

-- tables fit, and so do their marks
pub record MarkReady (file marks : List ℕ) (b : Bodies) (n : Next) (t : Tables) : Type 0 where
  pub ready : Ready file b n t
  pub for-marks : n.list + length t.lists ≤ length marks

-- the file shows a room with these tables in it, and the marks are written
pub record MarkGrown (file : List ℕ) (b : Bodies) (r : Room) (n : Next) (t : Tables) (m : Next) (marks marks' : List ℕ) : Type 0 where
  pub grown : Grown file b r n t m
  pub marked : marks' ≡ write marks n.list (marks_of t)

-- wherever they fit, these tables and their marks were written
abbrev pub MarkAdds : List ℕ → List ℕ → List ℕ → List ℕ → Bodies → Next → Tables → Next → Type 0
MarkAdds before after marks marks' b n t m = (r : Room) → Shows before b r → Fit r n t → n.list + length t.lists ≤ length marks → MarkGrown after b r n t m marks marks'
