-- What the output is once bodies and contents of a case are put into it
use Rattle.std.specs.Prelude.{◌≡◌, true, List, ◌++◌, ℕ, ◌+◌, ◌<◌, ◌≤◌, length, take, drop}
use denote.Ref.{at_last}
use Rattle.meaning.specs.Case.{size, body}
use Rattle.meaning.specs.Check.{bodies}
use Rattle.writer.specs.declared.Writer.{Writer}

-- new cells from a place on
unfoldable pub put : List ℕ → ℕ → List ℕ → List ℕ
put cells at new = (take at cells ++ new) ++ drop (at + length new) cells

-- body k of the case f fits from a place on
pub record Fits (cells : List ℕ) (at : ℕ) (f : List ℕ) (k : ℕ) : Type 0 where
  pub passes : bodies f ≡ true
  pub seven : k < 7
  pub held : at + size f k ≤ length cells

-- the same borrow with body k at the writer's place, and the next place
abbrev pub appended : Writer → List ℕ → ℕ → Writer
appended w f k = record { out = at_last w.out (put w.out.now w.at (body f k)); at = w.at + size f k }

-- contents and a case of them fit
pub record Starts (cells f : List ℕ) : Type 0 where
  pub long : 64 ≤ length f
  pub held : 64 ≤ length cells

-- a whole case fits
pub record Whole (cells f : List ℕ) : Type 0 where
  pub passes : bodies f ≡ true
  pub held : length f ≤ length cells
