-- What single verdicts say of a node that looks back: a verdict's answer without its walk, the point that carries, the anchors that fail
use Rattle.std.specs.Prelude.{◌≡◌, Bool, true, false, List, [], ◌∷◌, ℕ, zero, suc, ◌-◌, ◌<◌}
use Rattle.meaning.specs.declared.Interval.{Interval}
use Rattle.meaning.specs.Tests.{◌and◌, ◌or◌, choose}
use Rattle.meaning.specs.Case.{Case, Point}
use Rattle.meaning.specs.Number.{seconds, in_window}
use Rattle.meaning.specs.Rows.{Row}
use Rattle.meaning.specs.Meaning.{earlier, meaning, firsts, question}
use Rattle.meaning.specs.Carried.{Look, formerly, previous, since, End, at, nowhere, stopped, carried_by}

-- some point below n is in the window and has it
unfoldable pub any_below : (ℕ → Bool) → (ℕ → Bool) → ℕ → Bool
any_below within p zero = false
any_below within p (suc j) = (within j and p j) or any_below within p j

-- all of n points from k on
unfoldable pub all_from : (ℕ → Bool) → ℕ → ℕ → Bool
all_from p k zero = true
all_from p k (suc n) = p k and all_from p (suc k) n

-- the first of them that has it not
unfoldable pub first_not : (ℕ → Bool) → ℕ → ℕ → ℕ
first_not p k zero = k
first_not p k (suc n) = choose (p k) (first_not p (suc k) n) k

-- the point before i
unfoldable pub just_before : (ℕ → Bool) → (ℕ → Bool) → ℕ → Bool
just_before within p zero = false
just_before within p (suc j) = within j and p j

module _ (c : Case) (log : ℕ → Point) (i : ℕ) (row : Row) where
  -- the definition's verdict of a node at point j, asked at i
  unfoldable pub holds_at : ℕ → ℕ → Bool
  holds_at n j = ((meaning c n).verdict (earlier (question log i row) (firsts log (suc j)))).answer

  unfoldable pub in_view : Interval → ℕ → Bool
  in_view within j = in_window (seconds within) (log i).time (log j).time

  -- what has to hold at a point, what after it, and the first point after it where that fails
  unfoldable pub right_of : Look → ℕ → Bool
  right_of (formerly within n) j = holds_at n j
  right_of (previous within n) j = holds_at n j
  right_of (since left right within) j = holds_at right j

  unfoldable pub left_of : Look → ℕ → Bool
  left_of (formerly within n) j = true
  left_of (previous within n) j = true
  left_of (since left right within) j = all_from (holds_at left) (suc j) (i - j)

  unfoldable pub fails_of : Look → ℕ → ℕ
  fails_of (formerly within n) j = j
  fails_of (previous within n) j = j
  fails_of (since left right within) j = first_not (holds_at left) (suc j) (i - j)

  -- the verdict
  unfoldable pub verdict_of : Look → Bool
  verdict_of (formerly within n) = any_below (in_view within) (λ j. holds_at n j) (suc i)
  verdict_of (previous within n) = just_before (in_view within) (λ j. holds_at n j) i
  verdict_of (since left right within) =
      any_below (in_view within) (λ j. holds_at right j and all_from (holds_at left) (suc j) (i - j)) (suc i)

-- the anchors below n that are in the window, the latest first, each followed by the first point at which left fails
unfoldable pub anchors_below : (ℕ → Bool) → (ℕ → Bool) → (ℕ → ℕ) → ℕ → List ℕ
anchors_below within right first zero = []
anchors_below within right first (suc j) =
    choose (within j and right j) (j ∷ first j ∷ anchors_below within right first j) (anchors_below within right first j)

-- point j, below n, has it in the window, and no later one has
pub record Greatest (within p : ℕ → Bool) (n j : ℕ) : Type 0 where
  pub below : j < n
  pub seen : within j ≡ true
  pub has : p j ≡ true
  pub none-later : (k : ℕ) → j < k → k < n → (within k and p k) ≡ false

-- what a scan shows by how it ends: the verdict, and the point that carries it, or the anchors that failed
abbrev pub Shows : Case → (ℕ → Point) → ℕ → Row → Look → List ℕ → End → Type 0
Shows c log i row (formerly within n) failed (at j) =
    (verdict_of c log i row (formerly within n) ≡ true) × Greatest (in_view c log i row within) (holds_at c log i row n) (suc i) j
Shows c log i row (formerly within n) failed nowhere =
    (verdict_of c log i row (formerly within n) ≡ false) × (failed ≡ [])
Shows c log i row (formerly within n) failed (stopped r m) = Unit {0}
Shows c log i row (previous within n) failed (at j) = (verdict_of c log i row (previous within n) ≡ true) × (suc j ≡ i)
Shows c log i row (previous within n) failed nowhere =
    (verdict_of c log i row (previous within n) ≡ false) × (failed ≡ [])
Shows c log i row (previous within n) failed (stopped r m) = Unit {0}
Shows c log i row (since left right within) failed (at j) =
    (verdict_of c log i row (since left right within) ≡ true)
    × Greatest (in_view c log i row within) (λ j. holds_at c log i row right j and all_from (holds_at c log i row left) (suc j) (i - j)) (suc i) j
Shows c log i row (since left right within) failed nowhere =
    (verdict_of c log i row (since left right within) ≡ false)
    × (failed ≡ anchors_below (in_view c log i row within) (holds_at c log i row right) (λ j. first_not (holds_at c log i row left) (suc j) (i - j)) (suc i))
Shows c log i row (since left right within) failed (stopped r m) = Unit {0}

-- the points that a call lists are made so: those of the point that carries, or the anchors that failed
abbrev pub Made : Case → (ℕ → Point) → ℕ → Row → Look → Bool → List ℕ → Type 0
Made c log i row look true points = (j : ℕ) × (failed : List ℕ) × (points ≡ carried_by look i j) × Shows c log i row look failed (at j)
Made c log i row look false points = Shows c log i row look points nowhere
