-- A body and the contents put into the output
use mathlib.Core.Path.{◌≡◌, sym, ◌∙◌, ap, ap₂}
use mathlib.Core.List.{List, ◌++◌}
use Prim.Native.Nat.{ℕ, ◌+◌, ◌-◌, ◌≤◌}
use native.Mathlib.Omega.{arith}
use lib.ListN.{length, take, drop}
use lib.Seq.{length-take-le}
use Rattle.meaning.specs.Case.{offset, size, body}
use Rattle.laws.specs.Bodies.{long, body-ends}
use Rattle.laws.specs.Writing.{Writing}
use Rattle.writer.specs.Put.{put, Fits, Starts}

-- ---- a body

pub fits-long : {cells f : List ℕ} {at k : ℕ} → Fits cells at f k → 64 ≤ length f
fits-long {cells} {f} h = long f h.passes

module _ {cells f : List ℕ} {at k a a' b b' : ℕ} (h : Fits cells at f k) (ea : a ≡ a') (ea' : a' ≡ offset f k) (eb : b ≡ b') (eb' : b' ≡ size f k) where
  pub body-inside : a + b ≤ length f
  body-inside = omega (arith, body-ends f h.passes k h.seven, ea, ea', eb, eb')

  pub body-put : {w : List ℕ} → Writing cells w at (take (a + b - a) (drop a f)) → w ≡ put cells at (body f k)
  unfolding put body
  body-put {w} d =
      let n : a + b - a ≡ size f k = omega (arith, eb, eb') in
      let part : take (a + b - a) (drop a f) ≡ take (size f k) (drop (offset f k) f) = ap₂ (λ (i j : ℕ). take i (drop j f)) n (ea ∙ ea') in
      d.is ∙ ap (λ (l : List ℕ). (take at cells ++ l) ++ drop (at + length l) cells) part

-- ---- the contents

module _ {cells f : List ℕ} (h : Starts cells f) where
  pub contents-long : 64 ≡ length (take 64 f)
  contents-long = sym (length-take-le 64 f h.long)

  pub contents-fit : 0 + length (take 64 f) ≤ length cells
  contents-fit = omega (arith, contents-long, h.held)

pub contents-put : (cells f w : List ℕ) → Writing cells w 0 (take 64 f) → w ≡ put cells 0 (take 64 f)
unfolding put
contents-put cells f w d = d.is
