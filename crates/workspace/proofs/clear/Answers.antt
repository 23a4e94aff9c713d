use Rattle.std.proofs.Common.{◌≡◌, ℕ, ◌≤◌, List, ◌++◌, length, take, drop, replicate, refl, length-take-le}
use Rattle.meaning.specs.Calls.{cleared}
use Rattle.workspace.proofs.clear.Goals as goal

cleared-by : (n : ℕ) (d m : List ℕ) → n ≤ length d → m ≡ replicate (length (take n d)) 0 → m ++ drop n d ≡ cleared n d
unfolding cleared
cleared-by n d m le e = rw (e, length-take-le n d le) refl

pub returns : goal.returns
returns c = cleared-by _ _ _ c.requires (c.fill.ensures.after (λ y h. h))
