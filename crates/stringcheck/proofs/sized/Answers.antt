-- A size where the letter is whole, or none
use Rattle.std.proofs.Common.{rules}
use mathlib.Core.Path.{◌≡◌, refl, sym}
use mathlib.Core.Bool.{Bool, true, false}
use Prim.Native.Nat.{ℕ}
use Rattle.meaning.specs.Tests.{choose}
use Rattle.laws.specs.Tests.{yes, no}
use Rattle.stringcheck.proofs.sized.Goals as goal

module _ {w : Bool} (n : ℕ) where
  whole : w ≡ true → n ≡ choose w n 0
  whole e = sym (yes 0 e)

  missing : w ≡ false → 0 ≡ choose w n 0
  missing e = sym (no n e refl)

pub returns-then-whole : goal.returns-then-whole
returns-then-whole c = search (whole, rules)

pub returns-else-whole : goal.returns-else-whole
returns-else-whole c = search (missing, rules)
