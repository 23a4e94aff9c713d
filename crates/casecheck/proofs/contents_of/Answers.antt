-- The counts that a pass tells are the file's
use Rattle.std.proofs.Common.{rules}
use Prim.Native.Nat.{ℕ}
use mathlib.Core.List.{List}
use mathlib.Core.Path.{◌≡◌, refl}
use Rattle.casecheck.specs.Answer.{contents_of}
use Rattle.casecheck.specs.declared.Contents.{Contents}
use Rattle.meaning.specs.Case.{vars, strings, values, points, nodes}
use Rattle.casecheck.proofs.contents_of.Goals as goal

counted : (s : List ℕ) {a b d e f : ℕ} → a ≡ vars s → b ≡ strings s → d ≡ values s → e ≡ points s → f ≡ nodes s → ◌≡◌ {A = Contents} (record { vars = a; strings = b; values = d; points = e; nodes = f }) (contents_of s)
counted s p q u v w = rw (p, q, u, v, w) refl

pub returns : goal.returns
returns c = search (counted, rules)
