-- A word is a string without a dot
use Rattle.std.proofs.Common.{rules}
use Prim.Native.Nat.{ℕ}
use mathlib.Core.Bool.{Bool}
use mathlib.Core.List.{List}
use mathlib.Core.Path.{◌∙◌, ◌≡◌, refl}
use Rattle.meaning.specs.Case.{list, text}
use Rattle.meaning.specs.Check.{path_name, is_string}
use Rattle.meaning.specs.Text.{free}
use Rattle.listruns.proofs.Runs.{no-string, string_in, string-marked}
use Rattle.meaning.specs.Tests.{◌and◌}
use Rattle.listruns.proofs.path_name.Goals as goal

name-read : (s : List ℕ) (i : ℕ) {n : ℕ} {r : Bool} → n ≡ list s i → r ≡ (is_string s n and free 46 (text s n)) → r ≡ path_name s i
name-read s i e f = f ∙ rw e refl

pub returns-else-n-string_count : goal.returns-else-n-string_count
returns-else-n-string_count c = search (name-read, no-string, rules)

pub bounds-undotted-n : goal.bounds-undotted-n
bounds-undotted-n c = search (string_in, rules)

pub returns-then-n-string_count : goal.returns-then-n-string_count
returns-then-n-string_count c = search (name-read, string-marked, rules)
