-- A string's bytes are a part of the file
use Rattle.std.proofs.Common.{rules}
use native.Mathlib.Omega.{arith}
use mathlib.Core.Path.{◌∙◌, ◌≡◌}
use Rattle.laws.specs.Bodies.{long}
use Rattle.tables.specs.Laws.{string-fits, text-read}
use Prim.Native.Nat.{ℕ, ◌+◌, ◌-◌, ◌≤◌}
use mathlib.Core.Bool.{true}
use mathlib.Core.List.{List}
use lib.ListN.{length, take, drop}
use Rattle.meaning.specs.Case.{offset, string_word, text}
use Rattle.meaning.specs.Check.{bodies, end_to_end}
use Rattle.tables.proofs.text_of.Goals as goal

module _ (s : List ℕ) (n : ℕ) {o p a d b e : ℕ} (ep : p ≡ o) (eo : o ≡ offset s 6) (ed : d ≡ a) (ea : a ≡ string_word s n 0) (ee : e ≡ b) (eb : b ≡ string_word s n 1) (h : bodies s ≡ true) (placed : end_to_end s ≡ true) where
  end_in : p + d + e ≤ length s
  end_in = omega (arith, string-fits s h placed n)

  bytes-are : take (p + d + e - (p + d)) (drop (p + d) s) ≡ text s n
  bytes-are = text-read s h placed n p d e (ep ∙ eo) (ed ∙ ea) (ee ∙ eb)

pub offset_of-requires : goal.offset_of-requires
offset_of-requires c = search (long, rules)

pub slice_bounds-result-end : goal.slice_bounds-result-end
slice_bounds-result-end c = search (end_in, rules)

pub returns : goal.returns
returns c = search (bytes-are, rules)
