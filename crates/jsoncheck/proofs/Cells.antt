-- The cells that a text's names may take, lent and cleared
use Rattle.std.specs.Prelude.{Result}
use mathlib.Core.Path.{◌≡◌, ap, ◌∙◌}
use mathlib.Core.List.{List, ◌++◌}
use Prim.Native.Nat.{ℕ, ◌+◌, ◌/◌, ◌≤◌}
use native.Mathlib.Omega.{arith}
use lib.ListN.{length, take, drop, replicate, length-append, length-drop, length-replicate}
use lib.Seq.{length-take-le, drop_at}
use Rattle.meaning.specs.Calls.{cleared}
use Rattle.jsontext.specs.declared.Bad.{Bad}
use Rattle.jsonkeys.specs.Keys.{Room}
use Rattle.jsonlines.specs.Events.{LogTold}
use Rattle.jsoncheck.specs.Checked.{CheckTold}

module _ (text workspace : List ℕ) {n : ℕ} (e : n ≡ (length text + 3) / 4) (h : (length text + 3) / 4 ≤ length workspace) where
  few : n ≤ length workspace
  few = omega arith

  pub part-long : length (take n workspace) ≡ n
  part-long = length-take-le n workspace few

  pub part_room : Room text (take n workspace) 0 0 0
  part_room = omega (arith, part-long)

  pub checked : {part after : List ℕ} {r : Result ℕ Bad} → LogTold text (take n workspace) part r → after ≡ cleared n (part ++ drop n workspace) → CheckTold text workspace after r
  unfolding cleared
  checked {part} {after} t q =
      let z : after ≡ replicate n 0 ++ drop n workspace = q ∙ ap (λ (l : List ℕ). replicate n 0 ++ l) (drop_at part (drop n workspace) n (t.long ∙ part-long)) in
      record {
        good = t.good;
        wrong = t.wrong;
        long = ap length z ∙ length-append (replicate n 0) (drop n workspace) ∙ (let y : length (replicate n 0) + length (drop n workspace) ≡ length workspace = omega (arith, length-replicate {A = ℕ} n 0, length-drop n workspace, few) in y);
        cells = z ∙ ap (λ (k : ℕ). replicate k 0 ++ drop k workspace) e;
      }
