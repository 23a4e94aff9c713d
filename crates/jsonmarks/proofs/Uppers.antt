-- Cells of the table that stay: it stays whose it was, with its marks
use mathlib.Core.Path.{◌≡◌, sym, ap, subst, ◌∙◌}
use mathlib.Core.List.{List}
use Prim.Native.Nat.{ℕ, ◌+◌, ◌-◌, ◌/◌, ◌%◌, ◌^◌, ◌<◌, ◌≤◌}
use native.Mathlib.Omega.{arith}
use lib.ListN.{length, get_or}
use Rattle.jsonnames.specs.Sorted.{Spells}
use Rattle.jsonmarks.specs.Marks.{table_from, Marks, Owns, Marked, Below}

module _ (line names after : List ℕ) (l : length after ≡ length names) (u : (k : ℕ) → table_from (length names) ≤ k → get_or after k 0 ≡ get_or names k 0) where
  module _ {f : ℕ} (o : Owns line after f) where
    last-same : get_or after (length after - 1) 0 ≡ get_or names (length names - 1) 0
    last-same =
        let z : length after - 1 ≡ length names - 1 = omega arith in
        ap (λ (j : ℕ). get_or after j 0) z ∙ u (length names - 1) (omega (arith, o.room))

    size_same : get_or after (length after - 2) 0 ≡ get_or names (length names - 2) 0
    size_same =
        let z : length after - 2 ≡ length names - 2 = omega arith in
        ap (λ (j : ℕ). get_or after j 0) z ∙ u (length names - 2) (omega (arith, o.room, o.some))

    pub owns_back : Owns line names f
    owns_back = record { owner = sym last-same ∙ o.owner; some = omega (arith, size_same, o.some); room = omega (arith, size_same, o.room) }

    pub marks-there : (d : ℕ) → Marks names (table_from (length names)) (get_or names (length names - 2) 0) d → Marks after (table_from (length after)) (get_or after (length after - 2) 0) d
    marks-there d m =
        let cell : ℕ = table_from (length names) + d % get_or names (length names - 2) 0 in
        let z : table_from (length after) + d % get_or after (length after - 2) 0 ≡ cell =
        ap (λ (s : ℕ). table_from (length after) + d % s) size_same ∙ ap (λ (n : ℕ). table_from n + d % get_or names (length names - 2) 0) l
        in
        ap (λ (a : ℕ). a / 2 ^ (d / 17179869184) % 2) (ap (λ (j : ℕ). get_or after j 0) z ∙ u cell (omega arith)) ∙ m

  pub below-upper : {used : ℕ} → ((k : ℕ) → k < used → get_or after k 0 ≡ get_or names k 0) → Below line used names after
  below-upper s = record { long = l; same = s; owner = λ f h o. owns_back o; marks = λ f h o. u }

-- marks of a large object stay
pub marked-kept : {line names after : List ℕ} {first end : ℕ} → Below line end names after → Marked line names first end → Marked line after first end
marked-kept {line} {names} {after} b m =
    record {
      all =
          λ c o k f h n s.
          marks-there line names after b.long (b.marks _ (omega arith) o) o _ (m.all c (b.owner _ (omega arith) o) k f h n (subst (λ (p : ℕ). Spells line p n) (b.same k h) s));
    }
