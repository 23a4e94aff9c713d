-- Blanks, and a byte that is due
use Rattle.std.specs.Prelude.{Ok, Err}
use mathlib.Core.Path.{◌≡◌, refl, sym, ◌∙◌}
use mathlib.Core.Bool.{Bool, true, false, not}
use mathlib.Core.List.{List}
use Prim.Native.Nat.{ℕ, ◌+◌, ◌<◌, ◌≤◌}
use native.Mathlib.Omega.{arith}
use lib.Dec.{eqb}
use lib.ListN.{length, drop, get_or, drop_of_length-le}
use borrow.Author.Tests.{eq-eqb, ne_eqb, not-true, not-false}
use Rattle.meaning.specs.Tests.{choose}
use Rattle.laws.specs.Tests.{yes, no as otherwise}
use Rattle.jsontext.specs.declared.Fault.TheVariants.{NotJson}
use Rattle.jsontext.specs.Reading.{got, no, is_blank, blanks, want, wrong}
use Rattle.jsonread.specs.Told.{Told, Blanks}
use Rattle.jsonread.proofs.Places.{byte_at, told_at, wrong-here}

-- ---- blanks

-- the blanks from i on are those that are left to pass
pub record Skipping (line : List ℕ) (at i : ℕ) : Type 0 where
  pub from : at ≤ i
  pub within : i ≤ length line
  pub goes : blanks (drop i line) ≡ blanks (drop at line)

pub skip-start : {line : List ℕ} {at : ℕ} → at ≤ length line → Skipping line at at
skip-start h = record { from = omega arith; within = h; goes = refl }

blanks-byte : (line : List ℕ) (i : ℕ) → i < length line → blanks (drop i line) ≡ choose (is_blank (get_or line i 0)) (blanks (drop (i + 1) line)) (drop i line)
unfolding blanks
blanks-byte line i h = rw (byte_at line i h)

blanks-end : (line : List ℕ) (i : ℕ) → length line ≤ i → drop i line ≡ blanks (drop i line)
unfolding blanks
blanks-end line i h = rw (drop_of_length-le line h)

module _ {line : List ℕ} {at i : ℕ} (g : Skipping line at i) where
  pub skip-end : length line ≤ i → Blanks line at i
  skip-end h = record { from = g.from; within = g.within; is = blanks-end line i h ∙ g.goes }

  module _ {x : Bool} (h : i < length line) (e : x ≡ is_blank (get_or line i 0)) where
    pub skip-more : not x ≡ false → Skipping line at (i + 1)
    skip-more n =
        record {
          from = omega (arith, g.from);
          within = omega arith;
          goes = sym (yes _ (sym e ∙ not-false x n)) ∙ sym (blanks-byte line i h) ∙ g.goes;
        }

    pub skip_stop : not x ≡ true → Blanks line at i
    skip_stop n = record { from = g.from; within = g.within; is = sym (otherwise _ (sym e ∙ not-true x n) refl) ∙ sym (blanks-byte line i h) ∙ g.goes }

-- ---- a byte that is due

want-byte : (line : List ℕ) (at b : ℕ) → at < length line → want b (drop at line) ≡ choose (eqb (get_or line at 0) b) (got (get_or line at 0) (drop (at + 1) line)) (no NotJson (drop at line))
unfolding want
want-byte line at b h = rw (byte_at line at h)

module _ (line : List ℕ) (at b : ℕ) where
  pub want-end : at ≤ length line → length line ≤ at → Told line at (Err (wrong NotJson at)) (want b (drop at line))
  unfolding want
  want-end h l = wrong-here h (rw (drop_of_length-le line l))

  pub want-there : at < length line → get_or line at 0 ≡ b → Told line at (Ok (at + 1)) (want b (drop at line))
  want-there h e = told_at (record { what = get_or line at 0; from = omega arith; within = omega arith; is = want-byte line at b h ∙ yes _ (eq-eqb _ _ e) })

  pub want-other : at < length line → (get_or line at 0 ≡ b → ⊥) → Told line at (Err (wrong NotJson at)) (want b (drop at line))
  want-other h n = wrong-here (omega arith) (want-byte line at b h ∙ otherwise _ (ne_eqb _ _ n) refl)
