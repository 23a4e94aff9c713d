use Rattle.std.proofs.Common.{rules}
use Rattle.std.proofs.lemmas.Bool.Decides.{nat_tests}
use Prim.Native.Nat.{◌%◌, ◌+◌, ◌≤◌, ℕ, ◌<◌}
use borrow.Author.Tests.{eq-eqb, le-leb, ne_eqb}
use lib.Dec.{eqb}
use lib.ListN.{length}
use mathlib.Core.Bool.{false}
use mathlib.Core.List.{List}
use mathlib.Core.Path.{◌∙◌, ◌≡◌, sym, refl}
use native.Mathlib.Numerals.{add-one}
use native.Mathlib.Omega.{arith}
use Rattle.meaning.specs.Case.{contents, size, offset}
use Rattle.meaning.specs.Check.{bodies, body_rule, record_bytes, start_of}
use Rattle.laws.specs.Tests.{all_more, all-stop, pass, skip, stop}
use Rattle.meaning.specs.Tests.{◌and◌, all_below}
use Rattle.stringcheck.proofs.check_bodies.Invariants.{Right}
use Rattle.stringcheck.proofs.check_bodies.Goals as goal

right-none : {s : List ℕ} {w : ℕ} → w ≡ contents s 0 → w ≡ 1 → 64 ≤ length s → Right s 64 0
unfolding start_of all_below
right-none e f l = record { low = omega arith; long = l; edition = sym e ∙ f; start = refl; near = omega arith; passed = refl }

module _ {s : List ℕ} {at k : ℕ} (i : Right s at k) where
  broken : k < 7 → body_rule s k ≡ false → false ≡ bodies s
  unfolding bodies
  broken lt e = sym (skip _ (skip _ (stop _ (all-stop _ 7 k lt e))))

  all_right : 7 ≤ k → eqb at (length s) ≡ bodies s
  unfolding bodies ◌and◌
  all_right h =
      let e : k ≡ 7 = omega (arith, i.low) in
      simp (le-leb 64 (length s) i.long, eq-eqb (contents s 0) 1 i.edition, rw e at i.passed, sym (rw e at i.start))

  module _ (lt : k < 7) {begin : ℕ} (eb : begin ≡ offset s k) where
    misplaced : (begin ≡ at → ⊥) → false ≡ bodies s
    unfolding body_rule
    misplaced h = broken lt (stop _ (ne_eqb _ _ (λ e. h (eb ∙ e ∙ sym i.start))))

    module _ {bytes each : ℕ} (ez : bytes ≡ size s k) (er : each ≡ record_bytes k) where
      whole : size s k % record_bytes k ≡ bytes % each
      whole = cc

      in-part : (bytes % each ≡ 0 → ⊥) → false ≡ bodies s
      unfolding body_rule
      in-part h = broken lt (skip _ (ne_eqb _ _ (λ q. h (sym whole ∙ q))))

      right-more : begin ≡ at → bytes % each ≡ 0 → bytes < 4294967296 → Right s (at + bytes) (k + 1)
      unfolding body_rule start_of
      right-more h e fits =
          record {
            low = omega arith;
            long = i.long;
            edition = i.edition;
            start = rw (add-one k, i.start, ez) refl;
            near = omega (arith, i.near);
            passed = all_more _ k i.passed (pass (eq-eqb _ _ (sym eb ∙ h ∙ i.start)) (eq-eqb _ _ (whole ∙ e)));
          }

pub returns-then-s-lt64 : goal.returns-then-s-lt64
unfolding bodies ◌and◌
returns-then-s-lt64 c = grind (arith, nat_tests)

pub loop-k-init : goal.loop-k-init
loop-k-init c = search (right-none, rules)

pub returns-then-start-at : goal.returns-then-start-at
returns-then-start-at c = search (misplaced, rules)

pub returns-then-size-record_bytes-ne0 : goal.returns-then-size-record_bytes-ne0
returns-then-size-record_bytes-ne0 c = search (in-part, rules)

pub loop-k-preserved : goal.loop-k-preserved
loop-k-preserved c = search (right-more, rules)

pub returns : goal.returns
returns c = search (all_right, rules)
