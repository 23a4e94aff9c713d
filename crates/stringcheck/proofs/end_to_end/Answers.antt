use Rattle.std.proofs.Common.{rules}
use Prim.Native.Nat.{◌+◌, ◌<◌, ◌≤◌, ℕ}
use borrow.Author.Tests.{eq-eqb, le-leb, lt-leb, ne_eqb}
use lib.Dec.{eqb}
use mathlib.Core.Bool.{false}
use mathlib.Core.List.{List}
use mathlib.Core.Path.{◌∙◌, ◌≡◌, refl, sym}
use native.Mathlib.Numerals.{add-one}
use native.Mathlib.Omega.{arith}
use Rattle.meaning.specs.Case.{size, string_word, strings}
use Rattle.meaning.specs.Check.{end_before, end_to_end, place_rule}
use Rattle.laws.specs.Bodies.{long}
use Rattle.laws.specs.Tests.{all_more, all-stop, pass, skip, stop}
use Rattle.meaning.specs.Tests.{◌and◌, all_below}
use Rattle.stringcheck.proofs.end_to_end.Invariants.{Placed}
use Rattle.stringcheck.proofs.end_to_end.Goals as goal

placed-none : {s : List ℕ} {room n : ℕ} → room ≡ size s 6 → room < 4294967296 → Placed s n room 0 0
unfolding end_before all_below
placed-none e h = record { low = omega arith; text = e; near = omega arith; inside = omega arith; last = refl; passed = refl }

module _ {s : List ℕ} {n room at k : ℕ} (i : Placed s n room at k) (strs : n ≡ strings s) where
  all_placed : n ≤ k → eqb at room ≡ end_to_end s
  unfolding end_to_end ◌and◌
  all_placed h =
      let e : k ≡ strings s = omega (arith, i.low) in
      simp (rw e at i.passed, rw e at i.last, i.text)

  module _ (lt : k < n) where
    bad : place_rule s k ≡ false → false ≡ end_to_end s
    unfolding end_to_end
    bad f = sym (stop _ (all-stop (place_rule s) (strings s) k (omega arith) f))

    module _ {begin : ℕ} (eb : begin ≡ string_word s k 0) where
      misplaced : (begin ≡ at → ⊥) → false ≡ end_to_end s
      unfolding place_rule
      misplaced f = bad (stop _ (ne_eqb _ _ (λ q. f (eb ∙ q ∙ sym i.last))))

      past : {bytes : ℕ} → begin ≡ at → bytes ≡ string_word s k 1 → room < at + bytes → false ≡ end_to_end s
      unfolding place_rule
      past here el l = bad (skip _ (lt-leb (string_word s k 0 + string_word s k 1) (size s 6) (omega (arith, i.text))))

placed-more : {s : List ℕ} {n room at k begin bytes : ℕ} → Placed s n room at k → k < n → begin ≡ at → begin ≡ string_word s k 0 → bytes ≡ string_word s k 1 → at + bytes ≤ room → Placed s n room (at + bytes) (k + 1)
unfolding place_rule end_before
placed-more {s} {k = k} i lt here eb el l =
    record {
      low = omega arith;
      text = i.text;
      near = i.near;
      inside = l;
      last = rw (add-one k, sym here, eb, el) refl;
      passed = all_more _ k i.passed (pass (eq-eqb _ _ (sym eb ∙ here ∙ i.last)) (le-leb (string_word s k 0 + string_word s k 1) (size s 6) (omega (arith, i.text))));
    }

pub size_of-room-requires-clause-in_bounds : goal.size_of-room-requires-clause-in_bounds
size_of-room-requires-clause-in_bounds c = search (long, rules)

pub loop-k-init : goal.loop-k-init
loop-k-init c = search (placed-none, rules)

pub returns-then-string_word-at : goal.returns-then-string_word-at
returns-then-string_word-at c = search (misplaced, rules)

pub returns-then-room-at : goal.returns-then-room-at
returns-then-room-at c = search (past, rules)

pub loop-k-preserved : goal.loop-k-preserved
loop-k-preserved c = search (placed-more, rules)

pub returns : goal.returns
returns c = search (all_placed, rules)
