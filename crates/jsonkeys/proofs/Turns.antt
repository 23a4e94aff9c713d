-- How an array or object begins, and what may follow a part
use Rattle.std.specs.Prelude.{Ok, Err}
use mathlib.Core.Path.{◌≡◌, refl, sym, ap, subst, ◌∙◌}
use mathlib.Core.Bool.{Bool, true, false}
use mathlib.Core.List.{List}
use Prim.Native.Nat.{ℕ, ◌+◌, ◌<◌, ◌≤◌}
use native.Mathlib.Omega.{arith}
use lib.Dec.{eqb}
use lib.ListN.{length, drop, get_or, length-drop, drop_of_length-le}
use borrow.Author.Tests.{eq-eqb, ne_eqb}
use Rattle.meaning.specs.Tests.{choose}
use Rattle.laws.specs.Tests.{yes, no as otherwise}
use Rattle.jsontext.specs.declared.Bad.{Bad}
use Rattle.jsontext.specs.declared.Fault.TheVariants.{NotJson}
use Rattle.jsontext.specs.Reading.{Read, got, no, blanks, wrong}
use Rattle.jsonread.specs.Told.{Lacks, Blanks}
use Rattle.jsonread.proofs.Places.{byte_at, lacks-here}
use Rattle.jsonkeys.specs.declared.Turn.TheVariants.{On, Over}
use Rattle.jsonkeys.specs.Keys.{opened, after, Comes, TurnTold}

-- ---- what a known turn tells

module _ {line : List ℕ} {from i : ℕ} {m : Read Bool} where
  told_on : Comes line from i false m → TurnTold line from m (Ok (On i))
  told_on t =
      record {
        on = λ k q. let z : i ≡ k = cc in subst (λ (k : ℕ). Comes line from k false m) z t;
        over = λ k q. absurd (let z : ◌≡◌ {A = ℕ} 0 1 = cc in omega arith);
        missing = λ k q. absurd (let z : ◌≡◌ {A = ℕ} 0 1 = cc in omega arith);
      }

  told_over : Comes line from i true m → TurnTold line from m (Ok (Over i))
  told_over t =
      record {
        on = λ k q. absurd (let z : ◌≡◌ {A = ℕ} 0 1 = cc in omega arith);
        over = λ k q. let z : i ≡ k = cc in subst (λ (k : ℕ). Comes line from k true m) z t;
        missing = λ k q. absurd (let z : ◌≡◌ {A = ℕ} 0 1 = cc in omega arith);
      }

  told-wrong : i ≤ length line → m ≡ no NotJson (drop i line) → TurnTold line from m (Err (wrong NotJson i))
  told-wrong h e =
      record {
        on = λ k q. absurd (let z : ◌≡◌ {A = ℕ} 0 1 = cc in omega arith);
        over = λ k q. absurd (let z : ◌≡◌ {A = ℕ} 0 1 = cc in omega arith);
        missing = λ b q. let z : wrong NotJson i ≡ b = cc in subst (λ (b : Bad). Lacks line b m) z (lacks-here h e);
      }

-- ---- the two turns

module _ (close : ℕ) {line : List ℕ} {at k : ℕ} (b : Blanks line at k) where
  pub begin_cut : length line ≤ k → TurnTold line at (opened close (blanks (drop at line))) (Err (wrong NotJson k))
  unfolding opened
  begin_cut l = told-wrong b.within (ap (opened close) (sym b.is) ∙ rw (drop_of_length-le line l))

  pub turn-cut : length line ≤ k → TurnTold line (at + 1) (after close (blanks (drop at line))) (Err (wrong NotJson k))
  unfolding after
  turn-cut l = told-wrong b.within (ap (after close) (sym b.is) ∙ rw (drop_of_length-le line l))

  module _ (h : k < length line) where
    opened-byte : opened close (blanks (drop at line)) ≡ choose (eqb (get_or line k 0) close) (got true (drop (k + 1) line)) (got false (drop k line))
    unfolding opened
    opened-byte = ap (opened close) (sym b.is) ∙ rw (byte_at line k h)

    after-byte : after close (blanks (drop at line)) ≡ choose (eqb (get_or line k 0) close) (got true (drop (k + 1) line)) (choose (eqb (get_or line k 0) 44) (got false (blanks (drop (k + 1) line))) (no NotJson (drop k line)))
    unfolding after
    after-byte = ap (after close) (sym b.is) ∙ rw (byte_at line k h)

    pub begin_over : get_or line k 0 ≡ close → TurnTold line at (opened close (blanks (drop at line))) (Ok (Over (k + 1)))
    begin_over e = told_over (record { from = omega (arith, b.from); within = omega arith; is = opened-byte ∙ yes _ (eq-eqb _ _ e) })

    pub begin_on : (get_or line k 0 ≡ close → ⊥) → TurnTold line at (opened close (blanks (drop at line))) (Ok (On k))
    begin_on n = told_on (record { from = b.from; within = b.within; is = opened-byte ∙ otherwise _ (ne_eqb _ _ n) refl })

    pub turn-over : get_or line k 0 ≡ close → TurnTold line (at + 1) (after close (blanks (drop at line))) (Ok (Over (k + 1)))
    turn-over e = told_over (record { from = omega (arith, b.from); within = omega arith; is = after-byte ∙ yes _ (eq-eqb _ _ e) })

    module _ (n : get_or line k 0 ≡ close → ⊥) where
      pub turn-wrong : (get_or line k 0 ≡ 44 → ⊥) → TurnTold line (at + 1) (after close (blanks (drop at line))) (Err (wrong NotJson k))
      turn-wrong m = told-wrong b.within (after-byte ∙ otherwise _ (ne_eqb _ _ n) (otherwise _ (ne_eqb _ _ m) refl))

      pub turn_on : {j : ℕ} → get_or line k 0 ≡ 44 → Blanks line (k + 1) j → TurnTold line (at + 1) (after close (blanks (drop at line))) (Ok (On j))
      turn_on e d = told_on (record { from = omega (arith, b.from, d.from); within = d.within; is = after-byte ∙ otherwise _ (ne_eqb _ _ n) (yes _ (eq-eqb _ _ e)) ∙ ap (got false) (sym d.is) })
