-- The digest of a name goes by the bytes that it stands for
use Rattle.std.specs.Prelude.{Option, Some, None}
use mathlib.Core.Path.{◌≡◌, refl, sym, ap, ◌∙◌}
use mathlib.Core.List.{List, [], ◌∷◌}
use Prim.Native.Nat.{ℕ, ◌+◌, ◌*◌, ◌%◌, ◌<◌}
use native.Mathlib.Omega.{arith}
use Rattle.jsonread.specs.declared.names.Cursor.{Cursor}
use Rattle.jsonread.specs.Spelling.{NextTold}
use Rattle.jsonread.proofs.Spelling.{spelt-string}
use Rattle.jsonmarks.specs.Marks.{digest_from, DigestTold, Digesting}

pub digest_start : (line : List ℕ) (at : ℕ) → Digesting line at (record { at = at + 1; character = 0; left = 0 }) 0
digest_start line at = record { below = omega arith; goes = λ n rest e. record { bytes = n; spelt = spelt-string line at e; is = refl } }

digest_none : (d : ℕ) → digest_from d [] ≡ d
unfolding digest_from
digest_none d = refl

digest_byte : (d b : ℕ) (s : List ℕ) → digest_from d (b ∷ s) ≡ digest_from ((d * 1000003 + b) % 1099511627776) s
unfolding digest_from
digest_byte d b s = refl

module _ {line : List ℕ} {at d : ℕ} {x : Cursor} {r : Option (ℕ × Cursor)} (g : Digesting line at x d) (t : NextTold line x r) where
  pub digest_ended : r ≡ None → DigestTold line at d
  digest_ended q =
      record {
        below = g.below;
        is = λ n rest e. let m = g.goes n rest e in sym (m.is ∙ ap (digest_from d) (t.ended q _ m.spelt) ∙ digest_none d);
      }

  pub digest_on : {b : ℕ} {k : Cursor} → r ≡ Some (b, k) → Digesting line at k ((d * 1000003 + b) % 1099511627776)
  digest_on {b} {k} q =
      record {
        below = omega arith;
        goes =
            λ n rest e.
            let m = g.goes n rest e in
            let y = t.yields _ _ q _ m.spelt in
            record { bytes = y.others; spelt = y.spelt; is = m.is ∙ ap (digest_from d) y.is ∙ digest_byte d b y.others };
      }

pub digest_small : {line : List ℕ} {at d : ℕ} {x : Cursor} → Digesting line at x d → d < 1099511627776
digest_small g = g.below
