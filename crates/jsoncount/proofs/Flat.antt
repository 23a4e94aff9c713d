-- A value that holds no other is one value, and a string one string more
use mathlib.Core.Path.{◌≡◌, refl, sym, ap, ◌∙◌}
use mathlib.Core.Bool.{Bool, true, false}
use mathlib.Core.List.{List, [], ◌∷◌}
use Prim.Native.Nat.{ℕ, ◌+◌, ◌<◌}
use native.Mathlib.Omega.{arith}
use lib.Dec.{eqb}
use lib.ListN.{length, drop, get_or, length-drop}
use borrow.Author.Tests.{eq-eqb, ne_eqb}
use Rattle.meaning.specs.Tests.{choose}
use Rattle.laws.specs.Tests.{yes, no as otherwise}
use Rattle.jsontext.specs.declared.Fault.TheVariants.{NotJson}
use Rattle.jsontext.specs.Reading.{got, no, mapped, want}
use Rattle.jsontext.specs.Numbers.{number}
use Rattle.jsontext.specs.Strings.{string}
use Rattle.jsontext.specs.Values.{J, Null, Truth, Int, Text, numeral, spelt}
use Rattle.jsonread.proofs.Places.{byte_at}
use Rattle.jsonread.proofs.Spelling.{never, came}
use Rattle.jsonparts.specs.Flat.{scalar}
use Rattle.jsontrace.specs.Count.{a_string, a_value, counted}
use Rattle.jsonruns.specs.Good.{Good, Ends}
use Rattle.jsonruns.proofs.Runs.{then_of}
use Rattle.jsoncount.specs.declared.tallies.Tally.{Tally}
use Rattle.jsoncount.specs.Tally.{Adds, CountedTo}
use Rattle.jsoncount.proofs.Sums.{adds-as}
use Rattle.jsoncount.proofs.Looping.{good-from, counted-from, counted-more}

-- a word that was read says what it is read as
pub spelt-says : (bs : List ℕ) (j : J) (s : List ℕ) {k : J} {rest : List ℕ} → spelt bs j s ≡ got k rest → k ≡ j
unfolding spelt
spelt-says [] j s e = cc
spelt-says (b ∷ bs) j s e = let n = then_of (want b s) e in spelt-says bs j n.left n.next

scalar-there : (s : List ℕ) {j : J} {rest : List ℕ} → scalar s ≡ got j rest → 0 < length s
unfolding scalar
scalar-there [] e = absurd (never e)
scalar-there (c ∷ s) e = omega arith

-- no string, so one value
flat-counts : (s : List ℕ) (c : ℕ) {j : J} {rest : List ℕ} → (c ≡ 34 → ⊥) → scalar (c ∷ s) ≡ got j rest → a_value ≡ counted j
unfolding scalar choose counted
flat-counts s c {j} {rest} n e =
    first (eqb c 116) (eqb c 102) (eqb c 110) (numeral c) (sym (otherwise _ (ne_eqb c 34 n) refl) ∙ e)
  where
    first : (x y z w : Bool) → choose x (spelt (116 ∷ 114 ∷ 117 ∷ 101 ∷ []) (Truth true) (c ∷ s)) (choose y (spelt (102 ∷ 97 ∷ 108 ∷ 115 ∷ 101 ∷ []) (Truth false) (c ∷ s)) (choose z (spelt (110 ∷ 117 ∷ 108 ∷ 108 ∷ []) Null (c ∷ s)) (choose w (mapped Int (number (c ∷ s))) (no NotJson (c ∷ s))))) ≡ got j rest → a_value ≡ counted j
    first true y z w f = rw (spelt-says (116 ∷ 114 ∷ 117 ∷ 101 ∷ []) (Truth true) (c ∷ s) f)
    first false true z w f = rw (spelt-says (102 ∷ 97 ∷ 108 ∷ 115 ∷ 101 ∷ []) (Truth false) (c ∷ s) f)
    first false false true w f = rw (spelt-says (110 ∷ 117 ∷ 108 ∷ 108 ∷ []) Null (c ∷ s) f)
    first false false false true f = rw (came Int (number (c ∷ s)) f).makes
    first false false false false f = absurd (never f)

module _ {line : List ℕ} {at : ℕ} (g : Good line at (scalar (drop at line))) where
  pub flat-below : at < length line
  flat-below = omega (arith, length-drop at line, scalar-there (drop at line) g.is)

  module _ (q : get_or line at 0 ≡ 34) where
    pub text-is : scalar (drop at line) ≡ mapped Text (string (drop at line))
    unfolding scalar
    text-is = rw (byte_at line at flat-below) (yes _ (eq-eqb _ _ q))

    pub text-good : Good line at (string (drop at line))
    text-good = good-from Text text-is g.within g

    pub text-counted : {t u v : Tally} {k : ℕ} → CountedTo line at t u k (string (drop at line)) a_string → Adds u a_value v → CountedTo line at t v k (scalar (drop at line)) counted
    unfolding counted
    text-counted p l = counted-from Text text-is (omega arith) (λ a. refl) (counted-more p l)

  pub flat-counted : (get_or line at 0 ≡ 34 → ⊥) → {e : ℕ} {t v : Tally} → Ends line at e (scalar (drop at line)) → Adds t a_value v → CountedTo line at t v e (scalar (drop at line)) counted
  flat-counted n p l = record {
    from = p.from;
    within = p.within;
    is = p.is;
    adds = λ what rest f. adds-as (flat-counts (drop (at + 1) line) (get_or line at 0) n (sym (ap scalar (byte_at line at flat-below)) ∙ f)) l;
  }
