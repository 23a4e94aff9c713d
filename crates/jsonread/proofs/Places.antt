-- What is left of a line, byte by byte, and what is told of it
use Rattle.std.specs.Prelude.{Result, Ok, Err}
use Rattle.std.specs.Result.{IsErrAnd}
use Rattle.std.proofs.lemmas.Result.{err_from_is_err_and}
use mathlib.Core.Path.{◌≡◌, refl, sym, ap, subst, ◌∙◌}
use mathlib.Core.List.{List, ◌∷◌}
use Prim.Native.Nat.{ℕ, ◌+◌, ◌<◌, ◌≤◌}
use native.Mathlib.Numerals.{add-one}
use native.Mathlib.Omega.{arith}
use lib.ListN.{length, drop, get_or, length-drop}
use lib.Seq.{drop-cons}
use Rattle.jsontext.specs.declared.Fault.{Fault}
use Rattle.jsontext.specs.declared.Fault.TheVariants.{NotJson}
use Rattle.jsontext.specs.declared.Bad.{Bad}
use Rattle.jsontext.specs.Reading.{Read, got, then, no, wrong}
use Rattle.jsonread.specs.Told.{Stands, Faulty, Lacks, Told}

pub byte_at : (line : List ℕ) (at : ℕ) → at < length line → drop at line ≡ get_or line at 0 ∷ drop (at + 1) line
byte_at line at h = rw (add-one at) (drop-cons line at 0 h)

pub no-here : {A : Type 0} (w : Fault) (line : List ℕ) (at : ℕ) → at < length line → ◌≡◌ {A = Read A} (no w (get_or line at 0 ∷ drop (at + 1) line)) (no w (drop at line))
no-here {A} w line at h = ap (λ (s : List ℕ). no {A = A} w s) (sym (byte_at line at h))

-- ---- what a known step tells

pub told_at : {A : Type 0} {line : List ℕ} {at e : ℕ} {m : Read A} → Stands line at e m → Told line at (Ok e) m
told_at {line = line} {at = at} {e = e} {m = m} s =
    record {
      stands = λ k q. let z : e ≡ k = cc in subst (λ (k : ℕ). Stands line at k m) z s;
      faulty = λ b q. absurd (let z : ◌≡◌ {A = ℕ} 0 1 = cc in omega arith);
    }

pub told_bad : {A : Type 0} {line : List ℕ} {at : ℕ} {b : Bad} {m : Read A} → Faulty line b m → Told line at (Err b) m
told_bad {line = line} {b = b} {m = m} s =
    record {
      stands = λ k q. absurd (let z : ◌≡◌ {A = ℕ} 0 1 = cc in omega arith);
      faulty = λ v q. let z : b ≡ v = cc in subst (λ (v : Bad). Faulty line v m) z s;
    }

-- wrong where one stands
pub wrong-here : {A : Type 0} {line : List ℕ} {at k : ℕ} {w : Fault} {m : Read A} → at ≤ length line → m ≡ no w (drop at line) → Told line k (Err (wrong w at)) m
wrong-here {line = line} {at = at} h e = told_bad (record { place = h; first = h; is = e ∙ rw (length-drop at line) })

-- what is told of an equal reading, or from an earlier place, is told
pub told_of : {A : Type 0} {line : List ℕ} {at i : ℕ} {r : Result ℕ Bad} {m n : Read A} → at ≤ i → m ≡ n → Told line i r n → Told line at r m
told_of h q t =
    record {
      stands = λ e k. let s = t.stands e k in record { what = s.what; from = omega (arith, s.from); within = s.within; is = q ∙ s.is };
      faulty = λ b k. let s = t.faulty b k in record { place = s.place; first = s.first; is = q ∙ s.is };
    }

-- a fault stays one, whatever was to follow
pub fault-then : {A B : Type 0} {line : List ℕ} {b : Bad} {m : Read A} (f : A → List ℕ → Read B) → Faulty line b m → Faulty line b (then m f)
unfolding then
fault-then f t = record { place = t.place; first = t.first; is = rw t.is }

-- no JSON where one stands, and what is told of it on
pub lacks-here : {A : Type 0} {line : List ℕ} {at : ℕ} {m : Read A} → at ≤ length line → m ≡ no NotJson (drop at line) → Lacks line (wrong NotJson at) m
lacks-here {at = at} h e = record { alone = refl; faulty = record { place = h; first = h; is = e ∙ rw (length-drop at _) } }

pub lacks_of : {A : Type 0} {line : List ℕ} {b : Bad} {m n : Read A} → m ≡ n → Lacks line b n → Lacks line b m
lacks_of e t = record { alone = t.alone; faulty = record { place = t.faulty.place; first = t.faulty.first; is = e ∙ t.faulty.is } }

pub lacks-then : {A B : Type 0} {line : List ℕ} {b : Bad} {m : Read A} (f : A → List ℕ → Read B) → Lacks line b m → Lacks line b (then m f)
lacks-then f t = record { alone = t.alone; faulty = fault-then f t.faulty }

-- what `?` passes on is the fault that came
pub passed : {T : Type 0} {r : Result T Bad} {b : Bad} → IsErrAnd r (λ y. y ≡ b) → r ≡ Err b
passed {r = r} h = let p = err_from_is_err_and r h in p.1 ∙ ap Err p.2

-- what was read is given on
pub then_is : {A B : Type 0} {m : Read A} {a : A} {rest : List ℕ} (f : A → List ℕ → Read B) → m ≡ got a rest → then m f ≡ f a rest
unfolding then
then_is f e = rw e

pub told-within : {A : Type 0} {line : List ℕ} {at e : ℕ} {r : Result ℕ Bad} {m : Read A} → Told line at r m → r ≡ Ok e → e ≤ length line
told-within t q = (t.stands _ q).within

pub told-from : {A : Type 0} {line : List ℕ} {at e : ℕ} {r : Result ℕ Bad} {m : Read A} → Told line at r m → r ≡ Ok e → at ≤ e
told-from t q = (t.stands _ q).from
