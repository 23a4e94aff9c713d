-- What is left of a line after a byte that was due, and after a string: at least one byte less, and two
use Rattle.std.specs.Prelude.{Result, Ok}
use mathlib.Core.Path.{◌≡◌, refl}
use mathlib.Core.Bool.{Bool, true, false}
use mathlib.Core.List.{List, [], ◌∷◌, ◌++◌}
use mathlib.Core.Option.{Option, none, some}
use Prim.Native.Nat.{ℕ, zero, suc, ◌+◌, ◌*◌, ◌-◌, ◌<◌, ◌≤◌}
use native.Mathlib.Omega.{arith}
use lib.Dec.{eqb, ltb}
use lib.ListN.{length, drop, length-drop}
use Rattle.meaning.specs.Tests.{◌and◌, choose}
use Rattle.meaning.specs.Text.{next, ended}
use Rattle.meaning.specs.declared.Due.{Due}
use Rattle.meaning.specs.declared.Due.TheVariants.{Nothing}
use Rattle.jsontext.specs.declared.Fault.{Fault}
use Rattle.jsontext.specs.declared.Fault.TheVariants.{NotJson}
use Rattle.jsontext.specs.declared.Bad.{Bad}
use Rattle.jsontext.specs.Reading.{Read, got, fault, then, mapped, want, or_wrong}
use Rattle.jsontext.specs.Strings.{hex_digit, hex_digits, hex4, utf8_of, is_high, is_low, joined, low_unit, low_half, pair, character, simple, escape, is_wrong, chars, string}
use Rattle.jsonread.specs.Told.{Told}

-- where something is read, fewer than k bytes are left
abbrev Leaves : {A : Type 0} → ℕ → Read A → Type 0
Leaves {A} k m = (a : A) (rest : List ℕ) → m ≡ got a rest → length rest < k

leaves-got : {A : Type 0} {k : ℕ} (a : A) (s : List ℕ) → length s < k → Leaves k (got a s)
leaves-got a s h b rest e = let z : s ≡ rest = cc in rw z at h

leaves-fault : {A : Type 0} {k : ℕ} (w : Fault) (p q : ℕ) → Leaves {A = A} k (fault w p q)
leaves-fault w p q a rest e = absurd (let z : ◌≡◌ {A = ℕ} 0 1 = cc in omega arith)

leaves-then : {A B : Type 0} {k j : ℕ} (m : Read A) {f : A → List ℕ → Read B} → Leaves k m → ((a : A) (rest : List ℕ) → length rest < k → Leaves j (f a rest)) → Leaves j (then m f)
unfolding then
leaves-then (got a rest) h g = g a rest (h a rest refl)
leaves-then (fault w p q) h g = leaves-fault w p q

leaves-mapped : {A B : Type 0} {k : ℕ} (m : Read A) (f : A → B) → Leaves k m → Leaves k (mapped f m)
leaves-mapped m f h = leaves-then m h (λ a rest l. leaves-got (f a) rest l)

leaves-choose : {A : Type 0} {k : ℕ} (b : Bool) {m n : Read A} → Leaves k m → Leaves k n → Leaves k (choose b m n)
unfolding choose
leaves-choose true h g = h
leaves-choose false h g = g

leaves_or : {A B : Type 0} {k : ℕ} (o : Option A) (s : List ℕ) {f : A → Read B} → ((a : A) → Leaves k (f a)) → Leaves k (or_wrong o s f)
unfolding or_wrong
leaves_or none s g = leaves-fault NotJson (length s) (length s)
leaves_or (some a) s g = g a

want-leaves : {k : ℕ} (b : ℕ) (s : List ℕ) → length s ≤ k → Leaves k (want b s)
unfolding want
want-leaves b [] h = leaves-fault NotJson 0 0
want-leaves b (c ∷ s) h = leaves-choose (eqb c b) (leaves-got c s (omega arith)) (leaves-fault NotJson (length (c ∷ s)) (length (c ∷ s)))

hex_leaves : {k : ℕ} (d n : ℕ) (s : List ℕ) → length s < k → Leaves k (hex_digits d n s)
unfolding hex_digits
hex_leaves zero n s h = leaves-got n s h
hex_leaves (suc d) n [] h = leaves-fault NotJson 0 0
hex_leaves (suc d) n (c ∷ s) h = leaves_or (hex_digit c) (c ∷ s) (λ x. hex_leaves d (16 * n + x) s (omega arith))

low-leaves : {k : ℕ} (s : List ℕ) → length s < k → Leaves k (low_half s)
unfolding low_half low_unit
low-leaves {k = k} s h = leaves-then (want 92 s) (want-leaves {k = k} 92 s (omega arith)) (λ b r l. leaves-then (want 117 r) (want-leaves {k = k} 117 r (omega arith)) (λ u t j. leaves-then (hex4 t) (hex_leaves {k = k} 4 0 t j) (λ low rest g. leaves-choose (is_low low) (leaves-got low rest g) (leaves-fault NotJson (length rest) (length rest)))))

pair-leaves : {k : ℕ} (left high : ℕ) (m : Read ℕ) → Leaves k m → Leaves k (pair left high m)
unfolding pair
pair-leaves left high (got low rest) h = leaves-got (utf8_of (joined high low)) rest (h low rest refl)
pair-leaves left high (fault w p q) h = leaves-fault NotJson left left

character-leaves : {k : ℕ} (left u : ℕ) (s : List ℕ) → length s < k → Leaves k (character left u s)
unfolding character
character-leaves left u s h = leaves-choose (is_low u) (leaves-fault NotJson left left) (leaves-choose (is_high u) (pair-leaves left u (low_half s) (low-leaves s h)) (leaves-got (utf8_of u) s h))

escape-leaves : {k : ℕ} (s : List ℕ) → length s < k → Leaves k (escape s)
unfolding escape
escape-leaves [] h = leaves-fault NotJson 0 0
escape-leaves {k = k} (c ∷ s) h = leaves-choose (eqb c 117) (leaves-then (hex4 s) (hex_leaves {k = k} 4 0 s (omega arith)) (λ u rest l. character-leaves (suc (suc (length s))) u rest l)) (leaves_or (simple c) (c ∷ s) (λ b. leaves-got (b ∷ []) s (omega arith)))

chars-leaves : {k : ℕ} (turns : ℕ) (d : Due) (s : List ℕ) → length s ≤ k → Leaves k (chars turns d s)
unfolding chars
chars-leaves zero d s h = leaves-fault NotJson (length s) (length s)
chars-leaves (suc turns) d [] h = leaves-fault NotJson 0 0
chars-leaves {k = k} (suc turns) d (c ∷ s) h =
    leaves-choose (ended d and eqb c 34) (leaves-got [] s (omega arith))
    (leaves-choose (ended d and eqb c 92) (leaves-then (escape s) (escape-leaves {k = k} s (omega arith)) (λ b rest l. leaves-mapped (chars turns Nothing rest) (λ t. b ++ t) (chars-leaves turns Nothing rest (omega arith))))
    (leaves-choose (ended d and ltb c 32) (leaves-fault NotJson (length (c ∷ s)) (length (c ∷ s)))
    (leaves-choose (is_wrong (next d c)) (leaves-fault NotJson (length (c ∷ s)) (length (c ∷ s))) (leaves-mapped (chars turns (next d c) s) (λ t. c ∷ t) (chars-leaves turns (next d c) s (omega arith))))))

string-leaves : {k : ℕ} (s : List ℕ) → length s ≤ suc k → Leaves k (string s)
unfolding string
string-leaves {k = k} s h = leaves-then (want 34 s) (want-leaves {k = suc k} 34 s h) (λ q rest l. chars-leaves (suc (length rest)) Nothing rest (omega arith))

-- ---- on a line

-- one byte at least
pub want-takes : {line : List ℕ} {at e : ℕ} (b : ℕ) {r : Result ℕ Bad} → Told line at r (want b (drop at line)) → r ≡ Ok e → at < e
want-takes {line} {at} {e} b t q = omega (arith, length-drop at line, length-drop e line, want-leaves {k = length (drop at line)} b (drop at line) (omega arith) _ (drop e line) (t.stands e q).is)

-- two bytes at least
pub string-takes : (line : List ℕ) (at e : ℕ) {n : List ℕ} → string (drop at line) ≡ got n (drop e line) → at + 2 ≤ e
string-takes line at e {n} q = omega (arith, length-drop at line, length-drop e line, string-leaves {k = length (drop at line) - 1} (drop at line) (omega arith) n (drop e line) q)
