-- A string escaped byte by byte, and between quotation marks
use Rattle.std.specs.Prelude.{◌≡◌, refl, Bool, true, false, List, [], ◌∷◌, ◌++◌, ℕ, ◌+◌, ◌/◌, ◌%◌, ◌<◌, ◌≤◌, eqb, length, take, drop, get_or}
use Rattle.std.proofs.Common.{sym, ap, ◌∙◌, append_assoc, append-nil, arith, add-one, length-append, take-append-drop, take_all, take-suc, lt-ltb, le-ltb, ne_eqb}
use Rattle.meaning.specs.Tests.{◌or◌}
use Rattle.laws.specs.Tests.{yes, no}
use Rattle.jsontrace.specs.Text.{hex_byte, escaped_byte, escaped, quoted}
use Rattle.jsonput.specs.Put.{Put, put-none, put_then, put_as}

-- ---- a digit

pub hex_low : (d : ℕ) → d < 10 → 48 + d ≡ hex_byte d
unfolding hex_byte
hex_low d h = sym (yes _ (lt-ltb d 10 h))

pub hex_high : (d : ℕ) → 10 ≤ d → 87 + d ≡ hex_byte d
unfolding hex_byte
hex_high d h = sym (no _ (le-ltb d 10 h) refl)

-- ---- one byte

-- below 32 there is neither mark
unmarked : (c : ℕ) → c < 32 → (eqb c 34 or eqb c 92) ≡ false
unfolding ◌or◌
unmarked c h = rw (ne_eqb c 34 (λ e. absurd (omega arith)), ne_eqb c 92 (λ e. absurd (omega arith))) refl

control : (c : ℕ) → c < 32 → escaped_byte c ≡ 92 ∷ 117 ∷ 48 ∷ 48 ∷ hex_byte (c / 16) ∷ hex_byte (c % 16) ∷ []
unfolding escaped_byte
control c h = no _ (unmarked c h) (yes _ (lt-ltb c 32 h))

pub control-long : (c : ℕ) → c < 32 → length (escaped_byte c) ≡ 6
control-long c h = ap length (control c h)

marked : (c : ℕ) → (eqb c 34 or eqb c 92) ≡ true → escaped_byte c ≡ 92 ∷ c ∷ []
unfolding escaped_byte
marked c h = yes _ h

pub marked-long : (c : ℕ) → (eqb c 34 or eqb c 92) ≡ true → length (escaped_byte c) ≡ 2
marked-long c h = ap length (marked c h)

itself : (c : ℕ) → (eqb c 34 or eqb c 92) ≡ false → 32 ≤ c → escaped_byte c ≡ c ∷ []
unfolding escaped_byte
itself c h l = no _ h (no _ (le-ltb c 32 l) refl)

pub itself-long : (c : ℕ) → (eqb c 34 or eqb c 92) ≡ false → 32 ≤ c → length (escaped_byte c) ≡ 1
itself-long c h l = ap length (itself c h l)

-- \u00 and the first digit
pub high-room : (d : List ℕ) {w : List ℕ} {at p : ℕ} → Put d w at (92 ∷ 117 ∷ 48 ∷ 48 ∷ []) p → at + 5 ≤ length d → p < length w
high-room d f room = omega (arith, f.end, f.long)

pub high-put : {d w w' : List ℕ} {at a p q : ℕ} (c : ℕ) → Put w w' p (a ∷ []) q → Put d w at (92 ∷ 117 ∷ 48 ∷ 48 ∷ []) p → at + 5 ≤ length d → a ≡ hex_byte (c / 16) → Put d w' at (92 ∷ 117 ∷ 48 ∷ 48 ∷ hex_byte (c / 16) ∷ []) q
high-put c g f room e = put_as (ap (λ (x : ℕ). 92 ∷ 117 ∷ 48 ∷ 48 ∷ x ∷ []) e) (put_then f g (omega arith))

pub control-room : (d : List ℕ) (at c : ℕ) → at + length (escaped_byte c) ≤ length d → c < 32 → at + 5 ≤ length d
control-room d at c room h = omega (arith, control-long c h)

pub low-room : (d : List ℕ) {w : List ℕ} {at p : ℕ} (c : ℕ) → Put d w at (92 ∷ 117 ∷ 48 ∷ 48 ∷ hex_byte (c / 16) ∷ []) p → at + length (escaped_byte c) ≤ length d → c < 32 → p < length w
low-room d c f room h = omega (arith, control-long c h, f.end, f.long)

pub control-put : {d w w' : List ℕ} {at b p q : ℕ} (c : ℕ) → Put w w' p (b ∷ []) q → Put d w at (92 ∷ 117 ∷ 48 ∷ 48 ∷ hex_byte (c / 16) ∷ []) p → at + length (escaped_byte c) ≤ length d → c < 32 → b ≡ hex_byte (c % 16) → Put d w' at (escaped_byte c) q
control-put c g f room h e =
    put_as (ap (λ (x : ℕ). 92 ∷ 117 ∷ 48 ∷ 48 ∷ hex_byte (c / 16) ∷ x ∷ []) e ∙ sym (control c h)) (put_then f g (omega arith))

pub marked-first : (d : List ℕ) (at c : ℕ) {r : Bool} → at + length (escaped_byte c) ≤ length d → r ≡ (eqb c 34 or eqb c 92) → r ≡ true → at < length d
marked-first d at c room e h = omega (arith, marked-long c (sym e ∙ h))

pub marked-second : (d : List ℕ) {w : List ℕ} {at p : ℕ} (c : ℕ) {r : Bool} → Put d w at (92 ∷ []) p → at + length (escaped_byte c) ≤ length d → r ≡ (eqb c 34 or eqb c 92) → r ≡ true → p < length w
marked-second d c f room e h = omega (arith, marked-long c (sym e ∙ h), f.end, f.long)

pub marked-put : {d w w' : List ℕ} {at p q : ℕ} (c : ℕ) {r : Bool} → Put w w' p (c ∷ []) q → Put d w at (92 ∷ []) p → at + length (escaped_byte c) ≤ length d → r ≡ (eqb c 34 or eqb c 92) → r ≡ true → Put d w' at (escaped_byte c) q
marked-put c g f room e h = put_as (sym (marked c (sym e ∙ h))) (put_then f g (omega arith))

pub itself-room : (d : List ℕ) (at c : ℕ) {r : Bool} → at + length (escaped_byte c) ≤ length d → r ≡ (eqb c 34 or eqb c 92) → r ≡ false → 32 ≤ c → at < length d
itself-room d at c room e h l = omega (arith, itself-long c (sym e ∙ h) l)

pub itself-put : {d w : List ℕ} {at p : ℕ} (c : ℕ) {r : Bool} → Put d w at (c ∷ []) p → r ≡ (eqb c 34 or eqb c 92) → r ≡ false → 32 ≤ c → Put d w at (escaped_byte c) p
itself-put c f e h l = put_as (sym (itself c (sym e ∙ h) l)) f

-- ---- a string

escaped-append : (t u : List ℕ) → escaped (t ++ u) ≡ escaped t ++ escaped u
unfolding escaped
escaped-append [] u = refl
escaped-append (c ∷ t) u = ap (λ (l : List ℕ). escaped_byte c ++ l) (escaped-append t u) ∙ sym (append_assoc (escaped_byte c) (escaped t) (escaped u))

pub escaped-step : (t : List ℕ) (i : ℕ) → i < length t → escaped (take (i + 1) t) ≡ escaped (take i t) ++ escaped_byte (get_or t i 0)
unfolding escaped
escaped-step t i h =
    ap (λ (k : ℕ). escaped (take k t)) (add-one i)
    ∙ ap escaped (take-suc t i 0 h)
    ∙ escaped-append (take i t) (get_or t i 0 ∷ [])
    ∙ ap (λ (l : List ℕ). escaped (take i t) ++ l) (append-nil (escaped_byte (get_or t i 0)))

escaped-most : (t : List ℕ) (i : ℕ) → length (escaped (take i t)) ≤ length (escaped t)
escaped-most t i =
    let whole : length (escaped t) ≡ length (escaped (take i t) ++ escaped (drop i t)) = ap length (ap escaped (sym (take-append-drop i t)) ∙ escaped-append (take i t) (drop i t)) in
    omega (arith, whole, length-append (escaped (take i t)) (escaped (drop i t)))

-- the first i bytes are put
pub record Escaping (d w : List ℕ) (at : ℕ) (t : List ℕ) (i next : ℕ) : Type 0 where
  pub low : i ≤ length t
  pub is : Put d w at (escaped (take i t)) next

pub escaping_none : (d : List ℕ) (at : ℕ) (t : List ℕ) → Escaping d d at t 0 at
unfolding escaped
escaping_none d at t = record { low = omega arith; is = put-none d at }

step-long : (t : List ℕ) (i : ℕ) → i < length t → length (escaped (take i t)) + length (escaped_byte (get_or t i 0)) ≤ length (escaped t)
step-long t i h = omega (arith, escaped-most t (i + 1), ap length (escaped-step t i h), length-append (escaped (take i t)) (escaped_byte (get_or t i 0)))

pub escaping_room : {d w t : List ℕ} {at i next : ℕ} → Escaping d w at t i next → i < length t → at + length (escaped t) ≤ length d → next + length (escaped_byte (get_or t i 0)) ≤ length w
escaping_room {d} {w} {t} {at} {i} {next} e h room = omega (arith, e.is.end, e.is.long, step-long t i h)

pub escaping_more : {d w w' t : List ℕ} {at i next next' : ℕ} → Escaping d w at t i next → i < length t → at + length (escaped t) ≤ length d → Put w w' next (escaped_byte (get_or t i 0)) next' → Escaping d w' at t (i + 1) next'
escaping_more {d} {w} {w'} {t} {at} {i} {next} {next'} e h room f = record {
  low = omega arith;
  is = put_as (sym (escaped-step t i h)) (put_then e.is f (omega arith));
}

pub escaping_all : {d w t : List ℕ} {at i next : ℕ} → Escaping d w at t i next → length t ≤ i → Put d w at (escaped t) next
escaping_all {d} {w} {t} {at} {i} {next} e h = put_as (ap escaped (take_all i t h)) e.is

-- ---- between quotation marks

pub quoted-long : (t : List ℕ) → length (quoted t) ≡ length (escaped t) + 2
unfolding quoted
quoted-long t = omega (arith, length-append (escaped t) (34 ∷ []))

pub opened-first : (d t : List ℕ) (at : ℕ) → at + length (34 ∷ escaped t) ≤ length d → at < length d
opened-first d t at room = omega arith

pub opened_inside : (d : List ℕ) {w : List ℕ} (t : List ℕ) {at p : ℕ} → Put d w at (34 ∷ []) p → at + length (34 ∷ escaped t) ≤ length d → p + length (escaped t) ≤ length w
opened_inside d t f room = omega (arith, f.end, f.long)

pub opened-put : {d w w' : List ℕ} (t : List ℕ) {at p q : ℕ} → Put w w' p (escaped t) q → Put d w at (34 ∷ []) p → at + length (34 ∷ escaped t) ≤ length d → Put d w' at (34 ∷ escaped t) q
opened-put t g f room = put_then f g (omega arith)

pub quoted-first : (d t : List ℕ) (at : ℕ) → at + length (quoted t) ≤ length d → at + length (34 ∷ escaped t) ≤ length d
quoted-first d t at room = omega (arith, quoted-long t)

pub quoted-last : (d : List ℕ) {w : List ℕ} (t : List ℕ) {at p : ℕ} → Put d w at (34 ∷ escaped t) p → at + length (quoted t) ≤ length d → p < length w
quoted-last d t f room = omega (arith, quoted-long t, f.end, f.long)

pub quoted-put : {d w w' : List ℕ} (t : List ℕ) {at p q : ℕ} → Put w w' p (34 ∷ []) q → Put d w at (34 ∷ escaped t) p → at + length (quoted t) ≤ length d → Put d w' at (quoted t) q
unfolding quoted
quoted-put t g f room = put_then f g (omega (arith, quoted-long t))
