-- A rule for each part of a list or a buffer that a call is lent, and for a call that there is room for
use Rattle.std.proofs.Common.{◌≡◌, ℕ, ◌*◌, ◌≤◌, Bool, true, false, not, leb, List, length, take, ◌∙◌, arith, length-take-le, leb-true}
use borrow.Author.Tests.{not-false}
use Rattle.replay.specs.declared.listed.Listed.{Listed}
use Rattle.replay.specs.Known.{Known}

-- ---- parts

-- the first of a list that has so many
pub first_of : {n room : ℕ} (l : List ℕ) → room ≡ length l → n ≤ room → length (take n l) ≡ n
first_of {n} l e h = length-take-le n l (omega arith)

-- the first of a buffer that was read into
pub first_read : {n room : ℕ} (l l' : List ℕ) → length l' ≡ length l → room ≡ length l → n ≤ room → length (take n l') ≡ n
first_read l l' same e h = first_of l' (e ∙ cc) h

-- a call's parts, read into a buffer
pub parts-read : {n : ℕ} (l l' : List ℕ) → length l' ≡ length l → 4096 ≡ length l → n ≤ 712 → length (take (4 * n) l') ≡ 4 * n
parts-read l l' same e h = first_read l l' same e (omega arith)

-- ---- a known call

pub known : {c : Listed} {r : Bool} → (r ≡ true → Known c) → not r ≡ false → Known c
known {r = r} h e = h (not-false r e)

pub known_by : {c : Listed} → c.kind ≤ 2 → c.refusal ≤ 13 → c.start ≤ 64 → c.binders ≤ 64 → c.workspace ≤ 1600 → c.output ≤ 1600 → leb c.filled 256 ≡ true → Known c
known_by k r s b w o f = record { kind = omega arith; refusal = omega arith; start = s; binders = b; workspace = w; output = o; filled = leb-true _ _ f }
