-- RFC 8259, section 7: strings; readings J7 and J10
use Rattle.std.specs.Prelude.{Bool, true, false, List, [], ◌∷◌, ◌++◌, ℕ, zero, suc, ◌+◌, ◌*◌, ◌-◌, ◌/◌, ◌%◌, eqb, ltb, length}
use Rattle.std.proofs.Math.Option.{Option, none, some}
use Rattle.meaning.specs.Tests.{◌and◌, choose, only_if, or_else, within}
use Rattle.meaning.specs.Text.{next, ended}
use Rattle.meaning.specs.declared.Due.{Due}
use Rattle.meaning.specs.declared.Due.TheVariants.{Nothing, One, Two, Three, AfterE0, AfterEd, AfterF0, AfterF4, Wrong}
use Rattle.jsontext.specs.declared.Fault.TheVariants.{NotJson}
use Rattle.jsontext.specs.Reading.{Read, got, fault, then, no, mapped, want, or_wrong}

-- HEXDIG, in either case
unfoldable pub hex_digit : ℕ → Option ℕ
hex_digit c = or_else (only_if (within 48 57 c) (c - 48)) (or_else (only_if (within 65 70 c) (c - 55)) (only_if (within 97 102 c) (c - 87)))

-- so many HEXDIG more, after some that say n
unfoldable pub hex_digits : ℕ → ℕ → List ℕ → Read ℕ
hex_digits zero n s = got n s
hex_digits (suc k) n [] = no NotJson []
hex_digits (suc k) n (c ∷ s) = or_wrong (hex_digit c) (c ∷ s) (λ d. hex_digits k (16 * n + d) s)

-- 4HEXDIG
abbrev pub hex4 : List ℕ → Read ℕ
hex4 s = hex_digits 4 0 s

-- a character in UTF-8 (RFC 3629, section 3)
unfoldable pub utf8_of : ℕ → List ℕ
utf8_of u =
    choose (ltb u 128) (u ∷ [])
    (choose (ltb u 2048) ((192 + u / 64) ∷ (128 + u % 64) ∷ [])
    (choose (ltb u 65536) ((224 + u / 4096) ∷ (128 + u / 64 % 64) ∷ (128 + u % 64) ∷ [])
    ((240 + u / 262144) ∷ (128 + u / 4096 % 64) ∷ (128 + u / 64 % 64) ∷ (128 + u % 64) ∷ [])))

-- halves of a character beyond 16 bits
unfoldable pub is_high : ℕ → Bool
is_high u = within 55296 56319 u

unfoldable pub is_low : ℕ → Bool
is_low u = within 56320 57343 u

unfoldable pub joined : ℕ → ℕ → ℕ
joined high low = 65536 + (high - 55296) * 1024 + (low - 56320)

-- 4HEXDIG of a low half
unfoldable pub low_unit : List ℕ → Read ℕ
low_unit s = then (hex4 s) λ low rest. choose (is_low low) (got low rest) (no NotJson rest)

-- an escaped low half, with its backslash
unfoldable pub low_half : List ℕ → Read ℕ
low_half s = then (want 92 s) λ b rest. then (want 117 rest) λ u rest. low_unit rest

-- a high half and what follows it; a half alone is wrong at its backslash, where `left` bytes were left
unfoldable pub pair : ℕ → ℕ → Read ℕ → Read (List ℕ)
pair left high (got low rest) = got (utf8_of (joined high low)) rest
pair left high (fault w l f) = fault NotJson left left

unfoldable pub character : ℕ → ℕ → List ℕ → Read (List ℕ)
character left u rest =
    choose (is_low u) (fault NotJson left left)
    (choose (is_high u) (pair left u (low_half rest)) (got (utf8_of u) rest))

-- %x22 / %x5C / %x2F / %x62 / %x66 / %x6E / %x72 / %x74: what each stands for
unfoldable pub simple : ℕ → Option ℕ
simple c =
    choose (eqb c 34) (some 34)
    (choose (eqb c 92) (some 92)
    (choose (eqb c 47) (some 47)
    (choose (eqb c 98) (some 8)
    (choose (eqb c 102) (some 12)
    (choose (eqb c 110) (some 10)
    (choose (eqb c 114) (some 13)
    (choose (eqb c 116) (some 9) none)))))))

-- escape ( .. / %x75 4HEXDIG ), after the backslash
unfoldable pub escape : List ℕ → Read (List ℕ)
escape [] = no NotJson []
escape (c ∷ s) =
    choose (eqb c 117) (then (hex4 s) λ u rest. character (suc (suc (length s))) u rest)
    (or_wrong (simple c) (c ∷ s) (λ b. got (b ∷ []) s))

unfoldable pub is_wrong : Due → Bool
is_wrong Nothing = false
is_wrong One = false
is_wrong Two = false
is_wrong Three = false
is_wrong AfterE0 = false
is_wrong AfterEd = false
is_wrong AfterF0 = false
is_wrong AfterF4 = false
is_wrong Wrong = true

-- *char quotation-mark, where d is due of a character in UTF-8; each turn takes a byte at least, so that more turns than bytes suffice
unfoldable pub chars : ℕ → Due → List ℕ → Read (List ℕ)
chars zero d s = no NotJson s
chars (suc turns) d [] = no NotJson []
chars (suc turns) d (c ∷ s) =
    choose (ended d and eqb c 34) (got [] s)
    (choose (ended d and eqb c 92) (then (escape s) λ b rest. mapped (λ t. b ++ t) (chars turns Nothing rest))
    (choose (ended d and ltb c 32) (no NotJson (c ∷ s))
    (choose (is_wrong (next d c)) (no NotJson (c ∷ s)) (mapped (λ t. c ∷ t) (chars turns (next d c) s)))))

-- string = quotation-mark *char quotation-mark
unfoldable pub string : List ℕ → Read (List ℕ)
string s = then (want 34 s) λ q rest. chars (suc (length rest)) Nothing rest
