-- Strings as bytes: their order, bytes that do not occur, and UTF-8
use Rattle.std.specs.Prelude.{Bool, true, false, not, List, [], ◌∷◌, ℕ, leb, ltb, eqb}
use Rattle.meaning.specs.declared.Due.{Due}
use Rattle.meaning.specs.declared.Due.TheVariants.{Nothing, One, Two, Three, AfterE0, AfterEd, AfterF0, AfterF4, Wrong}
use Rattle.meaning.specs.Tests.{◌and◌, ◌or◌, choose}

-- unsigned byte order, a prefix first
unfoldable pub before : List ℕ → List ℕ → Bool
before [] [] = false
before [] (b ∷ t) = true
before (a ∷ s) [] = false
before (a ∷ s) (b ∷ t) = ltb a b or (eqb a b and before s t)

-- a byte does not occur
unfoldable pub free : ℕ → List ℕ → Bool
free b [] = true
free b (a ∷ s) = not (eqb a b) and free b s

-- UTF-8 (RFC 3629, section 4): what is due after a byte. A first byte says how many follow; after E0, ED, F0 and F4 the next has a narrower range
unfoldable pub first : ℕ → Due
first b =
    choose (ltb b 128) Nothing
    (choose (ltb b 194) Wrong
    (choose (ltb b 224) One
    (choose (ltb b 225) AfterE0
    (choose (ltb b 237) Two
    (choose (ltb b 238) AfterEd
    (choose (ltb b 240) Two
    (choose (ltb b 241) AfterF0
    (choose (ltb b 244) Three
    (choose (ltb b 245) AfterF4 Wrong)))))))))

unfoldable pub follow : ℕ → ℕ → Due → ℕ → Due
follow low high then b = choose (ltb b low) Wrong (choose (leb b high) then Wrong)

unfoldable pub next : Due → ℕ → Due
next Nothing b = first b
next One b = follow 128 191 Nothing b
next Two b = follow 128 191 One b
next Three b = follow 128 191 Two b
next AfterE0 b = follow 160 191 One b
next AfterEd b = follow 128 159 One b
next AfterF0 b = follow 144 191 Two b
next AfterF4 b = follow 128 143 Two b
next Wrong b = Wrong

unfoldable pub ended : Due → Bool
ended Nothing = true
ended One = false
ended Two = false
ended Three = false
ended AfterE0 = false
ended AfterEd = false
ended AfterF0 = false
ended AfterF4 = false
ended Wrong = false

unfoldable pub utf8 : Due → List ℕ → Bool
utf8 d [] = ended d
utf8 d (b ∷ s) = utf8 (next d b) s
