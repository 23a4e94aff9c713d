-- Values that hold no other
use Rattle.std.specs.Prelude.{true, false, List, [], ◌∷◌, ℕ, eqb}
use Rattle.meaning.specs.Tests.{choose}
use Rattle.jsontext.specs.declared.Fault.TheVariants.{NotJson}
use Rattle.jsontext.specs.Reading.{Read, no, mapped}
use Rattle.jsontext.specs.Numbers.{number}
use Rattle.jsontext.specs.Strings.{string}
use Rattle.jsontext.specs.Values.{J, Null, Truth, Int, Text, numeral, spelt}

-- a value that holds no other: string, true, false, null, number
unfoldable pub scalar : List ℕ → Read J
scalar [] = no NotJson []
scalar (c ∷ s) =
    choose (eqb c 34) (mapped Text (string (c ∷ s)))
    (choose (eqb c 116) (spelt (116 ∷ 114 ∷ 117 ∷ 101 ∷ []) (Truth true) (c ∷ s))
    (choose (eqb c 102) (spelt (102 ∷ 97 ∷ 108 ∷ 115 ∷ 101 ∷ []) (Truth false) (c ∷ s))
    (choose (eqb c 110) (spelt (110 ∷ 117 ∷ 108 ∷ 108 ∷ []) Null (c ∷ s))
    (choose (numeral c) (mapped Int (number (c ∷ s))) (no NotJson (c ∷ s))))))
