-- The fields of a point by their places in its record
use Rattle.std.specs.Prelude.{◌≡◌, List, [], ◌∷◌, ℕ, zero, suc, drop}
use Rattle.meaning.specs.Tests.{choose}
use Rattle.meaning.specs.Equal.{same_list}
use Rattle.jsontext.specs.declared.Fault.TheVariants.{BadField}
use Rattle.jsontext.specs.Reading.{Read, got, mapped}
use Rattle.jsontext.specs.Numbers.{number}
use Rattle.jsontext.specs.Strings.{string}
use Rattle.jsontext.specs.Values.{numeral, due, text, array, value, fields}
use Rattle.jsontext.specs.Events.{Field, Time, Namespace, Action, Kind, Logged, Context, Principal, Resource, Entities, listed}
use Rattle.jsonlines.specs.Entities.{entity_of}

abbrev pub «time» : List ℕ
«time» = 116 ∷ 105 ∷ 109 ∷ 101 ∷ []

abbrev pub «namespace» : List ℕ
«namespace» = 110 ∷ 97 ∷ 109 ∷ 101 ∷ 115 ∷ 112 ∷ 97 ∷ 99 ∷ 101 ∷ []

abbrev pub «action» : List ℕ
«action» = 97 ∷ 99 ∷ 116 ∷ 105 ∷ 111 ∷ 110 ∷ []

abbrev pub «kind» : List ℕ
«kind» = 107 ∷ 105 ∷ 110 ∷ 100 ∷ []

abbrev pub «logged» : List ℕ
«logged» = 108 ∷ 111 ∷ 103 ∷ 103 ∷ 101 ∷ 100 ∷ []

abbrev pub «context» : List ℕ
«context» = 99 ∷ 111 ∷ 110 ∷ 116 ∷ 101 ∷ 120 ∷ 116 ∷ []

abbrev pub «principal» : List ℕ
«principal» = 112 ∷ 114 ∷ 105 ∷ 110 ∷ 99 ∷ 105 ∷ 112 ∷ 97 ∷ 108 ∷ []

abbrev pub «resource» : List ℕ
«resource» = 114 ∷ 101 ∷ 115 ∷ 111 ∷ 117 ∷ 114 ∷ 99 ∷ 101 ∷ []

abbrev pub «entities» : List ℕ
«entities» = 101 ∷ 110 ∷ 116 ∷ 105 ∷ 116 ∷ 105 ∷ 101 ∷ 115 ∷ []

-- which one a name is; 9 for none
unfoldable pub field_of : List ℕ → ℕ
field_of n =
    choose (same_list «time» n) 0
    (choose (same_list «namespace» n) 1
    (choose (same_list «action» n) 2
    (choose (same_list «kind» n) 3
    (choose (same_list «logged» n) 4
    (choose (same_list «context» n) 5
    (choose (same_list «principal» n) 6
    (choose (same_list «resource» n) 7
    (choose (same_list «entities» n) 8 9))))))))

-- of a name that reads well
abbrev pub IfTold : List ℕ → ℕ → List ℕ → ℕ → ℕ → Type 0
IfTold line at word k r = (n rest : List ℕ) → string (drop at line) ≡ got n rest → r ≡ choose (same_list n word) k 9

abbrev pub FieldTold : List ℕ → ℕ → ℕ → Type 0
FieldTold line at r = (n rest : List ℕ) → string (drop at line) ≡ got n rest → r ≡ field_of n

-- how its value is read
unfoldable pub reader_at : ℕ → List ℕ → Read Field
reader_at zero s = mapped Time (due BadField numeral number s)
reader_at (suc zero) s = mapped Namespace (listed (array text) s)
reader_at (suc (suc zero)) s = mapped Action (text s)
reader_at (suc (suc (suc zero))) s = mapped Kind (text s)
reader_at (suc (suc (suc (suc zero)))) s = mapped Logged (fields 31 s)
reader_at (suc (suc (suc (suc (suc zero))))) s = mapped Context (fields 31 s)
reader_at (suc (suc (suc (suc (suc (suc zero)))))) s = mapped Principal (value 32 s)
reader_at (suc (suc (suc (suc (suc (suc (suc zero))))))) s = mapped Resource (value 32 s)
reader_at (suc (suc (suc (suc (suc (suc (suc (suc k)))))))) s = mapped Entities (listed (array entity_of) s)
