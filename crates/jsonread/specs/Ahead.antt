-- What a look ahead makes of a byte
use Rattle.std.specs.Prelude.{◌≡◌, List, [], ◌∷◌, ℕ, eqb, drop}
use Rattle.meaning.specs.Tests.{◌and◌, ◌or◌, choose}
use Rattle.jsontext.specs.declared.Form.{Form}
use Rattle.jsontext.specs.declared.Form.TheVariants.{Plain}
use Rattle.jsontext.specs.declared.Side.{Side}
use Rattle.jsontext.specs.declared.Side.TheVariants.{Outside, Inside, Escaped}
use Rattle.jsontext.specs.Reading.{got}
use Rattle.jsontext.specs.Strings.{string}
use Rattle.jsontext.specs.Values.{closes_first, form_named}
use Rattle.jsonread.specs.declared.forms.Sign.{Sign}
use Rattle.jsonread.specs.declared.forms.Sign.TheVariants.{Quotes, Opens, Closes, Comma, Other}

unfoldable pub sign_of : ℕ → Sign
sign_of c =
    choose (eqb c 34) Quotes
    (choose (eqb c 123 or eqb c 91) Opens
    (choose (eqb c 125 or eqb c 93) Closes
    (choose (eqb c 44) Comma Other)))

unfoldable pub inside_after : ℕ → Side
inside_after c = choose (eqb c 34) Outside (choose (eqb c 92) Escaped Inside)

-- of a name that reads well: the form that it names
abbrev pub NamedTold : List ℕ → ℕ → Form → Type 0
NamedTold line at r = (n rest : List ℕ) → string (drop at line) ≡ got n rest → r ≡ form_named n

-- after a first name that names a form: that form, if it is the only name
unfoldable pub only_form : Form → List ℕ → Form
only_form f [] = Plain
only_form f (c ∷ s) = choose (eqb c 58 and closes_first Outside 0 s) f Plain
