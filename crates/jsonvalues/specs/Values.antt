-- The members of an object that is a value
use Rattle.std.specs.Prelude.{◌≡◌, true, List, ℕ, Result, Ok, Err}
use Rattle.jsontext.specs.declared.Bad.{Bad}
use Rattle.jsontext.specs.Reading.{Read}
use Rattle.jsontext.specs.Values.{J, object, value}
use Rattle.jsonmarks.specs.Marks.{Below}
use Rattle.jsonkeys.specs.Keys.{MemberIs, MemberWrong}

-- whatever their names, after the brace, with so many levels left for their values
unfoldable pub members_of : ℕ → List ℕ → Read (List (List ℕ × J))
members_of levels s = object (λ n. true) (λ n t. value levels t) s

pub record MemberTold (line names last : List ℕ) (first end levels at : ℕ) (r : Result ℕ Bad) : Type 0 where
  pub below : Below line first names last
  pub read : (e : ℕ) → r ≡ Ok e → MemberIs (λ n. true) (λ n t. value levels t) line names last first end at e
  pub wrong : (b : Bad) → r ≡ Err b → MemberWrong (λ n. true) (λ n t. value levels t) line names last first end at b
