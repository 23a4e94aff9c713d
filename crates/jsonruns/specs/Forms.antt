-- Cedar's forms, an entity (false) or an extension (true): the two strings that a good one holds
use Rattle.std.specs.Prelude.{◌≡◌, Bool, true, false, List, ℕ, ◌≤◌, Option, Some, None, length, drop}
use Rattle.std.proofs.Math.Option.{some}
use Rattle.meaning.specs.Tests.{◌or◌, choose}
use Rattle.meaning.specs.Equal.{same_list}
use Rattle.jsontext.specs.Reading.{Read, got, then}
use Rattle.jsontext.specs.Strings.{string}
use Rattle.jsontext.specs.Values.{J, EntityOf, Decimal, text, object, member_of, «type», «id», «fn», «arg», both, argument, entity, extension, only}
use Rattle.jsonruns.specs.declared.Two.{Two}

-- after the brace
unfoldable pub form_read : Bool → List ℕ → Read J
form_read false s = only entity s
form_read true s = only extension s

-- the two names, what stands under them, and what is made of it
unfoldable pub first_name : Bool → List ℕ
first_name false = «type»
first_name true = «fn»

unfoldable pub second_name : Bool → List ℕ
second_name false = «id»
second_name true = «arg»

unfoldable pub one_of : Bool → List ℕ → Bool
one_of x n = same_list n (first_name x) or same_list n (second_name x)

unfoldable pub under : Bool → List ℕ → List ℕ → Read (List ℕ)
under false n s = text s
under true n s = argument n s

unfoldable pub form_of : Bool → List ℕ → List ℕ → J
form_of false a b = EntityOf a b
form_of true a b = Decimal b

-- the two members, after the inner brace
unfoldable pub pair_read : Bool → List ℕ → Read J
pair_read x s = then (object (one_of x) (under x) s) λ ms rest. both (form_of x) (member_of (first_name x) ms) (member_of (second_name x) ms) rest

-- a string that reads well stands at p and says n
pub record Says (line : List ℕ) (p : ℕ) (n : List ℕ) : Type 0 where
  pub rest : List ℕ
  pub within : p ≤ length line
  pub is : string (drop p line) ≡ got n rest

pub record TwoIs (line : List ℕ) (x : Bool) (r : Two) (j : J) : Type 0 where
  pub one : List ℕ
  pub other : List ℕ
  pub is : j ≡ form_of x one other
  pub first : Says line r.first one
  pub second : Says line r.second other

-- of a form that reads well: its strings, and where it ends
pub record TwoTold (line : List ℕ) (at : ℕ) (x : Bool) (r : Two) (m : Read J) : Type 0 where
  pub from : at ≤ r.end
  pub within : r.end ≤ length line
  pub is : (j : J) (rest : List ℕ) → m ≡ got j rest → rest ≡ drop r.end line
  pub two : (j : J) (rest : List ℕ) → m ≡ got j rest → TwoIs line x r j

-- of a name that reads well: whether it is the first of the two
pub record FirstTold (line : List ℕ) (at : ℕ) (x r : Bool) : Type 0 where
  pub is : (n rest : List ℕ) → string (drop at line) ≡ got n rest → r ≡ same_list n (first_name x)

-- a place is kept, where there was none
unfoldable pub kept_place : Option ℕ → ℕ → Bool → Option ℕ
kept_place (Some old) new b = Some old
kept_place None new b = choose b (Some new) None

-- the place of a name's first value among all members, or none among those that are not left
pub record Kept (line : List ℕ) (p : Option ℕ) (n : List ℕ) (all left : List (List ℕ × List ℕ)) : Type 0 where
  pub missing : p ≡ None → member_of n all ≡ member_of n left
  pub found : (q : ℕ) → p ≡ Some q → (t : List ℕ) → member_of n all ≡ some t → Says line q t
