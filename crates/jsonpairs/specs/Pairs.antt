-- Cedar's forms, an entity (false) or an extension (true): the two members that they hold
use Rattle.std.specs.Prelude.{◌≡◌, Bool, true, false, not, List, [], ◌∷◌, ℕ, suc, ◌-◌, ◌<◌, ◌≤◌, eqb, ltb, length, drop, Result, Ok, Err}
use Rattle.std.proofs.Math.Option.{Option, none, some}
use Rattle.meaning.specs.Tests.{◌and◌, ◌or◌, choose, or_else}
use Rattle.meaning.specs.Equal.{same_list}
use Rattle.jsontext.specs.declared.Fault.TheVariants.{NotJson, RepeatedName, BadField}
use Rattle.jsontext.specs.declared.Bad.{Bad}
use Rattle.jsontext.specs.Reading.{Read, got, fault, then, no, blanks, want}
use Rattle.jsontext.specs.Strings.{string}
use Rattle.jsontext.specs.Values.{Name, J, EntityOf, Decimal, text, before, members, object, member_of, «type», «id», «fn», «arg», «decimal», both, argument, entity, extension, only}
use Rattle.jsonread.specs.Told.{Told}
use Rattle.jsonpairs.specs.declared.Which.{Which}
use Rattle.jsonpairs.specs.declared.Which.TheVariants.{First, Second, Neither}
use Rattle.jsonpairs.specs.declared.Two.{Two}
use Rattle.jsonpairs.specs.declared.Turn.{Turn}
use Rattle.jsonpairs.specs.declared.Turn.TheVariants.{On, Done}

-- the only member of a form, after the brace
unfoldable pub only_of : Bool → List ℕ → Read J
only_of false s = only entity s
only_of true s = only extension s

-- ---- the two names, what stands under them, and what is made of it

unfoldable pub first_of : Bool → List ℕ
first_of false = «type»
first_of true = «fn»

unfoldable pub second_of : Bool → List ℕ
second_of false = «id»
second_of true = «arg»

unfoldable pub which_of : Bool → List ℕ → Which
which_of x n = choose (same_list n (first_of x)) First (choose (same_list n (second_of x)) Second Neither)

-- of a name that reads well: which of the two it is
abbrev pub WhichTold : List ℕ → ℕ → Bool → Which → Type 0
WhichTold line at x r = (n rest : List ℕ) → string (drop at line) ≡ got n rest → r ≡ which_of x n

unfoldable pub is_one : Bool → List ℕ → Bool
is_one x n = same_list n (first_of x) or same_list n (second_of x)

unfoldable pub value_by : Bool → List ℕ → List ℕ → Read (List ℕ)
value_by false n s = text s
value_by true n s = argument n s

unfoldable pub form_of : Bool → List ℕ → List ℕ → J
form_of false a b = EntityOf a b
form_of true a b = Decimal b

-- the two members, after the brace, and from the brace on
unfoldable pub two_of : Bool → List ℕ → Read J
two_of x s = then (object (is_one x) (value_by x) s) λ ms rest. both (form_of x) (member_of (first_of x) ms) (member_of (second_of x) ms) rest

unfoldable pub inside_of : Bool → List ℕ → Read J
inside_of x s = then (want 123 s) λ brace rest. two_of x rest

-- ---- one member

-- a string; with d, the string "decimal"
unfoldable pub item_of : Bool → List ℕ → Read (List ℕ)
item_of d s = then (text s) λ t rest. choose (d and not (same_list t «decimal»)) (no BadField s) (got t rest)

-- after a name at `name` that stood at `first` before (0: nowhere): its colon and value
unfoldable pub member_after : List ℕ → ℕ → ℕ → Bool → List ℕ → Read (List ℕ)
member_after line name first d s =
    choose (ltb 0 first) (fault RepeatedName (length line - name) (length line - first))
    (then (want 58 (blanks s)) λ colon rest. item_of d (blanks rest))

-- ---- the members that are left, after those that say a and b

unfoldable pub rest_of : Bool → Option (List ℕ) → Option (List ℕ) → ℕ → List Name → List ℕ → Read J
rest_of x a b turns seen s = then (members (is_one x) (value_by x) turns seen s) λ ms rest. both (form_of x) (or_else a (member_of (first_of x) ms)) (or_else b (member_of (second_of x) ms)) rest

unfoldable pub next_of : Bool → Option (List ℕ) → Option (List ℕ) → ℕ → List Name → List ℕ → Read J
next_of x a b turns seen [] = no NotJson []
next_of x a b turns seen (c ∷ s) = choose (eqb c 125) (both (form_of x) a b s) (choose (eqb c 44) (rest_of x a b turns seen (blanks s)) (no NotJson (c ∷ s)))

-- the place of a name that was read, with its value; 0 where it was not
pub record Found (line : List ℕ) (p : ℕ) (n : List ℕ) (seen : List Name) (a : Option (List ℕ)) : Type 0 where
  pub what : List ℕ
  pub is : a ≡ some what
  pub known : before n seen ≡ some (length line - p)

pub record Noted (line : List ℕ) (p : ℕ) (n : List ℕ) (seen : List Name) (a : Option (List ℕ)) : Type 0 where
  pub place : p ≤ length line
  pub unseen : p ≡ 0 → before n seen ≡ none
  pub lacks : p ≡ 0 → a ≡ none
  pub found : 0 < p → Found line p n seen a

pub record Taken (line : List ℕ) (x : Bool) (first second : ℕ) (a b : Option (List ℕ)) (seen : List Name) : Type 0 where
  pub one : Noted line first (first_of x) seen a
  pub two : Noted line second (second_of x) seen b
  pub others : (n : List ℕ) → which_of x n ≡ Neither → before n seen ≡ none

-- after a member that ends at `end`
pub record Onward (line : List ℕ) (first second end : ℕ) (n : Two) : Type 0 where
  pub one : n.first ≡ first
  pub two : n.second ≡ second
  pub from : end < n.at
  pub within : n.at ≤ length line
  pub is : (x : Bool) (a b : Option (List ℕ)) (turns : ℕ) (seen : List Name) → next_of x a b turns seen (blanks (drop end line)) ≡ rest_of x a b turns seen (drop n.at line)

-- a turn that came to an end, at a place or with a fault
abbrev pub ended : Result ℕ Bad → Result Turn Bad
ended (Ok e) = Ok (Done e)
ended (Err b) = Err b

pub record TurnTold (line : List ℕ) (first second end : ℕ) (r : Result Turn Bad) : Type 0 where
  pub done : (s : Result ℕ Bad) → r ≡ ended s → (x : Bool) (a b : Option (List ℕ)) (turns : ℕ) (seen : List Name) → Taken line x first second a b seen → Told line end s (next_of x a b turns seen (blanks (drop end line)))
  pub on : (n : Two) → r ≡ Ok (On n) → Onward line first second end n

-- from a member to the next
pub record Further (line : List ℕ) (x : Bool) (t n : Two) (a b : Option (List ℕ)) (seen : List Name) : Type 0 where
  pub one : Option (List ℕ)
  pub two : Option (List ℕ)
  pub names : List Name
  pub taken : Taken line x n.first n.second one two names
  pub from : t.at < n.at
  pub within : n.at ≤ length line
  pub is : (turns : ℕ) → rest_of x a b (suc turns) seen (drop t.at line) ≡ rest_of x one two turns names (drop n.at line)

pub record NextTold (line : List ℕ) (t : Two) (x : Bool) (r : Result Turn Bad) : Type 0 where
  pub done : (s : Result ℕ Bad) → r ≡ ended s → (a b : Option (List ℕ)) (turns : ℕ) (seen : List Name) → Taken line x t.first t.second a b seen → Told line t.at s (rest_of x a b (suc turns) seen (drop t.at line))
  pub on : (n : Two) → r ≡ Ok (On n) → (a b : Option (List ℕ)) (seen : List Name) → Taken line x t.first t.second a b seen → Further line x t n a b seen
