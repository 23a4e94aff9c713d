-- Two values by what they show at once, and a table in which values found equal are joined
use Rattle.std.specs.Prelude.{◌≡◌, Bool, true, false, List, ℕ, ◌-◌, ◌<◌, ◌≤◌, eqb, length, get_or, Option, Some, None}
use Rattle.std.proofs.Common.{ControlFlow, Break, Continue}
use Rattle.meaning.specs.declared.ValNo.{ValNo}
use Rattle.meaning.specs.Case.{case_of, value_word, member_word}
use Rattle.meaning.specs.Check.{Checked}
use Rattle.meaning.specs.Equal.{same_value}
use Rattle.equality.specs.declared.Ends.{Ends}
use Rattle.equality.specs.declared.Runs.{Runs}

-- two arrays or two objects, a and b: their kinds, their counts n, m and where their runs start, p, q, as the code has them
pub record Holders (s : List ℕ) (a b n m p q : ℕ) : Type 0 where
  pub checked : Checked s
  pub kind : 6 ≤ value_word s a 0
  pub kinds : value_word s a 0 ≡ value_word s b 0
  pub count : n ≡ value_word s a 2
  pub other : m ≡ value_word s b 2
  pub start : p ≡ value_word s a 1
  pub start-other : q ≡ value_word s b 1

-- either the answer, or two runs of as many members
pub record Headed (s : List ℕ) (a b : ℕ) (h : ControlFlow Bool Runs) : Type 0 where
  pub said : (r : Bool) → h ≡ Break r → r ≡ same_value (case_of s) a b
  pub left : (r : Runs) → h ≡ Continue r → Holders s a b r.n r.n r.p r.q

-- the values of members u and v, if these have the same name
pub record Paired (s : List ℕ) (u v : ℕ) (r : Option (ValNo × ValNo)) : Type 0 where
  pub unnamed : r ≡ None → eqb (member_word s u 0) (member_word s v 0) ≡ false
  pub named : (m : ValNo × ValNo) → r ≡ Some m → eqb (member_word s u 0) (member_word s v 0) ≡ true
  pub left : (m : ValNo × ValNo) → r ≡ Some m → m.0.0 ≡ member_word s u 1
  pub right : (m : ValNo × ValNo) → r ≡ Some m → m.1.0 ≡ member_word s v 1

-- what a glance at a and b says, if anything
pub record Glanced (s : List ℕ) (a b : ℕ) (r : Option Bool) : Type 0 where
  pub same : r ≡ Some true → true ≡ same_value (case_of s) a b
  pub differ : r ≡ Some false → false ≡ same_value (case_of s) a b

-- what is said of a and b while some is left, and of x and y where nothing is
pub record Looked (s : List ℕ) (left x y a b : ℕ) (r : Bool) : Type 0 where
  pub some : 0 < left → r ≡ same_value (case_of s) a b
  pub none : left ≡ 0 → r ≡ same_value (case_of s) x y

-- ---- the table

-- entry v says how far below v an equal value stands
pub record Joined (s t : List ℕ) : Type 0 where
  pub size : length t ≡ 16384
  pub low : (v : ℕ) → get_or t v 0 ≤ v
  pub same : (v : ℕ) → same_value (case_of s) v (v - get_or t v 0) ≡ true

-- a and b have an entry each
pub record Inside (s t : List ℕ) (a b : ℕ) : Type 0 where
  pub checked : Checked s
  pub joined : Joined s t
  pub left : a < 16384
  pub right : b < 16384

pub record Stepped (t : List ℕ) (v r : ℕ) : Type 0 where
  pub is : r ≡ get_or t v 0
  pub small : r < 65536

-- v may be made to lead to the value that is d below it
pub record Next (s t : List ℕ) (v d : ℕ) : Type 0 where
  pub joined : Joined s t
  pub inside : v < 16384
  pub low : d ≤ v
  pub same : same_value (case_of s) v (v - d) ≡ true

-- v was made to lead to it
pub record Led (s t : List ℕ) (v d : ℕ) : Type 0 where
  pub joined : Joined s t
  pub low : d ≤ v
  pub same : same_value (case_of s) v (v - d) ≡ true

-- v leads to r
pub record Leads (s t : List ℕ) (v r : ℕ) : Type 0 where
  pub joined : Joined s t
  pub low : r ≤ v
  pub same : same_value (case_of s) v r ≡ true

-- a and b lead to two values
pub record Ended (s t : List ℕ) (a b : ℕ) (e : Ends) : Type 0 where
  pub joined : Joined s t
  pub low : e.v ≤ a
  pub same : same_value (case_of s) a e.v ≡ true
  pub low-other : e.w ≤ b
  pub same-other : same_value (case_of s) b e.w ≡ true

-- if r, a and b are equal
pub record Met (s t : List ℕ) (a b : ℕ) (r : Bool) : Type 0 where
  pub joined : Joined s t
  pub equal : r ≡ true → true ≡ same_value (case_of s) a b

-- a was compared with b
pub record Compared (s t : List ℕ) (a b : ℕ) (r : Bool) : Type 0 where
  pub joined : Joined s t
  pub answer : r ≡ same_value (case_of s) a b
