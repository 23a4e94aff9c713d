-- Parts that read well, one after another, up to the bracket that closes them
use Rattle.std.specs.Prelude.{◌≡◌, Bool, true, false, List, [], ◌∷◌, ℕ, eqb}
use Rattle.jsontext.specs.Reading.{Read, got, blanks}
use Rattle.jsontext.specs.Strings.{string}

-- a part a, read from s, leaves t; another byte than the closing one stands before the next
pub data Run {A : Type 0} (close : ℕ) (Part : List ℕ → A → List ℕ → Type 0) : List ℕ → List A → List ℕ → Type 0 where
  last : {s t rest : List ℕ} {a : A} → Part s a t → blanks t ≡ close ∷ rest → Run close Part s (a ∷ []) rest
  more : {s t u rest : List ℕ} {a : A} {others : List A} (c : ℕ) → Part s a t → blanks t ≡ c ∷ u → eqb c close ≡ false → Run close Part (blanks u) others rest → Run close Part s (a ∷ others) rest

-- nothing, where the closing bracket follows; else the parts
pub record Listed {A : Type 0} (close : ℕ) (Part : List ℕ → A → List ℕ → Type 0) (s : List ℕ) (parts : List A) (rest : List ℕ) : Type 0 where
  pub first : ℕ
  pub others : List ℕ
  pub byte : blanks s ≡ first ∷ others
  pub none : eqb first close ≡ true → parts ≡ []
  pub left : eqb first close ≡ true → rest ≡ others
  pub run : eqb first close ≡ false → Run close Part (blanks s) parts rest

-- an item of an array
abbrev pub Item : {A : Type 0} → (List ℕ → Read A) → List ℕ → A → List ℕ → Type 0
Item item s a t = item s ≡ got a t

-- a member of an object: its name, a colon, its value
pub record Member {A : Type 0} (known : List ℕ → Bool) (item : List ℕ → List ℕ → Read A) (s : List ℕ) (m : List ℕ × A) (t : List ℕ) : Type 0 where
  pub after : List ℕ
  pub value : List ℕ
  pub name : string s ≡ got m.0 after
  pub knows : known m.0 ≡ true
  pub colon : blanks after ≡ 58 ∷ value
  pub is : item m.0 (blanks value) ≡ got m.1 t
