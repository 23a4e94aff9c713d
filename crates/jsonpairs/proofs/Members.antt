-- Members of an object, whatever follows them
use mathlib.Core.Path.{◌≡◌, refl, sym, ap, ◌∙◌}
use mathlib.Core.Bool.{Bool, true, false}
use mathlib.Core.List.{List, [], ◌∷◌}
use mathlib.Core.Option.{Option, none, some}
use Prim.Native.Nat.{ℕ, suc}
use lib.Dec.{eqb}
use lib.ListN.{length}
use Rattle.meaning.specs.Tests.{choose}
use Rattle.laws.specs.Tests.{yes, no as otherwise}
use Rattle.jsontext.specs.declared.Fault.{Fault}
use Rattle.jsontext.specs.declared.Fault.TheVariants.{NotJson, RepeatedName, BadField}
use Rattle.jsontext.specs.Reading.{Read, got, fault, then, no, mapped, blanks, want}
use Rattle.jsontext.specs.Strings.{string}
use Rattle.jsontext.specs.Values.{Name, before, after_name, after_part, members}
use Rattle.jsonread.proofs.Places.{then_is}
use Rattle.jsonread.proofs.Then.{then-then, then-fault}

-- ---- a member

abbrev name_by : (List ℕ → Bool) → Option ℕ → Name → List ℕ → Read ℕ
name_by known o n s = elim o [ some first ↦ fault RepeatedName n.left first | none ↦ choose (known n.name) (want 58 s) (fault BadField n.left n.left) ]

abbrev pub named : List ℕ → List ℕ → Name
named n s = record { name = n; left = length s }

module _ {A B : Type 0} (known : List ℕ → Bool) (item : List ℕ → List ℕ → Read A) (turns : ℕ) (seen : List Name) (s : List ℕ) (f : List (List ℕ × A) → List ℕ → Read B) where
  -- those after a member, its name kept
  abbrev pub more : List ℕ → List ℕ → Read (List (List ℕ × A))
  more n t = members known item turns (named n s ∷ seen) t

  abbrev whole : Read B
  whole = then (members known item (suc turns) seen s) f

  abbrev after_colon : List ℕ → ℕ → List ℕ → Read (List (List ℕ × A))
  after_colon n colon rest = then (item n (blanks rest)) (λ a rest. after_part 125 (n, a) (λ t. more n t) (blanks rest))

  abbrev after_string : List ℕ → List ℕ → Read (List (List ℕ × A))
  after_string n rest = then (after_name known seen (named n s) (blanks rest)) (λ colon rest. after_colon n colon rest)

  turn : members known item (suc turns) seen s ≡ then (string s) (λ n rest. after_string n rest)
  unfolding members
  turn = refl

  pub members-unread : {w : Fault} {p q : ℕ} → string s ≡ fault w p q → whole ≡ fault w p q
  members-unread e = then-fault f (turn ∙ then-fault (λ n rest. after_string n rest) e)

  module _ {n rest : List ℕ} (e : string s ≡ got n rest) where
    read : members known item (suc turns) seen s ≡ after_string n rest
    read = turn ∙ then_is (λ n rest. after_string n rest) e

    again : (first : ℕ) → before n seen ≡ some first → after_name known seen (named n s) (blanks rest) ≡ fault RepeatedName (length s) first
    unfolding after_name
    again first h = ap (λ (o : Option ℕ). name_by known o (named n s) (blanks rest)) h

    fresh : before n seen ≡ none → after_name known seen (named n s) (blanks rest) ≡ choose (known n) (want 58 (blanks rest)) (fault BadField (length s) (length s))
    unfolding after_name
    fresh h = ap (λ (o : Option ℕ). name_by known o (named n s) (blanks rest)) h

    pub members-again : {first : ℕ} → before n seen ≡ some first → whole ≡ fault RepeatedName (length s) first
    members-again {first} h = then-fault f (read ∙ then-fault (λ colon rest. after_colon n colon rest) (again first h))

    module _ (h : before n seen ≡ none) where
      pub members-unknown : known n ≡ false → whole ≡ fault BadField (length s) (length s)
      members-unknown k = then-fault f (read ∙ then-fault (λ colon rest. after_colon n colon rest) (fresh h ∙ otherwise _ k refl))

      -- a new name: its value, and what may follow a part
      pub members-new : known n ≡ true → whole ≡ then (then (want 58 (blanks rest)) (λ colon t. item n (blanks t))) (λ a t. then (after_part 125 (n, a) (λ u. more n u) (blanks t)) f)
      members-new k =
          ap (λ (m : Read (List (List ℕ × A))). then m f) (read ∙ ap (λ (m : Read ℕ). then m (λ colon t. after_colon n colon t)) (fresh h ∙ yes _ k) ∙ sym (then-then (want 58 (blanks rest)) (λ colon t. item n (blanks t)) (λ a t. after_part 125 (n, a) (λ u. more n u) (blanks t))))
          ∙ then-then (then (want 58 (blanks rest)) (λ colon t. item n (blanks t))) (λ a t. after_part 125 (n, a) (λ u. more n u) (blanks t)) f

-- ---- after a part

module _ {A B : Type 0} (p : A) (parts : List ℕ → Read (List A)) (f : List A → List ℕ → Read B) where
  pub after_none : (close : ℕ) → then (after_part close p parts []) f ≡ no NotJson []
  unfolding after_part then
  after_none close = refl

  pub after-byte : (close c : ℕ) (s : List ℕ) → then (after_part close p parts (c ∷ s)) f ≡ choose (eqb c close) (f (p ∷ []) s) (choose (eqb c 44) (then (parts (blanks s)) (λ ps rest. f (p ∷ ps) rest)) (no NotJson (c ∷ s)))
  unfolding after_part choose then
  after-byte close c s =
      go (eqb c close) (eqb c 44)
    where
      go : (x y : Bool) → then (choose x (got (p ∷ []) s) (choose y (mapped (λ others. p ∷ others) (parts (blanks s))) (no NotJson (c ∷ s)))) f ≡ choose x (f (p ∷ []) s) (choose y (then (parts (blanks s)) (λ ps rest. f (p ∷ ps) rest)) (no NotJson (c ∷ s)))
      go true y = refl
      go false true = then-then (parts (blanks s)) (λ others rest. got (p ∷ others) rest) f
      go false false = refl
