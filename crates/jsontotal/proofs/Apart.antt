-- The names of an object that reads well differ
use mathlib.Core.Path.{◌≡◌, refl, ap, ◌∙◌}
use mathlib.Core.Bool.{Bool, true, false}
use mathlib.Core.List.{List, [], ◌∷◌}
use mathlib.Core.Option.{Option, none, some}
use Prim.Native.Nat.{ℕ, zero, suc}
use native.Mathlib.Omega.{arith}
use lib.Dec.{eqb}
use lib.ListN.{length}
use Rattle.meaning.specs.Tests.{choose}
use Rattle.meaning.specs.Equal.{same_list}
use Rattle.laws.specs.Text.{self_same}
use Rattle.jsontext.specs.declared.Fault.TheVariants.{RepeatedName, BadField}
use Rattle.jsontext.specs.Reading.{Read, got, fault, blanks, want}
use Rattle.jsontext.specs.Strings.{string}
use Rattle.jsontext.specs.Values.{Name, before, after_name, members, unless_empty, object}
use Rattle.jsonread.proofs.Spelling.{never}
use Rattle.jsonruns.proofs.Runs.{then_of, after_of}

-- no member has the name
pub data Fresh {A : Type 0} (n : List ℕ) : List (List ℕ × A) → Type 0 where
  nowhere : Fresh n []
  not_first : {m : List ℕ × A} {ms : List (List ℕ × A)} → (m.0 ≡ n → ⊥) → Fresh n ms → Fresh n (m ∷ ms)

-- all names differ
pub data Apart {A : Type 0} : List (List ℕ × A) → Type 0 where
  alone : Apart []
  apart_from : {m : List ℕ × A} {ms : List (List ℕ × A)} → Fresh m.0 ms → Apart ms → Apart (m ∷ ms)

-- none of the members' names was seen
data Unseen {A : Type 0} (seen : List Name) : List (List ℕ × A) → Type 0 where
  all : Unseen seen []
  one : {m : List ℕ × A} {ms : List (List ℕ × A)} → before m.0 seen ≡ none → Unseen seen ms → Unseen seen (m ∷ ms)

unseen-name : (known : List ℕ → Bool) (seen : List Name) (n : Name) (s : List ℕ) {c : ℕ} {rest : List ℕ} → after_name known seen n s ≡ got c rest → before n.name seen ≡ none
unfolding after_name
unseen-name known seen n s {c} {rest} e =
    go (before n.name seen) refl e
  where
    go : (o : Option ℕ) → before n.name seen ≡ o → elim o [ some first ↦ fault RepeatedName n.left first | none ↦ choose (known n.name) (want 58 s) (fault BadField n.left n.left) ] ≡ got c rest → before n.name seen ≡ none
    go none q f = q
    go (some first) q f = absurd (never f)

-- a name that is not among more was not the last, nor among the others
record Other (n : Name) (seen : List Name) (m : List ℕ) : Type 0 where
  differs : m ≡ n.name → ⊥
  others : before m seen ≡ none

other_of : (n : Name) (seen : List Name) (m : List ℕ) → before m (n ∷ seen) ≡ none → Other n seen m
unfolding before choose
other_of n seen m e =
    go (same_list n.name m) refl e
  where
    go : (x : Bool) → same_list n.name m ≡ x → choose x (some n.left) (before m seen) ≡ none → Other n seen m
    go true q f = absurd (let z : ◌≡◌ {A = ℕ} 0 1 = cc in omega arith)
    go false q f = record {
      differs = λ z. let y : same_list n.name m ≡ true = ap (same_list n.name) z ∙ self_same n.name in let x : ◌≡◌ {A = ℕ} 0 1 = cc in omega arith;
      others = f;
    }

module _ {A : Type 0} where
  fresh_of : (n : Name) (seen : List Name) {ms : List (List ℕ × A)} → Unseen (n ∷ seen) ms → Fresh n.name ms
  fresh_of n seen all = nowhere
  fresh_of n seen (one {m = m} e u) = not_first (other_of n seen m.0 e).differs (fresh_of n seen u)

  fewer : (n : Name) (seen : List Name) {ms : List (List ℕ × A)} → Unseen (n ∷ seen) ms → Unseen seen ms
  fewer n seen all = all
  fewer n seen (one {m = m} e u) = one (other_of n seen m.0 e).others (fewer n seen u)

  record Differ (seen : List Name) (ms : List (List ℕ × A)) : Type 0 where
    unseen : Unseen seen ms
    apart : Apart ms

  module _ (known : List ℕ → Bool) (item : List ℕ → List ℕ → Read A) where
    members-differ : (turns : ℕ) (seen : List Name) (s : List ℕ) (ms : List (List ℕ × A)) {rest : List ℕ} → members known item turns seen s ≡ got ms rest → Differ seen ms
    unfolding members
    members-differ zero seen s ms e = absurd (never e)
    members-differ (suc turns) seen s ms {rest} e =
        let n = then_of (string s) e in
        let name : Name = record { name = n.what; left = length s } in
        let c = then_of (after_name known seen name (blanks n.left)) n.next in
        let a = then_of (item n.what (blanks c.left)) c.next in
        let others : List ℕ → Read (List (List ℕ × A)) = λ t. members known item turns (name ∷ seen) t in
        let f = after_of 125 (n.what, a.what) others (blanks a.left) a.next in
        let u : before n.what seen ≡ none = unseen-name known seen name (blanks n.left) c.is in
        go name a.what u (eqb f.sign 125)
        (λ q. f.alone q)
        (λ q. let o = f.goes q in (o.what, (o.makes, members-differ turns (name ∷ seen) (blanks f.others) o.what o.is)))
        refl
      where
        go : (n : Name) (j : A) → before n.name seen ≡ none → (x : Bool) {y : Bool} → (y ≡ true → ms ≡ (n.name, j) ∷ []) → (y ≡ false → (ps : List (List ℕ × A)) × ((ms ≡ (n.name, j) ∷ ps) × Differ (n ∷ seen) ps)) → y ≡ x → Differ seen ms
        go n j u true f g e = rw (f e) (record { unseen = one u all; apart = apart_from nowhere alone })
        go n j u false f g e =
            let o = g e in
            rw o.1.0 (record { unseen = one u (fewer n seen o.1.1.unseen); apart = apart_from (fresh_of n seen o.1.1.unseen) o.1.1.apart })

    pub object-apart : (s : List ℕ) (ms : List (List ℕ × A)) {rest : List ℕ} → object known item s ≡ got ms rest → Apart ms
    unfolding object unless_empty choose
    object-apart s ms {rest} e =
        go (blanks s) e
      where
        chosen : (c : ℕ) (t : List ℕ) (x : Bool) → choose x (got [] t) (members known item (suc (length (c ∷ t))) [] (c ∷ t)) ≡ got ms rest → Apart ms
        chosen c t true f = let z : ms ≡ [] = cc in rw z alone
        chosen c t false f = (members-differ (suc (length (c ∷ t))) [] (c ∷ t) ms f).apart

        go : (t : List ℕ) → unless_empty 125 (λ u. members known item (suc (length u)) [] u) t ≡ got ms rest → Apart ms
        go [] f = absurd (never f)
        go (c ∷ t) f = chosen c t (eqb c 125) f
