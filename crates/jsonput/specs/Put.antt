-- Bytes put from a place on, and the place after them
use Rattle.std.specs.Prelude.{◌≡◌, refl, List, [], ◌∷◌, ◌++◌, ℕ, ◌+◌, ◌<◌, ◌≤◌, length, set}
use Rattle.std.proofs.Common.{◌∙◌, subst, arith, length-append, length-set}
use Rattle.std.proofs.lemmas.List.Edits.{sets-eq}
use Rattle.laws.specs.Writing.{Writing, write-none, write-more}

pub record Put (before after : List ℕ) (at : ℕ) (new : List ℕ) (next : ℕ) : Type 0 where
  pub is : Writing before after at new
  pub end : next ≡ at + length new
  pub long : length after ≡ length before

pub put-none : (d : List ℕ) (at : ℕ) → Put d d at [] at
put-none d at = record { is = write-none d at; end = omega arith; long = refl }

-- one byte
pub put_one : {d : List ℕ} {at : ℕ} (b : ℕ) → at < length d → Put d (set d at b) at (b ∷ []) (at + 1)
put_one {d} {at} b h = record {
  is = write-more (b ∷ []) at (write-none d at) (omega arith) (omega arith) (sets-eq (b ∷ []) d at (omega arith));
  end = refl;
  long = length-set d at b;
}

-- a piece
pub put_copy : {d w piece : List ℕ} {at : ℕ} → Writing d w at piece → length w ≡ length d → Put d w at piece (at + length piece)
put_copy f l = record { is = f; end = refl; long = l }

-- more straight after
pub put_then : {d w w' new more : List ℕ} {at p q : ℕ} → Put d w at new p → Put w w' p more q → at ≤ length d → Put d w' at (new ++ more) q
put_then {d} {w} {w'} {new} {more} {at} {p} {q} f g h = record {
  is = write-more more p f.is h f.end g.is.is;
  end = omega (arith, f.end, g.end, length-append new more);
  long = g.long ∙ f.long;
}

-- the same bytes said otherwise
pub put_as : {d w new new' : List ℕ} {at p : ℕ} → new ≡ new' → Put d w at new p → Put d w at new' p
put_as {d} {w} {new} {new'} {at} {p} e f = subst (λ (l : List ℕ). Put d w at l p) e f
