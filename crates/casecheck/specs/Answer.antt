-- The check's answer: what a pass says of the contents, or the refusal; and that a pass is a checked case
use Rattle.std.specs.Prelude.{◌≡◌, refl, List, ℕ, Result, Ok, Err}
use Rattle.std.proofs.Common.{◌∙◌, arith}
use Rattle.std.proofs.Math.Path.{ap}
use Rattle.std.proofs.Math.Option.{Option, none, some}
use Rattle.meaning.specs.declared.Refusal.{Refusal}
use Rattle.meaning.specs.Case.{vars, strings, values, points, nodes}
use Rattle.meaning.specs.Check.{check, Checked}
use Rattle.casecheck.specs.declared.Contents.{Contents}

abbrev pub contents_of : List ℕ → Contents
contents_of s = record { vars = vars s; strings = strings s; values = values s; points = points s; nodes = nodes s }

unfoldable pub answer : Option Refusal → Contents → Result Contents Refusal
answer none contents = Ok contents
answer (some refusal) contents = Err refusal

unfoldable pub as_checking : List ℕ → Result Contents Refusal
as_checking s = answer (check s) (contents_of s)

same : {k : Contents} (l : Contents) → Ok k ≡ answer none l → k ≡ l
unfolding answer
same l e = cc

never : {k : Contents} (l : Contents) (r : Refusal) → Ok k ≡ answer (some r) l → ⊥
unfolding answer
never l r e = let z : ◌≡◌ {A = ℕ} 0 1 = cc in omega arith

-- a pass is a checked case, and its contents are the file's
pub passed : (s : List ℕ) (contents : Contents) → Ok contents ≡ as_checking s → Checked s × (contents ≡ contents_of s)
passed s contents e = go (check s) refl (unfold as_checking in e)
  where
    go : (o : Option Refusal) → check s ≡ o → Ok contents ≡ answer (check s) (contents_of s) → Checked s × (contents ≡ contents_of s)
    go none q f = (record { passes = q }, same _ (f ∙ ap (λ (o : Option Refusal). answer o (contents_of s)) q))
    go (some refusal) q f = absurd (never _ _ (f ∙ ap (λ (o : Option Refusal). answer o (contents_of s)) q))
