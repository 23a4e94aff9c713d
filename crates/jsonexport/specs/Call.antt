-- What the export call says and leaves in the output, and its parts
use Rattle.std.specs.Prelude.{◌≡◌, refl, Bool, true, false, not, List, ◌++◌, ℕ, ◌+◌, ◌<◌, ◌≤◌, min, length, drop, Result, Ok, Err}
use Rattle.std.proofs.Common.{sym, ap, ap₂, ◌∙◌, arith, le-leb}
use Rattle.std.proofs.Math.Option.{Option, none, some}
use Rattle.std.proofs.lemmas.Bool.{lt-leb, not-true, not-false}
use Rattle.meaning.specs.declared.Refusal.{Refusal}
use Rattle.meaning.specs.declared.Refusal.TheVariants.{OutputTooShort}
use Rattle.meaning.specs.Case.{points}
use Rattle.meaning.specs.Check.{Checked, check}
use Rattle.laws.specs.Tests.{yes, no}
use Rattle.encode.specs.Write.{over}
use Rattle.jsontrace.specs.declared.ExportError.TheVariants.{Ambiguous, Refused}
use Rattle.jsontrace.specs.Export.{Exported, point_events, exported, clear_events, given_case, unless_refused, filled_if, ExportResult, export_call}
use Rattle.casecheck.specs.declared.Contents.{Contents}
use Rattle.casecheck.specs.Answer.{contents_of, answer, as_checking, passed}
use Rattle.jsonput.specs.Put.{Put}
use Rattle.jsonpoints.specs.Lines.{lines_text}
use Rattle.jsonexport.specs.Whole.{exported-is}

-- the whole call: one equation, every byte of the output
pub record Exports (s output after : List ℕ) (r : Exported) : Type 0 where
  pub is : export_call s output ≡ record { said = r; output = after }

-- of a case that passes
pub record ExportsChecked (s output after : List ℕ) (r : Exported) : Type 0 where
  pub is : r ≡ given_case s output
  pub gives : after ≡ filled_if r (exported s) output

-- ---- of a case that passes

pub export_ambiguous : (s output : List ℕ) {c : Bool} → not c ≡ true → c ≡ clear_events (point_events s) → ExportsChecked s output output (Err Ambiguous)
unfolding given_case filled_if
export_ambiguous s output {c} n e = record { is = sym (no _ (sym e ∙ not-true c n) refl); gives = refl }

pub export_short : (s output : List ℕ) {c : Bool} {size limit : ℕ} → not c ≡ false → c ≡ clear_events (point_events s) → length output < size → size ≡ min (length (lines_text s (points s))) limit → limit ≡ length output + 1 → Checked s → ExportsChecked s output output (Err (Refused OutputTooShort))
unfolding given_case filled_if
export_short s output {c} {size} {limit} n q h e el k = record {
  is = sym (yes _ (sym q ∙ not-false c n) ∙ no _ (lt-leb (length (exported s)) (length output) (omega (arith, e, el, ap length (exported-is k)))) refl);
  gives = refl;
}

pub export_room : (s output : List ℕ) {size limit : ℕ} → size ≤ length output → size ≡ min (length (lines_text s (points s))) limit → limit ≡ length output + 1 → 0 + length (lines_text s (points s)) ≤ length output
export_room s output h e el = omega (arith, e, el)

pub export_written : (s : List ℕ) {output after : List ℕ} {c : Bool} {size limit end : ℕ} → Put output after 0 (lines_text s (points s)) end → not c ≡ false → c ≡ clear_events (point_events s) → size ≤ length output → size ≡ min (length (lines_text s (points s))) limit → limit ≡ length output + 1 → Checked s → ExportsChecked s output after (Ok size)
unfolding given_case filled_if over
export_written s {output} {after} {c} {size} {limit} {end} f n q h e el k = record {
  is = ap Ok same ∙ sym (yes _ (sym q ∙ not-false c n) ∙ yes _ (le-leb (length (exported s)) (length output) (omega (arith, e, el, ap length (exported-is k)))));
  gives = f.is.is ∙ ap (λ (t : List ℕ). t ++ drop (0 + length t) output) (sym (exported-is k)) ∙ ap (λ (m : ℕ). exported s ++ drop m output) (none_before (length (exported s)));
}
  where
    same : size ≡ length (exported s)
    same = omega (arith, e, el, ap length (exported-is k))

    none_before : (m : ℕ) → 0 + m ≡ m
    none_before m = omega arith

-- ---- of every input

refused : (s : List ℕ) (r : Refusal) → Err r ≡ as_checking s → check s ≡ some r
unfolding as_checking answer
refused s r e = go (check s) e
  where
    go : (o : Option Refusal) → Err r ≡ answer o (contents_of s) → o ≡ some r
    go none q = cc
    go (some k) q = cc

pub export_refused : (s output : List ℕ) (r : Refusal) {checking : Result Contents Refusal} → checking ≡ as_checking s → checking ≡ Err r → Exports s output output (Err (Refused r))
unfolding export_call unless_refused filled_if
export_refused s output r e q = record { is = rw (refused s r (sym q ∙ e)) refl }

pub export_checked : (s : List ℕ) {contents : Contents} {checking : Result Contents Refusal} → checking ≡ as_checking s → checking ≡ Ok contents → Checked s
export_checked s {contents} e q = (passed s contents (sym q ∙ e)).0

whole : (s output : List ℕ) {after : List ℕ} {r : Exported} → r ≡ given_case s output → after ≡ filled_if r (exported s) output → ◌≡◌ {A = ExportResult} (record { said = given_case s output; output = filled_if (given_case s output) (exported s) output }) (record { said = r; output = after })
whole s output p q = ap₂ (λ (a : Exported) (b : List ℕ). record { said = a; output = b }) (sym p) (ap (λ (a : Exported). filled_if a (exported s) output) (sym p) ∙ sym q)

pub export_passed : (s output : List ℕ) {after : List ℕ} {r : Exported} {contents : Contents} {checking : Result Contents Refusal} → ExportsChecked s output after r → checking ≡ as_checking s → checking ≡ Ok contents → Exports s output after r
unfolding export_call unless_refused
export_passed s output x e q = record { is = rw (export_checked s e q).passes (whole s output x.is x.gives) }
