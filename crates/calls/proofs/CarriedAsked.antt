-- The carried call put together: refused before its scan, or scanned and its workspace cleared
use mathlib.Core.Path.{◌≡◌, refl, ap, sym, ◌∙◌}
use mathlib.Core.Bool.{Bool}
use mathlib.Core.List.{List, ◌++◌}
use Prim.Native.Nat.{ℕ}
use lib.ListN.{length, take, drop}
use Rattle.meaning.specs.declared.Env.{Env}
use Rattle.meaning.specs.declared.Limits.{Limits}
use Rattle.meaning.specs.declared.Refusal.{Refusal}
use Rattle.meaning.specs.Case.{case_of, point_at, node_at, vars}
use Rattle.meaning.specs.Check.{Checked}
use Rattle.meaning.specs.Rows.{Row, row_of}
use Rattle.meaning.specs.Calls.{Call, Said, Result, start_row, start_or, cleared, workspace_after, result}
use Rattle.meaning.specs.Carried.{look_of, Shown, shown_at, Listed, listed, carried_call}
use Rattle.meaning.specs.Carried.{Carried as CarriedOf}
use Rattle.evaluator.specs.declared.Call.{Call as WalkCall}
use Rattle.carried.specs.declared.Carried.{Carried}
use Rattle.std.specs.Prelude.{Result as OkOr, Ok, Err}
use Rattle.rows.specs.declared.Stopped.{Stopped}
use Rattle.carried.specs.Shows.{Carries}
use Rattle.carried.specs.Shows.{as_carried as found_as}
use Rattle.carried.specs.Late.{listed_clears}
use Rattle.opening.specs.declared.Wanted.TheVariants.{LooksBack}
use Rattle.opening.specs.declared.Opening.{Opening}
use Rattle.calls.specs.Promises.{call_of, SaidCarried, nothing, early, stopped_as, as_carried, Carrying}
use Rattle.opening.specs.Opening.{wanted_for, Opens}
use Rattle.calls.specs.Given.{TellsCarried}
use Rattle.calls.proofs.Asked.{opened, said-not, unwritten, said-as, workspace-as}

-- ---- the scan

module _ {s : List ℕ} {c : WalkCall} {e : Env} {n : ℕ} {list after : List ℕ} {v : OkOr Carried Stopped} (g : Carries s c e n list after v) where
  pub scan_given : {k : Carried} → v ≡ Ok k → TellsCarried s c e n list after (Ok (k, nothing))
  unfolding as_carried found_as
  scan_given q = record { is = ap (λ (v : OkOr Carried Stopped). record { said = found_as v; list = after }) (sym q) ∙ g.is }

  pub scan_refused : {z : Stopped} → v ≡ Err z → TellsCarried s c e n list after (Err (stopped_as z))
  unfolding as_carried found_as
  scan_refused q = record { is = ap (λ (v : OkOr Carried Stopped). record { said = found_as v; list = after }) (sym q) ∙ g.is }

-- ---- the call

abbrev put_out : Call → List ℕ → Said Shown → Result CarriedOf
put_out c list said = result c (listed list said).said (listed list said).list

pub carried-refused : {s : List ℕ} {point n : ℕ} {start : List ℕ} {limits : Limits} {work list : List ℕ} {u : OkOr Opening Refusal} {k : Refusal} → Checked s → Opens (wanted_for LooksBack) (call_of s point n start limits work) u → u ≡ Err k → Carrying (call_of s point n start limits work) list work list (Err (early k))
unfolding carried_call listed as_carried wanted_for
carried-refused {s} {point} {n} {start} {limits} {work} {list} {k = k} checked opens is = record {
  is = sym (ap (put_out (call_of s point n start limits work) list) (said-not checked opens _ k is) ∙ unwritten checked opens CarriedOf list k is);
}

pub carried-told : {s : List ℕ} {point n : ℕ} {start : List ℕ} {limits : Limits} {work list : List ℕ} {u : OkOr Opening Refusal} {o : Opening} (part : List ℕ) {after filled : List ℕ} {r : SaidCarried} → Checked s → Opens (wanted_for LooksBack) (call_of s point n start limits work) u → u ≡ Ok o → TellsCarried s o.call o.env n list filled r → length part ≡ length (take o.cells work) → after ≡ cleared o.cells (part ++ drop o.cells work) → Carrying (call_of s point n start limits work) list after filled r
unfolding carried_call result wanted_for
carried-told {s} {point} {n} {start} {limits} {work} {list} {o = o} part {after} {filled} {r} checked opens is tells long cleared-is =
    let c : Call = call_of s point n start limits work in
    let row : Row = start_or (start_row s (vars s) start) in
    let says : Said Shown = shown_at (case_of s) (point_at s) point row limits (look_of (node_at s n)) in
    let asked : shown_at (case_of s) (point_at s) o.call.asked (row_of o.env) o.call.limits (look_of (node_at s n)) ≡ says = rw ((opened opens is).call, (opened opens is).bindings) refl in
    let shows : ◌≡◌ {A = Listed} (record { said = as_carried r; list = filled }) (listed list says) = tells.is ∙ ap (listed list) asked in
    let clears : after ≡ workspace_after c (listed list says).said = workspace-as checked opens is part long cleared-is ∙ sym (listed_clears c list (case_of s) (point_at s) point row limits (look_of (node_at s n))) in
    record {
      is =
          ap (λ (k : Listed). record { said = k.said; workspace = after; output = k.list }) shows
          ∙ ap (λ (w : List ℕ). record { said = (listed list says).said; workspace = w; output = (listed list says).list }) clears
          ∙ sym (ap (put_out c list) (said-as checked opens is says));
    }
