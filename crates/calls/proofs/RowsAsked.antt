-- The rows call put together: its walk, the rows given, its workspace cleared
use mathlib.Core.Path.{◌≡◌, refl, ap, sym, subst, ◌∙◌}
use mathlib.Core.Bool.{Bool, true, false}
use mathlib.Core.List.{List, ◌++◌}
use Prim.Native.Nat.{ℕ, ◌*◌, ◌≤◌}
use native.Mathlib.Omega.{arith}
use lib.ListN.{length, take, drop}
use Rattle.meaning.specs.declared.Env.{Env}
use Rattle.meaning.specs.declared.Limits.{Limits}
use Rattle.meaning.specs.declared.Meter.{Meter}
use Rattle.meaning.specs.declared.Refusal.{Refusal}
use Rattle.meaning.specs.declared.Refusal.TheVariants.{BadOutput}
use Rattle.meaning.specs.Tests.{choose}
use Rattle.meaning.specs.Walk.{W, started, Outcome, answered, refused, outcome}
use Rattle.meaning.specs.Case.{vars}
use Rattle.meaning.specs.Check.{Checked}
use Rattle.meaning.specs.Rows.{Row}
use Rattle.meaning.specs.Calls.{number_of, Call, gives, refuses, told, cleared, workspace_after, result, filled, projected, output_fits, rows_given, rows_call}
use Rattle.laws.specs.Calls.{walk_clears}
use Rattle.std.specs.Prelude.{Result as OkOr, Ok, Err}
use Rattle.rows.specs.declared.Stopped.{Stopped}
use Rattle.rows.specs.Table.{Fit, rows_in}
use Rattle.rows.specs.Stack.{shape_of, relation_of, Grown, Stacked, Related}
use Rattle.evaluator.specs.declared.Call.{Call as WalkCall}
use Rattle.evaluator.proofs.Walks.{r_answer, r_refusal}
use Rattle.evaluator.specs.Asks.{Relation, Ready, Relates, node_rows, rows_for}
use Rattle.opening.specs.declared.Wanted.TheVariants.{Condition}
use Rattle.opening.specs.declared.Opening.{Opening}
use Rattle.calls.specs.Promises.{call_of, SaidRows, early, stopped_as, as_rows, Rowed}
use Rattle.opening.specs.Opening.{wanted_for, Opens}
use Rattle.calls.specs.Given.{kept_of, fitting, said_of, output_of, said_from, output_from, TellsRows, Given}
use Rattle.calls.proofs.Asked.{opened, asked-not, unwritten, walked_as, workspace-as}

-- ---- a relation that is held is an answer, its rows at the bottom; one that is refused, a refusal

module _ {l : Limits} {w : W (List Row)} {before after : List Row} {r : Relation} (related : Related l started w before after r) where
  holds : {m : Meter} → r ≡ Ok m → (outcome l started w ≡ answered (take m.held after) m) × (m.held ≤ l.room)
  unfolding started
  holds {m} is = let p = r_answer related is in (p.1 ∙ ap (λ (rows : List Row). answered rows m) (sym p.2.lies), p.2.fits)

-- ---- what a walk for rows tells

module _ (s : List ℕ) (c : WalkCall) (e : Env) (n : ℕ) (binders output : List ℕ) {m₀ : Meter} {before after : List ℕ} {r : Relation} (relates : Relates s c e (node_rows n c.asked) m₀ before after r) (em : m₀ ≡ started) where
  pub held_in : {m : Meter} → r ≡ Ok m → m.held ≤ c.limits.room
  unfolding started
  held_in is = (holds (rw em at relates).comes is).1

  pub rows-given : {m : Meter} {output' : List ℕ} {said : SaidRows} → r ≡ Ok m → Given s c.vars m binders (take m.held (rows_in (shape_of c.vars c.limits) after)) output output' said → TellsRows s c.vars binders output (outcome c.limits started (rows_for s c e (node_rows n c.asked))) output' said
  unfolding said_from output_from started
  rows-given is given =
      let o = (holds (rw em at relates).comes is).0 in
      record { said = given.said ∙ ap (said_from s c.vars binders output) (sym o); written = given.written ∙ ap (output_from s c.vars binders output) (sym o) }

  pub rows-stopped : {z : Stopped} → r ≡ Err z → TellsRows s c.vars binders output (outcome c.limits started (rows_for s c e (node_rows n c.asked))) output (Err (stopped_as z))
  unfolding said_from output_from started as_rows
  rows-stopped is =
      let o = r_refusal (rw em at relates).comes is in
      record { said = ap (said_from s c.vars binders output) (sym o); written = ap (output_from s c.vars binders output) (sym o) }

pub part-fit : {s : List ℕ} {c : WalkCall} {e : Env} {m : Meter} {before : List ℕ} {after : List ℕ} → Ready s c e m before → length after ≡ length before → Fit (shape_of c.vars c.limits) after
part-fit ready long = record { vars = ready.fit.vars; room = ready.fit.room; wide = omega (arith, ready.fit.wide) }

-- ---- the rows call

given-as : (c : Call) (binders output : List ℕ) (kept : List Row) (m : Meter) (fits : Bool) → choose fits (result c (gives (length kept) m.steps m.most) (filled binders kept ++ drop (length (filled binders kept)) output)) (result c (refuses (number_of BadOutput) m.steps m.most) output) ≡ record {
  said = said_of kept m fits;
  workspace = cleared (2 * vars c.file * c.limits.room) c.workspace;
  output = output_of binders output kept fits;
}
unfolding choose result workspace_after number_of said_of output_of
given-as c binders output kept m true = refl
given-as c binders output kept m false = refl

told-as : (c : Call) (binders output : List ℕ) (l : Limits) (w : W (List Row)) → rows_given c binders output (told (outcome l started w)) ≡ record {
  said = said_from c.file (vars c.file) binders output (outcome l started w);
  workspace = cleared (2 * vars c.file * c.limits.room) c.workspace;
  output = output_from c.file (vars c.file) binders output (outcome l started w);
}
unfolding rows_given result told said_from output_from projected output_fits workspace_after
told-as c binders output l w = go (outcome l started w) (walk_clears c l w)
  where
    go : (o : Outcome (List Row)) → workspace_after c (told o) ≡ cleared (2 * vars c.file * c.limits.room) c.workspace → rows_given c binders output (told o) ≡ record {
      said = said_from c.file (vars c.file) binders output o;
      workspace = cleared (2 * vars c.file * c.limits.room) c.workspace;
      output = output_from c.file (vars c.file) binders output o;
    }
    go (answered rows m) h =
        given-as c binders output (kept_of c.file binders rows) m (fitting (vars c.file) binders output (kept_of c.file binders rows))
    go (refused n m) h = ap (λ (after : List ℕ). record { said = refuses (number_of n) m.steps m.most; workspace = after; output = output }) h

pub rows-refused : (s : List ℕ) (point n : ℕ) (start : List ℕ) (limits : Limits) (work : List ℕ) (binders output : List ℕ) {u : OkOr Opening Refusal} {k : Refusal} → Checked s → Opens (wanted_for Condition) (call_of s point n start limits work) u → u ≡ Err k → Rowed (call_of s point n start limits work) binders output work output (Err (early k))
unfolding rows_call rows_given as_rows wanted_for
rows-refused s point n start limits work binders output {k = k} checked opens is =
    record { is = sym (ap (rows_given (call_of s point n start limits work) binders output) (asked-not checked opens (λ m q. m.rows q) k is) ∙ unwritten checked opens ℕ output k is) }

pub rows_told : (s : List ℕ) (point n : ℕ) (start : List ℕ) (limits : Limits) (work : List ℕ) (binders output : List ℕ) {u : OkOr Opening Refusal} {o : Opening} (part : List ℕ) {after output' : List ℕ} {r : SaidRows} → Checked s → Opens (wanted_for Condition) (call_of s point n start limits work) u → u ≡ Ok o → TellsRows s o.call.vars binders output (outcome o.call.limits started (rows_for s o.call o.env (node_rows n o.call.asked))) output' r → length part ≡ length (take o.cells work) → after ≡ cleared o.cells (part ++ drop o.cells work) → Rowed (call_of s point n start limits work) binders output after output' r
unfolding rows_call rows_for wanted_for
rows_told s point n start limits work binders output {o = o} part checked opens is tells long after =
    let a = walked_as checked opens is (λ m q. m.rows q) in
    record {
      is = sym (ap (rows_given (call_of s point n start limits work) binders output) a ∙ told-as (call_of s point n start limits work) binders output o.call.limits _ ∙ sym (cc (tells.said, tells.written, workspace-as checked opens is part long after, ap (λ (c : WalkCall). c.vars) (opened opens is).call)));
    }
