-- A rule for each way out of a question and of a turn
use Prim.Native.Nat.{ℕ, suc, ◌+◌, ◌-◌, ◌≤◌, ◌<◌}
use mathlib.Core.Path.{◌≡◌, refl, ap, sym, ◌∙◌}
use mathlib.Core.Bool.{Bool, true, false}
use mathlib.Core.List.{List}
use native.Mathlib.Omega.{arith}
use native.Mathlib.Numerals.{add-one}
use lib.ListN.{length}
use Rattle.meaning.specs.declared.Env.{Env}
use Rattle.meaning.specs.declared.Meter.{Meter}
use Rattle.meaning.specs.declared.Interval.{Interval}
use Rattle.meaning.specs.declared.NodeNo.{NodeNo}
use Rattle.meaning.specs.Tests.{choose}
use Rattle.meaning.specs.Check.{bodies}
use Rattle.laws.specs.Checked.{checked-bodies}
use Rattle.meaning.specs.Walk.{started, Outcome}
use Rattle.meaning.specs.Meaning.{earlier, question}
use Rattle.meaning.specs.Carried.{body_turn, left_turn, left_from, anchor_turn, asked_at, turn_at}
use Rattle.meaning.specs.Carried.{Turn as TurnOf}
use Rattle.matching.specs.Asking.{asking}
use Rattle.evaluator.specs.declared.Call.{Call}
use Rattle.std.specs.Prelude.{Result, Ok, Err}
use Rattle.rows.specs.declared.Stopped.{Stopped}
use Rattle.evaluator.specs.Asks.{Verdict, said_verdict, node, walk_for, Ready, Decides}
use Rattle.carried.specs.declared.Look.{Look}
use Rattle.carried.specs.declared.Look.TheVariants as Loo
use Rattle.carried.specs.declared.Turn.{Turn}
use Rattle.carried.specs.declared.Turn.TheVariants as Tur
use Rattle.carried.specs.Shows.{as_look, as_turn, asks_at, turn_in, Asks, Lasts, Bodies, Anchors, Turns}

-- ---- a question

pub ready_afresh : {s : List ℕ} {c : Call} {e : Env} {m : Meter} {b : List ℕ} → m ≡ started → Ready s c e started b → Ready s c e m b
ready_afresh em r = rw em r

pub asked : {s : List ℕ} {c : Call} {e : Env} {n j : ℕ} {m : Meter} {b a : List ℕ} {v : Verdict} → Decides s c e (node n j) m b a v → m ≡ started → Asks s c e n j v
unfolding walk_for asking asked_at earlier question
asked d em = record { is = (rw em at d).comes.is }

-- the workspace is good for the next one
pub ready-next : {s : List ℕ} {c : Call} {e : Env} {m : Meter} {b a : List ℕ} → Ready s c e m b → length a ≡ length b → Ready s c e m a
ready-next r l = record {
  checked = r.checked;
  vars = r.vars;
  sized = r.sized;
  count = r.count;
  fit = record { vars = r.fit.vars; room = r.fit.room; wide = rw l r.fit.wide };
  held = r.held;
}

-- points before one that is low enough
pub still-low : {i j : ℕ} → j ≤ i → i < 16384 → j < 16384
still-low le lt = omega arith

-- what reading the tables asks
pub whole : {s : List ℕ} {c : Call} {e : Env} {m : Meter} {b : List ℕ} → Ready s c e m b → bodies s ≡ true
whole r = checked-bodies r.checked

-- ---- a body

module _ {s : List ℕ} {c : Call} {e : Env} {x j : ℕ} {v : Verdict} (g : Asks s c e x j v) where
  pub body-yes : {y : Bool} {m : Meter} → v ≡ Ok (y, m) → y ≡ true → Bodies s c e x j (Ok Tur.Carries)
  unfolding as_turn body_turn choose
  body-yes {m = m} q t = record { is = ap body_turn (sym (ap (λ (y : Bool). said_verdict (Ok (y, m))) t) ∙ sym (ap said_verdict q) ∙ g.is) }

  pub body-no : {y : Bool} {m : Meter} → v ≡ Ok (y, m) → y ≡ false → Bodies s c e x j (Ok Tur.Passes)
  unfolding as_turn body_turn choose
  body-no {m = m} q t = record { is = ap body_turn (sym (ap (λ (y : Bool). said_verdict (Ok (y, m))) t) ∙ sym (ap said_verdict q) ∙ g.is) }

  pub body-stop : {z : Stopped} → v ≡ Err z → Bodies s c e x j (Err z)
  unfolding as_turn body_turn
  body-stop q = record { is = ap body_turn (sym (ap said_verdict q) ∙ g.is) }

-- ---- left after an anchor

pub record Lefts (s : List ℕ) (c : Call) (e : Env) (l j : ℕ) (b₀ : List ℕ) (k : ℕ) (b : List ℕ) : Type 0 where
  pub le : k ≤ c.asked
  pub same : length b ≡ length b₀
  pub ready : Ready s c e started b
  pub on : left_from (λ i. asks_at s c e l i) (suc j) (c.asked - j) ≡ left_from (λ i. asks_at s c e l i) (suc k) (c.asked - k)

pub left-start : {s : List ℕ} {c : Call} {e : Env} {l j : ℕ} {b : List ℕ} → j ≤ c.asked → Ready s c e started b → Lefts s c e l j b j b
left-start le ready = record { le = le; same = refl; ready = ready; on = refl }

pub left-all : {s : List ℕ} {c : Call} {e : Env} {l j k : ℕ} {b₀ b : List ℕ} → Lefts s c e l j b₀ k b → c.asked ≤ k → Lasts s c e l j (Ok Tur.Carries)
unfolding as_turn left_from
left-all {s} {c} {e} {l} {j} {k} o ge =
    let z : c.asked - k ≡ 0 = omega arith in
    record { is = sym (o.on ∙ ap (λ (n : ℕ). left_from (λ i. asks_at s c e l i) (suc k) n) z) }

left-point : (f : ℕ → Outcome Bool) (i k : ℕ) → k < i → left_from f (suc k) (i - k) ≡ left_turn (k + 1) (f (k + 1)) (left_from f (suc (k + 1)) (i - (k + 1)))
unfolding left_from
left-point f i k lt =
    let z : i - k ≡ suc (i - (k + 1)) = omega arith in
    ap (left_from f (suc k)) z ∙ ap (λ (m : ℕ). left_turn m (f m) (left_from f (suc m) (i - (k + 1)))) (sym (add-one k))

module _ {s : List ℕ} {c : Call} {e : Env} {l j k : ℕ} {b₀ b : List ℕ} {v : Verdict} (o : Lefts s c e l j b₀ k b) (lt : k < c.asked) (g : Asks s c e l (k + 1) v) where
  abbrev rest : TurnOf
  rest = left_from (λ i. asks_at s c e l i) (suc (k + 1)) (c.asked - (k + 1))

  left-turn : {v' : Verdict} → v ≡ v' → left_from (λ i. asks_at s c e l i) (suc j) (c.asked - j) ≡ left_turn (k + 1) (said_verdict v') rest
  left-turn q = o.on ∙ left-point (λ i. asks_at s c e l i) c.asked k lt ∙ ap (λ (a : Outcome Bool). left_turn (k + 1) a rest) (sym g.is ∙ ap said_verdict q)

  pub left-next : {y : Bool} {m : Meter} {a : List ℕ} → v ≡ Ok (y, m) → y ≡ true → length a ≡ length b → Lefts s c e l j b₀ (k + 1) a
  unfolding left_turn choose
  left-next {m = m} q t len = record {
    le = omega arith;
    same = len ∙ o.same;
    ready = ready-next o.ready len;
    on = left-turn (q ∙ ap (λ (y : Bool). Ok (y, m)) t);
  }

  pub left-fails : {y : Bool} {m : Meter} → v ≡ Ok (y, m) → y ≡ false → Lasts s c e l j (Ok (Tur.Fails (k + 1)))
  unfolding as_turn left_turn choose
  left-fails {m = m} q t = record { is = sym (left-turn (q ∙ ap (λ (y : Bool). Ok (y, m)) t)) }

  pub left-stops : {z : Stopped} → v ≡ Err z → Lasts s c e l j (Err z)
  unfolding as_turn left_turn
  left-stops q = record { is = sym (left-turn q) }

-- ---- an anchor

abbrev left_after : List ℕ → Call → Env → ℕ → ℕ → TurnOf
left_after s c e l j = left_from (λ k. asks_at s c e l k) (suc j) (c.asked - j)

module _ {s : List ℕ} {c : Call} {e : Env} (l : ℕ) {r j : ℕ} {v : Verdict} (g : Asks s c e r j v) where
  anchor-turn : {v' : Verdict} → v ≡ v' → anchor_turn (asks_at s c e r j) (left_after s c e l j) ≡ anchor_turn (said_verdict v') (left_after s c e l j)
  anchor-turn q = ap (λ (a : Outcome Bool). anchor_turn a (left_after s c e l j)) (sym g.is ∙ ap said_verdict q)

  pub anchor-no : {y : Bool} {m : Meter} → v ≡ Ok (y, m) → y ≡ false → Anchors s c e l r j (Ok Tur.Passes)
  unfolding as_turn anchor_turn choose
  anchor-no {m = m} q t = record { is = sym (anchor-turn (q ∙ ap (λ (y : Bool). Ok (y, m)) t)) }

  pub anchor-stop : {z : Stopped} → v ≡ Err z → Anchors s c e l r j (Err z)
  unfolding as_turn anchor_turn
  anchor-stop q = record { is = sym (anchor-turn q) }

  pub anchor-left : {y : Bool} {m : Meter} {t : Result Turn Stopped} → v ≡ Ok (y, m) → y ≡ true → Lasts s c e l j t → Anchors s c e l r j t
  unfolding anchor_turn choose
  anchor-left {m = m} q t d = record { is = d.is ∙ sym (anchor-turn (q ∙ ap (λ (y : Bool). Ok (y, m)) t)) }

-- ---- a turn, by the node that looks back

module _ {s : List ℕ} {c : Call} {e : Env} {look : Look} {j : ℕ} {t : Result Turn Stopped} where
  pub turn-formerly : {within : Interval} {x : NodeNo} → look ≡ Loo.Formerly within x → Bodies s c e x.0 j t → Turns s c e look j t
  unfolding as_look turn_in turn_at
  turn-formerly q g = record { is = g.is ∙ sym (ap (λ (k : Look). turn_in s c e (as_look k) j) q) }

  pub turn-previous : {within : Interval} {x : NodeNo} → look ≡ Loo.Previous within x → Bodies s c e x.0 j t → Turns s c e look j t
  unfolding as_look turn_in turn_at
  turn-previous q g = record { is = g.is ∙ sym (ap (λ (k : Look). turn_in s c e (as_look k) j) q) }

  pub turn-since : {within : Interval} {l r : NodeNo} → look ≡ Loo.Since l r within → Anchors s c e l.0 r.0 j t → Turns s c e look j t
  unfolding as_look turn_in turn_at
  turn-since q g = record { is = g.is ∙ sym (ap (λ (k : Look). turn_in s c e (as_look k) j) q) }
