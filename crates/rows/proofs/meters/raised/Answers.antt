-- A meter with more rows held: the most of them is the greater
use Rattle.std.proofs.Common.{rules}
use Prim.Native.Nat.{ℕ, max}
use mathlib.Core.Path.{◌≡◌, ap}
use Rattle.meaning.specs.declared.Meter.{Meter}
use Rattle.rows.specs.Meters.{raised}
use Rattle.rows.proofs.meters.raised.Goals as goal

most-is : (m : Meter) (h : ℕ) {k : ℕ} → k ≡ max m.most h → ◌≡◌ {A = Meter} (record { steps = m.steps; held = h; most = k }) (raised m h)
most-is m h e = ap (λ (k : ℕ). record { steps = m.steps; held = h; most = k }) e

pub returns : goal.returns
returns c = search (most-is, rules)
