-- All runs become one, the last ones first
use mathlib.Core.Path.{◌≡◌, refl, subst, ◌∙◌}
use mathlib.Core.List.{List}
use Prim.Native.Nat.{ℕ, ◌+◌, ◌*◌, ◌^◌, ◌-◌, ◌/◌, ◌%◌, ◌<◌, ◌≤◌}
use native.Mathlib.Omega.{arith}
use mir.Val.{Fits}
use mir.Syntax.{w64}
use lib.ListN.{length, get_or}
use Rattle.jsonnames.specs.Sorted.{Rises, Runs, Differ, edge, Sorted}
use Rattle.jsonnames.specs.Merges.{Has, Pair, Merged}
use Rattle.jsonnames.proofs.Stays.{runs-size, runs_none, runs-kept, runs-odd, runs-even}
use Rattle.jsonnames.proofs.Carries.{merged_differ, merged_kept, merged_old}

-- a last run, and runs before it
pub record Gathering (line names after : List ℕ) (first end low size count : ℕ) : Type 0 where
  pub to : low ≤ end
  pub within : end ≤ length names
  pub long : length after ≡ length names
  pub below : (k : ℕ) → k < first → get_or after k 0 ≡ get_or names k 0
  pub kept : (k : ℕ) → first ≤ k → k < end → Has after first end (get_or names k 0)
  pub old : (k : ℕ) → first ≤ k → k < end → Has names first end (get_or after k 0)
  pub differ : Differ line after first end
  pub last : Rises line after low end
  pub runs : Runs line after first size count low

pub gather_start : {line names : List ℕ} {first end : ℕ} → Sorted line names first end → Gathering line names names first end (edge first end) 16 ((end - first) / 16)
gather_start s =
    record {
      to = s.last.from;
      within = s.within;
      long = refl;
      below = λ k h. refl;
      kept = λ k f h. record { cell = k; from = f; below = h; is = refl };
      old = λ k f h. record { cell = k; from = f; below = h; is = refl };
      differ = s.differ;
      last = s.last;
      runs = s.runs;
    }

module _ {line names after : List ℕ} {first end low size count : ℕ} (g : Gathering line names after first end low size count) where
  pub gather_done : count ≤ 0 → Merged line names after first end
  gather_done h =
      let e : low ≡ first = runs_none g.runs (omega arith) in
      record {
        long = g.long;
        rises = subst (λ (k : ℕ). Rises line after k end) e g.last;
        below = g.below;
        kept = g.kept;
        old = g.old;
      }

  module _ (h : 0 < count) where
    room : first + size ≤ low
    room = runs-size g.runs h

    pub gather_room : size ≤ low
    gather_room = omega (arith, room)

    pub gather_fits : length names * 8 < 2 ^ 63 → Fits w64 (size + size)
    gather_fits l = record { fits = omega (arith, room, g.to, g.within, g.long) }

    pub gather_even : (count % 2 ≡ 1 → ⊥) → Gathering line names after first end low (size + size) (count / 2)
    gather_even n = record { to = g.to; within = g.within; long = g.long; below = g.below; kept = g.kept; old = g.old; differ = g.differ; last = g.last; runs = runs-even g.runs n }

    module _ (o : count % 2 ≡ 1) where
      pub gather_pair : Pair line after (low - size) low end
      gather_pair = record { lower = (runs-odd g.runs o).rises; upper = g.last; differ = λ i j n f h l s t. g.differ i j n (omega (arith, room)) h l s t }

      from-below : first ≤ low - size
      from-below = omega (arith, room)

      pub gather_odd : {next : List ℕ} → Merged line after next (low - size) end → Gathering line names next first end (low - size) (size + size) (count / 2)
      gather_odd m =
          record {
            to = omega (arith, g.to);
            within = g.within;
            long = m.long ∙ g.long;
            below = λ k l. m.below k (omega (arith, from-below)) ∙ g.below k l;
            kept = λ k f l. let a = g.kept k f l in let b = merged_kept from-below m a.cell a.from a.below in record { cell = b.cell; from = b.from; below = b.below; is = b.is ∙ a.is };
            old = λ k f l. let b = merged_old from-below m k f l in let a = g.old b.cell b.from b.below in record { cell = a.cell; from = a.from; below = a.below; is = a.is ∙ b.is };
            differ = merged_differ from-below m g.differ;
            last = m.rises;
            runs = runs-kept m.long (λ k f l. m.below k l) (runs-odd g.runs o).others;
          }
