-- The last run merged with runs as long
use mathlib.Core.Path.{◌≡◌, refl, sym, subst, ◌∙◌}
use mathlib.Core.Bool.{Bool, true, false}
use mathlib.Core.List.{List}
use Prim.Native.Nat.{ℕ, ◌+◌, ◌-◌, ◌/◌, ◌%◌, ◌<◌, ◌≤◌}
use native.Mathlib.Omega.{arith}
use lib.Dec.{ltb}
use lib.ListN.{length, get_or}
use borrow.Author.Tests.{ltb-true, ltb-false}
use Rattle.jsonnames.specs.Sorted.{Rises, Runs, even, odd, Differ, edge}
use Rattle.jsonnames.specs.Merges.{Has, Pair, Merged}
use Rattle.jsonnames.specs.Runs.{CarryDue, Carried}
use Rattle.jsonnames.proofs.Halves.{moved_to}
use Rattle.jsonnames.proofs.Stays.{has_wider, rises-differ, rises-none, runs-size, runs-kept, runs-odd, runs-even}

-- ---- what a merge leaves of all names

module _ {line names after : List ℕ} {first low end : ℕ} (f : first ≤ low) (m : Merged line names after low end) where
  pub merged_differ : Differ line names first end → Differ line after first end
  merged_differ d i j n a h l s t =
      go (ltb i low) (ltb j low) refl refl
    where
      go : (x y : Bool) → ltb i low ≡ x → ltb j low ≡ y → ⊥
      go x true p q = d i j n a h l (moved_to (m.below i (omega (arith, ltb-true j low q))) s) (moved_to (m.below j (ltb-true j low q)) t)
      go true false p q =
          let o = m.old j (ltb-false j low q) l in
          d i o.cell n a (omega (arith, ltb-true i low p, o.from)) o.below (moved_to (m.below i (ltb-true i low p)) s) (moved_to (sym o.is) t)
      go false false p q = rises-differ m.rises i j n (ltb-false i low p) h l s t

  pub merged_kept : (k : ℕ) → first ≤ k → k < end → Has after first end (get_or names k 0)
  merged_kept k a h =
      go (ltb k low) refl
    where
      go : (x : Bool) → ltb k low ≡ x → Has after first end (get_or names k 0)
      go true q = record { cell = k; from = a; below = h; is = m.below k (ltb-true k low q) }
      go false q = has_wider first end f (omega arith) (m.kept k (ltb-false k low q) h)

  pub merged_old : (k : ℕ) → first ≤ k → k < end → Has names first end (get_or after k 0)
  merged_old k a h =
      go (ltb k low) refl
    where
      go : (x : Bool) → ltb k low ≡ x → Has names first end (get_or after k 0)
      go true q = record { cell = k; from = a; below = h; is = sym (m.below k (ltb-true k low q)) }
      go false q = has_wider first end f (omega arith) (m.old k (ltb-false k low q) h)

-- ---- the loop

-- a last run as long as the blocks before it, which are runs
pub record Carrying (line names after : List ℕ) (first end low count : ℕ) : Type 0 where
  pub from : first ≤ low
  pub to : low < end
  pub whole : edge first end ≡ end
  pub within : end ≤ length names
  pub long : length after ≡ length names
  pub below : (k : ℕ) → k < first → get_or after k 0 ≡ get_or names k 0
  pub kept : (k : ℕ) → first ≤ k → k < end → Has after first end (get_or names k 0)
  pub old : (k : ℕ) → first ≤ k → k < end → Has names first end (get_or after k 0)
  pub differ : Differ line after first end
  pub last : Rises line after low end
  pub runs : Runs line after first (end - low) count low
  pub goes : (all : List ℕ) → Runs line all first (end - low) (count + 1) end → Runs line all first 16 ((end - first) / 16) end

module _ {line names : List ℕ} {first end : ℕ} (d : CarryDue line names first end) where
  pub carry_sixteen : 16 ≤ end
  carry_sixteen = omega (arith, d.from)

  pub carry_first : first ≤ end - 16
  carry_first = omega (arith, d.from)

  pub carry_start : Carrying line names names first end (end - 16) ((end - 16 - first) / 16)
  carry_start =
      let e : 16 ≡ end - (end - 16) = omega (arith, d.from) in
      let z : (end - 16 - first) / 16 + 1 ≡ (end - first) / 16 = omega (arith, d.from) in
      record {
        from = carry_first;
        to = omega (arith, d.from);
        whole = d.whole;
        within = d.within;
        long = refl;
        below = λ k h. refl;
        kept = λ k f h. record { cell = k; from = f; below = h; is = refl };
        old = λ k f h. record { cell = k; from = f; below = h; is = refl };
        differ = d.differ;
        last = d.last;
        runs = subst (λ (k : ℕ). Runs line names first k ((end - 16 - first) / 16) (end - 16)) e d.runs;
        goes = λ all r. subst (λ (k : ℕ). Runs line all first 16 k end) z (subst (λ (k : ℕ). Runs line all first k ((end - 16 - first) / 16 + 1) end) (sym e) r);
      }

module _ {line names after : List ℕ} {first end low count : ℕ} (g : Carrying line names after first end low count) where
  pub carry_order : low ≤ end
  carry_order = omega (arith, g.to)

  pub carry_done : (count % 2 ≡ 1 → ⊥) → Carried line names after first end
  carry_done n =
      record {
        long = g.long;
        sorted =
            record {
              from = omega (arith, g.from, g.to);
              within = omega (arith, g.within, g.long);
              differ = g.differ;
              last = rises-none line after g.whole (omega (arith, g.within, g.long));
              runs = subst (λ (k : ℕ). Runs line after first 16 ((end - first) / 16) k) (sym g.whole) (g.goes after all);
            };
        below = g.below;
        kept = g.kept;
        old = g.old;
      }
    where
      all : Runs line after first (end - low) (count + 1) end
      all = odd {size = end - low} {count = count + 1} {high = end} (count / 2) low (half n) (omega (arith, g.to)) g.last (runs-even g.runs n)
        where
          half : (count % 2 ≡ 1 → ⊥) → count + 1 ≡ count / 2 + count / 2 + 1
          half n = omega (arith, n)

  module _ (o : count % 2 ≡ 1) where
    abbrev below : ℕ
    below = low - (end - low)

    pub carry_room : end - low ≤ low
    carry_room = omega (arith, runs-size g.runs (omega arith))

    from-below : first ≤ below
    from-below = omega (arith, runs-size g.runs (omega arith))

    pub carry_pair : Pair line after below low end
    carry_pair =
        record {
          lower = (runs-odd g.runs o).rises;
          upper = g.last;
          differ = λ i j n f h l s t. g.differ i j n (omega (arith, from-below)) h l s t;
        }

    module _ {next : List ℕ} (m : Merged line after next below end) where
      pub carry_on : Carrying line names next first end below (count / 2)
      carry_on =
          let e : end - low + (end - low) ≡ end - below = omega (arith, carry_room, g.to) in
          record {
            from = from-below;
            to = omega (arith, g.to);
            whole = g.whole;
            within = g.within;
            long = m.long ∙ g.long;
            below = λ k h. m.below k (omega (arith, from-below)) ∙ g.below k h;
            kept = λ k f h. let a = g.kept k f h in let b = merged_kept from-below m a.cell a.from a.below in record { cell = b.cell; from = b.from; below = b.below; is = b.is ∙ a.is };
            old = λ k f h. let b = merged_old from-below m k f h in let a = g.old b.cell b.from b.below in record { cell = a.cell; from = a.from; below = a.below; is = a.is ∙ b.is };
            differ = merged_differ from-below m g.differ;
            last = m.rises;
            runs = subst (λ (k : ℕ). Runs line next first k (count / 2) below) e (runs-kept m.long (λ k f h. m.below k h) (runs-odd g.runs o).others);
            goes = λ all r. g.goes all (even {size = end - low} {count = count + 1} {high = end} (count / 2 + 1) (omega arith) (subst (λ (k : ℕ). Runs line all first k (count / 2 + 1) end) (sym e) r));
          }
