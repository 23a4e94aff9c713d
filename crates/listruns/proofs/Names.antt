-- How far path names go on: a table filled from the lists' end, and runs that are read by it
use mathlib.Core.Path.{◌≡◌, refl, sym, ◌∙◌, ap}
use mathlib.Core.Bool.{Bool, true, false}
use mathlib.Core.List.{List}
use Prim.Native.Nat.{ℕ, ◌+◌, ◌*◌, ◌-◌, ◌/◌, ◌%◌, ◌<◌, ◌≤◌}
use native.Mathlib.Omega.{arith}
use lib.Dec.{ltb, leb}
use lib.ListN.{length, get_or, set, replicate, length-set, length-replicate}
use lib.Seq.{get_or-set_same, get_or-set_other}
use borrow.Author.Tests.{ltb-true, ltb-false, leb-true, leb-false}
use Rattle.meaning.specs.Tests.{◌and◌, choose, all_below}
use Rattle.meaning.specs.Case.{lists}
use Rattle.meaning.specs.Check.{bodies, mosts, in_table, path_name}
use Rattle.laws.specs.Tests.{Passing, yes, no, all-at, all-stop, fails-later}
use Rattle.stringcheck.specs.Mosts.{list-most}
use Rattle.valuecheck.specs.Laws.{all_true}
use Rattle.listruns.specs.Blocks.{Names, Paths}
use Rattle.listruns.proofs.Runs.{InLists, run-whole}

-- filled from word i on, where names go on up to end
pub record Reaching (s table : List ℕ) (i end : ℕ) : Type 0 where
  pub few : i ≤ lists s
  pub most : lists s ≤ 1048576
  pub long : length table ≡ 8192
  pub here : Names s i end
  pub from : (b : ℕ) → i ≤ 128 * b → 128 * b < lists s → Names s (128 * b) (get_or table b 0)

pub reaching_none : (s : List ℕ) {n : ℕ} (x : ℕ) → n ≡ lists s → bodies s ≡ true → mosts s ≡ true → Reaching s (replicate 8192 x) n n
reaching_none s x e h m =
    record {
      few = omega arith;
      most = list-most s m h;
      long = length-replicate 8192 x;
      here = record { low = omega arith; high = omega arith; names = λ k l u. absurd (omega arith); ends = λ l. absurd (omega arith) };
      from = λ b l u. absurd (omega arith);
    }

pub reaching_in : {s table : List ℕ} {i end at : ℕ} → Reaching s table i end → 0 < i → at ≡ (i - 1) / 128 → at < length table
reaching_in g h e = omega (arith, g.few, g.most, g.long)

pub reaching_all : {s table : List ℕ} {i end : ℕ} → Reaching s table i end → i ≤ 0 → Paths s table
reaching_all g h = record { from = λ b l. g.from b (omega arith) l }

-- one word more
module _ {s table : List ℕ} {i end : ℕ} (g : Reaching s table i end) (h : 0 < i) {r : Bool} {w e at : ℕ} (is : e ≡ choose r end (i - 1)) (name : r ≡ path_name s w) (q : w ≡ i - 1) (place : at ≡ (i - 1) / 128) where
  name-here : r ≡ path_name s (i - 1)
  name-here = name ∙ ap (path_name s) q

  next : (b : Bool) → r ≡ b → Names s (i - 1) e
  next true t = let z : e ≡ end = is ∙ yes (i - 1) t in
      record {
        low = omega (arith, g.here.low);
        high = omega (arith, g.here.high);
        names = λ k l u. go k l u (ltb k i) refl;
        ends = λ u. rw z (g.here.ends (omega arith));
      }
    where
      go : (k : ℕ) → i - 1 ≤ k → k < e → (x : Bool) → ltb k i ≡ x → path_name s k ≡ true
      go k l u true p = let y : k ≡ i - 1 = omega (arith, ltb-true k i p) in rw y (sym name-here ∙ t)
      go k l u false p = let z : e ≡ end = is ∙ yes (i - 1) t in g.here.names k (ltb-false k i p) (omega arith)
  next false t = let z : e ≡ i - 1 = is ∙ no end t refl in
      record {
        low = omega arith;
        high = omega (arith, g.few);
        names = λ k l u. absurd (omega arith);
        ends = λ u. rw z (sym name-here ∙ t);
      }

  pub reaching_more : Reaching s (set table at e) (i - 1) e
  reaching_more =
      record {
        few = omega (arith, g.few);
        most = g.most;
        long = length-set table at e ∙ g.long;
        here = next r refl;
        from = λ b l u. go b l u (ltb (i - 1) (128 * b)) refl;
      }
    where
      go : (b : ℕ) → i - 1 ≤ 128 * b → 128 * b < lists s → (x : Bool) → ltb (i - 1) (128 * b) ≡ x → Names s (128 * b) (get_or (set table at e) b 0)
      go b l u true p =
          let past : i - 1 < 128 * b = ltb-true (i - 1) (128 * b) p in
          rw (get_or-set_other table at b e 0 (λ z. absurd (omega arith))) (g.from b (omega arith) u)
      go b l u false p =
          let start : 128 * b ≡ i - 1 = omega (arith, ltb-false (i - 1) (128 * b) p) in
          let same : b ≡ at = omega arith in
          let inside : at < length table = omega (arith, g.long, g.few, g.most) in
          let stored : get_or (set table at e) b 0 ≡ e = ap (λ (x : ℕ). get_or (set table at e) x 0) same ∙ get_or-set_same table at e 0 inside in
          rw (start, stored) (next r refl)

-- from a block's start on a run holds names alone just if they go on to its end
pub names-rest : {s paths : List ℕ} {first items i f j k n e : ℕ} {test : ℕ → Bool} → e ≡ get_or paths ((f + j) / 128) 0 → k ≡ first → n ≡ items → f ≡ first → j ≡ i → (f + j) % 128 ≡ 0 → i < items → Passing test items i → InLists s 1 first items → Paths s paths → ((x : ℕ) → test x ≡ path_name s (first + x)) → leb (k + n) e ≡ (in_table (lists s) 1 first items and all_below items test)
names-rest {s} {paths} {first} {items} {i} {f} {j} {k} {n} {e} {test} ee ek en ef ej a lt p r t same = go (leb (k + n) e) refl
  where
    block : Names s (128 * ((f + j) / 128)) (get_or paths ((f + j) / 128) 0)
    block = t.from ((f + j) / 128) (omega (arith, r.inside))

    here : Names s (first + i) e
    here = let q : 128 * ((f + j) / 128) ≡ first + i = omega arith in rw ee (rw q at block)

    passes : first + items ≤ e → (x : ℕ) → x < items → (y : Bool) → ltb x i ≡ y → test x ≡ true
    passes l x hx true z = all-at test i x p.is (ltb-true x i z)
    passes l x hx false z = same x ∙ here.names (first + x) (omega (arith, ltb-false x i z)) (omega arith)

    stops : e < first + items → all_below items test ≡ false
    stops l =
        let q : first + (e - first) ≡ e = omega (arith, here.low) in
        all-stop test items (e - first) (omega (arith, here.low)) (same (e - first) ∙ ap (path_name s) q ∙ here.ends (omega (arith, r.inside)))

    go : (b : Bool) → leb (k + n) e ≡ b → leb (k + n) e ≡ (in_table (lists s) 1 first items and all_below items test)
    go true z = z ∙ run-whole r (sym (all_true test items (λ x hx. passes (omega (arith, leb-true (k + n) e z)) x hx (ltb x i) refl)))
    go false z = z ∙ fails-later _ (sym (stops (omega (arith, leb-false (k + n) e z))))

pub names_in : {s : List ℕ} {first items i f j : ℕ} → f ≡ first → j ≡ i → i < items → InLists s 1 first items → (f + j) / 128 < 8192
names_in ef ej lt r = omega (arith, r.inside, r.few)
