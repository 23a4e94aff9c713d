-- Entries move up, from the last to the first
use Rattle.std.proofs.Common.{◌≡◌, ℕ, ◌+◌, ◌-◌, ◌<◌, ◌≤◌, Bool, true, false, ltb, List, length, get_or, set, refl, ◌∙◌, arith, length-set, get_or-set_other, get_or-set_same, ltb-false, ltb-true}
use Rattle.joining.specs.Order.{Moved, Put}

-- the entries down to j have moved
pub record Moving (from n by j : ℕ) (old new : List ℕ) : Type 0 where
  pub low : from ≤ j
  pub high : j ≤ n
  pub is : Moved j n by old new

pub moving_none : {from n by : ℕ} {l : List ℕ} → from ≤ n → Moving from n by n l l
moving_none {from} {n} {by} {l} h = record {
  low = h;
  high = omega arith;
  is = record { long = refl; lower = λ k h. refl; moved = λ k h i. absurd (omega arith); above = λ k h. refl };
}

-- one entry more has moved, from place j
module _ {n by : ℕ} {old new : List ℕ} (j : ℕ) (h : j + 1 ≤ n) (some : 0 < by) (room : n + by ≤ length old) (m : Moved (j + 1) n by old new) where
  others : (k : ℕ) → (k ≡ j + by → ⊥) → get_or (set new (j + by) (get_or new j 0)) k 0 ≡ get_or new k 0
  others k d = get_or-set_other new (j + by) k (get_or new j 0) 0 d

  moved_more : Moved j n by old (set new (j + by) (get_or new j 0))
  moved_more = record {
    long = length-set new (j + by) (get_or new j 0) ∙ m.long;
    lower = λ k l. others k (λ q. absurd (omega arith)) ∙ m.lower k (omega arith);
    moved = λ k l u. go k l u (ltb j k) refl;
    above = λ k l. others k (λ q. absurd (omega arith)) ∙ m.above k l;
  }
    where
      go : (k : ℕ) → j ≤ k → k < n → (b : Bool) → ltb j k ≡ b → get_or (set new (j + by) (get_or new j 0)) (k + by) 0 ≡ get_or old k 0
      go k l u true e = let t : j < k = ltb-true j k e in others (k + by) (λ q. absurd (omega arith)) ∙ m.moved k (omega arith) u
      go k l u false e =
          let q : k ≡ j = omega (arith, ltb-false j k e) in
          rw q (get_or-set_same new (j + by) (get_or new j 0) 0 (omega (arith, m.long)) ∙ m.lower j (omega arith))

pub moving_more : {from n by j : ℕ} {old new : List ℕ} → Moving from n by j old new → from < j → 0 < by → n + by ≤ length old → Moving from n by (j - 1) old (set new (j - 1 + by) (get_or new (j - 1) 0))
moving_more {from} {n} {by} {j} {old} {new} m h some room =
    let q : j ≡ j - 1 + 1 = omega arith in
    record {
      low = omega arith;
      high = omega (arith, m.high);
      is = moved_more (j - 1) (omega (arith, m.high)) some room (rw q at m.is);
    }

pub moving_all : {from n by j : ℕ} {old new : List ℕ} → Moving from n by j old new → j ≤ from → Moved from n by old new
moving_all {from} {n} {by} {j} m h = let q : j ≡ from = omega (arith, m.low) in rw q at m.is

pub put_one : {p n k : ℕ} {old new : List ℕ} → Moved p n 1 old new → n < length old → p ≤ n → Put p n k old (set new p k)
put_one {p} {n} {k} {old} {new} m h le = record {
  long = length-set new p k ∙ m.long;
  lower = λ i l. get_or-set_other new p i k 0 (λ q. absurd (omega arith)) ∙ m.lower i (omega arith);
  here = get_or-set_same new p k 0 (omega (arith, m.long));
  upper = λ i l u. get_or-set_other new p (i + 1) k 0 (λ q. absurd (omega arith)) ∙ m.moved i l u;
}
