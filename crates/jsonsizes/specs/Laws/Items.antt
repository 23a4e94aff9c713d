-- Items added up, one by one and by blocks
use Rattle.std.specs.Prelude.{◌≡◌, refl, false, List, ℕ, zero, suc, ◌+◌, ◌*◌, ◌-◌, ◌/◌, ◌%◌, ◌<◌, ◌≤◌, min, ltb, length, set, ◌⊎◌}
use Rattle.std.proofs.Math.Path.{ap}
use Rattle.std.proofs.Common.{◌∙◌, arith, add-one, length-append, inl, inr, ne_eqb, ltb-false}
use Rattle.std.proofs.Math.ListN.{get_or}
use Rattle.meaning.specs.Tests.{choose}
use Rattle.meaning.specs.Case.{text, member_word}
use Rattle.meaning.specs.Check.{Checked}
use Rattle.valuecheck.specs.Laws.{set_get}
use Rattle.jsontrace.specs.Text.{quoted}
use Rattle.jsonput.specs.Values.{name_text, item_text, value_text}
use Rattle.jsonput.specs.Laws.Values.{name-long}
use Rattle.jsonsizes.specs.Sizes.{item_long, run_long, string_long, value_long, Ready, Readies, Sums}

-- ---- sums of items

pub run_more : (s : List ℕ) (k first i : ℕ) → run_long s k first (i + 1) ≡ run_long s k first i + item_long s k (first + i)
unfolding run_long
run_more s k first i = ap (run_long s k first) (add-one i)

run-add : (s : List ℕ) (k first i n : ℕ) → run_long s k first (i + n) ≡ run_long s k first i + run_long s k (first + i) n
unfolding run_long
run-add s k first i zero = let q : i + 0 ≡ i = omega arith in rw q (omega arith)
run-add s k first i (suc n) =
    let q : i + suc n ≡ suc (i + n) = omega arith in
    let e : first + (i + n) ≡ first + i + n = omega arith in
    rw q (omega (arith, run-add s k first i n, ap (item_long s k) e))

-- ---- one item

unnamed : (s : List ℕ) (k m : ℕ) → k < 7 → length (item_text s k m) ≡ length (value_text s (member_word s m 1))
unfolding item_text name_text
unnamed s k m h = rw (ne_eqb k 7 (λ e. absurd (omega arith))) (unfold choose in refl)

named : (s : List ℕ) (k m : ℕ) → k ≡ 7 → length (item_text s k m) ≡ length (quoted (text s (member_word s m 0))) + 1 + length (value_text s (member_word s m 1))
unfolding item_text
named s k m e = omega (arith, name-long s k m e, length-append (name_text s k m) (value_text s (member_word s m 1)))

module _ {s : List ℕ} {limit : ℕ} {names sizes : List ℕ} {k m : ℕ} (w : Ready s limit names sizes k m) where
  pub ready-checked : Checked s
  ready-checked = w.checked

  pub held-few : (x : ℕ) → x ≡ member_word s m 1 → x < 16384
  held-few x e = omega (arith, w.few)

  pub name-few : (x : ℕ) → 7 ≤ k → x ≡ member_word s m 0 → x < 16384
  name-few x h e = omega (arith, w.name-few h)

  pub array-item : (r held x : ℕ) → r ≡ min (held + 1) limit → held ≡ get_or sizes x 0 → x ≡ member_word s m 1 → k < 7 → r ≡ min (item_long s k m) limit
  unfolding item_long
  array-item r held x er eh ex h =
      let q : held ≡ value_long s limit (member_word s m 1) = eh ∙ ap (λ (y : ℕ). get_or sizes y 0) ex ∙ w.held in
      omega (arith, er, q, unnamed s k m h)

  pub object-item : (r two name held x y : ℕ) → r ≡ min (two + 2) limit → two ≡ min (name + held) limit → name ≡ get_or names y 0 → held ≡ get_or sizes x 0 → y ≡ member_word s m 0 → x ≡ member_word s m 1 → 7 ≤ k → r ≡ min (item_long s k m) limit
  unfolding item_long
  object-item r two name held x y er et en eh ey ex h =
      let q : held ≡ value_long s limit (member_word s m 1) = eh ∙ ap (λ (y : ℕ). get_or sizes y 0) ex ∙ w.held in
      let n : name ≡ string_long s limit (member_word s m 0) = en ∙ ap (λ (y : ℕ). get_or names y 0) ey ∙ w.name h in
      omega (arith, er, et, q, n, named s k m (omega (arith, w.high)))

-- ---- a block

-- the first i of a block's items
pub record Adding (s : List ℕ) (limit k at i total : ℕ) : Type 0 where
  pub low : i ≤ 512
  pub is : total ≡ min (run_long s k at i) limit

pub adding-none : (s : List ℕ) (limit k at : ℕ) → Adding s limit k at 0 0
unfolding run_long
adding-none s limit k at = record { low = omega arith; is = omega arith }

pub ready_at : {s : List ℕ} {limit : ℕ} {names sizes : List ℕ} {k at count : ℕ} (i : ℕ) → Readies s limit names sizes k at count → i < count → Ready s limit names sizes k (at + i)
ready_at i w h = w.ready i h

pub adding-more : {s : List ℕ} {limit k at i total one r : ℕ} → r ≡ min (total + one) limit → Adding s limit k at i total → one ≡ min (item_long s k (at + i)) limit → i < 512 → Adding s limit k at (i + 1) r
adding-more {s} {limit} {k} {at} {i} {total} {one} {r} er g eo h =
    record { low = omega arith; is = omega (arith, er, eo, g.is, run_more s k at i) }

pub adding-all : {s : List ℕ} {limit k at i total : ℕ} → Adding s limit k at i total → 512 ≤ i → total ≡ min (run_long s k at 512) limit
adding-all {s} {limit} {k} {at} {i} {total} g h =
    let q : i ≡ 512 = omega (arith, g.low) in
    g.is ∙ ap (λ (n : ℕ). min (run_long s k at n) limit) q

-- ---- blocks that are kept

pub sums_known : {s : List ℕ} {limit : ℕ} {names sizes : List ℕ} {w : ℕ} (sums : List ℕ) (at k b : ℕ) → Sums s limit sums → Readies s limit names sizes k (512 * b) 512 → (get_or sums at 0 ≡ 0 → ⊥) → at ≡ 2 * b + w → w ≡ k → 6 ≤ k → get_or sums at 0 ≡ min (run_long s k (512 * b) 512) limit
sums_known {s} {limit} {names} {sizes} {w} sums at k b g f n e q h =
    let z : get_or sums at 0 ≡ get_or sums (2 * b + k) 0 = ap (λ (y : ℕ). get_or sums y 0) (e ∙ ap (λ (y : ℕ). 2 * b + y) q) in
    z ∙ g.known k b h (f.ready 0 (omega arith)).high (λ y. n (z ∙ y))

pub sums_more : {s : List ℕ} {limit : ℕ} {sums names sizes : List ℕ} {at w x : ℕ} (k b : ℕ) → x ≡ min (run_long s k (512 * b) 512) limit → Sums s limit sums → Readies s limit names sizes k (512 * b) 512 → at ≡ 2 * b + w → w ≡ k → 6 ≤ k → Sums s limit (set sums at x)
sums_more {s} {limit} {sums} {names} {sizes} {at} {w} {x} k b ex g f e q h =
    record { known = λ k' b' h' l' n. go k' b' h' l' n (set_get 0 sums at (2 * b' + k') x) }
  where
    go : (k' b' : ℕ) → 6 ≤ k' → k' < 8 → (get_or (set sums at x) (2 * b' + k') 0 ≡ 0 → ⊥) → ((get_or (set sums at x) (2 * b' + k') 0 ≡ get_or sums (2 * b' + k') 0) ⊎ ((2 * b' + k' ≡ at) × (get_or (set sums at x) (2 * b' + k') 0 ≡ x))) → get_or (set sums at x) (2 * b' + k') 0 ≡ min (run_long s k' (512 * b') 512) limit
    go k' b' h' l' n (inl p) = p ∙ g.known k' b' h' l' (λ z. n (p ∙ z))
    go k' b' h' l' n (inr p) =
        let kk : k ≡ k' = omega (arith, p.0, e, q, h, h', l', (f.ready 0 (omega arith)).high) in
        let bb : b ≡ b' = omega (arith, p.0, e, q, kk) in
        p.1 ∙ ex ∙ rw (kk, bb) refl

pub slot_in : {s : List ℕ} {limit : ℕ} {names sizes : List ℕ} {k w : ℕ} (b at : ℕ) → Readies s limit names sizes k (512 * b) 512 → at ≡ 2 * b + w → w ≡ k → b < 1024 → at < 2056
slot_in b at f e q h = omega (arith, (f.ready 0 (omega arith)).high)

pub sums_none : (s : List ℕ) (limit : ℕ) {sums : List ℕ} → ((b : ℕ) → get_or sums b 0 ≡ 0) → Sums s limit sums
sums_none s limit h = record { known = λ k b l m f. absurd (f (h (2 * b + k))) }

-- ---- a run

pub record Running (s : List ℕ) (limit k first items start : ℕ) (sums : List ℕ) (i total : ℕ) : Type 0 where
  pub low : i ≤ items
  pub is : total ≡ min (start + run_long s k first i) limit
  pub kept : Sums s limit sums

pub running_none : {s : List ℕ} {limit k first items start : ℕ} {sums : List ℕ} {r : ℕ} → r ≡ min (0 + start) limit → Sums s limit sums → Running s limit k first items start sums 0 r
unfolding run_long
running_none er g = record { low = omega arith; is = omega (arith, er); kept = g }

pub running-ready : {s : List ℕ} {limit : ℕ} {names sizes : List ℕ} {k first items i at : ℕ} → Readies s limit names sizes k first items → i < items → at ≡ first + i → Ready s limit names sizes k at
running-ready {i = i} w h e = rw e (w.ready i h)

pub running-one : {s : List ℕ} {limit k first items start : ℕ} {sums : List ℕ} {i total at one r : ℕ} → r ≡ min (total + one) limit → Running s limit k first items start sums i total → one ≡ min (item_long s k at) limit → at ≡ first + i → i < items → Running s limit k first items start sums (i + 1) r
running-one {s} {limit} {k} {first} {items} {start} {sums} {i} {total} {at} {one} {r} er g eo e h = record {
  low = omega arith;
  is = omega (arith, er, eo, g.is, ap (item_long s k) e, run_more s k first i);
  kept = g.kept;
}

module _ (items i at : ℕ) (t : at % 512 ≡ 0) (w : ltb (items - i) 512 ≡ false) (h : i < items) where
  fits : i + 512 ≤ items
  fits = omega (arith, ltb-false (items - i) 512 w)

  aligned : 512 * (at / 512) ≡ at
  aligned = omega arith

pub running_in : {s : List ℕ} {limit : ℕ} {names sizes : List ℕ} {k first items i : ℕ} (at : ℕ) → Readies s limit names sizes k first items → at ≡ first + i → at % 512 ≡ 0 → ltb (items - i) 512 ≡ false → i < items → Readies s limit names sizes k (512 * (at / 512)) 512
running_in {s} {limit} {names} {sizes} {k} {first} {items} {i} at r e t w h =
    record { ready = λ j l. let q : 512 * (at / 512) + j ≡ first + (i + j) = omega (arith, aligned items i at t w h, e) in rw q (r.ready (i + j) (omega (arith, fits items i at t w h))) }

pub running-few : (first items i at : ℕ) → at ≡ first + i → at % 512 ≡ 0 → ltb (items - i) 512 ≡ false → i < items → first + items ≤ 524288 → at / 512 < 1024
running-few first items i at e t w h l = omega (arith, fits items i at t w h)

pub running-block : {s : List ℕ} {limit k first items start : ℕ} {sums sums' : List ℕ} {i total at block r : ℕ} → r ≡ min (total + block) limit → Running s limit k first items start sums i total → block ≡ min (run_long s k (512 * (at / 512)) 512) limit → at ≡ first + i → at % 512 ≡ 0 → ltb (items - i) 512 ≡ false → i < items → Sums s limit sums' → Running s limit k first items start sums' (i + 512) r
running-block {s} {limit} {k} {first} {items} {start} {sums} {sums'} {i} {total} {at} {block} {r} er g eb e t w h f =
    let q : 512 * (at / 512) ≡ first + i = omega (arith, aligned items i at t w h, e) in
    record {
      low = fits items i at t w h;
      is = omega (arith, er, eb, g.is, ap (λ (x : ℕ). run_long s k x 512) q, run-add s k first i 512);
      kept = f;
    }

pub running-all : {s : List ℕ} {limit k first items start : ℕ} {sums : List ℕ} {i total : ℕ} → Running s limit k first items start sums i total → items ≤ i → total ≡ min (start + run_long s k first items) limit
running-all {s} {limit} {k} {first} {items} {start} {sums} {i} {total} g h =
    let q : i ≡ items = omega (arith, g.low) in
    g.is ∙ ap (λ (n : ℕ). min (start + run_long s k first n) limit) q

pub running_sums : {s : List ℕ} {limit k first items start : ℕ} {sums : List ℕ} {i total : ℕ} → Running s limit k first items start sums i total → Sums s limit sums
running_sums g = g.kept

-- an entry, where the code has its place as another number
pub entry-is : (table : List ℕ) (n at : ℕ) → at ≡ n → get_or table at 0 ≡ get_or table n 0
entry-is table n at e = ap (λ (x : ℕ). get_or table x 0) e
