-- Equality of values is an equivalence; values found equal are joined in a table
use mathlib.Core.Path.{◌≡◌, refl, sym, ◌∙◌}
use mathlib.Core.Bool.{Bool, true, false, not}
use mathlib.Core.List.{List, [], ◌∷◌}
use Prim.Native.Nat.{ℕ, zero, suc, ◌+◌, ◌-◌, ◌<◌, ◌≤◌}
use native.Mathlib.Omega.{arith}
use lib.Dec.{eqb}
use lib.ListN.{get_or, set, replicate, length-set, length-replicate}
use lib.Seq.{get_or-set_same, get_or-set_other}
use borrow.Author.Tests.{eqb-true, eqb-false}
use Rattle.meaning.specs.Case.{Part, value_at, case_of}
use Rattle.meaning.specs.Check.{Checked}
use Rattle.meaning.specs.Equal.{see, alike, same_list, same_parts, same_value}
use Rattle.laws.specs.Tests.{both}
use Rattle.laws.specs.Lists.{Every, every_map}
use Rattle.laws.specs.Values.{held}
use Rattle.laws.specs.Checked.{lower-parts, same_value-is}
use Rattle.equality.specs.declared.Ends.{Ends}
use Rattle.equality.specs.declared.Runs.{Runs}
use Rattle.meaning.specs.declared.ValNo.{ValNo}
use Rattle.std.specs.Prelude.{Option as Maybe, Some, None}
use Rattle.std.proofs.Common.{ControlFlow, Break, Continue}
use Rattle.equality.specs.Joined.{Headed, Paired, Joined, Inside, Stepped, Next, Led, Leads, Ended, Met, Compared}
use Rattle.equality.proofs.Alike.{same_number, left_in, right_in, Going, go-start, go-name, go-no, go-more, go-end}

-- ---- values equal to each other are equal to the same values

same-list : (l m : List ℕ) → same_list l m ≡ true → l ≡ m
unfolding same_list
same-list [] [] e = refl
same-list [] (y ∷ m) e = cc
same-list (x ∷ l) [] e = cc
same-list (x ∷ l) (y ∷ m) e =
    let h = both (eqb x y) (same_list l m) e in
    cc (eqb-true x y h.0, same-list l m h.1)

abbrev Alike : (ℕ → ℕ → Bool) → ℕ → Type 0
Alike eq j = (y z : ℕ) → eq j y ≡ true → eq j z ≡ eq y z

parts-alike : (eq : ℕ → ℕ → Bool) (ps qs rs : List Part) → Every (Alike eq) (held ps) → same_parts eq ps qs ≡ true → same_parts eq ps rs ≡ same_parts eq qs rs
unfolding same_parts held
parts-alike eq [] [] rs l e = refl
parts-alike eq [] (q ∷ qs) rs l e = cc
parts-alike eq (p ∷ ps) [] rs l e = cc
parts-alike eq (p ∷ ps) (q ∷ qs) [] l e = refl
parts-alike eq (p ∷ ps) (q ∷ qs) (r ∷ rs) l e =
    let h = both (eqb p.name q.name) _ e in
    let t = both (eq p.value q.value) _ h.1 in
    rw (eqb-true p.name q.name h.0, l.0 q.value r.value t.0, parts-alike eq ps qs rs l.1 t.1) refl

alike-below : {s : List ℕ} → Checked s → (bound v : ℕ) → v < bound → Alike (same_value (case_of s)) v
unfolding alike
alike-below c zero v h y z e = absurd (omega arith)
alike-below {s} c (suc bound) v h y z e =
    let eq = same_value (case_of s) in
    let a = see (case_of s) (value_at s v) in
    let b = see (case_of s) (value_at s y) in
    let d = see (case_of s) (value_at s z) in
    let k = both (eqb a.kind b.kind) _ (sym (same_value-is c v y) ∙ e) in
    let l = both (same_list a.key b.key) _ k.1 in
    let parts = parts-alike eq a.parts b.parts d.parts (every_map (held a.parts) (λ j hj. alike-below c bound j (omega arith)) (lower-parts c v)) l.1 in
    same_value-is c v z
    ∙ rw (eqb-true a.kind b.kind k.0, same-list a.key b.key l.0, parts) refl
    ∙ sym (same_value-is c y z)

module _ {s : List ℕ} (c : Checked s) where
  same-like : (a b d : ℕ) → same_value (case_of s) a b ≡ true → same_value (case_of s) a d ≡ same_value (case_of s) b d
  same-like a b d = alike-below c (suc a) a (omega arith) b d

  same-sym : (a b : ℕ) → same_value (case_of s) a b ≡ true → same_value (case_of s) b a ≡ true
  same-sym a b e = sym (same-like a b a e) ∙ sym (same_number s a a c refl)

  same_trans : (a b d : ℕ) → same_value (case_of s) a b ≡ true → same_value (case_of s) b d ≡ true → same_value (case_of s) a d ≡ true
  same_trans a b d e f = same-like a b d e ∙ f

-- ---- the table

none : (n v : ℕ) → get_or (replicate {A = ℕ} n 0) v 0 ≡ 0
none zero v = refl
none (suc n) zero = refl
none (suc n) (suc v) = none n v

pub joined-none : {s : List ℕ} → Checked s → Joined s (replicate {A = ℕ} 16384 0)
joined-none {s} c = record {
  size = length-replicate {A = ℕ} 16384 0;
  low = λ v. omega (arith, none 16384 v);
  same = λ v. sym (same_number s v (v - get_or (replicate {A = ℕ} 16384 0) v 0) c (omega (arith, none 16384 v)));
}

pub led : {s t : List ℕ} {v d : ℕ} → Next s t v d → Led s (set t v d) v d
led {s} {t} {v} {d} n = record {
  joined = record {
    size = length-set t v d ∙ n.joined.size;
    low = λ k. (go k (eqb k v) refl).0;
    same = λ k. (go k (eqb k v) refl).1;
  };
  low = n.low;
  same = n.same;
}
  where
    go : (k : ℕ) (b : Bool) → eqb k v ≡ b → (get_or (set t v d) k 0 ≤ k) × (same_value (case_of s) k (k - get_or (set t v d) k 0) ≡ true)
    go k true q = let z : k ≡ v = eqb-true k v q in rw (z, get_or-set_same t v d 0 (omega (arith, n.inside, n.joined.size))) (n.low, n.same)
    go k false q = rw (get_or-set_other t v k d 0 (eqb-false k v q)) (n.joined.low k, n.joined.same k)

-- ---- from value to value

-- v led to k, which leads to the value that is d below it
pub record Leading (s t : List ℕ) (v k d : ℕ) : Type 0 where
  pub checked : Checked s
  pub leads : Leads s t v k
  pub inside : v < 16384
  pub step : d ≡ get_or t k 0
  pub low : d ≤ k

lead_from : {s t : List ℕ} {v k d : ℕ} → Checked s → Leads s t v k → v < 16384 → d ≡ get_or t k 0 → Leading s t v k d
lead_from {k = k} c l h e = record { checked = c; leads = l; inside = h; step = e; low = omega (arith, l.joined.low k) }

pub lead_start : {s t : List ℕ} {v k d : ℕ} → Checked s → Joined s t → v < 16384 → k ≡ v → Stepped t k d → Leading s t v k d
lead_start {s} {t} {v} {k} c j h e d =
    lead_from c (record { joined = j; low = omega arith; same = sym (same_number s v k c (sym e)) }) h d.is

module _ {s t : List ℕ} {v k d : ℕ} (l : Leading s t v k d) where
  pub lead_next : (f : ℕ) → Stepped t (k - d) f → Next s t k (d + f)
  lead_next f e =
      let j = l.leads.joined in
      let lf : f ≤ k - d = omega (arith, j.low (k - d), e.is) in
      let one : same_value (case_of s) k (k - d) ≡ true = rw l.step (j.same k) in
      let q : k - (d + f) ≡ k - d - f = omega arith in
      let two : same_value (case_of s) (k - d) (k - (d + f)) ≡ true = rw (q, e.is) (j.same (k - d)) in
      record { joined = j; inside = omega (arith, l.leads.low, l.inside); low = omega (arith, l.low); same = same_trans l.checked k (k - d) (k - (d + f)) one two }

  pub lead_more : (w : List ℕ) (e f : ℕ) → Led s w k e → Stepped w (k - e) f → Leading s w v (k - e) f
  lead_more w e f m r =
      lead_from l.checked
      (record {
        joined = m.joined;
        low = omega (arith, l.leads.low);
        same = same_trans l.checked v k (k - e) l.leads.same m.same;
      })
      l.inside r.is

-- ---- two values, and those that they lead to

module _ {s t u : List ℕ} {a b : ℕ} {e : Ends} (o : Inside s u a b) (d : Ended s t a b e) where
  c : Checked s
  c = o.checked

  pub met-is : Met s t a b (eqb e.v e.w)
  met-is = record {
    joined = d.joined;
    equal = λ q. sym (same_trans c a e.v b d.same (rw (eqb-true e.v e.w q) (same-sym c b e.w d.same-other)));
  }

  module _ (q : true ≡ same_value (case_of s) a b) where
    ends_same : same_value (case_of s) e.v e.w ≡ true
    ends_same = same_trans c e.v b e.w (same_trans c e.v a b (same-sym c a e.v d.same) (sym q)) d.same-other

    pub join-down : e.v < e.w → Next s t e.w (e.w - e.v)
    join-down l =
        let z : e.w - (e.w - e.v) ≡ e.v = omega arith in
        record { joined = d.joined; inside = omega (arith, d.low-other, o.right); low = omega arith; same = rw z (same-sym c e.v e.w ends_same) }

    pub join_up : e.w ≤ e.v → Next s t e.v (e.v - e.w)
    join_up l =
        let z : e.v - (e.v - e.w) ≡ e.w = omega arith in
        record { joined = d.joined; inside = omega (arith, d.low, o.left); low = omega arith; same = rw z ends_same }

-- ---- two values compared by way of the table

-- the members of a and b before i are alike
pub record Deep (s t : List ℕ) (a b : ℕ) (h : Runs) (i : ℕ) : Type 0 where
  pub joined : Joined s t
  pub going : Going s a b h i

module _ {s t : List ℕ} {a b : ℕ} {w : ControlFlow Bool Runs} (f : Headed s a b w) where
  pub deep-said : {r : Bool} → Joined s t → w ≡ Break r → Compared s t a b r
  deep-said {r} j k = record { joined = j; answer = f.said r k }

  pub deep_in : {h : Runs} → Checked s → Joined s t → w ≡ Continue h → Inside s t a b
  deep_in c j k = record { checked = c; joined = j; left = left_in f k; right = right_in f k }

  pub deep-start : {h : Runs} {r : Bool} → Met s t a b r → w ≡ Continue h → Deep s t a b h 0
  deep-start e k = record { joined = e.joined; going = go-start f k }

pub deep-met : {s t : List ℕ} {a b : ℕ} {r : Bool} → Met s t a b r → r ≡ true → Compared s t a b true
deep-met e q = record { joined = e.joined; answer = e.equal q }

module _ {s t : List ℕ} {a b i : ℕ} {h : Runs} (g : Deep s t a b h i) where
  pub deep-end : {u : List ℕ} → h.n ≤ i → Joined s u → Compared s u a b true
  deep-end n j = record { joined = j; answer = go-end g.going n }

  module _ {o : Maybe (ValNo × ValNo)} (n : i < h.n) (p : Paired s (h.p + i) (h.q + i) o) where
    pub deep-name : o ≡ None → Compared s t a b false
    deep-name ne = record { joined = g.joined; answer = go-name g.going n p ne }

    module _ {c d : ValNo} (k : o ≡ Some (c, d)) where
      pub deep-no : {u : List ℕ} {y : Bool} → Compared s u c.0 d.0 y → not y ≡ true → Compared s u a b false
      deep-no f ny = record { joined = f.joined; answer = go-no g.going n p k f.answer ny }

      pub deep_more : {u : List ℕ} {y : Bool} → Compared s u c.0 d.0 y → not y ≡ false → Deep s u a b h (i + 1)
      deep_more f ny = record { joined = f.joined; going = go-more g.going n p k f.answer ny }
