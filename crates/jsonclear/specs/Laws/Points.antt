-- Entities by blocks, and a point's event by the marks of its values
use Rattle.std.specs.Prelude.{◌≡◌, Bool, false, not, List, map, eqb, ltb, length, get_or, set}
use Rattle.std.proofs.Math.Path.{refl, sym, ap, ap₂}
use Rattle.std.proofs.Common.{◌∙◌, length-set}
use Rattle.std.proofs.Math.Bool.{true}
use Rattle.std.proofs.Math.Option.{Option, none, some}
use Prim.Native.Nat.{ℕ, zero, suc, ◌+◌, ◌*◌, ◌-◌, ◌/◌, ◌%◌, ◌<◌, ◌≤◌}
use native.Mathlib.Omega.{arith}
use borrow.Author.Tests.{eq-eqb, ne_eqb, eqb-true, le-leb, lt-leb, leb-true, ltb-true, ltb-false, not-true, not-false}
use Rattle.meaning.specs.Tests.{◌and◌, ◌or◌, choose, only_if, pick, all_below}
use Rattle.meaning.specs.Case.{nothing, maybe, values, points, lists, list, text, value_word, point_word, value_from, value_at, part_at, entity_at, point_at, places}
use Rattle.meaning.specs.Text.{free}
use Rattle.meaning.specs.Check.{Checked, is_object, maybe_value, entity_rule, entity_item, entity_run, point_rule, point_rules, in_table, is_string, string_run}
use Rattle.laws.specs.Tests.{Filled, filled_none, yes, no, both, stop, skip, pass, after, all-add, all_more, all-stop, all_same, all-at, shorter}
use Rattle.laws.specs.Checked.{rules, values-most}
use Rattle.stringcheck.specs.Mosts.{list-most}
use Rattle.jsonput.specs.Filled.{fill-at, filled-all}
use Rattle.jsontext.specs.Values.{J, Object as Object-as-J}
use Rattle.jsontrace.specs.Export.{members_of, tree_of, tree_at, maybe_tree, item_of, event_of, point_events, clear, clear_maybe, clear_items, clear_event, clear_events}
use Rattle.jsonput.specs.Values.{tree_is}
use Rattle.jsonclear.specs.Clear.{mark_at, clear_at, entity_clear, maybe_marked, block_start, Entities, fields_clear}
use Rattle.jsonclear.specs.Laws.Values.{front}

-- ---- a mark

pub far-mark : (marks : List Bool) (v : ℕ) → 16384 ≤ v → false ≡ mark_at marks v
unfolding mark_at
far-mark marks v h = sym (yes _ (le-leb 16384 v h))

near-mark : (marks : List Bool) (v : ℕ) → v < 16384 → mark_at marks v ≡ get_or marks v false
unfolding mark_at
near-mark marks v h = no _ (lt-leb 16384 v h) refl

pub mark-is : (marks : List Bool) (v at : ℕ) → v < 16384 → at ≡ v → get_or marks at false ≡ mark_at marks v
mark-is marks v at h e = ap (λ (x : ℕ). get_or marks x false) e ∙ sym (near-mark marks v h)

pub maybe-none : (marks : List Bool) (v : ℕ) → v ≡ 4294967295 → true ≡ maybe_marked marks v
unfolding maybe_marked
maybe-none marks v e = sym (yes _ (eq-eqb v 4294967295 e))

pub maybe-some : (marks : List Bool) (v : ℕ) (r : Bool) → r ≡ mark_at marks v → (v ≡ 4294967295 → ⊥) → r ≡ maybe_marked marks v
unfolding maybe_marked
maybe-some marks v r e n = e ∙ sym (no _ (ne_eqb v 4294967295 n) refl)

-- ---- entities one by one

pub record Going (s : List ℕ) (marks : List Bool) (first items i : ℕ) : Type 0 where
  pub low : i ≤ items
  pub is : all_below i (entity_clear s marks first) ≡ true

pub going-none : {s : List ℕ} {marks : List Bool} {first items : ℕ} → Going s marks first items 0
going-none = record { low = omega arith; is = unfold all_below in refl }

one-is : (s : List ℕ) (marks : List Bool) (first i at w : ℕ) (r : Bool) → r ≡ mark_at marks w → w ≡ list s at → at ≡ first + 3 * i + 2 → r ≡ entity_clear s marks first i
unfolding entity_clear
one-is s marks first i at w r er ew ea = er ∙ ap (mark_at marks) (ew ∙ ap (list s) ea)

pub going-stop : {s : List ℕ} {marks : List Bool} {first items i w : ℕ} {r : Bool} (at : ℕ) → Going s marks first items i → i < items → not r ≡ true → r ≡ mark_at marks w → w ≡ list s at → at ≡ first + 3 * i + 2 → false ≡ all_below items (entity_clear s marks first)
going-stop {s} {marks} {first} {items} {i} {w} {r} at g l n er ew ea =
    sym (all-stop (entity_clear s marks first) items i l (sym (one-is s marks first i at w r er ew ea) ∙ not-true r n))

pub going_more : {s : List ℕ} {marks : List Bool} {first items i w : ℕ} {r : Bool} (at : ℕ) → Going s marks first items i → i < items → not r ≡ false → r ≡ mark_at marks w → w ≡ list s at → at ≡ first + 3 * i + 2 → Going s marks first items (i + 1)
going_more {s} {marks} {first} {items} {i} {w} {r} at g l n er ew ea = record {
  low = omega arith;
  is = all_more (entity_clear s marks first) i g.is (sym (one-is s marks first i at w r er ew ea) ∙ not-false r n);
}

pub going-all : {s : List ℕ} {marks : List Bool} {first items i : ℕ} → Going s marks first items i → items ≤ i → true ≡ all_below items (entity_clear s marks first)
going-all {s} {marks} {first} {items} {i} g h =
    let q : i ≡ items = omega (arith, g.low) in sym (ap (λ (k : ℕ). all_below k (entity_clear s marks first)) (sym q) ∙ g.is)

-- ---- by blocks

pub record Blocking (s : List ℕ) (marks : List Bool) (n : ℕ) (blocks : List Bool) (k : ℕ) : Type 0 where
  pub checked : Checked s
  pub low : k ≤ n
  pub many : n ≡ 3 * (lists s / 1536)
  pub few : n ≤ 2052
  pub size : length blocks ≡ 2052
  pub are : Filled false (λ k. all_below 512 (entity_clear s marks (block_start k))) blocks k

pub blocking_none : {s : List ℕ} {marks blocks : List Bool} {n w m : ℕ} → Checked s → n ≡ 3 * (w / 1536) → w ≡ m → m ≡ lists s → length blocks ≡ 2052 → Blocking s marks n blocks 0
blocking_none {s} c e ew em l = record { checked = c; low = omega arith; many = omega arith; few = omega (arith, list-most s (rules s c).mosts (rules s c).bodies); size = l; are = filled_none }

pub blocking_in : {s : List ℕ} {marks blocks : List Bool} {n : ℕ} (k : ℕ) → Blocking s marks n blocks k → k < n → 1536 * (k / 3) + k % 3 + 3 * 512 < 4294967296
blocking_in k g l = omega (arith, g.few)

pub blocking_more : {s : List ℕ} {marks blocks : List Bool} {n k : ℕ} {r : Bool} → Blocking s marks n blocks k → k < n → r ≡ all_below 512 (entity_clear s marks (1536 * (k / 3) + k % 3)) → Blocking s marks n (set blocks k r) (k + 1)
blocking_more {s} {marks} {blocks} {n} {k} {r} g l e = record {
  checked = g.checked;
  low = omega arith;
  many = g.many;
  few = g.few;
  size = length-set blocks k r ∙ g.size;
  are = fill-at r refl (omega (arith, g.size, g.few)) g.are e;
}

pub blocking_all : {s : List ℕ} {marks blocks : List Bool} {n k : ℕ} → Blocking s marks n blocks k → n ≤ k → Entities s marks blocks
blocking_all {s} g h = record { are = filled-all (3 * (lists s / 1536)) g.many h g.low g.are }

module _ {s : List ℕ} {marks blocks : List Bool} (first items i at k : ℕ) (c : Checked s) (t : Entities s marks blocks) (inside : first + 3 * items ≤ lists s) (ea : at ≡ first + 3 * i) (a : at % 1536 < 3) (w : ltb (items - i) 512 ≡ false) (h : i < items) (ek : k ≡ 3 * (at / 1536) + at % 1536) where
  fits : i + 512 ≤ items
  fits = omega (arith, ltb-false (items - i) 512 w)

  in_blocks : k < 3 * (lists s / 1536)
  in_blocks = omega (arith, fits, inside)

  pub run_in : k < 2052
  run_in = omega (arith, in_blocks, list-most s (rules s c).mosts (rules s c).bodies)

  here : block_start k ≡ at
  here = omega arith

  block : get_or blocks k false ≡ all_below 512 (λ j. entity_clear s marks first (i + j))
  unfolding entity_clear
  block = t.are.at k in_blocks ∙ all_same _ _ 512 (λ j l. let q : block_start k + 3 * j + 2 ≡ first + 3 * (i + j) + 2 = omega (arith, here, ea) in ap (λ (x : ℕ). mark_at marks (list s x)) q)

  pub run-stop : not (get_or blocks k false) ≡ true → false ≡ all_below items (entity_clear s marks first)
  run-stop n = sym (shorter (entity_clear s marks first) (i + 512) items fits (all-add (entity_clear s marks first) i 512 ∙ skip _ (sym block ∙ not-true _ n)))

  pub run_more : Going s marks first items i → not (get_or blocks k false) ≡ false → Going s marks first items (i + 512)
  run_more g n = record { low = fits; is = all-add (entity_clear s marks first) i 512 ∙ pass g.is (sym block ∙ not-false _ n) }

-- ---- a point

next : (first i : ℕ) → first + 3 + 3 * i + 2 ≡ first + 3 * suc i + 2
next first i = omega arith

pub is_none : (v : ℕ) → eqb v nothing ≡ true → maybe v ≡ none
unfolding maybe only_if choose
is_none v e = rw e refl

pub is_some : (v : ℕ) → eqb v nothing ≡ false → maybe v ≡ some v
unfolding maybe only_if choose
is_some v e = rw e refl

there : (a b : Bool) → a ≡ false → (a or b) ≡ b
unfolding ◌or◌
there a b e = rw e refl

-- an object's members are the tree
module _ {s : List ℕ} (c : Checked s) where
  pub object-is : (v : ℕ) → is_object s v ≡ true → Object-as-J (members_of (tree_at s v)) ≡ tree_at s v
  unfolding members_of tree_of value_from value_at pick
  object-is v h = ap (λ (j : J). Object-as-J (members_of j)) shape ∙ sym shape
    where
      shape : tree_at s v ≡ tree_of s (tree_at s) (value_from (part_at s) 7 (value_word s v 1) (value_word s v 2))
      shape =
          let seven : value_word s v 0 ≡ 7 = eqb-true (value_word s v 0) 7 (both (ltb v (values s)) (eqb (value_word s v 0) 7) h).1 in
          tree_is c v ∙ ap (λ (k : ℕ). tree_of s (tree_at s) (value_from (part_at s) k (value_word s v 1) (value_word s v 2))) seven

  pub object-mark : (marks : List Bool) (v : ℕ) → Filled false (clear_at s) marks (values s) → is_object s v ≡ true → clear (Object-as-J (members_of (tree_at s v))) ≡ mark_at marks v
  unfolding clear_at
  object-mark marks v f h =
      let there : v < values s = ltb-true v (values s) (both (ltb v (values s)) _ h).0 in
      ap clear (object-is v h) ∙ sym (near-mark marks v (omega (arith, values-most c)) ∙ f.at v there)

  maybe-mark : (marks : List Bool) (v : ℕ) → Filled false (clear_at s) marks (values s) → maybe_value s v ≡ true → clear_maybe (maybe_tree s (maybe v)) ≡ maybe_marked marks v
  unfolding clear_maybe maybe_tree clear_at maybe_marked
  maybe-mark marks v f h = go (eqb v nothing) refl
    where
      marked : v < values s → mark_at marks v ≡ clear (tree_at s v)
      marked l = near-mark marks v (omega (arith, values-most c)) ∙ f.at v l

      go : (b : Bool) → eqb v nothing ≡ b → clear_maybe (maybe_tree s (maybe v)) ≡ choose (eqb v nothing) true (mark_at marks v)
      go true e = ap (λ (o : Option ℕ). clear_maybe (maybe_tree s o)) (is_none v e) ∙ sym (yes _ e)
      go false e =
          ap (λ (o : Option ℕ). clear_maybe (maybe_tree s o)) (is_some v e)
          ∙ sym (marked (ltb-true v (values s) (sym (there (eqb v nothing) (ltb v (values s)) e) ∙ h)))
          ∙ sym (no _ e refl)

  items-mark : (marks : List Bool) → Filled false (clear_at s) marks (values s) → (first n : ℕ) → ((i : ℕ) → i < n → is_object s (list s (first + 3 * i + 2)) ≡ true) → clear_items (map (item_of s) (map (entity_at s) (places first 3 n))) ≡ all_below n (entity_clear s marks first)
  unfolding clear_items places item_of entity_at all_below entity_clear
  items-mark marks f first zero o = refl
  items-mark marks f first (suc n) o =
      let two : first + 3 * 0 + 2 ≡ first + 2 = omega arith in
      let one : is_object s (list s (first + 2)) ≡ true = ap (λ (m : ℕ). is_object s (list s m)) (sym two) ∙ o 0 (omega arith) in
      let mine : mark_at marks (list s (first + 2)) ≡ mark_at marks (list s (first + 3 * 0 + 2)) = ap (λ (m : ℕ). mark_at marks (list s m)) (sym two) in
      let rest : all_below n (λ i. mark_at marks (list s (first + 3 + 3 * i + 2))) ≡ all_below n (λ i. mark_at marks (list s (first + 3 * suc i + 2))) = all_same _ _ n (λ i l. ap (λ (m : ℕ). mark_at marks (list s m)) (next first i)) in
      ap₂ ◌and◌ (object-mark marks (list s (first + 2)) f one ∙ mine) (items-mark marks f (first + 3) n (λ i l. ap (λ (m : ℕ). is_object s (list s m)) (next first i) ∙ o (suc i) (omega arith)) ∙ rest)
      ∙ sym (front (λ i. mark_at marks (list s (first + 3 * i + 2))) n)

-- what a point's rule says of its words
pub record Fine (s : List ℕ) (p : ℕ) : Type 0 where
  pub namespace : string_run s (point_word s p 2) (point_word s p 3) ≡ true
  pub action : is_string s (point_word s p 4) ≡ true
  pub kind : is_string s (point_word s p 5) ≡ true
  pub logged : is_object s (point_word s p 6) ≡ true
  pub context : is_object s (point_word s p 7) ≡ true
  pub principal : maybe_value s (point_word s p 8) ≡ true
  pub resource : maybe_value s (point_word s p 9) ≡ true
  pub entities : entity_run s (point_word s p 10) (point_word s p 11) ≡ true

pub fine : {s : List ℕ} (c : Checked s) (p : ℕ) → p < points s → Fine s p
fine {s} c p l = unfold point_rule in
    let a = both (string_run s (point_word s p 2) (point_word s p 3)) _ rule in
    let b = both (is_string s (point_word s p 4)) _ a.1 in
    let d = both (is_string s (point_word s p 5)) _ b.1 in
    let e = both (is_object s (point_word s p 6)) _ d.1 in
    let f = both (is_object s (point_word s p 7)) _ e.1 in
    let g = both (maybe_value s (point_word s p 8)) _ f.1 in
    let h = both (maybe_value s (point_word s p 9)) _ g.1 in
    record { namespace = a.0; action = b.0; kind = d.0; logged = e.0; context = f.0; principal = g.0; resource = h.0; entities = h.1 }
  where
    rule : point_rule s p ≡ true
    rule = unfold point_rules in all-at (point_rule s) (points s) p (rules s c).points l

pub entity-rule : (s : List ℕ) (first items i : ℕ) → entity_run s first items ≡ true → i < items → entity_rule s (first + 3 * i) ≡ true
unfolding entity_run entity_item
entity-rule s first items i r h = (both (entity_rule s (first + 3 * i)) _ (all-at (entity_item s first) items i (both (in_table (lists s) 3 first items) _ r).1 h)).0

pub entity-object : (s : List ℕ) (m : ℕ) → entity_rule s m ≡ true → is_object s (list s (m + 2)) ≡ true
unfolding entity_rule
entity-object s m r = (both (is_string s (list s (m + 1))) _ (both (is_string s (list s m) and free 34 (text s (list s m))) _ r).1).1

in_lists : (s : List ℕ) (first items : ℕ) → entity_run s first items ≡ true → first + 3 * items ≤ lists s
unfolding entity_run
in_lists s first items r = leb-true _ _ (both (in_table (lists s) 3 first items) _ r).0

regroup : (a b d e g : Bool) → (a and b and d and e and g) ≡ (((a and b) and (d and e)) and g)
unfolding ◌and◌
regroup true true true e g = refl
regroup true true false e g = refl
regroup true false d e g = refl
regroup false b d e g = refl

module _ {s : List ℕ} {marks : List Bool} (c : Checked s) (p : ℕ) (l : p < points s) (f : Filled false (clear_at s) marks (values s)) where
  objects : (i : ℕ) → i < point_word s p 11 → is_object s (list s (point_word s p 10 + 3 * i + 2)) ≡ true
  objects i h = entity-object s (point_word s p 10 + 3 * i) (entity-rule s (point_word s p 10) (point_word s p 11) i (fine c p l).entities h)

  event-is : clear_event (event_of s (point_at s p)) ≡ (fields_clear s marks p and all_below (point_word s p 11) (entity_clear s marks (point_word s p 10)))
  unfolding clear_event event_of point_at fields_clear
  event-is =
      ap₂ ◌and◌ (object-mark c marks (point_word s p 6) f (fine c p l).logged) (ap₂ ◌and◌ (object-mark c marks (point_word s p 7) f (fine c p l).context) (ap₂ ◌and◌ (maybe-mark c marks (point_word s p 8) f (fine c p l).principal) (ap₂ ◌and◌ (maybe-mark c marks (point_word s p 9) f (fine c p l).resource) (items-mark c marks f (point_word s p 10) (point_word s p 11) objects))))
      ∙ regroup _ _ _ _ _

pub point-no : (s : List ℕ) {marks : List Bool} (p : ℕ) {r : Bool} → Checked s → p < points s → Filled false (clear_at s) marks (values s) → not r ≡ true → r ≡ fields_clear s marks p → false ≡ clear_event (event_of s (point_at s p))
point-no s p {r} c l f n e = sym (event-is c p l f ∙ stop _ (sym e ∙ not-true r n))

pub point-run : (s : List ℕ) {marks : List Bool} (p : ℕ) {r : Bool} (x : Bool) {first items a b : ℕ} → Checked s → p < points s → Filled false (clear_at s) marks (values s) → not r ≡ false → r ≡ fields_clear s marks p → x ≡ all_below items (entity_clear s marks first) → first ≡ a → a ≡ point_word s p 10 → items ≡ b → b ≡ point_word s p 11 → x ≡ clear_event (event_of s (point_at s p))
point-run s {marks} p {r} x {first} {items} c l f n e ex ef ea ei eb =
    ex ∙ ap₂ (λ (m k : ℕ). all_below k (entity_clear s marks m)) (ef ∙ ea) (ei ∙ eb) ∙ sym (event-is c p l f ∙ after (sym e ∙ not-false r n))

pub run_fits : {s : List ℕ} {first items a b : ℕ} (p : ℕ) → Checked s → p < points s → first ≡ a → a ≡ point_word s p 10 → items ≡ b → b ≡ point_word s p 11 → first + 3 * items ≤ lists s
run_fits {s} p c l ef ea ei eb = omega (arith, in_lists s (point_word s p 10) (point_word s p 11) (fine c p l).entities)

-- ---- all points

pub record Passing (s : List ℕ) (n p : ℕ) : Type 0 where
  pub low : p ≤ n
  pub many : n ≡ points s
  pub is : all_below p (λ q. clear_event (event_of s (point_at s q))) ≡ true

step : (first i : ℕ) → first + 1 + i ≡ first + suc i
step first i = omega arith

events-are : (s : List ℕ) (first n : ℕ) → clear_events (map (λ p. event_of s (point_at s p)) (places first 1 n)) ≡ all_below n (λ i. clear_event (event_of s (point_at s (first + i))))
unfolding clear_events places all_below
events-are s first zero = refl
events-are s first (suc n) =
    let zeroth : first ≡ first + 0 = omega arith in
    let rest : all_below n (λ i. clear_event (event_of s (point_at s (first + 1 + i)))) ≡ all_below n (λ i. clear_event (event_of s (point_at s (first + suc i)))) = all_same _ _ n (λ i h. ap (λ (p : ℕ). clear_event (event_of s (point_at s p))) (step first i)) in
    ap₂ ◌and◌ (ap (λ (p : ℕ). clear_event (event_of s (point_at s p))) zeroth) (events-are s (first + 1) n ∙ rest)
    ∙ sym (front (λ i. clear_event (event_of s (point_at s (first + i)))) n)

all_are : (s : List ℕ) → clear_events (point_events s) ≡ all_below (points s) (λ q. clear_event (event_of s (point_at s q)))
unfolding point_events
all_are s = events-are s 0 (points s) ∙ all_same _ _ (points s) (λ i h. let q : 0 + i ≡ i = omega arith in ap (λ (p : ℕ). clear_event (event_of s (point_at s p))) q)

pub passing-none : {s : List ℕ} {n w : ℕ} → n ≡ w → w ≡ points s → Passing s n 0
passing-none e f = record { low = omega arith; many = omega arith; is = unfold all_below in refl }

pub passing-there : {s : List ℕ} {n : ℕ} (p : ℕ) → Passing s n p → p < n → p < points s
passing-there p g l = omega (arith, g.many)

pub passing-stop : (s : List ℕ) {n p : ℕ} {r : Bool} → Passing s n p → p < n → not r ≡ true → r ≡ clear_event (event_of s (point_at s p)) → false ≡ clear_events (point_events s)
passing-stop s {n} {p} {r} g l n' e = sym (all_are s ∙ all-stop (λ q. clear_event (event_of s (point_at s q))) (points s) p (omega (arith, g.many)) (sym e ∙ not-true r n'))

pub passing-more : {s : List ℕ} {n p : ℕ} {r : Bool} → Passing s n p → p < n → not r ≡ false → r ≡ clear_event (event_of s (point_at s p)) → Passing s n (p + 1)
passing-more {s} {n} {p} {r} g l n' e = record {
  low = omega arith;
  many = g.many;
  is = all_more (λ q. clear_event (event_of s (point_at s q))) p g.is (sym e ∙ not-false r n');
}

pub passing-all : (s : List ℕ) {n p : ℕ} → Passing s n p → n ≤ p → true ≡ clear_events (point_events s)
passing-all s {n} {p} g h =
    let q : p ≡ points s = omega (arith, g.low, g.many) in
    sym (all_are s ∙ ap (λ (k : ℕ). all_below k (λ q. clear_event (event_of s (point_at s q)))) (sym q) ∙ g.is)

pub run-few : {s : List ℕ} {first items a b : ℕ} (p : ℕ) → Checked s → p < points s → first ≡ a → a ≡ point_word s p 10 → items ≡ b → b ≡ point_word s p 11 → first + 3 * items < 4294967296
run-few {s} p c l ef ea ei eb = omega (arith, run_fits p c l ef ea ei eb, list-most s (rules s c).mosts (rules s c).bodies)
