-- From words to records: a value, a point or a node whose words are the old ones, renumbered where they name strings, is the old one with its strings renumbered
use Rattle.std.specs.Prelude.{◌≡◌, Bool, ltb, leb}
use Rattle.std.proofs.Math.Path.{refl, sym}
use Rattle.std.proofs.Common.{◌∙◌, lit<, ltb-true, ltb-false, eqb-true, eq-eqb, ne_eqb}
use Rattle.std.proofs.Math.Bool.{true, false}
use mathlib.Core.List.{List, [], ◌∷◌, map, map-map}
use Prim.Native.Nat.{ℕ, zero, suc, ◌+◌, ◌*◌, ◌/◌, ◌%◌, ◌<◌, ◌≤◌}
use native.Mathlib.Omega.{arith}
use Rattle.std.proofs.Math.Dec.{eqb}
use Rattle.std.proofs.lemmas.Bool.{lt-leb}
use Rattle.meaning.specs.declared.Node.{Node}
use Rattle.meaning.specs.Tests.{◌and◌, ◌or◌, choose, pick, within, all_below}
use Rattle.meaning.specs.Case.{Part, values, members, points, nodes, lists, value_word, member_word, point_word, node_word, list, places, run_of, under, node_from, value_from, part_at, value_at, entity_at, point_at, node_at}
use Rattle.meaning.specs.Check.{Checked, bodies, point_rules, node_rule}
use Rattle.laws.specs.Tests.{skip, all-at}
use Rattle.laws.specs.Lists.{Every, every-place}
use Rattle.laws.specs.Bodies.{body-beyond}
use Rattle.laws.specs.Values.{runs}
use Rattle.laws.specs.Checked.{rules, checked-bodies, checked-values, checked-nodes}
use Rattle.encode.specs.Unsorted.{value_names, member_names, point_names, node_names, marked, names, number}
use Rattle.encode.specs.Write.{point_marks, node_marks}
use Rattle.encode.specs.Read.{one_of, point_strings, point_others}
use Rattle.encode.specs.Records.{Renumbered, part_under, value_under, entity_under, point_under, node_under, SameRecords}
use Rattle.encode.proofs.Laws.Read.{never, or_left, or_right, some_at, one_at, point-says, point_denies, node-says, node_denies, point_in_lem, node_in}

map-every : {A : Type 0} (f g : ℕ → A) (l : List ℕ) → Every (λ i. f i ≡ g i) l → map f l ≡ map g l
map-every f g [] e = refl
map-every f g (x ∷ l) e = cc (e.0, map-every f g l e.1)

or_false : (a : Bool) → (a or false) ≡ a
unfolding ◌or◌
or_false true = refl
or_false false = refl

-- ---- by kinds

module _ (new : ℕ → ℕ) where
  value-by : (part part' : ℕ → Part) (k a b : ℕ) → (6 ≤ k → k < 8 → map part (places a 1 b) ≡ map (part_under new) (map part' (places a 1 b))) → value_from part k (choose (within 3 5 k) (new a) a) (choose (eqb k 5) (new b) b) ≡ value_under new (value_from part' k a b)
  unfolding value_from pick choose ◌and◌ value_under
  value-by part part' zero a b f = refl
  value-by part part' (suc zero) a b f = refl
  value-by part part' (suc (suc zero)) a b f = refl
  value-by part part' (suc (suc (suc zero))) a b f = refl
  value-by part part' (suc (suc (suc (suc zero)))) a b f = refl
  value-by part part' (suc (suc (suc (suc (suc zero))))) a b f = refl
  value-by part part' (suc (suc (suc (suc (suc (suc zero)))))) a b f = cc (f (omega arith) (omega arith))
  value-by part part' (suc (suc (suc (suc (suc (suc (suc zero))))))) a b f = cc (f (omega arith) (omega arith))
  value-by part part' (suc (suc (suc (suc (suc (suc (suc (suc k)))))))) a b f = refl

  -- every node but a Predicate stays
  stays : (k : ℕ) (es : List (ℕ × Node)) → Every (λ e. eqb k e.0 ≡ true → node_under new e.1 ≡ e.1) es → node_under new (under k es) ≡ under k es
  unfolding under node_under choose
  stays k [] f = refl
  stays k (e ∷ es) f = go (eqb k e.0) refl (stays k es f.1)
    where
      go : (b : Bool) → eqb k e.0 ≡ b → node_under new (under k es) ≡ under k es → node_under new (choose b e.1 (under k es)) ≡ choose b e.1 (under k es)
      go true q rest = f.0 q
      go false q rest = rest

  node_by : (k a b c d e f : ℕ) → node_from k a b (choose (eqb k 7) (new c) c) (choose (eqb k 7) (new d) d) e f ≡ node_under new (node_from k a b c d e f)
  unfolding node_from choose node_under
  node_by k a b c d e f = go (eqb k 7) refl
    where
      at7 : node_from 7 a b (new c) (new d) e f ≡ node_under new (node_from 7 a b c d e f)
      at7 = unfold under in refl

      go : (t : Bool) → eqb k 7 ≡ t → node_from k a b (choose t (new c) c) (choose t (new d) d) e f ≡ node_under new (node_from k a b c d e f)
      go true q = let z : k ≡ 7 = eqb-true k 7 q in rw z at7
      go false q =
          sym (stays k _ ((λ p. refl), ((λ p. refl), ((λ p. refl), ((λ p. refl), ((λ p. refl), ((λ p. refl), ((λ p. never (sym q ∙ p)), ((λ p. refl), ((λ p. refl), ((λ p. refl), ((λ p. refl), ((λ p. refl), ((λ p. refl), ((λ p. refl), ((λ p. refl), ((λ p. refl), ((λ p. refl), ((λ p. refl), ((λ p. refl), tt))))))))))))))))))))

-- ---- from words

module _ {s marks t : List ℕ} (r : Renumbered s marks t) where
  value-word : (v j : ℕ) → v < values s → j < 4 → value_word t v j ≡ choose ((eqb j 1 and within 3 5 (value_word s v 0)) or (eqb j 2 and eqb (value_word s v 0) 5)) (number s (value_word s v j)) (value_word s v j)
  unfolding value_word names pick value_names
  value-word v j hv hj =
      let a : (4 * v + j) % 4 ≡ j = omega arith in
      let b : (4 * v + j) / 4 ≡ v = omega arith in
      rw (a, b) at (r.word 1 (4 * v + j) (lit< tt) (lit< tt) (omega arith))

  member-word : (m j : ℕ) → m < members s → j < 2 → member_word t m j ≡ choose (eqb j 0) (number s (member_word s m j)) (member_word s m j)
  unfolding member_word names pick member_names
  member-word m j hm hj =
      let a : (2 * m + j) % 2 ≡ j = omega arith in
      rw a at (r.word 2 (2 * m + j) (lit< tt) (lit< tt) (omega arith))

  point-word : (p j : ℕ) → p < points s → j < 12 → point_word t p j ≡ choose (within 4 5 j) (number s (point_word s p j)) (point_word s p j)
  unfolding point_word names pick point_names
  point-word p j hp hj =
      let a : (12 * p + j) % 12 ≡ j = omega arith in
      rw a at (r.word 3 (12 * p + j) (lit< tt) (lit< tt) (omega arith))

  node-word : (n j : ℕ) → n < nodes s → j < 8 → node_word t n j ≡ choose (within 3 4 j and eqb (node_word s n 0) 7) (number s (node_word s n j)) (node_word s n j)
  unfolding node_word names pick node_names
  node-word n j hn hj =
      let a : (8 * n + j) % 8 ≡ j = omega arith in
      let b : (8 * n + j) / 8 ≡ n = omega arith in
      rw (a, b) at (r.word 4 (8 * n + j) (lit< tt) (lit< tt) (omega arith))

  list-word : (i : ℕ) → i < lists s → list t i ≡ choose (marked marks i) (number s (list s i)) (list s i)
  unfolding list names pick
  list-word i h = r.word 5 i (lit< tt) (lit< tt) h

  list-marked : (i : ℕ) → i < lists s → marked marks i ≡ true → list t i ≡ number s (list s i)
  unfolding choose
  list-marked i h m = rw m at (list-word i h)

  list-unmarked : (i : ℕ) → i < lists s → marked marks i ≡ false → list t i ≡ list s i
  unfolding choose
  list-unmarked i h m = rw m at (list-word i h)

  -- ---- and where t passes

  module _ (has : bodies s ≡ true) (c : Checked t) where
    list-other : (i : ℕ) → marked marks i ≡ false → list t i ≡ list s i
    list-other i m = go (ltb i (lists s)) refl
      where
        go : (b : Bool) → ltb i (lists s) ≡ b → list t i ≡ list s i
        go true e = list-unmarked i (ltb-true i (lists s) e) m
        go false e =
            let far = ltb-false i (lists s) e in
            unfold list in (body-beyond t (checked-bodies c) 5 i (lit< tt) (omega (arith, r.sizes 5 (lit< tt) (lit< tt))) ∙ sym (body-beyond s has 5 i (lit< tt) (omega arith)))

    part_same : (m : ℕ) → m < members s → part_at t m ≡ part_under (number s) (part_at s m)
    unfolding part_at part_under choose
    part_same m h = cc (member-word m 0 h (lit< tt), member-word m 1 h (lit< tt))

    -- kinds 6 and 7 hold runs of members
    parts_same : (v : ℕ) → v < values s → 6 ≤ value_word s v 0 → map (part_at t) (places (value_word s v 1) 1 (value_word s v 2)) ≡ map (part_under (number s)) (map (part_at s) (places (value_word s v 1) 1 (value_word s v 2)))
    unfolding choose ◌and◌ ◌or◌
    parts_same v h high =
        map-every (part_at t) (λ m. part_under (number s) (part_at s m)) (places (value_word s v 1) 1 (value_word s v 2))
        (every-place (λ m. part_at t m ≡ part_under (number s) (part_at s m)) (value_word s v 1) 1 (value_word s v 2) (λ i l. part_same (value_word s v 1 + 1 * i) (omega (arith, inside))))
        ∙ sym (map-map (part_under (number s)) (part_at s) (places (value_word s v 1) 1 (value_word s v 2)))
      where
        kind-is : value_word t v 0 ≡ value_word s v 0
        kind-is = value-word v 0 h (lit< tt)

        first-is : value_word t v 1 ≡ value_word s v 1
        first-is = rw (skip (leb 3 (value_word s v 0)) (lt-leb (value_word s v 0) 5 (omega arith))) at (value-word v 1 h (lit< tt))

        count-is : value_word t v 2 ≡ value_word s v 2
        count-is = rw (ne_eqb (value_word s v 0) 5 (λ e. absurd (omega arith))) at (value-word v 2 h (lit< tt))

        inside : value_word s v 1 + value_word s v 2 ≤ members s
        inside =
            let there : v < values t = omega (arith, r.sizes 1 (lit< tt) (lit< tt)) in
            omega (arith, first-is, count-is, r.sizes 2 (lit< tt) (lit< tt), (runs t v there (all-at _ _ v (checked-values c) there)).inside (omega (arith, kind-is)))

    value_same : (v : ℕ) → v < values s → value_at t v ≡ value_under (number s) (value_at s v)
    unfolding value_at choose ◌and◌ ◌or◌
    value_same v h =
        cc (value-word v 0 h (lit< tt), value-word v 1 h (lit< tt), or_false (within 3 5 (value_word s v 0)), value-word v 2 h (lit< tt), value-by (number s) (part_at t) (part_at s) (value_word s v 0) (value_word s v 1) (value_word s v 2) (λ high low. parts_same v h high))

    -- list words that a point uses
    point-string : (p i : ℕ) → p < points s → point_marks t marks p ≡ true → point_strings t p i ≡ true → list t i ≡ number s (list s i)
    unfolding point_rules
    point-string p i h m o =
        let there : p < points t = omega (arith, r.sizes 3 (lit< tt) (lit< tt)) in
        list-marked i (omega (arith, r.sizes 5 (lit< tt) (lit< tt), point_in_lem t p i (all-at _ (points t) p (rules t c).points there) o)) (point-says t marks p i m o)

    module _ (p : ℕ) (h : p < points s) (m : point_marks t marks p ≡ true) where
      first_word : (j : ℕ) → j < 12 → within 4 5 j ≡ false → point_word t p j ≡ point_word s p j
      unfolding choose
      first_word j l q = rw q at (point-word p j h l)

      namespace-same : map (list t) (places (point_word t p 2) 1 (point_word t p 3)) ≡ map (number s) (map (list s) (places (point_word t p 2) 1 (point_word t p 3)))
      unfolding point_strings
      namespace-same =
          map-every (list t) (λ i. number s (list s i)) (places (point_word t p 2) 1 (point_word t p 3))
          (every-place (λ i. list t i ≡ number s (list s i)) (point_word t p 2) 1 (point_word t p 3) (λ i l.
          let z : point_word t p 2 + 1 * i ≡ point_word t p 2 + i = omega arith in
          rw z (point-string p (point_word t p 2 + i) h m (or_left _ (one_at (point_word t p 2) (point_word t p 3) i l)))))
          ∙ sym (map-map (number s) (list s) (places (point_word t p 2) 1 (point_word t p 3)))

      entity-same : (e : ℕ) → e < point_word t p 11 → entity_at t (point_word t p 10 + 3 * e) ≡ entity_under (number s) (entity_at s (point_word t p 10 + 3 * e))
      unfolding entity_at entity_under point_strings point_others
      entity-same e l =
          let z : point_word t p 10 + 3 * e + 0 ≡ point_word t p 10 + 3 * e = omega arith in
          cc (
            rw z at (as-string 0 (omega arith)),
            as-string 1 (omega arith),
            list-other (point_word t p 10 + 3 * e + 2) (point_denies t marks p (point_word t p 10 + 3 * e + 2) m (some_at (λ k. eqb (point_word t p 10 + 3 * e + 2) (point_word t p 10 + 3 * k + 2)) (point_word t p 11) e l (eq-eqb (point_word t p 10 + 3 * e + 2) (point_word t p 10 + 3 * e + 2) refl))),
          )
        where
          as-string : (k : ℕ) → k < 2 → list t (point_word t p 10 + 3 * e + k) ≡ number s (list s (point_word t p 10 + 3 * e + k))
          as-string k lt =
              point-string p (point_word t p 10 + 3 * e + k) h m (or_right _ (some_at (λ e'. one_of (point_word t p 10 + 3 * e') 2 (point_word t p 10 + 3 * e + k)) (point_word t p 11) e l (one_at (point_word t p 10 + 3 * e) 2 k lt)))

      entities-same : map (entity_at t) (places (point_word t p 10) 3 (point_word t p 11)) ≡ map (entity_under (number s)) (map (entity_at s) (places (point_word t p 10) 3 (point_word t p 11)))
      entities-same =
          map-every (entity_at t) (λ i. entity_under (number s) (entity_at s i)) (places (point_word t p 10) 3 (point_word t p 11))
          (every-place (λ i. entity_at t i ≡ entity_under (number s) (entity_at s i)) (point_word t p 10) 3 (point_word t p 11) entity-same)
          ∙ sym (map-map (entity_under (number s)) (entity_at s) (places (point_word t p 10) 3 (point_word t p 11)))

      point-same : point_at t p ≡ point_under (number s) (point_at s p)
      unfolding point_at point_under run_of choose ◌and◌
      point-same =
          cc (
            first_word 0 (lit< tt) refl,
            first_word 1 (lit< tt) refl,
            first_word 2 (lit< tt) refl,
            first_word 3 (lit< tt) refl,
            point-word p 4 h (lit< tt),
            point-word p 5 h (lit< tt),
            first_word 6 (lit< tt) refl,
            first_word 7 (lit< tt) refl,
            first_word 8 (lit< tt) refl,
            first_word 9 (lit< tt) refl,
            first_word 10 (lit< tt) refl,
            first_word 11 (lit< tt) refl,
            namespace-same,
            entities-same,
          )

    node-same : (n : ℕ) → n < nodes s → node_at t n ≡ node_under (number s) (node_at s n)
    unfolding node_at choose ◌and◌
    node-same n h =
        cc (
          node-word n 0 h (lit< tt),
          node-word n 1 h (lit< tt),
          node-word n 2 h (lit< tt),
          node-word n 3 h (lit< tt),
          node-word n 4 h (lit< tt),
          node-word n 5 h (lit< tt),
          node-word n 6 h (lit< tt),
          node_by (number s) (node_word s n 0) (node_word s n 1) (node_word s n 2) (node_word s n 3) (node_word s n 4) (node_word s n 5) (node_word s n 6),
        )

    -- with nothing used against its mark every record is the old one, its strings renumbered
    pub same-records : all_below (points t) (point_marks t marks) ≡ true → all_below (nodes t) (node_marks t marks) ≡ true → SameRecords s t
    unfolding node_marks node_rule
    same-records by-points by-nodes = record {
      value = value_same;
      point = λ p h. point-same p h (all-at _ (points t) p by-points (omega (arith, r.sizes 3 (lit< tt) (lit< tt))));
      node = node-same;
      string = λ n i h o.
          let there : n < nodes t = omega (arith, r.sizes 4 (lit< tt) (lit< tt)) in
          list-marked i (omega (arith, r.sizes 5 (lit< tt) (lit< tt), node_in t (node_at t n) n i (all-at _ (nodes t) n (checked-nodes c) there) o)) (node-says t marks (node_at t n) i (all-at _ (nodes t) n by-nodes there) o);
      other = λ n i h o.
          let there : n < nodes t = omega (arith, r.sizes 4 (lit< tt) (lit< tt)) in
          list-other i (node_denies t marks (node_at t n) i (all-at _ (nodes t) n by-nodes there) o);
    }
