-- Tables and marks written one after another
use Rattle.std.specs.Prelude.{◌≡◌, List, [], ◌++◌, map, ℕ, ◌+◌, ◌≤◌, length}
use Rattle.std.proofs.Common.{sym, ap, subst, ◌∙◌, arith, length-append}
use Rattle.std.proofs.lemmas.List.{length-map}
use Rattle.jsontrace.specs.Trace.{Tables, ◌⊕◌}
use Rattle.jsontrace.proofs.Laws.Trace.{Shaped}
use Rattle.jsonroom.specs.declared.Bodies.{Bodies}
use Rattle.jsonroom.specs.declared.Next.{Next}
use Rattle.jsonview.specs.Cells.{write, write_then, write-long, write-nothing}
use Rattle.jsonview.specs.Room.{Adds, beyond, filled, Fit}
use Rattle.jsonview.specs.Filling.{map-append}
use Rattle.jsonview.proofs.Adding.{fit-first, fit-second, fit-alike, filled-long, adds_then, ready-first, ready-second}
use Rattle.jsonentry.specs.Marks.{marks_of, MarkReady, MarkAdds}

-- ---- how many marks

pub marks-long : (t : Tables) → length (marks_of t) ≡ length t.lists
unfolding marks_of
marks-long t = length-map t.lists (λ (w : ℕ × ℕ). w.1)

pub marks-append : (t u : Tables) → marks_of (t ⊕ u) ≡ marks_of t ++ marks_of u
unfolding marks_of ◌⊕◌
marks-append t u = map-append (λ (w : ℕ × ℕ). w.1) t.lists u.lists

next-list : (n : Next) {m : Next} (t : Tables) → m ≡ beyond n t → m.list ≡ n.list + length t.lists
unfolding beyond
next-list n t e = ap (λ (x : Next). x.list) e

lists-append : (t u : Tables) → length (t ⊕ u).lists ≡ length t.lists + length u.lists
unfolding ◌⊕◌
lists-append t u = length-append t.lists u.lists

-- ---- tables without list words leave the marks

pub mark-none : {a c marks : List ℕ} {b : Bodies} {n m : Next} (t : Tables) → t.lists ≡ [] → Adds a c b n t m → MarkAdds a c marks marks b n t m
unfolding marks_of
mark-none {marks = marks} {n = n} t e p r w f h = record {
  grown = p r w f;
  marked = sym (ap (λ (l : List (ℕ × ℕ)). write marks n.list (map (λ x. x.1) l)) e ∙ write-nothing marks n.list);
}

-- ---- one after another

pub mark-then : {a c d k l o : List ℕ} {b : Bodies} {n m p : Next} (t u : Tables) → Shaped t → Shaped u → MarkAdds a c k l b n t m → MarkAdds c d l o b m u p → MarkAdds a d k o b n (t ⊕ u) p
mark-then {a} {c} {d} {k} {l} {o} {b} {n} {m} {p} t u s v one two r w f h =
    let fits : n.list + length t.lists ≤ length k = omega (arith, h, lists-append t u) in
    let first = one r w (fit-first t u f) fits in
    let at : m.list ≡ n.list + length t.lists = next-list n t first.grown.next in
    let long : length l ≡ length k = ap length first.marked ∙ write-long k n.list (marks_of t) (omega (arith, fits, marks-long t)) in
    let more : m.list + length u.lists ≤ length l = omega (arith, h, at, long, lists-append t u) in
    let inner : Fit (filled n t r) m u = subst (λ (x : Next). Fit (filled n t r) x u) (sym first.grown.next) (fit-alike (filled-long s (fit-first t u f)) (fit-second t u f)) in
    let second = two (filled n t r) first.grown.shows inner more in
    record {
      grown = adds_then {a = a} {c = c} {d = d} {b = b} {n = n} {m = m} {k = p} t u s v (λ q x y. (one q x y fits).grown) (λ q x y. (two q x y more).grown) r w f;
      marked =
          second.marked
          ∙ ap (λ (x : List ℕ). write x m.list (marks_of u)) first.marked
          ∙ write_then k n.list m.list (marks_of t) (marks_of u) (omega (arith, h, lists-append t u, marks-long t, marks-long u)) (omega (arith, at, marks-long t))
          ∙ ap (λ (x : List ℕ). write k n.list x) (sym (marks-append t u));
    }

-- ---- what fits

pub mark-ready-first : {file marks : List ℕ} {b : Bodies} {n : Next} (t u : Tables) → MarkReady file marks b n (t ⊕ u) → MarkReady file marks b n t
mark-ready-first t u g = record { ready = ready-first t u g.ready; for-marks = omega (arith, g.for-marks, lists-append t u) }

pub mark-ready-second : {file after marks marks' : List ℕ} {b : Bodies} {n m : Next} (t u : Tables) → Shaped t → MarkReady file marks b n (t ⊕ u) → MarkAdds file after marks marks' b n t m → length after ≡ length file → MarkReady after marks' b m u
mark-ready-second {marks = marks} {marks'} {n = n} {m = m} t u s g one e =
    let fits : n.list + length t.lists ≤ length marks = (mark-ready-first t u g).for-marks in
    let first = one g.ready.room g.ready.shows (fit-first t u g.ready.fit) fits in
    let at : m.list ≡ n.list + length t.lists = next-list n t first.grown.next in
    let long : length marks' ≡ length marks = ap length first.marked ∙ write-long marks n.list (marks_of t) (omega (arith, fits, marks-long t)) in
    record {
      ready = ready-second t u s g.ready (λ q x y. (one q x y fits).grown) e;
      for-marks = omega (arith, g.for-marks, lists-append t u, at, long);
    }
