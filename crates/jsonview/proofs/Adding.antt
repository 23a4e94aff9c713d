-- Tables written one after another, and a run of members before what its children add
use Rattle.std.specs.Prelude.{◌≡◌, refl, List, [], ◌∷◌, ◌++◌, ℕ, suc, ◌+◌, ◌*◌, ◌≤◌}
use Rattle.std.proofs.Common.{sym, subst, ◌∙◌, arith}
use Rattle.std.proofs.Math.Path.{ap}
use Rattle.std.proofs.Math.ListN.{length, length-append}
use Rattle.laws.specs.Writing.{Writing}
use Rattle.encode.specs.Words.{packed}
use Rattle.encode.specs.Encode.{flat, placed}
use Rattle.encode.proofs.Laws.Words.{packed-long, packed-append}
use Rattle.jsonroom.specs.declared.Bodies.{Bodies}
use Rattle.jsonroom.specs.declared.Next.{Next}
use Rattle.jsontrace.specs.Trace.{Tables, empty, ◌⊕◌, members}
use Rattle.jsontrace.proofs.Laws.Trace.{Long, Shaped, shaped-members}
use Rattle.jsonview.specs.Cells.{write, write_then, write-swap, write-long}
use Rattle.jsonview.specs.Room.{Room, Shows, filled, beyond, Fit, Ready, Adds, leaving, Running}
use Rattle.jsonview.specs.Filling.{strings-long, values-long, members-long, points-long, lists-long, flat_append, beyond-beyond, filled-then}
use Rattle.jsonview.specs.Showing.{same-room, same_next, filled-empty, beyond-empty, no-members, in_members}

-- ---- what fits

-- lists that are as long
pub record Alike (q r : Room) : Type 0 where
  pub strings : length q.strings ≡ length r.strings
  pub values : length q.values ≡ length r.values
  pub members : length q.members ≡ length r.members
  pub points : length q.points ≡ length r.points
  pub lists : length q.lists ≡ length r.lists
  pub text : length q.text ≡ length r.text

pub filled-long : {r : Room} {n : Next} {t : Tables} → Shaped t → Fit r n t → Alike (filled n t r) r
unfolding filled
filled-long {r} {n} {t} s f = record {
  strings = write-long r.strings (8 * n.string) (packed (placed n.byte t.texts)) (omega (arith, f.strings, strings-long n.byte t.texts));
  values = write-long r.values (16 * n.value) (packed (flat t.values)) (omega (arith, f.values, values-long s));
  members = write-long r.members (8 * n.member) (packed (flat t.members)) (omega (arith, f.members, members-long s));
  points = write-long r.points (48 * n.point) (packed (flat t.points)) (omega (arith, f.points, points-long s));
  lists = write-long r.lists (4 * n.list) _ (omega (arith, f.lists, lists-long t.lists));
  text = write-long r.text n.byte (flat t.texts) f.text;
}

pub fit-alike : {q r : Room} {n : Next} {t : Tables} → Alike q r → Fit r n t → Fit q n t
fit-alike a f = record {
  strings = omega (arith, a.strings, f.strings);
  values = omega (arith, a.values, f.values);
  members = omega (arith, a.members, f.members);
  points = omega (arith, a.points, f.points);
  lists = omega (arith, a.lists, f.lists);
  text = omega (arith, a.text, f.text);
}

module _ {r : Room} {n : Next} (t u : Tables) (f : Fit r n (t ⊕ u)) where
  pub fit-first : Fit r n t
  unfolding ◌⊕◌
  fit-first = record {
    strings = omega (arith, f.strings, length-append t.texts u.texts);
    values = omega (arith, f.values, length-append t.values u.values);
    members = omega (arith, f.members, length-append t.members u.members);
    points = omega (arith, f.points, length-append t.points u.points);
    lists = omega (arith, f.lists, length-append t.lists u.lists);
    text = omega (arith, f.text, ap length (flat_append t.texts u.texts), length-append (flat t.texts) (flat u.texts));
  }

  pub fit-second : Fit r (beyond n t) u
  unfolding ◌⊕◌ beyond
  fit-second = record {
    strings = omega (arith, f.strings, length-append t.texts u.texts);
    values = omega (arith, f.values, length-append t.values u.values);
    members = omega (arith, f.members, length-append t.members u.members);
    points = omega (arith, f.points, length-append t.points u.points);
    lists = omega (arith, f.lists, length-append t.lists u.lists);
    text = omega (arith, f.text, ap length (flat_append t.texts u.texts), length-append (flat t.texts) (flat u.texts));
  }

-- ---- one after another

pub adds_then : {a c d : List ℕ} {b : Bodies} {n m k : Next} (t u : Tables) → Shaped t → Shaped u → Adds a c b n t m → Adds c d b m u k → Adds a d b n (t ⊕ u) k
adds_then {d = d} {b = b} {n = n} {m = m} {k = k} t u s v p q r w f =
    let one = p r w (fit-first t u f) in
    let inner : Fit (filled n t r) m u = subst (λ (x : Next). Fit (filled n t r) x u) (sym one.next) (fit-alike (filled-long s (fit-first t u f)) (fit-second t u f)) in
    let two = q (filled n t r) one.shows inner in
    record {
      shows = subst (λ (x : Room). Shows d b x) (ap (λ (x : Next). filled x u (filled n t r)) one.next ∙ filled-then r n t u s v f) two.shows;
      next = two.next ∙ ap (λ (x : Next). beyond x u) one.next ∙ beyond-beyond n t u;
    }

pub ready-first : {file : List ℕ} {b : Bodies} {n : Next} (t u : Tables) → Ready file b n (t ⊕ u) → Ready file b n t
ready-first t u g = record { room = g.room; shows = g.shows; fit = fit-first t u g.fit; words = g.words }

pub ready-second : {file after : List ℕ} {b : Bodies} {n m : Next} (t u : Tables) → Shaped t → Ready file b n (t ⊕ u) → Adds file after b n t m → length after ≡ length file → Ready after b m u
ready-second {n = n} t u s g p l =
    let one = p g.room g.shows (fit-first t u g.fit) in
    record {
      room = filled n t g.room;
      shows = one.shows;
      fit = subst (λ (x : Next). Fit (filled n t g.room) x u) (sym one.next) (fit-alike (filled-long s (fit-first t u g.fit)) (fit-second t u g.fit));
      words = omega (arith, g.words);
    }

-- ---- a run of members

-- as many as are left free at most
pub fit-run : {r : Room} {n : Next} {count : ℕ} {all : Tables} (run : List (List ℕ)) → length run ≤ count → Fit r (leaving n count) all → Fit r n (members run)
unfolding members leaving flat
fit-run run h f = record {
  strings = omega (arith, f.strings);
  values = omega (arith, f.values);
  members = omega (arith, f.members);
  points = omega (arith, f.points);
  lists = omega (arith, f.lists);
  text = omega (arith, f.text);
}

pub run-start : (file : List ℕ) (b : Bodies) (n : Next) (count : ℕ) (all : Tables) → Running file file b n count all [] empty (leaving n count)
run-start file b n count all r s f = record {
  shows = subst (λ (q : Room). Shows file b q) (sym (filled-empty (leaving n count) (filled n (members []) r) ∙ ap (λ (t : Tables). filled n t r) no-members ∙ filled-empty n r)) s;
  next = sym (beyond-empty (leaving n count));
}

fit-both : {r : Room} {n : Next} (t u v : Tables) → Fit r n (t ⊕ (u ⊕ v)) → Fit r n (t ⊕ u)
unfolding ◌⊕◌
fit-both t u v f = record {
  strings = omega (arith, f.strings, length-append t.texts (u.texts ++ v.texts), length-append u.texts v.texts, length-append t.texts u.texts);
  values = omega (arith, f.values, length-append t.values (u.values ++ v.values), length-append u.values v.values, length-append t.values u.values);
  members = omega (arith, f.members, length-append t.members (u.members ++ v.members), length-append u.members v.members, length-append t.members u.members);
  points = omega (arith, f.points, length-append t.points (u.points ++ v.points), length-append u.points v.points, length-append t.points u.points);
  lists = omega (arith, f.lists, length-append t.lists (u.lists ++ v.lists), length-append u.lists v.lists, length-append t.lists u.lists);
  text = omega (arith, f.text, ap length (flat_append t.texts (u.texts ++ v.texts)), length-append (flat t.texts) (flat (u.texts ++ v.texts)), ap length (flat_append u.texts v.texts), length-append (flat u.texts) (flat v.texts), ap length (flat_append t.texts u.texts), length-append (flat t.texts) (flat u.texts));
}

-- a child's tables
pub run-child : {a c d : List ℕ} {b : Bodies} {n m k : Next} {count : ℕ} (run : List (List ℕ)) (inside t more : Tables) → Long 2 run → length run ≤ count → Shaped inside → Shaped t → Running a c b n count (inside ⊕ (t ⊕ more)) run inside m → Adds c d b m t k → Running a d b n count (inside ⊕ (t ⊕ more)) run (inside ⊕ t) k
run-child {d = d} {b = b} {n = n} {m = m} {count = count} run inside t more z h s v p q r w f =
    let one = p r w f in
    let base : Room = filled n (members run) r in
    let fits : Fit base (leaving n count) (inside ⊕ (t ⊕ more)) = fit-alike (filled-long (shaped-members run z) (fit-run run h f)) f in
    let both : Fit base (leaving n count) (inside ⊕ t) = fit-both inside t more fits in
    let inner : Fit (filled (leaving n count) inside base) m t = subst (λ (x : Next). Fit (filled (leaving n count) inside base) x t) (sym one.next) (fit-alike (filled-long s (fit-first inside t both)) (fit-second inside t both)) in
    let two = q (filled (leaving n count) inside base) one.shows inner in
    record {
      shows = subst (λ (x : Room). Shows d b x) (ap (λ (x : Next). filled x t (filled (leaving n count) inside base)) one.next ∙ filled-then base (leaving n count) inside t s v both) two.shows;
      next = two.next ∙ ap (λ (x : Next). beyond x t) one.next ∙ beyond-beyond (leaving n count) inside t;
    }

-- a member of the run: behind those of the run so far, and before what the children added
pub run-member : {a c d : List ℕ} {b : Bodies} {n m : Next} {count : ℕ} (run : List (List ℕ)) (inside all : Tables) (x y : ℕ) → Long 2 run → suc (length run) ≤ count → Shaped inside → ((r : Room) → Fit r (leaving n count) all → Fit r (leaving n count) inside) → Running a c b n count all run inside m → Writing c d (b.members + 8 * (n.member + length run)) (packed (x ∷ y ∷ [])) → Running a d b n count all (run ++ ((x ∷ y ∷ []) ∷ [])) inside m
unfolding filled leaving members flat
run-member {d = d} {b = b} {n = n} {count = count} run inside all x y z h s sub p w r v f =
    let one = p r v f in
    let g = sub r f in
    let new : List ℕ = packed (x ∷ y ∷ []) in
    let wide : length new ≡ 8 = packed-long (x ∷ y ∷ []) in
    let long : length (packed (flat run)) ≡ 8 * length run = members-long (shaped-members run z) in
    let inner : List ℕ = write r.members (8 * n.member) (packed (flat run)) in
    let inner-long : length inner ≡ length r.members = write-long r.members (8 * n.member) (packed (flat run)) (omega (arith, g.members)) in
    let behind : List ℕ = packed (flat inside.members) in
    let behind-long : length behind ≡ 8 * length inside.members = members-long s in
    let outer_long : length (write inner (8 * (n.member + count)) behind) ≡ length inner = write-long inner (8 * (n.member + count)) behind (omega (arith, g.members)) in
    let moved : write (write inner (8 * (n.member + count)) behind) (8 * (n.member + length run)) new ≡ write (write inner (8 * (n.member + length run)) new) (8 * (n.member + count)) behind =
    write-swap inner (8 * (n.member + length run)) (8 * (n.member + count)) new behind (omega arith) (omega (arith, g.members)) in
    let joined : write inner (8 * (n.member + length run)) new ≡ write r.members (8 * n.member) (packed (flat run) ++ new) =
    write_then r.members (8 * n.member) (8 * (n.member + length run)) (packed (flat run)) new (omega (arith, g.members)) (omega arith) in
    let rows : packed (flat run) ++ new ≡ packed (flat (run ++ ((x ∷ y ∷ []) ∷ []))) = sym (ap packed (flat_append run ((x ∷ y ∷ []) ∷ [])) ∙ packed-append (flat run) (flat ((x ∷ y ∷ []) ∷ []))) ∙ refl in
    record {
      shows = subst (λ (q : Room). Shows d b q) (same-room refl refl (moved ∙ ap (λ (l : List ℕ). write l (8 * (n.member + count)) behind) (joined ∙ ap (λ (l : List ℕ). write r.members (8 * n.member) l) rows)) refl refl refl) (in_members one.shows (8 * (n.member + length run)) w (omega (arith, g.members)));
      next = one.next;
    }

pub after_run : (run : List (List ℕ)) (n : Next) (count : ℕ) → length run ≡ count → beyond n (members run) ≡ leaving n count
unfolding beyond leaving members flat
after_run run n count h = same_next (omega arith) (omega arith) (omega arith) (omega arith) (omega arith) (omega arith)

-- the run is whole
pub run_end : {a c : List ℕ} {b : Bodies} {n m : Next} {count : ℕ} (run : List (List ℕ)) (inside : Tables) → Long 2 run → length run ≡ count → Shaped inside → Running a c b n count inside run inside m → Adds a c b n (members run ⊕ inside) m
run_end {c = c} {b = b} {n = n} {count = count} run inside z h s p r w f =
    let left : beyond n (members run) ≡ leaving n count = after_run run n count h in
    let g : Fit r (leaving n count) inside = subst (λ (x : Next). Fit r x inside) left (fit-second (members run) inside f) in
    let one = p r w g in
    record {
      shows = subst (λ (q : Room). Shows c b q) (ap (λ (x : Next). filled x inside (filled n (members run) r)) (sym left) ∙ filled-then r n (members run) inside (shaped-members run z) s f) one.shows;
      next = one.next ∙ ap (λ (x : Next). beyond x inside) (sym left) ∙ beyond-beyond n (members run) inside;
    }
