-- A run of members written one after another, each behind the tables of its child: what is written, and what is left
use Rattle.std.specs.Prelude.{◌≡◌, refl, List, [], ◌∷◌, ◌++◌, ℕ, suc, ◌+◌, ◌*◌, ◌≤◌, length}
use Rattle.std.proofs.Common.{sym, ap, subst, ◌∙◌, append_assoc, append-nil, arith, length-append}
use Rattle.laws.specs.Writing.{Writing}
use Rattle.encode.specs.Words.{packed}
use Rattle.encode.specs.Encode.{flat}
use Rattle.jsonroom.specs.declared.Bodies.{Bodies}
use Rattle.jsonroom.specs.declared.Next.{Next}
use Rattle.jsontrace.specs.Trace.{Tables, empty, ◌⊕◌, members}
use Rattle.jsontrace.proofs.Laws.Trace.{Long, long-append, Shaped, ◌then◌, shaped-empty, shaped-members}
use Rattle.jsonview.specs.Room.{Room, Shows, filled, beyond, Fit, Ready, Adds, leaving, Running}
use Rattle.jsonview.specs.Filling.{beyond-beyond}
use Rattle.jsonview.proofs.Adding.{Alike, filled-long, fit-alike, fit-first, fit-second, fit-run, after_run, run-start, run-child, run-member, run_end}

-- ---- tables continued

same_tables : {a a' b b' c c' d d' : List (List ℕ)} {e e' : List (ℕ × ℕ)} → a ≡ a' → b ≡ b' → c ≡ c' → d ≡ d' → e ≡ e' → ◌≡◌ {A = Tables} (record { texts = a; values = b; members = c; points = d; lists = e }) (record { texts = a'; values = b'; members = c'; points = d'; lists = e' })
same_tables p q r s t = cc

pub plus_assoc : (t u v : Tables) → (t ⊕ u) ⊕ v ≡ t ⊕ (u ⊕ v)
unfolding ◌⊕◌
plus_assoc t u v = same_tables (append_assoc t.texts u.texts v.texts) (append_assoc t.values u.values v.values) (append_assoc t.members u.members v.members) (append_assoc t.points u.points v.points) (append_assoc t.lists u.lists v.lists)

pub plus_none : (t : Tables) → t ⊕ empty ≡ t
unfolding ◌⊕◌ empty
plus_none t = same_tables (append-nil t.texts) (append-nil t.values) (append-nil t.members) (append-nil t.points) (append-nil t.lists)

pub none-plus : (t : Tables) → empty ⊕ t ≡ t
unfolding ◌⊕◌ empty
none-plus t = refl

-- ---- so far

-- of a run and what its parts add: what is left
pub record Rows (before file : List ℕ) (b : Bodies) (n : Next) (count : ℕ) (whole rest : List (List ℕ) × Tables) (next : Next) (run : ℕ) : Type 0 where
  pub done : List (List ℕ)
  pub inside : Tables
  pub two : Long 2 done
  pub shaped : Shaped inside
  pub next-is : next ≡ beyond (leaving n count) inside
  pub place : run ≡ n.member + length done
  pub rows : whole.0 ≡ done ++ rest.0
  pub tables : whole.1 ≡ inside ⊕ rest.1
  pub running : Running before file b n count whole.1 done inside next

pub rows_start : (file : List ℕ) (b : Bodies) (n : Next) (count : ℕ) (whole : List (List ℕ) × Tables) {next : Next} → next ≡ leaving n count → Rows file file b n count whole whole next n.member
unfolding beyond empty flat leaving
rows_start file b n count whole e = record {
  done = [];
  inside = empty;
  two = tt;
  shaped = shaped-empty;
  next-is = e ∙ start;
  place = omega arith;
  rows = refl;
  tables = sym (none-plus whole.1);
  running = subst (λ (m : Next). Running file file b n count whole.1 [] empty m) (sym e) (run-start file b n count whole.1);
}
  where
    same : {a b c d e f a' b' c' d' e' f' : ℕ} → a ≡ a' → b ≡ b' → c ≡ c' → d ≡ d' → e ≡ e' → f ≡ f' → ◌≡◌ {A = Next} (record { string = a; byte = b; value = c; member = d; list = e; point = f }) (record { string = a'; byte = b'; value = c'; member = d'; list = e'; point = f' })
    same p q r s t u = cc

    start : leaving n count ≡ beyond (leaving n count) empty
    start = same (omega arith) (omega arith) (omega arith) (omega arith) (omega arith) (omega arith)

-- a file that shows a room is as long as its bodies
pub shows-long : {file : List ℕ} {b : Bodies} {r : Room} → Shows file b r → b.end ≤ length file
shows-long {r = r} s =
    omega (arith, ap length s.is, length-append s.head (r.strings ++ (r.values ++ (r.members ++ (r.points ++ (r.lists ++ (r.text ++ s.tail)))))), length-append r.strings (r.values ++ (r.members ++ (r.points ++ (r.lists ++ (r.text ++ s.tail))))), length-append r.values (r.members ++ (r.points ++ (r.lists ++ (r.text ++ s.tail)))), length-append r.members (r.points ++ (r.lists ++ (r.text ++ s.tail))), length-append r.points (r.lists ++ (r.text ++ s.tail)), length-append r.lists (r.text ++ s.tail), length-append r.text s.tail, s.strings, s.values, s.members, s.points, s.lists, s.text, s.end)

-- what is ready fits into the file, and its numbers are words
module _ {file : List ℕ} {b : Bodies} {n : Next} {t : Tables} (g : Ready file b n t) where
  pub ready-values : b.values + 16 * (n.value + length t.values) ≤ length file
  ready-values = omega (arith, g.fit.values, shows-long g.shows, g.shows.members, g.shows.points, g.shows.lists, g.shows.text, g.shows.end)

  pub ready-strings : b.strings + 8 * (n.string + length t.texts) ≤ b.text
  ready-strings = omega (arith, g.fit.strings, g.shows.values, g.shows.members, g.shows.points, g.shows.lists, g.shows.text)

  pub ready-text : b.text + (n.byte + length (flat t.texts)) ≤ length file
  ready-text = omega (arith, g.fit.text, shows-long g.shows, g.shows.end)

  pub ready-members : b.members + 8 * (n.member + length t.members) ≤ length file
  ready-members = omega (arith, g.fit.members, shows-long g.shows, g.shows.points, g.shows.lists, g.shows.text, g.shows.end)

  pub value-words : n.value + length t.values ≤ 4294967295
  value-words = omega (arith, ready-values, g.words)

  pub string-words : n.string + length t.texts ≤ 4294967295
  string-words = omega (arith, ready-strings, ready-text, g.words)

  pub member-words : n.member + length t.members ≤ 4294967295
  member-words = omega (arith, ready-members, g.words)

-- the room that is there
pub record Roomy (before : List ℕ) (b : Bodies) (n : Next) (count : ℕ) (whole : List (List ℕ) × Tables) : Type 0 where
  pub ready : Ready before b n (members whole.0 ⊕ whole.1)
  pub all : length whole.0 ≡ count

module _ {before : List ℕ} {b : Bodies} {n : Next} {count : ℕ} {whole : List (List ℕ) × Tables} (g : Roomy before b n count whole) where
  pub roomy-fit : Fit g.ready.room (leaving n count) whole.1
  roomy-fit = subst (λ (x : Next). Fit g.ready.room x whole.1) (after_run whole.0 n count g.all) (fit-second (members whole.0) whole.1 g.ready.fit)

  pub roomy-member : b.members + 8 * (n.member + count) ≤ length before
  unfolding leaving
  roomy-member = omega (arith, roomy-fit.members, shows-long g.ready.shows, g.ready.shows.points, g.ready.shows.lists, g.ready.shows.text, g.ready.shows.end)

  pub run-words : n.member + count ≤ 4294967295
  run-words = omega (arith, roomy-member, g.ready.words)

  module _ {file : List ℕ} {rest : List (List ℕ) × Tables} {next : Next} {run : ℕ} (s : Rows before file b n count whole rest next run) where
    done-short : length s.done + length rest.0 ≡ count
    done-short = omega (arith, g.all, ap length s.rows, length-append s.done rest.0)

    base_long : Alike (filled n (members s.done) g.ready.room) g.ready.room
    base_long = filled-long (shaped-members s.done s.two) (fit-run s.done (omega (arith, done-short)) roomy-fit)

    inside-fit : Fit (filled n (members s.done) g.ready.room) (leaving n count) (s.inside ⊕ rest.1)
    inside-fit = fit-alike base_long (subst (λ (t : Tables). Fit g.ready.room (leaving n count) t) s.tables roomy-fit)

    -- what is left fits
    pub rows-ready : length file ≡ length before → Ready file b next rest.1
    rows-ready l = record {
      room = filled (leaving n count) s.inside (filled n (members s.done) g.ready.room);
      shows = (s.running g.ready.room g.ready.shows roomy-fit).shows;
      fit =
          subst (λ (x : Next). Fit (filled (leaving n count) s.inside (filled n (members s.done) g.ready.room)) x rest.1) (sym s.next-is)
          (fit-alike (filled-long s.shaped (fit-first s.inside rest.1 inside-fit)) (fit-second s.inside rest.1 inside-fit));
      words = omega (arith, g.ready.words);
    }

    -- the run is whole
    pub rows_end : rest.0 ≡ [] → rest.1 ≡ empty → Adds before file b n (members whole.0 ⊕ whole.1) next
    rows_end p q =
        let r : whole.0 ≡ s.done = s.rows ∙ ap (λ (l : List (List ℕ)). s.done ++ l) p ∙ append-nil s.done in
        let t : whole.1 ≡ s.inside = s.tables ∙ ap (λ (u : Tables). s.inside ⊕ u) q ∙ plus_none s.inside in
        subst (λ (l : List (List ℕ)). Adds before file b n (members l ⊕ whole.1) next) (sym r)
        (subst (λ (u : Tables). Adds before file b n (members s.done ⊕ u) next) (sym t)
        (run_end s.done s.inside s.two (sym (ap length r) ∙ g.all) s.shaped (subst (λ (u : Tables). Running before file b n count u s.done s.inside next) t s.running)))

-- the numbers after tables that fit
pub adds-next : {before file : List ℕ} {b : Bodies} {n m : Next} {t : Tables} → Ready before b n t → Adds before file b n t m → m ≡ beyond n t
adds-next g p = (p g.room g.shows g.fit).next

-- a child's tables, then its member
pub rows_step : {before c d e : List ℕ} {b : Bodies} {n next after : Next} {count run : ℕ} {whole : List (List ℕ) × Tables} (x y : ℕ) (rows : List (List ℕ)) (t more : Tables) → Roomy before b n count whole → Shaped t → Rows before c b n count whole ((x ∷ y ∷ []) ∷ rows, t ⊕ more) next run → after ≡ beyond next t → Adds c d b next t after → Writing d e (b.members + 8 * run) (packed (x ∷ y ∷ [])) → Rows before e b n count whole (rows, more) after (run + 1)
rows_step {before} {c} {d} {e} {b} {n} {next} {after} {count} {run} {whole} x y rows t more g v s z p w =
    let h : suc (length s.done) ≤ count = omega (arith, g.all, ap length s.rows, length-append s.done ((x ∷ y ∷ []) ∷ rows)) in
    let parts : whole.1 ≡ (s.inside ⊕ t) ⊕ more = s.tables ∙ sym (plus_assoc s.inside t more) in
    let child : Running before d b n count whole.1 s.done (s.inside ⊕ t) after =
    subst (λ (u : Tables). Running before d b n count u s.done (s.inside ⊕ t) after) (sym s.tables)
    (run-child s.done s.inside t more s.two (omega arith) s.shaped v (subst (λ (u : Tables). Running before c b n count u s.done s.inside next) s.tables s.running) p) in
    let here : Writing d e (b.members + 8 * (n.member + length s.done)) (packed (x ∷ y ∷ [])) = subst (λ (k : ℕ). Writing d e (b.members + 8 * k) (packed (x ∷ y ∷ []))) s.place w in
    record {
      done = s.done ++ ((x ∷ y ∷ []) ∷ []);
      inside = s.inside ⊕ t;
      two = long-append 2 s.done ((x ∷ y ∷ []) ∷ []) s.two (refl, tt);
      shaped = s.shaped then v;
      next-is = z ∙ ap (λ (k : Next). beyond k t) s.next-is ∙ beyond-beyond (leaving n count) s.inside t;
      place = omega (arith, s.place, length-append s.done ((x ∷ y ∷ []) ∷ []));
      rows = s.rows ∙ sym (append_assoc s.done ((x ∷ y ∷ []) ∷ []) rows);
      tables = parts;
      running = run-member s.done (s.inside ⊕ t) whole.1 x y s.two h (s.shaped then v) (λ r f. fit-first (s.inside ⊕ t) more (subst (λ (u : Tables). Fit r (leaving n count) u) parts f)) child here;
    }
