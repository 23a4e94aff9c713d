-- Members written one after another, in the order of the cells of their names
use mathlib.Core.Path.{◌≡◌, refl, sym, ap, subst, ◌∙◌}
use mathlib.Core.List.{List, [], ◌∷◌}
use Prim.Native.Nat.{ℕ, suc, ◌+◌, ◌*◌, ◌-◌, ◌<◌, ◌≤◌}
use native.Mathlib.Omega.{arith}
use native.Mathlib.Numerals.{add-one}
use lib.ListN.{length, drop, get_or, length-append}
use mir.Val.{Fits}
use mir.Syntax.{w64}
use Rattle.laws.specs.Writing.{Writing}
use Rattle.encode.specs.Words.{packed}
use Rattle.jsontext.specs.Reading.{got, blanks}
use Rattle.jsontext.specs.Strings.{string}
use Rattle.jsontext.specs.Values.{J, Parts, end, part, value}
use Rattle.jsontrace.specs.Order.{ordered}
use Rattle.jsontrace.specs.Trace.{Tables, ◌⊕◌, texts, Next as Next-as_Trace, past, last_value, many, after_run, value_adds, members_add}
use Rattle.jsontrace.proofs.Laws.Trace.{shaped, shaped-texts, ◌then◌}
use Rattle.jsonroom.specs.declared.Bodies.{Bodies}
use Rattle.jsonroom.specs.declared.Next.{Next}
use Rattle.jsonruns.proofs.Runs.{same-got, same_rest}
use Rattle.jsonview.specs.Room.{Ready, Adds, numbers, beyond, leaving}
use Rattle.jsonview.specs.Filling.{numbers-beyond}
use Rattle.jsonview.proofs.Adding.{ready-first, ready-second, adds_then}
use Rattle.jsonview.proofs.Rows.{Rows, Roomy, rows_start, rows-ready, rows_end, rows_step, run-words, roomy-member, adds-next, plus_assoc, value-words, string-words}
use Rattle.jsonsort.specs.Sort.{Stands, Cells, none, more}
use Rattle.jsonadds.specs.Place.{Due, WroteTo, Spare, Stays, value_tables, parts_tables, named, inside, NameDue, NameWritten, PartsDue, PartsWritten}
use Rattle.jsonadds.proofs.Items.{free, value-one}
use Rattle.jsonadds.proofs.Named.{named-ordered}

-- ---- what stands in the cells is one thing

stands_one : {levels : ℕ} {line : List ℕ} {p : ℕ} {m n : List ℕ} {o q : J} → Stands levels line p m o → Stands levels line p n q → (m ≡ n) × (o ≡ q)
stands_one {levels} {line} {p} {m} {n} {o} {q} s t =
    let a : m ≡ n = same-got s.name t.name in
    let b : s.after ≡ t.after = same_rest s.name t.name in
    let c : s.from ≡ t.from = let z = sym s.colon ∙ ap blanks b ∙ t.colon in cc in
    let d : value levels (blanks s.from) ≡ got t.value-is t.rest = ap (λ (l : List ℕ). value levels (blanks l)) c ∙ t.reads in
    (a, s.is ∙ ap ordered (same-got s.reads d) ∙ sym t.is)

cells-one : {line names : List ℕ} (levels k : ℕ) {ps qs : Parts} → Cells levels line names k ps → Cells levels line names k qs → many ps ≡ many qs → ps ≡ qs
unfolding many
cells-one levels k none none e = refl
cells-one levels k none (more t d) e = absurd (omega arith)
cells-one levels k (more s c) none e = absurd (omega arith)
cells-one levels k (more {n = m} {o = o} {ps = ps} s c) (more {n = n} {o = q} {ps = qs} t d) e =
    let a = stands_one s t in
    let x : m ≡ n = a.0 in
    let y : o ≡ q = a.1 in
    let z : ps ≡ qs = cells-one levels (suc k) c d (omega arith) in
    cc

-- the first of those left
record Front (levels : ℕ) (line names : List ℕ) (i : ℕ) (left : Parts) : Type 0 where
  name : List ℕ
  value_of : J
  others : Parts
  is : left ≡ part name value_of others
  stands : Stands levels line (get_or names i 0) name value_of
  cells : Cells levels line names (suc i) others

front_of : {line names : List ℕ} (levels i : ℕ) {left : Parts} → 0 < many left → Cells levels line names i left → Front levels line names i left
unfolding many
front_of levels i h none = absurd (omega arith)
front_of levels i h (more s c) = record { name = _; value_of = _; others = _; is = refl; stands = s; cells = c }

none_left : (ps : Parts) → many ps ≡ 0 → ps ≡ end
unfolding many
none_left end e = refl
none_left (part n o ps) e = absurd (omega arith)

pub parts-long : (ps : Parts) (k : Next-as_Trace) → length (members_add ps k).0 ≡ many ps
unfolding members_add many
parts-long end k = refl
parts-long (part m j ps) k = omega (arith, parts-long ps (past (past k (texts (m ∷ []))) (value_adds j (past k (texts (m ∷ []))))))

abbrev whole_of : Parts → Next → List (List ℕ) × Tables
whole_of ps n = members_add ps (after_run (numbers n) (many ps))

-- ---- the loop

pub record Gathering (levels : ℕ) (line names₀ names : List ℕ) (used stop : ℕ) (before file : List ℕ) (b : Bodies) (n next : Next) (i : ℕ) : Type 0 where
  due : PartsDue levels line names₀ used stop before b n
  roomy : Roomy before b n (stop - used) (whole_of due.parts n)
  long : length file ≡ length before
  stays : Stays stop names₀ names
  left : Parts
  cells : Cells levels line names₀ i left
  many_is : i + many left ≡ stop
  from : used ≤ i
  rows : Rows before file b n (stop - used) (whole_of due.parts n) (members_add left (numbers next)) next (n.member + (i - used))
  spare : stop + inside left ≤ length names₀

module _ {levels : ℕ} {line names : List ℕ} {used stop : ℕ} {file : List ℕ} {b : Bodies} {n : Next} (d : PartsDue levels line names used stop file b n) where
  pub parts_from : used ≤ stop
  parts_from = omega (arith, d.many_is)

  roomy_of : Roomy file b n (stop - used) (whole_of d.parts n)
  unfolding parts_tables
  roomy_of = record { ready = d.ready; all = omega (arith, parts-long d.parts (after_run (numbers n) (many d.parts)), d.many_is) }

  pub parts-run : n.member + (stop - used) ≤ 4294967295
  parts-run = run-words roomy_of

  pub parts-start : {next : Next} → next ≡ leaving n (stop - used) → Gathering levels line names names used stop file file b n next used
  parts-start {next} z = record {
    due = d;
    roomy = roomy_of;
    long = refl;
    stays = record { long = refl; same = λ k h. refl };
    left = d.parts;
    cells = d.cells;
    many_is = d.many_is;
    from = omega arith;
    rows =
        let c : stop - used ≡ many d.parts = omega (arith, d.many_is) in
        let e : numbers next ≡ after_run (numbers n) (many d.parts) = ap numbers z ∙ free n (stop - used) ∙ ap (after_run (numbers n)) c in
        let o : n.member ≡ n.member + (used - used) = omega arith in
        subst (λ (r : ℕ). Rows file file b n (stop - used) (whole_of d.parts n) (members_add d.parts (numbers next)) next r) o
        (subst (λ (k : Next-as_Trace). Rows file file b n (stop - used) (whole_of d.parts n) (members_add d.parts k) next n.member) (sym e) (rows_start file b n (stop - used) (whole_of d.parts n) z));
    spare = d.spare;
  }

module _ {levels : ℕ} {line names₀ names : List ℕ} {used stop : ℕ} {before file : List ℕ} {b : Bodies} {n next : Next} {i : ℕ} (g : Gathering levels line names₀ names used stop before file b n next i) where
  pub parts-end : stop ≤ i → PartsWritten levels line names₀ names used stop before file b n next
  unfolding parts_tables members_add
  parts-end h = record {
    adds =
        λ parts cells e.
        let z : g.left ≡ end = none_left g.left (omega (arith, g.many_is)) in
        let same : g.due.parts ≡ parts = cells-one levels used g.due.cells cells (omega (arith, g.due.many_is, e)) in
        subst (λ (ps : Parts). Adds before file b n (parts_tables ps (numbers n)) next) same
        (rows_end g.roomy (subst (λ (ps : Parts). Rows before file b n (stop - used) (whole_of g.due.parts n) (members_add ps (numbers next)) next (n.member + (i - used))) z g.rows) refl refl);
    stays = g.stays;
  }

  pub part-from : used ≤ i
  part-from = g.from

  pub gather_names : length names ≡ length names₀
  gather_names = g.stays.long

  pub gather_out : length file ≡ length before
  gather_out = g.long

  pub cell-within : i < stop → i < length names
  cell-within h = omega (arith, g.spare, g.stays.long)

  module _ (h : i < stop) where
    front : Front levels line names₀ i g.left
    front = front_of levels i (omega (arith, g.many_is)) g.cells

    abbrev name-tables : Tables
    name-tables = texts (front.name ∷ [])

    abbrev child : Tables
    child = value_adds front.value_of (past (numbers next) name-tables)

    abbrev later : List (List ℕ) × Tables
    later = members_add front.others (past (past (numbers next) name-tables) child)

    abbrev row : List ℕ
    row = next.string ∷ last_value (numbers next) child ∷ []

    here-rows : Rows before file b n (stop - used) (whole_of g.due.parts n) (row ∷ later.0, (name-tables ⊕ child) ⊕ later.1) next (n.member + (i - used))
    unfolding members_add numbers
    here-rows =
        subst (λ (t : Tables). Rows before file b n (stop - used) (whole_of g.due.parts n) (row ∷ later.0, t) next (n.member + (i - used))) (sym (plus_assoc name-tables child later.1))
        (subst (λ (ps : Parts). Rows before file b n (stop - used) (whole_of g.due.parts n) (members_add ps (numbers next)) next (n.member + (i - used))) front.is g.rows)

    both-ready : Ready file b next (name-tables ⊕ child)
    both-ready = ready-first (name-tables ⊕ child) later.1 (rows-ready g.roomy here-rows g.long)

    same-cell : get_or names i 0 ≡ get_or names₀ i 0
    same-cell = g.stays.same i h

    name-reads : string (drop (get_or names i 0) line) ≡ got front.name front.stands.after
    name-reads = ap (λ (p : ℕ). string (drop p line)) same-cell ∙ front.stands.name

    pub name-due : NameDue line (get_or names i 0) file b next
    name-due = record {
      due = record {
        what = front.name;
        rest = front.stands.after;
        within = omega (arith, same-cell, front.stands.within);
        is = name-reads;
        ready = ready-first name-tables child both-ready;
      };
      sign = 58;
      others = front.stands.from;
      colon = front.stands.colon;
    }

    module _ {mid : List ℕ} {s-next : Next} {s-end : ℕ} (p : NameWritten line (get_or names i 0) file mid b next s-next s-end) (l : length mid ≡ length file) where
      name-added : Adds file mid b next name-tables s-next
      name-added = p.adds front.name front.stands.after name-reads

      name-next : s-next ≡ beyond next name-tables
      name-next = adds-next (ready-first name-tables child both-ready) name-added

      name-numbers : numbers s-next ≡ past (numbers next) name-tables
      name-numbers = ap numbers name-next ∙ numbers-beyond next name-tables

      child-is : value_tables front.stands.value-is (numbers s-next) ≡ child
      child-is = ap (λ (k : Next-as_Trace). value_adds (ordered front.stands.value-is) k) name-numbers ∙ ap (λ (o : J). value_adds o (past (numbers next) name-tables)) (sym front.stands.is)

      value-reads : value levels (drop s-end line) ≡ got front.stands.value-is front.stands.rest
      value-reads = ap (value levels) (p.is front.name front.stands.after 58 front.stands.from name-reads front.stands.colon) ∙ front.stands.reads

      child-ready : Ready mid b s-next child
      child-ready = ready-second name-tables child (shaped-texts (front.name ∷ [])) both-ready name-added l

      pub part-due : Due line s-end (value levels (drop s-end line)) mid b s-next value_tables
      part-due = record {
        what = front.stands.value-is;
        rest = front.stands.rest;
        within = p.within;
        is = value-reads;
        ready = subst (λ (t : Tables). Ready mid b s-next t) (sym child-is) child-ready;
      }

      pub part-spare : Spare (value levels (drop s-end line)) names stop named
      unfolding inside
      part-spare = record {
        is =
            λ what rest f.
            let z : named what ≡ named front.value_of = ap named (same-got f value-reads) ∙ sym (ap named front.stands.is ∙ named-ordered front.stands.value-is) in
            omega (arith, z, g.spare, ap inside front.is, g.stays.long);
      }

      module _ {names' after : List ℕ} {w-next : Next} {w-end : ℕ} (v : WroteTo line s-end (value levels (drop s-end line)) mid after b s-next value_tables w-next w-end) (q : Stays stop names names') (m : length after ≡ length mid) where
        child-added : Adds mid after b s-next child w-next
        child-added = subst (λ (t : Tables). Adds mid after b s-next t w-next) child-is (v.adds front.stands.value-is front.stands.rest value-reads)

        both-added : Adds file after b next (name-tables ⊕ child) w-next
        both-added = adds_then name-tables child (shaped-texts (front.name ∷ [])) (shaped front.value_of (past (numbers next) name-tables)) name-added child-added

        next-is : w-next ≡ beyond next (name-tables ⊕ child)
        next-is = adds-next both-ready both-added

        number_is : last_value (numbers next) child ≡ w-next.value - 1
        unfolding last_value numbers beyond ◌⊕◌ texts
        number_is = ap (λ (k : Next). k.value - 1) (sym next-is)

        numbers-are : numbers w-next ≡ past (past (numbers next) name-tables) child
        numbers-are = ap numbers (adds-next child-ready child-added) ∙ numbers-beyond s-next child ∙ ap (λ (k : Next-as_Trace). past k child) name-numbers

        pub part-some : 1 ≤ w-next.value
        unfolding beyond
        part-some = omega (arith, ap (λ (k : Next). k.value) (adds-next child-ready child-added), value-one front.value_of (past (numbers next) name-tables))

        pub part-word : w-next.value - 1 ≤ 4294967295
        unfolding beyond
        part-word = omega (arith, ap (λ (k : Next). k.value) (adds-next child-ready child-added), value-words child-ready)

        pub part-string : next.string ≤ 4294967295
        part-string = omega (arith, string-words both-ready)

        pub part-fits : Fits w64 (n.member + (i - used))
        part-fits = record { fits = omega (arith, run-words g.roomy, g.many_is) }

        pub part_room : b.members + 8 * (n.member + (i - used)) + 8 ≤ length after
        part_room =
            let short : suc (length here-rows.done) ≤ stop - used = omega (arith, g.roomy.all, ap length here-rows.rows, length-append here-rows.done (row ∷ later.0)) in
            omega (arith, roomy-member g.roomy, here-rows.place, g.long)

        pub part-again : {last : List ℕ} → Writing after last (b.members + 8 * (n.member + (i - used))) (packed (next.string ∷ (w-next.value - 1) ∷ [])) → length last ≡ length after → Gathering levels line names₀ names' used stop before last b n w-next (i + 1)
        unfolding inside many
        part-again {last} u o = record {
          due = g.due;
          roomy = g.roomy;
          long = omega (arith, g.long);
          stays = record { long = omega (arith, q.long, g.stays.long); same = λ k e. q.same k e ∙ g.stays.same k e };
          left = front.others;
          cells = subst (λ (k : ℕ). Cells levels line names₀ k front.others) (sym (add-one i)) front.cells;
          many_is = omega (arith, g.many_is, ap many front.is);
          from = omega (arith, g.from);
          rows =
              let z : n.member + (i - used) + 1 ≡ n.member + (i + 1 - used) = omega (arith, g.from) in
              subst (λ (r : ℕ). Rows before last b n (stop - used) (whole_of g.due.parts n) (members_add front.others (numbers w-next)) w-next r) z
              (subst (λ (k : Next-as_Trace). Rows before last b n (stop - used) (whole_of g.due.parts n) (members_add front.others k) w-next (n.member + (i - used) + 1)) (sym numbers-are)
              (rows_step next.string (last_value (numbers next) child) later.0 (name-tables ⊕ child) later.1 g.roomy
              (shaped-texts (front.name ∷ []) then shaped front.value_of (past (numbers next) name-tables)) here-rows next-is both-added
              (subst (λ (x : ℕ). Writing after last (b.members + 8 * (n.member + (i - used))) (packed (next.string ∷ x ∷ []))) (sym number_is) u)));
          spare = omega (arith, g.spare, ap inside front.is);
        }
