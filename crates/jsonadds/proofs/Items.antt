-- Items written one after another, each with its member
use mathlib.Core.Path.{◌≡◌, refl, sym, ap, subst, ◌∙◌}
use mathlib.Core.Bool.{Bool, true, false}
use mathlib.Core.List.{List, [], ◌∷◌}
use Prim.Native.Nat.{ℕ, suc, ◌+◌, ◌*◌, ◌-◌, ◌<◌, ◌≤◌}
use native.Mathlib.Omega.{arith}
use lib.ListN.{length, drop, length-append}
use mir.Val.{Fits}
use mir.Syntax.{w64}
use lib.Dec.{eqb}
use borrow.Author.Tests.{eq-eqb, ne_eqb, eqb-true, eqb-false}
use Rattle.std.specs.Prelude.{Result, Ok, Err}
use Rattle.meaning.specs.Case.{nothing}
use Rattle.laws.specs.Writing.{Writing}
use Rattle.encode.specs.Words.{packed}
use Rattle.jsontext.specs.Reading.{blanks}
use Rattle.jsontext.specs.Values.{J, Null, Truth, Int, Text, EntityOf, Decimal, Array, Object, Parts, end, part, item_parts, array, value}
use Rattle.jsontrace.specs.Order.{ordered, ordered_items}
use Rattle.jsontrace.specs.Trace.{Tables, ◌⊕◌, value as value·Trace, members, Next as Next-as_Trace, past, last_value, many, after_run, holding, texts, value_adds, items_add, members_add}
use Rattle.jsontrace.proofs.Laws.Trace.{shaped}
use Rattle.jsonroom.specs.declared.Bodies.{Bodies}
use Rattle.jsonroom.specs.declared.Next.{Next}
use Rattle.jsonruns.specs.Good.{Signed, BeginTold, PartTold}
use Rattle.jsonruns.specs.Run.{Run, Listed, Item}
use Rattle.jsonruns.proofs.Runs.{same-got, Turn, turn, array-listed}
use Rattle.jsonview.specs.Room.{Adds, numbers, beyond, leaving}
use Rattle.jsonview.specs.Filling.{numbers-beyond}
use Rattle.jsonview.proofs.Adding.{ready-first}
use Rattle.jsonview.proofs.Rows.{Rows, Roomy, rows_start, rows-ready, rows_end, rows_step, run-words, roomy-member, adds-next, value-words}
use Rattle.jsonadds.specs.Place.{Due, WroteTo, AddsTo, Spare, Stays, Counts, array_tables, items_tables, value_tables, named, inside, named_items}

-- ---- lengths

pub items-long : (ps : Parts) (k : Next-as_Trace) → length (items_add ps k).0 ≡ many ps
unfolding items_add many
items-long end k = refl
items-long (part m j ps) k = omega (arith, items-long ps (past k (value_adds j k)))

pub many-items : (js : List J) → many (ordered_items (item_parts js)) ≡ length js
unfolding ordered_items item_parts many
many-items [] = refl
many-items (j ∷ js) = omega (arith, many-items js)

-- a value has its own record
pub value-one : (j : J) (k : Next-as_Trace) → 1 ≤ length (value_adds j k).values
unfolding value_adds holding value·Trace members ◌⊕◌ texts
value-one Null k = omega arith
value-one (Truth b) k = omega arith
value-one (Int z) k = omega arith
value-one (Text t) k = omega arith
value-one (EntityOf t i) k = omega arith
value-one (Decimal t) k = omega arith
value-one (Array ps) k = let v = (items_add ps (after_run k (many ps))).1.values in omega (arith, length-append v ((6 ∷ k.member ∷ many ps ∷ 0 ∷ []) ∷ []))
value-one (Object ps) k = let v = (members_add ps (after_run k (many ps))).1.values in omega (arith, length-append v ((7 ∷ k.member ∷ many ps ∷ 0 ∷ []) ∷ []))

-- the parts of the items from here on, in order
abbrev rest_of : List J → Next-as_Trace → List (List ℕ) × Tables
rest_of js k = items_add (ordered_items (item_parts js)) k

-- all of them, where the run is left free
abbrev whole_of : List J → Next → List (List ℕ) × Tables
whole_of js n = items_add (ordered_items (item_parts js)) (after_run (numbers n) (many (ordered_items (item_parts js))))

pub free : (n : Next) (count : ℕ) → numbers (leaving n count) ≡ after_run (numbers n) count
unfolding numbers leaving after_run
free n count = refl

pub left-free : (n : Next) (count : ℕ) → record { string = n.string; byte = n.byte; value = n.value; member = n.member + count; list = n.list; point = n.point } ≡ leaving n count
unfolding leaving
left-free n count = refl

-- ---- a run's first part, and the others

pub record Others {A : Type 0} (a : A) (all : List A) : Type 0 where
  pub others : List A
  pub is : all ≡ a ∷ others

pub others_of_lem : {A : Type 0} (close : ℕ) (Part : List ℕ → A → List ℕ → Type 0) {s : List ℕ} {all : List A} {rest : List ℕ} (t : Turn close Part s all rest) → Others t.what all
others_of_lem {A} close Part {s} {all} {rest} t =
    go (eqb t.sign close) refl
  where
    go : (x : Bool) → eqb t.sign close ≡ x → Others t.what all
    go true e = record { others = []; is = t.alone (eqb-true t.sign close e) }
    go false e = let o = t.next (eqb-false t.sign close e) in record { others = o.parts; is = o.all-is }

-- ---- the loop

pub record Filling (levels : ℕ) (line : List ℕ) (at : ℕ) (names₀ names : List ℕ) (used : ℕ) (before file : List ℕ) (b : Bodies) (n : Next) (count : ℕ) (next : Next) (k i : ℕ) : Type 0 where
  due : Due line at (array (value levels) (drop at line)) before b n array_tables
  roomy : Roomy before b n count (whole_of due.what n)
  long : length file ≡ length before
  stays : Stays used names₀ names
  from : at ≤ i
  within : i ≤ length line
  left : List J
  parts : Run 93 (Item (value levels)) (drop i line) left due.rest
  rows : Rows before file b n count (whole_of due.what n) (rest_of left (numbers next)) next (n.member + k)
  spare : used + inside (item_parts left) ≤ length names₀

module _ (levels : ℕ) {line : List ℕ} {at : ℕ} {file : List ℕ} {b : Bodies} {n : Next} (d : Due line at (array (value levels) (drop at line)) file b n array_tables) where
  listed : Listed 93 (Item (value levels)) (drop at line) d.what d.rest
  listed = array-listed (value levels) (drop at line) d.is

  pub items-signed : Signed line at
  items-signed = record { within = d.within; sign = listed.first; rest = listed.others; is = listed.byte }

  module _ {count : ℕ} (k : Counts (array (value levels) (drop at line)) count) where
    roomy_of : Roomy file b n count (whole_of d.what n)
    unfolding items_tables
    roomy_of = record { ready = d.ready; all = items-long (ordered_items (item_parts d.what)) _ ∙ many-items d.what ∙ sym (k.is d.what d.rest d.is) }

    pub items-run : n.member + count ≤ 4294967295
    items-run = run-words roomy_of

    module _ {next : Next} (z : next ≡ leaving n count) {x : Result ℕ ℕ} (t : BeginTold line at 93 x) where
      start-rows : Rows file file b n count (whole_of d.what n) (rest_of d.what (numbers next)) next n.member
      start-rows =
          let e : numbers next ≡ after_run (numbers n) (many (ordered_items (item_parts d.what))) =
          ap numbers z ∙ free n count ∙ ap (after_run (numbers n)) (k.is d.what d.rest d.is ∙ sym (many-items d.what)) in
          subst (λ (q : Next-as_Trace). Rows file file b n count (whole_of d.what n) (rest_of d.what q) next n.member) (sym e) (rows_start file b n count (whole_of d.what n) z)

      pub items-none : {k : ℕ} → x ≡ Err k → AddsTo (array (value levels) (drop at line)) file file b n array_tables next
      unfolding items_tables items_add ordered_items item_parts
      items-none {k} y = record {
        adds =
            λ what rest f.
            let c = t.closed k y in
            let same = sym listed.byte ∙ c.is in
            let o : d.what ≡ [] = listed.none (eq-eqb listed.first 93 cc) in
            subst (λ (js : List J). Adds file file b n (array_tables js (numbers n)) next) (same-got d.is f)
            (rows_end roomy_of start-rows (rw o) (rw o));
      }

      pub items-start : {names : List ℕ} {used i : ℕ} → Spare (array (value levels) (drop at line)) names used named_items → x ≡ Ok i → Filling levels line at names names used file file b n count next 0 i
      unfolding named
      items-start {names} {used} {i} s y =
          let c = t.next i y in
          record {
            due = d;
            roomy = roomy_of;
            long = refl;
            stays = record { long = refl; same = λ j h. refl };
            from = c.from;
            within = c.within;
            left = d.what;
            parts = subst (λ (u : List ℕ). Run 93 (Item (value levels)) u d.what d.rest) (sym c.is) (listed.run (ne_eqb listed.first 93 (c.other listed.first listed.others listed.byte)));
            rows = let z : n.member ≡ n.member + 0 = omega arith in subst (λ (r : ℕ). Rows file file b n count (whole_of d.what n) (rest_of d.what (numbers next)) next r) z start-rows;
            spare = s.is d.what d.rest d.is;
          }

module _ (levels : ℕ) {line : List ℕ} {at : ℕ} {names₀ names : List ℕ} {used : ℕ} {before file : List ℕ} {b : Bodies} {n : Next} {count : ℕ} {next : Next} {k i : ℕ} (g : Filling levels line at names₀ names used before file b n count next k i) where
  pub fill-turn : Turn 93 (Item (value levels)) (drop i line) g.left g.due.rest
  fill-turn = turn 93 (Item (value levels)) g.parts

  head_of : Others fill-turn.what g.left
  head_of = others_of_lem 93 (Item (value levels)) fill-turn

  abbrev child : Tables
  child = value_tables fill-turn.what (numbers next)

  abbrev later : List (List ℕ) × Tables
  later = rest_of head_of.others (past (numbers next) child)

  -- the item that stands here, and those after it
  here-rows : Rows before file b n count (whole_of g.due.what n) ((nothing ∷ last_value (numbers next) child ∷ []) ∷ later.0, child ⊕ later.1) next (n.member + k)
  unfolding items_add ordered_items item_parts
  here-rows = subst (λ (js : List J). Rows before file b n count (whole_of g.due.what n) (rest_of js (numbers next)) next (n.member + k)) head_of.is g.rows

  -- the member fits
  pub member-room : (length file ≡ length before) → b.members + 8 * (n.member + k) + 8 ≤ length file
  member-room l =
      let short : suc (length here-rows.done) ≤ count = omega (arith, g.roomy.all, ap length here-rows.rows, length-append here-rows.done ((nothing ∷ last_value (numbers next) child ∷ []) ∷ later.0)) in
      omega (arith, roomy-member g.roomy, here-rows.place)

  pub fill-at : i ≤ length line
  fill-at = g.within

  pub run_fits : Fits w64 (n.member + k)
  run_fits = record { fits = omega (arith, member-room g.long, g.due.ready.words, g.long) }

  pub names-after : {names' : List ℕ} → Stays used names names' → length names' ≡ length names₀
  names-after q = q.long ∙ g.stays.long

  pub stays_after : {names' : List ℕ} → Stays used names names' → Stays used names₀ names'
  stays_after q = record { long = q.long ∙ g.stays.long; same = λ c u. q.same c u ∙ g.stays.same c u }

  pub out-after : (after last : List ℕ) → length after ≡ length file → length last ≡ length after → length last ≡ length before
  out-after after last l m = m ∙ l ∙ g.long

  pub item-due : Due line i (value levels (drop i line)) file b next value_tables
  item-due = record {
    what = fill-turn.what;
    rest = fill-turn.after;
    within = g.within;
    is = fill-turn.part;
    ready = ready-first child later.1 (rows-ready g.roomy here-rows g.long);
  }

  pub item-spare : Spare (value levels (drop i line)) names used named
  unfolding named item_parts
  item-spare = record {
    is =
        λ what rest f.
        let z : what ≡ fill-turn.what = same-got f fill-turn.part in
        let e = ap (λ (js : List J). inside (item_parts js)) head_of.is in
        omega (arith, ap named z, g.spare, e, g.stays.long);
  }

  pub item_count : Fits w64 (k + 1)
  item_count = record { fits = omega (arith, member-room g.long, g.due.ready.words, g.long) }

  module _ {names' after : List ℕ} {w-next : Next} {w-end : ℕ} (p : WroteTo line i (value levels (drop i line)) file after b next value_tables w-next w-end) (q : Stays used names names') (l : length after ≡ length file) where
    wrote : Adds file after b next child w-next
    wrote = p.adds fill-turn.what fill-turn.after fill-turn.part

    next-is : w-next ≡ beyond next child
    unfolding item-due fill-turn
    next-is = adds-next item-due.ready wrote

    number_is : last_value (numbers next) child ≡ w-next.value - 1
    unfolding last_value numbers beyond
    number_is = ap (λ (m : Next). m.value - 1) (sym next-is)

    pub item-some : 1 ≤ w-next.value
    unfolding beyond
    item-some = omega (arith, ap (λ (m : Next). m.value) next-is, value-one (ordered fill-turn.what) (numbers next))

    pub item-word : w-next.value - 1 ≤ 4294967295
    unfolding beyond
    item-word = omega (arith, ap (λ (m : Next). m.value) next-is, value-words (ready-first child later.1 (rows-ready g.roomy here-rows g.long)))

    pub item_room : b.members + 8 * (n.member + k) + 8 ≤ length after
    item_room = omega (arith, member-room g.long)

    sign-here : blanks (drop w-end line) ≡ fill-turn.sign ∷ fill-turn.others
    sign-here = ap blanks (sym (p.is fill-turn.what fill-turn.after fill-turn.part)) ∙ fill-turn.byte

    pub item-signed : Signed line w-end
    item-signed = record { within = p.within; sign = fill-turn.sign; rest = fill-turn.others; is = sign-here }

    module _ {last : List ℕ} (m : Writing after last (b.members + 8 * (n.member + k)) (packed (4294967295 ∷ (w-next.value - 1) ∷ []))) (h : length last ≡ length after) where
      next-rows : Rows before last b n count (whole_of g.due.what n) (rest_of head_of.others (numbers w-next)) w-next (n.member + (k + 1))
      next-rows =
          let e : numbers w-next ≡ past (numbers next) child = ap numbers next-is ∙ numbers-beyond next child in
          let o : n.member + k + 1 ≡ n.member + (k + 1) = omega arith in
          subst (λ (r : ℕ). Rows before last b n count (whole_of g.due.what n) (rest_of head_of.others (numbers w-next)) w-next r) o (subst (λ (q : Next-as_Trace). Rows before last b n count (whole_of g.due.what n) (rest_of head_of.others q) w-next (n.member + k + 1)) (sym e)
          (rows_step nothing (last_value (numbers next) child) later.0 child later.1 g.roomy (shaped (ordered fill-turn.what) (numbers next)) here-rows next-is wrote
          (subst (λ (v : ℕ). Writing after last (b.members + 8 * (n.member + k)) (packed (nothing ∷ v ∷ []))) (sym number_is) m)))

      module _ {x : Result ℕ ℕ} (t : PartTold line w-end 93 x) where
        pub items-closed : {k : ℕ} → x ≡ Err k → AddsTo (array (value levels) (drop at line)) before last b n array_tables w-next
        unfolding items_tables items_add ordered_items item_parts
        items-closed {k} y = record {
          adds =
              λ what rest f.
              let c = t.closed k y in
              let same = sym sign-here ∙ c.is in
              let z : fill-turn.sign ≡ 93 = cc in
              let o : head_of.others ≡ [] = let a = sym head_of.is ∙ fill-turn.alone z in cc in
              subst (λ (js : List J). Adds before last b n (array_tables js (numbers n)) w-next) (same-got g.due.is f)
              (rows_end g.roomy next-rows (rw o) (rw o));
        }

        pub items-again : {j : ℕ} → x ≡ Ok j → Filling levels line at names₀ names' used before last b n count w-next (k + 1) j
        unfolding named item_parts
        items-again {j} y =
            let c = t.next j y in
            let o = fill-turn.next (c.other fill-turn.sign fill-turn.others sign-here) in
            let a : head_of.others ≡ o.parts = let a = sym head_of.is ∙ o.all-is in cc in
            let e = ap (λ (js : List J). inside (item_parts js)) head_of.is in
            record {
              due = g.due;
              roomy = g.roomy;
              long = omega (arith, g.long);
              stays = record { long = omega (arith, q.long, g.stays.long); same = λ c u. q.same c u ∙ g.stays.same c u };
              from = omega (arith, g.from, p.from, c.from);
              within = c.within;
              left = head_of.others;
              parts = subst (λ (u : List ℕ). Run 93 (Item (value levels)) u head_of.others g.due.rest) (sym (c.is fill-turn.sign fill-turn.others sign-here)) (subst (λ (js : List J). Run 93 (Item (value levels)) (blanks fill-turn.others) js g.due.rest) (sym a) o.run);
              rows = next-rows;
              spare = omega (arith, g.spare, e);
            }
