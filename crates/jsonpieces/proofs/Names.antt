-- Strings of a namespace written one after another, each with its list word; then action and kind
use mathlib.Core.Path.{◌≡◌, refl, sym, ap, subst, ◌∙◌}
use mathlib.Core.List.{List, [], ◌∷◌, ◌++◌, append-nil}
use Prim.Native.Nat.{ℕ, zero, suc, ◌+◌, ◌-◌, ◌^◌, ◌<◌, ◌≤◌}
use native.Mathlib.Omega.{arith}
use lib.Dec.{eqb}
use lib.ListN.{length, drop, length-append, length-map}
use mir.Val.{Fits}
use mir.Syntax.{w64}
use borrow.Author.Tests.{eq-eqb, ne_eqb}
use Rattle.std.specs.Prelude.{Result, Ok, Err}
use Rattle.meaning.specs.Case.{places}
use Rattle.encode.proofs.Laws.Unsorted.{places-long}
use Rattle.jsontext.specs.declared.Fault.TheVariants.{BadField}
use Rattle.jsontext.specs.Reading.{Read, got, then, blanks, want}
use Rattle.jsontext.specs.Strings.{string}
use Rattle.jsontext.specs.Values.{text, array}
use Rattle.jsontext.specs.Events.{Event, listed}
use Rattle.jsontrace.specs.Trace.{Tables, empty, ◌⊕◌, texts, lists, Next as Next-as_Trace, past, naming}
use Rattle.jsontrace.proofs.Laws.Trace.{Shaped, shaped-texts, shaped-lists, ◌then◌}
use Rattle.jsonroom.specs.declared.Bodies.{Bodies}
use Rattle.jsonroom.specs.declared.Next.{Next}
use Rattle.jsonruns.specs.Good.{Signed, BeginTold, PartTold}
use Rattle.jsonruns.proofs.Signs.{ahead, ahead-less}
use Rattle.jsonruns.specs.Run.{Run, Listed, Item}
use Rattle.jsonruns.specs.Forms.{Says}
use Rattle.jsonruns.proofs.Runs.{then_of, due_of, wanted, same-got, text-string, Turn, turn, array-listed}
use Rattle.jsoncount.proofs.Triples.{byte-below, byte_left}
use Rattle.jsonview.specs.Room.{numbers}
use Rattle.jsonview.specs.Showing.{adds_none}
use Rattle.jsonview.proofs.Rows.{string-words}
use Rattle.jsonadds.specs.Place.{TwoDue, TwoWritten}
use Rattle.jsonadds.proofs.Items.{Others, others_of_lem}
use Rattle.jsonentry.specs.declared.Fields.{Fields}
use Rattle.jsonentry.specs.Fields.{Stands, FieldsStand}
use Rattle.jsonentry.specs.Marks.{MarkReady, MarkAdds}
use Rattle.jsonentry.specs.Marking.{mark-none, mark-then, mark-ready-first, mark-ready-second}
use Rattle.jsonentities.specs.Put.{named_tables, MarkDue, MarkWrote}
use Rattle.jsonentities.specs.Lists.{ready-lists, mark-numbers}
use Rattle.jsonpieces.specs.Parts.{space_tables, SpacesWritten, names_add, NamesDue, NamesWritten}

-- ---- tables of a namespace

space-none : (k : Next-as_Trace) → space_tables [] k ≡ empty
unfolding space_tables texts lists naming places ◌⊕◌ empty
space-none k = refl

space-more : (t : List ℕ) (ts : List (List ℕ)) (k : Next-as_Trace) → space_tables (t ∷ ts) k ≡ named_tables t k ⊕ space_tables ts (past k (named_tables t k))
unfolding space_tables named_tables texts lists naming places past ◌⊕◌
space-more t ts k = refl

pub shaped-spaces : (ts : List (List ℕ)) (k : Next-as_Trace) → Shaped (space_tables ts k)
unfolding space_tables
shaped-spaces ts k = ◌then◌ (shaped-texts ts) (shaped-lists (naming k.string (length ts)))

shaped-name : (t : List ℕ) (k : Next-as_Trace) → Shaped (named_tables t k)
unfolding named_tables
shaped-name t k = ◌then◌ (shaped-texts (t ∷ [])) (shaped-lists ((k.string, 1) ∷ []))

pub adds-nothing : (file marks : List ℕ) (b : Bodies) (n : Next) → MarkAdds file file marks marks b n empty n
unfolding empty
adds-nothing file marks b n = mark-none empty refl (adds_none file b n)

-- ---- the loop

-- what is written from here on is written of the whole
pub record Spacing (line : List ℕ) (at : ℕ) (before file marks₀ marks : List ℕ) (b : Bodies) (n next : Next) (part : Result ℕ ℕ) : Type 0 where
  what : List (List ℕ)
  rest : List ℕ
  is : array text (drop at line) ≡ got what rest
  left : List (List ℕ)
  none : (e : ℕ) → part ≡ Err e → left ≡ []
  within : (i : ℕ) → part ≡ Ok i → i ≤ length line
  run : (i : ℕ) → part ≡ Ok i → Run 93 (Item text) (drop i line) left rest
  ready : MarkReady file marks b next (space_tables left (numbers next))
  adds : (after marks' : List ℕ) (m : Next) → MarkAdds file after marks marks' b next (space_tables left (numbers next)) m → MarkAdds before after marks₀ marks' b n (space_tables what (numbers n)) m
  out-long : length file ≡ length before
  marks-long : length marks ≡ length marks₀

module _ {line : List ℕ} {at : ℕ} {file marks : List ℕ} {b : Bodies} {n : Next} (d : MarkDue line at (array text (drop at line)) file marks b n space_tables) where
  all_listed : Listed 93 (Item text) (drop at line) d.what d.rest
  all_listed = array-listed text (drop at line) d.is

  pub spaces-signed : Signed line at
  spaces-signed = record { within = d.within; sign = all_listed.first; rest = all_listed.others; is = all_listed.byte }

  pub spaces-start : {x : Result ℕ ℕ} → BeginTold line at 93 x → Spacing line at file file marks marks b n n x
  spaces-start t = record {
    what = d.what;
    rest = d.rest;
    is = d.is;
    left = d.what;
    none = λ e y. let same = sym all_listed.byte ∙ (t.closed e y).is in all_listed.none (eq-eqb all_listed.first 93 cc);
    within = λ i y. (t.next i y).within;
    run = λ i y. let c = t.next i y in subst (λ (u : List ℕ). Run 93 (Item text) u d.what d.rest) (sym c.is) (all_listed.run (ne_eqb all_listed.first 93 (c.other all_listed.first all_listed.others all_listed.byte)));
    ready = d.ready;
    adds = λ after marks' m p. p;
    out-long = refl;
    marks-long = refl;
  }

module _ {line : List ℕ} {at : ℕ} {before file marks₀ marks : List ℕ} {b : Bodies} {n next : Next} {part : Result ℕ ℕ} (g : Spacing line at before file marks₀ marks b n next part) where
  pub spaces-long : length file ≡ length before
  spaces-long = g.out-long

  pub spaces-marks : length marks ≡ length marks₀
  spaces-marks = g.marks-long

  pub spaces-end : {e : ℕ} → part ≡ Err e → SpacesWritten (array text (drop at line)) before file marks₀ marks b n next
  spaces-end {e} y = record {
    adds =
        λ what rest f.
        let u : space_tables g.left (numbers next) ≡ empty = ap (λ (ts : List (List ℕ)). space_tables ts (numbers next)) (g.none e y) ∙ space-none (numbers next) in
        subst (λ (ts : List (List ℕ)). MarkAdds before file marks₀ marks b n (space_tables ts (numbers n)) next) (same-got g.is f)
        (g.adds file marks next (subst (λ (v : Tables). MarkAdds file file marks marks b next v next) (sym u) (adds-nothing file marks b next)));
  }

  module _ {i : ℕ} (y : part ≡ Ok i) where
    here : Turn 93 (Item text) (drop i line) g.left g.rest
    here = turn 93 (Item text) (g.run i y)

    more : Others here.what g.left
    more = others_of_lem 93 (Item text) here

    abbrev now : Tables
    now = named_tables here.what (numbers next)

    abbrev later : Next-as_Trace → Tables
    later k = space_tables more.others k

    left_is : space_tables g.left (numbers next) ≡ now ⊕ later (past (numbers next) now)
    left_is = ap (λ (ts : List (List ℕ)). space_tables ts (numbers next)) more.is ∙ space-more here.what more.others (numbers next)

    left-ready : MarkReady file marks b next (now ⊕ later (past (numbers next) now))
    left-ready = subst (λ (t : Tables). MarkReady file marks b next t) left_is g.ready

    here-string : string (drop i line) ≡ got here.what here.after
    here-string = text-string (drop i line) here.part

    now-ready : MarkReady file marks b next now
    now-ready = mark-ready-first now (later (past (numbers next) now)) left-ready

    pub spaces-due : MarkDue line i (string (drop i line)) file marks b next named_tables
    spaces-due = record { what = here.what; rest = here.after; within = g.within i y; is = here-string; ready = now-ready }

    module _ {after marks' : List ℕ} {m : Next} {e : ℕ} (q : MarkWrote line i (string (drop i line)) file after marks marks' b next named_tables m e) where
      sign-here : blanks (drop e line) ≡ here.sign ∷ here.others
      sign-here = ap blanks (sym (q.is here.what here.after here-string)) ∙ here.byte

      pub spaces-after : Signed line e
      spaces-after = record { within = q.within; sign = here.sign; rest = here.others; is = sign-here }

      named-adds : MarkAdds file after marks marks' b next now m
      named-adds = q.adds here.what here.after here-string

      next-numbers : numbers m ≡ past (numbers next) now
      next-numbers = mark-numbers now now-ready named-adds

      goes_on : (last marks'' : List ℕ) (k : Next) → MarkAdds after last marks' marks'' b m (later (numbers m)) k → MarkAdds before last marks₀ marks'' b n (space_tables g.what (numbers n)) k
      goes_on last marks'' k p =
          g.adds last marks'' k
          (subst (λ (t : Tables). MarkAdds file last marks marks'' b next t k) (sym left_is)
          (mark-then now (later (past (numbers next) now)) (shaped-name here.what (numbers next)) (shaped-spaces more.others _) named-adds
          (subst (λ (c : Next-as_Trace). MarkAdds after last marks' marks'' b m (later c) k) next-numbers p)))

      module _ {x : Result ℕ ℕ} (t : PartTold line e 93 x) where
        over : (k : ℕ) → x ≡ Err k → more.others ≡ []
        over k z =
            let same = sym sign-here ∙ (t.closed k z).is in
            let c : here.sign ≡ 93 = cc in
            let a = sym more.is ∙ here.alone c in
            cc

        goes-run : (j : ℕ) → x ≡ Ok j → Run 93 (Item text) (drop j line) more.others g.rest
        goes-run j h =
            let c = t.next j h in
            let o = here.next (c.other here.sign here.others sign-here) in
            let a : more.others ≡ o.parts = let a = sym more.is ∙ o.all-is in cc in
            subst (λ (u : List ℕ). Run 93 (Item text) u more.others g.rest) (sym (c.is here.sign here.others sign-here)) (subst (λ (ts : List (List ℕ)). Run 93 (Item text) (blanks here.others) ts g.rest) (sym a) o.run)

        pub spaces-again : length after ≡ length file → length marks' ≡ length marks → Spacing line at before after marks₀ marks' b n m x
        spaces-again l k = record {
          what = g.what;
          rest = g.rest;
          is = g.is;
          left = more.others;
          none = over;
          within = λ j h. (t.next j h).within;
          run = goes-run;
          ready = subst (λ (c : Next-as_Trace). MarkReady after marks' b m (later c)) (sym next-numbers) (mark-ready-second now (later (past (numbers next) now)) (shaped-name here.what (numbers next)) left-ready named-adds l);
          adds = goes_on;
          out-long = l ∙ g.out-long;
          marks-long = k ∙ g.marks-long;
        }

        pub spaces-less : ahead line x < ahead line part
        spaces-less = ahead-less line y t q.from

-- ---- after an array's bracket

pub inside_of : {A : Type 0} (inside : List ℕ → Read A) {line : List ℕ} {at : ℕ} {x : A} → Stands line at (listed inside) x → Stands line (at + 1) inside x
inside_of inside {line} {at} s =
    let b = then_of (want 91 (drop at line)) (due_of BadField (λ c. eqb c 91) (λ t. (then) (want 91 t) (λ bracket rest. inside rest)) (drop at line) s.is) in
    let w = (wanted 91 (drop at line) b.is).is in
    record { rest = s.rest; within = omega (arith, byte-below line at w); is = ap inside (byte_left line at w) ∙ b.next }

pub listed_below : {A : Type 0} (inside : List ℕ → Read A) {line : List ℕ} {at : ℕ} {x : A} → Stands line at (listed inside) x → at < length line
listed_below inside {line} {at} s =
    let b = then_of (want 91 (drop at line)) (due_of BadField (λ c. eqb c 91) (λ t. (then) (want 91 t) (λ bracket rest. inside rest)) (drop at line) s.is) in
    byte-below line at (wanted 91 (drop at line) b.is).is

says_of : {line : List ℕ} {at : ℕ} {t : List ℕ} → Stands line at text t → Says line at t
says_of {line} {at} s = record { rest = s.rest; within = s.within; is = text-string (drop at line) s.is }

-- ---- namespace, then action and kind

same_tables : {a a' v v' m m' p p' : List (List ℕ)} {l l' : List (ℕ × ℕ)} → a ≡ a' → v ≡ v' → m ≡ m' → p ≡ p' → l ≡ l' → ◌≡◌ {A = Tables} (record { texts = a; values = v; members = m; points = p; lists = l }) (record { texts = a'; values = v'; members = m'; points = p'; lists = l' })
same_tables a v m p l = cc

abbrev two : Event → Tables
two e = texts (e.action ∷ e.kind ∷ [])

names-are : (e : Event) (k : Next-as_Trace) → names_add e k ≡ space_tables e.namespace k ⊕ two e
unfolding names_add space_tables texts lists ◌⊕◌
names-are e k =
    same_tables (append-nil (e.namespace ++ (e.action ∷ e.kind ∷ [])) ∙ sym (ap (λ (l : List (List ℕ)). l ++ (e.action ∷ e.kind ∷ [])) (append-nil e.namespace))) refl refl refl (sym (append-nil (naming k.string (length e.namespace))))

pub shaped-names : (e : Event) (k : Next-as_Trace) → Shaped (names_add e k)
unfolding names_add
shaped-names e k = ◌then◌ (shaped-texts _) (shaped-lists _)

naming-long : (from count : ℕ) → length (naming from count) ≡ count
unfolding naming
naming-long from count = length-map (places from 1 count) (λ k. (k, 1)) ∙ places-long from count

names-lists : (e : Event) (k : Next-as_Trace) → length (names_add e k).lists ≡ length e.namespace
unfolding names_add texts lists ◌⊕◌
names-lists e k = naming-long k.string (length e.namespace)

names-texts : (e : Event) (k : Next-as_Trace) → length (names_add e k).texts ≡ length e.namespace + 2
unfolding names_add texts lists ◌⊕◌
names-texts e k = omega (arith, length-append (e.namespace ++ (e.action ∷ e.kind ∷ [])) [], length-append e.namespace (e.action ∷ e.kind ∷ []))

module _ {line : List ℕ} {f : Fields} {file marks : List ℕ} {b : Bodies} {n : Next} (d : NamesDue line f file marks b n) where
  stand : FieldsStand line f d.what
  stand = d.fields.is d.what d.rest d.is

  namespace-here : f.namespace < length line
  namespace-here = listed_below (array text) stand.namespace

  pub names-fit : length line < 2 ^ 64 → Fits w64 (f.namespace + 1)
  names-fit h = record { fits = omega (arith, namespace-here, h) }

  two_ready : MarkReady file marks b n (space_tables d.what.namespace (numbers n) ⊕ two d.what)
  two_ready = subst (λ (t : Tables). MarkReady file marks b n t) (names-are d.what (numbers n)) d.ready

  abbrev spaced : Stands line (f.namespace + 1) (array text) d.what.namespace
  spaced = inside_of (array text) stand.namespace

  pub names-spaces : MarkDue line (f.namespace + 1) (array text (drop (f.namespace + 1) line)) file marks b n space_tables
  names-spaces = record { what = d.what.namespace; rest = spaced.rest; within = spaced.within; is = spaced.is; ready = mark-ready-first (space_tables d.what.namespace (numbers n)) (two d.what) two_ready }

  module _ {mid marks' : List ℕ} {next : Next} (p : SpacesWritten (array text (drop (f.namespace + 1) line)) file mid marks marks' b n next) where
    spaces-added : MarkAdds file mid marks marks' b n (space_tables d.what.namespace (numbers n)) next
    spaces-added = p.adds d.what.namespace spaced.rest spaced.is

    pub names-two : length mid ≡ length file → TwoDue line f.action f.kind mid b next
    names-two l = record {
      first = d.what.action;
      second = d.what.kind;
      first-is = says_of stand.action;
      second_is = says_of stand.kind;
      ready = (mark-ready-second (space_tables d.what.namespace (numbers n)) (two d.what) (shaped-spaces d.what.namespace (numbers n)) two_ready spaces-added l).ready;
    }

    module _ {last : List ℕ} {r : Next} (q : TwoWritten line f.action f.kind mid last b next r) where
      two-added : MarkAdds mid last marks' marks' b next (two d.what) r
      unfolding texts
      two-added = mark-none (two d.what) refl (q.adds d.what.action d.what.kind (says_of stand.action) (says_of stand.kind))

      names-added : MarkAdds file last marks marks' b n (names_add d.what (numbers n)) r
      names-added =
          subst (λ (t : Tables). MarkAdds file last marks marks' b n t r) (sym (names-are d.what (numbers n)))
          (mark-then (space_tables d.what.namespace (numbers n)) (two d.what) (shaped-spaces d.what.namespace (numbers n)) (shaped-texts _) spaces-added two-added)

      abbrev event : Tables
      event = names_add d.what (numbers n)

      names-numbers : numbers r ≡ past (numbers n) event
      names-numbers = mark-numbers event d.ready names-added

      names-list : r.list ≡ n.list + length d.what.namespace
      unfolding numbers past
      names-list = ap (λ (k : Next-as_Trace). k.list) names-numbers ∙ ap (λ (x : ℕ). n.list + x) (names-lists d.what (numbers n))

      spaces-are : r.list - n.list ≡ length d.what.namespace
      spaces-are = omega (arith, names-list)

      pub names-wrote : NamesWritten line file last marks marks' b n r
      names-wrote = record {
        from = omega (arith, names-list);
        small = record {
          list = omega (arith, spaces-are, ready-lists d.ready.ready, d.ready.ready.words, names-lists d.what (numbers n));
          string = omega (arith, spaces-are, string-words d.ready.ready, names-texts d.what (numbers n));
        };
        numbers-are = λ e rest s. subst (λ (x : Event). numbers r ≡ past (numbers n) (names_add x (numbers n))) (same-got d.is s) names-numbers;
        spaces = λ e rest s. subst (λ (x : Event). r.list - n.list ≡ length x.namespace) (same-got d.is s) spaces-are;
        adds = λ e rest s. subst (λ (x : Event). MarkAdds file last marks marks' b n (names_add x (numbers n)) r) (same-got d.is s) names-added;
      }
