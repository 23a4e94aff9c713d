-- An object's names put in order, one after another
use mathlib.Core.Path.{◌≡◌, refl, sym, ap, subst, ◌∙◌}
use mathlib.Core.Bool.{Bool, true, false}
use mathlib.Core.List.{List, [], ◌∷◌}
use mathlib.Core.Option.{Option, none as nowhere, some}
use Prim.Native.Nat.{ℕ, zero, suc, ◌+◌, ◌-◌, ◌<◌, ◌≤◌}
use native.Mathlib.Omega.{arith}
use lib.Dec.{eqb}
use lib.ListN.{length, drop}
use Rattle.std.specs.Prelude.{Result, Ok, Err}
use Rattle.meaning.specs.Tests.{choose}
use Rattle.meaning.specs.Equal.{same_list}
use Rattle.laws.specs.Text.{self_same}
use Rattle.jsontext.specs.declared.Fault.TheVariants.{RepeatedName, BadField}
use Rattle.jsontext.specs.Reading.{Read, got, fault, blanks, want}
use Rattle.jsontext.specs.Strings.{string}
use Rattle.jsontext.specs.Values.{J, Name, before, Parts, end, member_parts, after_name, members, unless_empty, object, value}
use Rattle.jsontrace.specs.Order.{insert_part, ordered, ordered_members}
use Rattle.jsonread.proofs.Spelling.{never}
use Rattle.jsonnames.specs.Sorted.{Spells, Sorted, Lacks}
use Rattle.jsonnames.specs.Merges.{Merged}
use Rattle.jsonnames.specs.Runs.{Grown}
use Rattle.jsonnames.proofs.Halves.{spells_one}
use Rattle.jsonnames.proofs.Stays.{sorted_none}
use Rattle.jsonruns.specs.Good.{Good, Signed, BeginTold, PartTold}
use Rattle.jsonruns.proofs.Signs.{ahead, ahead-less}
use Rattle.jsonruns.specs.Run.{Listed, Member}
use Rattle.jsonruns.proofs.Runs.{same-got, then_of, after_of, Turn, turn, object-listed}
use Rattle.jsoncount.specs.Sizes.{object_read}
use Rattle.jsonsort.specs.Sort.{KeepDue, insert_all, Stands, Fresh, Apart, Away, Among, Scattered, Ascends}
use Rattle.jsonsort.specs.Order.{all-ordered, away_insert, away-end, ascends_insert}
use Rattle.jsonsort.proofs.Cells.{scattered-lacks, scattered-put, scattered_merged, cells-scattered}
use Rattle.jsonadds.specs.declared.Many.{Many}
use Rattle.jsonadds.specs.Place.{Spare, Stays, MemberGood, MemberEnds, CollectTold, SortTold, named, named_members}
use Rattle.jsonadds.proofs.Items.{Others, others_of_lem}
use Rattle.jsonadds.proofs.Named.{many-members}
use Rattle.jsonadds.proofs.Passing.{Passing, PartEnds, pass-signed, pass-none, pass-empty, pass-start, pass-after, pass-last, pass-closed, pass-again}

-- ---- the names of an object that reads well differ

-- none of the members' names was seen
data Unseen {A : Type 0} (seen : List Name) : List (List ℕ × A) → Type 0 where
  all : Unseen seen []
  one : {m : List ℕ × A} {ms : List (List ℕ × A)} → before m.0 seen ≡ nowhere → Unseen seen ms → Unseen seen (m ∷ ms)

unseen-name : (known : List ℕ → Bool) (seen : List Name) (n : Name) (s : List ℕ) {c : ℕ} {rest : List ℕ} → after_name known seen n s ≡ got c rest → before n.name seen ≡ nowhere
unfolding after_name
unseen-name known seen n s {c} {rest} e =
    go (before n.name seen) refl e
  where
    go : (o : Option ℕ) → before n.name seen ≡ o → elim o [ some first ↦ fault RepeatedName n.left first | nowhere ↦ choose (known n.name) (want 58 s) (fault BadField n.left n.left) ] ≡ got c rest → before n.name seen ≡ nowhere
    go nowhere q f = q
    go (some first) q f = absurd (never f)

-- a name that is not among more was not the last, nor among the others
record Other (n : Name) (seen : List Name) (m : List ℕ) : Type 0 where
  differs : m ≡ n.name → ⊥
  others : before m seen ≡ nowhere

other_of : (n : Name) (seen : List Name) (m : List ℕ) → before m (n ∷ seen) ≡ nowhere → Other n seen m
unfolding before choose
other_of n seen m e =
    go (same_list n.name m) refl e
  where
    go : (x : Bool) → same_list n.name m ≡ x → choose x (some n.left) (before m seen) ≡ nowhere → Other n seen m
    go true q f = absurd (let z : ◌≡◌ {A = ℕ} 0 1 = cc in omega arith)
    go false q f = record {
      differs = λ z. let y : same_list n.name m ≡ true = ap (same_list n.name) z ∙ self_same n.name in let x : ◌≡◌ {A = ℕ} 0 1 = cc in omega arith;
      others = f;
    }

fresh_of : (n : Name) (seen : List Name) {ms : List (List ℕ × J)} → Unseen (n ∷ seen) ms → Fresh n.name (member_parts ms)
unfolding Fresh member_parts
fresh_of n seen all = tt
fresh_of n seen (one {m = m} e u) = ((other_of n seen m.0 e).differs, fresh_of n seen u)

fewer : (n : Name) (seen : List Name) {ms : List (List ℕ × J)} → Unseen (n ∷ seen) ms → Unseen seen ms
fewer n seen all = all
fewer n seen (one {m = m} e u) = one (other_of n seen m.0 e).others (fewer n seen u)

record Differ (seen : List Name) (ms : List (List ℕ × J)) : Type 0 where
  unseen : Unseen seen ms
  apart : Apart (member_parts ms)

module _ (known : List ℕ → Bool) (item : List ℕ → List ℕ → Read J) where
  members-differ : (turns : ℕ) (seen : List Name) (s : List ℕ) (ms : List (List ℕ × J)) {rest : List ℕ} → members known item turns seen s ≡ got ms rest → Differ seen ms
  unfolding members Apart member_parts Fresh
  members-differ zero seen s ms e = absurd (never e)
  members-differ (suc turns) seen s ms {rest} e =
      let n = then_of (string s) e in
      let name : Name = record { name = n.what; left = length s } in
      let c = then_of (after_name known seen name (blanks n.left)) n.next in
      let a = then_of (item n.what (blanks c.left)) c.next in
      let others : List ℕ → Read (List (List ℕ × J)) = λ t. members known item turns (name ∷ seen) t in
      let f = after_of 125 (n.what, a.what) others (blanks a.left) a.next in
      let u : before n.what seen ≡ nowhere = unseen-name known seen name (blanks n.left) c.is in
      go name a.what u (eqb f.sign 125)
      (λ q. f.alone q)
      (λ q. let o = f.goes q in (o.what, (o.makes, members-differ turns (name ∷ seen) (blanks f.others) o.what o.is)))
      refl
    where
      go : (n : Name) (j : J) → before n.name seen ≡ nowhere → (x : Bool) {y : Bool} → (y ≡ true → ms ≡ (n.name, j) ∷ []) → (y ≡ false → (ps : List (List ℕ × J)) × ((ms ≡ (n.name, j) ∷ ps) × Differ (n ∷ seen) ps)) → y ≡ x → Differ seen ms
      go n j u true f g e = rw (f e) (record { unseen = one u all; apart = (tt, tt) })
      go n j u false f g e =
          let o = g e in
          rw o.1.0 (record { unseen = one u (fewer n seen o.1.1.unseen); apart = (fresh_of n seen o.1.1.unseen, o.1.1.apart) })

object-apart : (levels : ℕ) (s : List ℕ) (ms : List (List ℕ × J)) {rest : List ℕ} → object_read levels s ≡ got ms rest → Apart (member_parts ms)
unfolding object_read object unless_empty choose Apart member_parts
object-apart levels s ms {rest} e =
    go (blanks s) e
  where
    chosen : (c : ℕ) (t : List ℕ) (x : Bool) → choose x (got [] t) (members (λ n. true) (λ n u. value levels u) (suc (length (c ∷ t))) [] (c ∷ t)) ≡ got ms rest → Apart (member_parts ms)
    chosen c t true f = let z : ms ≡ [] = cc in rw z tt
    chosen c t false f = (members-differ (λ n. true) (λ n u. value levels u) (suc (length (c ∷ t))) [] (c ∷ t) ms f).apart

    go : (t : List ℕ) → unless_empty 125 (λ u. members (λ n. true) (λ n v. value levels v) (suc (length u)) [] u) t ≡ got ms rest → Apart (member_parts ms)
    go [] f = absurd (never f)
    go (c ∷ t) f = chosen c t (eqb c 125) f

-- ---- the loop

among_none : {n : List ℕ} {o : J} → Among n o end → ⊥
among_none {n} {o} a = elim a [ ]

abbrev Part : ℕ → List ℕ → List ℕ × J → List ℕ → Type 0
Part levels s m t = Member (λ n. true) (λ n u. value levels u) s m t

members-law : (line : List ℕ) (at levels : ℕ) (what : List (List ℕ × J)) (rest : List ℕ) → object_read levels (drop at line) ≡ got what rest → Listed 125 (Part levels) (drop at line) what rest
unfolding object_read
members-law line at levels what rest e = object-listed (λ n. true) (λ n u. value levels u) (drop at line) e

pub record Sorting (levels : ℕ) (line : List ℕ) (at : ℕ) (names₀ names : List ℕ) (used count i : ℕ) : Type 0 where
  passing : Passing 125 (Part levels) line at (object_read levels (drop at line)) count i
  sorted : Parts
  scattered : Scattered levels line names used (used + count) sorted
  ascends : Ascends sorted
  table : Sorted line names used (used + count)
  goes : insert_all (member_parts passing.left) sorted ≡ ordered_members (member_parts passing.good.what)
  apart : Apart (member_parts passing.left)
  away : Away (member_parts passing.left) sorted
  stays : Stays used names₀ names
  spare : used + length passing.good.what ≤ length names₀
  pub passed : at + count ≤ i
  pub within : i ≤ length line
  pub stop-within : used + count ≤ length names₀

-- a name is left, or the bracket closed
pub record Collecting (levels : ℕ) (line : List ℕ) (at : ℕ) (names₀ names : List ℕ) (used count : ℕ) (part : Result ℕ ℕ) : Type 0 where
  pub next : (i : ℕ) → part ≡ Ok i → Sorting levels line at names₀ names used count i
  pub long : length names ≡ length names₀
  pub few : count ≤ length line + 1
  pub fits : used + count ≤ length names₀
  pub told : (k : ℕ) → part ≡ Err k → CollectTold levels line at (object_read levels (drop at line)) names₀ names used (record { count = count; end = k })

module _ (levels : ℕ) {line : List ℕ} {at : ℕ} (g : Good line at (object_read levels (drop at line))) where
  pub sort_signed : Signed line at
  sort_signed = pass-signed 125 (Part levels) (members-law line at levels) g

  module _ {names : List ℕ} {used : ℕ} (s : Spare (object_read levels (drop at line)) names used named_members) {x : Result ℕ ℕ} (b : BeginTold line at 125 x) where
    all-spare : used + length g.what ≤ length names
    unfolding named
    all-spare = omega (arith, s.is g.what g.rest g.is, many-members g.what)

    no_table : Sorted line names used (used + 0)
    no_table = let z : used ≡ used + 0 = omega arith in subst (λ (k : ℕ). Sorted line names used k) z (sorted_none line names used (omega (arith, all-spare)))

    none_in : (used stop : ℕ) → used ≡ stop → Scattered levels line names used stop end
    none_in used stop e = record { all = λ n o a. absurd (among_none a); only = λ k f h. absurd (omega arith) }

    sort_empty : {e : ℕ} → x ≡ Err e → CollectTold levels line at (object_read levels (drop at line)) names names used (record { count = 0; end = e })
    unfolding ordered_members member_parts Ascends
    sort_empty {e} z =
        let c = pass-empty 125 (Part levels) (members-law line at levels) g b z in
        let n : (what : List (List ℕ × J)) (rest : List ℕ) → object_read levels (drop at line) ≡ got what rest → what ≡ [] = λ what rest f. sym (same-got g.is f) ∙ pass-none 125 (Part levels) (members-law line at levels) g b z in
        record {
          from = c.from;
          within = c.within;
          is = c.is;
          many_is = c.many_is;
          table = no_table;
          scattered = λ what rest f. rw (n what rest f) (none_in used (used + 0) (omega arith));
          ascends = λ what rest f. rw (n what rest f) tt;
          fits = omega (arith, all-spare);
          stays = record { long = refl; same = λ k h. refl };
        }

    sort_start : {i : ℕ} → x ≡ Ok i → Sorting levels line at names names used 0 i
    unfolding Ascends
    sort_start {i} z =
        let p = pass-start 125 (Part levels) (members-law line at levels) g b z in
        record {
          passing = p;
          sorted = end;
          scattered = none_in used (used + 0) (omega arith);
          ascends = tt;
          table = no_table;
          goes = all-ordered (member_parts g.what) (object-apart levels (drop at line) g.what g.is);
          apart = object-apart levels (drop at line) g.what g.is;
          away = away-end (member_parts g.what);
          stays = record { long = refl; same = λ k h. refl };
          spare = all-spare;
          passed = p.from;
          within = p.within;
          stop-within = omega (arith, all-spare);
        }

    pub sort_begun : Collecting levels line at names names used 0 x
    sort_begun = record {
      next = λ i z. sort_start z;
      long = refl;
      few = omega arith;
      fits = omega (arith, all-spare);
      told = λ k z. sort_empty z;
    }

module _ (levels : ℕ) {line : List ℕ} {at : ℕ} {names₀ names : List ℕ} {used count i : ℕ} {y : Result ℕ ℕ} (start : Collecting levels line at names₀ names used count y) (z : y ≡ Ok i) where
  abbrev pub g : Sorting levels line at names₀ names used count i
  g = start.next i z

  pub head : Turn 125 (Part levels) (drop i line) g.passing.left g.passing.good.rest
  head = turn 125 (Part levels) g.passing.parts

  pub tail : Others head.what g.passing.left
  tail = others_of_lem 125 (Part levels) head

  abbrev name : List ℕ
  name = head.what.0

  pub sort_within : i ≤ length line
  sort_within = g.passing.within

  sort_few : count ≤ length line
  sort_few = omega (arith, g.passed, g.within)

  pub sort_room : used + count < length names
  sort_room = omega (arith, g.spare, g.passing.total, ap length tail.is, g.stays.long)

  pub sort_member : MemberGood levels line i
  sort_member = record { what = head.what; after = head.after; within = g.passing.within; is = head.part }

  spells : Spells line i name
  spells = record { rest = head.part.after; within = g.passing.within; is = head.part.name }

  stands : Stands levels line i name (ordered head.what.1)
  stands = record { after = head.part.after; from = head.part.value; rest = head.after; value-is = head.what.1; within = g.passing.within; name = head.part.name; colon = head.part.colon; reads = head.part.is; is = refl }

  -- the first of those left is away from those in order, and from the others
  record Split : Type 0 where
    fresh : Fresh name g.sorted
    from-others : Fresh name (member_parts tail.others)
    apart : Apart (member_parts tail.others)
    away : Away (member_parts tail.others) g.sorted
    goes : insert_all (member_parts tail.others) (insert_part name (ordered head.what.1) g.sorted) ≡ ordered_members (member_parts g.passing.good.what)

  split : Split
  unfolding member_parts Apart Away insert_all
  split =
      let a = subst (λ (ms : List (List ℕ × J)). Apart (member_parts ms)) tail.is g.apart in
      let w = subst (λ (ms : List (List ℕ × J)). Away (member_parts ms) g.sorted) tail.is g.away in
      record { fresh = w.0; from-others = a.0; apart = a.1; away = w.1; goes = sym (ap (λ (ms : List (List ℕ × J)). insert_all (member_parts ms) g.sorted) tail.is) ∙ g.goes }

  pub sort_keep : KeepDue line names used (used + count) i
  sort_keep = record { sorted = g.table; room = sort_room; named = record { name = name; spells = spells }; lacks = λ n s. subst (λ (n : List ℕ). Lacks line names used (used + count) n) (spells_one spells s) (scattered-lacks g.scattered name split.fresh) }

  module _ {e : ℕ} (m : MemberEnds levels line i e) where
    ends : PartEnds 125 (Part levels) line i e
    ends = record { from = m.from; within = m.within; is = m.is }

    pub sort_after : Signed line e
    sort_after = pass-after 125 (Part levels) g.passing ends

  module _ {after : List ℕ} (k : Grown line names after used (used + count) i) where
    more : used + count + 1 ≡ used + (count + 1)
    more = omega arith

    put-scattered : Scattered levels line after used (used + (count + 1)) (insert_part name (ordered head.what.1) g.sorted)
    put-scattered = subst (λ (e : ℕ). Scattered levels line after used e (insert_part name (ordered head.what.1) g.sorted)) more (scattered-put g.scattered k stands)

    put-ascends : Ascends (insert_part name (ordered head.what.1) g.sorted)
    put-ascends = ascends_insert name (ordered head.what.1) g.sorted split.fresh g.ascends

    put-stays : Stays used names₀ after
    put-stays = record { long = k.long ∙ g.stays.long; same = λ c h. k.below c h ∙ g.stays.same c h }

    put-table : Sorted line after used (used + (count + 1))
    put-table = subst (λ (e : ℕ). Sorted line after used e) more k.sorted

    module _ {e : ℕ} (m : MemberEnds levels line i e) where
      module _ {x : Result ℕ ℕ} (b : PartTold line e 125 x) where
        sort_closed : {p : ℕ} → x ≡ Err p → CollectTold levels line at (object_read levels (drop at line)) names₀ after used (record { count = count + 1; end = p })
        unfolding member_parts insert_all tail head
        sort_closed {p} y =
            let c = pass-closed 125 (Part levels) g.passing (ends m) b y in
            let o : tail.others ≡ [] = pass-last 125 (Part levels) g.passing (ends m) b y in
            record {
              from = c.from;
              within = c.within;
              is = c.is;
              many_is = c.many_is;
              table = put-table;
              scattered = λ what rest f. subst (λ (ps : Parts). Scattered levels line after used (used + (count + 1)) ps) (whole o what rest f) put-scattered;
              ascends = λ what rest f. subst (λ (ps : Parts). Ascends ps) (whole o what rest f) put-ascends;
              fits = omega (arith, sort_room, g.stays.long);
              stays = put-stays;
            }
          where
            whole : tail.others ≡ [] → (what : List (List ℕ × J)) (rest : List ℕ) → object_read levels (drop at line) ≡ got what rest → insert_part name (ordered head.what.1) g.sorted ≡ ordered_members (member_parts what)
            whole o what rest f = ap (λ (ms : List (List ℕ × J)). insert_all (member_parts ms) (insert_part name (ordered head.what.1) g.sorted)) (sym o) ∙ split.goes ∙ ap (λ (ms : List (List ℕ × J)). ordered_members (member_parts ms)) (same-got g.passing.good.is f)

        sort_next : {j : ℕ} → x ≡ Ok j → Sorting levels line at names₀ after used (count + 1) j
        unfolding tail head
        sort_next {j} y = record {
          passing = pass-again 125 (Part levels) g.passing (ends m) b y;
          sorted = insert_part name (ordered head.what.1) g.sorted;
          scattered = put-scattered;
          ascends = put-ascends;
          table = put-table;
          goes = split.goes;
          apart = split.apart;
          away = away_insert name (ordered head.what.1) (member_parts tail.others) g.sorted split.from-others split.away;
          stays = put-stays;
          spare = g.spare;
          passed = (pass-again 125 (Part levels) g.passing (ends m) b y).from;
          within = (pass-again 125 (Part levels) g.passing (ends m) b y).within;
          stop-within = omega (arith, sort_room, g.stays.long);
        }

        pub sort_again : Collecting levels line at names₀ after used (count + 1) x
        sort_again = record {
          next = λ j q. sort_next q;
          long = put-stays.long;
          few = omega (arith, sort_few);
          fits = omega (arith, sort_room, g.stays.long);
          told = λ k q. sort_closed q;
        }

        pub sort_less : ahead line x < ahead line y
        sort_less = ahead-less line z b m.from

module _ {levels : ℕ} {line : List ℕ} {at : ℕ} {names₀ names : List ℕ} {used count : ℕ} {x : Result ℕ ℕ} (g : Collecting levels line at names₀ names used count x) where
  pub sort_long : length names ≡ length names₀
  sort_long = g.long

  pub sort_told : {k : ℕ} → x ≡ Err k → CollectTold levels line at (object_read levels (drop at line)) names₀ names used (record { count = count; end = k })
  sort_told {k} z = g.told k z

-- ---- the runs become one

module _ {levels : ℕ} {line : List ℕ} {at : ℕ} {names after : List ℕ} {used : ℕ} {r : Many} (c : CollectTold levels line at (object_read levels (drop at line)) names after used r) where
  pub gather_told : {final : List ℕ} → Merged line after final used (used + r.count) → SortTold levels line at (object_read levels (drop at line)) names final used r
  gather_told m =
      record {
        from = c.from;
        within = c.within;
        is = c.is;
        many_is = c.many_is;
        cells = λ what rest f. cells-scattered m.rises used (omega arith) (ordered_members (member_parts what)) (c.ascends what rest f) (scattered_merged (c.scattered what rest f) m);
        fits = c.fits;
        stays = record { long = m.long ∙ c.stays.long; same = λ k h. m.below k h ∙ c.stays.same k h };
      }
