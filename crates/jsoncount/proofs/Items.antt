-- Items and members, counted one after another
use mathlib.Core.Path.{◌≡◌, refl, sym, ap, ◌∙◌}
use mathlib.Core.Bool.{true}
use mathlib.Core.List.{List, [], ◌∷◌}
use Prim.Native.Nat.{ℕ, ◌<◌}
use native.Mathlib.Omega.{arith}
use lib.ListN.{drop}
use Rattle.std.specs.Prelude.{Result, Ok, Err}
use Rattle.jsontext.specs.Reading.{got, blanks}
use Rattle.jsontext.specs.Strings.{string}
use Rattle.jsontext.specs.Values.{J, item_parts, member_parts, array, value}
use Rattle.jsontrace.specs.Count.{Count, ◌⊞◌, a_string, a_value, a_member, counted, counted_items, counted_members}
use Rattle.jsonruns.specs.Good.{Good, Signed, Past, BeginTold, PartTold}
use Rattle.jsonruns.proofs.Signs.{ahead}
use Rattle.jsonruns.specs.Run.{Item, Member, Listed}
use Rattle.jsonruns.proofs.Runs.{turn, array-listed, object-listed}
use Rattle.jsoncount.specs.declared.tallies.Tally.{Tally}
use Rattle.jsoncount.specs.Tally.{Adds, sizes, CountedTo}
use Rattle.jsoncount.specs.Sizes.{item_size, array_size, member_size, object_size, object_read}
use Rattle.jsoncount.proofs.Sums.{sum_assoc, adds_then}
use Rattle.jsoncount.proofs.Looping.{Turning, PartTo, loop_signed, loop_begun, part-signed, loop_again, loop_less, loop_told, counted-as, counted-more}

-- ---- items

sizes-items : (js : List J) → sizes item_size js ≡ counted_items (item_parts js)
unfolding sizes item_size counted item_parts
sizes-items [] = refl
sizes-items (j ∷ js) = ap (λ (c : Count). item_size j ⊞ c) (sizes-items js) ∙ sum_assoc a_member (counted j) (counted_items (item_parts js))

abbrev pub Items : List ℕ → ℕ → ℕ → Tally → Tally → Result ℕ ℕ → Type 0
Items line at levels t tally part = Turning 93 (Item (value levels)) item_size line at t (array (value levels) (drop at line)) tally part

items-listed : (line : List ℕ) (at levels : ℕ) (what : List J) (rest : List ℕ) → array (value levels) (drop at line) ≡ got what rest → Listed 93 (Item (value levels)) (drop at line) what rest
items-listed line at levels what rest e = array-listed (value levels) (drop at line) e

module _ (levels : ℕ) {line : List ℕ} {at : ℕ} (g : Good line at (array (value levels) (drop at line))) where
  pub items-signed : Signed line at
  items-signed = loop_signed 93 (Item (value levels)) item_size (items-listed line at levels) g

  pub items-begun : {t : Tally} {x : Result ℕ ℕ} → BeginTold line at 93 x → Items line at levels t t x
  items-begun b = loop_begun 93 (Item (value levels)) item_size (items-listed line at levels) g b

module _ (levels : ℕ) {line : List ℕ} {at i : ℕ} {t tally : Tally} {y : Result ℕ ℕ} (g : Items line at levels t tally y) (z : y ≡ Ok i) where
  pub items-good : Good line i (value levels (drop i line))
  items-good = let k = g.next i z in let n = turn 93 (Item (value levels)) k.run in record { what = n.what; rest = n.after; within = k.within; is = n.part }

  module _ {u r : Tally} {e : ℕ} (m : Adds tally a_member u) (p : CountedTo line i u r e (value levels (drop i line)) counted) where
    one : PartTo 93 (Item (value levels)) item_size line i tally e r
    unfolding item_size
    one = record { from = p.from; within = p.within; is = λ a t e. p.is a t e; adds = λ a t e. adds_then m (p.adds a t e) }

    pub items-after : Signed line e
    items-after = part-signed 93 (Item (value levels)) item_size (g.next i z) one

    module _ {x : Result ℕ ℕ} (b : PartTold line e 93 x) where
      pub items-again : Items line at levels t r x
      items-again = loop_again 93 (Item (value levels)) item_size (g.next i z) one b

      pub items-less : ahead line x < ahead line y
      items-less = loop_less 93 (Item (value levels)) item_size (g.next i z) one b z

pub items-told : (levels : ℕ) {line : List ℕ} {at k : ℕ} {t tally v : Tally} {x : Result ℕ ℕ} → Items line at levels t tally x → x ≡ Err k → Adds tally a_value v → CountedTo line at t v k (array (value levels) (drop at line)) array_size
items-told levels g z l = counted-more (counted-as sizes-items (loop_told 93 (Item (value levels)) item_size g z)) l

-- ---- members

abbrev Part : ℕ → List ℕ → List ℕ × J → List ℕ → Type 0
Part levels s m t = Member (λ n. true) (λ n u. value levels u) s m t

sizes-members : (ms : List (List ℕ × J)) → sizes member_size ms ≡ counted_members (member_parts ms)
unfolding sizes member_size counted member_parts
sizes-members [] = refl
sizes-members (m ∷ ms) =
    ap (λ (c : Count). member_size m ⊞ c) (sizes-members ms)
    ∙ sum_assoc a_member (a_string m.0 ⊞ counted m.1) (counted_members (member_parts ms))
    ∙ ap (λ (c : Count). a_member ⊞ c) (sum_assoc (a_string m.0) (counted m.1) (counted_members (member_parts ms)))

abbrev pub Members : List ℕ → ℕ → ℕ → Tally → Tally → Result ℕ ℕ → Type 0
Members line at levels t tally part = Turning 125 (Part levels) member_size line at t (object_read levels (drop at line)) tally part

members-listed : (line : List ℕ) (at levels : ℕ) (what : List (List ℕ × J)) (rest : List ℕ) → object_read levels (drop at line) ≡ got what rest → Listed 125 (Part levels) (drop at line) what rest
unfolding object_read
members-listed line at levels what rest e = object-listed (λ n. true) (λ n s. value levels s) (drop at line) e

module _ (levels : ℕ) {line : List ℕ} {at : ℕ} (g : Good line at (object_read levels (drop at line))) where
  pub members-signed : Signed line at
  members-signed = loop_signed 125 (Part levels) member_size (members-listed line at levels) g

  pub members-begun : {t : Tally} {x : Result ℕ ℕ} → BeginTold line at 125 x → Members line at levels t t x
  members-begun b = loop_begun 125 (Part levels) member_size (members-listed line at levels) g b

module _ (levels : ℕ) {line : List ℕ} {at i : ℕ} {t tally : Tally} {y : Result ℕ ℕ} (g : Members line at levels t tally y) (z : y ≡ Ok i) where
  pub members-name : Good line i (string (drop i line))
  members-name = let k = g.next i z in let n = turn 125 (Part levels) k.run in record { what = n.what.0; rest = n.part.after; within = k.within; is = n.part.name }

  module _ {u q : Tally} {f : ℕ} (p : CountedTo line i u q f (string (drop i line)) a_string) where
    colon : {m : List ℕ × J} {s : List ℕ} (e : Part levels (drop i line) m s) → blanks (drop f line) ≡ 58 ∷ e.value
    colon {m} e = ap blanks (sym (p.is m.0 e.after e.name)) ∙ e.colon

    pub members-colon : Signed line f
    members-colon = let n = turn 125 (Part levels) (g.next i z).run in record { within = p.within; sign = 58; rest = n.part.value; is = colon n.part }

    module _ {w : ℕ} (v : Past line f w) where
      under : {m : List ℕ × J} {s : List ℕ} → Part levels (drop i line) m s → value levels (drop w line) ≡ got m.1 s
      under e = ap (value levels) (v.is 58 e.value (colon e)) ∙ e.is

      pub members-value : Good line w (value levels (drop w line))
      members-value = let n = turn 125 (Part levels) (g.next i z).run in record { what = n.what.1; rest = n.after; within = v.within; is = under n.part }

      module _ {r : Tally} {e : ℕ} (m : Adds tally a_member u) (o : CountedTo line w q r e (value levels (drop w line)) counted) where
        member-one : PartTo 125 (Part levels) member_size line i tally e r
        unfolding member_size
        member-one = record {
          from = omega (arith, p.from, v.from, o.from);
          within = o.within;
          is = λ a s e. o.is a.1 s (under e);
          adds = λ a s e. adds_then m (adds_then (p.adds a.0 e.after e.name) (o.adds a.1 s (under e)));
        }

        pub members-after : Signed line e
        members-after = part-signed 125 (Part levels) member_size (g.next i z) member-one

        module _ {x : Result ℕ ℕ} (b : PartTold line e 125 x) where
          pub members-again : Members line at levels t r x
          members-again = loop_again 125 (Part levels) member_size (g.next i z) member-one b

          pub members-less : ahead line x < ahead line y
          members-less = loop_less 125 (Part levels) member_size (g.next i z) member-one b z

pub members-told : (levels : ℕ) {line : List ℕ} {at k : ℕ} {t tally v : Tally} {x : Result ℕ ℕ} → Members line at levels t tally x → x ≡ Err k → Adds tally a_value v → CountedTo line at t v k (object_read levels (drop at line)) object_size
members-told levels g z l = counted-more (counted-as sizes-members (loop_told 125 (Part levels) member_size g z)) l
