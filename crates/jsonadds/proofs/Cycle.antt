-- What the functions of the cycle ask of one another, and what they give
use mathlib.Core.Path.{◌≡◌, refl, subst}
use mathlib.Core.List.{List, [], ◌∷◌}
use Prim.Native.Nat.{ℕ, ◌+◌, ◌*◌, ◌-◌, ◌<◌, ◌≤◌}
use native.Mathlib.Omega.{arith}
use lib.ListN.{length, drop, get_or}
use mir.Val.{Fits}
use mir.Syntax.{w64}
use Rattle.std.specs.Prelude.{Result, Ok, Err}
use Rattle.laws.specs.Writing.{Writing}
use Rattle.encode.specs.Words.{packed}
use Rattle.jsontext.specs.declared.Form.{Form}
use Rattle.jsontext.specs.declared.Form.TheVariants.{Plain, Entity, Extension}
use Rattle.jsontext.specs.Values.{array, form, value}
use Rattle.jsonparts.specs.Flat.{scalar}
use Rattle.jsonroom.specs.declared.Bodies.{Bodies}
use Rattle.jsonroom.specs.declared.Next.{Next}
use Rattle.jsonroom.specs.Put.{ValuePut}
use Rattle.jsonruns.specs.Good.{Good, Signed, BeginTold, PartTold}
use Rattle.jsonruns.proofs.Signs.{ahead, ahead-less}
use Rattle.jsonruns.specs.Forms.{form_read}
use Rattle.jsoncount.specs.Sizes.{object_read, braced_read}
use Rattle.jsonview.specs.Room.{leaving}
use Rattle.jsonadds.specs.declared.Many.{Many}
use Rattle.jsonadds.specs.Place.{Due, WroteTo, Spare, PlaceDue, Placed, RunPlaced, MemberRoom, HeldRoom, Counts, CountTold, NameWritten, SortTold, PartsDue, PartsWritten, array_tables, array_value, object_value, value_tables, named, named_items, named_members}
use Rattle.jsonadds.proofs.Items as Items
use Rattle.jsonadds.proofs.Items.{Filling}
use Rattle.jsonadds.proofs.Members as Members
use Rattle.jsonadds.proofs.Members.{Gathering}
use Rattle.jsonadds.proofs.Values as Values
use mathlib.Core.Bool.{true, false}

-- ---- items

-- so many items are members of the run; another stands at the part, or the bracket closes
pub record Putting (levels : ℕ) (line : List ℕ) (at : ℕ) (names₀ names : List ℕ) (used : ℕ) (before file : List ℕ) (b : Bodies) (n : Next) (count : ℕ) (m : Next) (k : ℕ) (part : Result ℕ ℕ) : Type 0 where
  pub next : (i : ℕ) → part ≡ Ok i → Filling levels line at names₀ names used before file b n count m k i
  pub long : length file ≡ length before
  pub kept : length names ≡ length names₀
  pub told : (e : ℕ) → part ≡ Err e → RunPlaced (array (value levels) (drop at line)) before file b n array_tables m used names₀ names

module _ (levels : ℕ) {line : List ℕ} {at : ℕ} {file : List ℕ} {b : Bodies} {n : Next} {names : List ℕ} {used : ℕ} (d : PlaceDue line at (array (value levels) (drop at line)) file b n array_tables names used named_items) where
  pub items-signed : Signed line at
  items-signed = Items.items-signed levels d.due

  module _ {count : ℕ} (k : Counts (array (value levels) (drop at line)) count) where
    pub items-run : n.member + count ≤ 4294967295
    items-run = Items.items-run levels d.due k

    module _ {next : Next} (z : next ≡ leaving n count) {x : Result ℕ ℕ} (t : BeginTold line at 93 x) where
      pub items-begun : Putting levels line at names names used file file b n count next 0 x
      items-begun = record {
        next = λ i y. Items.items-start levels d.due k z t d.spare y;
        long = refl;
        kept = refl;
        told = λ e y. record { told = Items.items-none levels d.due k z t y; stays = Values.stays_self used names };
      }

module _ (levels : ℕ) {line : List ℕ} {at : ℕ} {names₀ names : List ℕ} {used : ℕ} {before file : List ℕ} {b : Bodies} {n : Next} {count : ℕ} {next : Next} {k i : ℕ} {y : Result ℕ ℕ} (start : Putting levels line at names₀ names used before file b n count next k y) (z : y ≡ Ok i) where
  g : Filling levels line at names₀ names used before file b n count next k i
  g = start.next i z

  pub run_fits : Fits w64 (n.member + k)
  run_fits = Items.run_fits levels g

  pub item_count : Fits w64 (k + 1)
  item_count = Items.item_count levels g

  pub item-due : PlaceDue line i (value levels (drop i line)) file b next value_tables names used named
  item-due = record { due = Items.item-due levels g; spare = Items.item-spare levels g }

  module _ {names' after : List ℕ} {w-next : Next} {w-end : ℕ} (p : Placed line i (value levels (drop i line)) file after b next value_tables w-next w-end used names names') where
    pub item-signed : length after ≡ length file → Signed line w-end
    item-signed l = Items.item-signed levels g p.told p.stays l

    module _ (l : length after ≡ length file) where
      pub item_room : MemberRoom after b (n.member + k) 4294967295 w-next
      item_room = record { fits = Items.item_room levels g p.told p.stays l; name-word = omega arith; some = Items.item-some levels g p.told p.stays l; value-word = Items.item-word levels g p.told p.stays l }

      module _ {last : List ℕ} (m : Writing after last (b.members + 8 * (n.member + k)) (packed (4294967295 ∷ (w-next.value - 1) ∷ []))) (h : length last ≡ length after) {x : Result ℕ ℕ} (t : PartTold line w-end 93 x) where
        pub items-again : Putting levels line at names₀ names' used before last b n count w-next (k + 1) x
        items-again = record {
          next = λ j q. Items.items-again levels g p.told p.stays l m h t q;
          long = Items.out-after levels g after last l h;
          kept = Items.names-after levels g p.stays;
          told = λ e q. record { told = Items.items-closed levels g p.told p.stays l m h t q; stays = Items.stays_after levels g p.stays };
        }

        pub items-less : ahead line x < ahead line y
        items-less = ahead-less line z t p.told.from

module _ {levels : ℕ} {line : List ℕ} {at : ℕ} {names₀ names : List ℕ} {used : ℕ} {before file : List ℕ} {b : Bodies} {n : Next} {count : ℕ} {next : Next} {k : ℕ} {x : Result ℕ ℕ} (g : Putting levels line at names₀ names used before file b n count next k x) where
  pub items-names : length names ≡ length names₀
  items-names = g.kept

  pub items-out : length file ≡ length before
  items-out = g.long

  pub items-told : {e : ℕ} → x ≡ Err e → RunPlaced (array (value levels) (drop at line)) before file b n array_tables next used names₀ names
  items-told {e} z = g.told e z

-- ---- members

module _ {levels : ℕ} {line names₀ names : List ℕ} {used stop : ℕ} {before file : List ℕ} {b : Bodies} {n next : Next} {i : ℕ} (g : Gathering levels line names₀ names used stop before file b n next i) (c : i < stop) where
  module _ {mid : List ℕ} {s-next : Next} {s-end : ℕ} (p : NameWritten line (get_or names i 0) file mid b next s-next s-end) where
    pub part-due : length mid ≡ length file → PlaceDue line s-end (value levels (drop s-end line)) mid b s-next value_tables names stop named
    part-due l = record { due = Members.part-due g c p l; spare = Members.part-spare g c p l }

    module _ {names' after : List ℕ} {w-next : Next} {w-end : ℕ} (v : Placed line s-end (value levels (drop s-end line)) mid after b s-next value_tables w-next w-end stop names names') (l : length mid ≡ length file) (m : length after ≡ length mid) where
      pub part_room : MemberRoom after b (n.member + (i - used)) next.string w-next
      part_room = record { fits = Members.part_room g c p l v.told v.stays m; name-word = Members.part-string g c p l v.told v.stays m; some = Members.part-some g c p l v.told v.stays m; value-word = Members.part-word g c p l v.told v.stays m }

      pub part-again : {last : List ℕ} → Writing after last (b.members + 8 * (n.member + (i - used))) (packed (next.string ∷ (w-next.value - 1) ∷ [])) → length last ≡ length after → Gathering levels line names₀ names' used stop before last b n w-next (i + 1)
      part-again u o = Members.part-again g c p l v.told v.stays m u o

-- ---- arrays and objects

module _ (levels : ℕ) {line : List ℕ} {at : ℕ} {file : List ℕ} {b : Bodies} {n : Next} {names : List ℕ} {used : ℕ} (d : PlaceDue line at (array (value levels) (drop at line)) file b n array_value names used named_items) where
  pub array-good : Good line at (array (value levels) (drop at line))
  array-good = Values.array-good levels d.due

  pub run-due : PlaceDue line at (array (value levels) (drop at line)) file b n array_tables names used named_items
  run-due = record { due = Values.items-due levels d.due; spare = d.spare }

  module _ {c : Many} (t : CountTold line at (array (value levels) (drop at line)) c) {after : List ℕ} {next : Next} {names' : List ℕ} (p : RunPlaced (array (value levels) (drop at line)) file after b n array_tables next used names names') where
    pub array-room : length after ≡ length file → HeldRoom after b next n.member c.count
    array-room l = record { fits = Values.array-room levels d.due t p.told l; first = Values.array-member levels d.due; many = Values.array_count levels d.due t }

    pub array_placed : {last : List ℕ} {k : Next} → ValuePut after last b next 6 n.member c.count k → Placed line at (array (value levels) (drop at line)) file last b n array_value k c.end used names names'
    array_placed v = record { told = Values.array-wrote levels d.due t p.told v refl refl; stays = p.stays }

module _ (levels : ℕ) {line : List ℕ} {at : ℕ} {file : List ℕ} {b : Bodies} {n : Next} {names : List ℕ} {used : ℕ} (d : PlaceDue line at (object_read levels (drop at line)) file b n object_value names used named_members) where
  pub object-good : Good line at (object_read levels (drop at line))
  object-good = Values.object-good levels d.due

  pub object-spare : Spare (object_read levels (drop at line)) names used named_members
  object-spare = d.spare

  module _ {sorted : List ℕ} {c : Many} (t : SortTold levels line at (object_read levels (drop at line)) names sorted used c) where
    pub object-parts : PartsDue levels line sorted used (used + c.count) file b n
    object-parts = Values.object-parts levels d.due t d.spare

    module _ {after last-names : List ℕ} {next : Next} (p : PartsWritten levels line sorted last-names used (used + c.count) file after b n next) where
      pub object-room : length after ≡ length file → HeldRoom after b next n.member c.count
      object-room l = record { fits = Values.object-room levels d.due t p l; first = Values.object-member levels d.due; many = Values.object-count levels d.due t }

      pub object-placed : {last : List ℕ} {k : Next} → ValuePut after last b next 7 n.member c.count k → Placed line at (object_read levels (drop at line)) file last b n object_value k c.end used names last-names
      object-placed v = record { told = Values.object-wrote levels d.due t p v refl refl; stays = Values.object-stays levels d.due t p }

-- ---- an object or a form

module _ (levels : ℕ) {line : List ℕ} {at : ℕ} {file : List ℕ} {b : Bodies} {n : Next} {names : List ℕ} {used : ℕ} (d : PlaceDue line at (braced_read levels (drop at line)) file b n value_tables names used named) where
  pub braced-within : at ≤ length line
  braced-within = d.due.within

  module _ {x : Form} (k : x ≡ form (drop at line)) where
    module _ (z : x ≡ Plain) where
      pub plain-due : PlaceDue line at (object_read levels (drop at line)) file b n object_value names used named_members
      plain-due = record { due = Values.plain-due levels d.due k z; spare = Values.plain-spare levels d.due k z d.spare }

      pub plain-placed : {after names' : List ℕ} {w-next : Next} {w-end : ℕ} → Placed line at (object_read levels (drop at line)) file after b n object_value w-next w-end used names names' → Placed line at (braced_read levels (drop at line)) file after b n value_tables w-next w-end used names names'
      plain-placed p = record { told = Values.plain-wrote levels d.due k z p.told; stays = p.stays }

    module _ (z : x ≡ Entity) where
      pub entity-due : Due line at (form_read false (drop at line)) file b n value_tables
      entity-due = Values.entity-due levels d.due k z

      pub entity-placed : {after : List ℕ} {w-next : Next} {w-end : ℕ} → WroteTo line at (form_read false (drop at line)) file after b n value_tables w-next w-end → Placed line at (braced_read levels (drop at line)) file after b n value_tables w-next w-end used names names
      entity-placed p = record { told = Values.entity-wrote levels d.due k z p; stays = Values.stays_self used names }

    module _ (z : x ≡ Extension) where
      pub extension-due : Due line at (form_read true (drop at line)) file b n value_tables
      extension-due = Values.extension-due levels d.due k z

      pub extension-placed : {after : List ℕ} {w-next : Next} {w-end : ℕ} → WroteTo line at (form_read true (drop at line)) file after b n value_tables w-next w-end → Placed line at (braced_read levels (drop at line)) file after b n value_tables w-next w-end used names names
      extension-placed p = record { told = Values.extension-wrote levels d.due k z p; stays = Values.stays_self used names }

-- ---- a value

module _ (levels : ℕ) {line : List ℕ} {at : ℕ} {file : List ℕ} {b : Bodies} {n : Next} {names : List ℕ} {used : ℕ} (d : PlaceDue line at (value levels (drop at line)) file b n value_tables names used named) where
  pub value-here : at < length line
  value-here = Values.value-here levels d.due

  pub value_level : 1 ≤ levels
  value_level = Values.value_level levels d.due

  pub array-deeper : {t : ℕ} → 4 * levels ≡ t → 4 * (levels - 1) + 2 < t
  array-deeper e = Values.array-deeper levels d.due e

  pub braced-deeper : {t : ℕ} → 4 * levels ≡ t → 4 * (levels - 1) + 3 < t
  braced-deeper e = Values.braced-deeper levels d.due e

  module _ (q : get_or line at 0 ≡ 91) where
    pub array-due : PlaceDue line (at + 1) (array (value (levels - 1)) (drop (at + 1) line)) file b n array_value names used named_items
    array-due = record { due = Values.value-array-due levels d.due q; spare = Values.value-array-spare levels d.due q d.spare }

    pub value-array : {after names' : List ℕ} {w-next : Next} {w-end : ℕ} → Placed line (at + 1) (array (value (levels - 1)) (drop (at + 1) line)) file after b n array_value w-next w-end used names names' → Placed line at (value levels (drop at line)) file after b n value_tables w-next w-end used names names'
    value-array p = record { told = Values.value-array levels d.due q p.told; stays = p.stays }

  module _ (q : get_or line at 0 ≡ 123) where
    pub braced-due : PlaceDue line (at + 1) (braced_read (levels - 1) (drop (at + 1) line)) file b n value_tables names used named
    braced-due = record { due = Values.value-braced-due levels d.due q; spare = Values.value-braced-spare levels d.due q d.spare }

    pub value-braced : {after names' : List ℕ} {w-next : Next} {w-end : ℕ} → Placed line (at + 1) (braced_read (levels - 1) (drop (at + 1) line)) file after b n value_tables w-next w-end used names names' → Placed line at (value levels (drop at line)) file after b n value_tables w-next w-end used names names'
    value-braced p = record { told = Values.value-braced levels d.due q p.told; stays = p.stays }

  module _ (a : get_or line at 0 ≡ 91 → ⊥) (q : get_or line at 0 ≡ 123 → ⊥) where
    pub flat-due : Due line at (scalar (drop at line)) file b n value_tables
    flat-due = Values.value-flat-due levels d.due a q

    pub value-flat : {after : List ℕ} {w-next : Next} {w-end : ℕ} → WroteTo line at (scalar (drop at line)) file after b n value_tables w-next w-end → Placed line at (value levels (drop at line)) file after b n value_tables w-next w-end used names names
    value-flat p = record { told = Values.value-flat levels d.due a q p; stays = Values.stays_self used names }

-- ---- a record's words

pub value-put-as : {before after : List ℕ} {b : Bodies} {next : Next} {kind x y first count : ℕ} {r : Next} → ValuePut before after b next kind x y r → x ≡ first → y ≡ count → ValuePut before after b next kind first count r
value-put-as {before} {after} {b} {next} {kind} {x} {y} {first} {count} {r} v e f = subst (λ (z : ℕ). ValuePut before after b next kind z count r) e (subst (λ (z : ℕ). ValuePut before after b next kind x z r) f v)
