-- A string with the list word that names it; type and id
use mathlib.Core.Path.{◌≡◌, refl, sym, ap, subst, ◌∙◌}
use mathlib.Core.List.{List, [], ◌∷◌}
use Prim.Native.Nat.{ℕ, ◌+◌, ◌≤◌}
use native.Mathlib.Omega.{arith}
use lib.ListN.{length, drop}
use Rattle.jsontext.specs.Reading.{got, blanks}
use Rattle.jsontext.specs.Strings.{string}
use Rattle.jsontext.specs.Values.{fields}
use Rattle.jsontext.specs.Events.{Item}
use Rattle.jsontrace.specs.Trace.{Tables, ◌⊕◌, texts, lists, Next as Next-as_Trace, past}
use Rattle.jsontrace.proofs.Laws.Trace.{shaped-texts, shaped-lists}
use Rattle.jsonread.specs.Told.{Blanks}
use Rattle.jsonroom.specs.declared.Bodies.{Bodies}
use Rattle.jsonroom.specs.declared.Next.{Next}
use Rattle.jsonroom.specs.Put.{ListRoom, ListPut}
use Rattle.jsonruns.specs.Good.{Signed, Past}
use Rattle.jsonruns.proofs.Runs.{same-got}
use Rattle.jsoncount.specs.Sizes.{entity_read}
use Rattle.jsoncount.proofs.Triples.{byte-below, byte_left, Tripled, tripled}
use Rattle.jsonview.specs.Room.{Adds, beyond, numbers}
use Rattle.jsonview.proofs.Adding.{ready-first, ready-second}
use Rattle.jsonview.proofs.Rows.{adds-next, string-words}
use Rattle.jsonadds.specs.Place.{Due, WroteTo, name_tables}
use Rattle.jsonentry.specs.Marks.{MarkReady, MarkAdds}
use Rattle.jsonentry.specs.Marking.{mark-none, mark-then, mark-ready-first, mark-ready-second}
use Rattle.jsonentities.specs.Put.{MarkDue, MarkWrote, SignedDue, SignedWritten, KeysWritten, named_tables, keys_tables}
use Rattle.jsonentities.specs.Lists.{list-adds, ready-lists, mark-numbers, shaped-named}

-- ---- a string and its word

module _ {line : List ℕ} {at : ℕ} {file marks : List ℕ} {b : Bodies} {n : Next} (d : MarkDue line at (string (drop at line)) file marks b n named_tables) where
  abbrev word : Tables
  word = lists ((n.string, 1) ∷ [])

  named-ready : MarkReady file marks b n (texts (d.what ∷ []) ⊕ word)
  unfolding named_tables numbers
  named-ready = d.ready

  pub named-text : Due line at (string (drop at line)) file b n name_tables
  named-text = record { what = d.what; rest = d.rest; within = d.within; is = d.is; ready = ready-first (texts (d.what ∷ [])) word named-ready.ready }

  module _ {after : List ℕ} {s-next : Next} {s-end : ℕ} (p : WroteTo line at (string (drop at line)) file after b n name_tables s-next s-end) where
    text-added : Adds file after b n (texts (d.what ∷ [])) s-next
    text-added = p.adds d.what d.rest d.is

    next-list : s-next.list ≡ n.list
    unfolding beyond texts named-text
    next-list = ap (λ (k : Next). k.list) (adds-next named-text.ready text-added) ∙ omega arith

    pub named-room : length after ≡ length file → ListRoom after marks b s-next n.string
    unfolding texts lists ◌⊕◌
    named-room l = record {
      fits = omega (arith, ready-lists (ready-second (texts (d.what ∷ [])) word (shaped-texts (d.what ∷ [])) named-ready.ready text-added l));
      marked = omega (arith, named-ready.for-marks, next-list);
      is_word = omega (arith, string-words named-ready.ready);
    }

    pub named-wrote : {last marks' : List ℕ} {k : Next} → ListPut after last marks marks' b s-next n.string 1 k → MarkWrote line at (string (drop at line)) file last marks marks' b n named_tables k s-end
    unfolding named_tables numbers texts
    named-wrote v = record {
      from = p.from;
      within = p.within;
      is = p.is;
      adds = λ what rest f. mark-then (texts (what ∷ [])) word (shaped-texts (what ∷ [])) (shaped-lists ((n.string, 1) ∷ [])) (mark-none (texts (what ∷ [])) refl (p.adds what rest f)) (list-adds n.string 1 v);
    }

-- ---- and the byte behind it

module _ {line : List ℕ} {at : ℕ} {file marks : List ℕ} {b : Bodies} {n : Next} (d : SignedDue line at file marks b n) where
  pub signed-named : MarkDue line at (string (drop at line)) file marks b n named_tables
  signed-named = d.due

  module _ {after marks' : List ℕ} {s-next : Next} {s-end : ℕ} (p : MarkWrote line at (string (drop at line)) file after marks marks' b n named_tables s-next s-end) where
    sign_of : (what rest : List ℕ) (sign : ℕ) (others : List ℕ) → string (drop at line) ≡ got what rest → blanks rest ≡ sign ∷ others → blanks (drop s-end line) ≡ sign ∷ others
    sign_of what rest sign others f e = ap blanks (sym (p.is what rest f)) ∙ e

    pub signed-sign : Signed line s-end
    signed-sign = record { within = p.within; sign = d.sign; rest = d.others; is = sign_of d.due.what d.due.rest d.sign d.others d.due.is d.byte }

    pub signed-wrote : {v : ℕ} → Past line s-end v → SignedWritten line at file after marks marks' b n s-next v
    signed-wrote q = record {
      within = q.within;
      is = λ what rest sign others f e. q.is sign others (sign_of what rest sign others f e);
      adds = p.adds;
    }

-- ---- type and id

module _ {line : List ℕ} {at : ℕ} {file marks : List ℕ} {b : Bodies} {n : Next} (d : MarkDue line at (entity_read (drop at line)) file marks b n keys_tables) where
  it : Tripled (drop at line) d.what d.rest
  it = tripled (drop at line) d.is

  abbrev first : Tables
  first = named_tables d.what.type (numbers n)

  abbrev second : Tables
  second = named_tables d.what.id (past (numbers n) first)

  both-ready : MarkReady file marks b n (first ⊕ second)
  unfolding keys_tables
  both-ready = d.ready

  pub keys-past : at + 1 ≤ length line
  keys-past = omega (arith, byte-below line at it.bracket)

  module _ {a : ℕ} (l : Blanks line (at + 1) a) where
    at-type : {i : Item} {rest : List ℕ} (k : Tripled (drop at line) i rest) → string (drop a line) ≡ got i.type k.after-type
    at-type k = ap string (l.is ∙ ap blanks (byte_left line at k.bracket)) ∙ k.type-is

    pub type-due : SignedDue line a file marks b n
    type-due = record {
      due = record { what = d.what.type; rest = it.after-type; within = l.within; is = at-type it; ready = mark-ready-first first second both-ready };
      sign = 44;
      others = it.to-id;
      byte = it.first;
    }

    module _ {mid marked : List ℕ} {s-next : Next} {s-end : ℕ} (p : SignedWritten line a file mid marks marked b n s-next s-end) where
      type-added : MarkAdds file mid marks marked b n first s-next
      type-added = p.adds d.what.type it.after-type (at-type it)

      numbers-are : numbers s-next ≡ past (numbers n) first
      numbers-are = mark-numbers first (mark-ready-first first second both-ready) type-added

      at-id : {i : Item} {rest : List ℕ} (k : Tripled (drop at line) i rest) → string (drop s-end line) ≡ got i.id k.after-id
      at-id {i} k = ap string (p.is i.type k.after-type 44 k.to-id (at-type k) k.first) ∙ k.id-is

      pub id-due : length mid ≡ length file → SignedDue line s-end mid marked b s-next
      id-due e = record {
        due = record {
          what = d.what.id;
          rest = it.after-id;
          within = p.within;
          is = at-id it;
          ready = subst (λ (k : Next-as_Trace). MarkReady mid marked b s-next (named_tables d.what.id k)) (sym numbers-are) (mark-ready-second first second (shaped-named d.what.type (numbers n)) both-ready type-added e);
        };
        sign = 44;
        others = it.to-attributes;
        byte = it.second;
      }

      module _ {after marks' : List ℕ} {t-next : Next} {t-end : ℕ} (q : SignedWritten line s-end mid after marked marks' b s-next t-next t-end) where
        keys-added : MarkAdds file after marks marks' b n (first ⊕ second) t-next
        keys-added =
            mark-then first second (shaped-named d.what.type (numbers n)) (shaped-named d.what.id (past (numbers n) first)) type-added
            (subst (λ (k : Next-as_Trace). MarkAdds mid after marked marks' b s-next (named_tables d.what.id k) t-next) numbers-are (q.adds d.what.id it.after-id (at-id it)))

        pub keys-wrote : KeysWritten line at file after marks marks' b n t-next t-end
        unfolding keys_tables
        keys-wrote = record {
          within = q.within;
          is = λ what rest e. let k = tripled (drop at line) e in record { left = k.left; is = ap (fields 31) (q.is what.id k.after-id 44 k.to-attributes (at-id k) k.second) ∙ k.attributes-are };
          adds = λ what rest e. subst (λ (i : Item). MarkAdds file after marks marks' b n (keys_tables i (numbers n)) t-next) (same-got d.is e) keys-added;
        }
