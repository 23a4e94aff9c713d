-- An event's members, counted one after another
use mathlib.Core.Path.{◌≡◌, sym, ap, ◌∙◌}
use mathlib.Core.List.{List, ◌∷◌}
use Prim.Native.Nat.{ℕ, ◌<◌, ◌≤◌}
use native.Mathlib.Omega.{arith}
use lib.ListN.{length, drop}
use Rattle.jsontext.specs.Reading.{got, blanks}
use Rattle.jsontext.specs.Strings.{string}
use Rattle.jsontext.specs.Events.{Field, field_readers, is_field, field_by}
use Rattle.jsonlines.specs.Fields.{field_of, FieldTold, reader_at}
use Rattle.std.specs.Prelude.{Result, Ok, Err}
use Rattle.jsonruns.proofs.Signs.{ahead}
use Rattle.jsonruns.specs.Good.{Good, Ends, Signed, Past, BeginTold, PartTold}
use Rattle.jsonruns.specs.Run.{Listed}
use Rattle.jsonruns.proofs.Runs.{turn, object-listed}
use Rattle.jsoncount.specs.declared.tallies.Tally.{Tally}
use Rattle.jsoncount.specs.Tally.{CountedTo}
use Rattle.jsoncount.proofs.Looping.{Turning, PartTo, loop_signed, loop_begun, part-signed, loop_again, loop_less, loop_told}
use Rattle.jsontotal.specs.Fields.{field_size, entry_size, entries_read, entries_size}
use Rattle.jsontotal.proofs.Names.{Entry, entry-reads}

abbrev pub Entries : List ℕ → ℕ → Tally → Tally → Result ℕ ℕ → Type 0
Entries line at t tally part = Turning 125 Entry entry_size line at t (entries_read (drop at line)) tally part

pub entries-listed : (s : List ℕ) (what : List (List ℕ × Field)) (rest : List ℕ) → entries_read s ≡ got what rest → Listed 125 Entry s what rest
unfolding entries_read
entries-listed s what rest e = object-listed (is_field field_readers) (field_by field_readers) s e

module _ {line : List ℕ} {at : ℕ} (g : Good line at (entries_read (drop at line))) where
  pub entries-signed : Signed line at
  entries-signed = loop_signed 125 Entry entry_size (entries-listed (drop at line)) g

  pub entries-begun : {t : Tally} {x : Result ℕ ℕ} → BeginTold line at 125 x → Entries line at t t x
  entries-begun b = loop_begun 125 Entry entry_size (entries-listed (drop at line)) g b

module _ {line : List ℕ} {at i : ℕ} {t tally : Tally} {y : Result ℕ ℕ} (g : Entries line at t tally y) (z : y ≡ Ok i) where
  pub entries-within : i ≤ length line
  entries-within = (g.next i z).within

  pub entries-name : Good line i (string (drop i line))
  entries-name = let k = g.next i z in let n = turn 125 Entry k.run in record { what = n.what.0; rest = n.part.after; within = k.within; is = n.part.name }

  module _ {q : ℕ} (p : Ends line i q (string (drop i line))) where
    colon : {m : List ℕ × Field} {s : List ℕ} (e : Entry (drop i line) m s) → blanks (drop q line) ≡ 58 ∷ e.value
    colon {m} e = ap blanks (sym (p.is m.0 e.after e.name)) ∙ e.colon

    pub entries-colon : Signed line q
    entries-colon = let n = turn 125 Entry (g.next i z).run in record { within = p.within; sign = 58; rest = n.part.value; is = colon n.part }

    module _ {k w : ℕ} (f : FieldTold line i k) (v : Past line q w) where
      under : {m : List ℕ × Field} {s : List ℕ} → Entry (drop i line) m s → reader_at k (drop w line) ≡ got m.1 s
      under {m} e =
          ap (λ (j : ℕ). reader_at j (drop w line)) (f m.0 e.after e.name)
          ∙ ap (reader_at (field_of m.0)) (v.is 58 e.value (colon e))
          ∙ entry-reads e

      pub entries-value : Good line w (reader_at k (drop w line))
      entries-value = let n = turn 125 Entry (g.next i z).run in record { what = n.what.1; rest = n.after; within = v.within; is = under n.part }

      module _ {u : Tally} {e : ℕ} (o : CountedTo line w tally u e (reader_at k (drop w line)) field_size) where
        one : PartTo 125 Entry entry_size line i tally e u
        unfolding entry_size
        one = record {
          from = omega (arith, p.from, v.from, o.from);
          within = o.within;
          is = λ a s e. o.is a.1 s (under e);
          adds = λ a s e. o.adds a.1 s (under e);
        }

        pub entries-after : Signed line e
        entries-after = part-signed 125 Entry entry_size (g.next i z) one

        module _ {x : Result ℕ ℕ} (b : PartTold line e 125 x) where
          pub entries-again : Entries line at t u x
          entries-again = loop_again 125 Entry entry_size (g.next i z) one b

          pub entries-less : ahead line x < ahead line y
          entries-less = loop_less 125 Entry entry_size (g.next i z) one b z

pub entries-told : {line : List ℕ} {at k : ℕ} {t tally : Tally} {x : Result ℕ ℕ} → Entries line at t tally x → x ≡ Err k → CountedTo line at t tally k (entries_read (drop at line)) entries_size
entries-told g z = loop_told 125 Entry entry_size g z
