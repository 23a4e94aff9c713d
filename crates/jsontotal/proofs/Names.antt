-- The names of an event's fields, and which field was read under each
use mathlib.Core.Path.{◌≡◌, refl, sym, ap, ◌∙◌}
use mathlib.Core.Bool.{Bool, true, false}
use mathlib.Core.List.{List, [], ◌∷◌}
use Prim.Native.Nat.{ℕ, zero, suc, ◌<◌}
use native.Mathlib.Omega.{arith}
use lib.Dec.{eqb}
use borrow.Author.Tests.{ltb-true}
use Rattle.meaning.specs.Tests.{choose}
use Rattle.meaning.specs.Equal.{same_list}
use Rattle.laws.specs.Text.{same-list}
use Rattle.jsontext.specs.Reading.{got, blanks}
use Rattle.jsontext.specs.Events.{Field, field_readers, is_field, field_by}
use Rattle.jsonlines.specs.Fields.{«time», «namespace», «action», «kind», «logged», «context», «principal», «resource», «entities», field_of, reader_at}
use Rattle.jsonlines.specs.Events.{number_of}
use Rattle.jsonlines.proofs.Entries.{is_field_lem, field-by, number_is}
use Rattle.jsonruns.specs.Run.{Run, last, more, Listed, Member}

-- ---- two names of one field are the same

unfoldable word_at : ℕ → List ℕ
word_at zero = «time»
word_at (suc zero) = «namespace»
word_at (suc (suc zero)) = «action»
word_at (suc (suc (suc zero))) = «kind»
word_at (suc (suc (suc (suc zero)))) = «logged»
word_at (suc (suc (suc (suc (suc zero))))) = «context»
word_at (suc (suc (suc (suc (suc (suc zero)))))) = «principal»
word_at (suc (suc (suc (suc (suc (suc (suc zero))))))) = «resource»
word_at (suc (suc (suc (suc (suc (suc (suc (suc k)))))))) = «entities»

abbrev Its : List ℕ → ℕ → Type 0
Its n k = k < 9 → n ≡ word_at k

word_or : (n w : List ℕ) (k other : ℕ) → word_at k ≡ w → Its n other → Its n (choose (same_list w n) k other)
unfolding choose
word_or n w k other e p =
    go (same_list w n) refl
  where
    go : (x : Bool) → same_list w n ≡ x → Its n (choose x k other)
    go true q l = sym (same-list w n q) ∙ sym e
    go false q l = p l

word-is : (n : List ℕ) → Its n (field_of n)
unfolding field_of word_at
word-is n =
    word_or n «time» 0 _ refl
    (word_or n «namespace» 1 _ refl
    (word_or n «action» 2 _ refl
    (word_or n «kind» 3 _ refl
    (word_or n «logged» 4 _ refl
    (word_or n «context» 5 _ refl
    (word_or n «principal» 6 _ refl
    (word_or n «resource» 7 _ refl
    (word_or n «entities» 8 9 refl (λ l. absurd (omega arith))))))))))

pub named-once : (m n : List ℕ) → field_of m < 9 → field_of n < 9 → field_of m ≡ field_of n → m ≡ n
named-once m n h l e = word-is m h ∙ ap word_at e ∙ sym (word-is n l)

-- ---- a member's field is that of its name

pub data Named : List (List ℕ × Field) → Type 0 where
  no_more : Named []
  named-and : {m : List ℕ × Field} {ms : List (List ℕ × Field)} → number_of m.1 ≡ field_of m.0 → field_of m.0 < 9 → Named ms → Named (m ∷ ms)

abbrev pub Entry : List ℕ → List ℕ × Field → List ℕ → Type 0
Entry s m t = Member (is_field field_readers) (field_by field_readers) s m t

module _ {s t : List ℕ} {m : List ℕ × Field} (e : Entry s m t) where
  pub entry-below : field_of m.0 < 9
  entry-below = ltb-true (field_of m.0) 9 (sym (is_field_lem m.0) ∙ e.knows)

  pub entry-reads : reader_at (field_of m.0) (blanks e.value) ≡ got m.1 t
  entry-reads = sym (field-by m.0 (blanks e.value) entry-below) ∙ e.is

  entry-number : number_of m.1 ≡ field_of m.0
  entry-number = number_is (field_of m.0) (blanks e.value) entry-below entry-reads

run-named : {s rest : List ℕ} {ms : List (List ℕ × Field)} → Run 125 Entry s ms rest → Named ms
run-named (last e b) = named-and (entry-number e) (entry-below e) no_more
run-named (more c e b q r) = named-and (entry-number e) (entry-below e) (run-named r)

pub listed-named : {s rest : List ℕ} {ms : List (List ℕ × Field)} → Listed 125 Entry s ms rest → Named ms
listed-named {ms = ms} l =
    go (eqb l.first 125) refl
  where
    go : (x : Bool) → eqb l.first 125 ≡ x → Named ms
    go true q = rw (l.none q) no_more
    go false q = run-named (l.run q)
