-- A member of an event: what the definition reads by its name
use Rattle.std.specs.Prelude.{Result, Ok, Err, Result, Ok, Err}
use mathlib.Core.Path.{◌≡◌, refl, sym, ap, subst, ◌∙◌}
use mathlib.Core.Bool.{Bool, true, false}
use mathlib.Core.List.{List}
use Prim.Native.Nat.{ℕ, zero, suc, ◌+◌, ◌<◌, ◌≤◌}
use native.Mathlib.Omega.{arith}
use lib.Dec.{ltb}
use lib.ListN.{length, drop}
use borrow.Author.Tests.{ltb-true}
use Rattle.meaning.specs.Tests.{◌or◌, choose}
use Rattle.meaning.specs.Equal.{same_list}
use Rattle.jsontext.specs.declared.Fault.{Fault}
use Rattle.jsontext.specs.declared.Fault.TheVariants.{BadField}
use Rattle.jsontext.specs.declared.Bad.{Bad}
use Rattle.jsontext.specs.Reading.{got, no, mapped, wrong}
use Rattle.jsontext.specs.Numbers.{number}
use Rattle.jsontext.specs.Strings.{string}
use Rattle.jsontext.specs.Values.{numeral, due, text, array, value, fields}
use Rattle.jsontext.specs.Events.{Field, Time, Namespace, Action, Kind, Logged, Context, Principal, Resource, Entities, listed, field_readers, is_field, field_by}
use Rattle.jsonread.proofs.Places.{told_of}
use Rattle.jsonread.proofs.Spelling.{came}
use Rattle.jsonkeys.specs.Keys.{Room, Passed, KnownTold, KeyTold, MemberWrong}
use Rattle.jsonkeys.proofs.Keys.{key-within, key-room}
use Rattle.jsonkeys.proofs.Gathered.{key_bad, value_bad, value_read}
use Rattle.jsonlines.specs.Entities.{entity_of}
use Rattle.jsonlines.specs.Fields.{«time», «namespace», «action», «kind», «logged», «context», «principal», «resource», «entities», field_of, FieldTold, reader_at}
use Rattle.jsonlines.specs.Events.{number_of, NameIs, NameTold, EntryIs, EntryTold}

-- ---- the table of the definition, by places

pub is_field_lem : (n : List ℕ) → is_field field_readers n ≡ ltb (field_of n) 9
unfolding is_field field_readers field_of ◌or◌ choose
is_field_lem n =
    go (same_list «time» n) (same_list «namespace» n) (same_list «action» n) (same_list «kind» n) (same_list «logged» n) (same_list «context» n) (same_list «principal» n) (same_list «resource» n) (same_list «entities» n)
  where
    go : (a b c d e f g h i : Bool) → (a or (b or (c or (d or (e or (f or (g or (h or (i or false))))))))) ≡ ltb (choose a 0 (choose b 1 (choose c 2 (choose d 3 (choose e 4 (choose f 5 (choose g 6 (choose h 7 (choose i 8 (9)))))))))) 9
    go true b c d e f g h i = refl
    go false true c d e f g h i = refl
    go false false true d e f g h i = refl
    go false false false true e f g h i = refl
    go false false false false true f g h i = refl
    go false false false false false true g h i = refl
    go false false false false false false true h i = refl
    go false false false false false false false true i = refl
    go false false false false false false false false true = refl
    go false false false false false false false false false = refl

pub field-by : (n s : List ℕ) → field_of n < 9 → field_by field_readers n s ≡ reader_at (field_of n) s
unfolding field_by field_readers field_of reader_at choose
field-by n s l =
    go (same_list «time» n) (same_list «namespace» n) (same_list «action» n) (same_list «kind» n) (same_list «logged» n) (same_list «context» n) (same_list «principal» n) (same_list «resource» n) (same_list «entities» n) l
  where
    go : (a b c d e f g h i : Bool) → choose a 0 (choose b 1 (choose c 2 (choose d 3 (choose e 4 (choose f 5 (choose g 6 (choose h 7 (choose i 8 (9))))))))) < 9 → choose a (mapped Time (due BadField numeral number s)) (choose b (mapped Namespace (listed (array text) s)) (choose c (mapped Action (text s)) (choose d (mapped Kind (text s)) (choose e (mapped Logged (fields 31 s)) (choose f (mapped Context (fields 31 s)) (choose g (mapped Principal (value 32 s)) (choose h (mapped Resource (value 32 s)) (choose i (mapped Entities (listed (array entity_of) s)) (no BadField s))))))))) ≡ reader_at (choose a 0 (choose b 1 (choose c 2 (choose d 3 (choose e 4 (choose f 5 (choose g 6 (choose h 7 (choose i 8 (9)))))))))) s
    go true b c d e f g h i l = refl
    go false true c d e f g h i l = refl
    go false false true d e f g h i l = refl
    go false false false true e f g h i l = refl
    go false false false false true f g h i l = refl
    go false false false false false true g h i l = refl
    go false false false false false false true h i l = refl
    go false false false false false false false true i l = refl
    go false false false false false false false false true l = refl
    go false false false false false false false false false l = absurd (omega arith)

pub number_is : (k : ℕ) (s : List ℕ) {x : Field} {rest : List ℕ} → k < 9 → reader_at k s ≡ got x rest → number_of x ≡ k
unfolding reader_at number_of
number_is zero s l e = ap number_of (came Time (due BadField numeral number s) e).makes
number_is (suc zero) s l e = ap number_of (came Namespace (listed (array text) s) e).makes
number_is (suc (suc zero)) s l e = ap number_of (came Action (text s) e).makes
number_is (suc (suc (suc zero))) s l e = ap number_of (came Kind (text s) e).makes
number_is (suc (suc (suc (suc zero)))) s l e = ap number_of (came Logged (fields 31 s) e).makes
number_is (suc (suc (suc (suc (suc zero))))) s l e = ap number_of (came Context (fields 31 s) e).makes
number_is (suc (suc (suc (suc (suc (suc zero)))))) s l e = ap number_of (came Principal (value 32 s) e).makes
number_is (suc (suc (suc (suc (suc (suc (suc zero))))))) s l e = ap number_of (came Resource (value 32 s) e).makes
number_is (suc (suc (suc (suc (suc (suc (suc (suc zero)))))))) s l e = ap number_of (came Entities (listed (array entity_of) s) e).makes
number_is (suc (suc (suc (suc (suc (suc (suc (suc (suc k))))))))) s l e = absurd (omega arith)

-- ---- a name

module _ {line names next : List ℕ} {end at field : ℕ} {x : Result ℕ Bad} (f : FieldTold line at field) (k : KeyTold line names next 0 end at (ltb field 9) x) where
  known : KnownTold line at (is_field field_readers) (ltb field 9)
  known n rest q = ap (λ (j : ℕ). ltb j 9) (f n rest q) ∙ sym (is_field_lem n)

  pub name_bad : {b : Bad} → x ≡ Err b → NameTold line names next end at (Err b)
  name_bad {b} e =
      record {
        read = λ k v z. absurd (let z : ◌≡◌ {A = ℕ} 0 1 = cc in omega arith);
        wrong = λ v z. let a : b ≡ v = cc in subst (λ (v : Bad). MemberWrong (is_field field_readers) (field_by field_readers) line names next 0 end at v) a (key_bad (is_field field_readers) (field_by field_readers) known k e);
      }

  pub name-read : {v : ℕ} → x ≡ Ok v → NameTold line names next end at (Ok (field, v))
  name-read {v} q =
      record {
        read =
            λ j i z.
            let p : ◌≡◌ {A = ℕ × ℕ} (field, v) (j, i) = cc in
            let a : field ≡ j = ap (λ (p : ℕ × ℕ). p.0) p in
            let b : v ≡ i = ap (λ (p : ℕ × ℕ). p.1) p in
            subst (λ (j : ℕ). NameIs line names next end at j i) a (subst (λ (i : ℕ). NameIs line names next end at field i) b (record { field = f; key = rw q at k }));
        wrong = λ b z. absurd (let z : ◌≡◌ {A = ℕ} 0 1 = cc in omega arith);
      }

-- ---- a value after its name

module _ {line names last : List ℕ} {end at : ℕ} where
  told-wrong : {b : Bad} → MemberWrong (is_field field_readers) (field_by field_readers) line names last 0 end at b → EntryTold line names last end at (Err b)
  told-wrong {b} m =
      record {
        read = λ k e z. absurd (let z : ◌≡◌ {A = ℕ} 0 1 = cc in omega arith);
        wrong = λ v k. let a : b ≡ v = cc in subst (λ (v : Bad). MemberWrong (is_field field_readers) (field_by field_readers) line names last 0 end at v) a m;
      }

  told-read : {k e : ℕ} → EntryIs line names last end at k e → EntryTold line names last end at (Ok (k, e))
  told-read {k} {e} m =
      record {
        read =
            λ j i z.
            let p : ◌≡◌ {A = ℕ × ℕ} (k, e) (j, i) = cc in
            let a : k ≡ j = ap (λ (p : ℕ × ℕ). p.0) p in
            let b : e ≡ i = ap (λ (p : ℕ × ℕ). p.1) p in
            subst (λ (j : ℕ). EntryIs line names last end at j i) a (subst (λ (i : ℕ). EntryIs line names last end at k i) b m);
        wrong = λ b z. absurd (let z : ◌≡◌ {A = ℕ} 0 1 = cc in omega arith);
      }

module _ {line names next : List ℕ} {end at : ℕ} {x : Result (ℕ × ℕ) Bad} (t : NameTold line names next end at x) where
  pub entry-name : {b : Bad} → x ≡ Err b → EntryTold line names next end at (Err b)
  entry-name e = told-wrong (t.wrong _ e)

  module _ {field v : ℕ} (q : x ≡ Ok (field, v)) where
    abbrev its : NameIs line names next end at field v
    its = t.read field v q

    pub name-within : v ≤ length line
    name-within = key-within refl its.key

    pub name-room : Room line names end at 0 → Room line next (end + 1) v 1
    name-room h = key-room refl its.key h

    small : field < 9
    small = ltb-true field 9 (its.key.allows v refl)

    -- the value of a name that stands here
    by_name : {n rest : List ℕ} (s : List ℕ) → string (drop at line) ≡ got n rest → field_by field_readers n s ≡ reader_at field s
    by_name {n} {rest} s e = field-by n s (rw (its.field n rest e) at small) ∙ ap (λ (j : ℕ). reader_at j s) (sym (its.field n rest e))

    module _ {y : Result ℕ Bad} {last : List ℕ} (u : Passed line next last (end + 1) v y (reader_at field (drop v line))) where
      valued : Passed line next last (end + 1) v y (field_by field_readers (its.key.read v refl).name (drop v line))
      valued = record { told = told_of (omega arith) (by_name (drop v line) (its.key.read v refl).spells) u.told; below = u.below }

      pub entry_bad : {b : Bad} → y ≡ Err b → EntryTold line names last end at (Err b)
      entry_bad e = told-wrong (value_bad (is_field field_readers) (field_by field_readers) (known its.field its.key) its.key refl (omega arith) valued e)

      pub entry_read : {e : ℕ} → y ≡ Ok e → EntryTold line names last end at (Ok (field, e))
      entry_read r =
          let m = value_read (is_field field_readers) (field_by field_readers) (known its.field its.key) its.key refl (omega arith) valued r in
          told-read (record { member = m; below = small; number = number_is field (drop m.value line) small (sym (by_name (drop m.value line) m.spells) ∙ m.reads) })
