-- Values that the words of a point name
use mathlib.Core.Path.{◌≡◌, refl, sym, ap, subst, ◌∙◌}
use mathlib.Core.List.{List}
use mathlib.Core.Option.{Option, none, some}
use Prim.Native.Nat.{ℕ, zero, suc, ◌+◌, ◌-◌, ◌<◌, ◌≤◌}
use native.Mathlib.Omega.{arith}
use lib.ListN.{length, drop}
use Rattle.meaning.specs.Case.{nothing}
use Rattle.jsontext.specs.Reading.{Read, got}
use Rattle.jsontext.specs.Values.{J, Object, Parts, member_parts, value, fields}
use Rattle.jsontrace.specs.Order.{ordered, ordered_members, ordered_maybe}
use Rattle.jsontrace.specs.Trace.{Tables, empty, ◌⊕◌, Next as Next-as_Trace, past, last_value, value_adds, maybe_adds, maybe_number}
use Rattle.jsontrace.proofs.Laws.Trace.{Shaped, shaped, shaped-maybe}
use Rattle.jsonroom.specs.declared.Bodies.{Bodies}
use Rattle.jsonroom.specs.declared.Next.{Next}
use Rattle.jsonruns.proofs.Runs.{same-got}
use Rattle.jsoncount.specs.Sizes.{object_read}
use Rattle.jsoncount.proofs.Triples.{Fielded, fielded, byte-below, byte_left}
use Rattle.jsonview.specs.Room.{Ready, Adds, numbers, beyond}
use Rattle.jsonview.specs.Filling.{numbers-beyond}
use Rattle.jsonview.specs.Showing.{adds_none}
use Rattle.jsonview.proofs.Adding.{ready-first, ready-second, adds_then}
use Rattle.jsonview.proofs.Rows.{adds-next, value-words}
use Rattle.jsonadds.specs.Place.{PlaceDue, Placed, object_value, value_tables, named, named_members}
use Rattle.jsonadds.proofs.Items.{value-one}
use Rattle.jsonentry.specs.Fields.{Stands, StandsThere, MayStand}
use Rattle.jsonfields.specs.Few.{cells-value, cells-fields}
use Rattle.jsonpieces.specs.Parts.{fields_tables, fields_word, maybe_tables, maybe_word, OneDue, OneWritten, both_tables, PairDue, PairWritten}

-- ---- a value's own record is the last

module _ {file after : List ℕ} {b : Bodies} {n m : Next} (j : J) (g : Ready file b n (value_adds j (numbers n))) (p : Adds file after b n (value_adds j (numbers n)) m) where
  value-next : m.value ≡ n.value + length (value_adds j (numbers n)).values
  unfolding beyond
  value-next = ap (λ (x : Next). x.value) (adds-next g p)

  value-some : 1 ≤ m.value
  value-some = omega (arith, value-next, value-one j (numbers n))

  value-small : m.value - 1 ≤ 4294967295
  value-small = omega (arith, value-next, value-words g)

  value-last : m.value - 1 ≡ last_value (numbers n) (value_adds j (numbers n))
  unfolding last_value numbers
  value-last = omega (arith, value-next)

-- ---- what stands at a place is one thing

pub stands_one : {A : Type 0} {line : List ℕ} {at : ℕ} {reader : List ℕ → Read A} (x y : A) → Stands line at reader x → Stands line at reader y → x ≡ y
stands_one x y p q = same-got p.is q.is

pub may_one : {line : List ℕ} {at : ℕ} (x y : Option J) → MayStand line at x → MayStand line at y → x ≡ y
may_one {line} {at} x y p q = go at refl
  where
    go : (k : ℕ) → at ≡ k → x ≡ y
    go zero e = p.missing e ∙ sym (q.missing e)
    go (suc k) e =
        let h : 0 < at = omega arith in
        let u = p.there h in
        let v = q.there h in
        u.there ∙ ap some (stands_one u.value v.value u.stands v.stands) ∙ sym v.there

-- ---- an object that is no form

module _ {line : List ℕ} {at : ℕ} {names file : List ℕ} {b : Bodies} {n : Next} (d : OneDue (Stands line at (fields 31)) fields_tables line names file b n) where
  its : Fielded 31 (drop at line) d.what d.stands.rest
  its = fielded 31 (drop at line) d.stands.is

  pub fields-here : at < length line
  fields-here = byte-below line at its.brace

  fields-tables : (ps : Parts) (k : Next-as_Trace) → fields_tables ps k ≡ value_tables (Object ps) k
  unfolding fields_tables ordered
  fields-tables ps k = refl

  fields_read : {ps : Parts} {rest : List ℕ} (f : Fielded 31 (drop at line) ps rest) → object_read 31 (drop (at + 1) line) ≡ got f.made.what rest
  fields_read f = ap (object_read 31) (byte_left line at f.brace) ∙ f.made.is

  pub fields-place : PlaceDue line (at + 1) (object_read 31 (drop (at + 1) line)) file b n object_value names 0 named_members
  fields-place = record {
    due = record {
      what = its.made.what;
      rest = d.stands.rest;
      within = omega (arith, fields-here);
      is = fields_read its;
      ready = subst (λ (ps : Parts). Ready file b n (value_tables (Object ps) (numbers n))) its.made.makes (subst (λ (t : Tables). Ready file b n t) (fields-tables d.what (numbers n)) d.ready);
    };
    spare = record {
      is =
          λ what rest e.
          let z : d.what ≡ member_parts what = its.made.makes ∙ ap member_parts (same-got (fields_read its) e) in
          let h : named (Object d.what) ≤ length names = cells-fields d.cells 31 d.stands in
          let w : named (Object d.what) ≡ named (Object (member_parts what)) = ap (λ (ps : Parts). named (Object ps)) z in
          omega (arith, h, w);
    };
  }

  module _ {names' after : List ℕ} {w-next : Next} {w-end : ℕ} (p : Placed line (at + 1) (object_read 31 (drop (at + 1) line)) file after b n object_value w-next w-end 0 names names') where
    fields-adds : (ps : Parts) → Stands line at (fields 31) ps → Adds file after b n (fields_tables ps (numbers n)) w-next
    fields-adds ps s =
        let f = fielded 31 (drop at line) s.is in
        subst (λ (t : Tables). Adds file after b n t w-next) (sym (fields-tables ps (numbers n)))
        (subst (λ (qs : Parts). Adds file after b n (value_tables (Object qs) (numbers n)) w-next) (sym f.made.makes) (p.told.adds f.made.what s.rest (fields_read f)))

    its-adds : Adds file after b n (value_adds (Object (ordered_members d.what)) (numbers n)) w-next
    unfolding fields_tables
    its-adds = fields-adds d.what d.stands

    its-ready : Ready file b n (value_adds (Object (ordered_members d.what)) (numbers n))
    unfolding fields_tables
    its-ready = d.ready

    pub fields-some : 1 ≤ w-next.value
    fields-some = value-some (Object (ordered_members d.what)) its-ready its-adds

    pub fields-wrote : OneWritten (Stands line at (fields 31)) fields_tables fields_word names names' file after b n w-next (w-next.value - 1)
    fields-wrote = record {
      long = p.stays.long;
      small = value-small (Object (ordered_members d.what)) its-ready its-adds;
      adds = fields-adds;
      is =
          λ ps s.
          subst (λ (qs : Parts). w-next.value - 1 ≡ fields_word qs (numbers n)) (stands_one d.what ps d.stands s)
          (unfold fields_word fields_tables in value-last (Object (ordered_members d.what)) its-ready its-adds);
    }

-- ---- a value that may be missing

none-tables : (k : Next-as_Trace) → maybe_tables none k ≡ empty
unfolding maybe_tables ordered_maybe maybe_adds
none-tables k = refl

some-tables : (j : J) (k : Next-as_Trace) → maybe_tables (some j) k ≡ value_tables j k
unfolding maybe_tables ordered_maybe maybe_adds
some-tables j k = refl

none-word : (k : Next-as_Trace) → maybe_word none k ≡ nothing
unfolding maybe_word ordered_maybe maybe_number
none-word k = refl

some_word : (j : J) (k : Next-as_Trace) → maybe_word (some j) k ≡ last_value k (value_tables j k)
unfolding maybe_word ordered_maybe maybe_number
some_word j k = refl

module _ {line : List ℕ} {at : ℕ} {names file : List ℕ} {b : Bodies} {n : Next} (d : OneDue (MayStand line at) maybe_tables line names file b n) where
  pub maybe-none : at ≡ 0 → OneWritten (MayStand line at) maybe_tables maybe_word names names file file b n n 4294967295
  maybe-none e = record {
    long = refl;
    small = omega arith;
    adds = λ o s. subst (λ (t : Tables). Adds file file b n t n) (sym (ap (λ (x : Option J). maybe_tables x (numbers n)) (s.missing e) ∙ none-tables (numbers n))) (adds_none file b n);
    is = λ o s. sym (ap (λ (x : Option J). maybe_word x (numbers n)) (s.missing e) ∙ none-word (numbers n));
  }

  module _ (q : at ≡ 0 → ⊥) where
    above : 0 < at
    above = go at refl
      where
        go : (k : ℕ) → at ≡ k → 0 < at
        go zero e = absurd (q e)
        go (suc k) e = omega arith

    one : StandsThere line at d.what
    one = d.stands.there above

    one-ready : Ready file b n (value_tables one.value (numbers n))
    one-ready = subst (λ (t : Tables). Ready file b n t) (ap (λ (o : Option J). maybe_tables o (numbers n)) one.there ∙ some-tables one.value (numbers n)) d.ready

    pub maybe-place : PlaceDue line at (value 32 (drop at line)) file b n value_tables names 0 named
    maybe-place = record {
      due = record { what = one.value; rest = one.stands.rest; within = one.stands.within; is = one.stands.is; ready = one-ready };
      spare = record {
        is =
            λ what rest e.
            let h : named one.value ≤ length names = cells-value d.cells 32 one.stands in
            let w : named one.value ≡ named what = ap named (same-got one.stands.is e) in
            omega (arith, h, w);
      };
    }

    module _ {names' after : List ℕ} {w-next : Next} {w-end : ℕ} (p : Placed line at (value 32 (drop at line)) file after b n value_tables w-next w-end 0 names names') where
      one-adds : Adds file after b n (value_tables one.value (numbers n)) w-next
      one-adds = p.told.adds one.value one.stands.rest one.stands.is

      pub maybe-some : 1 ≤ w-next.value
      maybe-some = value-some (ordered one.value) one-ready one-adds

      what-adds : Adds file after b n (maybe_tables d.what (numbers n)) w-next
      what-adds = subst (λ (t : Tables). Adds file after b n t w-next) (sym (ap (λ (o : Option J). maybe_tables o (numbers n)) one.there ∙ some-tables one.value (numbers n))) one-adds

      what-word : w-next.value - 1 ≡ maybe_word d.what (numbers n)
      what-word = value-last (ordered one.value) one-ready one-adds ∙ sym (ap (λ (o : Option J). maybe_word o (numbers n)) one.there ∙ some_word one.value (numbers n))

      pub maybe-wrote : OneWritten (MayStand line at) maybe_tables maybe_word names names' file after b n w-next (w-next.value - 1)
      maybe-wrote = record {
        long = p.stays.long;
        small = value-small (ordered one.value) one-ready one-adds;
        adds = λ o s. subst (λ (x : Option J). Adds file after b n (maybe_tables x (numbers n)) w-next) (may_one d.what o d.stands s) what-adds;
        is = λ o s. subst (λ (x : Option J). w-next.value - 1 ≡ maybe_word x (numbers n)) (may_one d.what o d.stands s) what-word;
      }

-- ---- two of them

module _ {A : Type 0} {S T : A → Type 0} {tables : A → Next-as_Trace → Tables} {line names file : List ℕ} {b : Bodies} {n : Next} (Shaped_of : (a : A) (k : Next-as_Trace) → Shaped (tables a k)) (only : (x y : A) → S x → S y → x ≡ y) (d : PairDue S T tables line names file b n) where
  both-ready : Ready file b n (tables d.first (numbers n) ⊕ tables d.second (past (numbers n) (tables d.first (numbers n))))
  unfolding both_tables
  both-ready = d.ready

  first-ready : Ready file b n (tables d.first (numbers n))
  first-ready = ready-first (tables d.first (numbers n)) _ both-ready

  pair-first : OneDue S tables line names file b n
  pair-first = record { what = d.first; stands = d.first-is; ready = first-ready; cells = d.cells }

  module _ {word : A → Next-as_Trace → ℕ} {names₁ mid : List ℕ} {x-next : Next} {x-number : ℕ} (p : OneWritten S tables word names names₁ file mid b n x-next x-number) where
    first_next : x-next ≡ beyond n (tables d.first (numbers n))
    first_next = adds-next first-ready (p.adds d.first d.first-is)

    first-numbers : numbers x-next ≡ past (numbers n) (tables d.first (numbers n))
    first-numbers = ap numbers first_next ∙ numbers-beyond n (tables d.first (numbers n))

    pair-second : length mid ≡ length file → OneDue T tables line names₁ mid b x-next
    pair-second l = record {
      what = d.second;
      stands = d.second_is;
      ready =
          subst (λ (k : Next-as_Trace). Ready mid b x-next (tables d.second k)) (sym first-numbers)
          (ready-second (tables d.first (numbers n)) _ (Shaped_of d.first (numbers n)) both-ready (p.adds d.first d.first-is) l);
      cells = let e : length names₁ ≡ length names = p.long in omega (arith, d.cells, e);
    }

    module _ {names₂ last : List ℕ} {y-next : Next} {y-number : ℕ} (q : OneWritten T tables word names₁ names₂ mid last b x-next y-next y-number) where
      same_numbers : (a : A) → S a → numbers x-next ≡ past (numbers n) (tables a (numbers n))
      same_numbers a s = subst (λ (c : A). numbers x-next ≡ past (numbers n) (tables c (numbers n))) (only d.first a d.first-is s) first-numbers

      pair-wrote : PairWritten S T tables word names names₂ file last b n y-next x-number y-number
      pair-wrote = record {
        long = q.long ∙ p.long;
        first_small = p.small;
        second-small = q.small;
        adds =
            λ a c s t.
            unfold both_tables in
            adds_then (tables a (numbers n)) (tables c (past (numbers n) (tables a (numbers n)))) (Shaped_of a (numbers n)) (Shaped_of c _) (p.adds a s)
            (subst (λ (k : Next-as_Trace). Adds mid last b x-next (tables c k) y-next) (same_numbers a s) (q.adds c t));
        first-is = p.is;
        second_is = λ a c s t. subst (λ (k : Next-as_Trace). y-number ≡ word c k) (same_numbers a s) (q.is c t);
      }

pub shaped-fields : (ps : Parts) (k : Next-as_Trace) → Shaped (fields_tables ps k)
unfolding fields_tables
shaped-fields ps k = shaped (Object (ordered_members ps)) k

pub shaped_might : (o : Option J) (k : Next-as_Trace) → Shaped (maybe_tables o k)
unfolding maybe_tables
shaped_might o k = shaped-maybe (ordered_maybe o) k

-- logged and context
module _ {line : List ℕ} {one other : ℕ} {names file : List ℕ} {b : Bodies} {n : Next} (d : PairDue (Stands line one (fields 31)) (Stands line other (fields 31)) fields_tables line names file b n) where
  pub records-first : OneDue (Stands line one (fields 31)) fields_tables line names file b n
  records-first = pair-first shaped-fields stands_one d

  module _ {names₁ mid : List ℕ} {x-next : Next} {x-number : ℕ} (p : OneWritten (Stands line one (fields 31)) fields_tables fields_word names names₁ file mid b n x-next x-number) where
    pub records-second : length mid ≡ length file → OneDue (Stands line other (fields 31)) fields_tables line names₁ mid b x-next
    records-second l = pair-second shaped-fields stands_one d p l

    pub records-wrote : {names₂ last : List ℕ} {y-next : Next} {y-number : ℕ} → OneWritten (Stands line other (fields 31)) fields_tables fields_word names₁ names₂ mid last b x-next y-next y-number → PairWritten (Stands line one (fields 31)) (Stands line other (fields 31)) fields_tables fields_word names names₂ file last b n y-next x-number y-number
    records-wrote q = pair-wrote shaped-fields stands_one d p q

-- principal and resource
module _ {line : List ℕ} {one other : ℕ} {names file : List ℕ} {b : Bodies} {n : Next} (d : PairDue (MayStand line one) (MayStand line other) maybe_tables line names file b n) where
  pub parties-first : OneDue (MayStand line one) maybe_tables line names file b n
  parties-first = pair-first shaped_might may_one d

  module _ {names₁ mid : List ℕ} {x-next : Next} {x-number : ℕ} (p : OneWritten (MayStand line one) maybe_tables maybe_word names names₁ file mid b n x-next x-number) where
    pub parties-second : length mid ≡ length file → OneDue (MayStand line other) maybe_tables line names₁ mid b x-next
    parties-second l = pair-second shaped_might may_one d p l

    pub parties-wrote : {names₂ last : List ℕ} {y-next : Next} {y-number : ℕ} → OneWritten (MayStand line other) maybe_tables maybe_word names₁ names₂ mid last b x-next y-next y-number → PairWritten (MayStand line one) (MayStand line other) maybe_tables maybe_word names names₂ file last b n y-next x-number y-number
    parties-wrote q = pair-wrote shaped_might may_one d p q
