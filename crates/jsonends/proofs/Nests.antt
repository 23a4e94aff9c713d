-- Brackets and strings of what was read balance
use mathlib.Core.Path.{◌≡◌, refl, sym, ap, subst, ◌∙◌}
use mathlib.Core.Bool.{Bool, true, false, not}
use mathlib.Core.List.{List, [], ◌∷◌}
use mathlib.Core.Option.{Option, none, some}
use Prim.Native.Nat.{ℕ, zero, suc, ◌+◌, ◌*◌, ◌-◌, ◌<◌}
use native.Mathlib.Omega.{arith}
use lib.Dec.{eqb, leb}
use lib.ListN.{length}
use borrow.Author.Tests.{eqb-true, eq-eqb, ne_eqb, leb-true}
use Rattle.meaning.specs.Tests.{◌and◌, ◌or◌, choose}
use Rattle.meaning.specs.Equal.{is_digit, same_list}
use Rattle.laws.specs.Tests.{both as each, yes, no as otherwise}
use Rattle.jsontext.specs.declared.Fault.{Fault}
use Rattle.jsontext.specs.declared.Fault.TheVariants.{NotJson, RepeatedName, BadField, TooDeep, BadNumber}
use Rattle.jsontext.specs.declared.Form.{Form}
use Rattle.jsontext.specs.declared.Form.TheVariants.{Plain, Entity, Extension}
use Rattle.jsontext.specs.Reading.{Read, got, fault, then, no, mapped, is_blank, blanks, want}
use Rattle.jsontext.specs.Numbers.{digits, some_digits, int, frac, unsigned, exp, fits, signed, integer, parts, magnitude, number}
use Rattle.jsontext.specs.Strings.{string}
use Rattle.jsontext.specs.Values.{numeral, due, text, after_part, items, unless_empty, array, Name, before, after_name, members, object, member_of, J, EntityOf, Decimal, Array, Object, Null, Truth, Int, Text, item_parts, member_parts, «type», «id», «fn», «arg», «decimal», form, only, both, entity, argument, extension, spelt, plain, braced, value_of, value}
use Rattle.jsonparts.specs.Flat.{scalar}
use Rattle.jsonread.proofs.Spelling.{never, came}
use Rattle.jsonruns.proofs.Runs.{then_of, due_of, text-string, wanted}
use Rattle.jsonends.specs.Nest.{opens, closes, stepped, Nest, done, quote, byte}

-- ---- what is passed over, and what closes a bracket

-- from t on as from s on, as long as a bracket is open
pub record Passes (s t : List ℕ) : Type 0 where
  pub over : {rest : List ℕ} {depth : ℕ} → 0 < depth → Nest rest depth t → Nest rest depth s

-- between s and t a bracket is closed that was open
pub record Closes (s t : List ℕ) : Type 0 where
  pub over : {rest : List ℕ} {depth : ℕ} → Nest rest depth t → Nest rest (suc depth) s

pass-none : (s : List ℕ) → Passes s s
pass-none s = record { over = λ h n. n }

pass-both : {s t u : List ℕ} → Passes s t → Passes t u → Passes s u
pass-both p q = record { over = λ h n. p.over h (q.over h n) }

pass-close : {s t u : List ℕ} → Passes s t → Closes t u → Closes s u
pass-close p q = record { over = λ n. p.over (omega arith) (q.over n) }

-- a string
pass-string : {s t text : List ℕ} → string s ≡ got text t → Passes s t
pass-string e = record { over = λ h n. quote h e n }

-- a byte that is no quotation mark and no bracket
pub record Other (c : ℕ) : Type 0 where
  pub mark : eqb c 34 ≡ false
  pub opening : opens c ≡ false
  pub closing : closes c ≡ false

pass-byte : (c : ℕ) (s : List ℕ) → Other c → Passes (c ∷ s) s
pass-byte c s o = record { over = go }
  where
    same : (depth : ℕ) → stepped c depth ≡ depth
    same depth = unfold stepped in otherwise _ o.opening (otherwise _ o.closing refl)

    go : {rest : List ℕ} {depth : ℕ} → 0 < depth → Nest rest depth s → Nest rest depth (c ∷ s)
    go {rest} {depth} h n = byte h o.mark (subst (λ (k : ℕ). Nest rest k s) (sym (same depth)) n)

other : (c : ℕ) → (c ≡ 34 → ⊥) → (c ≡ 91 → ⊥) → (c ≡ 93 → ⊥) → (c ≡ 123 → ⊥) → (c ≡ 125 → ⊥) → Other c
other c p q r s t = record {
  mark = ne_eqb c 34 p;
  opening = unfold opens ◌or◌ in rw (ne_eqb c 91 q, ne_eqb c 123 s) refl;
  closing = unfold closes ◌or◌ in rw (ne_eqb c 93 r, ne_eqb c 125 t) refl;
}

-- where they stand among the bytes
below : (c : ℕ) → c < 34 → Other c
below c h = other c (λ e. omega (arith, h, e)) (λ e. omega (arith, h, e)) (λ e. omega (arith, h, e)) (λ e. omega (arith, h, e)) (λ e. omega (arith, h, e))

middle : (c : ℕ) → 34 < c → c < 91 → Other c
middle c l h = other c (λ e. omega (arith, l, e)) (λ e. omega (arith, h, e)) (λ e. omega (arith, h, e)) (λ e. omega (arith, h, e)) (λ e. omega (arith, h, e))

letter : (c : ℕ) → 93 < c → c < 123 → Other c
letter c l h = other c (λ e. omega (arith, l, e)) (λ e. omega (arith, l, e)) (λ e. omega (arith, l, e)) (λ e. omega (arith, h, e)) (λ e. omega (arith, h, e))

-- a bracket that closes
shut : (c : ℕ) (s : List ℕ) → eqb c 34 ≡ false → opens c ≡ false → closes c ≡ true → Closes (c ∷ s) s
shut c s m o k = record { over = go }
  where
    less : (depth : ℕ) → stepped c (suc depth) ≡ depth
    less depth =
        let y : stepped c (suc depth) ≡ suc depth - 1 = unfold stepped in otherwise _ o (yes _ k) in
        let z : suc depth - 1 ≡ depth = omega arith in
        y ∙ z

    go : {rest : List ℕ} {depth : ℕ} → Nest rest depth s → Nest rest (suc depth) (c ∷ s)
    go {rest} {depth} n = let h : 0 < suc depth = omega arith in byte h m (subst (λ (k : ℕ). Nest rest k s) (sym (less depth)) n)

shut-array : (s : List ℕ) → Closes (93 ∷ s) s
shut-array s = shut 93 s refl (unfold opens ◌or◌ in refl) (unfold closes ◌or◌ in refl)

shut-object : (s : List ℕ) → Closes (125 ∷ s) s
shut-object s = shut 125 s refl (unfold opens ◌or◌ in refl) (unfold closes ◌or◌ in refl)

-- a bracket and what it holds
pass-opened : (c : ℕ) {s t : List ℕ} → eqb c 34 ≡ false → opens c ≡ true → Closes s t → Passes (c ∷ s) t
pass-opened c {s} {t} m o k = record { over = go }
  where
    more : (depth : ℕ) → stepped c depth ≡ suc depth
    more depth = unfold stepped in yes _ o

    go : {rest : List ℕ} {depth : ℕ} → 0 < depth → Nest rest depth t → Nest rest depth (c ∷ s)
    go {rest} {depth} h n = byte h m (subst (λ (k : ℕ). Nest rest k s) (sym (more depth)) (k.over n))

never-opens : opens 34 ≡ true → ⊥
unfolding opens ◌or◌
never-opens e = let x : ◌≡◌ {A = ℕ} 0 1 = cc in omega arith

opened-mark : (c : ℕ) → opens c ≡ true → eqb c 34 ≡ false
opened-mark c o = ne_eqb c 34 (λ z. never-opens (sym (ap opens z) ∙ o))

-- a string has its quotation mark
string-mark : (c : ℕ) (s : List ℕ) {text rest : List ℕ} → string (c ∷ s) ≡ got text rest → c ≡ 34
unfolding string
string-mark c s e = let n = then_of (want 34 (c ∷ s)) e in let w = (wanted 34 (c ∷ s) n.is).is in cc

string-there : (s : List ℕ) {text rest : List ℕ} → string s ≡ got text rest → 0 < length s
unfolding string
string-there s e = let n = then_of (want 34 s) e in omega (arith, ap length (wanted 34 s n.is).is)

-- ---- what was read leads to what is left

abbrev Leads : {A : Type 0} → (List ℕ → Type 0) → Read A → Type 0
Leads {A} P m = (a : A) (rest : List ℕ) → m ≡ got a rest → P rest

module _ (P : List ℕ → Type 0) where
  leads-got : {A : Type 0} (a : A) (s : List ℕ) → P s → Leads P (got a s)
  leads-got a s h b rest e = let z : s ≡ rest = cc in subst P z h

  leads-fault : {A : Type 0} (w : Fault) (p q : ℕ) → Leads {A = A} P (fault w p q)
  leads-fault w p q a rest e = absurd (let z : ◌≡◌ {A = ℕ} 0 1 = cc in omega arith)

  leads-then : {A B : Type 0} (m : Read A) {f : A → List ℕ → Read B} → ((a : A) (rest : List ℕ) → m ≡ got a rest → Leads P (f a rest)) → Leads P (then m f)
  unfolding then
  leads-then (got a rest) g = g a rest refl
  leads-then (fault w p q) g = leads-fault w p q

  leads-mapped : {A B : Type 0} (f : A → B) (m : Read A) → Leads P m → Leads P (mapped f m)
  leads-mapped f m h = leads-then m (λ a rest e. leads-got (f a) rest (h a rest e))

  leads-choose : {A : Type 0} (b : Bool) {m n : Read A} → (b ≡ true → Leads P m) → (b ≡ false → Leads P n) → Leads P (choose b m n)
  unfolding choose
  leads-choose true h g = h refl
  leads-choose false h g = g refl

-- past something more
leads-past : {A : Type 0} {s t : List ℕ} (m : Read A) → Passes s t → Leads (Passes t) m → Leads (Passes s) m
leads-past m p h a rest e = pass-both p (h a rest e)

closes-past : {A : Type 0} {s t : List ℕ} (m : Read A) → Passes s t → Leads (Closes t) m → Leads (Closes s) m
closes-past m p h a rest e = pass-close p (h a rest e)

-- ---- blanks, and a byte that is due

blank-other : (c : ℕ) → is_blank c ≡ true → Other c
unfolding is_blank ◌or◌
blank-other c e = go (eqb c 32) (eqb c 9) (eqb c 13) refl refl refl e
  where
    go : (x y z : Bool) → eqb c 32 ≡ x → eqb c 9 ≡ y → eqb c 13 ≡ z → (x or y or z) ≡ true → Other c
    go true y z p q r f = below c (omega (arith, eqb-true c 32 p))
    go false true z p q r f = below c (omega (arith, eqb-true c 9 q))
    go false false true p q r f = below c (omega (arith, eqb-true c 13 r))
    go false false false p q r f = absurd (let z : ◌≡◌ {A = ℕ} 0 1 = cc in omega arith)

pass-blanks : (s : List ℕ) → Passes s (blanks s)
unfolding blanks choose
pass-blanks [] = pass-none []
pass-blanks (c ∷ s) = go (is_blank c) refl (pass-blanks s)
  where
    go : (b : Bool) → is_blank c ≡ b → Passes s (blanks s) → Passes (c ∷ s) (choose b (blanks s) (c ∷ s))
    go true e p = pass-both (pass-byte c s (blank-other c e)) p
    go false e p = pass-none (c ∷ s)

want_is : (b : ℕ) (s : List ℕ) {c : ℕ} {rest : List ℕ} → want b s ≡ got c rest → s ≡ b ∷ rest
want_is b s e = (wanted b s e).is

pass-want : (b : ℕ) (s : List ℕ) {c : ℕ} {rest : List ℕ} → Other b → want b s ≡ got c rest → Passes s rest
pass-want b s {c} {rest} o e = subst (λ (t : List ℕ). Passes t rest) (sym (want_is b s e)) (pass-byte b rest o)

-- ---- numbers

digit-other : (c : ℕ) → is_digit c ≡ true → Other c
unfolding is_digit
digit-other c e =
    let p = each (leb 48 c) (leb c 57) e in
    middle c (omega (arith, leb-true 48 c p.0)) (omega (arith, leb-true c 57 p.1))

literal : (c k : ℕ) → eqb c k ≡ true → Other k → Other c
literal c k e o = subst Other (sym (eqb-true c k e)) o

lead_digits : (n : ℕ) (s : List ℕ) → Leads (Passes s) (digits n s)
unfolding digits
lead_digits n [] = leads-got (Passes []) n [] (pass-none [])
lead_digits n (c ∷ s) =
    leads-choose (Passes (c ∷ s)) (is_digit c)
    (λ e. leads-past (digits (10 * n + (c - 48)) s) (pass-byte c s (digit-other c e)) (lead_digits (10 * n + (c - 48)) s))
    (λ e. leads-got (Passes (c ∷ s)) n (c ∷ s) (pass-none (c ∷ s)))

lead_some : (s : List ℕ) → Leads (Passes s) (some_digits s)
unfolding some_digits
lead_some [] = leads-fault (Passes []) NotJson 0 0
lead_some (c ∷ s) =
    leads-choose (Passes (c ∷ s)) (is_digit c)
    (λ e. leads-past (digits (c - 48) s) (pass-byte c s (digit-other c e)) (lead_digits (c - 48) s))
    (λ e. leads-fault (Passes (c ∷ s)) NotJson (length (c ∷ s)) (length (c ∷ s)))

lead_int : (s : List ℕ) → Leads (Passes s) (int s)
unfolding int
lead_int [] = leads-fault (Passes []) NotJson 0 0
lead_int (c ∷ s) =
    leads-choose (Passes (c ∷ s)) (eqb c 48)
    (λ e. leads-got (Passes (c ∷ s)) 0 s (pass-byte c s (literal c 48 e (middle 48 (omega arith) (omega arith)))))
    (λ e. lead_some (c ∷ s))

lead_frac : (s : List ℕ) → Leads (Passes s) (frac s)
unfolding frac
lead_frac [] = leads-got (Passes []) false [] (pass-none [])
lead_frac (c ∷ s) =
    leads-choose (Passes (c ∷ s)) (eqb c 46)
    (λ e. leads-then (Passes (c ∷ s)) (some_digits s) (λ n rest f. leads-got (Passes (c ∷ s)) true rest (pass-both (pass-byte c s (literal c 46 e (middle 46 (omega arith) (omega arith)))) (lead_some s n rest f))))
    (λ e. leads-got (Passes (c ∷ s)) false (c ∷ s) (pass-none (c ∷ s)))

-- one of two bytes
either : (c j k : ℕ) → (eqb c j or eqb c k) ≡ true → Other j → Other k → Other c
unfolding ◌or◌
either c j k e p q = go (eqb c j) refl e
  where
    go : (b : Bool) → eqb c j ≡ b → (b or eqb c k) ≡ true → Other c
    go true z f = literal c j z p
    go false z f = literal c k f q

pass-unsigned : (s : List ℕ) → Passes s (unsigned s)
unfolding unsigned choose
pass-unsigned [] = pass-none []
pass-unsigned (c ∷ s) = go (eqb c 45 or eqb c 43) refl
  where
    go : (b : Bool) → (eqb c 45 or eqb c 43) ≡ b → Passes (c ∷ s) (choose b s (c ∷ s))
    go true e = pass-byte c s (either c 45 43 e (middle 45 (omega arith) (omega arith)) (middle 43 (omega arith) (omega arith)))
    go false e = pass-none (c ∷ s)

lead_exp : (s : List ℕ) → Leads (Passes s) (exp s)
unfolding exp
lead_exp [] = leads-got (Passes []) false [] (pass-none [])
lead_exp (c ∷ s) =
    leads-choose (Passes (c ∷ s)) (eqb c 101 or eqb c 69)
    (λ e. leads-then (Passes (c ∷ s)) (some_digits (unsigned s)) (λ n rest f.
    leads-got (Passes (c ∷ s)) true rest
    (pass-both (pass-byte c s (either c 101 69 e (letter 101 (omega arith) (omega arith)) (middle 69 (omega arith) (omega arith))))
    (pass-both (pass-unsigned s) (lead_some (unsigned s) n rest f)))))
    (λ e. leads-got (Passes (c ∷ s)) false (c ∷ s) (pass-none (c ∷ s)))

lead_integer : (s : List ℕ) (left : ℕ) (minus more : Bool) (n : ℕ) (rest : List ℕ) → Passes s rest → Leads (Passes s) (integer left minus more n rest)
unfolding integer
lead_integer s left minus more n rest p =
    leads-choose (Passes s) more
    (λ e. leads-fault (Passes s) BadNumber left left)
    (λ e. leads-choose (Passes s) (fits minus n) (λ e. leads-got (Passes s) (signed minus n) rest p) (λ e. leads-fault (Passes s) BadNumber left left))

lead_parts : (left : ℕ) (minus : Bool) (n : ℕ) (s : List ℕ) → Leads (Passes s) (parts left minus n s)
unfolding parts
lead_parts left minus n s =
    leads-then (Passes s) (frac s) (λ f rest e.
    leads-then (Passes s) (exp rest) (λ x last g.
    lead_integer s left minus (f or x) n last (pass-both (lead_frac s f rest e) (lead_exp rest x last g))))

lead_magnitude : (left : ℕ) (minus : Bool) (s : List ℕ) → Leads (Passes s) (magnitude left minus s)
unfolding magnitude
lead_magnitude left minus s = leads-then (Passes s) (int s) (λ n rest e. leads-past (parts left minus n rest) (lead_int s n rest e) (lead_parts left minus n rest))

lead_number : (s : List ℕ) → Leads (Passes s) (number s)
unfolding number
lead_number [] = leads-fault (Passes []) NotJson 0 0
lead_number (c ∷ s) =
    leads-choose (Passes (c ∷ s)) (eqb c 45)
    (λ e. leads-past (magnitude (suc (length s)) true s) (pass-byte c s (literal c 45 e (middle 45 (omega arith) (omega arith)))) (lead_magnitude (suc (length s)) true s))
    (λ e. lead_magnitude (suc (length s)) false (c ∷ s))

-- ---- values that hold no other

-- a word of bytes that are no marks
abbrev Others : List ℕ → Type 0
Others [] = Unit
Others (b ∷ bs) = Other b × Others bs

lead_spelt : (bs : List ℕ) (j : J) (s : List ℕ) → Others bs → Leads (Passes s) (spelt bs j s)
unfolding spelt
lead_spelt [] j s o = leads-got (Passes s) j s (pass-none s)
lead_spelt (b ∷ bs) j s o = leads-then (Passes s) (want b s) (λ c rest e. leads-past (spelt bs j rest) (pass-want b s o.0 e) (lead_spelt bs j rest o.1))

true-others : Others (116 ∷ 114 ∷ 117 ∷ 101 ∷ [])
true-others = (letter 116 (omega arith) (omega arith), (letter 114 (omega arith) (omega arith), (letter 117 (omega arith) (omega arith), (letter 101 (omega arith) (omega arith), tt))))

false-others : Others (102 ∷ 97 ∷ 108 ∷ 115 ∷ 101 ∷ [])
false-others = (letter 102 (omega arith) (omega arith), (letter 97 (omega arith) (omega arith), (letter 108 (omega arith) (omega arith), (letter 115 (omega arith) (omega arith), (letter 101 (omega arith) (omega arith), tt)))))

null_others : Others (110 ∷ 117 ∷ 108 ∷ 108 ∷ [])
null_others = (letter 110 (omega arith) (omega arith), (letter 117 (omega arith) (omega arith), (letter 108 (omega arith) (omega arith), (letter 108 (omega arith) (omega arith), tt))))

lead_string : (s : List ℕ) → Leads (Passes s) (string s)
lead_string s t rest e = pass-string e

lead_scalar : (s : List ℕ) → Leads (Passes s) (scalar s)
unfolding scalar
lead_scalar [] = leads-fault (Passes []) NotJson 0 0
lead_scalar (c ∷ s) =
    leads-choose (Passes (c ∷ s)) (eqb c 34) (λ e. leads-mapped (Passes (c ∷ s)) Text (string (c ∷ s)) (lead_string (c ∷ s)))
    (λ e. leads-choose (Passes (c ∷ s)) (eqb c 116) (λ e. lead_spelt (116 ∷ 114 ∷ 117 ∷ 101 ∷ []) (Truth true) (c ∷ s) true-others)
    (λ e. leads-choose (Passes (c ∷ s)) (eqb c 102) (λ e. lead_spelt (102 ∷ 97 ∷ 108 ∷ 115 ∷ 101 ∷ []) (Truth false) (c ∷ s) false-others)
    (λ e. leads-choose (Passes (c ∷ s)) (eqb c 110) (λ e. lead_spelt (110 ∷ 117 ∷ 108 ∷ 108 ∷ []) Null (c ∷ s) null_others)
    (λ e. leads-choose (Passes (c ∷ s)) (numeral c) (λ e. leads-mapped (Passes (c ∷ s)) Int (number (c ∷ s)) (lead_number (c ∷ s)))
    (λ e. leads-fault (Passes (c ∷ s)) NotJson (length (c ∷ s)) (length (c ∷ s)))))))

-- ---- arrays and objects

pass-colon : (s : List ℕ) {c : ℕ} {rest : List ℕ} → want 58 s ≡ got c rest → Passes s rest
pass-colon s e = pass-want 58 s (middle 58 (omega arith) (omega arith)) e

pass-comma : (c : ℕ) (s : List ℕ) → eqb c 44 ≡ true → Passes (c ∷ s) s
pass-comma c s e = pass-byte c s (literal c 44 e (middle 44 (omega arith) (omega arith)))

module _ (close : ℕ) (shuts : (s : List ℕ) → Closes (close ∷ s) s) where
  shut-here : (c : ℕ) (s : List ℕ) → eqb c close ≡ true → Closes (c ∷ s) s
  shut-here c s e = subst (λ (k : ℕ). Closes (k ∷ s) s) (sym (eqb-true c close e)) (shuts s)

  close-after : {A : Type 0} (a : A) (more : List ℕ → Read (List A)) → ((u : List ℕ) → Leads (Closes u) (more u)) → (s : List ℕ) → Leads (Closes s) (after_part close a more s)
  unfolding after_part
  close-after a more h [] = leads-fault (Closes []) NotJson 0 0
  close-after a more h (c ∷ s) =
      leads-choose (Closes (c ∷ s)) (eqb c close)
      (λ e. leads-got (Closes (c ∷ s)) (a ∷ []) s (shut-here c s e))
      (λ e. leads-choose (Closes (c ∷ s)) (eqb c 44)
      (λ f. leads-mapped (Closes (c ∷ s)) (λ others. a ∷ others) (more (blanks s)) (closes-past (more (blanks s)) (pass-both (pass-comma c s f) (pass-blanks s)) (h (blanks s))))
      (λ f. leads-fault (Closes (c ∷ s)) NotJson (length (c ∷ s)) (length (c ∷ s))))

  close_unless : {A : Type 0} (more : List ℕ → Read (List A)) → ((u : List ℕ) → Leads (Closes u) (more u)) → (s : List ℕ) → Leads (Closes s) (unless_empty close more s)
  unfolding unless_empty
  close_unless more h [] = leads-fault (Closes []) NotJson 0 0
  close_unless more h (c ∷ s) = leads-choose (Closes (c ∷ s)) (eqb c close) (λ e. leads-got (Closes (c ∷ s)) [] s (shut-here c s e)) (λ e. h (c ∷ s))

module _ {A : Type 0} (item : List ℕ → Read A) (inside : (s : List ℕ) → Leads (Passes s) (item s)) where
  close-items : (turns : ℕ) (s : List ℕ) → Leads (Closes s) (items item turns s)
  unfolding items
  close-items zero s = leads-fault (Closes s) NotJson (length s) (length s)
  close-items (suc turns) s =
      leads-then (Closes s) (item s) (λ a rest e.
      closes-past (after_part 93 a (λ t. items item turns t) (blanks rest)) (pass-both (inside s a rest e) (pass-blanks rest))
      (close-after 93 shut-array a (λ t. items item turns t) (λ u. close-items turns u) (blanks rest)))

  close-array : (s : List ℕ) → Leads (Closes s) (array item s)
  unfolding array
  close-array s =
      closes-past (unless_empty 93 (λ t. items item (suc (length t)) t) (blanks s)) (pass-blanks s)
      (close_unless 93 shut-array (λ t. items item (suc (length t)) t) (λ u. close-items (suc (length u)) u) (blanks s))

lead_after-name : (known : List ℕ → Bool) (seen : List Name) (n : Name) (s : List ℕ) → Leads (Passes s) (after_name known seen n s)
unfolding after_name
lead_after-name known seen n s = go (before n.name seen)
  where
    go : (o : Option ℕ) → Leads {A = ℕ} (Passes s) (elim o [ some first ↦ fault RepeatedName n.left first | none ↦ choose (known n.name) (want 58 s) (fault BadField n.left n.left) ])
    go (some first) = leads-fault (Passes s) RepeatedName n.left first
    go none = leads-choose (Passes s) (known n.name) (λ e. λ c rest f. pass-colon s f) (λ e. leads-fault (Passes s) BadField n.left n.left)

module _ {A : Type 0} (known : List ℕ → Bool) (item : List ℕ → List ℕ → Read A) (inside : (n s : List ℕ) → Leads (Passes s) (item n s)) where
  close-members : (turns : ℕ) (seen : List Name) (s : List ℕ) → Leads (Closes s) (members known item turns seen s)
  unfolding members
  close-members zero seen s = leads-fault (Closes s) NotJson (length s) (length s)
  close-members (suc turns) seen s =
      leads-then (Closes s) (string s) (λ n rest e.
      leads-then (Closes s) (after_name known seen (record { name = n; left = length s }) (blanks rest)) (λ colon value f.
      leads-then (Closes s) (item n (blanks value)) (λ a end g.
      closes-past (after_part 125 (n, a) (λ t. members known item turns (record { name = n; left = length s } ∷ seen) t) (blanks end))
      (pass-both (pass-both (pass-string e) (pass-blanks rest)) (pass-both (lead_after-name known seen (record { name = n; left = length s }) (blanks rest) colon value f) (pass-both (pass-blanks value) (pass-both (inside n (blanks value) a end g) (pass-blanks end)))))
      (close-after 125 shut-object (n, a) (λ t. members known item turns (record { name = n; left = length s } ∷ seen) t) (λ u. close-members turns (record { name = n; left = length s } ∷ seen) u) (blanks end)))))

  close-object : (s : List ℕ) → Leads (Closes s) (object known item s)
  unfolding object
  close-object s =
      closes-past (unless_empty 125 (λ t. members known item (suc (length t)) [] t) (blanks s)) (pass-blanks s)
      (close_unless 125 shut-object (λ t. members known item (suc (length t)) [] t) (λ u. close-members (suc (length u)) [] u) (blanks s))

-- ---- Cedar's forms

module _ {A : Type 0} (P : List ℕ → Type 0) where
  leads-due : (w : Fault) (right : ℕ → Bool) (read : List ℕ → Read A) (s : List ℕ) → Leads P (read s) → Leads P (due w right read s)
  leads-due w right read s h a rest e = h a rest (due_of w right read s e)

lead_text : (s : List ℕ) → Leads (Passes s) (text s)
lead_text s t rest e = pass-string (text-string s e)

lead_argument : (n s : List ℕ) → Leads (Passes s) (argument n s)
unfolding argument
lead_argument n s =
    leads-then (Passes s) (text s) (λ t rest e.
    leads-choose (Passes s) (same_list n «fn» and not (same_list t «decimal»)) (λ f. leads-fault (Passes s) BadField (length s) (length s)) (λ f. leads-got (Passes s) t rest (lead_text s t rest e)))

leads-both : (P : List ℕ → Type 0) (make : List ℕ → List ℕ → J) (a b : Option (List ℕ)) (rest : List ℕ) → P rest → Leads P (both make a b rest)
unfolding both
leads-both P make none b rest h = leads-fault P BadField (suc (length rest)) (suc (length rest))
leads-both P make (some a) none rest h = leads-fault P BadField (suc (length rest)) (suc (length rest))
leads-both P make (some a) (some b) rest h = leads-got P (make a b) rest h

-- a brace and what it holds
pass-braces : (s : List ℕ) {c : ℕ} {t rest : List ℕ} → want 123 s ≡ got c t → Closes t rest → Passes s rest
unfolding opens ◌or◌
pass-braces s {c} {t} {rest} e k = subst (λ (u : List ℕ). Passes u rest) (sym (want_is 123 s e)) (pass-opened 123 refl refl k)

lead_entity : (s : List ℕ) → Leads (Passes s) (entity s)
unfolding entity
lead_entity s =
    leads-then (Passes s) (want 123 s) (λ brace t e.
    leads-then (Passes s) (object (λ n. same_list n «type» or same_list n «id») (λ n t. text t) t) (λ ms rest f.
    leads-both (Passes s) EntityOf (member_of «type» ms) (member_of «id» ms) rest
    (pass-braces s e (close-object (λ n. same_list n «type» or same_list n «id») (λ n t. text t) (λ n t. lead_text t) t ms rest f))))

lead_extension : (s : List ℕ) → Leads (Passes s) (extension s)
unfolding extension
lead_extension s =
    leads-then (Passes s) (want 123 s) (λ brace t e.
    leads-then (Passes s) (object (λ n. same_list n «fn» or same_list n «arg») argument t) (λ ms rest f.
    leads-both (Passes s) (λ f a. Decimal a) (member_of «fn» ms) (member_of «arg» ms) rest
    (pass-braces s e (close-object (λ n. same_list n «fn» or same_list n «arg») argument lead_argument t ms rest f))))

close-want : (s : List ℕ) {c : ℕ} {rest : List ℕ} → want 125 s ≡ got c rest → Closes s rest
close-want s {c} {rest} e = subst (λ (t : List ℕ). Closes t rest) (sym (want_is 125 s e)) (shut-object rest)

close-only : (inside : List ℕ → Read J) → ((s : List ℕ) → Leads (Passes s) (inside s)) → (s : List ℕ) → Leads (Closes s) (only inside s)
unfolding only
close-only inside h s =
    leads-then (Closes s) (string (blanks s)) (λ n t e.
    leads-then (Closes s) (want 58 (blanks t)) (λ colon u f.
    leads-then (Closes s) (due BadField (λ c. eqb c 123) inside (blanks u)) (λ j v g.
    leads-then (Closes s) (want 125 (blanks v)) (λ brace rest k.
    leads-got (Closes s) j rest
    (pass-close (pass-both (pass-blanks s) (pass-both (pass-string e) (pass-blanks t)))
    (pass-close (pass-both (pass-colon (blanks t) f) (pass-blanks u))
    (pass-close (pass-both (leads-due (Passes (blanks u)) BadField (λ c. eqb c 123) inside (blanks u) (h (blanks u)) j v g) (pass-blanks v)) (close-want (blanks v) k))))))))

-- ---- values

module _ (inner : List ℕ → Read J) (inside : (s : List ℕ) → Leads (Passes s) (inner s)) where
  close-braced : (f : Form) (s : List ℕ) → Leads (Closes s) (braced inner f s)
  unfolding braced
  close-braced Plain s =
      leads-mapped (Closes s) Object (plain inner s)
      (leads-mapped (Closes s) member_parts (object (λ n. true) (λ n t. inner t) s) (close-object (λ n. true) (λ n t. inner t) (λ n t. inside t) s))
  close-braced Entity s = close-only entity lead_entity s
  close-braced Extension s = close-only extension lead_extension s

  -- what a bracket holds
  close-opened : (c : ℕ) (s : List ℕ) → opens c ≡ true → Leads (Closes s) (value_of inner (c ∷ s))
  unfolding value_of opens
  close-opened c s o = go (eqb c 123) (eqb c 91) refl refl o
    where
      go : (x y : Bool) → eqb c 123 ≡ x → eqb c 91 ≡ y → (y or x) ≡ true → Leads (Closes s) (value_of inner (c ∷ s))
      go true y e f o a rest q = close-braced (form s) s a rest (sym (yes _ e) ∙ q)
      go false true e f o a rest q = leads-mapped (Closes s) (λ js. Array (item_parts js)) (array inner s) (close-array inner inside s) a rest (sym (otherwise _ e (yes _ f)) ∙ q)
      go false false e f o a rest q = absurd (unfold ◌or◌ in let z : ◌≡◌ {A = ℕ} 0 1 = cc in omega arith)

  not_opened : (c : ℕ) (s : List ℕ) → opens c ≡ false → value_of inner (c ∷ s) ≡ scalar (c ∷ s)
  unfolding value_of opens scalar
  not_opened c s o = go (eqb c 123) (eqb c 91) refl refl o
    where
      go : (x y : Bool) → eqb c 123 ≡ x → eqb c 91 ≡ y → (y or x) ≡ false → value_of inner (c ∷ s) ≡ scalar (c ∷ s)
      go false false e f o = otherwise _ e (otherwise _ f refl)
      go true true e f o = absurd (unfold ◌or◌ in let z : ◌≡◌ {A = ℕ} 0 1 = cc in omega arith)
      go true false e f o = absurd (unfold ◌or◌ in let z : ◌≡◌ {A = ℕ} 0 1 = cc in omega arith)
      go false true e f o = absurd (unfold ◌or◌ in let z : ◌≡◌ {A = ℕ} 0 1 = cc in omega arith)

  lead_value_of : (s : List ℕ) → Leads (Passes s) (value_of inner s)
  lead_value_of [] = unfold value_of in leads-fault (Passes []) NotJson 0 0
  lead_value_of (c ∷ s) = go (opens c) refl
    where
      go : (x : Bool) → opens c ≡ x → Leads (Passes (c ∷ s)) (value_of inner (c ∷ s))
      go true e a rest q = pass-opened c (opened-mark c e) e (close-opened c s e a rest q)
      go false e a rest q = lead_scalar (c ∷ s) a rest (sym (not_opened c s e) ∙ q)

lead_value : (levels : ℕ) (s : List ℕ) → Leads (Passes s) (value levels s)
unfolding value
lead_value zero s = λ a rest e. absurd (never (due_of TooDeep (λ c. false) (λ t. no NotJson t) s e))
lead_value (suc levels) s = lead_value_of (λ t. value levels t) (λ t. lead_value levels t) s

-- what follows a bracket of a good value closes it
pub value-closes : (levels c : ℕ) (s : List ℕ) {j : J} {rest : List ℕ} → opens c ≡ true → value levels (c ∷ s) ≡ got j rest → Nest rest 1 s
unfolding value
value-closes zero c s o e = absurd (never (due_of TooDeep (λ c. false) (λ t. no NotJson t) (c ∷ s) e))
value-closes (suc levels) c s {j} {rest} o e = (close-opened (λ t. value levels t) (λ t. lead_value levels t) c s o j rest e).over (done refl refl)

pub value-scalar : (levels c : ℕ) (s : List ℕ) {j : J} {rest : List ℕ} → opens c ≡ false → value levels (c ∷ s) ≡ got j rest → scalar (c ∷ s) ≡ got j rest
unfolding value
value-scalar zero c s o e = absurd (never (due_of TooDeep (λ c. false) (λ t. no NotJson t) (c ∷ s) e))
value-scalar (suc levels) c s o e = sym (not_opened (λ t. value levels t) (λ t. lead_value levels t) c s o) ∙ e

-- one that begins with a quotation mark is a string
pub record Said (s rest : List ℕ) : Type 0 where
  pub text : List ℕ
  pub is : string s ≡ got text rest

pub value-text : (levels c : ℕ) (s : List ℕ) {j : J} {rest : List ℕ} → c ≡ 34 → value levels (c ∷ s) ≡ got j rest → Said (c ∷ s) rest
unfolding scalar
value-text levels c s m e =
    let shut : opens c ≡ false = unfold opens ◌or◌ in rw m refl in
    let k = came Text (string (c ∷ s)) (sym (yes _ (eq-eqb c 34 m)) ∙ value-scalar levels c s shut e) in
    record { text = k.what; is = k.is }

pub value_there : (levels : ℕ) (s : List ℕ) {j : J} {rest : List ℕ} → value levels s ≡ got j rest → 0 < length s
unfolding value value_of due
value_there zero [] e = absurd (never e)
value_there (suc levels) [] e = absurd (never e)
value_there levels (c ∷ s) e = omega arith

-- ---- the next byte

pub nest-there : {rest s : List ℕ} {depth : ℕ} → 0 < depth → Nest rest depth s → 0 < length s
nest-there h (done z e) = absurd (omega (arith, h, z))
nest-there h (quote k e n) = omega (arith, string-there _ e)
nest-there h (byte k e n) = omega arith

pub nest-byte : (c : ℕ) {rest s : List ℕ} {depth : ℕ} → 0 < depth → (c ≡ 34 → ⊥) → Nest rest depth (c ∷ s) → Nest rest (stepped c depth) s
nest-byte c h m (done z e) = absurd (omega (arith, h, z))
nest-byte c h m (quote k e n) = absurd (m (string-mark c _ e))
nest-byte c h m (byte k e n) = n

pub record Quoted (rest : List ℕ) (depth : ℕ) (s : List ℕ) : Type 0 where
  pub text : List ℕ
  pub after : List ℕ
  pub is : string s ≡ got text after
  pub nest : Nest rest depth after

pub nest-quote : (c : ℕ) {rest s : List ℕ} {depth : ℕ} → 0 < depth → c ≡ 34 → Nest rest depth (c ∷ s) → Quoted rest depth (c ∷ s)
nest-quote c h m (done z e) = absurd (omega (arith, h, z))
nest-quote c h m (quote k e n) = record { text = _; after = _; is = e; nest = n }
nest-quote c h m (byte k e n) = absurd (let y : ◌≡◌ {A = Bool} true false = sym (eq-eqb c 34 m) ∙ e in let x : ◌≡◌ {A = ℕ} 0 1 = cc in omega arith)

pub nest-done : {rest s : List ℕ} → Nest rest 0 s → rest ≡ s
nest-done (done z e) = sym e
nest-done (quote k e n) = absurd (omega (arith, k))
nest-done (byte k e n) = absurd (omega (arith, k))
