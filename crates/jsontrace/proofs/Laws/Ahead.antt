-- The look ahead of J15 passes over a whole value
use Rattle.std.specs.Prelude.{◌≡◌, Bool, ◌⊎◌, ℕ, zero, suc, ◌+◌, ◌/◌, ◌%◌, ◌<◌, ℤ, pos, negsuc, eqb, ltb}
use Rattle.std.proofs.Math.Path.{refl, ap}
use Rattle.std.proofs.Common.{sym, ◌∙◌, inl, inr, arith}
use Rattle.std.proofs.Math.Bool.{true, false}
use mathlib.Core.List.{List, [], ◌∷◌, ◌++◌, append_assoc}
use borrow.Author.Tests.{ltb-true, ltb-false, ne_eqb}
use Rattle.meaning.specs.Tests.{◌or◌, choose}
use Rattle.laws.specs.Tests.{yes, no as otherwise}
use Rattle.laws.specs.Lists.{Every}
use Rattle.encode.proofs.Laws.Read.{never}
use Rattle.jsontext.specs.declared.Side.TheVariants.{Outside, Inside}
use Rattle.jsontext.specs.Values.{J, Null, Truth, Int, Text, EntityOf, Decimal, Array, Object, Parts, end, part, closes_first, __entity, «type», «id», __extn, «fn», «arg», «decimal»}
use Rattle.jsontrace.specs.Text.{hex_byte, escaped_byte, escaped, quoted, decimal_digits, natural, integer, after_first, commas, brackets, braces, pair, shown, shown_items, shown_members}
use Rattle.jsontrace.proofs.Laws.Strings.{neither}

-- what is seen after it is seen from before it
pub record Passed (t : List ℕ) : Type 0 where
  pub over : (depth : ℕ) (s : List ℕ) → closes_first Outside depth (t ++ s) ≡ closes_first Outside depth s

passed-append : (t u : List ℕ) → Passed t → Passed u → Passed (t ++ u)
passed-append t u p q = record {
  over = λ depth s. ap (closes_first Outside depth) (append_assoc t u s) ∙ p.over depth (u ++ s) ∙ q.over depth s;
}

-- ---- strings

-- a byte of a string that is no quotation mark and no backslash
inside-byte : (depth c : ℕ) (s : List ℕ) → (eqb c 34 or eqb c 92) ≡ false → closes_first Inside depth (c ∷ s) ≡ closes_first Inside depth s
unfolding closes_first choose
inside-byte depth c s h = let n = neither c h in rw (n.0, n.1) refl

hex_plain : (d : ℕ) → d < 16 → (eqb (hex_byte d) 34 or eqb (hex_byte d) 92) ≡ false
unfolding hex_byte
hex_plain d h = go (ltb d 10) refl
  where
    go : (b : Bool) → ltb d 10 ≡ b → (eqb (choose b (48 + d) (87 + d)) 34 or eqb (choose b (48 + d) (87 + d)) 92) ≡ false
    go true e =
        let l = ltb-true d 10 e in
        unfold choose ◌or◌ in
        rw (ne_eqb (48 + d) 34 (λ e. absurd (omega arith)), ne_eqb (48 + d) 92 (λ e. absurd (omega arith))) refl
    go false e =
        let l = ltb-false d 10 e in
        unfold choose ◌or◌ in
        rw (ne_eqb (87 + d) 34 (λ e. absurd (omega arith)), ne_eqb (87 + d) 92 (λ e. absurd (omega arith))) refl

-- what follows a backslash is passed over
hidden : (depth c : ℕ) (s : List ℕ) → closes_first Inside depth (92 ∷ c ∷ s) ≡ closes_first Inside depth s
unfolding closes_first choose
hidden depth c s = refl

zeros : (depth : ℕ) (s : List ℕ) → closes_first Inside depth (92 ∷ 117 ∷ 48 ∷ 48 ∷ s) ≡ closes_first Inside depth s
unfolding closes_first choose
zeros depth s = refl

quote-ends : (depth : ℕ) (s : List ℕ) → closes_first Inside depth (34 ∷ s) ≡ closes_first Outside depth s
unfolding closes_first choose
quote-ends depth s = refl

comma-passed : (depth : ℕ) (s : List ℕ) → closes_first Outside (suc depth) (44 ∷ s) ≡ closes_first Outside (suc depth) s
unfolding closes_first choose ◌or◌
comma-passed depth s = refl

escaped-byte : (depth c : ℕ) (s : List ℕ) → closes_first Inside depth (escaped_byte c ++ s) ≡ closes_first Inside depth s
escaped-byte depth c s = go (eqb c 34 or eqb c 92) (ltb c 32) refl refl
  where
    go : (m l : Bool) → (eqb c 34 or eqb c 92) ≡ m → ltb c 32 ≡ l → closes_first Inside depth (escaped_byte c ++ s) ≡ closes_first Inside depth s
    go true l e f =
        let is : escaped_byte c ≡ 92 ∷ c ∷ [] = unfold escaped_byte in yes _ e in
        ap (λ (x : List ℕ). closes_first Inside depth (x ++ s)) is ∙ hidden depth c s
    go false true e f =
        let low = ltb-true c 32 f in
        let is : escaped_byte c ≡ 92 ∷ 117 ∷ 48 ∷ 48 ∷ hex_byte (c / 16) ∷ hex_byte (c % 16) ∷ [] = unfold escaped_byte in otherwise _ e (yes _ f) in
        ap (λ (x : List ℕ). closes_first Inside depth (x ++ s)) is
        ∙ zeros depth (hex_byte (c / 16) ∷ hex_byte (c % 16) ∷ s)
        ∙ inside-byte depth (hex_byte (c / 16)) (hex_byte (c % 16) ∷ s) (hex_plain (c / 16) (omega arith))
        ∙ inside-byte depth (hex_byte (c % 16)) s (hex_plain (c % 16) (omega arith))
    go false false e f =
        let is : escaped_byte c ≡ c ∷ [] = unfold escaped_byte in otherwise _ e (otherwise _ f refl) in
        ap (λ (x : List ℕ). closes_first Inside depth (x ++ s)) is ∙ inside-byte depth c s e

escaped-passed : (t : List ℕ) (depth : ℕ) (s : List ℕ) → closes_first Inside depth (escaped t ++ s) ≡ closes_first Inside depth s
unfolding escaped
escaped-passed [] depth s = refl
escaped-passed (c ∷ t) depth s =
    ap (closes_first Inside depth) (append_assoc (escaped_byte c) (escaped t) s)
    ∙ escaped-byte depth c (escaped t ++ s)
    ∙ escaped-passed t depth s

quoted-over : (t : List ℕ) (depth : ℕ) (s : List ℕ) → closes_first Outside depth (quoted t ++ s) ≡ closes_first Outside depth s
unfolding quoted
quoted-over t depth s =
    opens depth ((escaped t ++ (34 ∷ [])) ++ s)
    ∙ ap (closes_first Inside depth) (append_assoc (escaped t) (34 ∷ []) s)
    ∙ escaped-passed t depth (34 ∷ s)
    ∙ quote-ends depth s
  where
    opens : (depth : ℕ) (s : List ℕ) → closes_first Outside depth (34 ∷ s) ≡ closes_first Inside depth s
    opens zero s = unfold closes_first choose in refl
    opens (suc depth) s = unfold closes_first choose in refl

pub quoted-passed : (t : List ℕ) → Passed (quoted t)
quoted-passed t = record { over = quoted-over t }

-- ---- bytes outside strings

-- no quotation mark, bracket or comma
plain_byte : (c : ℕ) → (eqb c 34 ≡ false) → ((eqb c 123 or eqb c 91) ≡ false) → ((eqb c 125 or eqb c 93 or eqb c 44) ≡ false) → ((eqb c 125 or eqb c 93) ≡ false) → Passed (c ∷ [])
plain_byte c q o k b = record { over = go }
  where
    go : (depth : ℕ) (s : List ℕ) → closes_first Outside depth (c ∷ s) ≡ closes_first Outside depth s
    go zero s = unfold closes_first choose in rw (q, o, k) refl
    go (suc depth) s = unfold closes_first choose in rw (q, o, b) refl

digit-passed : (d : ℕ) → d < 10 → Passed ((48 + d) ∷ [])
unfolding ◌or◌
digit-passed d h =
    plain_byte (48 + d) (no 34 (λ e. absurd (omega arith)))
    (rw (no 123 (λ e. absurd (omega arith)), no 91 (λ e. absurd (omega arith))) refl)
    (rw (no 125 (λ e. absurd (omega arith)), no 93 (λ e. absurd (omega arith)), no 44 (λ e. absurd (omega arith))) refl)
    (rw (no 125 (λ e. absurd (omega arith)), no 93 (λ e. absurd (omega arith))) refl)
  where
    no : (k : ℕ) → (48 + d ≡ k → ⊥) → eqb (48 + d) k ≡ false
    no k n = ne_eqb (48 + d) k n

empty-passed : Passed []
empty-passed = record { over = λ depth s. refl }

digits-passed : (turns n : ℕ) → Passed (decimal_digits turns n)
unfolding decimal_digits choose
digits-passed zero n = empty-passed
digits-passed (suc turns) n = go (ltb n 10) refl (digits-passed turns (n / 10))
  where
    go : (b : Bool) → ltb n 10 ≡ b → Passed (decimal_digits turns (n / 10)) → Passed (choose b ((48 + n) ∷ []) (decimal_digits turns (n / 10) ++ ((48 + n % 10) ∷ [])))
    go true e p = digit-passed n (ltb-true n 10 e)
    go false e p = passed-append _ _ p (digit-passed (n % 10) (omega arith))

literal : (c : ℕ) → (eqb c 34 or (eqb c 123 or eqb c 91) or (eqb c 125 or eqb c 93 or eqb c 44) or (eqb c 125 or eqb c 93)) ≡ false → Passed (c ∷ [])
literal c h = go (eqb c 34) (eqb c 123 or eqb c 91) (eqb c 125 or eqb c 93 or eqb c 44) (eqb c 125 or eqb c 93) refl refl refl refl h
  where
    go : (p q r s : Bool) → eqb c 34 ≡ p → (eqb c 123 or eqb c 91) ≡ q → (eqb c 125 or eqb c 93 or eqb c 44) ≡ r → (eqb c 125 or eqb c 93) ≡ s → (p or q or r or s) ≡ false → Passed (c ∷ [])
    go true q r s e f g i h = unfold ◌or◌ in never (sym h)
    go false true r s e f g i h = unfold ◌or◌ in never (sym h)
    go false false true s e f g i h = unfold ◌or◌ in never (sym h)
    go false false false true e f g i h = unfold ◌or◌ in never (sym h)
    go false false false false e f g i h = plain_byte c e f g i

integer-passed : (z : ℤ) → Passed (integer z)
unfolding integer natural
integer-passed (pos n) = digits-passed (suc n) n
integer-passed (negsuc n) = passed-append (45 ∷ []) _ (literal 45 (unfold ◌or◌ in refl)) (digits-passed (suc (suc n)) (suc n))

-- ---- brackets

-- inside a bracket commas are passed over too
after-passed : (ts : List (List ℕ)) → Every Passed ts → (depth : ℕ) (s : List ℕ) → closes_first Outside (suc depth) (after_first ts ++ s) ≡ closes_first Outside (suc depth) s
unfolding after_first
after-passed [] p depth s = refl
after-passed (t ∷ ts) p depth s =
    comma-passed depth ((t ++ after_first ts) ++ s)
    ∙ ap (closes_first Outside (suc depth)) (append_assoc t (after_first ts) s)
    ∙ p.0.over (suc depth) (after_first ts ++ s)
    ∙ after-passed ts p.1 depth s

commas-passed : (ts : List (List ℕ)) → Every Passed ts → (depth : ℕ) (s : List ℕ) → closes_first Outside (suc depth) (commas ts ++ s) ≡ closes_first Outside (suc depth) s
unfolding commas
commas-passed [] p depth s = refl
commas-passed (t ∷ ts) p depth s =
    ap (closes_first Outside (suc depth)) (append_assoc t (after_first ts) s)
    ∙ p.0.over (suc depth) (after_first ts ++ s)
    ∙ after-passed ts p.1 depth s

opened : (c : ℕ) → (c ≡ 91) ⊎ (c ≡ 123) → (depth : ℕ) (s : List ℕ) → closes_first Outside depth (c ∷ s) ≡ closes_first Outside (suc depth) s
unfolding closes_first choose ◌or◌
opened c (inl e) zero s = rw e refl
opened c (inl e) (suc depth) s = rw e refl
opened c (inr e) zero s = rw e refl
opened c (inr e) (suc depth) s = rw e refl

closed : (c : ℕ) → (c ≡ 93) ⊎ (c ≡ 125) → (depth : ℕ) (s : List ℕ) → closes_first Outside (suc depth) (c ∷ s) ≡ closes_first Outside depth s
unfolding closes_first choose ◌or◌
closed c (inl e) depth s = rw e refl
closed c (inr e) depth s = rw e refl

pub brackets-passed : (ts : List (List ℕ)) → Every Passed ts → Passed (brackets ts)
unfolding brackets
brackets-passed ts p = record {
  over = λ depth s.
      opened 91 (inl refl) depth ((commas ts ++ (93 ∷ [])) ++ s)
      ∙ ap (closes_first Outside (suc depth)) (append_assoc (commas ts) (93 ∷ []) s)
      ∙ commas-passed ts p depth (93 ∷ s)
      ∙ closed 93 (inl refl) depth s;
}

pub braces-passed : (ts : List (List ℕ)) → Every Passed ts → Passed (braces ts)
unfolding braces
braces-passed ts p = record {
  over = λ depth s.
      opened 123 (inr refl) depth ((commas ts ++ (125 ∷ [])) ++ s)
      ∙ ap (closes_first Outside (suc depth)) (append_assoc (commas ts) (125 ∷ []) s)
      ∙ commas-passed ts p depth (125 ∷ s)
      ∙ closed 125 (inr refl) depth s;
}

pub pair-passed : (n t : List ℕ) → Passed t → Passed (pair n t)
unfolding pair
pair-passed n t p = passed-append (quoted n) (58 ∷ t) (quoted-passed n) (passed-append (58 ∷ []) t (literal 58 (unfold ◌or◌ in refl)) p)

word-passed : (c : ℕ) (t : List ℕ) → (eqb c 34 or (eqb c 123 or eqb c 91) or (eqb c 125 or eqb c 93 or eqb c 44) or (eqb c 125 or eqb c 93)) ≡ false → Passed t → Passed (c ∷ t)
word-passed c t h p = passed-append (c ∷ []) t (literal c h) p

-- ---- values

truth_passed : (b : Bool) → Passed (choose b (116 ∷ 114 ∷ 117 ∷ 101 ∷ []) (102 ∷ 97 ∷ 108 ∷ 115 ∷ 101 ∷ []))
unfolding choose ◌or◌
truth_passed true = word-passed 116 _ refl (word-passed 114 _ refl (word-passed 117 _ refl (literal 101 refl)))
truth_passed false = word-passed 102 _ refl (word-passed 97 _ refl (word-passed 108 _ refl (word-passed 115 _ refl (literal 101 refl))))

null_passed : Passed (110 ∷ 117 ∷ 108 ∷ 108 ∷ [])
unfolding ◌or◌
null_passed = word-passed 110 _ refl (word-passed 117 _ refl (word-passed 108 _ refl (literal 108 refl)))

mutual
  unfolding shown

  pub shown-passed : (j : J) → Passed (shown j)
  shown-passed Null = null_passed
  shown-passed (Truth b) = truth_passed b
  shown-passed (Int z) = integer-passed z
  shown-passed (Text t) = quoted-passed t
  shown-passed (EntityOf t i) = braces-passed _ (pair-passed __entity _ (braces-passed _ (pair-passed «type» _ (quoted-passed t), (pair-passed «id» _ (quoted-passed i), tt))), tt)
  shown-passed (Decimal t) = braces-passed _ (pair-passed __extn _ (braces-passed _ (pair-passed «fn» _ (quoted-passed «decimal»), (pair-passed «arg» _ (quoted-passed t), tt))), tt)
  shown-passed (Array ps) = brackets-passed (shown_items ps) (items-passed ps)
  shown-passed (Object ps) = braces-passed (shown_members ps) (members-passed ps)

  items-passed : (ps : Parts) → Every Passed (shown_items ps)
  items-passed end = tt
  items-passed (part n j ps) = (shown-passed j, items-passed ps)

  members-passed : (ps : Parts) → Every Passed (shown_members ps)
  members-passed end = tt
  members-passed (part n j ps) = (pair-passed n (shown j) (shown-passed j), members-passed ps)
