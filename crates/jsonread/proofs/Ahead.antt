-- Looking ahead, byte by byte
use mathlib.Core.Path.{◌≡◌, refl, sym, ap, ◌∙◌}
use mathlib.Core.Bool.{Bool, true, false}
use mathlib.Core.List.{List, [], ◌∷◌}
use Prim.Native.Nat.{ℕ, zero, suc, ◌+◌, ◌-◌, ◌<◌, ◌≤◌}
use native.Mathlib.Numerals.{add-one}
use native.Mathlib.Omega.{arith}
use lib.Dec.{eqb}
use lib.ListN.{length, drop, get_or, drop_of_length-le}
use borrow.Author.Tests.{eq-eqb, ne_eqb}
use Rattle.meaning.specs.Tests.{◌or◌, choose}
use Rattle.jsontext.specs.declared.Side.{Side}
use Rattle.jsontext.specs.declared.Side.TheVariants.{Outside, Inside, Escaped}
use Rattle.jsontext.specs.Values.{closes_first}
use Rattle.jsonread.specs.declared.forms.Sign.{Sign}
use Rattle.jsonread.specs.declared.forms.Sign.TheVariants.{Quotes, Opens, Closes, Comma, Other}
use Rattle.jsonread.specs.Ahead.{sign_of, inside_after}
use Rattle.jsonread.proofs.Places.{byte_at}

-- ---- what a byte is

module _ (c : ℕ) where
  pub sign_quotes : c ≡ 34 → Quotes ≡ sign_of c
  unfolding sign_of choose
  sign_quotes e = rw (eq-eqb c 34 e)

  pub inside-quote : c ≡ 34 → Outside ≡ inside_after c
  unfolding inside_after choose
  inside-quote e = rw (eq-eqb c 34 e)

  module _ (n : c ≡ 34 → ⊥) where
    pub inside_slash : c ≡ 92 → Escaped ≡ inside_after c
    unfolding inside_after choose
    inside_slash e = rw (ne_eqb c 34 n, eq-eqb c 92 e)

    pub inside-other : (c ≡ 92 → ⊥) → Inside ≡ inside_after c
    unfolding inside_after choose
    inside-other m = rw (ne_eqb c 34 n, ne_eqb c 92 m)

    pub sign-brace : c ≡ 123 → Opens ≡ sign_of c
    unfolding sign_of choose ◌or◌
    sign-brace e = rw (ne_eqb c 34 n, eq-eqb c 123 e)

    module _ (m : c ≡ 123 → ⊥) where
      pub sign-bracket : c ≡ 91 → Opens ≡ sign_of c
      unfolding sign_of choose ◌or◌
      sign-bracket e = rw (ne_eqb c 34 n, ne_eqb c 123 m, eq-eqb c 91 e)

      module _ (k : c ≡ 91 → ⊥) where
        pub sign-closed : c ≡ 125 → Closes ≡ sign_of c
        unfolding sign_of choose ◌or◌
        sign-closed e = rw (ne_eqb c 34 n, ne_eqb c 123 m, ne_eqb c 91 k, eq-eqb c 125 e)

        module _ (l : c ≡ 125 → ⊥) where
          pub sign-ended : c ≡ 93 → Closes ≡ sign_of c
          unfolding sign_of choose ◌or◌
          sign-ended e = rw (ne_eqb c 34 n, ne_eqb c 123 m, ne_eqb c 91 k, ne_eqb c 125 l, eq-eqb c 93 e)

          module _ (j : c ≡ 93 → ⊥) where
            pub sign-comma : c ≡ 44 → Comma ≡ sign_of c
            unfolding sign_of choose ◌or◌
            sign-comma e = rw (ne_eqb c 34 n, ne_eqb c 123 m, ne_eqb c 91 k, ne_eqb c 125 l, ne_eqb c 93 j, eq-eqb c 44 e)

            pub sign-other : (c ≡ 44 → ⊥) → Other ≡ sign_of c
            unfolding sign_of choose ◌or◌
            sign-other o = rw (ne_eqb c 34 n, ne_eqb c 123 m, ne_eqb c 91 k, ne_eqb c 125 l, ne_eqb c 93 j, ne_eqb c 44 o)

-- ---- one byte further

unfoldable outside : Sign → ℕ → ℕ → List ℕ → Bool
outside Quotes depth c s = closes_first Inside depth s
outside Opens depth c s = closes_first Outside (suc depth) s
outside Closes zero c s = eqb c 125
outside Closes (suc depth) c s = closes_first Outside depth s
outside Comma zero c s = false
outside Comma (suc depth) c s = closes_first Outside (suc depth) s
outside Other depth c s = closes_first Outside depth s

positive : (n : ℕ) → (n ≡ 0 → ⊥) → 0 < n
positive zero h = absurd (h refl)
positive (suc n) h = omega arith

outside-is : (depth c : ℕ) (s : List ℕ) → closes_first Outside depth (c ∷ s) ≡ outside (sign_of c) depth c s
unfolding closes_first sign_of choose outside ◌or◌
outside-is zero c s =
    go (eqb c 34) (eqb c 123 or eqb c 91) (eqb c 125) (eqb c 93) (eqb c 44) refl refl
  where
    go : (q o x y k : Bool) → eqb c 125 ≡ x → eqb c 44 ≡ k → choose q (closes_first Inside 0 s) (choose o (closes_first Outside 1 s) (choose (x or y or k) (eqb c 125) (closes_first Outside 0 s))) ≡ outside (choose q Quotes (choose o Opens (choose (x or y) Closes (choose k Comma Other)))) 0 c s
    go true o x y k e f = refl
    go false true x y k e f = refl
    go false false true y k e f = refl
    go false false false true k e f = refl
    go false false false false true e f = e
    go false false false false false e f = refl
outside-is (suc depth) c s =
    go (eqb c 34) (eqb c 123 or eqb c 91) (eqb c 125 or eqb c 93) (eqb c 44)
  where
    go : (q o x k : Bool) → choose q (closes_first Inside (suc depth) s) (choose o (closes_first Outside (suc (suc depth)) s) (choose x (closes_first Outside depth s) (closes_first Outside (suc depth) s))) ≡ outside (choose q Quotes (choose o Opens (choose x Closes (choose k Comma Other)))) (suc depth) c s
    go true o x k = refl
    go false true x k = refl
    go false false true k = refl
    go false false false true = refl
    go false false false false = refl

inside_is : (depth c : ℕ) (s : List ℕ) → closes_first Inside depth (c ∷ s) ≡ closes_first (inside_after c) depth s
unfolding closes_first inside_after choose
inside_is depth c s =
    go (eqb c 34) (eqb c 92)
  where
    go : (q b : Bool) → choose q (closes_first Outside depth s) (choose b (closes_first Escaped depth s) (closes_first Inside depth s)) ≡ closes_first (choose q Outside (choose b Escaped Inside)) depth s
    go true b = refl
    go false true = refl
    go false false = refl

escaped-is : (depth c : ℕ) (s : List ℕ) → closes_first Escaped depth (c ∷ s) ≡ closes_first Inside depth s
unfolding closes_first
escaped-is depth c s = refl

none_left : (side : Side) (depth : ℕ) → closes_first side depth [] ≡ false
unfolding closes_first
none_left side depth = refl

-- ---- what is seen from here is what was to be seen

pub record Looking (line : List ℕ) (at : ℕ) (side : Side) (depth i : ℕ) : Type 0 where
  pub from : at ≤ i
  pub within : i ≤ length line
  pub deep : depth ≤ i
  pub goes : closes_first side depth (drop i line) ≡ closes_first Outside 0 (drop at line)

pub look-start : {line : List ℕ} {at : ℕ} → at ≤ length line → Looking line at Outside 0 at
look-start h = record { from = omega arith; within = h; deep = omega arith; goes = refl }

module _ {line : List ℕ} {at depth i : ℕ} {side : Side} (g : Looking line at side depth i) where
  pub look-end : length line ≤ i → false ≡ closes_first Outside 0 (drop at line)
  look-end h = sym (none_left side depth) ∙ sym (ap (closes_first side depth) (drop_of_length-le line h)) ∙ g.goes

  module _ (h : i < length line) where
    here : {r : Side} → side ≡ r → closes_first r depth (get_or line i 0 ∷ drop (i + 1) line) ≡ closes_first Outside 0 (drop at line)
    here {r} e = ap (λ (r : Side). closes_first r depth (get_or line i 0 ∷ drop (i + 1) line)) (sym e) ∙ sym (ap (closes_first side depth) (byte_at line i h)) ∙ g.goes

    further : {r : Side} {d : ℕ} → d ≤ depth + 1 → closes_first r d (drop (i + 1) line) ≡ closes_first Outside 0 (drop at line) → Looking line at r d (i + 1)
    further l e = record { from = omega (arith, g.from); within = omega arith; deep = omega (arith, g.deep); goes = e }

    pub look-escaped : side ≡ Escaped → Looking line at Inside depth (i + 1)
    look-escaped e = further (omega arith) (sym (escaped-is depth (get_or line i 0) (drop (i + 1) line)) ∙ here e)

    pub look-inside : {r : Side} → side ≡ Inside → r ≡ inside_after (get_or line i 0) → Looking line at r depth (i + 1)
    look-inside {r} e q = further (omega arith) (ap (λ (r : Side). closes_first r depth (drop (i + 1) line)) q ∙ sym (inside_is depth (get_or line i 0) (drop (i + 1) line)) ∙ here e)

    module _ {k : Sign} (e : side ≡ Outside) (q : k ≡ sign_of (get_or line i 0)) where
      signed : {m : Sign} → k ≡ m → outside m depth (get_or line i 0) (drop (i + 1) line) ≡ closes_first Outside 0 (drop at line)
      signed f = ap (λ (k : Sign). outside k depth (get_or line i 0) (drop (i + 1) line)) (sym f ∙ q) ∙ sym (outside-is depth (get_or line i 0) (drop (i + 1) line)) ∙ here e

      at_none : {m : Sign} → k ≡ m → depth ≡ 0 → outside m 0 (get_or line i 0) (drop (i + 1) line) ≡ closes_first Outside 0 (drop at line)
      at_none {m} f z = ap (λ (n : ℕ). outside m n (get_or line i 0) (drop (i + 1) line)) (sym z) ∙ signed f

      at_some : {m : Sign} → k ≡ m → (depth ≡ 0 → ⊥) → outside m (suc (depth - 1)) (get_or line i 0) (drop (i + 1) line) ≡ closes_first Outside 0 (drop at line)
      at_some {m} f n = let z : suc (depth - 1) ≡ depth = omega (arith, positive depth n) in ap (λ (n : ℕ). outside m n (get_or line i 0) (drop (i + 1) line)) z ∙ signed f

      pub look_quotes : k ≡ Quotes → Looking line at Inside depth (i + 1)
      unfolding outside
      look_quotes f = further (omega arith) (signed f)

      -- the side stays the same
      stays : {d : ℕ} → d ≤ depth + 1 → closes_first Outside d (drop (i + 1) line) ≡ closes_first Outside 0 (drop at line) → Looking line at side d (i + 1)
      stays {d} l f = further l (ap (λ (r : Side). closes_first r d (drop (i + 1) line)) e ∙ f)

      pub look-opens : k ≡ Opens → Looking line at side (depth + 1) (i + 1)
      unfolding outside
      look-opens f = stays (omega arith) (ap (λ (n : ℕ). closes_first Outside n (drop (i + 1) line)) (add-one depth) ∙ signed f)

      pub look-closed : k ≡ Closes → depth ≡ 0 → eqb (get_or line i 0) 125 ≡ closes_first Outside 0 (drop at line)
      unfolding outside
      look-closed f z = at_none f z

      pub look-closes : k ≡ Closes → (depth ≡ 0 → ⊥) → Looking line at side (depth - 1) (i + 1)
      unfolding outside
      look-closes f n = stays (omega arith) (at_some f n)

      pub look-comma : k ≡ Comma → depth ≡ 0 → false ≡ closes_first Outside 0 (drop at line)
      unfolding outside
      look-comma f z = at_none f z

      pub look-past : k ≡ Comma → (depth ≡ 0 → ⊥) → Looking line at side depth (i + 1)
      unfolding outside
      look-past f n = let z : suc (depth - 1) ≡ depth = omega (arith, positive depth n) in stays (omega arith) (ap (λ (n : ℕ). closes_first Outside n (drop (i + 1) line)) (sym z) ∙ at_some f n)

      pub look-other : k ≡ Other → Looking line at side depth (i + 1)
      unfolding outside
      look-other f = stays (omega arith) (signed f)
