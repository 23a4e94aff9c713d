-- Past a byte and the blanks around it
use mathlib.Core.Path.{◌≡◌, refl, sym, ap, subst, ◌∙◌}
use mathlib.Core.List.{List, ◌∷◌}
use Prim.Native.Nat.{ℕ, suc, ◌+◌, ◌-◌, ◌<◌, ◌≤◌}
use native.Mathlib.Omega.{arith}
use lib.ListN.{length, drop, get_or, length-drop}
use Rattle.std.specs.Prelude.{Result, Ok, Err}
use Rattle.std.specs.Result.{result_unwrap_or}
use Rattle.jsontext.specs.declared.Bad.{Bad}
use Rattle.jsontext.specs.Reading.{Read, blanks}
use Rattle.jsonread.specs.Told.{Told, Blanks}
use Rattle.jsonread.proofs.Spelling.{never}
use Rattle.jsonread.proofs.Places.{byte_at}
use Rattle.jsonruns.specs.Good.{Good, Ends, Signed, Past, Behind, ClosedAt, BeginAt, NextAt, BeginTold, PartTold}

-- the byte that stands after blanks, and what is left behind it
pub sign_below : {line : List ℕ} {at i c : ℕ} {rest : List ℕ} → Blanks line at i → blanks (drop at line) ≡ c ∷ rest → i < length line
sign_below {line} {at} {i} b e = omega (arith, length-drop i line, ap length (b.is ∙ e))

pub sign-is : {line : List ℕ} {at i c : ℕ} {rest : List ℕ} → Blanks line at i → blanks (drop at line) ≡ c ∷ rest → get_or line i 0 ≡ c
sign-is {line} {at} {i} b e = let z = byte_at line i (sign_below b e) in cc b.is

pub sign-left : {line : List ℕ} {at i c : ℕ} {rest : List ℕ} → Blanks line at i → blanks (drop at line) ≡ c ∷ rest → rest ≡ drop (i + 1) line
sign-left {line} {at} {i} b e = let z = byte_at line i (sign_below b e) in cc b.is

module _ {line : List ℕ} {at i : ℕ} (g : Signed line at) (b : Blanks line at i) where
  pub sign-there : i + 1 ≤ length line
  sign-there = omega (arith, sign_below b g.is)

  pub sign-past : {r : ℕ} → Blanks line (i + 1) r → Past line at r
  sign-past p = record {
    from = omega (arith, b.from, p.from);
    within = p.within;
    is = λ c rest e. p.is ∙ ap blanks (sym (sign-left b e));
  }

  pub sign-behind : Behind line at (i + 1)
  sign-behind = record { from = omega (arith, b.from); within = sign-there; is = λ c rest e. sign-left b e }

  pub sign_read : i < length line
  sign_read = omega (arith, sign-there)

  module _ {close : ℕ} where
    closing : get_or line i 0 ≡ close → ClosedAt line at close (i + 1)
    closing q = record {
      from = omega (arith, b.from);
      within = sign-there;
      is = sym b.is ∙ byte_at line i sign_read ∙ ap (λ (c : ℕ). c ∷ drop (i + 1) line) q;
    }

    pub begin_closed : get_or line i 0 ≡ close → BeginTold line at close (Err (i + 1))
    begin_closed q = record {
      closed = λ e z. let y : i + 1 ≡ e = cc in subst (λ (k : ℕ). ClosedAt line at close k) y (closing q);
      next = λ k z. absurd (let y : ◌≡◌ {A = ℕ} 0 1 = cc in omega arith);
    }

    pub part-closed : get_or line i 0 ≡ close → PartTold line at close (Err (i + 1))
    part-closed q = record {
      closed = λ e z. let y : i + 1 ≡ e = cc in subst (λ (k : ℕ). ClosedAt line at close k) y (closing q);
      next = λ k z. absurd (let y : ◌≡◌ {A = ℕ} 0 1 = cc in omega arith);
    }

    module _ (n : get_or line i 0 ≡ close → ⊥) where
      pub begin_next : BeginTold line at close (Ok i)
      begin_next = record {
        closed = λ e z. absurd (let y : ◌≡◌ {A = ℕ} 0 1 = cc in omega arith);
        next =
            λ k z.
            let y : i ≡ k = cc in
            subst (λ (k : ℕ). BeginAt line at close k) y (record { from = b.from; within = b.within; other = λ c rest e h. n (sign-is b e ∙ h); is = b.is });
      }

      pub part-next : {j : ℕ} → Blanks line (i + 1) j → PartTold line at close (Ok j)
      part-next {j} d = record {
        closed = λ e z. absurd (let y : ◌≡◌ {A = ℕ} 0 1 = cc in omega arith);
        next =
            λ k z.
            let y : j ≡ k = cc in
            subst (λ (k : ℕ). NextAt line at close k) y
            (record { from = omega (arith, b.from, d.from); within = d.within; other = λ c rest e h. n (sign-is b e ∙ h); is = λ c rest e. d.is ∙ ap blanks (sym (sign-left b e)) });
      }

-- ---- where the bracket closes

-- past it, what is left stands
pub closed-behind : {line : List ℕ} {at close e : ℕ} → ClosedAt line at close e → Behind line at e
closed-behind {line} {at} {close} {e} k = record { from = k.from; within = k.within; is = λ c rest z. let y = sym z ∙ k.is in cc }

-- how much of a line a part and what follows it may take
unfoldable pub ahead : List ℕ → Result ℕ ℕ → ℕ
ahead line (Err e) = 0
ahead line (Ok i) = suc (length line - i)

pub ahead-less : (line : List ℕ) {close i e : ℕ} {x y : Result ℕ ℕ} → y ≡ Ok i → PartTold line e close x → i ≤ e → ahead line x < ahead line y
unfolding ahead
ahead-less line {x = Err k} z b h = rw z (omega arith)
ahead-less line {i = i} {x = Ok j} z b h = let c = b.next j refl in rw z (omega (arith, c.from, c.within))

-- ---- where a good part ends, told by its reader

pub good-end : {A : Type 0} {line : List ℕ} {at e : ℕ} {x : Result ℕ Bad} {m : Read A} → Good line at m → Told line at x m → e ≡ result_unwrap_or x at → Ends line at e m
good-end {at = at} {x = Ok k} g t q = let s = t.stands k refl in rw q (record { from = s.from; within = s.within; is = λ what rest f. let z = s.is in cc })
good-end {at = at} {x = Err b} g t q = absurd (never (sym (t.faulty b refl).is ∙ g.is))
