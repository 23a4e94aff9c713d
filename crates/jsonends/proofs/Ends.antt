-- From place to place of a line, up to the bracket that closes
use mathlib.Core.Path.{◌≡◌, refl, sym, ap, subst, ◌∙◌}
use mathlib.Core.Bool.{Bool, true, false}
use mathlib.Core.List.{List, ◌∷◌}
use Prim.Native.Nat.{ℕ, suc, ◌+◌, ◌-◌, ◌^◌, ◌<◌, ◌≤◌}
use native.Mathlib.Omega.{arith}
use native.Mathlib.Numerals.{add-one}
use lib.ListN.{length, drop, get_or, length-drop}
use borrow.Author.Tests.{ne_eqb}
use Rattle.std.proofs.Common.{◌⊎◌, inl, inr}
use Rattle.meaning.specs.Tests.{◌or◌, choose}
use Rattle.laws.specs.Tests.{yes, no as otherwise}
use Rattle.jsontext.specs.Reading.{got}
use Rattle.jsontext.specs.Strings.{string}
use Rattle.jsontext.specs.Values.{J, value}
use Rattle.jsonread.proofs.Places.{byte_at}
use Rattle.jsonread.proofs.Takes.{string-takes}
use Rattle.jsonparts.specs.Flat.{scalar}
use Rattle.jsonruns.specs.Good.{Good, Ends}
use Rattle.jsonends.specs.Nest.{opens, closes, stepped, Nest, Opened, Shut}
use Rattle.jsonends.proofs.Nests.{Said, value_there, value-text, value-closes, value-scalar, nest-there, nest-byte, nest-quote, nest-done}

-- ---- a byte outside strings

module _ (c depth : ℕ) where
  pub step-none : ((c ≡ 91) ⊎ (c ≡ 123) → ⊥) → ((c ≡ 93) ⊎ (c ≡ 125) → ⊥) → depth ≡ stepped c depth
  unfolding stepped opens closes ◌or◌
  step-none h k =
      let p : c ≡ 91 → ⊥ = λ e. h (inl e) in
      let r : c ≡ 123 → ⊥ = λ e. h (inr e) in
      let q : c ≡ 93 → ⊥ = λ e. k (inl e) in
      let s : c ≡ 125 → ⊥ = λ e. k (inr e) in
      sym (otherwise _ (rw (ne_eqb c 91 p, ne_eqb c 123 r) refl) (otherwise _ (rw (ne_eqb c 93 q, ne_eqb c 125 s) refl) refl))

  more : opens c ≡ true → depth + 1 ≡ stepped c depth
  more o = let y : stepped c depth ≡ suc depth = unfold stepped in yes _ o in add-one depth ∙ sym y

  less : opens c ≡ false → closes c ≡ true → depth - 1 ≡ stepped c depth
  less o k = unfold stepped in sym (otherwise _ o (yes _ k))

  pub step-opens : (c ≡ 91) ⊎ (c ≡ 123) → depth + 1 ≡ stepped c depth
  step-opens (inl e) = more (unfold opens ◌or◌ in rw e refl)
  step-opens (inr e) = more (unfold opens ◌or◌ in rw e refl)

  pub step-closes : (c ≡ 93) ⊎ (c ≡ 125) → depth - 1 ≡ stepped c depth
  step-closes (inl e) = less (unfold opens ◌or◌ in rw e refl) (unfold closes ◌or◌ in rw e refl)
  step-closes (inr e) = less (unfold opens ◌or◌ in rw e refl) (unfold closes ◌or◌ in rw e refl)

step-most : (c depth : ℕ) → stepped c depth ≤ depth + 1
unfolding stepped choose
step-most c depth = go (opens c) (closes c)
  where
    go : (x y : Bool) → choose x (suc depth) (choose y (depth - 1) depth) ≤ depth + 1
    go true y = omega arith
    go false true = omega arith
    go false false = omega arith

-- ---- byte by byte, string by string

-- so many are open at i, of those that are open since `at`
pub record Nesting (line : List ℕ) (at depth i : ℕ) : Type 0 where
  pub from : at ≤ i
  pub within : i ≤ length line
  pub few : depth ≤ i + 1
  pub rest : List ℕ
  pub nest : Nest rest depth (drop i line)
  pub every : (left : List ℕ) → Nest left 1 (drop at line) → Nest left depth (drop i line)

pub nest-start : {line : List ℕ} {at : ℕ} → Opened line at → Nesting line at 1 at
nest-start o = record { from = omega arith; within = o.within; few = omega arith; rest = o.rest; nest = o.nest; every = λ left n. n }

module _ {line : List ℕ} {at depth i : ℕ} (g : Nesting line at depth i) where
  pub nest-shut : depth ≤ 0 → Shut line at i
  nest-shut h =
      let z : depth ≡ 0 = omega (arith, h) in
      record { from = g.from; within = g.within; is = λ rest n. nest-done (subst (λ (k : ℕ). Nest rest k (drop i line)) z (g.every rest n)) }

  module _ (h : 0 < depth) where
    pub nest-below : i < length line
    nest-below = omega (arith, length-drop i line, nest-there h g.nest)

    here : {left : List ℕ} → Nest left depth (drop i line) → Nest left depth (get_or line i 0 ∷ drop (i + 1) line)
    here {left} n = subst (λ (s : List ℕ). Nest left depth s) (byte_at line i nest-below) n

    pub nest_closer : length line - (i + 1) < length line - i
    nest_closer = omega (arith, nest-below)

    pub nest-room : length line < 2 ^ 63 → depth ≤ 2 ^ 63
    nest-room b = omega (arith, g.few, nest-below, b)

    module _ (m : get_or line i 0 ≡ 34 → ⊥) where
      pub nest-onward : {d : ℕ} → d ≡ stepped (get_or line i 0) depth → Nesting line at d (i + 1)
      nest-onward {d} q = record {
        from = omega (arith, g.from);
        within = omega (arith, nest-below);
        few = omega (arith, q, step-most (get_or line i 0) depth, g.few);
        rest = g.rest;
        nest = go g.nest;
        every = λ left n. go (g.every left n);
      }
        where
          go : {left : List ℕ} → Nest left depth (drop i line) → Nest left d (drop (i + 1) line)
          go {left} n = subst (λ (k : ℕ). Nest left k (drop (i + 1) line)) (sym q) (nest-byte (get_or line i 0) h m (here n))

    module _ (m : get_or line i 0 ≡ 34) where
      pub nest-string : Good line i (string (drop i line))
      nest-string = let q = nest-quote (get_or line i 0) h m (here g.nest) in record { what = q.text; rest = q.after; within = g.within; is = ap string (byte_at line i nest-below) ∙ q.is }

      pub nest-less : {e : ℕ} → Ends line i e (string (drop i line)) → length line - e < length line - i
      nest-less {e} p =
          let q = nest-string in
          let k = string-takes line i e (q.is ∙ ap (λ (s : List ℕ). got q.what s) (p.is q.what q.rest q.is)) in
          omega (arith, k, nest-below)

      pub nest-past : {e : ℕ} → Ends line i e (string (drop i line)) → Nesting line at depth e
      nest-past {e} p = record {
        from = omega (arith, g.from, p.from);
        within = p.within;
        few = omega (arith, g.few, p.from);
        rest = g.rest;
        nest = go g.nest;
        every = λ left n. go (g.every left n);
      }
        where
          go : {left : List ℕ} → Nest left depth (drop i line) → Nest left depth (drop e line)
          go {left} n =
              let q = nest-quote (get_or line i 0) h m (here n) in
              subst (λ (s : List ℕ). Nest left depth s) (p.is q.text q.after (ap string (byte_at line i nest-below) ∙ q.is)) q.nest

-- ---- a value

module _ (levels : ℕ) {line : List ℕ} {at : ℕ} (g : Good line at (value levels (drop at line))) where
  pub value-below : at < length line
  value-below = omega (arith, length-drop at line, value_there levels (drop at line) g.is)

  read : {j : J} {rest : List ℕ} → value levels (drop at line) ≡ got j rest → value levels (get_or line at 0 ∷ drop (at + 1) line) ≡ got j rest
  read e = ap (value levels) (sym (byte_at line at value-below)) ∙ e

  opened : opens (get_or line at 0) ≡ true → Opened line (at + 1)
  opened o = record { rest = g.rest; within = omega (arith, value-below); nest = value-closes levels (get_or line at 0) (drop (at + 1) line) o (read g.is) }

  shut : {e : ℕ} → opens (get_or line at 0) ≡ true → Shut line (at + 1) e → Ends line at e (value levels (drop at line))
  shut o p = record { from = omega (arith, p.from); within = p.within; is = λ what rest f. p.is rest (value-closes levels (get_or line at 0) (drop (at + 1) line) o (read f)) }

  module _ (q : get_or line at 0 ≡ 34) where
    said : {j : J} {rest : List ℕ} → value levels (drop at line) ≡ got j rest → Said (drop at line) rest
    said e = let k = value-text levels (get_or line at 0) (drop (at + 1) line) q (read e) in record { text = k.text; is = ap string (byte_at line at value-below) ∙ k.is }

    pub text-good : Good line at (string (drop at line))
    text-good = let k = said g.is in record { what = k.text; rest = g.rest; within = g.within; is = k.is }

    pub text-ends : {e : ℕ} → Ends line at e (string (drop at line)) → Ends line at e (value levels (drop at line))
    text-ends p = record { from = p.from; within = p.within; is = λ what rest f. let k = said f in p.is k.text rest k.is }

  module _ (q : (get_or line at 0 ≡ 91) ⊎ (get_or line at 0 ≡ 123)) where
    is-open : opens (get_or line at 0) ≡ true
    is-open = go q
      where
        go : (get_or line at 0 ≡ 91) ⊎ (get_or line at 0 ≡ 123) → opens (get_or line at 0) ≡ true
        go (inl e) = unfold opens ◌or◌ in rw e refl
        go (inr e) = unfold opens ◌or◌ in rw e refl

    pub bracket-opened : Opened line (at + 1)
    bracket-opened = opened is-open

    pub bracket-shut : {e : ℕ} → Shut line (at + 1) e → Ends line at e (value levels (drop at line))
    bracket-shut p = shut is-open p

  module _ (n : (get_or line at 0 ≡ 91) ⊎ (get_or line at 0 ≡ 123) → ⊥) where
    closed : opens (get_or line at 0) ≡ false
    closed = unfold opens ◌or◌ in rw (ne_eqb _ 91 (λ e. n (inl e)), ne_eqb _ 123 (λ e. n (inr e))) refl

    flat : {j : J} {rest : List ℕ} → value levels (drop at line) ≡ got j rest → scalar (drop at line) ≡ got j rest
    flat e = ap scalar (byte_at line at value-below) ∙ value-scalar levels (get_or line at 0) (drop (at + 1) line) closed (read e)

    pub flat_good : Good line at (scalar (drop at line))
    flat_good = record { what = g.what; rest = g.rest; within = g.within; is = flat g.is }

    pub flat-ends : {e : ℕ} → Ends line at e (scalar (drop at line)) → Ends line at e (value levels (drop at line))
    flat-ends p = record { from = p.from; within = p.within; is = λ what rest f. p.is what rest (flat f) }
