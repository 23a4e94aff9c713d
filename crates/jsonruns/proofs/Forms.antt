-- A form, from its brace on
use mathlib.Core.Path.{◌≡◌, refl, sym, ap, ◌∙◌}
use mathlib.Core.Bool.{Bool, true, false}
use mathlib.Core.List.{List, ◌∷◌}
use Prim.Native.Nat.{ℕ, ◌+◌, ◌<◌, ◌≤◌}
use native.Mathlib.Omega.{arith}
use lib.Dec.{eqb}
use lib.ListN.{length, drop, length-drop}
use Rattle.jsontext.specs.declared.Fault.TheVariants.{BadField}
use Rattle.jsontext.specs.Reading.{Read, got, then, blanks, want}
use Rattle.jsontext.specs.Strings.{string}
use Rattle.jsontext.specs.Values.{J, due, only, entity, extension}
use Rattle.jsonread.specs.Told.{Blanks}
use Rattle.jsonread.proofs.Places.{byte_at}
use Rattle.jsonruns.specs.declared.Two.{Two}
use Rattle.jsonruns.specs.Good.{Good, Ends, Signed, Past, Behind}
use Rattle.jsonruns.specs.Forms.{form_read, first_name, second_name, one_of, under, form_of, pair_read, TwoTold}
use Rattle.jsonruns.proofs.Runs.{then_of, due_of, wanted}

-- its name, its colon, the inner brace, the two members, the outer brace
record Formed (x : Bool) (s : List ℕ) (j : J) (rest : List ℕ) : Type 0 where
  name : List ℕ
  after : List ℕ
  inner : List ℕ
  pair : List ℕ
  left : List ℕ
  named : string (blanks s) ≡ got name after
  colon : blanks after ≡ 58 ∷ inner
  brace : blanks inner ≡ 123 ∷ pair
  two : pair_read x pair ≡ got j left
  close : blanks left ≡ 125 ∷ rest

only_of : (x : Bool) (inside : List ℕ → Read J) → ((s : List ℕ) → inside s ≡ then (want 123 s) (λ brace rest. pair_read x rest)) → (s : List ℕ) {j : J} {rest : List ℕ} → only inside s ≡ got j rest → Formed x s j rest
unfolding only
only_of x inside h s e =
    let n = then_of (string (blanks s)) e in
    let c = then_of (want 58 (blanks n.left)) n.next in
    let i = then_of (due BadField (λ c. eqb c 123) inside (blanks c.left)) c.next in
    let b = then_of (want 125 (blanks i.left)) i.next in
    let d = then_of (want 123 (blanks c.left)) (sym (h (blanks c.left)) ∙ due_of BadField (λ c. eqb c 123) inside (blanks c.left) i.is) in
    record {
      name = n.what;
      after = n.left;
      inner = c.left;
      pair = d.left;
      left = i.left;
      named = n.is;
      colon = (wanted 58 (blanks n.left) c.is).is;
      brace = (wanted 123 (blanks c.left) d.is).is;
      two = d.next ∙ cc b.next;
      close = (wanted 125 (blanks i.left) b.is).is ∙ cc b.next;
    }

formed : (x : Bool) (s : List ℕ) {j : J} {rest : List ℕ} → form_read x s ≡ got j rest → Formed x s j rest
unfolding form_read
formed false s e = only_of false entity (λ s. unfold entity pair_read one_of first_name second_name under form_of in refl) s e
formed true s e = only_of true extension (λ s. unfold extension pair_read one_of first_name second_name under form_of in refl) s e

module _ (x : Bool) {line : List ℕ} {at i : ℕ} (g : Good line at (form_read x (drop at line))) (b : Blanks line at i) where
  it : Formed x (drop at line) g.what g.rest
  it = formed x (drop at line) g.is

  pub form-name : Good line i (string (drop i line))
  form-name = record { what = it.name; rest = it.after; within = b.within; is = ap string b.is ∙ it.named }

  module _ {e : ℕ} (p : Ends line i e (string (drop i line))) where
    after-name : {j : J} {rest : List ℕ} (f : Formed x (drop at line) j rest) → f.after ≡ drop e line
    after-name f = p.is f.name f.after (ap string b.is ∙ f.named)

    pub form-colon : Signed line e
    form-colon = record { within = p.within; sign = 58; rest = it.inner; is = ap blanks (sym (after-name it)) ∙ it.colon }

    module _ {w : ℕ} (v : Past line e w) where
      at-brace : {j : J} {rest : List ℕ} (f : Formed x (drop at line) j rest) → drop w line ≡ 123 ∷ f.pair
      at-brace f = v.is 58 f.inner (ap blanks (sym (after-name f)) ∙ f.colon) ∙ f.brace

      brace-below : w < length line
      brace-below = omega (arith, length-drop w line, ap length (at-brace it))

      pub form-brace : w + 1 ≤ length line
      form-brace = omega (arith, brace-below)

      at_pair : {j : J} {rest : List ℕ} (f : Formed x (drop at line) j rest) → drop (w + 1) line ≡ f.pair
      at_pair f = let z = byte_at line w brace-below in cc (at-brace f)

      pub form-pair : Good line (w + 1) (pair_read x (drop (w + 1) line))
      form-pair = record { what = g.what; rest = it.left; within = form-brace; is = ap (pair_read x) (at_pair it) ∙ it.two }

      module _ {t : Two} (o : TwoTold line (w + 1) x t (pair_read x (drop (w + 1) line))) where
        pairs : {j : J} {rest : List ℕ} (f : Formed x (drop at line) j rest) → pair_read x (drop (w + 1) line) ≡ got j f.left
        pairs f = ap (pair_read x) (at_pair f) ∙ f.two

        close-here : {j : J} {rest : List ℕ} (f : Formed x (drop at line) j rest) → blanks (drop t.end line) ≡ 125 ∷ rest
        close-here {j} f = ap blanks (sym (o.is j f.left (pairs f))) ∙ f.close

        pub form-past : Signed line t.end
        form-past = record { within = o.within; sign = 125; rest = g.rest; is = close-here it }

        pub form-told : {k : ℕ} → Behind line t.end k → TwoTold line at x (record { first = t.first; second = t.second; end = k }) (form_read x (drop at line))
        form-told {k} d = record {
          from = omega (arith, b.from, p.from, v.from, o.from, d.from);
          within = d.within;
          is = λ j rest e. d.is 125 rest (close-here (formed x (drop at line) e));
          two =
              λ j rest e.
              let y = o.two j _ (pairs (formed x (drop at line) e)) in
              record { one = y.one; other = y.other; is = y.is; first = y.first; second = y.second };
        }
