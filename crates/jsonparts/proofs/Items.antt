-- Items, one after another
use Rattle.std.specs.Prelude.{Result, Ok, Err}
use mathlib.Core.Path.{◌≡◌, refl, sym, ap, ◌∙◌}
use mathlib.Core.List.{List, [], ◌∷◌}
use Prim.Native.Nat.{ℕ, suc, ◌+◌, ◌-◌, ◌<◌, ◌≤◌}
use native.Mathlib.Omega.{arith}
use lib.Dec.{eqb}
use lib.ListN.{length, drop, get_or, length-drop, drop_of_length-le}
use borrow.Author.Tests.{eq-eqb, ne_eqb}
use Rattle.meaning.specs.Tests.{choose}
use Rattle.laws.specs.Tests.{yes, no as otherwise}
use Rattle.jsontext.specs.declared.Fault.{Fault}
use Rattle.jsontext.specs.declared.Fault.TheVariants.{NotJson, BadField}
use Rattle.jsontext.specs.declared.Bad.{Bad}
use Rattle.jsontext.specs.Reading.{Read, got, then, no, mapped, blanks, want, wrong}
use Rattle.jsontext.specs.Values.{begins, text, after_part, items, unless_empty, array}
use Rattle.jsontext.specs.Events.{listed}
use Rattle.jsonread.specs.Told.{Told, Blanks}
use Rattle.jsonread.proofs.Places.{byte_at, told_at, told_bad, wrong-here, told_of, fault-then, then_is}
use Rattle.jsonread.proofs.Chars.{told_more}
use Rattle.jsonread.proofs.Firsts.{due-end, due-there, due-not}

-- what is told from here on is told of the whole

module _ {A : Type 0} (item : List ℕ → Read A) where
  pub record Listing (line : List ℕ) (at i : ℕ) : Type 0 where
    pub from : at ≤ i
    pub within : i ≤ length line
    pub turns : ℕ
    pub enough : length line - i < turns
    pub goes : (r : Result ℕ Bad) → Told line i r (items item turns (drop i line)) → Told line at r (array item (drop at line))

  array-is : (s t : List ℕ) → t ≡ blanks s → array item s ≡ unless_empty 93 (λ t. items item (suc (length t)) t) t
  unfolding array
  array-is s t e = ap (unless_empty 93 (λ t. items item (suc (length t)) t)) (sym e)

  module _ {line : List ℕ} {at i : ℕ} (b : Blanks line at i) where
    pub array-cut : length line ≤ i → Told line at (Err (wrong NotJson i)) (array item (drop at line))
    unfolding unless_empty
    array-cut h = wrong-here b.within (array-is (drop at line) (drop i line) b.is ∙ rw (drop_of_length-le line h))

    module _ (h : i < length line) where
      array-byte : array item (drop at line) ≡ choose (eqb (get_or line i 0) 93) (got [] (drop (i + 1) line)) (items item (suc (length (drop i line))) (drop i line))
      unfolding unless_empty
      array-byte = array-is (drop at line) (drop i line) b.is ∙ rw (byte_at line i h)

      pub array-empty : get_or line i 0 ≡ 93 → Told line at (Ok (i + 1)) (array item (drop at line))
      array-empty e = told_at (record { what = []; from = omega (arith, b.from); within = omega arith; is = array-byte ∙ yes _ (eq-eqb _ _ e) })

      pub array-start : (get_or line i 0 ≡ 93 → ⊥) → Listing line at i
      array-start n =
          record {
            from = b.from;
            within = b.within;
            turns = suc (length (drop i line));
            enough = omega (arith, length-drop i line);
            goes = λ r t. told_of b.from (array-byte ∙ otherwise _ (ne_eqb _ _ n) refl) t;
          }

  items-turn : (turns : ℕ) (s : List ℕ) → items item (suc turns) s ≡ then (item s) (λ a rest. after_part 93 a (λ t. items item turns t) (blanks rest))
  unfolding items
  items-turn turns s = refl

  module _ {line : List ℕ} {at i : ℕ} {x : Result ℕ Bad} (g : Listing line at i) (t : Told line i x (item (drop i line))) where
    turned : items item g.turns (drop i line) ≡ then (item (drop i line)) (λ a rest. after_part 93 a (λ t. items item (g.turns - 1) t) (blanks rest))
    turned = let k : g.turns ≡ suc (g.turns - 1) = omega (arith, g.enough) in ap (λ (n : ℕ). items item n (drop i line)) k ∙ items-turn (g.turns - 1) (drop i line)

    pub item_bad : {b : Bad} → x ≡ Err b → Told line at (Err b) (array item (drop at line))
    item_bad {b} e = g.goes (Err b) (told_of {i = i} (omega arith) turned (told_bad (fault-then (λ a rest. after_part 93 a (λ t. items item (g.turns - 1) t) (blanks rest)) (t.faulty _ e))))

    module _ {e k : ℕ} (q : x ≡ Ok e) (b : Blanks line e k) where
      read : items item g.turns (drop i line) ≡ after_part 93 (t.stands _ q).what (λ t. items item (g.turns - 1) t) (drop k line)
      read = turned ∙ then_is (λ a rest. after_part 93 a (λ t. items item (g.turns - 1) t) (blanks rest)) (t.stands _ q).is ∙ ap (after_part 93 (t.stands _ q).what (λ t. items item (g.turns - 1) t)) (sym b.is)

      pub item-cut : length line ≤ k → Told line at (Err (wrong NotJson k)) (array item (drop at line))
      unfolding after_part
      item-cut h = g.goes (Err (wrong NotJson k)) (wrong-here b.within (read ∙ rw (drop_of_length-le line h)))

      module _ (h : k < length line) where
        pub item-less : {j : ℕ} → Blanks line (k + 1) j → length line - j < length line - i
        item-less c = omega (arith, (t.stands _ q).from, b.from, c.from)

        after-byte : items item g.turns (drop i line) ≡ choose (eqb (get_or line k 0) 93) (got ((t.stands _ q).what ∷ []) (drop (k + 1) line)) (choose (eqb (get_or line k 0) 44) (mapped (λ others. (t.stands _ q).what ∷ others) (items item (g.turns - 1) (blanks (drop (k + 1) line)))) (no NotJson (drop k line)))
        unfolding after_part
        after-byte = read ∙ rw (byte_at line k h)

        pub item-last : get_or line k 0 ≡ 93 → Told line at (Ok (k + 1)) (array item (drop at line))
        item-last d = g.goes (Ok (k + 1)) (told_at (record { what = (t.stands _ q).what ∷ []; from = omega (arith, (t.stands _ q).from, b.from); within = omega arith; is = after-byte ∙ yes _ (eq-eqb _ _ d) }))

        module _ (n : get_or line k 0 ≡ 93 → ⊥) where
          pub item-other : (get_or line k 0 ≡ 44 → ⊥) → Told line at (Err (wrong NotJson k)) (array item (drop at line))
          item-other m = g.goes (Err (wrong NotJson k)) (wrong-here b.within (after-byte ∙ otherwise _ (ne_eqb _ _ n) (otherwise _ (ne_eqb _ _ m) refl)))

          pub item-more : {j : ℕ} → get_or line k 0 ≡ 44 → Blanks line (k + 1) j → Listing line at j
          item-more {j} m c =
              record {
                from = omega (arith, g.from, (t.stands _ q).from, b.from, c.from);
                within = c.within;
                turns = g.turns - 1;
                enough = omega (arith, g.enough, (t.stands _ q).from, b.from, c.from);
                goes =
                    λ r u.
                    g.goes r
                    (told_of (omega (arith, (t.stands _ q).from, b.from, c.from)) (after-byte ∙ otherwise _ (ne_eqb _ _ n) (yes _ (eq-eqb _ _ m)) ∙ ap (λ (s : List ℕ). mapped (λ others. (t.stands _ q).what ∷ others) (items item (g.turns - 1) s)) (sym c.is))
                    (told_more (λ others. (t.stands _ q).what ∷ others) u));
              }

-- ---- a list of strings, and nothing else

wanted : (line : List ℕ) (at : ℕ) → at < length line → get_or line at 0 ≡ 91 → want 91 (drop at line) ≡ got (get_or line at 0) (drop (at + 1) line)
unfolding want
wanted line at h e = rw (byte_at line at h) (yes _ (eq-eqb _ _ e))

abbrev inside : List ℕ → Read (List (List ℕ))
inside t = then (want 91 t) (λ bracket rest. array text rest)

module _ (line : List ℕ) (at : ℕ) where
  pub namespace-end : at ≤ length line → length line ≤ at → Told line at (Err (wrong NotJson at)) (listed (array text) (drop at line))
  namespace-end h l = due-end BadField (λ c. eqb c 91) inside line at h l

  module _ (h : at < length line) where
    pub namespace-not : {f : Fault} → (get_or line at 0 ≡ 91 → ⊥) → f ≡ choose (begins (get_or line at 0)) BadField NotJson → Told line at (Err (wrong f at)) (listed (array text) (drop at line))
    namespace-not n q = due-not BadField 91 inside line at h n q

    pub namespace-there : {r : Result ℕ Bad} → get_or line at 0 ≡ 91 → Told line (at + 1) r (array text (drop (at + 1) line)) → Told line at r (listed (array text) (drop at line))
    namespace-there e t = due-there BadField 91 inside line at h e (told_of (omega arith) (then_is (λ bracket rest. array text rest) (wanted line at h e)) t)
