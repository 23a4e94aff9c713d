-- The characters of a string, one after another
use Rattle.std.specs.Prelude.{Result, Ok, Err}
use mathlib.Core.Path.{◌≡◌, refl, sym, ap, ◌∙◌}
use mathlib.Core.Bool.{Bool, true, false, not}
use mathlib.Core.List.{List, [], ◌∷◌, ◌++◌}
use Prim.Native.Nat.{ℕ, suc, ◌+◌, ◌-◌, ◌<◌, ◌≤◌}
use native.Mathlib.Omega.{arith}
use lib.Dec.{eqb, ltb}
use lib.ListN.{length, drop, get_or, length-drop, drop_of_length-le}
use borrow.Author.Tests.{eq-eqb, ne_eqb, lt-ltb, le-ltb, not-true, not-false}
use Rattle.meaning.specs.Tests.{◌and◌, choose}
use Rattle.laws.specs.Tests.{yes, no as otherwise}
use Rattle.meaning.specs.Text.{next, ended}
use Rattle.meaning.specs.declared.Due.{Due}
use Rattle.meaning.specs.declared.Due.TheVariants.{Nothing, One, Two, Three, AfterE0, AfterEd, AfterF0, AfterF4, Wrong as Never}
use Rattle.jsontext.specs.declared.Fault.TheVariants.{NotJson}
use Rattle.jsontext.specs.declared.Bad.{Bad}
use Rattle.jsontext.specs.Reading.{Read, got, then, no, mapped, want, wrong}
use Rattle.jsontext.specs.Strings.{utf8_of, escape, is_wrong, chars, string}
use Rattle.jsonread.specs.declared.strings.Mark.{Mark}
use Rattle.jsonread.specs.declared.strings.Mark.TheVariants.{Quote, Backslash, Control, Byte}
use Rattle.jsonread.specs.Told.{Told, CharTold, mark_of}
use Rattle.jsonread.proofs.Places.{byte_at, no-here, told_at, told_bad, wrong-here, told_of, fault-then, then_is}

-- ---- what a byte of a string is

module _ (d : Due) (c : ℕ) {z : Bool} (q : z ≡ ended d) where
  pub mark-within : not z ≡ true → Byte ≡ mark_of d c
  unfolding mark_of choose ◌and◌
  mark-within n = let e : ended d ≡ false = sym q ∙ not-true z n in rw e

  module _ (n : not z ≡ false) where
    at·end : ended d ≡ true
    at·end = sym q ∙ not-false z n

    pub mark-quote : c ≡ 34 → Quote ≡ mark_of d c
    unfolding mark_of choose ◌and◌
    mark-quote e = rw (at·end, eq-eqb c 34 e)

    module _ (m : c ≡ 34 → ⊥) where
      pub mark_backslash : c ≡ 92 → Backslash ≡ mark_of d c
      unfolding mark_of choose ◌and◌
      mark_backslash e = rw (at·end, ne_eqb c 34 m, eq-eqb c 92 e)

      module _ (k : c ≡ 92 → ⊥) where
        pub mark-control : c < 32 → Control ≡ mark_of d c
        unfolding mark_of choose ◌and◌
        mark-control h = rw (at·end, ne_eqb c 34 m, ne_eqb c 92 k, lt-ltb c 32 h)

        pub mark-byte : 32 ≤ c → Byte ≡ mark_of d c
        unfolding mark_of choose ◌and◌
        mark-byte h = rw (at·end, ne_eqb c 34 m, ne_eqb c 92 k, le-ltb c 32 h)

-- ---- one turn

unfoldable turn : Mark → ℕ → Due → ℕ → List ℕ → Read (List ℕ)
turn Quote turns d c s = got [] s
turn Backslash turns d c s = then (escape s) (λ b rest. mapped (λ t. b ++ t) (chars turns Nothing rest))
turn Control turns d c s = no NotJson (c ∷ s)
turn Byte turns d c s = choose (is_wrong (next d c)) (no NotJson (c ∷ s)) (mapped (λ t. c ∷ t) (chars turns (next d c) s))

chars-turn : (turns : ℕ) (d : Due) (c : ℕ) (s : List ℕ) → chars (suc turns) d (c ∷ s) ≡ turn (mark_of d c) turns d c s
unfolding chars mark_of choose turn
chars-turn turns d c s =
    go (ended d and eqb c 34) (ended d and eqb c 92) (ended d and ltb c 32)
  where
    go : (q b l : Bool) → choose q (got [] s) (choose b (then (escape s) (λ b rest. mapped (λ t. b ++ t) (chars turns Nothing rest))) (choose l (no NotJson (c ∷ s)) (choose (is_wrong (next d c)) (no NotJson (c ∷ s)) (mapped (λ t. c ∷ t) (chars turns (next d c) s))))) ≡ turn (choose q Quote (choose b Backslash (choose l Control Byte))) turns d c s
    go true b l = refl
    go false true l = refl
    go false false true = refl
    go false false false = refl

-- a backslash counts only where no byte of a character is due
backslash_ends : (d : Due) (c : ℕ) → mark_of d c ≡ Backslash → d ≡ Nothing
unfolding mark_of ended ◌and◌ choose
backslash_ends Nothing c e = refl
backslash_ends One c e = cc
backslash_ends Two c e = cc
backslash_ends Three c e = cc
backslash_ends AfterE0 c e = cc
backslash_ends AfterEd c e = cc
backslash_ends AfterF0 c e = cc
backslash_ends AfterF4 c e = cc
backslash_ends Never c e = cc

-- ---- what is told from here on is told of the whole

abbrev pub whole : List ℕ → ℕ → Read (List ℕ)
whole line at = chars (suc (length (drop at line))) Nothing (drop at line)

pub record Reads (line : List ℕ) (at : ℕ) (d : Due) (i : ℕ) : Type 0 where
  pub from : at ≤ i
  pub within : i ≤ length line
  pub turns : ℕ
  pub enough : length line - i < turns
  pub goes : (r : Result ℕ Bad) → Told line i r (chars turns d (drop i line)) → Told line at r (whole line at)

pub chars-start : {line : List ℕ} {at : ℕ} → at ≤ length line → Reads line at Nothing at
chars-start {line} {at} h = record { from = omega arith; within = h; turns = suc (length (drop at line)); enough = omega (arith, length-drop at line); goes = λ r t. t }

chars-none : (turns : ℕ) (d : Due) → chars (suc turns) d [] ≡ no NotJson []
unfolding chars
chars-none turns d = refl

-- more bytes after some
pub told_more : {A B : Type 0} {line : List ℕ} {i : ℕ} {r : Result ℕ Bad} {m : Read A} (f : A → B) → Told line i r m → Told line i r (mapped f m)
told_more f t =
    record {
      stands = λ e q. let s = t.stands e q in record { what = f s.what; from = s.from; within = s.within; is = then_is (λ a rest. got (f a) rest) s.is };
      faulty = λ b q. fault-then (λ a rest. got (f a) rest) (t.faulty b q);
    }

module _ {line : List ℕ} {at i : ℕ} {d : Due} (g : Reads line at d i) where
  by-turns : chars g.turns d (drop i line) ≡ chars (suc (g.turns - 1)) d (drop i line)
  by-turns = let k : g.turns ≡ suc (g.turns - 1) = omega (arith, g.enough) in ap (λ (n : ℕ). chars n d (drop i line)) k

  pub chars-end : length line ≤ i → Told line at (Err (wrong NotJson i)) (whole line at)
  chars-end h = g.goes (Err (wrong NotJson i)) (wrong-here g.within (by-turns ∙ rw (drop_of_length-le line h) (chars-none (g.turns - 1) d)))

  module _ {k : Mark} (h : i < length line) (q : k ≡ mark_of d (get_or line i 0)) where
    here : chars g.turns d (drop i line) ≡ turn k (g.turns - 1) d (get_or line i 0) (drop (i + 1) line)
    here = by-turns ∙ ap (chars (suc (g.turns - 1)) d) (byte_at line i h) ∙ chars-turn (g.turns - 1) d (get_or line i 0) (drop (i + 1) line) ∙ ap (λ (k : Mark). turn k (g.turns - 1) d (get_or line i 0) (drop (i + 1) line)) (sym q)

    turned : {m : Mark} → k ≡ m → chars g.turns d (drop i line) ≡ turn m (g.turns - 1) d (get_or line i 0) (drop (i + 1) line)
    turned e = here ∙ ap (λ (k : Mark). turn k (g.turns - 1) d (get_or line i 0) (drop (i + 1) line)) e

    pub chars-quote : k ≡ Quote → Told line at (Ok (i + 1)) (whole line at)
    unfolding turn
    chars-quote e = g.goes (Ok (i + 1)) (told_at (record { what = []; from = omega arith; within = omega arith; is = turned e }))

    pub chars-control : k ≡ Control → Told line at (Err (wrong NotJson i)) (whole line at)
    unfolding turn
    chars-control e = g.goes (Err (wrong NotJson i)) (wrong-here g.within (turned e ∙ no-here NotJson line i h))

    module _ (e : k ≡ Backslash) {x : Result (ℕ × ℕ) Bad} (t : CharTold line (i + 1 + 1) x (escape (drop (i + 1) line))) where
      pub chars-escape_bad : {p : Bad} → x ≡ Err p → Told line at (Err p) (whole line at)
      unfolding turn
      chars-escape_bad {p} b = g.goes (Err p) (told_of {i = i} (omega arith) (turned e) (told_bad (fault-then (λ b rest. mapped (λ t. b ++ t) (chars (g.turns - 1) Nothing rest)) (t.missing _ b).faulty)))

      pub escape-less : {u j : ℕ} → x ≡ Ok (u, j) → length line - j < length line - i
      escape-less b = omega (arith, (t.found _ _ b).from)

      pub chars-escape : {u j : ℕ} → x ≡ Ok (u, j) → Reads line at d j
      unfolding turn
      chars-escape {u} {j} b =
          let s = t.found _ _ b in
          let n : d ≡ Nothing = backslash_ends d (get_or line i 0) (sym q ∙ e) in
          record {
            from = omega (arith, g.from, s.from);
            within = s.within;
            turns = g.turns - 1;
            enough = omega (arith, g.enough, s.from);
            goes =
                λ r v.
                g.goes r
                (told_of (omega (arith, s.from)) (turned e ∙ then_is (λ b rest. mapped (λ t. b ++ t) (chars (g.turns - 1) Nothing rest)) s.is)
                (told_more (λ t. utf8_of u ++ t) (rw n at v)));
          }

    module _ (e : k ≡ Byte) {f : Due} {z : Bool} (b : f ≡ next d (get_or line i 0)) (y : z ≡ is_wrong f) where
      wrongs : is_wrong (next d (get_or line i 0)) ≡ z
      wrongs = ap is_wrong (sym b) ∙ sym y

      pub chars-wrong : z ≡ true → Told line at (Err (wrong NotJson i)) (whole line at)
      unfolding turn
      chars-wrong v = g.goes (Err (wrong NotJson i)) (wrong-here g.within (turned e ∙ yes _ (wrongs ∙ v) ∙ no-here NotJson line i h))

      pub chars-byte : z ≡ false → Reads line at f (i + 1)
      unfolding turn
      chars-byte v =
          record {
            from = omega (arith, g.from);
            within = omega arith;
            turns = g.turns - 1;
            enough = omega (arith, g.enough);
            goes =
                λ r u.
                g.goes r
                (told_of (omega arith) (turned e ∙ otherwise _ (wrongs ∙ v) refl)
                (told_more (λ t. get_or line i 0 ∷ t) (rw b at u)));
          }

-- ---- a string

module _ {line : List ℕ} {at : ℕ} {x : Result ℕ Bad} (t : Told line at x (want 34 (drop at line))) where
  pub string-none : {b : Bad} → x ≡ Err b → Told line at (Err b) (string (drop at line))
  unfolding string
  string-none e = told_bad (fault-then (λ q rest. chars (suc (length rest)) Nothing rest) (t.faulty _ e))

  pub string-chars : {i : ℕ} {r : Result ℕ Bad} → x ≡ Ok i → Told line i r (whole line i) → Told line at r (string (drop at line))
  unfolding string
  string-chars e u = told_of (t.stands _ e).from (then_is (λ q rest. chars (suc (length rest)) Nothing rest) (t.stands _ e).is) u
