-- Strings of a namespace, counted one after another
use mathlib.Core.Path.{◌≡◌, refl, ap, ◌∙◌}
use mathlib.Core.List.{List, [], ◌∷◌}
use Prim.Native.Nat.{ℕ, ◌<◌}
use lib.ListN.{length, drop}
use Rattle.std.specs.Prelude.{Result, Ok, Err}
use Rattle.jsontext.specs.Reading.{got}
use Rattle.jsontext.specs.Strings.{string}
use Rattle.jsontext.specs.Values.{text, array}
use Rattle.jsontrace.specs.Count.{Count, nothing, ◌⊞◌, a_string, list_words, counted_strings}
use Rattle.jsonruns.specs.Good.{Good, Signed, BeginTold, PartTold}
use Rattle.jsonruns.proofs.Signs.{ahead}
use Rattle.jsonruns.specs.Run.{Item, Listed}
use Rattle.jsonruns.proofs.Runs.{turn, text-string, array-listed}
use Rattle.jsoncount.specs.declared.tallies.Tally.{Tally}
use Rattle.jsoncount.specs.Tally.{Adds, sizes, CountedTo}
use Rattle.jsoncount.specs.Sizes.{text_size, texts_size}
use Rattle.jsoncount.proofs.Sums.{sum-swap, words_more, adds_then}
use Rattle.jsoncount.proofs.Looping.{Turning, PartTo, loop_signed, loop_begun, part-signed, loop_again, loop_less, loop_told, counted-as}

sizes-texts : (ts : List (List ℕ)) → sizes text_size ts ≡ texts_size ts
unfolding sizes text_size counted_strings
sizes-texts [] = unfold nothing list_words ◌⊞◌ in refl
sizes-texts (t ∷ ts) =
    ap (λ (c : Count). text_size t ⊞ c) (sizes-texts ts)
    ∙ sum-swap (a_string t) (list_words 1) (counted_strings ts) (list_words (length ts))
    ∙ ap (λ (c : Count). (a_string t ⊞ counted_strings ts) ⊞ c) (words_more (length ts))

abbrev pub Texts : List ℕ → ℕ → Tally → Tally → Result ℕ ℕ → Type 0
Texts line at t tally part = Turning 93 (Item text) text_size line at t (array text (drop at line)) tally part

module _ (line : List ℕ) (at : ℕ) where
  listed : (what : List (List ℕ)) (rest : List ℕ) → array text (drop at line) ≡ got what rest → Listed 93 (Item text) (drop at line) what rest
  listed what rest e = array-listed text (drop at line) e

module _ {line : List ℕ} {at : ℕ} (g : Good line at (array text (drop at line))) where
  pub texts-signed : Signed line at
  texts-signed = loop_signed 93 (Item text) text_size (listed line at) g

  pub texts-begun : {t : Tally} {x : Result ℕ ℕ} → BeginTold line at 93 x → Texts line at t t x
  texts-begun b = loop_begun 93 (Item text) text_size (listed line at) g b

module _ {line : List ℕ} {at i : ℕ} {t tally : Tally} {y : Result ℕ ℕ} (g : Texts line at t tally y) (z : y ≡ Ok i) where
  pub texts-good : Good line i (string (drop i line))
  texts-good = let k = g.next i z in let n = turn 93 (Item text) k.run in record { what = n.what; rest = n.after; within = k.within; is = text-string (drop i line) n.part }

  module _ {q u : Tally} {e : ℕ} (p : CountedTo line i tally q e (string (drop i line)) a_string) (l : Adds q (list_words 1) u) where
    one : PartTo 93 (Item text) text_size line i tally e u
    unfolding text_size
    one = record {
      from = p.from;
      within = p.within;
      is = λ a t e. p.is a t (text-string (drop i line) e);
      adds = λ a t e. adds_then (p.adds a t (text-string (drop i line) e)) l;
    }

    pub texts-after : Signed line e
    texts-after = part-signed 93 (Item text) text_size (g.next i z) one

    module _ {x : Result ℕ ℕ} (b : PartTold line e 93 x) where
      pub texts-again : Texts line at t u x
      texts-again = loop_again 93 (Item text) text_size (g.next i z) one b

      pub texts-less : ahead line x < ahead line y
      texts-less = loop_less 93 (Item text) text_size (g.next i z) one b z

pub texts-told : {line : List ℕ} {at k : ℕ} {t tally : Tally} {x : Result ℕ ℕ} → Texts line at t tally x → x ≡ Err k → CountedTo line at t tally k (array text (drop at line)) texts_size
texts-told g z = counted-as sizes-texts (loop_told 93 (Item text) text_size g z)
