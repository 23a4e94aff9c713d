-- A line, where it ends, and the lines of a text
use Rattle.std.specs.Prelude.{Result, Ok, Err, Result, Ok, Err}
use mathlib.Core.Path.{◌≡◌, refl, sym, ap, subst, ◌∙◌}
use mathlib.Core.Bool.{Bool, true, false}
use mathlib.Core.List.{List, [], ◌∷◌}
use Prim.Native.Nat.{ℕ, suc, ◌+◌, ◌*◌, ◌-◌, ◌<◌, ◌≤◌}
use native.Mathlib.Omega.{arith}
use lib.Dec.{eqb}
use lib.ListN.{length, drop, take, get_or, length-drop, drop_of_length-le}
use lib.Seq.{length-take-le, drop-drop}
use borrow.Author.Tests.{eq-eqb, ne_eqb}
use Rattle.meaning.specs.Tests.{choose}
use Rattle.laws.specs.Tests.{yes, no as otherwise}
use Rattle.jsontext.specs.declared.Fault.{Fault}
use Rattle.jsontext.specs.declared.Fault.TheVariants.{NotJson, BadField}
use Rattle.jsontext.specs.declared.Bad.{Bad}
use Rattle.jsontext.specs.Reading.{Read, got, fault, then, blanks, want, wrong, wrong}
use Rattle.jsontext.specs.Values.{begins, due}
use Rattle.jsontext.specs.Events.{Event, event, ended, line as line_of, onto, cut, Log, events, refused, with_event, lines, log}
use Rattle.jsonread.specs.Told.{Blanks}
use Rattle.jsonread.proofs.Places.{byte_at, told_at, wrong-here, told_of, then_is}
use Rattle.jsonread.proofs.Then.{then_bad}
use Rattle.jsonread.proofs.Firsts.{due-end, due-there, due-not}
use Rattle.jsonkeys.specs.Keys.{Room, Passed}
use Rattle.jsonkeys.proofs.Cells.{below_self}
use Rattle.jsonlines.specs.Events.{event_of, line_length, LogIs, LogTold}

-- ---- an event from its brace on

brace-is : (line : List ℕ) (at : ℕ) → at < length line → get_or line at 0 ≡ 123 → event (drop at line) ≡ event_of (drop (at + 1) line)
unfolding event event_of want then
brace-is line at h e = rw (byte_at line at h) (ap (λ (m : Read ℕ). then m (λ brace rest. event_of rest)) (yes _ (eq-eqb _ _ e)))

module _ (line names : List ℕ) (at : ℕ) where
  pub brace-end : at ≤ length line → length line ≤ at → Passed line names names 0 at (Err (wrong NotJson at)) (due BadField (λ c. eqb c 123) event (drop at line))
  brace-end h l = record { told = due-end BadField (λ c. eqb c 123) event line at h l; below = below_self }

  module _ (h : at < length line) where
    pub brace-not : {f : Fault} → (get_or line at 0 ≡ 123 → ⊥) → f ≡ choose (begins (get_or line at 0)) BadField NotJson → Passed line names names 0 at (Err (wrong f at)) (due BadField (λ c. eqb c 123) event (drop at line))
    brace-not n q = record { told = due-not BadField 123 event line at h n q; below = below_self }

    pub brace-there : {r : Result ℕ Bad} {last : List ℕ} → get_or line at 0 ≡ 123 → Passed line names last 0 (at + 1) r (event_of (drop (at + 1) line)) → Passed line names last 0 at r (due BadField (λ c. eqb c 123) event (drop at line))
    brace-there e p = record { told = due-there BadField 123 event line at h e (told_of {i = at + 1} (omega arith) (brace-is line at h e) p.told); below = p.below }

-- ---- a line

abbrev braced : List ℕ → Read Event
braced s = due BadField (λ c. eqb c 123) event s

line-is : (s : List ℕ) → line_of s ≡ then (braced (blanks s)) (λ e rest. ended e (blanks rest))
unfolding line_of
line-is s = refl

module _ {line names last : List ℕ} {at : ℕ} {x : Result ℕ Bad} (b : Blanks line 0 at) (p : Passed line names last 0 at x (due BadField (λ c. eqb c 123) event (drop at line))) where
  begun : line_of line ≡ then (braced (drop at line)) (λ e rest. ended e (blanks rest))
  begun = line-is line ∙ ap (λ (s : List ℕ). then (braced s) (λ e rest. ended e (blanks rest))) (sym b.is)

  pub line_bad : {b : Bad} → x ≡ Err b → Passed line names last 0 0 (Err b) (line_of line)
  line_bad e = record { told = told_of b.from begun (then_bad (λ e rest. ended e (blanks rest)) p.told e); below = p.below }

  module _ {e i : ℕ} (q : x ≡ Ok e) (d : Blanks line e i) where
    abbrev what : Event
    what = (p.told.stands e q).what

    read : line_of line ≡ ended what (drop i line)
    read = begun ∙ then_is (λ e rest. ended e (blanks rest)) (p.told.stands e q).is ∙ ap (ended what) (sym d.is)

    pub line-more : i < length line → Passed line names last 0 0 (Err (wrong NotJson i)) (line_of line)
    unfolding ended
    line-more h = record { told = wrong-here d.within (read ∙ rw (byte_at line i h)); below = p.below }

    pub line-ended : length line ≤ i → Passed line names last 0 0 (Ok i) (line_of line)
    unfolding ended
    line-ended h = record { told = told_at (record { what = what; from = omega arith; within = d.within; is = read ∙ rw (drop_of_length-le line h) }); below = p.below }

-- ---- where a line ends

pub record Ending (text : List ℕ) (at i : ℕ) : Type 0 where
  pub from : at ≤ i
  pub within : i ≤ length text
  pub goes : i + line_length (drop i text) ≡ at + line_length (drop at text)

pub end-start : {text : List ℕ} {at : ℕ} → at ≤ length text → Ending text at at
end-start h = record { from = omega arith; within = h; goes = refl }

length-byte : (text : List ℕ) (i : ℕ) → i < length text → line_length (drop i text) ≡ choose (eqb (get_or text i 0) 10) 0 (suc (line_length (drop (i + 1) text)))
unfolding line_length
length-byte text i h = rw (byte_at text i h)

length_none : (text : List ℕ) (i : ℕ) → length text ≤ i → line_length (drop i text) ≡ 0
unfolding line_length
length_none text i h = rw (drop_of_length-le text h)

module _ {text : List ℕ} {at i : ℕ} (g : Ending text at i) where
  pub end_none : length text ≤ i → length text ≡ at + line_length (drop at text)
  end_none h = omega (arith, g.goes, g.within, length_none text i h)

  module _ (h : i < length text) where
    pub end-stop : get_or text i 0 ≡ 10 → i ≡ at + line_length (drop at text)
    end-stop e = omega (arith, g.goes, length-byte text i h ∙ yes _ (eq-eqb _ _ e))

    pub end_more : (get_or text i 0 ≡ 10 → ⊥) → Ending text at (i + 1)
    end_more n = record { from = omega (arith, g.from); within = omega arith; goes = omega (arith, g.goes, length-byte text i h ∙ otherwise _ (ne_eqb _ _ n) refl) }

-- ---- the first line of a text

line-short : (s : List ℕ) → line_length s ≤ length s
unfolding line_length choose
line-short [] = omega arith
line-short (c ∷ s) =
    go (eqb c 10) (line-short s)
  where
    go : (x : Bool) → line_length s ≤ length s → choose x 0 (suc (line_length s)) ≤ length (c ∷ s)
    go true h = omega arith
    go false h = omega arith

cut-first : (c : ℕ) (s : List ℕ) → cut (c ∷ s) ≡ take (line_length (c ∷ s)) (c ∷ s) ∷ cut (drop (suc (line_length (c ∷ s))) (c ∷ s))
unfolding cut line_length choose onto
cut-first c [] =
    go (eqb c 10)
  where
    go : (x : Bool) → choose x ([] ∷ []) ((c ∷ []) ∷ []) ≡ take (choose x 0 1) (c ∷ []) ∷ cut (drop (suc (choose x 0 1)) (c ∷ []))
    go true = refl
    go false = refl
cut-first c (d ∷ s) =
    go (eqb c 10) (cut-first d s)
  where
    go : (x : Bool) → cut (d ∷ s) ≡ take (line_length (d ∷ s)) (d ∷ s) ∷ cut (drop (suc (line_length (d ∷ s))) (d ∷ s)) → choose x ([] ∷ cut (d ∷ s)) (onto c (cut (d ∷ s))) ≡ take (choose x 0 (suc (line_length (d ∷ s)))) (c ∷ d ∷ s) ∷ cut (drop (suc (choose x 0 (suc (line_length (d ∷ s))))) (c ∷ d ∷ s))
    go true h = refl
    go false h = ap (onto c) h

-- the line from `at` to `end`
abbrev pub line_from : List ℕ → ℕ → ℕ → List ℕ
line_from text at end = take (end - at) (drop at text)

module _ (text : List ℕ) (at end : ℕ) (h : at < length text) (e : end ≡ at + line_length (drop at text)) where
  pub end-within : end ≤ length text
  end-within = omega (arith, line-short (drop at text), length-drop at text)

  pub end-from : at ≤ end
  end-from = omega (arith, e)

  pub line-long : length (line_from text at end) ≡ end - at
  line-long = length-take-le (end - at) (drop at text) (omega (arith, end-within, length-drop at text))

  pub cut_line : cut (drop at text) ≡ line_from text at end ∷ cut (drop (end + 1) text)
  cut_line =
      let z : line_length (drop at text) ≡ end - at = omega arith in
      let y : at + suc (end - at) ≡ end + 1 = omega arith in
      cuts ∙ ap (λ (n : ℕ). take n (drop at text) ∷ cut (drop (suc n) (drop at text))) z
      ∙ ap (λ (s : List ℕ). line_from text at end ∷ cut s) (drop-drop (suc (end - at)) at text ∙ ap (λ (n : ℕ). drop n text) y)
    where
      cuts : cut (drop at text) ≡ take (line_length (drop at text)) (drop at text) ∷ cut (drop (suc (line_length (drop at text))) (drop at text))
      cuts = rw (byte_at text at h) (cut-first (get_or text at 0) (drop (at + 1) text))

-- ---- all lines

pub record Logging (text cells names : List ℕ) (at : ℕ) : Type 0 where
  pub room : length text ≤ 4 * length names
  pub long : length names ≡ length cells
  pub good : (es : List Event) → lines at (cut (drop at text)) ≡ events es → LogIs text
  pub wrong : (w : Fault) (p q : ℕ) → lines at (cut (drop at text)) ≡ refused w p q → log text ≡ refused w p q

log-good : {text names after : List ℕ} {e : ℕ} → LogIs text → length after ≡ length names → LogTold text names after (Ok e)
log-good g l = record { good = λ k q. g; wrong = λ b k. absurd (let z : ◌≡◌ {A = ℕ} 0 1 = cc in omega arith); long = l }

log-wrong : {text names after : List ℕ} {b : Bad} → log text ≡ refused b.fault b.at b.first → length after ≡ length names → LogTold text names after (Err b)
log-wrong {text = text} {b = b} g l =
    record {
      good = λ k q. absurd (let z : ◌≡◌ {A = ℕ} 0 1 = cc in omega arith);
      wrong = λ v k. let z : b ≡ v = cc in subst (λ (v : Bad). log text ≡ refused v.fault v.at v.first) z g;
      long = l;
    }

pub log-start : (text names : List ℕ) → Room text names 0 0 0 → Logging text names names 0
unfolding log
log-start text names h = record { room = omega arith; long = refl; good = λ es e. record { what = es; is = e }; wrong = λ w p q e. e }

abbrev pub line_by : ℕ → List ℕ → List (List ℕ) → Read Event → Log
line_by at l ls m = elim m [ got e rest ↦ with_event e (lines (at + length l + 1) ls) | fault w left first ↦ refused w (at + length l - left) (at + length l - first) ]

pub lines-is : (at : ℕ) (l : List ℕ) (ls : List (List ℕ)) → lines at (l ∷ ls) ≡ line_by at l ls (line_of l)
unfolding lines
lines-is at l ls = refl

pub no_lines : (at : ℕ) (s : List ℕ) → s ≡ [] → lines at (cut s) ≡ events []
unfolding lines cut
no_lines at s e = rw e

with-good : (e : Event) (l : Log) (es : List Event) → l ≡ events es → with_event e l ≡ events (e ∷ es)
unfolding with_event
with-good e l es q = rw q

with-wrong : (e : Event) (l : Log) (w : Fault) (p q : ℕ) → l ≡ refused w p q → with_event e l ≡ refused w p q
unfolding with_event
with-wrong e l w p q k = rw k

module _ {text cells names : List ℕ} {at : ℕ} (g : Logging text cells names at) where
  pub log-done : length text ≤ at → LogTold text cells names (Ok at)
  log-done h = log-good (g.good [] (no_lines at (drop at text) (drop_of_length-le text h))) g.long

  module _ {end : ℕ} (h : at < length text) (e : end ≡ at + line_length (drop at text)) where
    pub line-room : Room (line_from text at end) names 0 0 0
    line-room = omega (arith, g.room, line-long text at end h e, end-within text at end h e)

    module _ {last : List ℕ} {x : Result ℕ Bad} (p : Passed (line_from text at end) names last 0 0 x (line_of (line_from text at end))) where
      by-line : lines at (cut (drop at text)) ≡ line_by at (line_from text at end) (cut (drop (end + 1) text)) (line_of (line_from text at end))
      by-line = ap (lines at) (cut_line text at end h e) ∙ lines-is at (line_from text at end) (cut (drop (end + 1) text))

      pub log-long : length last ≡ length cells
      log-long = p.below.long ∙ g.long

      module _ {b : Bad} (q : x ≡ Err b) where
        pub place-within : at + b.at ≤ length text
        place-within = omega (arith, (p.told.faulty b q).place, line-long text at end h e, end-within text at end h e)

        pub first-within : at + b.first ≤ length text
        first-within = omega (arith, (p.told.faulty b q).first, line-long text at end h e, end-within text at end h e)

        bad_line : LogTold text cells last (Err (record { fault = b.fault; at = at + b.at; first = at + b.first }))
        bad_line =
            let f = p.told.faulty b q in
            let a : at + length (line_from text at end) - (length (line_from text at end) - b.at) ≡ at + b.at = omega (arith, f.place) in
            let d : at + length (line_from text at end) - (length (line_from text at end) - b.first) ≡ at + b.first = omega (arith, f.first) in
            log-wrong (g.wrong b.fault (at + b.at) (at + b.first) (by-line ∙ ap (line_by at (line_from text at end) (cut (drop (end + 1) text))) f.is ∙ rw (a, d))) log-long

        pub log_bad : {r : Bad} → r ≡ record { fault = b.fault; at = at + b.at; first = at + b.first } → LogTold text cells last (Err r)
        log_bad n = rw n bad_line

      module _ {k : ℕ} (q : x ≡ Ok k) where
        next-line : lines at (cut (drop at text)) ≡ with_event (p.told.stands k q).what (lines (end + 1) (cut (drop (end + 1) text)))
        next-line =
            let z : at + length (line_from text at end) + 1 ≡ end + 1 = omega (arith, line-long text at end h e) in
            by-line ∙ ap (line_by at (line_from text at end) (cut (drop (end + 1) text))) (p.told.stands k q).is
            ∙ ap (λ (n : ℕ). with_event (p.told.stands k q).what (lines n (cut (drop (end + 1) text)))) z

        pub log-last : length text ≤ end → LogTold text cells last (Ok end)
        log-last n =
            let l : length text ≤ end + 1 = omega arith in
            log-good
            (g.good ((p.told.stands k q).what ∷ []) (next-line ∙ with-good (p.told.stands k q).what (lines (end + 1) (cut (drop (end + 1) text))) [] (no_lines (end + 1) (drop (end + 1) text) (drop_of_length-le text l))))
            log-long

        pub log-on : Logging text cells last (end + 1)
        log-on =
            record {
              room = omega (arith, g.room, p.below.long);
              long = log-long;
              good = λ es c. g.good ((p.told.stands k q).what ∷ es) (next-line ∙ with-good (p.told.stands k q).what (lines (end + 1) (cut (drop (end + 1) text))) es c);
              wrong = λ w i j c. g.wrong w i j (next-line ∙ with-wrong (p.told.stands k q).what (lines (end + 1) (cut (drop (end + 1) text))) w i j c);
            }

        pub log-less : length text - (end + 1) < length text - at
        log-less = omega arith
