-- What is shown of the writer: a case that it writes passes the check and holds the unsorted one's records; a checked case is written as it stands; and where the output is too short
use Rattle.std.specs.Prelude.{◌≡◌, Bool, not, ◌⊎◌, ℕ, zero, suc, ◌<◌, ◌≤◌, ◌/◌, eqb, length}
use Rattle.std.proofs.Math.Path.{refl}
use Rattle.std.proofs.Common.{sym, ◌∙◌, ap, arith}
use Rattle.std.proofs.Math.Bool.{true, false}
use mathlib.Core.List.{List, [], ◌∷◌, ◌++◌}
use Rattle.std.proofs.Math.Option.{Option, none, some}
use Rattle.std.proofs.Math.Logic.{inl, inr}
use Rattle.std.proofs.Math.Dec.{leb}
use borrow.Author.Tests.{eq-eqb, le-leb}
use Rattle.meaning.specs.declared.Refusal.TheVariants.{BadStrings, BadValues, BadPoints, BadNodes, OutputTooShort}
use Rattle.meaning.specs.Tests.{◌and◌, choose, only_if, or_else, first_broken, all_below}
use Rattle.meaning.specs.Case.{size, body_word, strings, points, nodes, lists}
use Rattle.meaning.specs.Check.{check, Checked, bodies, mosts, string_rules, value_rules, point_rules, node_rules}
use Rattle.laws.specs.Tests.{both, pass, after, yes, unbroken}
use Rattle.laws.specs.Checked.{rules, checked-bodies}
use Rattle.encode.specs.Unsorted.{in_text, names, number, renamed, finished}
use Rattle.encode.specs.Write.{point_marks, node_marks, over, make_refusal, later_refusal, write_refusal, output_after}
use Rattle.encode.specs.Read.{read_marks, one_way}
use Rattle.encode.specs.Records.{Renumbered, SameRecords}
use Rattle.encode.proofs.Laws.Encode.{all_true}
use Rattle.encode.proofs.Laws.Unsorted.{kept, vars-kept, finished-bodies}
use Rattle.encode.proofs.Laws.ReadBack.{finished-word, reads-back, number-inside, number-outside}
use Rattle.encode.proofs.Laws.Records.{same-records}
use Rattle.encode.proofs.Laws.Own.{Bytes}
use Rattle.encode.proofs.Laws.Again.{end_in, finished-same}
use Rattle.encode.proofs.Laws.Read.{never, read-long, points-fit, nodes-fit, used_one_way}

-- ---- 1: what is written passes the check

neither : {A : Type 0} (a b : Option A) → or_else a b ≡ none → (a ≡ none) × (b ≡ none)
unfolding or_else
neither none b h = (refl, h)
neither (some x) b h = (h, cc)

-- what is known where nothing is refused
record Accepted (s marks : List ℕ) : Type 0 where
  tables : bodies s ≡ true
  checked : Checked (finished s marks)
  by-points : all_below (points (finished s marks)) (point_marks (finished s marks) marks) ≡ true
  by-nodes : all_below (nodes (finished s marks)) (node_marks (finished s marks) marks) ≡ true

accepted : (s marks room output : List ℕ) → write_refusal s marks room output ≡ none → Accepted s marks
unfolding write_refusal make_refusal later_refusal check
accepted s marks room output h =
    let made = neither (make_refusal s marks room) (later_refusal s marks room output) h in
    let one = unbroken (bodies s and eqb (length marks) (lists s)) _ _ made.0 in
    let two = unbroken (mosts (finished s marks)) _ _ one.1 in
    let three = unbroken (all_below (strings s) (in_text s) and string_rules (finished s marks)) _ _ made.1 in
    let four = unbroken (value_rules (finished s marks)) _ _ three.1 in
    let five = unbroken _ _ _ four.1 in
    let six = unbroken _ _ _ five.1 in
    record {
      tables = (both _ _ one.0).0;
      checked = record {
        passes =
            yes _ (finished-bodies s marks (both _ _ one.0).0)
            ∙ yes _ two.0
            ∙ yes _ (both _ _ three.0).1
            ∙ yes _ four.0
            ∙ yes _ (both _ _ five.0).0
            ∙ yes _ (both _ _ six.0).0;
      };
      by-points = (both _ _ five.0).1;
      by-nodes = (both _ _ six.0).1;
    }

pub passes : (s marks room output : List ℕ) → write_refusal s marks room output ≡ none → Checked (finished s marks)
passes s marks room output h = (accepted s marks room output h).checked

-- ---- 2: it holds the unsorted one's records

-- word by word, of every file that has tables, refused later or not
pub reads_as : (s marks : List ℕ) → bodies s ≡ true → Renumbered s marks (finished s marks)
unfolding renamed
reads_as s marks h = record {
  vars = vars-kept s marks h;
  sizes = λ k low high. kept s marks h k (omega arith) (λ e. absurd (omega arith)) (λ e. absurd (omega arith));
  word = word;
  inside = number-inside s marks h;
  text = reads-back s marks;
  outside = number-outside s marks h;
}
  where
    word : (k i : ℕ) → 0 < k → k < 6 → i < size s k / 4 → body_word (finished s marks) k i ≡ choose (names s marks k i) (number s (body_word s k i)) (body_word s k i)
    word zero i low high l = absurd (omega arith)
    word (suc k) i low high l = finished-word s marks k i (omega arith) l

-- record by record, where nothing is refused
pub holds : (s marks room output : List ℕ) → write_refusal s marks room output ≡ none → SameRecords s (finished s marks)
holds s marks room output h =
    let a = accepted s marks room output h in
    same-records (reads_as s marks a.tables) a.tables a.checked a.by-points a.by-nodes

-- ---- 3: a checked case written

module _ {s : List ℕ} (c : Checked s) (bytes : Bytes s) where
  -- no number changes, whatever is marked
  pub same-again : (marks : List ℕ) → finished s marks ≡ s
  same-again marks = finished-same s (checked-bodies c) (rules s c).strings bytes marks

  lies_in_text : all_below (strings s) (in_text s) ≡ true
  unfolding in_text
  lies_in_text = all_true (in_text s) (strings s) (λ k l. le-leb _ _ (end_in s (checked-bodies c) (rules s c).strings k l))

  module _ (marks room output : List ℕ) (one_each : length marks ≡ lists s) (roomy : length s ≤ length room) where
    made_again : make_refusal s marks room ≡ none
    unfolding make_refusal
    made_again =
        yes _ (pass (checked-bodies c) (eq-eqb _ _ one_each))
        ∙ yes _ (ap mosts (same-again marks) ∙ (rules s c).mosts)
        ∙ yes _ (ap (λ (f : List ℕ). leb (length f) (length room)) (same-again marks) ∙ le-leb _ _ roomy)

    -- refused are only places used against their marks, and a short output
    pub refused-again : write_refusal s marks room output ≡ first_broken ((all_below (points s) (point_marks s marks), BadPoints) ∷ (all_below (nodes s) (node_marks s marks), BadNodes) ∷ (leb (length s) (length output), OutputTooShort) ∷ [])
    unfolding write_refusal later_refusal or_else
    refused-again =
        rw (made_again, same-again marks)
        (yes _ (pass lies_in_text (rules s c).strings)
        ∙ yes _ (rules s c).values
        ∙ cc (after {b = all_below (points s) (point_marks s marks)} (rules s c).points, after {b = all_below (nodes s) (node_marks s marks)} (rules s c).nodes))

    module _ (by-points : all_below (points s) (point_marks s marks) ≡ true) (by-nodes : all_below (nodes s) (node_marks s marks) ≡ true) (fits : length s ≤ length output) where
      pub accepted-again : write_refusal s marks room output ≡ none
      accepted-again = refused-again ∙ yes _ by-points ∙ yes _ by-nodes ∙ yes _ (le-leb _ _ fits)

      -- and the case itself is what is written
      pub written-again : output_after s marks room output (write_refusal s marks room output) ≡ over s output
      unfolding output_after
      written-again = rw accepted-again (ap (λ (f : List ℕ). over f output) (same-again marks))

  -- ---- 4: with the marks that reading gives

  -- a case with no list place used both ways is written as it stands
  pub read-written : (room output : List ℕ) → one_way s ≡ true → length s ≤ length room → length s ≤ length output → output_after s (read_marks s) room output (write_refusal s (read_marks s) room output) ≡ over s output
  read-written room output one roomy fits = written-again (read_marks s) room output (read-long s) roomy (points-fit c one) (nodes-fit c one) fits

  -- with such a place it is 5 or 6, whatever the marks
  pub both_ways : (marks room output : List ℕ) → length marks ≡ lists s → length s ≤ length room → one_way s ≡ false → (write_refusal s marks room output ≡ some BadPoints) ⊎ (write_refusal s marks room output ≡ some BadNodes)
  unfolding choose
  both_ways marks room output one_each roomy not-one =
      rw (refused-again marks room output one_each roomy) (go (all_below (points s) (point_marks s marks)) (all_below (nodes s) (node_marks s marks)) refl refl)
    where
      go : (a b : Bool) → all_below (points s) (point_marks s marks) ≡ a → all_below (nodes s) (node_marks s marks) ≡ b
          → (first_broken ((a, BadPoints) ∷ (b, BadNodes) ∷ (leb (length s) (length output), OutputTooShort) ∷ []) ≡ some BadPoints) ⊎ (first_broken ((a, BadPoints) ∷ (b, BadNodes) ∷ (leb (length s) (length output), OutputTooShort) ∷ []) ≡ some BadNodes)
      go false b p q = inl refl
      go true false p q = inr refl
      go true true p q = never (sym not-one ∙ used_one_way s marks p q)

-- ---- 5: the output too short

-- a rule at the end is told of where no other is broken
rule-last : {A : Type 0} (first : Option A) (others : List (Bool × A)) (rule : Bool) (n : A) → or_else first (first_broken (others ++ ((rule, n) ∷ []))) ≡ or_else (or_else first (first_broken (others ++ ((true, n) ∷ [])))) (only_if (not rule) n)
unfolding or_else choose only_if
rule-last (some x) others rule n = refl
rule-last none [] true n = refl
rule-last none [] false n = refl
rule-last none (o ∷ others) rule n = go o.0 (rule-last none others rule n)
  where
    go : (b : Bool) → first_broken (others ++ ((rule, n) ∷ [])) ≡ or_else (first_broken (others ++ ((true, n) ∷ []))) (only_if (not rule) n) → choose b (first_broken (others ++ ((rule, n) ∷ []))) (some o.1) ≡ or_else (choose b (first_broken (others ++ ((true, n) ∷ []))) (some o.1)) (only_if (not rule) n)
    go true rest = rest
    go false rest = refl

-- 14 exactly where nothing else is refused and the output is shorter than the finished case
pub short-output : (s marks room output : List ℕ) → write_refusal s marks room output ≡ or_else (write_refusal s marks room (finished s marks)) (only_if (not (leb (length (finished s marks)) (length output))) OutputTooShort)
unfolding write_refusal later_refusal
short-output s marks room output =
    let f = finished s marks in
    rw (le-leb (length f) (length f) (omega arith))
    (rule-last (make_refusal s marks room) ((all_below (strings s) (in_text s) and string_rules f, BadStrings) ∷ (value_rules f, BadValues) ∷ (point_rules f and all_below (points f) (point_marks f marks), BadPoints) ∷ (node_rules f and all_below (nodes f) (node_marks f marks), BadNodes) ∷ []) (leb (length f) (length output)) OutputTooShort)
