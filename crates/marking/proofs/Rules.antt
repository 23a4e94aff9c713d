-- Places against their marks: each record's test put together
use mathlib.Core.Path.{◌≡◌, refl, sym, ◌∙◌, ap}
use mathlib.Core.Bool.{Bool, true, false, not}
use mathlib.Core.List.{List, [], ◌∷◌}
use Prim.Native.Nat.{ℕ, ◌+◌}
use native.Mathlib.Omega.{arith}
use lib.Dec.{leb}
use borrow.Author.Tests.{not-true, not-false}
use types.Run.{OneOf, miss}
use denote.Enum.Declared.{tag_of}
use Rattle.meaning.specs.contracts.Node.{the_type}
use Rattle.meaning.specs.declared.Node.{Node}
use Rattle.meaning.specs.declared.Node.TheVariants.{And, Or, Not, Formerly, Previous, Since, Predicate, Comparison, Exists, Tp, Literal, Context, Scope, Variable, Wildcard, Aggregate, Arithmetic, Sum, Count, Broken}
use Rattle.meaning.specs.Tests.{◌and◌, all_below}
use Rattle.meaning.specs.Case.{size, string_word, point_word, list, node_at}
use Rattle.laws.specs.Tests.{stop, after}
use Rattle.encode.specs.Unsorted.{marked, in_text}
use Rattle.encode.specs.Write.{all_marked, none_marked, entity_marks, point_marks, argument_marks, marks_of, node_marks}
use Rattle.marking.specs.Runs.{word, own_words, word_of, item, item_of}

-- ---- words

pub named-as : {names r : Bool} (marks : List ℕ) (i : ℕ) → names ≡ true → r ≡ marked marks i → r ≡ word marks names i
unfolding word
named-as marks i n e = rw n e

pub other-as : {names r : Bool} (marks : List ℕ) (i : ℕ) → names ≡ false → r ≡ marked marks i → not r ≡ word marks names i
unfolding word
other-as marks i n e = rw n (ap not e)

-- ---- entities and arguments

-- a test, and another one where it holds
pub and-then : {u z a b : Bool} → u ≡ true → u ≡ a → z ≡ b → z ≡ (a and b)
and-then h e f = f ∙ sym (after (sym e ∙ h))

pub and-else : {u a : Bool} (b : Bool) → u ≡ false → u ≡ a → u ≡ (a and b)
and-else b h e = h ∙ sym (stop b (sym e ∙ h))

module _ (marks : List ℕ) (names : Bool) (i : ℕ) {u : Bool} (e : u ≡ (word marks names i and word marks names (i + 1))) where
  pub own-then : {z : Bool} → u ≡ true → z ≡ word marks false (i + 2) → z ≡ own_words marks names i
  unfolding own_words
  own-then h f = and-then h e f

  pub own-else : u ≡ false → u ≡ own_words marks names i
  unfolding own_words
  own-else h = and-else _ h e

module _ (f marks : List ℕ) (argument : Bool) (i : ℕ) {own : Bool} where
  pub entity-as : not argument ≡ true → own ≡ own_words marks (not argument) i → own ≡ item f marks argument i
  unfolding item own_words word entity_marks all_marked all_below ◌and◌
  entity-as n e =
      let q : argument ≡ false = not-true argument n in
      let z : i + 0 ≡ i = omega arith in
      rw (q, z) (rw q at e)

  own-argument : not argument ≡ false → own ≡ own_words marks (not argument) i → item f marks argument i ≡ (own and all_marked marks (list f i) (list f (i + 1)))
  unfolding item own_words word argument_marks none_marked all_below ◌and◌
  own-argument n e =
      let y : argument ≡ true = not-false argument n in
      let z : i + 0 ≡ i = omega arith in
      rw (y, z, rw y at e) refl

  pub argument-stops : not argument ≡ false → own ≡ own_words marks (not argument) i → own ≡ false → own ≡ item f marks argument i
  argument-stops n e h = h ∙ sym (own-argument n e ∙ stop _ h)

  pub argument-as : {a b : ℕ} {p : Bool} → not argument ≡ false → own ≡ own_words marks (not argument) i → own ≡ true → a ≡ list f i → b ≡ list f (i + 1) → p ≡ all_below b (word_of marks true a) → p ≡ item f marks argument i
  unfolding word_of word all_marked
  argument-as n e h la lb ep = ep ∙ rw (la, lb) (sym (own-argument n e ∙ after h))

-- ---- points and nodes

point-as : {w a b d e : ℕ} {n m q : Bool} (f marks : List ℕ) (p : ℕ) → w ≡ p → a ≡ point_word f w 2 → b ≡ point_word f w 3 → n ≡ all_below b (word_of marks true a) → d ≡ point_word f w 10 → e ≡ point_word f w 11 → m ≡ all_below e (item_of f marks false d) → q ≡ (n and m) → q ≡ point_marks f marks p
unfolding point_marks all_marked word_of word item_of item
point-as f marks p w ea eb en ed ee em eq = eq ∙ rw (en, em, ea, eb, ed, ee, w) refl

module _ {w a b d e : ℕ} {n : Bool} (f marks : List ℕ) (p : ℕ) (ew : w ≡ p) (ea : a ≡ point_word f w 2) (eb : b ≡ point_word f w 3) (en : n ≡ all_below b (word_of marks true a)) (ed : d ≡ point_word f w 10) (ee : e ≡ point_word f w 11) where
  pub point-then : {m : Bool} → m ≡ all_below e (item_of f marks false d) → n ≡ true → m ≡ point_marks f marks p
  point-then em h = point-as f marks p ew ea eb en ed ee em (sym (after h))

  pub point-else : n ≡ false → n ≡ point_marks f marks p
  point-else h = point-as f marks p ew ea eb en ed ee refl (h ∙ sym (stop _ h))

pub node-as : {node is : Node} {r : Bool} (f marks : List ℕ) (n : ℕ) → node ≡ node_at f n → node ≡ is → r ≡ marks_of f marks is → r ≡ node_marks f marks n
unfolding node_marks
node-as f marks n e q h = h ∙ ap (marks_of f marks) (sym q ∙ e)

-- every other kind of node uses no list place
abbrev plain_tags : List ℕ
plain_tags = 0 ∷ 1 ∷ 2 ∷ 3 ∷ 4 ∷ 5 ∷ 7 ∷ 8 ∷ 9 ∷ 10 ∷ 13 ∷ 14 ∷ 15 ∷ 16 ∷ 19 ∷ []

plain-marks : (f marks : List ℕ) (node : Node) → OneOf plain_tags (tag_of the_type node) → true ≡ marks_of f marks node
unfolding marks_of
plain-marks f marks (And l r) h = refl
plain-marks f marks (Or l r) h = refl
plain-marks f marks (Not x) h = refl
plain-marks f marks (Formerly span x) h = refl
plain-marks f marks (Previous span x) h = refl
plain-marks f marks (Since l r span) h = refl
plain-marks f marks (Predicate namespace action kind arguments) h = absurd (miss plain_tags 6 tt h)
plain-marks f marks (Comparison op l r) h = refl
plain-marks f marks (Exists x b) h = refl
plain-marks f marks (Tp x) h = refl
plain-marks f marks (Literal v) h = refl
plain-marks f marks (Context path) h = absurd (miss plain_tags 11 tt h)
plain-marks f marks (Scope root path) h = absurd (miss plain_tags 12 tt h)
plain-marks f marks (Variable x) h = refl
plain-marks f marks Wildcard h = refl
plain-marks f marks (Aggregate a) h = refl
plain-marks f marks (Arithmetic op l r) h = refl
plain-marks f marks (Sum x binders b) h = absurd (miss plain_tags 17 tt h)
plain-marks f marks (Count binders b) h = absurd (miss plain_tags 18 tt h)
plain-marks f marks Broken h = refl

pub plain-as : {node : Node} (f marks : List ℕ) (n : ℕ) → node ≡ node_at f n → OneOf plain_tags (tag_of the_type node) → true ≡ node_marks f marks n
unfolding node_marks
plain-as {node} f marks n e h = plain-marks f marks node h ∙ ap (marks_of f marks) e

-- ---- strings

pub in_text-as : {a a' b b' z z' : ℕ} (s : List ℕ) (k : ℕ) → a ≡ a' → a' ≡ string_word s k 0 → b ≡ b' → b' ≡ string_word s k 1 → z ≡ z' → z' ≡ size s 6 → leb (a + b) z ≡ in_text s k
unfolding in_text
in_text-as s k aa ai bb bi zz zi = rw (aa ∙ ai, bb ∙ bi, zz ∙ zi) refl
