-- The writer: from an unsorted case and its marks the finished case, or a refusal; what is said, and what the room and the output hold after it, for every input
use Rattle.std.specs.Prelude.{Bool, true, not, List, [], ◌∷◌, ◌++◌, ℕ, ◌+◌, ◌*◌, leb, eqb, length, drop}
use Rattle.std.proofs.Math.Option.{Option, none, some}
use Rattle.meaning.specs.declared.Node.{Node}
use Rattle.meaning.specs.declared.Node.TheVariants.{And, Or, Not, Formerly, Previous, Since, Predicate, Comparison, Exists, Tp, Literal, Context, Scope, Variable, Wildcard, Aggregate, Arithmetic, Sum, Count, Broken}
use Rattle.meaning.specs.declared.Refusal.{Refusal}
use Rattle.meaning.specs.declared.Refusal.TheVariants.{BadContents, TooLarge, BadStrings, BadValues, BadPoints, BadNodes, BadLimits, OutputTooShort}
use Rattle.meaning.specs.Tests.{◌and◌, or_else, first_broken, all_below}
use Rattle.meaning.specs.Case.{strings, lists, points, nodes, point_word, list, node_at}
use Rattle.meaning.specs.Check.{bodies, mosts, string_rules, value_rules, point_rules, node_rules}
use Rattle.encode.specs.Unsorted.{in_text, marked, finished}

-- ---- list places used against their marks

module _ (marks : List ℕ) where
  -- used as strings
  unfoldable pub all_marked : ℕ → ℕ → Bool
  all_marked first items = all_below items (λ i. marked marks (first + i))

  -- used otherwise
  unfoldable pub none_marked : ℕ → ℕ → Bool
  none_marked first items = all_below items (λ i. not (marked marks (first + i)))

  -- type and id are strings, the attribute object is none
  unfoldable pub entity_marks : ℕ → Bool
  entity_marks i = all_marked i 2 and not (marked marks (i + 2))

-- in the finished case f
module _ (f marks : List ℕ) where
  -- namespace and entities
  unfoldable pub point_marks : ℕ → Bool
  point_marks p =
      all_marked marks (point_word f p 2) (point_word f p 3)
      and all_below (point_word f p 11) (λ i. entity_marks marks (point_word f p 10 + 3 * i))

  -- an argument's three words are none, the names of its path are
  unfoldable pub argument_marks : ℕ → Bool
  argument_marks i = none_marked marks i 3 and all_marked marks (list f i) (list f (i + 1))

  unfoldable pub marks_of : Node → Bool
  marks_of (And l r) = true
  marks_of (Or l r) = true
  marks_of (Not x) = true
  marks_of (Formerly span x) = true
  marks_of (Previous span x) = true
  marks_of (Since l r span) = true
  marks_of (Predicate namespace action kind arguments) =
      all_marked marks namespace.first namespace.count
      and all_below arguments.count (λ i. argument_marks (arguments.first + 3 * i))
  marks_of (Comparison op l r) = true
  marks_of (Exists x b) = true
  marks_of (Tp x) = true
  marks_of (Literal v) = true
  marks_of (Context path) = all_marked marks path.first path.count
  marks_of (Scope root path) = all_marked marks path.first path.count
  marks_of (Variable x) = true
  marks_of Wildcard = true
  marks_of (Aggregate a) = true
  marks_of (Arithmetic op l r) = true
  marks_of (Sum x binders b) = none_marked marks binders.first binders.count
  marks_of (Count binders b) = none_marked marks binders.first binders.count
  marks_of Broken = true

  unfoldable pub node_marks : ℕ → Bool
  node_marks n = marks_of (node_at f n)

-- ---- the call: an unsorted case, its marks, a lent room and the output

-- the finished case first, what stood behind it after it
unfoldable pub over : List ℕ → List ℕ → List ℕ
over f cells = f ++ drop (length f) cells

module _ (s marks room : List ℕ) where
  -- 1 for what has no tables, 2, and 10 for a short room; if none is given, the finished case is made in the room
  unfoldable pub make_refusal : Option Refusal
  make_refusal =
      first_broken (
      (bodies s and eqb (length marks) (lists s), BadContents)
      ∷ (mosts (finished s marks), TooLarge)
      ∷ (leb (length (finished s marks)) (length room), BadLimits)
      ∷ []
      )

  unfoldable pub room_after : Option Refusal → List ℕ
  room_after none = over (finished s marks) room
  room_after (some r) = room

  -- then 3 to 6 of the finished case, with strings that leave text and places used against their marks; and 14 last
  unfoldable pub later_refusal : List ℕ → Option Refusal
  later_refusal output =
      first_broken (
      (all_below (strings s) (in_text s) and string_rules (finished s marks), BadStrings)
      ∷ (value_rules (finished s marks), BadValues)
      ∷ (point_rules (finished s marks) and all_below (points (finished s marks)) (point_marks (finished s marks) marks), BadPoints)
      ∷ (node_rules (finished s marks) and all_below (nodes (finished s marks)) (node_marks (finished s marks) marks), BadNodes)
      ∷ (leb (length (finished s marks)) (length output), OutputTooShort)
      ∷ []
      )

  unfoldable pub write_refusal : List ℕ → Option Refusal
  write_refusal output = or_else make_refusal (later_refusal output)

  -- on a refusal the output is as it was
  unfoldable pub output_after : List ℕ → Option Refusal → List ℕ
  output_after output none = over (finished s marks) output
  output_after output (some r) = output
