-- Cases without dots: document 01's own check, which refuses a name with a dot in context and attributes
use Rattle.std.specs.Prelude.{◌≡◌, Bool, List, [], ◌∷◌, ℕ, ◌+◌, ◌*◌, eqb}
use Rattle.std.proofs.Math.Option.{Option, none}
use Rattle.meaning.specs.declared.Refusal.{Refusal}
use Rattle.meaning.specs.declared.Refusal.TheVariants.{BadContents, TooLarge, BadStrings, BadValues, BadPoints, BadNodes}
use Rattle.meaning.specs.Tests.{◌and◌, ◌or◌, first_broken, all_below, rises, throughout}
use Rattle.meaning.specs.Text.{free}
use Rattle.meaning.specs.Case.{nothing, points, lists, value_word, point_word, list, text}
use Rattle.meaning.specs.Check.{in_table, bodies, mosts, string_rules, is_string, name, value_rules, part_count, part_value, is_object, maybe_value, string_run, entity_before, node_rules}

module _ (s : List ℕ) where
  -- a value's own names hold no dot
  unfoldable pub plain_names : ℕ → Bool
  plain_names v =
      all_below (part_count s v) (λ i. eqb (name s (value_word s v 1 + i)) nothing or free 46 (text s (name s (value_word s v 1 + i))))

  -- nor does any inside, at any depth
  unfoldable pub plain : ℕ → Bool
  plain = throughout (part_count s) (part_value s) plain_names

  abbrev pub plain_object : ℕ → Bool
  plain_object v = is_object s v and plain v

  -- ---- rule 5, with such objects

  unfoldable pub plain_entity : ℕ → Bool
  plain_entity i =
      (is_string s (list s i) and free 34 (text s (list s i)))
      and is_string s (list s (i + 1)) and plain_object (list s (i + 2))

  unfoldable pub plain_item : ℕ → ℕ → Bool
  plain_item first i = plain_entity (first + 3 * i) and rises (λ i j. entity_before s (first + 3 * i) (first + 3 * j)) i

  unfoldable pub plain_run : ℕ → ℕ → Bool
  plain_run first items = in_table (lists s) 3 first items and all_below items (plain_item first)

  unfoldable pub plain_point : ℕ → Bool
  plain_point p =
      string_run s (point_word s p 2) (point_word s p 3)
      and is_string s (point_word s p 4)
      and is_string s (point_word s p 5)
      and is_object s (point_word s p 6)
      and plain_object (point_word s p 7)
      and maybe_value s (point_word s p 8)
      and maybe_value s (point_word s p 9)
      and plain_run (point_word s p 10) (point_word s p 11)

  unfoldable pub plain_points : Bool
  plain_points = all_below (points s) plain_point

  unfoldable pub check01 : Option Refusal
  check01 =
      first_broken (
      (bodies s, BadContents)
      ∷ (mosts s, TooLarge)
      ∷ (string_rules s, BadStrings)
      ∷ (value_rules s, BadValues)
      ∷ (plain_points, BadPoints)
      ∷ (node_rules s, BadNodes)
      ∷ []
      )

-- a case that passes it
pub record Undotted (s : List ℕ) : Type 0 where
  pub passes : check01 s ≡ none
