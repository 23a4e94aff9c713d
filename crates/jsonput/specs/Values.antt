-- The text of a value from its record and what it holds
use Rattle.std.specs.Prelude.{◌≡◌, Bool, true, false, ℕ, suc, ◌+◌, ◌*◌, ◌<◌, ◌≤◌, eqb, leb, ltb, length}
use Rattle.std.proofs.Math.Path.{refl, ap, ap₂}
use Rattle.std.proofs.Common.{sym, ◌∙◌, arith, lit<, length-append, leb-true, leb-false, ltb-true, ltb-false}
use mathlib.Core.List.{List, [], ◌∷◌, ◌++◌, map, append_assoc}
use Rattle.meaning.specs.Tests.{choose, pick}
use Rattle.meaning.specs.Case.{Part, Value, Null, Boolean, Int, Decimal, Text, Entity, Array, Object, values, text, member_word, value_word, part_at, value_from, value_at, places, case_of}
use Rattle.meaning.specs.Check.{Checked, part_value}
use Rattle.meaning.specs.Equal.{see, seen}
use Rattle.laws.specs.Below.{made-is}
use Rattle.laws.specs.Bodies.{wholes, body-beyond}
use Rattle.laws.specs.Tests.{all-at}
use Rattle.laws.specs.Lists.{Every, every_map}
use Rattle.laws.specs.Values.{Runs, runs, holder, held}
use Rattle.laws.specs.Checked.{checked-bodies, checked-values, lower-parts}
use Rattle.jsontext.specs.Values.{J, Null as Null-as-J, Array as Array-as-J, Object as Object-as-J}
use Rattle.jsontrace.specs.Text.{quoted, commas, brackets, braces, pair, shown, shown_items, shown_members}
use Rattle.jsontrace.specs.Export.{parts_of, tree_of, tree_at}
use Rattle.jsonput.specs.Runs.{run_text, commas-run}

module _ (s : List ℕ) where
  unfoldable pub value_text : ℕ → List ℕ
  value_text v = shown (tree_at s v)

  -- of a kind, from its words
  unfoldable pub text_from : ℕ → ℕ → ℕ → List ℕ
  text_from kind a b = shown (tree_of s (tree_at s) (value_from (part_at s) kind a b))

  -- a member's name with its colon; an array's item has none
  unfoldable pub name_text : ℕ → ℕ → List ℕ
  name_text kind m = choose (eqb kind 7) (quoted (text s (member_word s m 0)) ++ (58 ∷ [])) []

  unfoldable pub item_text : ℕ → ℕ → List ℕ
  item_text kind m = name_text kind m ++ value_text (member_word s m 1)

unfoldable pub opening : ℕ → ℕ
opening kind = choose (eqb kind 7) 123 91

unfoldable pub closing : ℕ → ℕ
closing kind = choose (eqb kind 7) 125 93

-- what is read of value v: its kind, where its items start and how many they are
pub record Read (s : List ℕ) (v k a b : ℕ) : Type 0 where
  pub checked : Checked s
  pub kind : k ≡ value_word s v 0
  pub first : a ≡ value_word s v 1
  pub items : b ≡ value_word s v 2

-- ---- what Cedar's forms begin with

-- {"__extn":{"fn":"decimal","arg":
abbrev pub extension : List ℕ
extension = 123 ∷ 34 ∷ 95 ∷ 95 ∷ 101 ∷ 120 ∷ 116 ∷ 110 ∷ 34 ∷ 58 ∷ 123 ∷ 34 ∷ 102 ∷ 110 ∷ 34 ∷ 58 ∷ 34 ∷ 100 ∷ 101 ∷ 99 ∷ 105 ∷ 109 ∷ 97 ∷ 108 ∷ 34 ∷ 44 ∷ 34 ∷ 97 ∷ 114 ∷ 103 ∷ 34 ∷ 58 ∷ []

-- {"__entity":{"type":
abbrev pub typed : List ℕ
typed = 123 ∷ 34 ∷ 95 ∷ 95 ∷ 101 ∷ 110 ∷ 116 ∷ 105 ∷ 116 ∷ 121 ∷ 34 ∷ 58 ∷ 123 ∷ 34 ∷ 116 ∷ 121 ∷ 112 ∷ 101 ∷ 34 ∷ 58 ∷ []

-- ,"id":
abbrev pub with_id : List ℕ
with_id = 44 ∷ 34 ∷ 105 ∷ 100 ∷ 34 ∷ 58 ∷ []

-- ---- by its parts

parts_same : (name : ℕ → List ℕ) (g h : ℕ → J) (ps : List Part) → Every (λ j. g j ≡ h j) (held ps) → parts_of name g ps ≡ parts_of name h ps
unfolding parts_of held
parts_same name g h [] e = refl
parts_same name g h (p ∷ ps) e = cc (e.0, parts_same name g h ps e.1)

module _ {s : List ℕ} (c : Checked s) where
  tree_same : (g h : ℕ → J) (w : Value) → Every (λ j. g j ≡ h j) (held (see (case_of s) w).parts) → tree_of s g w ≡ tree_of s h w
  unfolding tree_of see seen
  tree_same g h Null e = refl
  tree_same g h (Boolean b) e = refl
  tree_same g h (Int z) e = refl
  tree_same g h (Decimal t) e = refl
  tree_same g h (Text t) e = refl
  tree_same g h (Entity t i) e = refl
  tree_same g h (Array ps) e = ap Array-as-J (parts_same (λ n. []) g h ps e)
  tree_same g h (Object ps) e = ap Object-as-J (parts_same (text s) g h ps e)

  pub tree_is : (v : ℕ) → tree_at s v ≡ tree_of s (tree_at s) (value_at s v)
  unfolding tree_at
  tree_is v = made-is Null-as-J (λ of v. tree_of s of (value_at s v)) (suc v) (λ g h m hm same. tree_same g h (value_at s m) (every_map (held (see (case_of s) (value_at s m)).parts) same (lower-parts c m))) v (omega arith)

  pub text-is : (v : ℕ) → value_text s v ≡ text_from s (value_word s v 0) (value_word s v 1) (value_word s v 2)
  unfolding value_text text_from value_at
  text-is v = ap shown (tree_is v)

module _ (s : List ℕ) where
  items-text : (xs : List ℕ) → shown_items (parts_of (λ n. []) (tree_at s) (map (part_at s) xs)) ≡ map (item_text s 6) xs
  unfolding shown shown_items parts_of part_at item_text name_text value_text choose
  items-text [] = refl
  items-text (x ∷ xs) = ap (λ (l : List (List ℕ)). shown (tree_at s (member_word s x 1)) ∷ l) (items-text xs)

  members-text : (xs : List ℕ) → shown_members (parts_of (text s) (tree_at s) (map (part_at s) xs)) ≡ map (item_text s 7) xs
  unfolding shown shown_members parts_of part_at item_text name_text value_text choose pair
  members-text [] = refl
  members-text (x ∷ xs) =
      ap₂ (λ (t : List ℕ) (l : List (List ℕ)). t ∷ l) (sym (append_assoc (quoted (text s (member_word s x 0))) (58 ∷ []) (shown (tree_at s (member_word s x 1))))) (members-text xs)

  array-text : (a b : ℕ) → text_from s 6 a b ≡ opening 6 ∷ run_text (item_text s 6) a 1 b ++ (closing 6 ∷ [])
  unfolding text_from tree_of value_from pick shown brackets opening closing choose
  array-text a b =
      ap (λ (l : List (List ℕ)). 91 ∷ commas l ++ (93 ∷ [])) (items-text (places a 1 b))
      ∙ ap (λ (l : List ℕ). 91 ∷ l ++ (93 ∷ [])) (commas-run (item_text s 6) a 1 b)

  object-text : (a b : ℕ) → text_from s 7 a b ≡ opening 7 ∷ run_text (item_text s 7) a 1 b ++ (closing 7 ∷ [])
  unfolding text_from tree_of value_from pick shown braces opening closing choose
  object-text a b =
      ap (λ (l : List (List ℕ)). 123 ∷ commas l ++ (125 ∷ [])) (members-text (places a 1 b))
      ∙ ap (λ (l : List ℕ). 123 ∷ l ++ (125 ∷ [])) (commas-run (item_text s 7) a 1 b)

  -- an array or an object: its items between brackets
  pub holder-text : (k a b : ℕ) → 6 ≤ k → k < 8 → text_from s k a b ≡ opening k ∷ run_text (item_text s k) a 1 b ++ (closing k ∷ [])
  holder-text k a b low high = go (leb 7 k) refl
    where
      go : (t : Bool) → leb 7 k ≡ t → text_from s k a b ≡ opening k ∷ run_text (item_text s k) a 1 b ++ (closing k ∷ [])
      go true e = let z : k ≡ 7 = omega (arith, leb-true 7 k e) in rw z (object-text a b)
      go false e = let z : k ≡ 6 = omega (arith, leb-false 7 k e) in rw z (array-text a b)

  pub holder-long : (k a b : ℕ) → 6 ≤ k → k < 8 → length (text_from s k a b) ≡ length (run_text (item_text s k) a 1 b) + 2
  holder-long k a b low high = omega (arith, ap length (holder-text k a b low high), length-append (run_text (item_text s k) a 1 b) (closing k ∷ []))

-- ---- what a holder holds

module _ {s : List ℕ} (c : Checked s) (v : ℕ) where
  -- beyond the table all is 0
  none-there : values s ≤ v → value_word s v 0 ≡ 0
  unfolding value_word pick
  none-there l = body-beyond s (checked-bodies c) 1 (4 * v + 0) (lit< tt) (omega (arith, wholes s (checked-bodies c) 1 (lit< tt)))

  runs_of : v < values s → Runs s v v
  runs_of h = runs s v h (all-at _ _ v (checked-values c) h)

  pub kind-low : value_word s v 0 < 8
  kind-low = go (ltb v (values s)) refl
    where
      go : (b : Bool) → ltb v (values s) ≡ b → value_word s v 0 < 8
      go true e = (runs_of (ltb-true v (values s) e)).kinds
      go false e = omega (arith, none-there (ltb-false v (values s) e))

  -- a value that is not Null is in the table
  pub there_of : 1 ≤ value_word s v 0 → v < values s
  there_of h = go (ltb v (values s)) refl
    where
      go : (b : Bool) → ltb v (values s) ≡ b → v < values s
      go true e = ltb-true v (values s) e
      go false e = absurd (omega (arith, none-there (ltb-false v (values s) e)))

  -- a part has a lower number
  pub part-lower : (i : ℕ) → 6 ≤ value_word s v 0 → i < value_word s v 2 → member_word s (value_word s v 1 + i) 1 < v
  unfolding part_value
  part-lower i h l = (runs_of (there_of (omega arith))).lower i (omega (arith, holder s v h kind-low))
