-- The check of a case: the rules of the case file in their order, and the lowest refusal whose rule is broken
use Rattle.std.specs.Prelude.{◌≡◌, Bool, false, not, List, [], ◌∷◌, ℕ, zero, suc, ◌+◌, ◌*◌, ◌-◌, ◌%◌, leb, ltb, eqb, length}
use Rattle.std.proofs.Math.Option.{Option, none}
use Rattle.meaning.specs.declared.Due.TheVariants.{Nothing}
use Rattle.meaning.specs.declared.Node.{Node}
use Rattle.meaning.specs.declared.Node.TheVariants.{And, Or, Not, Formerly, Previous, Since, Predicate, Comparison, Exists, Tp, Literal, Context, Scope, Variable, Wildcard, Aggregate, Arithmetic, Sum, Count, Broken}
use Rattle.meaning.specs.declared.Refusal.{Refusal}
use Rattle.meaning.specs.declared.Refusal.TheVariants.{BadContents, TooLarge, BadStrings, BadValues, BadPoints, BadNodes}
use Rattle.meaning.specs.Tests.{◌and◌, ◌or◌, choose, first_broken, pick, all_below, rises, within, levels, throughout}
use Rattle.meaning.specs.Text.{before, free, utf8}
use Rattle.meaning.specs.Case.{nothing, contents, offset, size, vars, strings, values, members, points, nodes, lists, string_word, value_word, member_word, point_word, node_word, list, text, node_at, arity, child}

-- bytes a record, in the order of the bodies: strings, values, members, points, nodes, lists, text
abbrev pub record_bytes : ℕ → ℕ
record_bytes k = pick (8 ∷ 16 ∷ 8 ∷ 48 ∷ 32 ∷ 4 ∷ 1 ∷ []) k 1

-- a run of items of so many records each stays in a table of so many, even with count 0
abbrev pub in_table : ℕ → ℕ → ℕ → ℕ → Bool
in_table records width first items = leb (first + width * items) records

-- a file by its bytes
module _ (s : List ℕ) where
  -- ---- 1: contents and bodies

  -- the bodies follow the 64 bytes of contents without gaps
  unfoldable pub start_of : ℕ → ℕ
  start_of zero = 64
  start_of (suc k) = start_of k + size s k

  unfoldable pub body_rule : ℕ → Bool
  body_rule k = eqb (offset s k) (start_of k) and eqb (size s k % record_bytes k) 0

  unfoldable pub bodies : Bool
  bodies = leb 64 (length s) and eqb (contents s 0) 1 and all_below 7 body_rule and eqb (start_of 7) (length s)

  -- ---- 2: mosts

  unfoldable pub mosts : Bool
  mosts =
      leb (length s) 4194304
      and leb (strings s) 16384 and leb (values s) 16384 and leb (points s) 16384 and leb (nodes s) 1024 and leb (vars s) 16

  -- ---- 3: strings

  -- where string k ends in text
  abbrev pub string_end : ℕ → ℕ
  string_end k = string_word s k 0 + string_word s k 1

  -- the end of the string before, 0 before the first
  unfoldable pub end_before : ℕ → ℕ
  end_before zero = 0
  end_before (suc k) = string_end k

  unfoldable pub place_rule : ℕ → Bool
  place_rule k = eqb (string_word s k 0) (end_before k) and leb (string_end k) (size s 6)

  -- strings lie end to end and fill text
  unfoldable pub end_to_end : Bool
  end_to_end = all_below (strings s) place_rule and eqb (end_before (strings s)) (size s 6)

  unfoldable pub utf8_rule : ℕ → Bool
  utf8_rule k = utf8 Nothing (text s k)

  unfoldable pub order_rule : ℕ → Bool
  order_rule k = rises (λ i j. before (text s i) (text s j)) k

  unfoldable pub string_rules : Bool
  string_rules = end_to_end and all_below (strings s) utf8_rule and all_below (strings s) order_rule

  -- ---- 4: values and members

  abbrev pub is_string : ℕ → Bool
  is_string n = ltb n (strings s)

  abbrev pub name : ℕ → ℕ
  name m = member_word s m 0

  abbrev pub held : ℕ → ℕ
  held m = member_word s m 1

  unfoldable pub member_rule : ℕ → Bool
  member_rule m = (eqb (name m) nothing or is_string (name m)) and ltb (held m) (values s)

  abbrev pub kind : ℕ → ℕ
  kind v = value_word s v 0

  -- words b and c are unused
  abbrev pub rest_zero : ℕ → Bool
  rest_zero v = eqb (value_word s v 2) 0 and eqb (value_word s v 3) 0

  -- array items bear `nothing`
  unfoldable pub array_item : ℕ → ℕ → ℕ → Bool
  array_item v first i = eqb (name (first + i)) nothing and ltb (held (first + i)) v

  -- an object's names are strings, rising strictly
  unfoldable pub object_item : ℕ → ℕ → ℕ → Bool
  object_item v first i =
      (is_string (name (first + i)) and ltb (held (first + i)) v)
      and rises (λ i j. ltb (name (first + i)) (name (first + j))) i

  abbrev pub null_rule : ℕ → Bool
  null_rule v = eqb (value_word s v 1) 0 and rest_zero v

  abbrev pub bool_rule : ℕ → Bool
  bool_rule v = leb (value_word s v 1) 1 and rest_zero v

  abbrev pub int_rule : ℕ → Bool
  int_rule v = eqb (value_word s v 3) 0

  -- Decimal and String
  abbrev pub text_rule : ℕ → Bool
  text_rule v = is_string (value_word s v 1) and rest_zero v

  abbrev pub entity_value_rule : ℕ → Bool
  entity_value_rule v = is_string (value_word s v 1) and is_string (value_word s v 2) and eqb (value_word s v 3) 0

  abbrev pub array_rule : ℕ → Bool
  array_rule v =
      eqb (value_word s v 3) 0
      and in_table (members s) 1 (value_word s v 1) (value_word s v 2) and all_below (value_word s v 2) (array_item v (value_word s v 1))

  abbrev pub object_rule : ℕ → Bool
  object_rule v =
      eqb (value_word s v 3) 0
      and in_table (members s) 1 (value_word s v 1) (value_word s v 2) and all_below (value_word s v 2) (object_item v (value_word s v 1))

  abbrev pub no_kind : ℕ → Bool
  no_kind v = false

  -- kinds 0 Null, 1 Bool, 2 Int, 3 Decimal, 4 String, 5 Entity, 6 Array, 7 Object
  unfoldable pub value_rule : ℕ → Bool
  value_rule v =
      pick (null_rule ∷ bool_rule ∷ int_rule ∷ text_rule ∷ text_rule ∷ entity_value_rule ∷ array_rule ∷ object_rule ∷ []) (kind v) no_kind v

  -- how many values an Array or Object holds, and the one that it holds as i
  unfoldable pub part_count : ℕ → ℕ
  part_count v = choose (within 6 7 (kind v)) (value_word s v 2) 0

  unfoldable pub part_value : ℕ → ℕ → ℕ
  part_value v i = held (value_word s v 1 + i)

  -- a leaf has 1
  unfoldable pub depth : ℕ → ℕ
  depth = levels part_count part_value

  unfoldable pub depth_rule : ℕ → Bool
  depth_rule v = leb (depth v) 32

  unfoldable pub value_rules : Bool
  value_rules = all_below (members s) member_rule and all_below (values s) value_rule and all_below (values s) depth_rule

  -- ---- 5: points and entities

  abbrev pub is_object : ℕ → Bool
  is_object v = ltb v (values s) and eqb (kind v) 7

  abbrev pub maybe_value : ℕ → Bool
  maybe_value v = eqb v nothing or ltb v (values s)

  unfoldable pub string_run : ℕ → ℕ → Bool
  string_run first items = in_table (lists s) 1 first items and all_below items (λ i. is_string (list s (first + i)))

  -- entities rise by (type, id)
  abbrev pub entity_before : ℕ → ℕ → Bool
  entity_before i j =
      ltb (list s i) (list s j) or (eqb (list s i) (list s j) and ltb (list s (i + 1)) (list s (j + 1)))

  -- type without a quotation mark, id, attribute object
  unfoldable pub entity_rule : ℕ → Bool
  entity_rule i =
      (is_string (list s i) and free 34 (text s (list s i)))
      and is_string (list s (i + 1)) and is_object (list s (i + 2))

  unfoldable pub entity_item : ℕ → ℕ → Bool
  entity_item first i = entity_rule (first + 3 * i) and rises (λ i j. entity_before (first + 3 * i) (first + 3 * j)) i

  unfoldable pub entity_run : ℕ → ℕ → Bool
  entity_run first items = in_table (lists s) 3 first items and all_below items (entity_item first)

  unfoldable pub point_rule : ℕ → Bool
  point_rule p =
      string_run (point_word s p 2) (point_word s p 3)
      and is_string (point_word s p 4)
      and is_string (point_word s p 5)
      and is_object (point_word s p 6)
      and is_object (point_word s p 7)
      and maybe_value (point_word s p 8)
      and maybe_value (point_word s p 9)
      and entity_run (point_word s p 10) (point_word s p 11)

  unfoldable pub point_rules : Bool
  point_rules = all_below (points s) point_rule

  -- ---- 6: nodes

  -- a child has a lower number and a kind from low to high
  abbrev pub child_in : ℕ → ℕ → ℕ → ℕ → Bool
  child_in low high n c = ltb c n and within low high (node_word s c 0)

  abbrev pub is_condition : ℕ → ℕ → Bool
  is_condition = child_in 1 10

  -- 25 and 26 stand only as operands of 8 or 26
  abbrev pub is_term : ℕ → ℕ → Bool
  is_term = child_in 20 24

  abbrev pub is_operand : ℕ → ℕ → Bool
  is_operand = child_in 20 26

  abbrev pub is_aggregate : ℕ → ℕ → Bool
  is_aggregate = child_in 30 31

  abbrev pub is_variable : ℕ → Bool
  is_variable x = ltb x (vars s)

  -- a path's name is a string without a dot
  abbrev pub path_name : ℕ → Bool
  path_name i = is_string (list s i) and free 46 (text s (list s i))

  unfoldable pub path_run : ℕ → ℕ → Bool
  path_run first items = in_table (lists s) 1 first items and all_below items (λ i. path_name (first + i))

  unfoldable pub variable_run : ℕ → ℕ → Bool
  variable_run first items = in_table (lists s) 1 first items and all_below items (λ i. is_variable (list s (first + i)))

  -- an argument: path run (count at least 1), term
  unfoldable pub argument_rule : ℕ → ℕ → Bool
  argument_rule n i = (leb 1 (list s (i + 1)) and path_run (list s i) (list s (i + 1))) and is_term n (list s (i + 2))

  unfoldable pub argument_run : ℕ → ℕ → ℕ → Bool
  argument_run n first items = in_table (lists s) 3 first items and all_below items (λ i. argument_rule n (first + 3 * i))

  -- no Null or Object in it, at any depth
  unfoldable pub literal : ℕ → Bool
  literal = throughout part_count part_value (λ v. not (eqb (kind v) 0 or eqb (kind v) 7))

  -- the words from j on are unused
  unfoldable pub zeros_from : ℕ → ℕ → Bool
  zeros_from n j = all_below (8 - j) (λ i. eqb (node_word s n (j + i)) 0)

  -- the rule of node n by what it is; a unit, an op or a root is read from its own word
  unfoldable pub rule_of : ℕ → Node → Bool
  rule_of n (And l r) = is_condition n l.0 and is_condition n r.0 and zeros_from n 3
  rule_of n (Or l r) = is_condition n l.0 and is_condition n r.0 and zeros_from n 3
  rule_of n (Not x) = is_condition n x.0 and zeros_from n 2
  rule_of n (Formerly span x) = leb (node_word s n 3) 3 and is_condition n x.0 and zeros_from n 5
  rule_of n (Previous span x) = leb (node_word s n 3) 3 and is_condition n x.0 and zeros_from n 5
  rule_of n (Since l r span) = is_condition n l.0 and is_condition n r.0 and leb (node_word s n 5) 3 and zeros_from n 6
  rule_of n (Predicate namespace action kind arguments) =
      string_run namespace.first namespace.count
      and is_string action.0
      and is_string kind.0 and argument_run n arguments.first arguments.count and zeros_from n 7
  rule_of n (Comparison op l r) = leb (node_word s n 1) 5 and is_operand n l.0 and is_operand n r.0 and zeros_from n 4
  rule_of n (Exists x b) = is_variable x and is_condition n b.0 and zeros_from n 3
  rule_of n (Tp x) = is_variable x and zeros_from n 2
  rule_of n (Literal v) = ltb v.0 (values s) and literal v.0 and zeros_from n 2
  rule_of n (Context path) = leb 1 path.count and path_run path.first path.count and zeros_from n 3
  rule_of n (Scope root path) = leb (node_word s n 1) 1 and path_run path.first path.count and zeros_from n 4
  rule_of n (Variable x) = is_variable x and zeros_from n 2
  rule_of n Wildcard = zeros_from n 1
  rule_of n (Aggregate a) = is_aggregate n a.0 and zeros_from n 2
  rule_of n (Arithmetic op l r) = leb (node_word s n 1) 2 and is_operand n l.0 and is_operand n r.0 and zeros_from n 4
  rule_of n (Sum x binders b) =
      is_variable x and variable_run binders.first binders.count and is_condition n b.0 and zeros_from n 5
  rule_of n (Count binders b) = variable_run binders.first binders.count and is_condition n b.0 and zeros_from n 4
  rule_of n Broken = false

  unfoldable pub node_rule : ℕ → Bool
  node_rule n = rule_of n (node_at s n)

  -- a leaf has 1
  unfoldable pub height : ℕ → ℕ
  height = levels (λ n. arity (node_at s n)) (λ n i. child (list s) (node_at s n) i)

  unfoldable pub height_rule : ℕ → Bool
  height_rule n = leb (height n) 64

  unfoldable pub node_rules : Bool
  node_rules = all_below (nodes s) node_rule and all_below (nodes s) height_rule

  -- ---- the lowest is given

  unfoldable pub check : Option Refusal
  check =
      first_broken (
      (bodies, BadContents)
      ∷ (mosts, TooLarge)
      ∷ (string_rules, BadStrings)
      ∷ (value_rules, BadValues)
      ∷ (point_rules, BadPoints)
      ∷ (node_rules, BadNodes)
      ∷ []
      )

-- a case that passes
pub record Checked (s : List ℕ) : Type 0 where
  pub passes : check s ≡ none
