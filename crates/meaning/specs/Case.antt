-- The case file: its contents, bodies and records, read from its bytes
use Rattle.std.specs.Prelude.{List, [], ◌∷◌, map, Bool, true, false, not, ℕ, zero, suc, ◌+◌, ◌*◌, ◌/◌, eqb, get_or, take, drop, ℤ}
use Rattle.std.proofs.Math.Option.{Option}
use Rattle.std.proofs.Common.{to_z}
use Rattle.std.specs.Int.{w64}
use Rattle.meaning.specs.declared.Node.{Node}
use Rattle.meaning.specs.declared.Node.TheVariants.{And, Or, Not, Formerly, Previous, Since, Predicate, Comparison, Exists, Tp, Literal, Context, Scope, Variable, Wildcard, Aggregate, Arithmetic, Sum, Count, Broken}
use Rattle.meaning.specs.declared.NodeNo.{NodeNo}
use Rattle.meaning.specs.declared.Run.{Run}
use Rattle.meaning.specs.declared.Interval.{Interval}
use Rattle.meaning.specs.declared.TimeUnit.{TimeUnit}
use Rattle.meaning.specs.declared.TimeUnit.TheVariants.{Seconds, Minutes, Hours, Days}
use Rattle.meaning.specs.declared.CmpOp.{CmpOp}
use Rattle.meaning.specs.declared.CmpOp.TheVariants.{Le, Lt, Ge, Gt, Eq, NotEq}
use Rattle.meaning.specs.declared.ArithOp.{ArithOp}
use Rattle.meaning.specs.declared.ArithOp.TheVariants.{Add, Sub, Mul}
use Rattle.meaning.specs.declared.Root.{Root}
use Rattle.meaning.specs.declared.Root.TheVariants.{Principal, Resource}
use Rattle.meaning.specs.Tests.{choose, only_if, pick}

-- ---- words, 32 bits, little-endian

abbrev pub word : ℕ → ℕ → ℕ → ℕ → ℕ
word a b c d = a + 256 * (b + 256 * (c + 256 * d))

unfoldable pub words : List ℕ → List ℕ
words [] = []
words (a ∷ []) = []
words (a ∷ b ∷ []) = []
words (a ∷ b ∷ c ∷ []) = []
words (a ∷ b ∷ c ∷ d ∷ rest) = word a b c d ∷ words rest

-- what stands for none
abbrev pub nothing : ℕ
nothing = 4294967295

-- ---- a file by its bytes

module _ (s : List ℕ) where
  -- word i of the contents: the edition, V, and for each body its offset and length
  unfoldable pub contents : ℕ → ℕ
  contents i = get_or (words s) i 0

  unfoldable pub offset : ℕ → ℕ
  offset k = contents (2 + 2 * k)

  unfoldable pub size : ℕ → ℕ
  size k = contents (3 + 2 * k)

  -- body 0 strings, 1 values, 2 members, 3 points, 4 nodes, 5 lists, 6 text
  unfoldable pub body : ℕ → List ℕ
  body k = take (size k) (drop (offset k) s)

  unfoldable pub body_word : ℕ → ℕ → ℕ
  body_word k i = get_or (words (body k)) i 0

  abbrev pub vars : ℕ
  vars = contents 1

  abbrev pub strings : ℕ
  strings = size 0 / 8

  abbrev pub values : ℕ
  values = size 1 / 16

  abbrev pub members : ℕ
  members = size 2 / 8

  abbrev pub points : ℕ
  points = size 3 / 48

  abbrev pub nodes : ℕ
  nodes = size 4 / 32

  abbrev pub lists : ℕ
  lists = size 5 / 4

  -- word j of record k
  unfoldable pub string_word : ℕ → ℕ → ℕ
  string_word k j = body_word 0 (2 * k + j)

  unfoldable pub value_word : ℕ → ℕ → ℕ
  value_word k j = body_word 1 (4 * k + j)

  unfoldable pub member_word : ℕ → ℕ → ℕ
  member_word k j = body_word 2 (2 * k + j)

  unfoldable pub point_word : ℕ → ℕ → ℕ
  point_word k j = body_word 3 (12 * k + j)

  unfoldable pub node_word : ℕ → ℕ → ℕ
  node_word k j = body_word 4 (8 * k + j)

  unfoldable pub list : ℕ → ℕ
  list i = body_word 5 i

  -- a string's bytes
  unfoldable pub text : ℕ → List ℕ
  text k = take (string_word k 1) (drop (string_word k 0) (body 6))

-- ---- what the records say

-- a member: a string's number or `nothing`, and a value's number
pub record Part : Type 0 where
  pub name : ℕ
  pub value : ℕ

pub data Value : Type 0 where
  Null : Value
  Boolean : ℕ → Value
  Int : ℤ → Value
  Decimal : ℕ → Value
  Text : ℕ → Value
  Entity : ℕ → ℕ → Value
  Array : List Part → Value
  Object : List Part → Value

-- an entity's attribute record
pub record Attributes : Type 0 where
  pub type : ℕ
  pub id : ℕ
  pub object : ℕ

pub record Point : Type 0 where
  pub time : ℤ
  pub namespace : List ℕ
  pub action : ℕ
  pub kind : ℕ
  pub logged : ℕ
  pub context : ℕ
  pub principal : Option ℕ
  pub resource : Option ℕ
  pub entities : List Attributes

-- what a node's meaning goes by: strings, values and nodes by number, and the words of the lists
pub record Case : Type 0 where
  pub text : ℕ → List ℕ
  pub value : ℕ → Value
  pub node : ℕ → Node
  pub list : ℕ → ℕ

-- ---- runs

-- the numbers first, first + width, .. of so many items
unfoldable pub places : ℕ → ℕ → ℕ → List ℕ
places first width zero = []
places first width (suc count) = first ∷ places (first + width) width count

-- the words that a run of the lists names
unfoldable pub run_of : (ℕ → ℕ) → Run → List ℕ
run_of list r = map list (places r.first 1 r.count)

abbrev pub run : ℕ → ℕ → Run
run first count = record { first = first; count = count }

-- ---- from words

-- two halves of a signed number
unfoldable pub signed : ℕ → ℕ → ℤ
signed low high = to_z w64 (low + 4294967296 * high)

unfoldable pub maybe : ℕ → Option ℕ
maybe n = only_if (not (eqb n nothing)) n

unfoldable pub unit_of : ℕ → TimeUnit
unit_of u = pick (Seconds ∷ Minutes ∷ Hours ∷ Days ∷ []) u Seconds

unfoldable pub cmp_of : ℕ → CmpOp
cmp_of o = pick (Le ∷ Lt ∷ Ge ∷ Gt ∷ Eq ∷ NotEq ∷ []) o Le

unfoldable pub arith_of : ℕ → ArithOp
arith_of o = pick (Add ∷ Sub ∷ Mul ∷ []) o Add

unfoldable pub root_from : ℕ → Root
root_from o = pick (Principal ∷ Resource ∷ []) o Principal

abbrev pub interval : ℕ → ℕ → ℕ → Interval
interval low high unit = record { amount = low + 4294967296 * high; unit = unit_of unit }

abbrev node : ℕ → NodeNo
node n = record { 0 = n }

-- the node under a kind
unfoldable pub under : ℕ → List (ℕ × Node) → Node
under k [] = Broken
under k (e ∷ es) = choose (eqb k e.0) e.1 (under k es)

-- a node from its kind and its operands
unfoldable pub node_from : ℕ → ℕ → ℕ → ℕ → ℕ → ℕ → ℕ → Node
node_from k a b c d e f =
    under k (
    (1, And (node a) (node b))
    ∷ (2, Or (node a) (node b))
    ∷ (3, Not (node a))
    ∷ (4, Formerly (interval a b c) (node d))
    ∷ (5, Previous (interval a b c) (node d))
    ∷ (6, Since (node a) (node b) (interval c d e))
    ∷ (7, Predicate (run a b) (record { 0 = c }) (record { 0 = d }) (run e f))
    ∷ (8, Comparison (cmp_of a) (node b) (node c))
    ∷ (9, Exists a (node b))
    ∷ (10, Tp a)
    ∷ (20, Literal (record { 0 = a }))
    ∷ (21, Context (run a b))
    ∷ (22, Scope (root_from a) (run b c))
    ∷ (23, Variable a)
    ∷ (24, Wildcard)
    ∷ (25, Aggregate (node a))
    ∷ (26, Arithmetic (arith_of a) (node b) (node c))
    ∷ (30, Sum a (run b c) (node d))
    ∷ (31, Count (run a b) (node c))
    ∷ []
    )

-- a value from its kind, its words and the members
unfoldable pub value_from : (ℕ → Part) → ℕ → ℕ → ℕ → Value
value_from part k a b =
    pick (
    Null ∷ Boolean a ∷ Int (signed a b) ∷ Decimal a ∷ Text a ∷ Entity a b
    ∷ Array (map part (places a 1 b)) ∷ Object (map part (places a 1 b)) ∷ []
    ) k Null

-- ---- a file's records

module _ (s : List ℕ) where
  unfoldable pub part_at : ℕ → Part
  part_at m = record { name = member_word s m 0; value = member_word s m 1 }

  unfoldable pub value_at : ℕ → Value
  value_at v = value_from part_at (value_word s v 0) (value_word s v 1) (value_word s v 2)

  unfoldable pub entity_at : ℕ → Attributes
  entity_at i = record { type = list s i; id = list s (i + 1); object = list s (i + 2) }

  unfoldable pub point_at : ℕ → Point
  point_at p = record {
    time = signed (point_word s p 0) (point_word s p 1);
    namespace = run_of (list s) (run (point_word s p 2) (point_word s p 3));
    action = point_word s p 4;
    kind = point_word s p 5;
    logged = point_word s p 6;
    context = point_word s p 7;
    principal = maybe (point_word s p 8);
    resource = maybe (point_word s p 9);
    entities = map entity_at (places (point_word s p 10) 3 (point_word s p 11));
  }

  unfoldable pub node_at : ℕ → Node
  node_at n =
      node_from (node_word s n 0) (node_word s n 1) (node_word s n 2) (node_word s n 3)
      (node_word s n 4) (node_word s n 5) (node_word s n 6)

  unfoldable pub case_of : Case
  case_of = record { text = text s; value = value_at; node = node_at; list = list s }

-- ---- nodes: their sorts and their children

pub data Sort : Type 0 where
  conditions terms aggregates broken : Sort

unfoldable pub is_sort : Sort → Sort → Bool
is_sort conditions s = elim s [ conditions ↦ true | terms ↦ false | aggregates ↦ false | broken ↦ false ]
is_sort terms s = elim s [ conditions ↦ false | terms ↦ true | aggregates ↦ false | broken ↦ false ]
is_sort aggregates s = elim s [ conditions ↦ false | terms ↦ false | aggregates ↦ true | broken ↦ false ]
is_sort broken s = elim s [ conditions ↦ false | terms ↦ false | aggregates ↦ false | broken ↦ true ]

-- a Predicate's children are its arguments' terms
pub data Children : Type 0 where
  leaf : Children
  one : NodeNo → Children
  two : NodeNo → NodeNo → Children
  arguments : Run → Children

-- a node's sort and its children
abbrev pub about : Node → Sort × Children
about (And l r) = (conditions, two l r)
about (Or l r) = (conditions, two l r)
about (Not n) = (conditions, one n)
about (Formerly span n) = (conditions, one n)
about (Previous span n) = (conditions, one n)
about (Since l r span) = (conditions, two l r)
about (Predicate namespace action kind args) = (conditions, arguments args)
about (Comparison op l r) = (conditions, two l r)
about (Exists x n) = (conditions, one n)
about (Tp x) = (conditions, leaf)
about (Literal v) = (terms, leaf)
about (Context path) = (terms, leaf)
about (Scope root path) = (terms, leaf)
about (Variable x) = (terms, leaf)
about Wildcard = (terms, leaf)
about (Aggregate n) = (terms, one n)
about (Arithmetic op l r) = (terms, two l r)
about (Sum x binders n) = (aggregates, one n)
about (Count binders n) = (aggregates, one n)
about Broken = (broken, leaf)

unfoldable pub sort_of : Node → Sort
sort_of n = (about n).0

abbrev pub how_many : Children → ℕ
how_many leaf = 0
how_many (one n) = 1
how_many (two l r) = 2
how_many (arguments args) = args.count

-- child i, where the lists hold the arguments: path run, term
abbrev pub child_of : (ℕ → ℕ) → Children → ℕ → ℕ
child_of list leaf i = 0
child_of list (one n) i = n.0
child_of list (two l r) i = pick (l.0 ∷ r.0 ∷ []) i 0
child_of list (arguments args) i = list (args.first + 3 * i + 2)

unfoldable pub arity : Node → ℕ
arity n = how_many (about n).1

unfoldable pub child : (ℕ → ℕ) → Node → ℕ → ℕ
child list n i = child_of list (about n).1 i
