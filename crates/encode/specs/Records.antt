-- Records with their strings under new numbers: what a finished case holds of an unsorted one
use Rattle.std.specs.Prelude.{◌≡◌, true, List, map, ℕ, ◌<◌, ◌≤◌, ◌/◌}
use Rattle.meaning.specs.declared.Node.{Node}
use Rattle.meaning.specs.declared.Node.TheVariants.{And, Or, Not, Formerly, Previous, Since, Predicate, Comparison, Exists, Tp, Literal, Context, Scope, Variable, Wildcard, Aggregate, Arithmetic, Sum, Count, Broken}
use Rattle.meaning.specs.Tests.{choose}
use Rattle.meaning.specs.Case.{Part, Value, Null, Boolean, Int, Decimal, Text, Entity, Array, Object, Attributes, Point, size, body_word, text, vars, strings, values, points, nodes, list, value_at, point_at, node_at}
use Rattle.encode.specs.Unsorted.{names, number}
use Rattle.encode.specs.Read.{strings_of, others_of}

-- ---- word by word

-- t is s with its strings under new numbers
pub record Renumbered (s marks t : List ℕ) : Type 0 where
  pub vars : vars t ≡ vars s
  -- as many values, members, points, nodes and list words
  pub sizes : (k : ℕ) → 0 < k → k < 6 → size t k ≡ size s k
  -- each of their words is the old one, under its new number where it names a string
  pub word : (k i : ℕ) → 0 < k → k < 6 → i < size s k / 4 → body_word t k i ≡ choose (names s marks k i) (number s (body_word s k i)) (body_word s k i)
  -- the new number of a string is one's too and names the same text
  pub inside : (n : ℕ) → n < strings s → number s n < strings t
  pub text : (n : ℕ) → n < strings s → text t (number s n) ≡ text s n
  -- what named no string names none
  pub outside : (n : ℕ) → strings s ≤ n → strings t ≤ number s n

-- ---- record by record

module _ (new : ℕ → ℕ) where
  unfoldable pub part_under : Part → Part
  part_under p = record { name = new p.name; value = p.value }

  unfoldable pub value_under : Value → Value
  value_under Null = Null
  value_under (Boolean b) = Boolean b
  value_under (Int z) = Int z
  value_under (Decimal t) = Decimal (new t)
  value_under (Text t) = Text (new t)
  value_under (Entity t i) = Entity (new t) (new i)
  value_under (Array parts) = Array (map part_under parts)
  value_under (Object parts) = Object (map part_under parts)

  unfoldable pub entity_under : Attributes → Attributes
  entity_under e = record { type = new e.type; id = new e.id; object = e.object }

  unfoldable pub point_under : Point → Point
  point_under p = record {
    time = p.time;
    namespace = map new p.namespace;
    action = new p.action;
    kind = new p.kind;
    logged = p.logged;
    context = p.context;
    principal = p.principal;
    resource = p.resource;
    entities = map entity_under p.entities;
  }

  -- of a node's own words a Predicate's action and kind
  unfoldable pub node_under : Node → Node
  node_under (And l r) = And l r
  node_under (Or l r) = Or l r
  node_under (Not x) = Not x
  node_under (Formerly span x) = Formerly span x
  node_under (Previous span x) = Previous span x
  node_under (Since l r span) = Since l r span
  node_under (Predicate namespace action kind arguments) =
      Predicate namespace (record { 0 = new action.0 }) (record { 0 = new kind.0 }) arguments
  node_under (Comparison op l r) = Comparison op l r
  node_under (Exists x b) = Exists x b
  node_under (Tp x) = Tp x
  node_under (Literal v) = Literal v
  node_under (Context path) = Context path
  node_under (Scope root path) = Scope root path
  node_under (Variable x) = Variable x
  node_under Wildcard = Wildcard
  node_under (Aggregate a) = Aggregate a
  node_under (Arithmetic op l r) = Arithmetic op l r
  node_under (Sum x binders b) = Sum x binders b
  node_under (Count binders b) = Count binders b
  node_under Broken = Broken

-- every record of t is the one of s, with its strings under new numbers
pub record SameRecords (s t : List ℕ) : Type 0 where
  pub value : (v : ℕ) → v < values s → value_at t v ≡ value_under (number s) (value_at s v)
  pub point : (p : ℕ) → p < points s → point_at t p ≡ point_under (number s) (point_at s p)
  pub node : (n : ℕ) → n < nodes s → node_at t n ≡ node_under (number s) (node_at s n)
  -- and so are the list words that its nodes use
  pub string : (n i : ℕ) → n < nodes s → strings_of t (node_at t n) i ≡ true → list t i ≡ number s (list s i)
  pub other : (n i : ℕ) → n < nodes s → others_of t (node_at t n) i ≡ true → list t i ≡ list s i
