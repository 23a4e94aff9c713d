-- What the bytes hold: each kind of record with unlike words, so that each word shows where it goes
use Rattle.std.specs.Prelude.{◌≡◌, refl, List, [], ◌∷◌, map, ℕ, pos, negsuc}
use Rattle.std.proofs.Math.Option.{none, some}
use Rattle.meaning.specs.declared.Node.TheVariants.{And, Or, Not, Formerly, Previous, Since, Predicate, Comparison, Exists, Tp, Literal, Context, Scope, Variable, Wildcard, Aggregate, Arithmetic, Sum, Count, Broken}
use Rattle.meaning.specs.declared.NodeNo.{NodeNo}
use Rattle.meaning.specs.declared.Run.{Run}
use Rattle.meaning.specs.declared.Interval.{Interval}
use Rattle.meaning.specs.declared.TimeUnit.{TimeUnit}
use Rattle.meaning.specs.declared.TimeUnit.TheVariants.{Seconds, Minutes, Hours, Days}
use Rattle.meaning.specs.declared.CmpOp.TheVariants.{Le, Lt, Ge, Gt, Eq, NotEq}
use Rattle.meaning.specs.declared.ArithOp.TheVariants.{Add, Sub, Mul}
use Rattle.meaning.specs.declared.Root.TheVariants.{Principal, Resource}
use Rattle.meaning.specs.Case.{Null, Boolean, Int, Decimal, Text, Entity, Array, Object, Part, Attributes, conditions, terms, aggregates, broken, text, list, value_at, point_at, node_at, places, sort_of}
use Rattle.meaning.specs.Written.{table, file}
use Rattle.rule_examples.specs.Asked.{all}

-- the words of a record need not make sense: they are read all the same
bytes : List ℕ
bytes =
    file 3 (
    table 2 ((0 ∷ 2 ∷ []) ∷ (2 ∷ 3 ∷ []) ∷ (5 ∷ 1 ∷ []) ∷ [])
    ∷ table 4 (
    (0 ∷ 11 ∷ 12 ∷ 13 ∷ []) ∷ (1 ∷ 11 ∷ 12 ∷ 13 ∷ []) ∷ (2 ∷ 11 ∷ 12 ∷ 13 ∷ []) ∷ (3 ∷ 11 ∷ 12 ∷ 13 ∷ []) ∷ (4 ∷ 11 ∷ 12 ∷ 13 ∷ [])
    ∷ (5 ∷ 11 ∷ 12 ∷ 13 ∷ []) ∷ (6 ∷ 1 ∷ 2 ∷ 13 ∷ []) ∷ (7 ∷ 0 ∷ 3 ∷ 13 ∷ []) ∷ (2 ∷ 4294967291 ∷ 4294967295 ∷ []) ∷ (2 ∷ 0 ∷ 2147483648 ∷ [])
    ∷ (2 ∷ 4294967295 ∷ 2147483647 ∷ []) ∷ []
    )
    ∷ table 2 ((21 ∷ 22 ∷ []) ∷ (23 ∷ 24 ∷ []) ∷ (25 ∷ 26 ∷ []) ∷ [])
    ∷ table 12 (
    (1 ∷ 2 ∷ 1 ∷ 2 ∷ 35 ∷ 36 ∷ 37 ∷ 38 ∷ 39 ∷ 40 ∷ 2 ∷ 2 ∷ [])
    ∷ (4294967295 ∷ 4294967295 ∷ 0 ∷ 0 ∷ 45 ∷ 46 ∷ 47 ∷ 48 ∷ 4294967295 ∷ 4294967295 ∷ 0 ∷ 0 ∷ []) ∷ []
    )
    ∷ table 8 (
    (1 ∷ 11 ∷ 12 ∷ 13 ∷ 14 ∷ 15 ∷ 16 ∷ []) ∷ (2 ∷ 11 ∷ 12 ∷ 13 ∷ 14 ∷ 15 ∷ 16 ∷ []) ∷ (3 ∷ 11 ∷ 12 ∷ 13 ∷ 14 ∷ 15 ∷ 16 ∷ [])
    ∷ (4 ∷ 11 ∷ 12 ∷ 0 ∷ 14 ∷ 15 ∷ 16 ∷ []) ∷ (4 ∷ 11 ∷ 12 ∷ 1 ∷ 14 ∷ 15 ∷ 16 ∷ []) ∷ (5 ∷ 11 ∷ 12 ∷ 2 ∷ 14 ∷ 15 ∷ 16 ∷ []) ∷ (5 ∷ 11 ∷ 12 ∷ 3 ∷ 14 ∷ 15 ∷ 16 ∷ [])
    ∷ (6 ∷ 11 ∷ 12 ∷ 13 ∷ 14 ∷ 3 ∷ 16 ∷ []) ∷ (7 ∷ 11 ∷ 12 ∷ 13 ∷ 14 ∷ 15 ∷ 16 ∷ [])
    ∷ (8 ∷ 0 ∷ 12 ∷ 13 ∷ 14 ∷ 15 ∷ 16 ∷ []) ∷ (8 ∷ 1 ∷ 12 ∷ 13 ∷ []) ∷ (8 ∷ 2 ∷ 12 ∷ 13 ∷ []) ∷ (8 ∷ 3 ∷ 12 ∷ 13 ∷ []) ∷ (8 ∷ 4 ∷ 12 ∷ 13 ∷ []) ∷ (8 ∷ 5 ∷ 12 ∷ 13 ∷ [])
    ∷ (9 ∷ 11 ∷ 12 ∷ 13 ∷ 14 ∷ 15 ∷ 16 ∷ []) ∷ (10 ∷ 11 ∷ 12 ∷ 13 ∷ 14 ∷ 15 ∷ 16 ∷ [])
    ∷ (20 ∷ 11 ∷ 12 ∷ 13 ∷ 14 ∷ 15 ∷ 16 ∷ []) ∷ (21 ∷ 11 ∷ 12 ∷ 13 ∷ 14 ∷ 15 ∷ 16 ∷ []) ∷ (22 ∷ 0 ∷ 12 ∷ 13 ∷ 14 ∷ 15 ∷ 16 ∷ []) ∷ (22 ∷ 1 ∷ 12 ∷ 13 ∷ 14 ∷ 15 ∷ 16 ∷ [])
    ∷ (23 ∷ 11 ∷ 12 ∷ 13 ∷ 14 ∷ 15 ∷ 16 ∷ []) ∷ (24 ∷ 11 ∷ 12 ∷ 13 ∷ 14 ∷ 15 ∷ 16 ∷ []) ∷ (25 ∷ 11 ∷ 12 ∷ 13 ∷ 14 ∷ 15 ∷ 16 ∷ [])
    ∷ (26 ∷ 0 ∷ 12 ∷ 13 ∷ 14 ∷ 15 ∷ 16 ∷ []) ∷ (26 ∷ 1 ∷ 12 ∷ 13 ∷ []) ∷ (26 ∷ 2 ∷ 12 ∷ 13 ∷ [])
    ∷ (30 ∷ 11 ∷ 12 ∷ 13 ∷ 14 ∷ 15 ∷ 16 ∷ []) ∷ (31 ∷ 11 ∷ 12 ∷ 13 ∷ 14 ∷ 15 ∷ 16 ∷ [])
    ∷ (11 ∷ 11 ∷ 12 ∷ 13 ∷ 14 ∷ 15 ∷ 16 ∷ []) ∷ []
    )
    ∷ (51 ∷ 52 ∷ 53 ∷ 54 ∷ 55 ∷ 56 ∷ 57 ∷ 58 ∷ []) ∷ []
    ) (97 ∷ 98 ∷ 99 ∷ 100 ∷ 101 ∷ 102 ∷ [])

texts-held : map (text bytes) (0 ∷ 1 ∷ 2 ∷ []) ≡ ((97 ∷ 98 ∷ []) ∷ (99 ∷ 100 ∷ 101 ∷ []) ∷ (102 ∷ []) ∷ [])
unfolding all bytes
texts-held = refl

lists-held : map (list bytes) (0 ∷ 1 ∷ 7 ∷ 8 ∷ []) ≡ (51 ∷ 52 ∷ 58 ∷ 0 ∷ [])
unfolding all bytes
lists-held = refl

part : ℕ → ℕ → Part
part name value = record { name = name; value = value }

values-held :
    map (value_at bytes) (places 0 1 11) ≡ (
    Null ∷ Boolean 11 ∷ Int (pos 51539607563) ∷ Decimal 11 ∷ Text 11 ∷ Entity 11 12
    ∷ Array (part 23 24 ∷ part 25 26 ∷ [])
    ∷ Object (part 21 22 ∷ part 23 24 ∷ part 25 26 ∷ [])
    ∷ Int (negsuc 4) ∷ Int (negsuc 9223372036854775807) ∷ Int (pos 9223372036854775807) ∷ [])
unfolding all bytes part
values-held = refl

attributes : ℕ → ℕ → ℕ → Attributes
attributes type id object = record { type = type; id = id; object = object }

points-held :
    map (point_at bytes) (0 ∷ 1 ∷ []) ≡ (
    record {
      time = pos 8589934593;
      namespace = 52 ∷ 53 ∷ [];
      action = 35;
      kind = 36;
      logged = 37;
      context = 38;
      principal = some 39;
      resource = some 40;
      entities = attributes 53 54 55 ∷ attributes 56 57 58 ∷ [];
    }
    ∷ record {
      time = negsuc 0;
      namespace = [];
      action = 45;
      kind = 46;
      logged = 47;
      context = 48;
      principal = none;
      resource = none;
      entities = [];
    }
    ∷ [])
unfolding all bytes attributes
points-held = refl

n : ℕ → NodeNo
n k = record { 0 = k }

run : ℕ → ℕ → Run
run a b = record { first = a; count = b }

within : TimeUnit → Interval
within u = record { amount = 51539607563; unit = u }

nodes-held :
    map (node_at bytes) (places 0 1 30) ≡ (
    And (n 11) (n 12) ∷ Or (n 11) (n 12) ∷ Not (n 11)
    ∷ Formerly (within Seconds) (n 14) ∷ Formerly (within Minutes) (n 14) ∷ Previous (within Hours) (n 14) ∷ Previous (within Days) (n 14)
    ∷ Since (n 11) (n 12) (record { amount = 60129542157; unit = Days })
    ∷ Predicate (run 11 12) (record { 0 = 13 }) (record { 0 = 14 }) (run 15 16)
    ∷ Comparison Le (n 12) (n 13) ∷ Comparison Lt (n 12) (n 13) ∷ Comparison Ge (n 12) (n 13)
    ∷ Comparison Gt (n 12) (n 13) ∷ Comparison Eq (n 12) (n 13) ∷ Comparison NotEq (n 12) (n 13)
    ∷ Exists 11 (n 12) ∷ Tp 11
    ∷ Literal (record { 0 = 11 }) ∷ Context (run 11 12) ∷ Scope Principal (run 12 13) ∷ Scope Resource (run 12 13)
    ∷ Variable 11 ∷ Wildcard ∷ Aggregate (n 11)
    ∷ Arithmetic Add (n 12) (n 13) ∷ Arithmetic Sub (n 12) (n 13) ∷ Arithmetic Mul (n 12) (n 13)
    ∷ Sum 11 (run 12 13) (n 14) ∷ Count (run 11 12) (n 13) ∷ Broken ∷ [])
unfolding all bytes n run within
nodes-held = refl

-- the sorts: ten conditions by their kinds, seven terms, two aggregates
sorts-held :
    map (λ k. sort_of (node_at bytes k)) (0 ∷ 1 ∷ 2 ∷ 3 ∷ 5 ∷ 7 ∷ 8 ∷ 9 ∷ 15 ∷ 16 ∷ 17 ∷ 18 ∷ 19 ∷ 21 ∷ 22 ∷ 23 ∷ 24 ∷ 27 ∷ 28 ∷ 29 ∷ []) ≡ (
    conditions ∷ conditions ∷ conditions ∷ conditions ∷ conditions ∷ conditions ∷ conditions ∷ conditions ∷ conditions ∷ conditions
    ∷ terms ∷ terms ∷ terms ∷ terms ∷ terms ∷ terms ∷ terms ∷ aggregates ∷ aggregates ∷ broken ∷ [])
unfolding all bytes
sorts-held = refl
