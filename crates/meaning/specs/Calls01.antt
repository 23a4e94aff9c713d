-- The calls as document 01 has them: context and attributes by plain descent, for the theorem that cases without dots keep their answers
use Rattle.std.specs.Prelude.{List, [], ◌∷◌, ℕ}
use Rattle.std.proofs.Math.Option.{Option, none, some}
use Rattle.meaning.specs.declared.Node.{Node}
use Rattle.meaning.specs.declared.Node.TheVariants.{And, Or, Not, Formerly, Previous, Since, Predicate, Comparison, Exists, Tp, Literal, Context, Scope, Variable, Wildcard, Aggregate, Arithmetic, Sum, Count, Broken}
use Rattle.meaning.specs.declared.NodeNo.{NodeNo}
use Rattle.meaning.specs.declared.Root.{Root}
use Rattle.meaning.specs.Below.{made}
use Rattle.meaning.specs.Tests.{or_else}
use Rattle.meaning.specs.Walk.{give}
use Rattle.meaning.specs.Case.{Case, Point, case_of}
use Rattle.meaning.specs.Undotted.{check01}
use Rattle.meaning.specs.Equal.{Bound}
use Rattle.meaning.specs.Look.{descend, bound_at, attributes_of, own_part, entity_of, root_of}
use Rattle.meaning.specs.Meaning.{Meaning, term, resolved, names, meaning_of, no_meaning}
use Rattle.meaning.specs.Calls.{Call, Said, Result, Answer}
use Rattle.meaning.specs.Carried.{Carried}
use Rattle.meaning.specs.Readings.{Reading, check_by, ask_by, rows_by, carried_by}

-- ---- what a path reaches, name by name

unfoldable pub context_at01 : Case → Point → List ℕ → Option Bound
context_at01 c p path = bound_at c (descend c p.context path)

unfoldable pub supplied01 : Case → Option ℕ → List ℕ → Option Bound
supplied01 c none path = none
supplied01 c (some object) path = bound_at c (descend c object path)

unfoldable pub attribute01 : Case → Point → ℕ → List ℕ → Option Bound
attribute01 c p v path =
    elim (entity_of (c.value v)) [
      | none ↦ none
      | some e ↦ or_else (supplied01 c (attributes_of e.0 e.1 p.entities) path) (own_part c e.0 e.1 path)
    ]

unfoldable pub from_root01 : Case → Point → Option ℕ → List ℕ → Option Bound
from_root01 c p none path = none
from_root01 c p (some v) [] = bound_at c (some v)
from_root01 c p (some v) (n ∷ ns) = attribute01 c p v (n ∷ ns)

unfoldable pub scope_at01 : Case → Point → Root → List ℕ → Option Bound
scope_at01 c p root path = from_root01 c p (root_of p root) path

-- ---- what a node means: those two read so, all others as they are

unfoldable pub meaning_of01 : Case → (NodeNo → Meaning) → Node → Meaning
meaning_of01 c of (And l r) = meaning_of c of (And l r)
meaning_of01 c of (Or l r) = meaning_of c of (Or l r)
meaning_of01 c of (Not n) = meaning_of c of (Not n)
meaning_of01 c of (Formerly within n) = meaning_of c of (Formerly within n)
meaning_of01 c of (Previous within n) = meaning_of c of (Previous within n)
meaning_of01 c of (Since l r within) = meaning_of c of (Since l r within)
meaning_of01 c of (Predicate namespace action kind args) = meaning_of c of (Predicate namespace action kind args)
meaning_of01 c of (Comparison op l r) = meaning_of c of (Comparison op l r)
meaning_of01 c of (Exists x n) = meaning_of c of (Exists x n)
meaning_of01 c of (Tp x) = meaning_of c of (Tp x)
meaning_of01 c of (Literal v) = meaning_of c of (Literal v)
meaning_of01 c of (Context path) = term resolved (λ q. give (context_at01 c q.asked (names c path)))
meaning_of01 c of (Scope root path) = term resolved (λ q. give (scope_at01 c q.asked root (names c path)))
meaning_of01 c of (Variable x) = meaning_of c of (Variable x)
meaning_of01 c of Wildcard = meaning_of c of Wildcard
meaning_of01 c of (Aggregate n) = meaning_of c of (Aggregate n)
meaning_of01 c of (Arithmetic op l r) = meaning_of c of (Arithmetic op l r)
meaning_of01 c of (Sum x binders n) = meaning_of c of (Sum x binders n)
meaning_of01 c of (Count binders n) = meaning_of c of (Count binders n)
meaning_of01 c of Broken = meaning_of c of Broken

unfoldable pub meaning01 : Case → ℕ → Meaning
meaning01 c = made no_meaning (λ of k. meaning_of01 c (λ n. of n.0) (c.node k))

-- ---- the calls, with document 01's check

unfoldable pub first : Reading
first = record { check = check01; means = λ s. meaning01 (case_of s) }

unfoldable pub check_call01 : List ℕ → Said (List ℕ)
check_call01 s = check_by first s

unfoldable pub ask_call01 : Call → Result Answer
ask_call01 c = ask_by first c

unfoldable pub rows_call01 : List ℕ → List ℕ → Call → Result ℕ
rows_call01 binders output c = rows_by first binders output c

unfoldable pub carried_call01 : List ℕ → Call → Result Carried
carried_call01 list c = carried_by first list c
