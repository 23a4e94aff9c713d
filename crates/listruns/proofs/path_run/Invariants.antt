-- A run holds path names alone: word by word to a block's start, and from there by how far names go on
use Prim.Native.Nat.{◌+◌}
use Rattle.meaning.specs.Check.{path_name}
use Rattle.laws.specs.Tests.{Passing}
use Rattle.listruns.proofs.Runs.{InLists}
use Rattle.listruns.proofs.path_run.Given as goal

abbrev pub invariant-loop-i : goal.invariant-loop-i
invariant-loop-i l = Passing (λ x. path_name l.s (l.first + x)) l.items l.i × InLists l.s 1 l.first l.items
