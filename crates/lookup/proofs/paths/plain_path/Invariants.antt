use Rattle.lookup.proofs.Searching.{PlainAt}
use Rattle.lookup.proofs.paths.plain_path.Given as goal

abbrev pub invariant-loop-i : goal.invariant-loop-i
invariant-loop-i l = PlainAt l.s l.first l.i-end l.i
