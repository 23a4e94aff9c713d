-- The attribute object that a point has of an entity
use Rattle.lookup.proofs.Attributes.{EntityFrom}
use Rattle.lookup.proofs.paths.attributes_of.Given as goal

abbrev pub invariant-loop-k : goal.invariant-loop-k
invariant-loop-k l = EntityFrom l.s l.t.0 l.i.0 l.first l.count l.k
