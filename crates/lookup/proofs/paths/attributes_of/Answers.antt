use Rattle.std.proofs.Common.{rules}
use Rattle.lookup.proofs.Attributes.{entity-start, entity-found, other_type, other-id, entity-none}
use Rattle.lookup.proofs.paths.attributes_of.Goals.{else-t-list_at-via-then-t-list_at+else-i-list_at, else-t-list_at-via-else-t-list_at}
use Rattle.lookup.proofs.paths.attributes_of.Goals as goal

pub loop-k-init : goal.loop-k-init
loop-k-init c = entity-start _ _ _ _ _

pub loop-k-preserved : goal.loop-k-preserved
loop-k-preserved c = elim c.else-t-list_at.branch [
  | else-t-list_at-via-then-t-list_at+else-i-list_at w ↦ search (other-id, rules)
  | else-t-list_at-via-else-t-list_at w ↦ search (other_type, rules)
]

pub returns-then-i-list_at : goal.returns-then-i-list_at
returns-then-i-list_at c = search (entity-found, rules)

pub returns : goal.returns
returns c = search entity-none depth 1
