use Rattle.std.proofs.Common.{rules}
use Rattle.jsonentities.proofs.Comparing.{keep-within, keep-put}
use Rattle.jsonentities.proofs.sorting.keep_entity.Goals as goal

pub insert-requires : goal.insert-requires
insert-requires c = search (keep-within, rules)

pub returns : goal.returns
returns c = search (keep-put, rules)
