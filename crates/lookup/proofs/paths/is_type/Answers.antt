use Rattle.lookup.proofs.Attributes.{same_pointwise}
use Rattle.lookup.proofs.paths.is_type.Goals as goal

pub returns : goal.returns
returns c = cc (same_pointwise c.args.s.now c.as_slice.result.now)
