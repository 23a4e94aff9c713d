use Rattle.leaf_table.specs.Passes.{passes}
use Rattle.leaf_table.proofs.case.replay_case.Goals as goal

pub replay-requires : goal.replay-requires
replay-requires c d = passes
