-- A call of the list that there is room for
use Rattle.std.specs.Prelude.{◌<◌, ◌≤◌}
use Rattle.replay.specs.declared.listed.Listed.{Listed}

pub record Known (c : Listed) : Type 0 where
  pub kind : c.kind < 3
  pub refusal : c.refusal < 14
  pub start : c.start ≤ 64
  pub binders : c.binders ≤ 64
  pub workspace : c.workspace ≤ 1600
  pub output : c.output ≤ 1600
  pub filled : c.filled ≤ 256
