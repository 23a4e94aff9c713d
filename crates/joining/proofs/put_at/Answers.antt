use Rattle.joining.proofs.Moves.{put_one}
use Rattle.std.proofs.Common.{rules}
use Rattle.joining.proofs.put_at.Goals as goal

pub returns : goal.returns
returns c = search (put_one, rules)
