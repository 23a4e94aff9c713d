use Rattle.std.proofs.Common.{rules}
use Rattle.writer.proofs.Rules.{contents-long, contents-fit, contents-put}
use Rattle.writer.proofs.put_contents.Goals as goal

pub slice_bounds-copy_at-end : goal.slice_bounds-copy_at-end
slice_bounds-copy_at-end c = search (contents-long, rules)

pub copy_at-requires : goal.copy_at-requires
copy_at-requires c = search (contents-fit, rules)

pub returns : goal.returns
returns c = search (contents-put, rules)
