use Rattle.std.proofs.Common.{rules}
use Rattle.writer.proofs.Rules.{fits-long, body-inside, body-put}
use Rattle.writer.proofs.put_body.Goals as goal

pub offset_of-requires : goal.offset_of-requires
offset_of-requires c = search (fits-long, rules)

pub size_of-requires : goal.size_of-requires
size_of-requires c = search (fits-long, rules)

pub slice_bounds-copy_at-end : goal.slice_bounds-copy_at-end
slice_bounds-copy_at-end c = search (body-inside, rules)

pub returns : goal.returns
returns c = (search rules, search (body-put, rules))
