use Rattle.std.proofs.Common.{rules}
use Rattle.jsonpoints.specs.Laws.{line_first, line_second, line-put}
use Rattle.jsonpoints.proofs.put_line.Goals as goal

pub put_fields-next-requires-clause-p_in_bounds : goal.put_fields-next-requires-clause-p_in_bounds
put_fields-next-requires-clause-p_in_bounds c = search (line_first, rules)

pub put_piece-requires : goal.put_piece-requires
put_piece-requires c = search (line_second, rules)

pub returns : goal.returns
returns c = search (line-put, rules)
