use Rattle.std.proofs.Common.{rules}
use Rattle.jsonput.specs.Laws.Values.{decimal-first, decimal-last, decimal-put}
use Rattle.jsonput.proofs.put_decimal.Goals as goal

pub put_after-next-requires : goal.put_after-next-requires
put_after-next-requires c = search (decimal-first, rules)

pub put_piece-requires : goal.put_piece-requires
put_piece-requires c = search (decimal-last, rules)

pub returns : goal.returns
returns c = search (decimal-put, rules)
