use Rattle.std.proofs.Common.{rules}
use Rattle.jsonput.specs.Laws.Strings.{opened-first, opened_inside, opened-put}
use Rattle.jsonput.proofs.put_opened.Goals as goal

pub put_byte-first-requires : goal.put_byte-first-requires
put_byte-first-requires c = search (opened-first, rules)

pub put_escaped-requires : goal.put_escaped-requires
put_escaped-requires c = search (opened_inside, rules)

pub returns : goal.returns
returns c = search (opened-put, rules)
