use Rattle.std.proofs.Common.{rules}
use Rattle.jsonput.specs.Laws.Strings.{quoted-first, quoted-last, quoted-put}
use Rattle.jsonput.proofs.put_quoted.Goals as goal

pub put_opened-last-requires : goal.put_opened-last-requires
put_opened-last-requires c = search (quoted-first, rules)

pub put_byte-requires : goal.put_byte-requires
put_byte-requires c = search (quoted-last, rules)

pub returns : goal.returns
returns c = search (quoted-put, rules)
