use Rattle.std.proofs.Common.{rules}
use Rattle.jsonput.specs.Laws.Values.{string-room, string-put}
use Rattle.laws.specs.Checked.{checked-bodies, checked-strings}
use Rattle.jsonput.proofs.put_string.Goals as goal

pub text_of-requires : goal.text_of-requires
text_of-requires c = search (checked-bodies, checked-strings, rules)

pub put_quoted-requires : goal.put_quoted-requires
put_quoted-requires c = search (string-room, rules)

pub returns : goal.returns
returns c = search (string-put, rules)
