use Rattle.std.proofs.Common.{rules}
use Rattle.jsonput.specs.Laws.Values.{name-none, name-room, colon-room, name-put}
use Rattle.laws.specs.Checked.{checked-bodies}
use Rattle.jsonput.proofs.put_name.Goals as goal

pub returns-then-kind-ne7 : goal.returns-then-kind-ne7
returns-then-kind-ne7 c = search (name-none, rules)

pub member_word-requires : goal.member_word-requires
member_word-requires c = search (checked-bodies, rules)

pub put_string-next-requires : goal.put_string-next-requires
put_string-next-requires c = search (name-room, rules)

pub put_byte-requires : goal.put_byte-requires
put_byte-requires c = search (colon-room, rules)

pub returns : goal.returns
returns c = search (name-put, rules)
