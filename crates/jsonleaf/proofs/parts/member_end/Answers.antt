use Rattle.std.proofs.Common.{rules}
use Rattle.jsonadds.proofs.Passing.{member-name, member-colon, member-value, member-ends}
use Rattle.std.proofs.Common.{rules}
use Rattle.jsonleaf.proofs.parts.member_end.Goals as goal

pub string_end-requires : goal.string_end-requires
string_end-requires c = search (member-name, rules)

pub after_sign-requires : goal.after_sign-requires
after_sign-requires c = search (member-colon, rules)

pub value_end-requires : goal.value_end-requires
value_end-requires c = search (member-value, rules)

pub returns : goal.returns
returns c = search (member-ends, rules)
