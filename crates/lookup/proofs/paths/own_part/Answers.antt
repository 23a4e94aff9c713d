use Rattle.std.proofs.Common.{rules}
use Rattle.laws.specs.Checked.{checked-bodies, checked-strings}
use Rattle.lookup.proofs.Attributes.{own-none, own-id, own-type, own-neither}
use Rattle.lookup.proofs.paths.own_part.Goals as goal

pub returns-then-path-ne1 : goal.returns-then-path-ne1
returns-then-path-ne1 c = own-none _ _ _ _ c.if-path-ne1.true

pub list_at-requires : goal.list_at-requires
list_at-requires c = search (checked-bodies, rules)

pub text_of-name-requires : goal.text_of-name-requires
text_of-name-requires c = search (checked-bodies, checked-strings, rules)

pub returns-then-is_id : goal.returns-then-is_id
returns-then-is_id c = search (own-id, rules)

pub returns-then-is_type : goal.returns-then-is_type
returns-then-is_type c = search (own-type, rules)

pub returns : goal.returns
returns c = search (own-neither, rules)
