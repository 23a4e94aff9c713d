use Rattle.std.proofs.Common.{inl, inr, rules}
use Rattle.jsonclear.specs.Laws.Names.{own-other, own-many, own_name}
use Rattle.laws.specs.Checked.{checked-bodies, checked-strings}
use Rattle.jsonclear.proofs.own_clear.Goals.{then-h-ne7, else-h-ne7}
use Rattle.jsonclear.proofs.own_clear.Goals as goal

pub returns-then-h-ne1 : goal.returns-then-h-ne1
returns-then-h-ne1 c = elim c.if-h-ne7.branch [ then-h-ne7 w ↦ search (own-other, rules) | else-h-ne7 w ↦ elim c.if-h-ne1.either [ inl n ↦ absurd (n w.if-h-ne7.false) | inr p ↦ search (own-many, rules) ] ]

pub member_word-requires : goal.member_word-requires
member_word-requires c = search (checked-bodies, rules)

pub text_of-requires-clause-s_value : goal.text_of-requires-clause-s_value
text_of-requires-clause-s_value c = search (checked-bodies, rules)

pub text_of-requires-clause-s_value_2 : goal.text_of-requires-clause-s_value_2
text_of-requires-clause-s_value_2 c = search (checked-strings, rules)

pub returns-else-h-ne1 : goal.returns-else-h-ne1
returns-else-h-ne1 c = elim c.if-h-ne7.branch [ then-h-ne7 w ↦ search (own_name, rules) | else-h-ne7 w ↦ search (own_name, rules) ]
