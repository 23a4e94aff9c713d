use Rattle.std.proofs.Common.{rules}
use Rattle.jsonread.proofs.Firsts.{only_end, only-other, only-more, only-there}
use Rattle.jsonread.proofs.forms.only_form.Goals as goal

pub returns-then-line-colon : goal.returns-then-line-colon
returns-then-line-colon c = search (only_end, rules)

pub returns-then-line-colon-ne58 : goal.returns-then-line-colon-ne58
returns-then-line-colon-ne58 c = search (only-other, rules)

pub returns-then-not-closes_first : goal.returns-then-not-closes_first
returns-then-not-closes_first c = search (only-more, rules)

pub returns : goal.returns
returns c = search (only-there, rules)
