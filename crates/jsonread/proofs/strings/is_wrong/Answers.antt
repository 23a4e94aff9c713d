use Rattle.std.proofs.Common.{rules}
use Rattle.jsontext.specs.Strings.{is_wrong}
use Rattle.jsonread.proofs.strings.is_wrong.Goals as goal

pub returns-in-Nothing : goal.returns-in-Nothing
unfolding is_wrong
returns-in-Nothing c = search rules

pub returns-in-One : goal.returns-in-One
unfolding is_wrong
returns-in-One c = search rules

pub returns-in-Two : goal.returns-in-Two
unfolding is_wrong
returns-in-Two c = search rules

pub returns-in-Three : goal.returns-in-Three
unfolding is_wrong
returns-in-Three c = search rules

pub returns-in-AfterE0 : goal.returns-in-AfterE0
unfolding is_wrong
returns-in-AfterE0 c = search rules

pub returns-in-AfterEd : goal.returns-in-AfterEd
unfolding is_wrong
returns-in-AfterEd c = search rules

pub returns-in-AfterF0 : goal.returns-in-AfterF0
unfolding is_wrong
returns-in-AfterF0 c = search rules

pub returns-in-AfterF4 : goal.returns-in-AfterF4
unfolding is_wrong
returns-in-AfterF4 c = search rules

pub returns-in-Wrong : goal.returns-in-Wrong
unfolding is_wrong
returns-in-Wrong c = search rules
