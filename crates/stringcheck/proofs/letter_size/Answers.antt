-- How many bytes a letter has, by what is due after its first
use Rattle.std.proofs.Common.{rules}
use Rattle.stringcheck.specs.Letters.{size_after}
use Rattle.stringcheck.proofs.Letters.{letter-sized, whole_is}
use Rattle.stringcheck.proofs.letter_size.Goals as goal

pub returns-in-Nothing : goal.returns-in-Nothing
unfolding size_after
returns-in-Nothing c = search (letter-sized, rules)

pub returns-in-One : goal.returns-in-One
unfolding size_after
returns-in-One c = search (letter-sized, whole_is, rules)

pub returns-in-Two : goal.returns-in-Two
unfolding size_after
returns-in-Two c = search (letter-sized, whole_is, rules)

pub returns-in-Three : goal.returns-in-Three
unfolding size_after
returns-in-Three c = search (letter-sized, whole_is, rules)

pub returns-in-AfterE0 : goal.returns-in-AfterE0
unfolding size_after
returns-in-AfterE0 c = search (letter-sized, whole_is, rules)

pub returns-in-AfterEd : goal.returns-in-AfterEd
unfolding size_after
returns-in-AfterEd c = search (letter-sized, whole_is, rules)

pub returns-in-AfterF0 : goal.returns-in-AfterF0
unfolding size_after
returns-in-AfterF0 c = search (letter-sized, whole_is, rules)

pub returns-in-AfterF4 : goal.returns-in-AfterF4
unfolding size_after
returns-in-AfterF4 c = search (letter-sized, whole_is, rules)

pub returns-in-Wrong : goal.returns-in-Wrong
unfolding size_after
returns-in-Wrong c = search (letter-sized, rules)
