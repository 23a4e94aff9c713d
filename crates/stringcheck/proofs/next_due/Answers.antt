-- What is due after one more byte, by what was due
use Rattle.std.proofs.Common.{rules}
use mathlib.Core.Path.{sym, ◌∙◌, ap, ◌≡◌}
use Rattle.meaning.specs.declared.Due.{Due}
use Rattle.meaning.specs.Text.{next}
use Prim.Native.Nat.{ℕ}
use Rattle.stringcheck.proofs.next_due.Goals as goal

due_of : {d is r : Due} (b : ℕ) → d ≡ is → r ≡ next is b → r ≡ next d b
due_of b e f = f ∙ sym (ap (λ (d : Due). next d b) e)

pub returns-in-Nothing : goal.returns-in-Nothing
unfolding next
returns-in-Nothing c = search (due_of, rules)

pub returns-in-One : goal.returns-in-One
unfolding next
returns-in-One c = search (due_of, rules)

pub returns-in-Two : goal.returns-in-Two
unfolding next
returns-in-Two c = search (due_of, rules)

pub returns-in-Three : goal.returns-in-Three
unfolding next
returns-in-Three c = search (due_of, rules)

pub returns-in-AfterE0 : goal.returns-in-AfterE0
unfolding next
returns-in-AfterE0 c = search (due_of, rules)

pub returns-in-AfterEd : goal.returns-in-AfterEd
unfolding next
returns-in-AfterEd c = search (due_of, rules)

pub returns-in-AfterF0 : goal.returns-in-AfterF0
unfolding next
returns-in-AfterF0 c = search (due_of, rules)

pub returns-in-AfterF4 : goal.returns-in-AfterF4
unfolding next
returns-in-AfterF4 c = search (due_of, rules)

pub returns-in-Wrong : goal.returns-in-Wrong
unfolding next
returns-in-Wrong c = search rules
