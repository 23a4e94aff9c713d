use Rattle.std.proofs.Common.{rules}
use mathlib.Core.Path.{refl}
use Rattle.meaning.specs.Case.{value_from}
use Rattle.meaning.specs.Tests.{pick}
use Rattle.tables.specs.Values.{meant}
use Rattle.tables.proofs.Choices.{means-int, means_null}
use Rattle.tables.proofs.value_from.Goals as goal

pub returns-in-1 : goal.returns-in-1
unfolding meant value_from pick
returns-in-1 c = record { is = λ part. rw c.in-1.is refl }

pub returns-in-2 : goal.returns-in-2
returns-in-2 c = search (means-int, rules)

pub returns-in-3 : goal.returns-in-3
unfolding meant value_from pick
returns-in-3 c = record { is = λ part. rw c.in-3.is refl }

pub returns-in-4 : goal.returns-in-4
unfolding meant value_from pick
returns-in-4 c = record { is = λ part. rw c.in-4.is refl }

pub returns-in-5 : goal.returns-in-5
unfolding meant value_from pick
returns-in-5 c = record { is = λ part. rw c.in-5.is refl }

pub returns-in-6 : goal.returns-in-6
unfolding meant value_from pick
returns-in-6 c = record { is = λ part. rw c.in-6.is refl }

pub returns-in-7 : goal.returns-in-7
unfolding meant value_from pick
returns-in-7 c = record { is = λ part. rw c.in-7.is refl }

pub returns-in_default : goal.returns-in_default
returns-in_default c = search (means_null, rules)
