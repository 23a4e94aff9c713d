use Rattle.std.proofs.Common.{rules}
use mathlib.Core.Path.{ap, sym}
use Rattle.meaning.specs.Calls.{number_of}
use Rattle.refusals.proofs.number.Goals as goal

pub returns-in-BadContents : goal.returns-in-BadContents
unfolding number_of
returns-in-BadContents c = (sym (ap number_of c.in-BadContents.is), search rules)

pub returns-in-TooLarge : goal.returns-in-TooLarge
unfolding number_of
returns-in-TooLarge c = (sym (ap number_of c.in-TooLarge.is), search rules)

pub returns-in-BadStrings : goal.returns-in-BadStrings
unfolding number_of
returns-in-BadStrings c = (sym (ap number_of c.in-BadStrings.is), search rules)

pub returns-in-BadValues : goal.returns-in-BadValues
unfolding number_of
returns-in-BadValues c = (sym (ap number_of c.in-BadValues.is), search rules)

pub returns-in-BadPoints : goal.returns-in-BadPoints
unfolding number_of
returns-in-BadPoints c = (sym (ap number_of c.in-BadPoints.is), search rules)

pub returns-in-BadNodes : goal.returns-in-BadNodes
unfolding number_of
returns-in-BadNodes c = (sym (ap number_of c.in-BadNodes.is), search rules)

pub returns-in-NoSuchPoint : goal.returns-in-NoSuchPoint
unfolding number_of
returns-in-NoSuchPoint c = (sym (ap number_of c.in-NoSuchPoint.is), search rules)

pub returns-in-NoSuchNode : goal.returns-in-NoSuchNode
unfolding number_of
returns-in-NoSuchNode c = (sym (ap number_of c.in-NoSuchNode.is), search rules)

pub returns-in-BadStart : goal.returns-in-BadStart
unfolding number_of
returns-in-BadStart c = (sym (ap number_of c.in-BadStart.is), search rules)

pub returns-in-BadLimits : goal.returns-in-BadLimits
unfolding number_of
returns-in-BadLimits c = (sym (ap number_of c.in-BadLimits.is), search rules)

pub returns-in-StepsExhausted : goal.returns-in-StepsExhausted
unfolding number_of
returns-in-StepsExhausted c = (sym (ap number_of c.in-StepsExhausted.is), search rules)

pub returns-in-RoomExhausted : goal.returns-in-RoomExhausted
unfolding number_of
returns-in-RoomExhausted c = (sym (ap number_of c.in-RoomExhausted.is), search rules)

pub returns-in-BadOutput : goal.returns-in-BadOutput
unfolding number_of
returns-in-BadOutput c = (sym (ap number_of c.in-BadOutput.is), search rules)

pub returns-in-OutputTooShort : goal.returns-in-OutputTooShort
unfolding number_of
returns-in-OutputTooShort c = (sym (ap number_of c.in-OutputTooShort.is), search rules)

pub returns-in-ListTooShort : goal.returns-in-ListTooShort
unfolding number_of
returns-in-ListTooShort c = (sym (ap number_of c.in-ListTooShort.is), search rules)
