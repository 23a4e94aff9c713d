use Rattle.std.proofs.Common.{rules}
use Rattle.telling.proofs.Logs.{number_20, number_21, number_22, number_23, number_24}
use Rattle.telling.proofs.fault_number.Goals as goal

pub returns-in-NotJson : goal.returns-in-NotJson
returns-in-NotJson c = search (number_20, rules)

pub returns-in-RepeatedName : goal.returns-in-RepeatedName
returns-in-RepeatedName c = search (number_21, rules)

pub returns-in-BadNumber : goal.returns-in-BadNumber
returns-in-BadNumber c = search (number_22, rules)

pub returns-in-BadField : goal.returns-in-BadField
returns-in-BadField c = search (number_23, rules)

pub returns-in-TooDeep : goal.returns-in-TooDeep
returns-in-TooDeep c = search (number_24, rules)
