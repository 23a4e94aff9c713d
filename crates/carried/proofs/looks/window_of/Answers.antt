use Rattle.std.proofs.Common.{rules}
use Rattle.carried.proofs.Looking.{window-formerly, window-previous, window-since}
use Rattle.carried.proofs.looks.window_of.Goals as goal

pub returns-in-Formerly : goal.returns-in-Formerly
returns-in-Formerly c = search (window-formerly, rules)

pub returns-in-Previous : goal.returns-in-Previous
returns-in-Previous c = search (window-previous, rules)

pub returns-in-Since : goal.returns-in-Since
returns-in-Since c = search (window-since, rules)
