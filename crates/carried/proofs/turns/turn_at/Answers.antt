use Rattle.std.proofs.Common.{rules}
use Rattle.carried.proofs.Asked.{turn-formerly, turn-previous, turn-since, still-low}
use Rattle.carried.proofs.turns.turn_at.Goals as goal

pub body_turn-requires-clause-j_bound : goal.body_turn-requires-clause-j_bound
body_turn-requires-clause-j_bound c = search (still-low, rules)

pub body_turn-requires-in-Previous-clause-j_bound : goal.body_turn-requires-in-Previous-clause-j_bound
body_turn-requires-in-Previous-clause-j_bound c = search (still-low, rules)

pub returns-in-Formerly : goal.returns-in-Formerly
returns-in-Formerly c = search (turn-formerly, rules)

pub returns-in-Previous : goal.returns-in-Previous
returns-in-Previous c = search (turn-previous, rules)

pub returns-in-Since : goal.returns-in-Since
returns-in-Since c = search (turn-since, rules)
