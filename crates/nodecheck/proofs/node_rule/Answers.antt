-- The rule of a node, by what it is
use Rattle.std.proofs.Common.{rules}
use Rattle.meaning.specs.Check.{rule_of}
use Rattle.nodecheck.proofs.Parts.{by-node}
use Rattle.nodecheck.proofs.node_rule.Goals as goal

pub returns-in-And : goal.returns-in-And
unfolding rule_of
returns-in-And c = search (by-node, rules)

pub returns-in-Or : goal.returns-in-Or
unfolding rule_of
returns-in-Or c = search (by-node, rules)

pub returns-in-Not : goal.returns-in-Not
unfolding rule_of
returns-in-Not c = search (by-node, rules)

pub returns-in-Formerly : goal.returns-in-Formerly
unfolding rule_of
returns-in-Formerly c = search (by-node, rules)

pub returns-in-Previous : goal.returns-in-Previous
unfolding rule_of
returns-in-Previous c = search (by-node, rules)

pub returns-in-Since : goal.returns-in-Since
unfolding rule_of
returns-in-Since c = search (by-node, rules)

pub returns-in-Predicate : goal.returns-in-Predicate
unfolding rule_of
returns-in-Predicate c = search (by-node, rules)

pub returns-in-Comparison : goal.returns-in-Comparison
unfolding rule_of
returns-in-Comparison c = search (by-node, rules)

pub returns-in-Exists : goal.returns-in-Exists
unfolding rule_of
returns-in-Exists c = search (by-node, rules)

pub returns-in-Tp : goal.returns-in-Tp
unfolding rule_of
returns-in-Tp c = search (by-node, rules)

pub returns-in-Literal : goal.returns-in-Literal
unfolding rule_of
returns-in-Literal c = search (by-node, rules)

pub returns-in-Context : goal.returns-in-Context
unfolding rule_of
returns-in-Context c = search (by-node, rules)

pub returns-in-Scope : goal.returns-in-Scope
unfolding rule_of
returns-in-Scope c = search (by-node, rules)

pub returns-in-Variable : goal.returns-in-Variable
unfolding rule_of
returns-in-Variable c = search (by-node, rules)

pub returns-in-Wildcard : goal.returns-in-Wildcard
unfolding rule_of
returns-in-Wildcard c = search (by-node, rules)

pub returns-in-Aggregate : goal.returns-in-Aggregate
unfolding rule_of
returns-in-Aggregate c = search (by-node, rules)

pub returns-in-Arithmetic : goal.returns-in-Arithmetic
unfolding rule_of
returns-in-Arithmetic c = search (by-node, rules)

pub returns-in-Sum : goal.returns-in-Sum
unfolding rule_of
returns-in-Sum c = search (by-node, rules)

pub returns-in-Count : goal.returns-in-Count
unfolding rule_of
returns-in-Count c = search (by-node, rules)

pub returns-in-Broken : goal.returns-in-Broken
unfolding rule_of
returns-in-Broken c = search (by-node, rules)
