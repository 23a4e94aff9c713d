use Rattle.std.proofs.Common.{rules}
use Rattle.encode.specs.Write.{all_marked, none_marked, marks_of}
use Rattle.marking.specs.Runs.{word, word_of, item, item_of}
use Rattle.marking.proofs.Rules.{and-then, and-else, node-as, plain-as}
use Rattle.marking.proofs.node_marks.Goals as goal

pub returns-then-word_run : goal.returns-then-word_run
unfolding marks_of all_marked word_of word item_of item
returns-then-word_run c = search (and-then, node-as, rules)

pub returns-else-word_run : goal.returns-else-word_run
unfolding marks_of all_marked word_of word item_of item
returns-else-word_run c = search (and-else, node-as, rules)

pub returns-in-Context : goal.returns-in-Context
unfolding marks_of all_marked none_marked word_of word
returns-in-Context c = search (node-as, rules)

pub returns-in-Scope : goal.returns-in-Scope
unfolding marks_of all_marked none_marked word_of word
returns-in-Scope c = search (node-as, rules)

pub returns-in-Sum : goal.returns-in-Sum
unfolding marks_of all_marked none_marked word_of word
returns-in-Sum c = search (node-as, rules)

pub returns-in-Count : goal.returns-in-Count
unfolding marks_of all_marked none_marked word_of word
returns-in-Count c = search (node-as, rules)

pub returns-in_default : goal.returns-in_default
returns-in_default c = search (plain-as, rules)
