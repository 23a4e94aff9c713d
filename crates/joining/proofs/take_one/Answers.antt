use Rattle.joining.proofs.Guessing.{grows-more, grows_same, grows-not}
use Rattle.std.proofs.Common.{rules}
use Rattle.joining.proofs.take_one.Goals as goal

pub returns-then-follows : goal.returns-then-follows
returns-then-follows c = search (grows-more, rules)

pub returns-then-repeats : goal.returns-then-repeats
returns-then-repeats c = search (grows_same, rules)

pub returns : goal.returns
returns c = search (grows-not, rules)
