-- How far path names go on, word by word from the lists' end
use Rattle.listruns.proofs.Names.{Reaching}
use Rattle.listruns.proofs.path_blocks.Given as goal

abbrev pub invariant-loop-i : goal.invariant-loop-i
invariant-loop-i l = Reaching l.s l.paths l.i l.end
