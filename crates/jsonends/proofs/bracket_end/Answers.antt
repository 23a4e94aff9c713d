use Rattle.std.proofs.Common.{rules}
use Rattle.jsonends.proofs.Ends.{nest-start, nest-below, nest_closer, nest-room, nest-string, nest-less, nest-past, nest-onward, nest-shut}
use Rattle.jsonends.proofs.bracket_end.Goals as goal

pub loop-depth-init : goal.loop-depth-init
loop-depth-init c = search (nest-start, rules)

pub bounds-line-i : goal.bounds-line-i
bounds-line-i c = search (nest-below, rules)

pub string_end-i-requires : goal.string_end-i-requires
string_end-i-requires c = search (nest-string, rules)

pub loop-depth-smaller-then-c-eq34 : goal.loop-depth-smaller-then-c-eq34
loop-depth-smaller-then-c-eq34 c = search (nest-less, rules)

pub loop-depth-preserved-then-c-eq34 : goal.loop-depth-preserved-then-c-eq34
loop-depth-preserved-then-c-eq34 c = search (nest-past, rules)

pub depth_after-depth-requires : goal.depth_after-depth-requires
depth_after-depth-requires c = search (nest-room, rules)

pub loop-depth-smaller : goal.loop-depth-smaller
loop-depth-smaller c = search (nest_closer, rules)

pub loop-depth-preserved : goal.loop-depth-preserved
loop-depth-preserved c = search (nest-onward, rules)

pub returns : goal.returns
returns c = search (nest-shut, rules)
