use Rattle.std.proofs.Common.{rules}
use Rattle.jsonruns.proofs.Pairs.{pair-start, pair-within, pair-name, pair-colon, pair-value, pair-past, pair-less, pair-again, pair-first, pair-second, pair-closed}
use Rattle.jsonruns.proofs.pair_of.Goals as goal

pub loop-next-init : goal.loop-next-init
loop-next-init c = search (pair-start, rules)

pub is_first-one-requires : goal.is_first-one-requires
is_first-one-requires c = search (pair-within, rules)

pub string_end-requires : goal.string_end-requires
string_end-requires c = search (pair-name, rules)

pub after_sign-value-requires : goal.after_sign-value-requires
after_sign-value-requires c = search (pair-colon, rules)

pub string_end-requires-in-loop-next : goal.string_end-requires-in-loop-next
string_end-requires-in-loop-next c = search (pair-value, rules)

pub part_after-requires : goal.part_after-requires
part_after-requires c = search (pair-past, rules)

pub loop-next-smaller : goal.loop-next-smaller
loop-next-smaller c = search (pair-less, rules)

pub loop-next-preserved : goal.loop-next-preserved
loop-next-preserved c = search (pair-again, rules)

pub unwrap-requires : goal.unwrap-requires
unwrap-requires c = search (pair-first, rules)

pub unwrap-requires-in-Err : goal.unwrap-requires-in-Err
unwrap-requires-in-Err c = search (pair-second, rules)

pub returns-in-Err : goal.returns-in-Err
returns-in-Err c = search (pair-closed, rules)
