use Rattle.std.proofs.Common.{rules}
use Rattle.jsonread.proofs.Spelling.{char_below}
use Rattle.jsonspelt.proofs.Going.{put-start, put-end, put-quote, put_wrong, put-escape, put-plain, byte-room, character-room, escape-shorter, fits-within}
use Rattle.jsonspelt.proofs.put_spelt.Goals as goal

pub overflow_add-i : goal.overflow_add-i
overflow_add-i c = search (fits-within, rules)

pub loop-i-init : goal.loop-i-init
loop-i-init c = search (put-start, rules)

pub returns-in-34 : goal.returns-in-34
returns-in-34 c = search (put-quote, rules)

pub returns-in_default-escape_at : goal.returns-in_default-escape_at
returns-in_default-escape_at c = search (put_wrong, rules)

pub put_character-k-requires : goal.put_character-k-requires
put_character-k-requires c = search (char_below, character-room, rules)

pub loop-i-smaller-in-92 : goal.loop-i-smaller-in-92
loop-i-smaller-in-92 c = search (escape-shorter, rules)

pub loop-i-preserved-in-92 : goal.loop-i-preserved-in-92
loop-i-preserved-in-92 c = search (put-escape, rules)

pub bounds-out-k : goal.bounds-out-k
bounds-out-k c = search (byte-room, rules)

pub loop-i-preserved : goal.loop-i-preserved
loop-i-preserved c = search (put-plain, rules)

pub returns : goal.returns
returns c = search (put-end, rules)
