use Rattle.std.proofs.Common.{rules}
use Rattle.jsonadds.proofs.Flats.{flat-here, flat-text, flat-text-wrote, flat-other, flat-room, flat_good, flat-wrote}
use Rattle.jsonruns.proofs.Signs.{good-end}
use Rattle.jsonleaf.proofs.flats.write_scalar.Goals as goal

pub bounds-line-at : goal.bounds-line-at
bounds-line-at c = search (flat-here, rules)

pub write_text-requires : goal.write_text-requires
write_text-requires c = search (flat-text, rules)

pub returns-then-line-at-eq34 : goal.returns-then-line-at-eq34
returns-then-line-at-eq34 c = search (flat-text-wrote, rules)

pub flat_of-f-requires : goal.flat_of-f-requires
flat_of-f-requires c = search (flat-other, rules)

pub put_value-requires : goal.put_value-requires
put_value-requires c = search (flat-room, rules)

pub returns : goal.returns
returns c = flat-wrote c.requires c.flat_of-f.ensures (good-end (flat_good c.requires) c.scalar_at.ensures (search rules)) c.put_value.ensures
