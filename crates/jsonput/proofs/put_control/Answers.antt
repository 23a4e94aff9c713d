use Rattle.std.proofs.Common.{rules}
use Rattle.jsonput.specs.Laws.Strings.{control-room, low-room, control-put}
use Rattle.jsonput.proofs.put_control.Goals as goal

pub put_high-low-requires : goal.put_high-low-requires
put_high-low-requires c = search (control-room, rules)

pub put_byte-requires : goal.put_byte-requires
put_byte-requires c = search (low-room, rules)

pub returns : goal.returns
returns c = search (control-put, rules)
