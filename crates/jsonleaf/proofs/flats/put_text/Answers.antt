use Rattle.std.proofs.Common.{rules}
use Rattle.jsonadds.proofs.Flats.{text-room, text-wrote}
use Rattle.std.proofs.Common.{rules}
use Rattle.jsonleaf.proofs.flats.put_text.Goals as goal

pub put_string-requires : goal.put_string-requires
put_string-requires c = search (text-room, rules)

pub returns : goal.returns
returns c = search (text-wrote, rules)
