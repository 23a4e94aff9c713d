use Rattle.std.proofs.Common.{rules}
use Rattle.jsonadds.proofs.Flats.{string-word, string-due, string-room, string-wrote}
use Rattle.jsonleaf.proofs.flats.write_text.Goals as goal

pub narrow-string-requires : goal.narrow-string-requires
narrow-string-requires c = search (string-word, rules)

pub put_text-end-requires : goal.put_text-end-requires
put_text-end-requires c = search (string-due, rules)

pub put_value-requires : goal.put_value-requires
put_value-requires c = search (string-room, rules)

pub returns : goal.returns
returns c = search (string-wrote, rules)
