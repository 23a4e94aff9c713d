use Rattle.std.proofs.Common.{rules}
use Rattle.jsonadds.proofs.Flats.{name-text, name-signed, name-wrote}
use Rattle.jsonleaf.proofs.flats.put_name.Goals as goal

pub put_text-end-requires : goal.put_text-end-requires
put_text-end-requires c = search (name-text, rules)

pub after_sign-requires : goal.after_sign-requires
after_sign-requires c = search (name-signed, rules)

pub returns : goal.returns
returns c = search (name-wrote, rules)
