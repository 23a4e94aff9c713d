use Rattle.std.proofs.Common.{rules}
use Rattle.jsonentities.proofs.Naming.{named-text, named-room, named-wrote}
use Rattle.jsonentities.proofs.keys.put_named.Goals as goal

pub put_text-end-requires : goal.put_text-end-requires
put_text-end-requires c = search (named-text, rules)

pub put_list-requires : goal.put_list-requires
put_list-requires c = search (named-room, rules)

pub returns : goal.returns
returns c = search (named-wrote, rules)
