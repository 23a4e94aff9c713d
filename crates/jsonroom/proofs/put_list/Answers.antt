use Rattle.std.proofs.Common.{rules}
use Rattle.jsonroom.proofs.Records.{list_put}
use Rattle.jsonroom.proofs.put_list.Goals as goal

pub returns : goal.returns
returns c = search (list_put, rules)
