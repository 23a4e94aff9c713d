use Rattle.std.proofs.Common.{rules}
use Rattle.jsonroom.proofs.Records.{record_written}
use Rattle.jsonroom.proofs.put_record.Goals as goal

pub returns : goal.returns
returns c = search (record_written, rules)
