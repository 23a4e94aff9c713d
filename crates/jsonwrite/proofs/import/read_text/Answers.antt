use Rattle.std.proofs.Common.{rules}
use Rattle.jsonwrite.proofs.Calls.{read-faulty, read_is, read-good}
use Rattle.jsonwrite.proofs.import.read_text.Goals as goal

pub write_good-requires : goal.write_good-requires
write_good-requires c = record { log_is = search (read_is, rules); text_len_bound = search rules }

pub returns-in-Err : goal.returns-in-Err
returns-in-Err c = search (read-faulty, rules)

pub returns-in-Ok : goal.returns-in-Ok
returns-in-Ok c = search (read-good, rules)
