use Rattle.std.proofs.Common.{rules}
use Rattle.jsonexport.specs.Call.{export_ambiguous, export_short, export_room, export_written}
use Rattle.jsonexport.proofs.export_checked.Goals as goal

pub returns-then-not-all_clear : goal.returns-then-not-all_clear
returns-then-not-all_clear c = search (export_ambiguous, rules)

pub returns-then-out-size : goal.returns-then-out-size
returns-then-out-size c = search (export_short, rules)

pub put_lines-requires-clause-s_in_bounds : goal.put_lines-requires-clause-s_in_bounds
put_lines-requires-clause-s_in_bounds c = search (export_room, rules)

pub returns : goal.returns
returns c = search (export_written, rules)
