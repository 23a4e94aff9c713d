use Rattle.std.proofs.lemmas.Result.{err_from_is_err_and}
use Rattle.casewrite.proofs.Rules.{made-fits, made-long, made-tables, made_kept, made-is, write-refused, write-made}
use Rattle.casewrite.proofs.write.Goals as goal

pub slice_bounds-write_checked-end : goal.slice_bounds-write_checked-end
slice_bounds-write_checked-end c = made-fits c.make.ensures c.in_ok-size.was

pub slice_bounds-write_checked-end-2 : goal.slice_bounds-write_checked-end-2
slice_bounds-write_checked-end-2 c = made-long c.make.ensures c.in_ok-size.was

pub write_checked-requires-clause-s_value : goal.write_checked-requires-clause-s_value
write_checked-requires-clause-s_value c = made-tables c.make.ensures c.in_ok-size.was

pub write_checked-requires-clause-f_value : goal.write_checked-requires-clause-f_value
write_checked-requires-clause-f_value c = made_kept c.make.ensures c.in_ok-size.was

pub write_checked-requires-clause-f_value_2 : goal.write_checked-requires-clause-f_value_2
write_checked-requires-clause-f_value_2 c = made-is c.make.ensures c.in_ok-size.was

pub returns-in_err-size : goal.returns-in_err-size
returns-in_err-size c =
    let p = err_from_is_err_and c.from_residual.result c.from_residual.ensures.1 in
    rw (p.1, p.2) (write-refused c.make.ensures c.in_err-size.was)

pub returns : goal.returns
returns c = write-made c.make.ensures c.in_ok-size.was c.write_checked.ensures
