use Rattle.std.proofs.Common.{ap, arith, rules}
use Rattle.writer.proofs.Bodies.{stage_none, stage_more, stage_fits, stage_starts, stage_all}
use Rattle.writer.proofs.write_case.Goals as goal

pub append-requires : goal.append-requires
append-requires c = stage_fits {w = c.start-w.result} c.requires (omega arith) (stage_none c.args.f.now (ap (λ r. r.now) c.start-w.ensures.lent) c.start-w.ensures.next)

pub append-requires-2 : goal.append-requires-2
append-requires-2 c = stage_fits c.requires (omega arith) (stage_more (stage_none c.args.f.now {w = c.start-w.result} (ap (λ r. r.now) c.start-w.ensures.lent) c.start-w.ensures.next) c.append.ensures.value)

pub append-requires-3 : goal.append-requires-3
append-requires-3 c = stage_fits c.requires (omega arith) (stage_more (stage_more (stage_none c.args.f.now {w = c.start-w.result} (ap (λ r. r.now) c.start-w.ensures.lent) c.start-w.ensures.next) c.append.ensures.value) c.append-2.ensures.value)

pub append-requires-4 : goal.append-requires-4
append-requires-4 c = stage_fits c.requires (omega arith) (stage_more (stage_more (stage_more (stage_none c.args.f.now {w = c.start-w.result} (ap (λ r. r.now) c.start-w.ensures.lent) c.start-w.ensures.next) c.append.ensures.value) c.append-2.ensures.value) c.append-3.ensures.value)

pub append-requires-5 : goal.append-requires-5
append-requires-5 c = stage_fits c.requires (omega arith) (stage_more (stage_more (stage_more (stage_more (stage_none c.args.f.now {w = c.start-w.result} (ap (λ r. r.now) c.start-w.ensures.lent) c.start-w.ensures.next) c.append.ensures.value) c.append-2.ensures.value) c.append-3.ensures.value) c.append-4.ensures.value)

pub append-requires-6 : goal.append-requires-6
append-requires-6 c = stage_fits c.requires (omega arith) (stage_more (stage_more (stage_more (stage_more (stage_more (stage_none c.args.f.now {w = c.start-w.result} (ap (λ r. r.now) c.start-w.ensures.lent) c.start-w.ensures.next) c.append.ensures.value) c.append-2.ensures.value) c.append-3.ensures.value) c.append-4.ensures.value) c.append-5.ensures.value)

pub append-requires-7 : goal.append-requires-7
append-requires-7 c = stage_fits c.requires (omega arith) (stage_more (stage_more (stage_more (stage_more (stage_more (stage_more (stage_none c.args.f.now {w = c.start-w.result} (ap (λ r. r.now) c.start-w.ensures.lent) c.start-w.ensures.next) c.append.ensures.value) c.append-2.ensures.value) c.append-3.ensures.value) c.append-4.ensures.value) c.append-5.ensures.value) c.append-6.ensures.value)

pub patch-requires : goal.patch-requires
patch-requires c = stage_starts c.requires (stage_more (stage_more (stage_more (stage_more (stage_more (stage_more (stage_more (stage_none c.args.f.now {w = c.start-w.result} (ap (λ r. r.now) c.start-w.ensures.lent) c.start-w.ensures.next) c.append.ensures.value) c.append-2.ensures.value) c.append-3.ensures.value) c.append-4.ensures.value) c.append-5.ensures.value) c.append-6.ensures.value) c.append-7.ensures.value)

pub returns : goal.returns
returns c = let e = stage_all c.requires (stage_more (stage_more (stage_more (stage_more (stage_more (stage_more (stage_more (stage_none c.args.f.now {w = c.start-w.result} (ap (λ r. r.now) c.start-w.ensures.lent) c.start-w.ensures.next) c.append.ensures.value) c.append-2.ensures.value) c.append-3.ensures.value) c.append-4.ensures.value) c.append-5.ensures.value) c.append-6.ensures.value) c.append-7.ensures.value) c.patch.ensures in search rules
