use Rattle.std.proofs.Common.{rules, arith, ◌∙◌}
use Rattle.std.proofs.lemmas.Bool.Decides.{nat_tests}
use Rattle.std.proofs.lemmas.List.{length_push}
use Rattle.std.proofs.lemmas.Slice.Zip.{zip_turn, zip_end}
use Rattle.stringcheck.proofs.Orders.{order_unlike, order_same, order_ends}
use Rattle.stringcheck.proofs.bytes_before.Goals as goal

pub returns-then-p-q : goal.returns-then-p-q
returns-then-p-q c =
    let t = zip_turn c.args.x.now c.args.y.now c.loop-p.yielded _ c.loop-p.p-iterator c.next.new.self c.next.result (search rules) (search rules) c.loop-p.yielded_by (c.in-Some.p, c.in-Some.q) c.in-Some.is c.next.ensures.steps in
    let e = order_unlike _ _ _ c.loop-p.invariant t.0 t.1 (t.2 0) (t.3 0) c.if-p-q.true in
    grind (arith, nat_tests, e)

pub loop-p-preserved : goal.loop-p-preserved
loop-p-preserved c =
    let t = zip_turn c.args.x.now c.args.y.now c.loop-p.yielded _ c.loop-p.p-iterator c.next.new.self c.next.result (search rules) (search rules) c.loop-p.yielded_by (c.in-Some.p, c.in-Some.q) c.in-Some.is c.next.ensures.steps in
    order_same _ _ _ c.loop-p.invariant t.0 t.1 (t.2 0) (t.3 0) c.if-p-q.false (length_push c.loop-p.yielded (c.in-Some.p, c.in-Some.q))

pub returns : goal.returns
returns c =
    let e = zip_end c.args.x.now c.args.y.now c.loop-p.yielded _ c.loop-p.p-iterator c.next.new.self c.next.result (search rules) (search rules) c.loop-p.yielded_by c.in-None.is c.next.ensures.steps in
    order_ends _ _ e ∙ c.loop-p.invariant
