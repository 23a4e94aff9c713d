-- A decimal behind its sign, cut at the point
use Rattle.std.proofs.Common.{rules, tests, eqb}
use Rattle.std.proofs.lemmas.Iterator.{YieldsList-from_slice}
use Rattle.std.proofs.lemmas.Iterator.Search.{position_from_yields_List}
use Rattle.numbers.proofs.Scaling.{unsigned-none, unsigned-some}
use Rattle.numbers.proofs.decimals.read_unsigned.Goals as goal

pub returns-in_err-p : goal.returns-in_err-p
returns-in_err-p c =
    let e = position_from_yields_List (λ b. eqb b 46) _ _ c.position.result c.position.ensures.ran (YieldsList-from_slice c.args.s.now cc) (λ x b q k. search (rules, tests)) in
    rw c.from_residual.ensures (unsigned-none _ _ _ e c.in_err-p.was)

pub returns : goal.returns
returns c =
    let e = position_from_yields_List (λ b. eqb b 46) _ _ c.position.result c.position.ensures.ran (YieldsList-from_slice c.args.s.now cc) (λ x b q k. search (rules, tests)) in
    unsigned-some _ _ _ e _ _ c.in_ok-p.was c.scaled.ensures
