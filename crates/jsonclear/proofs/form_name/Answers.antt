use Rattle.jsonclear.specs.Laws.Names.{form_first, form_second}
use Rattle.jsonclear.proofs.form_name.Goals as goal

pub returns-then-eq : goal.returns-then-eq
returns-then-eq c = form_first _ _ c.eq.ensures c.as_slice.ensures c.if-eq.true

pub returns-else-eq : goal.returns-else-eq
returns-else-eq c = form_second _ _ _ c.eq.ensures c.as_slice.ensures c.if-eq.false c.eq-else-eq.ensures c.as_slice-else-eq.ensures
