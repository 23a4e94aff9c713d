use Rattle.joining.proofs.Guessing.{repeats-as}
use Rattle.std.proofs.lemmas.Bool.Decides.{Decides-eqb}
use Rattle.std.proofs.lemmas.Slice.Eq.{slice_eq-Decides}
use Rattle.joining.proofs.repeats.Goals as goal

pub returns-then-n-ne0 : goal.returns-then-n-ne0
returns-then-n-ne0 c = repeats-as c.requires.in_order c.if-n-ne0.true c.text_in.ensures (slice_eq-Decides Decides-eqb _ _ _ c.eq.ensures).0
